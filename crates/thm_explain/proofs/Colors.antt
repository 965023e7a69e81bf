-- The colour worked out from a reason is the drawn one. No contract cites this file. Assumes nothing.
use Prim.Native.Nat.{ℕ}
use mathlib.Core.Path.{◌≡◌, refl, sym, ap, ◌∙◌}
use mathlib.Core.Bool.{Bool, true, false, cond}
use mathlib.Core.List.{List}
use Rattle.rgb15.specs.Colour.{to_rgb24}
use Rattle.regs.specs.Reading.{reading_of}
use Rattle.regs.specs.declared.reading.Reading.{Reading}
use Rattle.sfx.specs.Pixel.{Case, case_color, pixel}
use Rattle.gpu_judge.specs.Judge.{Call}
use Rattle.gpu.specs.Line.{entries_after, pixel_at}
use Rattle.explain_effects.proofs.Weighed.{weighed-color}
use Rattle.explain.specs.Reason.{blank_reason, case_reason}
use Rattle.explain.specs.Explain.{case_at}
use Rattle.explain.specs.declared.Reason.{Reason}
use Rattle.explain.proofs.Numbers.{is_blank, reason_shown}
use Rattle.thm_explain.specs.Fits.{Column, worked_out, Fits, blank, shown}
use Rattle.thm_explain.proofs.Effects.{toward-effect}
use Rattle.thm_explain.proofs.Numbers.{drawn_at}

worked_out-blank : worked_out blank_reason ≡ 0xf8f8f8
unfolding worked_out
worked_out-blank = refl

pub worked_out_case : (reading : Reading) (registers : List ℕ) (c : Case)
    → worked_out (case_reason reading registers c) ≡ to_rgb24 (case_color reading registers c)
unfolding worked_out case_reason case_color
worked_out_case reading registers c =
    rw (toward-effect c.effect c.pair.bottom.color)
    (weighed-color reading registers c.effect c.pair.top.color c.pair.bottom.color)

-- With forced blank and without.
pub worked_out_shown : (c : Call) (entries : List ℕ) (column : ℕ)
    → worked_out (reason_shown c entries column) ≡ drawn_at c entries column
unfolding pixel_at pixel
worked_out_shown c entries column =
    go (is_blank c) _ _ (worked_out_case (reading_of c.reading) _ (case_at c (entries_after c entries) column))
  where
    go : (t : Bool) (r : Reason) (drawn : ℕ) → worked_out r ≡ drawn → worked_out (cond t blank_reason r) ≡ cond t 0xf8f8f8 drawn
    go true r drawn e = worked_out-blank
    go false r drawn e = e

-- A reason that fits names the pixel that is worked out from it.
pub pixel_fits : (k : Column) {r : Reason} → Fits k r → r.pixel ≡ worked_out r
pixel_fits k (blank on r-is) = ap (λ (s : Reason). s.pixel) r-is ∙ sym worked_out-blank ∙ sym (ap worked_out r-is)
pixel_fits k (shown off f) = f.pixel_is
