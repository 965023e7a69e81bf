-- What the line-end step on a pair of records gives (01, "Numbers a draw may return", its last paragraph; "What must change
-- shape": of a `BgAffine` only `internal_x` and `internal_y` are stepped, and only they are judged). Assumes nothing.
use Rattle.std.specs.Prelude.{ℕ, ◌≡◌, ℤ}
use Rattle.bg_points.specs.declared.references.References.{References}
use Rattle.gpu_step.specs.declared.Steps.{Steps}
use Rattle.gpu_step.specs.Step.{stepped, step_number, references_after}
use Rattle.gpu_records.specs.declared.affine.BgAffine.{BgAffine}

-- pb and pd of both backgrounds.
abbrev pub steps_of : BgAffine → BgAffine → Steps
steps_of bg2 bg3 = record { pb2 = bg2.pb; pd2 = bg2.pd; pb3 = bg3.pb; pd3 = bg3.pd }

-- The four reference numbers that are judged and stepped.
abbrev pub references_of : BgAffine → BgAffine → References
references_of bg2 bg3 =
    record { x2 = bg2.internal_x; y2 = bg2.internal_y; x3 = bg3.internal_x; y3 = bg3.internal_y }

-- The background with its point at x and y; all other fields stay.
unfoldable pub moved_to : BgAffine → ℤ → ℤ → BgAffine
moved_to bg x y =
    record {
      pa = bg.pa;
      pb = bg.pb;
      pc = bg.pc;
      pd = bg.pd;
      x = bg.x;
      y = bg.y;
      internal_x = x;
      internal_y = y;
    }

-- What the step gives: its number, and both backgrounds afterwards.
pub record PairStep : Type 0 where
  pub number : ℕ
  pub bg2 : BgAffine
  pub bg3 : BgAffine

-- What the step gives: the number of the step on numbers, and both backgrounds at its four.
unfoldable pub step_records : BgAffine → BgAffine → PairStep
step_records bg2 bg3 =
    let answer = stepped (steps_of bg2 bg3) (references_of bg2 bg3) in
    let to = references_after answer (references_of bg2 bg3) in
    record { number = step_number answer; bg2 = moved_to bg2 to.x2 to.y2; bg3 = moved_to bg3 to.x3 to.y3 }

-- The step gives the number and leaves the records: its whole contract.
abbrev pub StepsRecords : BgAffine → BgAffine → ℕ → BgAffine → BgAffine → Type 0
StepsRecords bg2 bg3 number left2 left3 = record { number = number; bg2 = left2; bg3 = left3 } ≡ step_records bg2 bg3
