-- No second reason fits a column. No contract cites this file. Assumes nothing.
use Prim.Native.Nat.{ℕ}
use mathlib.Core.Path.{◌≡◌, refl, sym, ap, ◌∙◌}
use mathlib.Core.Bool.{Bool, true, false, true≢false}
use mathlib.Core.Logic.{◌≢◌}
use lib.Dec.{eqb}
use borrow.Author.Tests.{eqb-true, eqb-false}
use Rattle.explain.specs.declared.Reason.{Reason}
use Rattle.thm_explain.specs.Fits.{Column, region_flags, layer_color, in_front, Top, Bottom, under, alone}
use Rattle.thm_explain.specs.Fits.{top_weight, other_weight, worked_out, FitsShown, Fits, blank, shown}
use Rattle.thm_explain.proofs.Regions.{region_once}
use Rattle.thm_explain.proofs.Fronts.{front_once}
use Rattle.thm_explain.proofs.Effects.{effect_once}

-- ---- top and bottom

module _ (k : Column) (flags : ℕ) where
  -- Two layers of which each is in front of the other unless it is the other.
  same_front : (m n : ℕ) → (n ≢ m → in_front k m n ≡ true) → (m ≢ n → in_front k n m ≡ true) → m ≡ n
  same_front m n f g = go (eqb m n) refl
    where
      go : (t : Bool) → eqb m n ≡ t → m ≡ n
      go true t = eqb-true m n t
      go false t = absurd (front_once k m n (f (λ e. eqb-false m n t (sym e))) (g (eqb-false m n t)))

  top_once : {m n : ℕ} → Top k flags m → Top k flags n → m ≡ n
  top_once {m} {n} s t = same_front m n (s.first n t.shows) (t.first m s.shows)

  bottom_once : {top m n : ℕ} → Bottom k flags top m → Bottom k flags top n → m ≡ n
  bottom_once (under m some s s-other s-first) (under n also t t-other t-first) =
      same_front m n (s-first n t t-other) (t-first m s s-other)
  bottom_once (under m some s s-other s-first) (alone none) = absurd (some none)
  bottom_once (alone none) (under n some t t-other t-first) = absurd (some none)
  bottom_once (alone none) (alone also) = refl

-- ---- two reasons that fit, field by field

module _ (k : Column) {r s : Reason} (f : FitsShown k r) (g : FitsShown k s) where
  region_same : r.region ≡ s.region
  region_same = region_once k f.region_fits ∙ sym (region_once k g.region_fits)

  abbrev flags_here : ℕ
  flags_here = region_flags k s.region

  top_same : r.top ≡ s.top
  top_same = top_once k flags_here (rw region_same at f.top_fits) g.top_fits

  bottom_same : r.bottom ≡ s.bottom
  bottom_same = bottom_once k flags_here (rw (region_same, top_same) at f.bottom_fits) g.bottom_fits

  effect_same : r.effect ≡ s.effect
  effect_same =
      effect_once k flags_here s.top s.bottom (rw (region_same, top_same, bottom_same) at f.effect_fits)
      ∙ sym (effect_once k flags_here s.top s.bottom g.effect_fits)

  blank_same : r.blank ≡ s.blank
  blank_same = f.blank_is ∙ sym g.blank_is

  top-color-same : r.top_color ≡ s.top_color
  top-color-same = f.top_color_is ∙ ap (layer_color k) top_same ∙ sym g.top_color_is

  bottom_color_same : r.bottom_color ≡ s.bottom_color
  bottom_color_same = f.bottom_color_is ∙ ap (layer_color k) bottom_same ∙ sym g.bottom_color_is

  first_weight_same : r.first_weight ≡ s.first_weight
  first_weight_same = f.first_weight_is ∙ ap (top_weight k) effect_same ∙ sym g.first_weight_is

  second_weight_same : r.second_weight ≡ s.second_weight
  second_weight_same = f.second_weight_is ∙ ap (other_weight k) effect_same ∙ sym g.second_weight_is

  worked_out_same : worked_out r ≡ worked_out s
  unfolding worked_out
  worked_out_same =
      rw (blank_same, effect_same, top-color-same, bottom_color_same, first_weight_same, second_weight_same)

  pixel_same : r.pixel ≡ s.pixel
  pixel_same = f.pixel_is ∙ worked_out_same ∙ sym g.pixel_is

  number_same : r.number ≡ s.number
  number_same = f.number_is ∙ sym g.number_is

  -- They are the same.
  shown_once : r ≡ s
  shown_once = λ i.
      record {
        number = number_same i;
        blank = blank_same i;
        region = region_same i;
        top = top_same i;
        bottom = bottom_same i;
        effect = effect_same i;
        top_color = top-color-same i;
        bottom_color = bottom_color_same i;
        first_weight = first_weight_same i;
        second_weight = second_weight_same i;
        pixel = pixel_same i;
      }

-- With forced blank or without.
pub fits_once : (k : Column) {r s : Reason} → Fits k r → Fits k s → r ≡ s
fits_once k (blank on r-is) (blank also s-is) = r-is ∙ sym s-is
fits_once k (blank on r-is) (shown off g) = absurd (true≢false (sym on ∙ off))
fits_once k (shown off f) (blank on s-is) = absurd (true≢false (sym on ∙ off))
fits_once k (shown off f) (shown also g) = shown_once k f g
