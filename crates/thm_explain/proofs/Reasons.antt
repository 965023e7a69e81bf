-- The reason of a column's case fits. No contract cites this file. Assumes nothing.
use Prim.Native.Nat.{◌≤◌, ◌<◌}
use mathlib.Core.Path.{◌≡◌, refl, sym}
use mathlib.Core.Bool.{true, false}
use borrow.Author.Tests.{eqb-false}
use Rattle.rgb15.specs.Colour.{is_transparent, transparent}
use Rattle.rows.proofs.Below.{all_below_at}
use Rattle.regs.specs.Reading.{reading_of}
use Rattle.obj_entries.specs.Entry.{shaped_row}
use Rattle.obj_entries.specs.declared.Entry.{Entry}
use Rattle.obj_entries.proofs.Shapes.{Shape, shape-well_shaped}
use Rattle.sfx_regions.specs.Region.{permitted}
use Rattle.sfx.specs.Pixel.{Case, case_in, case_of}
use Rattle.explain.specs.Reason.{case_reason}
use Rattle.explain.specs.Explain.{case_at}
use Rattle.explain.specs.declared.Reason.{Reason}
use Rattle.thm_explain.specs.Fits.{Column, registers_of, entry_of, layer_color, layer_priority}
use Rattle.thm_explain.specs.Fits.{FitsShown}
use Rattle.thm_explain.proofs.Regions.{region_at, region_fits, flags-region}
use Rattle.thm_explain.proofs.Tops.{pair_fits, layers_here}
use Rattle.thm_explain.proofs.Effects.{effect_fits, top_weight-effect, other_weight-effect}
use Rattle.thm_explain.proofs.Colors.{worked_out_case}

-- An opaque object of a well-shaped entry has a priority of at most 3.
shape_low : (e : Entry) → Shape e → is_transparent e.color.0 ≡ false → e.priority ≤ 3
shape_low e (Shape.blank marks≤ priority_is color_is semi_is) opaque =
    absurd (eqb-false e.color.0 transparent opaque color_is)
shape_low e (Shape.shown marks≤ priority≤ color≤) opaque = priority≤

module _ (k : Column) where
  entry_low : shaped_row k.after ≡ true → k.at < 240 → is_transparent (layer_color k 4) ≡ false → layer_priority k 4 ≤ 3
  entry_low shaped at< = shape_low (entry_of k) (shape-well_shaped (entry_of k) (all_below_at _ 240 shaped k.at at<))

  -- The column's case.
  abbrev case_here : Case
  case_here = case_at k.call k.after k.at

  -- Its reason.
  abbrev reason_here : Reason
  reason_here = case_reason (reading_of k.call.reading) (registers_of k) case_here

  pub reason_fits : shaped_row k.after ≡ true → k.at < 240 → FitsShown k reason_here
  unfolding case_reason case_of case_in
  reason_fits shaped at< =
      let flags = permitted (registers_of k) (region_at k) in
      let fits = pair_fits k flags (entry_low shaped at<) in
      let flags_are = flags-region k (region_at k) in
      record {
        number_is = refl;
        blank_is = refl;
        region_fits = region_fits k;
        top_fits = rw flags_are fits.top_fits;
        bottom_fits = rw flags_are fits.bottom_fits;
        effect_fits = rw flags_are (effect_fits k flags (layers_here k flags));
        top_color_is = fits.top-color;
        bottom_color_is = fits.bottom_color;
        first_weight_is = top_weight-effect k case_here.effect;
        second_weight_is = other_weight-effect k case_here.effect;
        pixel_is = sym (worked_out_case _ _ case_here);
      }
