-- Laws of four reference numbers. No contract cites this file. Assumes nothing.
use mathlib.Core.Path.{◌≡◌}
use mathlib.Core.Bool.{true, ◌&&◌}
use Rattle.signed.specs.Signed.{in_range}
use Rattle.bits.proofs.Booleans.{and_both}
use Rattle.bg_points.specs.References.{in_ranges}
use Rattle.bg_points.specs.declared.references.References.{References}

-- Each of four reference numbers is in range.
pub record AllInRange (r : References) : Type 0 where
  pub x2_in : in_range r.x2 ≡ true
  pub y2_in : in_range r.y2 ≡ true
  pub x3_in : in_range r.x3 ≡ true
  pub y3_in : in_range r.y3 ≡ true

pub ranges_true : (r : References) → in_ranges r ≡ true → AllInRange r
unfolding in_ranges
ranges_true r h =
    let three = and_both (in_range r.x2 && in_range r.y2 && in_range r.x3) (in_range r.y3) h in
    let two = and_both (in_range r.x2 && in_range r.y2) (in_range r.x3) three.0 in
    let one = and_both (in_range r.x2) (in_range r.y2) two.0 in
    record { x2_in = one.0; y2_in = one.1; x3_in = two.1; y3_in = three.1 }
