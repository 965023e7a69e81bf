-- Laws of a tile's row of colours. No contract cites this file. Assumes nothing.
use Prim.Native.Nat.{ℕ, ◌<◌}
use native.Mathlib.Omega.{arith}
use mathlib.Core.Path.{◌≡◌, ◌∙◌}
use mathlib.Core.Bool.{Bool, true, false}
use mathlib.Core.List.{List}
use lib.ListN.{get_or}
use Rattle.rows.specs.Tab.{tab}
use Rattle.rows.proofs.Tab.{get_or-of-tab, tab_cong}
use Rattle.tiles.specs.Flip.{flip}

pub flip_bound : (set : Bool) (side at : ℕ) → at < side → flip set side at < side
unfolding flip
flip_bound true side at at< = omega arith
flip_bound false side at at< = at<

-- The row of a tile as it was made, and then flipped or not.
pub flipped_tab : {A : Type 0} (f : ℕ → A) (set : Bool) (d : A) {row shown : List A} → row ≡ tab f 8
    → shown ≡ tab (λ x. get_or row (flip set 8 x) d) 8 → shown ≡ tab (λ x. f (flip set 8 x)) 8
flipped_tab f set d row-is shown-is =
    shown-is ∙ tab_cong _ _ 8 (λ x x<. get_or-of-tab f 8 (flip set 8 x) d row-is (flip_bound set 8 x x<))
