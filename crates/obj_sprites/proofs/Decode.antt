-- Laws of decoded sprites. No contract cites this file. Assumes nothing.
use Prim.Native.Nat.{ℕ, ◌+◌, ◌*◌, ◌/◌, ◌%◌, ◌^◌, ◌≤◌, ◌<◌}
use native.Mathlib.Omega.{arith}
use mathlib.Core.Path.{◌≡◌, refl, sym, ap, ap₂, ◌∙◌}
use mathlib.Core.Bool.{Bool, true, ◌&&◌}
use mathlib.Core.List.{[], map}
use lib.ListN.{get_or, get_or-map}
use lib.Dec.{eqb, leb}
use lib.IntN.{sub_ℕ}
use borrow.Author.Tests.{eqb-true, leb-true}
use Rattle.bits.specs.Bits.{bits}
use Rattle.signed.specs.Signed.{signed16}
use Rattle.bits.proofs.Booleans.{and_both}
use Rattle.rows.specs.Below.{all_below}
use Rattle.rows.proofs.Below.{all_below_at}
use Rattle.obj_sprites.specs.Oam.{Attributes}
use Rattle.obj_sprites.specs.Size.{obj_sizes, obj_size, obj_width, obj_height}
use Rattle.obj_sprites.specs.Attrs.{obj_attrs}
use Rattle.obj_sprites.specs.Code.{SizeOf}
use Rattle.obj_sprites.specs.declared.attrs.ObjAttrs.{ObjAttrs}
use Rattle.obj_sprites.specs.declared.attrs.Size.{Size}

-- A halfword that was read and lifted.
pub signed16-read : (w h r : ℕ) → h ≡ w → signed16 h ≡ sub_ℕ r (2 ^ 15) → signed16 w ≡ sub_ℕ r (2 ^ 15)
signed16-read w h r e p = ap signed16 (sym e) ∙ p

-- A sprite's priority is 0 to 3.
pub priority_bound : (a : Attributes) → (obj_attrs a).priority ≤ 3
unfolding obj_attrs
priority_bound a = omega arith

-- ---- sizes

-- A test of the whole table holds of each size and shape.
cells : (test : ℕ → ℕ → Bool) → all_below (λ n. test (n / 4) (n % 4)) 16 ≡ true → (size shape : ℕ)
    → (size < 4) × (shape < 4)
    → test size shape ≡ true
cells test all size shape small =
    let n = 4 * size + shape in
    let row : n / 4 ≡ size = omega arith in
    let column : n % 4 ≡ shape = omega arith in
    sym (ap₂ test row column) ∙ all_below_at _ 16 all n (omega arith)

unfoldable fits : ℕ → ℕ → Bool
fits size shape =
    leb (obj_width size shape) 64 && leb (obj_height size shape) 64 && eqb (obj_width size shape % 8) 0

all_fit : all_below (λ n. fits (n / 4) (n % 4)) 16 ≡ true
unfolding fits obj_width obj_height obj_size obj_sizes all_below
all_fit = refl

-- No side is above 64, and every width is one of whole tiles.
size_fits : (size shape : ℕ) → (size < 4) × (shape < 4)
    → (obj_width size shape ≤ 64) × (obj_height size shape ≤ 64) × (obj_width size shape % 8 ≡ 0)
unfolding fits
size_fits size shape small =
    let all = and_both _ _ (cells fits all_fit size shape small) in
    let sides = and_both _ _ all.0 in
    (leb-true _ _ sides.0, leb-true _ _ sides.1, eqb-true _ _ all.1)

-- A cell as code has it.
unfoldable pub cell : ℕ × ℕ → Size
cell sides = record { 0 = sides.0; 1 = sides.1 }

-- What is read of the code's table, which is the definition's.
pub size_is : (size shape : ℕ) → (size < 4) × (shape < 4)
    → SizeOf size shape (get_or (get_or (map (map cell) obj_sizes) size []) shape (cell (0, 0)))
unfolding obj_width obj_height obj_size cell
size_is size shape small =
    let row_is = get_or-map (map cell) obj_sizes size [] in
    let is = ap (λ row. get_or row shape (cell (0, 0))) row_is ∙ get_or-map cell (get_or obj_sizes size []) shape (0, 0) in
    let bounds = size_fits size shape small in
    record {
      width_is = ap (λ r. r.0) is;
      height_is = ap (λ r. r.1) is;
      width≤ = omega (arith, ap (λ r. r.0) is, bounds.0);
      height≤ = omega (arith, ap (λ r. r.1) is, bounds.1);
    }

-- A sprite is at most 64 lines high.
pub height_bound : (a : Attributes) → (obj_attrs a).height ≤ 64
unfolding obj_attrs
height_bound a =
    let size = bits 15 14 a.second in
    let shape = bits 15 14 a.first in
    (size_fits size shape (omega arith, omega arith)).1

-- A sprite's rows are whole tiles.
pub width_whole : (a : Attributes) {s : ObjAttrs} → s ≡ obj_attrs a → s.width % 8 ≡ 0
unfolding obj_attrs
width_whole a s-is =
    let size = bits 15 14 a.second in
    let shape = bits 15 14 a.first in
    ap (λ s. s.width % 8) s-is ∙ (size_fits size shape (omega arith, omega arith)).2
