-- Laws of where sprites lie, by naturals: the box's left edge is l less 272, and its top is t less 96. No contract cites
-- this file. Assumes nothing.
use Prim.Native.Nat.{ℕ, suc, ◌+◌, ◌-◌, ◌%◌, ◌≤◌, ◌<◌, min}
use native.Mathlib.Omega.{arith}
use mathlib.Core.Path.{◌≡◌, refl, sym, ap, ap₂, ◌∙◌}
use mathlib.Core.Bool.{Bool, true, false, cond, ◌&&◌}
use lib.Dec.{ltb}
use lib.IntN.{pos, sub_ℕ, ◌-ℤ◌}
use borrow.Author.Tests.{leb-true, ltb-true, ltb-false}
use Rattle.signed.specs.Signed.{within}
use Rattle.signed.proofs.Difference.{up, subℕ-view, subℕ-cross, sub-pos-subℕ}
use Rattle.bits.proofs.Booleans.{and_both, leb_same}
use Rattle.signed.proofs.Remainder.{within-subℕ}
use Rattle.rows.specs.Below.{between}
use Rattle.regs.specs.declared.reading.Reading.{Reading}
use Rattle.obj_sprites.specs.Place.{x_of, y_of, boxed, box_height, left, top, across, below, on_line}
use Rattle.obj_sprites.specs.declared.attrs.ObjAttrs.{ObjAttrs}
use Rattle.obj_sprites.specs.declared.attrs.ObjType.{ObjType}

-- A place that wraps: r is what it is plus a bias, without the carry.
lifted : (v limit size bias r : ℕ) → (v < limit → r ≡ bias + v) → (limit ≤ v → r + size ≡ bias + v)
    → cond (ltb v limit) (pos v) (sub_ℕ v size) ≡ sub_ℕ r bias
lifted v limit size bias r low high = go (ltb v limit) refl
  where
    go : (t : Bool) → ltb v limit ≡ t → cond t (pos v) (sub_ℕ v size) ≡ sub_ℕ r bias
    go true t = sym (subℕ-view r bias (up v (omega (arith, low (ltb-true v limit t)))))
    go false t = subℕ-cross v size r bias (omega (arith, high (ltb-false v limit t)))

pub x_of_lifted : (x : ℕ) → x ≤ 511 → x_of x ≡ sub_ℕ ((x + 272) % 512) 272
unfolding x_of
x_of_lifted x x≤ = lifted x 240 512 272 ((x + 272) % 512) (λ h. omega arith) (λ h. omega arith)

pub y_of_lifted : (y : ℕ) → y ≤ 255 → y_of y ≡ sub_ℕ ((y + 96) % 256) 96
unfolding y_of
y_of_lifted y y≤ = lifted y 160 256 96 ((y + 96) % 256) (λ h. omega arith) (λ h. omega arith)

-- A number from bias on is what it is above it.
pub subℕ-above : (r bias : ℕ) → bias ≤ r → sub_ℕ r bias ≡ pos (r - bias)
subℕ-above r bias h = subℕ-view r bias (up (r - bias) (omega arith))

-- What lies in 0 .. m - 1 lies from the bias on and before m past it.
pub within_bounds : (r bias m : ℕ) → within (sub_ℕ r bias) m ≡ true → (bias ≤ r) × (r < bias + m)
within_bounds r bias m e =
    let both = and_both _ _ (sym (within-subℕ r bias m) ∙ e) in
    (leb-true bias r both.0, ltb-true r (bias + m) both.1)

-- The box of a normal sprite has its own size.
pub boxed_normal : {type : ObjType} (side : ℕ) → type ≡ ObjType.Normal → boxed type side ≡ side
unfolding boxed
boxed_normal side e = rw e

-- No box has a side of more than 128.
pub boxed_bound : (type : ObjType) (side : ℕ) → side ≤ 64 → boxed type side ≤ 128
unfolding boxed
boxed_bound ObjType.Normal side side≤ = omega arith
boxed_bound ObjType.Affine side side≤ = omega arith
boxed_bound ObjType.Hidden side side≤ = omega arith
boxed_bound ObjType.AffineDoubleSize side side≤ = omega arith

-- Of the screen's columns a box covers those from its first up to its end.
pub between-within : (l width column : ℕ) {start end : ℕ} → column < 240 → start ≡ l - 272 → end ≡ min 240 (l + width - 272)
    → between start end column ≡ within (sub_ℕ (column + 272) l) width
unfolding between
between-within l width column {start} {end} column< start_is end_is =
    ap₂ ◌&&◌
    (leb_same start column l (column + 272) (λ h. omega arith) (λ h. omega arith))
    (leb_same (suc column) end (suc (column + 272)) (l + width) (λ h. omega arith) (λ h. omega arith))
    ∙ sym (within-subℕ (column + 272) l width)

module _ (reading : Reading) (s : ObjAttrs) where
  module _ (l : ℕ) (left_is : left reading s ≡ sub_ℕ l 272) where
    pub across_is : (column : ℕ) → across reading s column ≡ sub_ℕ (column + 272) l
    across_is column = ap (λ z. pos column -ℤ z) left_is ∙ sub-pos-subℕ column l 272

    -- A column from the box's left edge on.
    pub across_above : (column : ℕ) → l ≤ column + 272 → across reading s column ≡ pos (column + 272 - l)
    across_above column h = across_is column ∙ subℕ-above (column + 272) l h

    -- So by the sprite's own place.
    pub across-between : (width column : ℕ) {start end : ℕ} → column < 240
        → start ≡ l - 272 → end ≡ min 240 (l + width - 272)
        → between start end column ≡ within (across reading s column) width
    across-between width column column< start_is end_is =
        between-within l width column column< start_is end_is ∙ sym (ap (λ z. within z width) (across_is column))

  module _ (t : ℕ) (top_is : top reading s ≡ sub_ℕ t 96) where
    pub below_is : (line : ℕ) → below reading s line ≡ sub_ℕ (line + 96) t
    below_is line = ap (λ z. pos line -ℤ z) top_is ∙ sub-pos-subℕ line t 96

    -- A line in the box lies from its top on and before its end.
    pub on_line_bounds : (line : ℕ) → on_line reading s line ≡ true
        → (t ≤ line + 96) × (line + 96 < t + box_height s)
    unfolding on_line
    on_line_bounds line e =
        within_bounds (line + 96) t (box_height s) (ap (λ z. within z (box_height s)) (sym (below_is line)) ∙ e)

    pub below_above : (line : ℕ) → t ≤ line + 96 → below reading s line ≡ pos (line + 96 - t)
    below_above line h = below_is line ∙ subℕ-above (line + 96) t h
