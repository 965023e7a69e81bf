-- Laws of an entry's two marks, each put while the other stays. No contract cites this file. Assumes nothing.
use Prim.Native.Nat.{ℕ, ◌+◌, ◌*◌, ◌/◌, ◌%◌, ◌≤◌}
use native.Mathlib.Omega.{arith}
use mathlib.Core.Path.{◌≡◌, refl, ap}
use mathlib.Core.Bool.{Bool, true, false, cond}
use lib.Dec.{eqb}
use mir.Val.{bool_byte}
use Rattle.bits.specs.Bits.{bit, put_bit}
use Rattle.rgb15.specs.Colour.{rgb}
use Rattle.obj_entries.specs.declared.Entry.{Entry}
use Rattle.obj.specs.Put.{shown_by}

-- The semi-transparent mark.
pub semi_put_same : (t : Bool) (marks : ℕ) → bit 0 (put_bit 0 t marks) ≡ t
semi_put_same true marks = let mark : (marks / 2 * 2 + 1 + marks % 1) / 1 % 2 ≡ 1 = omega arith in ap (λ n. eqb n 1) mark
semi_put_same false marks = let mark : (marks / 2 * 2 + 0 + marks % 1) / 1 % 2 ≡ 0 = omega arith in ap (λ n. eqb n 1) mark

pub semi_put-other : (marks : ℕ) → bit 0 (put_bit 1 true marks) ≡ bit 0 marks
semi_put-other marks =
    let mark : (marks / 4 * 4 + 2 + marks % 2) / 1 % 2 ≡ marks / 1 % 2 = omega arith in ap (λ n. eqb n 1) mark

-- The window mark.
pub window_put_same : (marks : ℕ) → bit 1 (put_bit 1 true marks) ≡ true
window_put_same marks = let mark : (marks / 4 * 4 + 2 + marks % 2) / 2 % 2 ≡ 1 = omega arith in ap (λ n. eqb n 1) mark

pub window_put-other : (t : Bool) (marks : ℕ) → bit 1 (put_bit 0 t marks) ≡ bit 1 marks
window_put-other true marks =
    let half : (marks / 2 * 2 + 1 + marks % 1) / 2 ≡ marks / 2 = omega arith in ap (λ n. eqb (n % 2) 1) half
window_put-other false marks =
    let half : (marks / 2 * 2 + 0 + marks % 1) / 2 ≡ marks / 2 = omega arith in ap (λ n. eqb (n % 2) 1) half

-- No third mark is set.
pub semi_put_bound : (t : Bool) (marks : ℕ) → marks ≤ 3 → put_bit 0 t marks ≤ 3
semi_put_bound true marks marks≤ = omega arith
semi_put_bound false marks marks≤ = omega arith

-- A bool's number, as code adds it.
pub number_is : (t : Bool) → bool_byte t ≡ cond t 1 0
number_is true = refl
number_is false = refl

pub number_bound : (t : Bool) → bool_byte t ≤ 1
number_bound true = omega arith
number_bound false = omega arith

-- An entry made with the mark put.
pub shown_by_made : (semi : Bool) (priority color : ℕ) (e : Entry) {marks : ℕ} → marks ≡ put_bit 0 semi e.marks
    → record { color = rgb color; priority = priority; marks = marks } ≡ shown_by semi priority color e
unfolding shown_by
shown_by_made semi priority color e marks-is =
    ap (λ marks. record { color = rgb color; priority = priority; marks = marks }) marks-is
