-- Integers as differences of naturals: equality, sums, products. No contract cites this file. Assumes nothing.
-- A law's name ends in the case: -pos and -negsuc by the sign of the other number, -zero and -cross (sums across) by what is known.
use mathlib.Core.Path.{◌≡◌, refl, sym, ap, ◌∙◌}
use mathlib.Core.Bool.{Bool, true, false}
use Prim.Native.Nat.{ℕ, zero, suc, ◌+◌, ◌-◌, ◌*◌}
use native.Mathlib.Nat.{mul-add, add-mul}
use native.Mathlib.Omega.{arith}
use lib.Dec.{ltb}
use lib.IntN.{ℤ, pos, negsuc, neg_ℤ, sub_ℕ, ◌+ℤ◌, ◌-ℤ◌, ◌*ℤ◌, *ℤ_comm, *ℤ-negsuc}
use borrow.Author.Tests.{ltb-true, ltb-false, lt-ltb, le-ltb}

-- A number z that is a less b, by its sign.
pub data View (a b : ℕ) : ℤ → Type 0 where
  up : (k : ℕ) → a ≡ b + k → View a b (pos k)
  down : (k : ℕ) → b ≡ a + suc k → View a b (negsuc k)

-- Such a number is the difference.
pub subℕ-view : (a b : ℕ) {z : ℤ} → View a b z → sub_ℕ a b ≡ z
subℕ-view a b (up k p) =
    let d : a - b ≡ k = omega arith in
    rw (le-ltb a b (omega arith), d)
subℕ-view a b (down k p) =
    let d : b - suc a ≡ k = omega arith in
    rw (lt-ltb a b (omega arith), d)

view_test : (a b : ℕ) (t : Bool) → ltb a b ≡ t → View a b (sub_ℕ a b)
view_test a b true e = let h = ltb-true a b e in rw e (down (b - suc a) (omega arith))
view_test a b false e = let h = ltb-false a b e in rw e (up (a - b) (omega arith))

-- A difference is such a number: to go by its sign, match on view a b.
pub view : (a b : ℕ) → View a b (sub_ℕ a b)
view a b = view_test a b (ltb a b) refl

pub subℕ-zero : (n : ℕ) → sub_ℕ n 0 ≡ pos n
subℕ-zero n = subℕ-view n 0 (up n (omega arith))

-- Two differences are equal where their sums across are.
pub subℕ-cross : (a b c d : ℕ) → a + d ≡ c + b → sub_ℕ a b ≡ sub_ℕ c d
subℕ-cross a b c d e = go (view c d)
  where
    go : {z : ℤ} → View c d z → sub_ℕ a b ≡ z
    go (up k p) = subℕ-view a b (up k (omega arith))
    go (down k p) = subℕ-view a b (down k (omega arith))

pub add-subℕ : (a b c d : ℕ) → sub_ℕ a b +ℤ sub_ℕ c d ≡ sub_ℕ (a + c) (b + d)
add-subℕ a b c d = go (view a b) (view c d)
  where
    go : {y z : ℤ} → View a b y → View c d z → y +ℤ z ≡ sub_ℕ (a + c) (b + d)
    go (up k p) (up l q) = sym (subℕ-view (a + c) (b + d) (up (k + l) (omega arith)))
    go (up k p) (down l q) = subℕ-cross k (suc l) (a + c) (b + d) (omega arith)
    go (down k p) (up l q) = subℕ-cross l (suc k) (a + c) (b + d) (omega arith)
    go (down k p) (down l q) = sym (subℕ-view (a + c) (b + d) (down (suc (k + l)) (omega arith)))

pub add-subℕ-pos : (a b n : ℕ) → sub_ℕ a b +ℤ pos n ≡ sub_ℕ (a + n) b
add-subℕ-pos a b n =
    ap (λ (z : ℤ). sub_ℕ a b +ℤ z) (sym (subℕ-zero n))
    ∙ add-subℕ a b n 0
    ∙ subℕ-cross (a + n) (b + 0) (a + n) b (omega arith)

pub neg-subℕ : (a b : ℕ) → neg_ℤ (sub_ℕ a b) ≡ sub_ℕ b a
neg-subℕ a b = go (view a b)
  where
    go : {z : ℤ} → View a b z → neg_ℤ z ≡ sub_ℕ b a
    go (up zero p) = sym (subℕ-view b a (up zero (omega arith)))
    go (up (suc k) p) = sym (subℕ-view b a (down k (omega arith)))
    go (down k p) = sym (subℕ-view b a (up (suc k) (omega arith)))

pub sub-subℕ : (a b c d : ℕ) → sub_ℕ a b -ℤ sub_ℕ c d ≡ sub_ℕ (a + d) (b + c)
sub-subℕ a b c d = ap (λ (z : ℤ). sub_ℕ a b +ℤ z) (neg-subℕ c d) ∙ add-subℕ a b d c

pub sub-pos-subℕ : (n a b : ℕ) → pos n -ℤ sub_ℕ a b ≡ sub_ℕ (n + b) a
sub-pos-subℕ n a b =
    ap (λ (z : ℤ). z -ℤ sub_ℕ a b) (sym (subℕ-zero n))
    ∙ sub-subℕ n 0 a b
    ∙ subℕ-cross (n + b) (0 + a) (n + b) a (omega arith)

pub mul-pos-subℕ : (m a b : ℕ) → pos m *ℤ sub_ℕ a b ≡ sub_ℕ (m * a) (m * b)
mul-pos-subℕ m a b = go (view a b)
  where
    times : (x y k : ℕ) → x ≡ y + k → sub_ℕ (m * x) (m * y) ≡ pos (m * k)
    times x y k p = subℕ-view (m * x) (m * y) (up (m * k) (ap (λ (n : ℕ). m * n) p ∙ mul-add m y k))

    go : {z : ℤ} → View a b z → pos m *ℤ z ≡ sub_ℕ (m * a) (m * b)
    go (up k p) = sym (times a b k p)
    go (down k p) = ap neg_ℤ (sym (times b a (suc k) p)) ∙ neg-subℕ (m * b) (m * a)

pub mul-negsuc-subℕ : (m a b : ℕ) → negsuc m *ℤ sub_ℕ a b ≡ sub_ℕ (suc m * b) (suc m * a)
mul-negsuc-subℕ m a b =
    *ℤ_comm (negsuc m) (sub_ℕ a b)
    ∙ *ℤ-negsuc (sub_ℕ a b) m
    ∙ ap neg_ℤ (*ℤ_comm (sub_ℕ a b) (pos (suc m)) ∙ mul-pos-subℕ (suc m) a b)
    ∙ neg-subℕ (suc m * a) (suc m * b)

pub mul-subℕ : (a b c d : ℕ) → sub_ℕ a b *ℤ sub_ℕ c d ≡ sub_ℕ (a * c + b * d) (a * d + b * c)
mul-subℕ a b c d = go (view a b)
  where
    times : (x y k n : ℕ) → x ≡ y + k → x * n ≡ y * n + k * n
    times x y k n p = ap (λ (m : ℕ). m * n) p ∙ add-mul y k n

    go : {z : ℤ} → View a b z → z *ℤ sub_ℕ c d ≡ sub_ℕ (a * c + b * d) (a * d + b * c)
    go (up k p) =
        mul-pos-subℕ k c d
        ∙ subℕ-cross (k * c) (k * d) (a * c + b * d) (a * d + b * c) (omega (arith, times a b k c p, times a b k d p))
    go (down k p) =
        mul-negsuc-subℕ k c d
        ∙ subℕ-cross (suc k * d) (suc k * c) (a * c + b * d) (a * d + b * c)
        (omega (arith, times b a (suc k) c p, times b a (suc k) d p))
