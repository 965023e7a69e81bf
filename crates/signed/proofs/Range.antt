-- The range of reference numbers, by naturals. No contract cites this file. Assumes nothing.
use mathlib.Core.Path.{◌≡◌, refl, sym, ap, ◌∙◌}
use mathlib.Core.Bool.{Bool, true, false, cond, ◌&&◌, and-true}
use Prim.Native.Nat.{ℕ, suc, ◌-◌, ◌^◌, ◌<◌}
use native.Mathlib.Omega.{arith}
use lib.Dec.{leb, ltb}
use lib.IntN.{ℤ, pos, negsuc}
use lib.Signed.{mag}
use borrow.Author.Tests.{ltb-true, ltb-false, le-leb, lt-leb, le-ltb}
use Rattle.std.specs.Ordering.{is_le, is_lt, int_cmp}
use Rattle.std.proofs.Common.{Less, Equal, Greater}
use Rattle.signed.specs.Signed.{in_range}
use Rattle.bits.proofs.Booleans.{leb_same}

-- Both ends in one: the size is below 2^28, mag z being n for n and for -(n + 1).
pub in_range-mag : (z : ℤ) → in_range z ≡ ltb (mag z) (2 ^ 28)
unfolding in_range
in_range-mag (pos n) = refl
in_range-mag (negsuc n) = and-true _ ∙ leb_same n (2 ^ 28 - 1) (suc n) (2 ^ 28) (λ h. omega arith) (λ h. omega arith)

pub mag-in_range : (z : ℤ) → in_range z ≡ true → mag z < 2 ^ 28
mag-in_range z e = ltb-true (mag z) (2 ^ 28) (sym (in_range-mag z) ∙ e)

-- The tests of a range, by the order of two numbers.
first_is : (t u : Bool) → is_lt (cond t Less (cond u Greater Equal)) ≡ t
first_is true u = refl
first_is false true = refl
first_is false false = refl

equal_or_first : (t : Bool) → is_le (cond t Less Equal) ≡ true
equal_or_first true = refl
equal_or_first false = refl

upto_is : (n a : ℕ) → is_le (cond (ltb n a) Less (cond (ltb a n) Greater Equal)) ≡ leb n a
upto_is n a = go (ltb a n) refl
  where
    go : (t : Bool) → ltb a n ≡ t → is_le (cond (ltb n a) Less (cond (ltb a n) Greater Equal)) ≡ leb n a
    go true e = let h = ltb-true a n e in rw (le-ltb n a (omega arith), e, lt-leb n a h) refl
    go false e = let h = ltb-false a n e in rw (e, le-leb n a h) (equal_or_first (ltb n a))

pub in_range-tests : (z : ℤ) → is_le (int_cmp (negsuc (2 ^ 28 - 1)) z) && is_lt (int_cmp z (pos (2 ^ 28))) ≡ in_range z
unfolding in_range
in_range-tests (pos n) = first_is (ltb n (2 ^ 28)) (ltb (2 ^ 28) n)
in_range-tests (negsuc n) = ap (λ (t : Bool). t && true) (upto_is n (2 ^ 28 - 1))
