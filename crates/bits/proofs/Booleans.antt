-- Tests and their truth values. No contract cites this file. Assumes nothing.
use mathlib.Core.Logic.{◌⊎◌, inl, inr}
use mathlib.Core.Path.{◌≡◌, refl, sym, ◌∙◌}
use mathlib.Core.Bool.{Bool, true, false, cond, ◌&&◌, ◌||◌}
use Prim.Native.Nat.{ℕ, ◌≤◌}
use native.Mathlib.Nat.{lt_of_not-le}
use native.Mathlib.Omega.{arith}
use lib.Dec.{leb}
use borrow.Author.Tests.{leb-true, leb-false, le-leb, lt-leb}

-- Both tests hold where their conjunction does.
pub and_both : (s t : Bool) → (s && t) ≡ true → (s ≡ true) × (t ≡ true)
and_both true t e = (refl, e)
and_both false t e = (e, cc)

-- One of both tests holds where their disjunction does.
pub or_split : (s t : Bool) → (s || t) ≡ true → (s ≡ true) ⊎ (t ≡ true)
or_split true t e = inl refl
or_split false t e = inr e

-- Neither test holds where their disjunction doesn't.
pub or_neither : (s t : Bool) → (s || t) ≡ false → (s ≡ false) × (t ≡ false)
or_neither true t e = (e, cc)
or_neither false t e = (refl, e)

-- Two tests agree where each one's truth gives the other's.
pub both_ways : (s t : Bool) → (s ≡ true → t ≡ true) → (t ≡ true → s ≡ true) → s ≡ t
both_ways true t f g = sym (f refl)
both_ways false true f g = g refl
both_ways false false f g = refl

-- What holds of both cases holds of either.
pub cond_both : {A : Type 0} (P : A → Type 0) (t : Bool) {a b : A} → P a → P b → P (cond t a b)
cond_both P true p q = p
cond_both P false p q = q

leb_test : (a b c d : ℕ) (t : Bool) → leb a b ≡ t → (a ≤ b → c ≤ d) → (c ≤ d → a ≤ b) → leb a b ≡ leb c d
leb_test a b c d true e f g = e ∙ sym (le-leb c d (f (leb-true a b e)))
leb_test a b c d false e f g =
    let b<a = leb-false a b e in
    e ∙ sym (lt-leb c d (lt_of_not-le (λ h. let a≤b = g h in omega arith)))

-- Two tests agree where each one's fact gives the other's; ltb a b is leb (suc a) b.
pub leb_same : (a b c d : ℕ) → (a ≤ b → c ≤ d) → (c ≤ d → a ≤ b) → leb a b ≡ leb c d
leb_same a b c d f g = leb_test a b c d (leb a b) refl f g
