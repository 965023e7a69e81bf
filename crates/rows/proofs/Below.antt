-- Laws of tests and sums over the numbers below one. No contract cites this file. Assumes nothing.
use mathlib.Core.Path.{◌≡◌, refl, sym, ap, ap₂, subst, ◌∙◌}
use mathlib.Core.Bool.{Bool, true, false, ◌&&◌, cond, and-false}
use mathlib.Core.Logic.{⊎_elim}
use Prim.Native.Nat.{ℕ, zero, suc, ◌+◌, ◌*◌, ◌≤◌, ◌<◌}
use native.Mathlib.Nat.{eq-or-lt_of_le, le_of_suc-le-suc, not-suc-le-zero, zero-add, add-zero, mul-suc}
use native.Mathlib.Numerals.{add-one}
use native.Mathlib.Omega.{arith}
use lib.Dec.{eqb, leb, eqb-suc-zero}
use borrow.Author.Tests.{ne_eqb, le-leb, lt-leb, lt-ltb, le-ltb}
use Rattle.rows.specs.Below.{all_below, tally, count_below, between}

-- What holds of each number below n, and of n, holds of each below the next.
pub below_suc : (P : ℕ → Type 0) (n : ℕ) → ((k : ℕ) → k < n → P k) → P n → (k : ℕ) → k < suc n → P k
below_suc P n below last k h =
    ⊎_elim (λ (e : k ≡ n). subst P (sym e) last) (below k) (eq-or-lt_of_le (le_of_suc-le-suc h))

-- ---- a part of the columns

pub between-inside : (left right k : ℕ) → left ≤ k → k < right → between left right k ≡ true
unfolding between
between-inside left right k h u = simp (le-leb left k h, lt-ltb k right u)

pub between_before : (left right k : ℕ) → k < left → between left right k ≡ false
unfolding between
between_before left right k h = simp (lt-leb left k h)

pub between-past : (left right k : ℕ) → right ≤ k → between left right k ≡ false
unfolding between
between-past left right k h = simp (le-ltb k right h) (and-false (leb left k))

-- ---- a test of each number below n

pub all_below_none : (test : ℕ → Bool) → all_below test 0 ≡ true
unfolding all_below
all_below_none test = refl

pub all_below_more : (test : ℕ → Bool) (n : ℕ) → all_below test (n + 1) ≡ all_below test n && test n
unfolding all_below
all_below_more test n = rw (add-one n) refl

pub all_below_fails : (test : ℕ → Bool) (n k : ℕ) → k < n → test k ≡ false → all_below test n ≡ false
unfolding all_below
all_below_fails test zero k h = absurd (not-suc-le-zero h)
all_below_fails test (suc n) k h =
    below_suc (λ j. test j ≡ false → all_below test (suc n) ≡ false) n
    (λ j lt e. ap (λ (b : Bool). b && test n) (all_below_fails test n j lt e))
    (λ e. ap (λ (b : Bool). all_below test n && b) e ∙ and-false (all_below test n))
    k h

pub all_below_cong : (p q : ℕ → Bool) (n : ℕ) → ((k : ℕ) → k < n → p k ≡ q k) → all_below p n ≡ all_below q n
unfolding all_below
all_below_cong p q zero h = refl
all_below_cong p q (suc n) h = ap₂ ◌&&◌ (all_below_cong p q n (λ k lt. h k (omega arith))) (h n (omega arith))

-- It holds of all exactly if it holds of each.
pub all_below_ext : (test : ℕ → Bool) (n : ℕ) → ((k : ℕ) → k < n → test k ≡ true) → all_below test n ≡ true
unfolding all_below
all_below_ext test zero h = refl
all_below_ext test (suc n) h = ap₂ ◌&&◌ (all_below_ext test n (λ k lt. h k (omega arith))) (h n (omega arith))

pub all_below_at : (test : ℕ → Bool) (n : ℕ) → all_below test n ≡ true → (k : ℕ) → k < n → test k ≡ true
all_below_at test n e k lt = go (test k) refl
  where
    go : (b : Bool) → test k ≡ b → test k ≡ true
    go true t = t
    go false t = cc (all_below_fails test n k lt t)

-- ---- a sum over the numbers below n

pub tally_none : (f : ℕ → ℕ) → 0 ≡ tally f 0
unfolding tally
tally_none f = refl

pub tally_cong : (f g : ℕ → ℕ) (n : ℕ) → ((k : ℕ) → k < n → f k ≡ g k) → tally f n ≡ tally g n
unfolding tally
tally_cong f g zero h = refl
tally_cong f g (suc n) h = ap₂ ◌+◌ (tally_cong f g n (λ k lt. h k (omega arith))) (h n (omega arith))

-- A sum in two parts, and with the first number's part by itself.
pub tally-add : (f : ℕ → ℕ) (m n : ℕ) → tally f (m + n) ≡ tally f m + tally (λ k. f (m + k)) n
unfolding tally
tally-add f m zero = ap (tally f) (add-zero m) ∙ sym (add-zero (tally f m))
tally-add f m (suc n) =
    let e : m + suc n ≡ suc (m + n) = omega arith in ap (tally f) e ∙ omega (arith, tally-add f m n)

pub tally_first : (f : ℕ → ℕ) (n : ℕ) → tally f (suc n) ≡ f 0 + tally (λ k. f (suc k)) n
unfolding tally
tally_first f zero = omega arith
tally_first f (suc n) = omega (arith, tally_first f n)

pub tally_bound : (f : ℕ → ℕ) (n most : ℕ) → ((k : ℕ) → k < n → f k ≤ most) → tally f n ≤ most * n
unfolding tally
tally_bound f zero most h = omega arith
tally_bound f (suc n) most h =
    omega (arith, tally_bound f n most (λ k lt. h k (omega arith)), h n (omega arith), mul-suc most n)

eqb-add-zero : (a b : ℕ) → eqb (a + b) 0 ≡ eqb a 0 && eqb b 0
eqb-add-zero zero b = ap (λ (n : ℕ). eqb n 0) (zero-add b)
eqb-add-zero (suc a) b =
    ne_eqb (suc a + b) 0 (omega arith) ∙ ap (λ (t : Bool). t && eqb b 0) (sym (eqb-suc-zero a))

-- A sum of faults is 0 exactly if the test holds of each number.
pub all_below-tally : (test : ℕ → Bool) (f : ℕ → ℕ) (n : ℕ) → ((k : ℕ) → k < n → eqb (f k) 0 ≡ test k)
    → eqb (tally f n) 0 ≡ all_below test n
unfolding tally all_below
all_below-tally test f zero h = refl
all_below-tally test f (suc n) h =
    eqb-add-zero (tally f n) (f n)
    ∙ ap₂ ◌&&◌ (all_below-tally test f n (λ k lt. h k (omega arith))) (h n (omega arith))

-- ---- how many numbers below n a test holds of

cond_bound : (b : Bool) → cond b 1 0 ≤ 1
cond_bound true = omega arith
cond_bound false = omega arith

cond_full : (b : Bool) → 1 ≤ cond b 1 0 → b ≡ true
cond_full true h = refl
cond_full false h = absurd (omega arith)

pub count_below_bound : (test : ℕ → Bool) (n : ℕ) → count_below test n ≤ n
count_below_bound test n = omega (arith, tally_bound (λ k. cond (test k) 1 0) n 1 (λ k lt. cond_bound (test k)))

-- The count is n exactly if the test holds of each number.
pub count_below_full : (test : ℕ → Bool) (n : ℕ) → count_below test n ≡ n → (k : ℕ) → k < n → test k ≡ true
unfolding tally
count_below_full test zero e = λ k h. absurd (not-suc-le-zero h)
count_below_full test (suc n) e =
    let few = count_below_bound test n in
    let one = cond_bound (test n) in
    below_suc (λ k. test k ≡ true) n (count_below_full test n (omega arith)) (cond_full (test n) (omega arith))

pub count_below_ext : (test : ℕ → Bool) (n : ℕ) → ((k : ℕ) → k < n → test k ≡ true) → count_below test n ≡ n
unfolding tally
count_below_ext test zero h = refl
count_below_ext test (suc n) h =
    rw (h n (omega arith)) (omega (arith, count_below_ext test n (λ k lt. h k (omega arith))))

-- A number of which the test did not hold and now does counts one more.
module _ (p q : ℕ → Bool) where
  pub count_below_put : (n k : ℕ) → k < n → ((j : ℕ) → (j ≡ k → ⊥) → q j ≡ p j) → p k ≡ false → q k ≡ true
      → count_below q n ≡ count_below p n + 1
  unfolding tally
  count_below_put zero k h = absurd (not-suc-le-zero h)
  count_below_put (suc n) k h =
      below_suc
      (λ j. ((i : ℕ) → (i ≡ j → ⊥) → q i ≡ p i) → p j ≡ false → q j ≡ true
      → count_below q (suc n) ≡ count_below p (suc n) + 1)
      n
      (λ j lt same out into. rw (same n (omega arith)) (omega (arith, count_below_put n j lt same out into)))
      (λ same out into.
      rw (out, into)
      (omega (arith, tally_cong _ _ n (λ i lt. ap (λ (b : Bool). cond b 1 0) (same i (omega arith))))))
      k h
