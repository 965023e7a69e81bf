-- Laws of the bits of a word, and of the count of its ones. No contract cites this file. Assumes nothing.
use mathlib.Core.Path.{◌≡◌, refl, sym, ap, ap₂, ◌∙◌}
use mathlib.Core.Bool.{Bool, false, cond, not, ◌&&◌, ◌||◌}
use Prim.Native.Nat.{ℕ, zero, suc, ◌+◌, ◌-◌, ◌/◌, ◌%◌, ◌^◌, ◌≤◌, ◌<◌, min, max}
use native.Mathlib.Nat.{pow-suc}
use native.Mathlib.Numerals.{one-add}
use native.Mathlib.Omega.{arith}
use lib.Bits.{bit_and, bit_or, and_shr, and_step, or_shr, or_step}
use lib.Count.{ones, ones_step}
use lib.Dec.{eqb, leb-zero, leb-suc-suc}
use lib.Pow.{field, mod-mod-pow, pow_pos, shr-shr}
use Rattle.rows.specs.Below.{tally, count_below, between}
use Rattle.rows.proofs.Below.{tally_cong, tally_first, between-inside, between_before, between-past}
use Rattle.sfx_marks.specs.Code.{is_set}

-- What holds of 0 and of 1 holds of a lowest bit, and of two.
one_bit : (P : ℕ → Type 0) → P 0 → P 1 → (w : ℕ) → P (w % 2)
one_bit P p q w = go (w % 2) (omega arith)
  where
    go : (b : ℕ) → b < 2 → P b
    go zero h = p
    go (suc zero) h = q
    go (suc (suc b)) h = absurd (omega arith)

two-bits : (P : ℕ → ℕ → Type 0) → P 0 0 → P 0 1 → P 1 0 → P 1 1 → (w v : ℕ) → P (w % 2) (v % 2)
two-bits P p q r s w v = one_bit (λ b. P b (v % 2)) (one_bit (P 0) p q v) (one_bit (P 1) r s v) w

-- ---- where a bit stands

is_set-zero : (w : ℕ) → is_set w 0 ≡ eqb (w % 2) 1
unfolding is_set
is_set-zero w = let e : w / 2 ^ 0 % 2 ≡ w % 2 = omega arith in ap (λ (b : ℕ). eqb b 1) e

-- A shift by m brings bit m + i to place i.
pub is_set_shift : (w m i : ℕ) → is_set (w / 2 ^ m) i ≡ is_set w (m + i)
unfolding is_set
is_set_shift w m i = ap (λ (n : ℕ). eqb (n % 2) 1) (shr-shr w m i)

is_set-suc : (w i : ℕ) → is_set w (suc i) ≡ is_set (w / 2) i
is_set-suc w i = ap (is_set w) (sym (one-add i)) ∙ sym (is_set_shift w 1 i)

pub is_set_none : (i : ℕ) → is_set 0 i ≡ false
is_set_none zero = is_set-zero 0
is_set_none (suc i) = is_set-suc 0 i ∙ is_set_none i

-- A bit of the n lowest.
pub is_set_low : (n w i : ℕ) → i < n → is_set (w % 2 ^ n) i ≡ is_set w i
unfolding is_set
is_set_low n w i h =
    let whole : n - suc i + 1 + i ≡ n = omega arith in
    ap (λ (m : ℕ). eqb (m % 2) 1) (rw whole at (field w (n - suc i + 1) i))
    ∙ ap (λ (b : ℕ). eqb b 1) (mod-mod-pow (w / 2 ^ i) (n - suc i) 1)

-- ---- the bits of either word, of both, and of the complement

pub is_set_or : (a b i : ℕ) → is_set (bit_or a b) i ≡ (is_set a i || is_set b i)
unfolding is_set
is_set_or a b i =
    let v = a / 2 ^ i in
    let w = b / 2 ^ i in
    let lowest : bit_or v w % 2 ≡ max (v % 2) (w % 2) = omega (arith, or_step v w) in
    ap (λ (n : ℕ). eqb (n % 2) 1) (or_shr a b i)
    ∙ ap (λ (n : ℕ). eqb n 1) lowest
    ∙ two-bits (λ x y. eqb (max x y) 1 ≡ (eqb x 1 || eqb y 1)) refl refl refl refl v w

pub is_set_and : (a b i : ℕ) → is_set (bit_and a b) i ≡ (is_set a i && is_set b i)
unfolding is_set
is_set_and a b i =
    let v = a / 2 ^ i in
    let w = b / 2 ^ i in
    let lowest : bit_and v w % 2 ≡ min (v % 2) (w % 2) = omega (arith, and_step v w) in
    ap (λ (n : ℕ). eqb (n % 2) 1) (and_shr a b i)
    ∙ ap (λ (n : ℕ). eqb n 1) lowest
    ∙ two-bits (λ x y. eqb (min x y) 1 ≡ (eqb x 1 && eqb y 1)) refl refl refl refl v w

-- The complement of a word of n bits has the others.
pub is_set_not : (n a i : ℕ) → a < 2 ^ n → i < n → is_set ((2 ^ n - 1) - a) i ≡ not (is_set a i)
is_set_not zero a i h lt = absurd (omega arith)
is_set_not (suc n) a zero h lt =
    let lowest : ((2 ^ suc n - 1) - a) % 2 ≡ 1 - a % 2 = omega (arith, pow-suc 2 n) in
    is_set-zero ((2 ^ suc n - 1) - a)
    ∙ ap (λ (b : ℕ). eqb b 1) lowest
    ∙ one_bit (λ b. eqb (1 - b) 1 ≡ not (eqb b 1)) refl refl a
    ∙ ap not (sym (is_set-zero a))
is_set_not (suc n) a (suc i) h lt =
    let half : ((2 ^ suc n - 1) - a) / 2 ≡ (2 ^ n - 1) - a / 2 = omega (arith, pow-suc 2 n) in
    is_set-suc ((2 ^ suc n - 1) - a) i
    ∙ ap (λ (w : ℕ). is_set w i) half
    ∙ is_set_not n (a / 2) i (omega (arith, pow-suc 2 n)) (omega arith)
    ∙ ap not (sym (is_set-suc a i))

-- ---- the bits from one on and before another

between-suc : (left right k : ℕ) → between left right k ≡ between (suc left) (suc right) (suc k)
unfolding between
between-suc left right k = sym (ap₂ ◌&&◌ (leb-suc-suc left k) (leb-suc-suc (suc k) right))

between-zero : (right k : ℕ) → between 0 right k ≡ between 0 (suc right) (suc k)
unfolding between
between-zero right k = ap₂ ◌&&◌ (leb-zero k ∙ sym (leb-zero (suc k))) (sym (leb-suc-suc (suc k) right))

-- The difference of two powers has them.
pub is_set-between : (left right k : ℕ) → left ≤ right → is_set (2 ^ right - 2 ^ left) k ≡ between left right k
is_set-between zero zero k h = is_set_none k ∙ sym (between-past 0 0 k (omega arith))
is_set-between zero (suc right) zero h =
    let odd : (2 ^ suc right - 1) % 2 ≡ 1 = omega (arith, pow-suc 2 right, pow_pos right) in
    is_set-zero (2 ^ suc right - 1)
    ∙ ap (λ (b : ℕ). eqb b 1) odd
    ∙ sym (between-inside 0 (suc right) 0 (omega arith) (omega arith))
is_set-between zero (suc right) (suc k) h =
    let half : (2 ^ suc right - 1) / 2 ≡ 2 ^ right - 1 = omega (arith, pow-suc 2 right, pow_pos right) in
    is_set-suc (2 ^ suc right - 1) k
    ∙ ap (λ (w : ℕ). is_set w k) half
    ∙ is_set-between zero right k (omega arith)
    ∙ between-zero right k
is_set-between (suc left) zero k h = absurd (omega arith)
is_set-between (suc left) (suc right) zero h =
    let even : (2 ^ suc right - 2 ^ suc left) % 2 ≡ 0 = omega (arith, pow-suc 2 left, pow-suc 2 right) in
    is_set-zero (2 ^ suc right - 2 ^ suc left)
    ∙ ap (λ (b : ℕ). eqb b 1) even
    ∙ sym (between_before (suc left) (suc right) 0 (omega arith))
is_set-between (suc left) (suc right) (suc k) h =
    let half : (2 ^ suc right - 2 ^ suc left) / 2 ≡ 2 ^ right - 2 ^ left = omega (arith, pow-suc 2 left, pow-suc 2 right) in
    is_set-suc (2 ^ suc right - 2 ^ suc left) k
    ∙ ap (λ (w : ℕ). is_set w k) half
    ∙ is_set-between left right k (omega arith)
    ∙ between-suc left right k

-- ---- the count

-- The ones of a word of n bits.
pub ones-count : (n w : ℕ) → w < 2 ^ n → ones w ≡ count_below (is_set w) n
unfolding tally ones
ones-count zero w h = let e : w ≡ 0 = omega arith in rw e
ones-count (suc n) w h =
    let count : Bool → ℕ = λ t. cond t 1 0 in
    ones_step w
    ∙ ap₂ ◌+◌
    (one_bit (λ b. b ≡ count (eqb b 1)) refl refl w ∙ ap count (sym (is_set-zero w)))
    (ones-count n (w / 2) (omega (arith, pow-suc 2 n)) ∙ tally_cong _ _ n (λ k lt. ap count (sym (is_set-suc w k))))
    ∙ sym (tally_first (λ k. count (is_set w k)) n)
