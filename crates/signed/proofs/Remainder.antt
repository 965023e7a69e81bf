-- Differences rounded down, wrapped and tested against a side, by naturals. No contract cites this file. Assumes nothing.
use mathlib.Core.Path.{◌≡◌, sym, ap, ◌∙◌}
use mathlib.Core.Bool.{false, ◌&&◌}
use Prim.Native.Nat.{ℕ, suc, ◌+◌, ◌-◌, ◌*◌, ◌/◌, ◌%◌, ◌≤◌, ◌<◌}
use native.Mathlib.Nat.{mul-suc, div-add-mod, mod-lt, mod-eq_of_lt, add-mul-mod_self_left, mul-add-mod_self_left}
use native.Mathlib.Omega.{arith}
use lib.Dec.{leb, ltb}
use lib.IntN.{ℤ, sub_ℕ}
use borrow.Author.Tests.{le-leb, lt-leb}
use Rattle.signed.specs.Signed.{down256, wrapped, within}
use Rattle.signed.proofs.Difference.{View, up, down, view, subℕ-view, subℕ-cross}
use Rattle.bits.proofs.Booleans.{leb_same}

pub down256-subℕ : (a bias : ℕ) → down256 (sub_ℕ a (256 * bias)) ≡ sub_ℕ (a / 256) bias
down256-subℕ a bias = go (view a (256 * bias))
  where
    go : {z : ℤ} → View a (256 * bias) z → down256 z ≡ sub_ℕ (a / 256) bias
    go (up k p) = sym (subℕ-view (a / 256) bias (up (k / 256) (omega arith)))
    go (down k p) = sym (subℕ-view (a / 256) bias (down (k / 256) (omega arith)))

-- The same by sums across, where n plus b is a plus 256 times the bias.
pub down256_cross : (a b n bias : ℕ) → n + b ≡ a + 256 * bias → down256 (sub_ℕ a b) ≡ sub_ℕ (n / 256) bias
down256_cross a b n bias e = ap down256 (subℕ-cross a b n (256 * bias) (omega arith)) ∙ down256-subℕ n bias

module _ (m : ℕ) (m>0 : 0 < m) where
  -- A difference is wrapped as its natural is, where m divides what is taken off.
  pub wrapped-subℕ : (r bias : ℕ) → bias % m ≡ 0 → wrapped (sub_ℕ r bias) m ≡ r % m
  unfolding wrapped
  wrapped-subℕ r bias e = go (view r bias)
    where
      whole : m * (bias / m) ≡ bias
      whole = omega (arith, div-add-mod bias m)

      turns : (k : ℕ) → bias ≡ r + suc k → m * (bias / m) + (m - 1 - k % m) ≡ r + m * suc (k / m)
      turns k p = omega (arith, whole, mul-suc m (k / m), div-add-mod k m, mod-lt k m>0)

      go : {z : ℤ} → View r bias z → wrapped z m ≡ r % m
      go (up k p) =
          sym (mul-add-mod_self_left m (bias / m) k)
          ∙ ap (λ (n : ℕ). n % m) (ap (λ (n : ℕ). n + k) whole ∙ sym p)
      go (down k p) =
          let left : m - 1 - k % m < m = omega arith in
          sym (mod-eq_of_lt left)
          ∙ sym (mul-add-mod_self_left m (bias / m) (m - 1 - k % m))
          ∙ ap (λ (n : ℕ). n % m) (turns k p)
          ∙ add-mul-mod_self_left r m (suc (k / m))

module _ (r bias m : ℕ) where
  pub within-subℕ-below : r < bias → within (sub_ℕ r bias) m ≡ false
  unfolding within
  within-subℕ-below h = rw (subℕ-view r bias (down (bias - suc r) (omega arith)))

  pub within-subℕ-from : bias ≤ r → within (sub_ℕ r bias) m ≡ ltb (r - bias) m
  unfolding within
  within-subℕ-from h = rw (subℕ-view r bias (up (r - bias) (omega arith)))

  pub within-subℕ : within (sub_ℕ r bias) m ≡ (leb bias r && ltb r (bias + m))
  unfolding within
  within-subℕ = go (view r bias)
    where
      go : {z : ℤ} → View r bias z → within z m ≡ (leb bias r && ltb r (bias + m))
      go (up k p) =
          rw (le-leb bias r (omega arith))
          (leb_same (suc k) m (suc r) (bias + m) (λ h. omega arith) (λ h. omega arith))
      go (down k p) = rw (lt-leb bias r (omega arith))
