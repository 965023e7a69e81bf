-- Which of two layers is in front, by one number for each. No contract cites this file. Assumes nothing.
use Prim.Native.Nat.{ℕ, ◌+◌, ◌*◌, ◌≤◌, ◌<◌}
use native.Mathlib.Omega.{arith}
use mathlib.Core.Path.{◌≡◌, refl}
use mathlib.Core.Bool.{Bool, true, false, ◌&&◌, ◌||◌}
use mathlib.Core.Logic.{◌⊎◌, ◌≢◌, inl, inr, ⊎_elim}
use lib.Dec.{eqb, ltb}
use borrow.Author.Tests.{eqb-true, eq-eqb, ne_eqb, ltb-true, ltb-false, lt-ltb}
use Rattle.bits.proofs.Booleans.{and_both, or_split, cond_both}
use Rattle.thm_explain.specs.Fits.{Column, layer_priority, rank, in_front}

-- ---- of priorities and ranks

module _ (p q r s : ℕ) where
  -- The test of being in front, of priorities p and q and ranks r and s.
  abbrev is_front : Bool
  is_front = ltb p q || (eqb p q && ltb r s)

  front_less : r < 8 → s < 8 → 8 * p + r < 8 * q + s → is_front ≡ true
  front_less r< s< less = go (ltb p q) refl
    where
      go : (t : Bool) → ltb p q ≡ t → (t || (eqb p q && ltb r s)) ≡ true
      go true t = refl
      go false t =
          let q≤p = ltb-false p q t in
          let same : p ≡ q = omega arith in
          rw (eq-eqb p q same, lt-ltb r s (omega arith))

  less_front : is_front ≡ true → (p < q) ⊎ ((p ≡ q) × (r < s))
  less_front t =
      ⊎_elim
      (λ less. inl (ltb-true p q less))
      (λ same. let both = and_both (eqb p q) (ltb r s) same in inr (eqb-true p q both.0, ltb-true r s both.1))
      (or_split (ltb p q) (eqb p q && ltb r s) t)

less_once : (p q r s : ℕ) → (p < q) ⊎ ((p ≡ q) × (r < s)) → (q < p) ⊎ ((q ≡ p) × (s < r)) → ⊥
less_once p q r s (inl h) (inl u) = omega arith
less_once p q r s (inl h) (inr u) = omega (arith, u.0)
less_once p q r s (inr h) (inl u) = omega (arith, h.0)
less_once p q r s (inr h) (inr u) = omega (arith, h.1, u.1)

-- ---- of layers

pub rank_bound : (n : ℕ) → n ≤ 5 → rank n < 8
rank_bound n n≤ = cond_both (λ r. r < 8) (eqb n 4) (omega arith) (omega arith)

pub rank-other : (n : ℕ) → n ≢ 4 → rank n ≡ n + 1
rank-other n other = rw (ne_eqb n 4 other)

module _ (k : Column) where
  -- A layer's place: less in front.
  abbrev pub place : ℕ → ℕ
  place n = 8 * layer_priority k n + rank n

  pub front_place : (m n : ℕ) → m ≤ 5 → n ≤ 5 → place m < place n → in_front k m n ≡ true
  front_place m n m≤ n≤ less =
      front_less (layer_priority k m) (layer_priority k n) (rank m) (rank n) (rank_bound m m≤) (rank_bound n n≤) less

  -- Not both of two layers are in front.
  pub front_once : (m n : ℕ) → in_front k m n ≡ true → in_front k n m ≡ true → ⊥
  front_once m n t u =
      less_once (layer_priority k m) (layer_priority k n) (rank m) (rank n)
      (less_front (layer_priority k m) (layer_priority k n) (rank m) (rank n) t)
      (less_front (layer_priority k n) (layer_priority k m) (rank n) (rank m) u)
