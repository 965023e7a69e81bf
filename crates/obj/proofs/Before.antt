-- Laws of which of two pixels comes first, and of the winner. No contract cites this file. Assumes nothing.
use Prim.Native.Nat.{ℕ, ◌≤◌, ◌<◌}
use native.Mathlib.Nat.{eq-or-lt_of_le}
use native.Mathlib.Omega.{arith}
use mathlib.Core.Path.{◌≡◌, sym}
use mathlib.Core.Bool.{true, ◌&&◌, ◌||◌, or-true}
use mathlib.Core.List.{List}
use mathlib.Core.Logic.{◌⊎◌, inl, inr, ⊎_elim}
use lib.Dec.{eqb, ltb}
use borrow.Author.Tests.{ltb-true, lt-ltb, eqb-true, eq-eqb}
use Rattle.bits.proofs.Booleans.{and_both, or_split}
use Rattle.obj.specs.Order.{Pixel, is_before, Wins}

-- Pixel p was put earlier than sprite n of draw number i is.
abbrev pub Earlier : ℕ → ℕ → Pixel → Type 0
Earlier i n p = (p.draw < i) ⊎ ((p.draw ≡ i) × (p.sprite < n))

-- Pixel p comes before q: by its priority, or among equals because it was put earlier.
pub data Before (p q : Pixel) : Type 0 where
  by-priority : p.priority < q.priority → Before p q
  by_time : p.priority ≡ q.priority → Earlier q.draw q.sprite p → Before p q

module _ (p q : Pixel) where
  pub is_before_before : Before p q → is_before p q ≡ true
  unfolding is_before
  is_before_before (by-priority h) = rw (lt-ltb p.priority q.priority h)
  is_before_before (by_time e (inl h)) =
      rw (eq-eqb p.priority q.priority e, lt-ltb p.draw q.draw h, or-true (ltb p.priority q.priority))
  is_before_before (by_time e (inr h)) =
      rw (
        eq-eqb p.priority q.priority e,
        eq-eqb p.draw q.draw h.0,
        lt-ltb p.sprite q.sprite h.1,
        or-true (ltb p.draw q.draw),
        or-true (ltb p.priority q.priority),
      )

  before-is_before : is_before p q ≡ true → Before p q
  unfolding is_before
  before-is_before e =
      ⊎_elim
      (λ t. by-priority (ltb-true p.priority q.priority t))
      (λ t.
      let both = and_both (eqb p.priority q.priority) _ t in
      by_time (eqb-true p.priority q.priority both.0) (earlier both.1))
      (or_split (ltb p.priority q.priority) _ e)
    where
      earlier : (ltb p.draw q.draw || (eqb p.draw q.draw && ltb p.sprite q.sprite)) ≡ true
          → Earlier q.draw q.sprite p
      earlier t =
          ⊎_elim
          (λ h. inl (ltb-true p.draw q.draw h))
          (λ h.
          let both = and_both (eqb p.draw q.draw) (ltb p.sprite q.sprite) h in
          inr (eqb-true p.draw q.draw both.0, ltb-true p.sprite q.sprite both.1))
          (or_split (ltb p.draw q.draw) _ t)

  pub is_before_earlier : p.priority ≤ q.priority → Earlier q.draw q.sprite p → is_before p q ≡ true
  is_before_earlier h u = is_before_before (⊎_elim (λ same. by_time same u) by-priority (eq-or-lt_of_le h))

  -- What comes first has no greater priority.
  pub is_before-le : is_before p q ≡ true → p.priority ≤ q.priority
  is_before-le e = go (before-is_before e)
    where
      go : Before p q → p.priority ≤ q.priority
      go (by-priority h) = omega arith
      go (by_time same h) = omega arith

-- Not both of two pixels come first.
before_once : {p q : Pixel} → Before p q → Before q p → ⊥
before_once (by-priority h) (by-priority u) = omega arith
before_once (by-priority h) (by_time same u) = omega arith
before_once (by_time same h) (by-priority u) = omega arith
before_once (by_time same (inl h)) (by_time same-too (inl u)) = omega arith
before_once (by_time same (inl h)) (by_time same-too (inr u)) = omega (arith, u.0)
before_once (by_time same (inr h)) (by_time same-too (inl u)) = omega (arith, h.0)
before_once (by_time same (inr h)) (by_time same-too (inr u)) = omega (arith, h.1, u.1)

-- There is one winner.
pub wins_once : (ps : List Pixel) (v w : Pixel) → Wins ps v → Wins ps w → v ≡ w
wins_once ps v w a b =
    ⊎_elim (λ same. same)
    (λ w-first.
    ⊎_elim (λ same. sym same)
    (λ v-first. absurd (before_once (before-is_before w v w-first) (before-is_before v w v-first)))
    (a.first w b.among))
    (b.first v a.among)
