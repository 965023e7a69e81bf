-- An array that a closure made, number by number, is the list given by its elements. No contract cites this file.
-- Assumes nothing.
use mathlib.Core.Path.{◌≡◌, subst, ◌∙◌}
use mathlib.Core.List.{List}
use Prim.Native.Nat.{ℕ, zero, suc, ◌+◌, ◌≤◌, ◌<◌}
use mathlib.Core.Logic.{⊎_elim}
use native.Mathlib.Nat.{eq-or-lt_of_le}
use native.Mathlib.Omega.{arith}
use lib.ListN.{get_or}
use denote.Param.Members.{Mut}
use Rattle.std.specs.Fn.{Called}
use Rattle.std.specs.Array.{IsFromFnResult, IsFromFnResultFrom}
use Rattle.rows.specs.Tab.{tab}
use Rattle.rows.proofs.Tab.{tab_ext}

module _ {F B : Type 0} (g : Mut F (ℕ × Unit {0}) B) (h : ℕ → B) where
  -- What a call at a number gives, and that the closure stays as it is.
  abbrev pub Gives : F → ℕ → Type 0
  Gives f n = (i : ℕ) (y : B) (q : F) → i < n → Called g f (i, tt) y q → (y ≡ h i) × (q ≡ f)

  made_at : (f : F) (m : ℕ) → Gives f m → (ys : List B) (i n : ℕ) → i + n ≡ m → IsFromFnResultFrom g f ys i n
      → (d : B) (k : ℕ) → i ≤ k → k < m → get_or ys k d ≡ h k
  made_at f m gives ys i zero e made d k from to = absurd (omega (arith, e, from, to))
  made_at f m gives ys i (suc n) e (q, y, at, called, rest) d k from to =
      let now = gives i y q (omega (arith, e)) called in
      ⊎_elim (λ (k_is : i ≡ k). subst (λ j. get_or ys j d ≡ h j) k_is (at.1 d ∙ now.0))
      (λ past. made_at f m gives ys (i + 1) n (omega (arith, e)) (subst (λ p. IsFromFnResultFrom g p ys (i + 1) n) now.1 rest) d k (omega (arith, past)) to)
      (eq-or-lt_of_le from)

  pub made_tab : (f : F) (ys : List B) (n : ℕ) (d : B) → Gives f n → IsFromFnResult g f ys n → ys ≡ tab h n
  made_tab f ys n d gives made =
      tab_ext h n d ys made.long (λ k k<. made_at f n gives ys 0 n (omega arith) made.each d k (omega arith) k<)
