-- The laws of tables whose numbers rise. No contract cites this file. Assumes nothing.
use Prim.Native.Nat.{ℕ, zero, suc, ◌<◌}
use native.Mathlib.Nat.{not-suc-le-zero, le_of_suc-le-suc}
use native.Mathlib.Omega.{arith}
use mathlib.Core.Path.{◌≡◌, refl, sym, ◌∙◌}
use mathlib.Core.Bool.{Bool, true, false, cond, ◌&&◌, true≢false}
use mathlib.Core.List.{List, [], ◌∷◌, ◌++◌}
use mathlib.Core.Logic.{◌≢◌, ◌↔◌, inl, inr, ⊎_elim}
use lib.Dec.{eqb, ltb}
use lib.ListN.{length}
use borrow.Author.Tests.{ltb-true, ne_eqb}
use Rattle.bits.proofs.Booleans.{and_both}
use Rattle.thm_refusals.specs.Table.{Row, row_at, NoneOf, Judged}

-- The number of the first row that applies, and 0 if none does.
abbrev pub first_of : List Row → ℕ
first_of [] = 0
first_of (r ∷ rest) = cond r.applies r.number (first_of rest)

-- Whether the numbers rise, all of them above n.
abbrev pub rises : ℕ → List Row → Bool
rises n [] = true
rises n (r ∷ rest) = ltb n r.number && rises r.number rest

rises_both : (n : ℕ) (r : Row) (rest : List Row) → rises n (r ∷ rest) ≡ true → (n < r.number) × (rises r.number rest ≡ true)
rises_both n r rest up =
    let both = and_both (ltb n r.number) (rises r.number rest) up in (ltb-true n r.number both.0, both.1)

-- Then each is above n.
above_rises : (n : ℕ) (table : List Row) → rises n table ≡ true → (i : ℕ) → i < length table → n < (row_at table i).number
above_rises n [] up i h = absurd (not-suc-le-zero h)
above_rises n (r ∷ rest) up zero h = (rises_both n r rest up).0
above_rises n (r ∷ rest) up (suc i) h =
    let both = rises_both n r rest up in
    omega (arith, both.0, above_rises r.number rest both.1 i (le_of_suc-le-suc h))

module _ (r : Row) (rest : List Row) (low : 0 < r.number)
    (above : (i : ℕ) → i < length rest → r.number < (row_at rest i).number) where
  -- A first row that applies gives its number.
  judged-applies : r.applies ≡ true → Judged (r ∷ rest) r.number
  judged-applies yes-is =
      record {
        one_of = inr (0, omega arith, refl);
        exactly = at;
        none = (λ e. absurd (omega arith), λ h. absurd (true≢false (sym yes-is ∙ h 0 (omega arith))));
      }
    where
      at : (i : ℕ) → i < length (r ∷ rest)
          → (r.number ≡ (row_at (r ∷ rest) i).number) ↔ (((row_at (r ∷ rest) i).applies ≡ true) × NoneOf i (r ∷ rest))
      at zero h = (λ _. (yes-is, λ j lt. absurd (not-suc-le-zero lt)), λ _. refl)
      at (suc i) h = (
        λ e. let later : r.number < (row_at rest i).number = above i (le_of_suc-le-suc h) in absurd (omega arith),
        λ p. absurd (true≢false (sym yes-is ∙ p.1 0 (omega arith))),
      )

  -- One that doesn't leaves the number to the rest.
  judged_not : {number : ℕ} → r.applies ≡ false → Judged rest number → Judged (r ∷ rest) number
  judged_not {number} not_is j =
      record {
        one_of = ⊎_elim (λ z. inl z) (λ p. inr (suc p.0, omega (arith, p.1), p.2)) j.one_of;
        exactly = at;
        none = (λ z. before (length rest) (j.none.0 z), λ h. j.none.1 (after (length rest) h));
      }
    where
      before : (n : ℕ) → NoneOf n rest → NoneOf (suc n) (r ∷ rest)
      before n h zero lt = not_is
      before n h (suc k) lt = h k (le_of_suc-le-suc lt)

      after : (n : ℕ) → NoneOf (suc n) (r ∷ rest) → NoneOf n rest
      after n h k lt = h (suc k) (omega arith)

      other : number ≢ r.number
      other e =
          ⊎_elim (λ z. absurd (omega arith)) (λ p. absurd (omega (arith, above p.0 p.1, p.2))) j.one_of

      at : (i : ℕ) → i < length (r ∷ rest)
          → (number ≡ (row_at (r ∷ rest) i).number) ↔ (((row_at (r ∷ rest) i).applies ≡ true) × NoneOf i (r ∷ rest))
      at zero h = (λ e. absurd (other e), λ p. absurd (true≢false (sym p.0 ∙ not_is)))
      at (suc i) h =
          let same = j.exactly i (le_of_suc-le-suc h) in
          (λ e. let p = same.0 e in (p.0, before i p.1), λ p. same.1 (p.0, after i p.1))

-- A table whose numbers rise gives the number of its first row that applies.
pub judged_first : (n : ℕ) (table : List Row) → rises n table ≡ true → Judged table (first_of table)
judged_first n [] up =
    record {
      one_of = inl refl;
      exactly = λ i h. absurd (not-suc-le-zero h);
      none = (λ _ j h. absurd (not-suc-le-zero h), λ _. refl);
    }
judged_first n (r ∷ rest) up =
    let both = rises_both n r rest up in
    go (omega (arith, both.0)) (above_rises r.number rest both.1) (judged_first r.number rest both.1)
    r.applies refl
  where
    go : 0 < r.number → ((i : ℕ) → i < length rest → r.number < (row_at rest i).number) → Judged rest (first_of rest)
        → (t : Bool) → r.applies ≡ t → Judged (r ∷ rest) (cond t r.number (first_of rest))
    go low above later true e = judged-applies r rest low above e
    go low above later false e = judged_not r rest low above e later

-- Rows after such a table count where none of it applies.
pub first-after : (n : ℕ) (table later : List Row) → rises n table ≡ true
    → first_of (table ++ later) ≡ cond (eqb (first_of table) 0) (first_of later) (first_of table)
first-after n [] later up = refl
first-after n (r ∷ rest) later up =
    let both = rises_both n r rest up in
    go r.applies (ne_eqb r.number 0 (λ e. omega (arith, both.0))) (first-after r.number rest later both.1)
  where
    go : (t : Bool) → eqb r.number 0 ≡ false
        → first_of (rest ++ later) ≡ cond (eqb (first_of rest) 0) (first_of later) (first_of rest)
        → let first = cond t r.number (first_of rest) in
        cond t r.number (first_of (rest ++ later)) ≡ cond (eqb first 0) (first_of later) first
    go true some next = rw some
    go false some next = next
