-- Loops that set the eight elements of a tile a turn, in an array of any type: what each keeps, and what its answers cite. No
-- contract cites this file. Assumes nothing.
use Prim.Native.Nat.{ℕ, suc, ◌+◌, ◌*◌, ◌≤◌, ◌<◌}
use native.Mathlib.Nat.{add-zero}
use native.Mathlib.Omega.{arith}
use mathlib.Core.Path.{◌≡◌, ap, subst, ◌∙◌}
use mathlib.Core.List.{List}
use lib.ListN.{length, get_or, set}
use Rattle.rows.specs.Tab.{tab, map_tab}
use Rattle.rows.proofs.Tab.{get_or-of-tab}
use Rattle.rows.proofs.Tabbed.{set_tile, Mapped, mapped_none, mapped_more, mapped_rest, mapped-all}

module _ {A : Type 0} where
  -- Of n elements those of the first t tiles are set, element j to f j, and the others are as they were in l₀.
  pub record TilesSet (f : ℕ → A) (n : ℕ) (d : A) (l₀ : List A) (t : ℕ) (l : List A) : Type 0 where
    pub passed : Mapped (λ j _. f j) n d l₀ (8 * t) l

  pub tiles_set_none : {f : ℕ → A} {n : ℕ} {d : A} {l : List A} → length l ≡ n → TilesSet f n d l 0 l
  tiles_set_none h = record { passed = mapped_none h }

  -- A turn of the element i + k of several.
  mapped_next : {f : ℕ → A} {n : ℕ} {d : A} {l₀ : List A} (i k : ℕ) {l : List A} {a : A} → Mapped (λ j _. f j) n d l₀ (i + k) l →
      i + k < n → a ≡ f (i + k) → Mapped (λ j _. f j) n d l₀ (i + suc k) (set l (i + k) a)
  mapped_next {f} {n} {d} {l₀} i k {l} {a} p h e =
      let s : i + k + 1 ≡ i + suc k = omega arith in
      subst (λ (m : ℕ). Mapped (λ j _. f j) n d l₀ m (set l (i + k) a)) s (mapped_more p h e)

  -- A turn, which set the elements of tile t to those of its row, whose element r is the one that belongs at 8 * t + r.
  pub tiles_set_more : {f : ℕ → A} {n : ℕ} {d : A} {l₀ : List A} {t : ℕ} {l : List A} (g : ℕ → A) (e : A) (row : List A) →
      TilesSet f n d l₀ t l → 8 * t + 8 ≤ n → row ≡ tab g 8 → ((r : ℕ) → r < 8 → g r ≡ f (8 * t + r)) →
      TilesSet f n d l₀ (t + 1)
      (set_tile l (8 * t) (get_or row 0 e) (get_or row 1 e) (get_or row 2 e) (get_or row 3 e)
      (get_or row 4 e) (get_or row 5 e) (get_or row 6 e) (get_or row 7 e))
  tiles_set_more {f} {n} {d} {l₀} {t} {l} g e row p u row_is same =
      let next : 8 * (t + 1) ≡ 8 * t + 8 = omega arith in
      record {
        passed =
            rw next
            (store 7 (omega arith) (store 6 (omega arith) (store 5 (omega arith) (store 4 (omega arith)
            (store 3 (omega arith) (store 2 (omega arith) (store 1 (omega arith)
            (mapped_more p.passed (omega arith) (value 0 (omega arith) ∙ ap f (add-zero (8 * t)))))))))));
      }
    where
      value : (r : ℕ) → r < 8 → get_or row r e ≡ f (8 * t + r)
      value r r< = get_or-of-tab g 8 r e row_is r< ∙ same r r<

      store : (r : ℕ) {m : List A} → r < 8 → Mapped (λ j _. f j) n d l₀ (8 * t + r) m →
          Mapped (λ j _. f j) n d l₀ (8 * t + suc r) (set m (8 * t + r) (get_or row r e))
      store r r< q = mapped_next (8 * t) r q (omega arith) (value r r<)

  -- The elements of the tiles to which the loop does not go.
  pub tiles_set-all : {f : ℕ → A} {n : ℕ} {d : A} {l₀ : List A} {t : ℕ} {l : List A} → TilesSet f n d l₀ t l → 8 * t ≤ n →
      ((j : ℕ) → 8 * t ≤ j → j < n → f j ≡ get_or l₀ j d) → l ≡ tab f n
  unfolding map_tab
  tiles_set-all {n = n} p u rest = mapped-all (mapped_rest p.passed n u (omega arith) rest) (omega arith)
