-- Laws of rows of cells, of any width, of any type of value and of any number. No contract cites this file. Assumes nothing.
use mathlib.Core.Path.{◌≡◌, refl, sym, ap, ◌∙◌}
use mathlib.Core.List.{List, ◌++◌}
use mathlib.Core.Bool.{Bool, true, false}
use Prim.Native.Nat.{ℕ, zero, suc, ◌+◌, ◌-◌, ◌*◌, ◌≤◌, ◌<◌}
use native.Mathlib.Numerals.{add-one}
use native.Mathlib.Nat.{mul-zero, mul-suc, mul-le-mul_left, not-suc-le-zero}
use native.Mathlib.Omega.{arith}
use lib.Dec.{ltb}
use lib.ListN.{length, length-append}
use borrow.Author.Tests.{ltb-true, ltb-false}
use Rattle.rows.specs.Bytes.{bytes_from, put_from}
use Rattle.rows.specs.Cells.{Codec, cell_at, put_cell, row_of, map_row, put_all, Exact}
use Rattle.rows.proofs.Below.{below_suc}
use Rattle.rows.proofs.Bytes.{length-put_from, put_from_same, bytes_from-put_from_same, bytes_from-put_from_before}
use Rattle.rows.proofs.Bytes.{bytes_from-put_from-past, bytes_from-append_first, bytes_from-append_second, bytes_from_ext}

-- Cells that are not the same do not meet.
apart : (w : ℕ) {j k : ℕ} → j < k → w * j + w ≤ w * k
apart w {j} {k} h = omega (arith, mul-suc w j, mul-le-mul_left w h)

module _ {A : Type 0} {w : ℕ} (c : Codec A w) where
  -- ---- one cell put

  pub length_put_cell : (l : List ℕ) (k : ℕ) (a : A) → length (put_cell c l k a) ≡ length l
  unfolding put_cell
  length_put_cell l k a = length-put_from l (w * k) (c.enc a)

  bytes_put_cell_same : (l : List ℕ) (k : ℕ) (a : A) → w * k + w ≤ length l
      → bytes_from w (put_cell c l k a) (w * k) ≡ c.enc a
  unfolding put_cell
  bytes_put_cell_same l k a h = bytes_from-put_from_same w l (w * k) (c.enc a) (c.length_enc a) h

  bytes_put_cell-other : (l : List ℕ) (k j : ℕ) (a : A) → (j ≡ k → ⊥)
      → bytes_from w (put_cell c l k a) (w * j) ≡ bytes_from w l (w * j)
  unfolding put_cell
  bytes_put_cell-other l k j a h = go (ltb j k) refl
    where
      go : (b : Bool) → ltb j k ≡ b → bytes_from w (put_cell c l k a) (w * j) ≡ bytes_from w l (w * j)
      go true t = bytes_from-put_from_before w l (w * k) (w * j) (c.enc a) (apart w (ltb-true j k t))
      go false t =
          let p : k ≤ j = ltb-false j k t in
          let q : k < j = omega arith in
          bytes_from-put_from-past w l (w * k) (w * j) (c.enc a) (omega (arith, c.length_enc a, apart w q))

  -- A cell put where it stands changes nothing, if its bytes are exact.
  pub put_cell_same : (l : List ℕ) (k : ℕ) → Exact c l k → put_cell c l k (cell_at c l k) ≡ l
  unfolding put_cell
  put_cell_same l k e = ap (put_from l (w * k)) e ∙ put_from_same w l (w * k)

  -- ---- a row given by its cells

  pub length_row_of : (f : ℕ → A) (n : ℕ) → length (row_of c f n) ≡ w * n
  unfolding row_of
  length_row_of f zero = sym (mul-zero w)
  length_row_of f (suc n) =
      length-append (row_of c f n) (c.enc (f n))
      ∙ omega (arith, length_row_of f n, c.length_enc (f n), mul-suc w n)

  bytes_row_of : (f : ℕ → A) (n k : ℕ) → k < n → bytes_from w (row_of c f n) (w * k) ≡ c.enc (f k)
  unfolding row_of
  bytes_row_of f zero = λ k h. absurd (not-suc-le-zero h)
  bytes_row_of f (suc n) =
      below_suc (λ k. bytes_from w (row_of c f (suc n)) (w * k) ≡ c.enc (f k)) n
      (λ k lt.
      bytes_from-append_first w (row_of c f n) (c.enc (f n)) (w * k) (omega (arith, length_row_of f n, apart w lt))
      ∙ bytes_row_of f n k lt)
      (bytes_from-append_second w (row_of c f n) (c.enc (f n)) (w * n) (length_row_of f n) (c.length_enc (f n)))

  pub cell_at_row_of : (f : ℕ → A) (n k : ℕ) → k < n → cell_at c (row_of c f n) k ≡ f k
  unfolding cell_at
  cell_at_row_of f n k h = ap c.dec (bytes_row_of f n k h) ∙ c.dec_enc (f k)

  pub exact_row_of : (f : ℕ → A) (n k : ℕ) → k < n → Exact c (row_of c f n) k
  exact_row_of f n k h = ap c.enc (cell_at_row_of f n k h) ∙ sym (bytes_row_of f n k h)

  pub row_of_cong : (f g : ℕ → A) (n : ℕ) → ((k : ℕ) → k < n → f k ≡ g k) → row_of c f n ≡ row_of c g n
  unfolding row_of
  row_of_cong f g zero h = refl
  row_of_cong f g (suc n) h =
      ap (λ (l : List ℕ). l ++ c.enc (f n)) (row_of_cong f g n (λ k p. h k (omega arith)))
      ∙ ap (λ (a : A). row_of c g n ++ c.enc a) (h n (omega arith))

  -- Two rows are equal if both are exact and each cell's value is the same.
  pub cell_at_ext : (n : ℕ) (l m : List ℕ) → length l ≡ w * n → length m ≡ w * n
      → ((k : ℕ) → k < n → Exact c l k) → ((k : ℕ) → k < n → Exact c m k)
      → ((k : ℕ) → k < n → cell_at c l k ≡ cell_at c m k)
      → l ≡ m
  cell_at_ext n l m e u p q h = bytes_from_ext w l m n e u (λ k lt. sym (p k lt) ∙ ap c.enc (h k lt) ∙ q k lt)

  -- A row is that of f if it is exact and each cell's value is f's.
  pub row_of_ext : (f : ℕ → A) (n : ℕ) (l : List ℕ) → length l ≡ w * n
      → ((k : ℕ) → k < n → Exact c l k) → ((k : ℕ) → k < n → cell_at c l k ≡ f k)
      → l ≡ row_of c f n
  row_of_ext f n l e p h =
      cell_at_ext n l (row_of c f n) e (length_row_of f n) p (exact_row_of f n)
      (λ k lt. h k lt ∙ sym (cell_at_row_of f n k lt))

  -- ---- a pass over the cells below n

  pub length_map_row : (f : ℕ → A → A) (n : ℕ) (l : List ℕ) → length (map_row c f n l) ≡ length l
  unfolding map_row
  length_map_row f zero l = refl
  length_map_row f (suc n) l = length_put_cell (map_row c f n l) n _ ∙ length_map_row f n l

  pub map_row_none : (f : ℕ → A → A) (l : List ℕ) → l ≡ map_row c f 0 l
  unfolding map_row
  map_row_none f l = refl

  pub map_row_more : (f : ℕ → A → A) (n : ℕ) (l : List ℕ)
      → put_cell c (map_row c f n l) n (f n (cell_at c (map_row c f n l) n)) ≡ map_row c f (n + 1) l
  unfolding map_row
  map_row_more f n l = ap (λ (k : ℕ). map_row c f k l) (sym (add-one n))

  pub map_row_cong : (f g : ℕ → A → A) (n : ℕ) (l : List ℕ) → ((k : ℕ) → k < n → (a : A) → f k a ≡ g k a)
      → map_row c f n l ≡ map_row c g n l
  unfolding map_row
  map_row_cong f g zero l h = refl
  map_row_cong f g (suc n) l h =
      ap (λ (m : List ℕ). put_cell c m n (f n (cell_at c m n))) (map_row_cong f g n l (λ k p. h k (omega arith)))
      ∙ ap (put_cell c (map_row c g n l) n) (h n (omega arith) _)

  -- A cell not reached is as it was, and one passed is f of what it was.
  bytes_map_row-past : (f : ℕ → A → A) (n : ℕ) (l : List ℕ) (k : ℕ) → n ≤ k
      → bytes_from w (map_row c f n l) (w * k) ≡ bytes_from w l (w * k)
  unfolding map_row
  bytes_map_row-past f zero l k h = refl
  bytes_map_row-past f (suc n) l k h =
      bytes_put_cell-other (map_row c f n l) n k _ (omega arith)
      ∙ bytes_map_row-past f n l k (omega arith)

  pub cell_at_map_row-past : (f : ℕ → A → A) (n : ℕ) (l : List ℕ) (k : ℕ) → n ≤ k
      → cell_at c (map_row c f n l) k ≡ cell_at c l k
  unfolding cell_at
  cell_at_map_row-past f n l k h = ap c.dec (bytes_map_row-past f n l k h)

  pub exact_map_row-past : (f : ℕ → A → A) (n : ℕ) (l : List ℕ) (k : ℕ) → n ≤ k → Exact c l k → Exact c (map_row c f n l) k
  exact_map_row-past f n l k h x =
      ap c.enc (cell_at_map_row-past f n l k h) ∙ x ∙ sym (bytes_map_row-past f n l k h)

  bytes_map_row : (f : ℕ → A → A) (n : ℕ) (l : List ℕ) → w * n ≤ length l → (k : ℕ) → k < n
      → bytes_from w (map_row c f n l) (w * k) ≡ c.enc (f k (cell_at c l k))
  unfolding map_row
  bytes_map_row f zero l h = λ k lt. absurd (not-suc-le-zero lt)
  bytes_map_row f (suc n) l h =
      below_suc (λ k. bytes_from w (map_row c f (suc n) l) (w * k) ≡ c.enc (f k (cell_at c l k))) n
      (λ k lt.
      bytes_put_cell-other (map_row c f n l) n k _ (omega arith)
      ∙ bytes_map_row f n l (omega (arith, mul-suc w n)) k lt)
      (bytes_put_cell_same (map_row c f n l) n _ (omega (arith, length_map_row f n l, mul-suc w n))
      ∙ ap (λ (a : A). c.enc (f n a)) (cell_at_map_row-past f n l n (omega arith)))

  pub cell_at_map_row : (f : ℕ → A → A) (n : ℕ) (l : List ℕ) → w * n ≤ length l → (k : ℕ) → k < n
      → cell_at c (map_row c f n l) k ≡ f k (cell_at c l k)
  unfolding cell_at
  cell_at_map_row f n l h k lt = ap c.dec (bytes_map_row f n l h k lt) ∙ c.dec_enc (f k (cell_at c l k))

  pub exact_map_row : (f : ℕ → A → A) (n : ℕ) (l : List ℕ) → w * n ≤ length l → (k : ℕ) → k < n
      → Exact c (map_row c f n l) k
  exact_map_row f n l h k lt = ap c.enc (cell_at_map_row f n l h k lt) ∙ sym (bytes_map_row f n l h k lt)

  -- A pass over the whole row is the row of what it makes of each cell; one that overwrites leaves nothing of the old row.
  pub map_row-all : (f : ℕ → A → A) (n : ℕ) (l : List ℕ) → length l ≡ w * n
      → map_row c f n l ≡ row_of c (λ k. f k (cell_at c l k)) n
  map_row-all f n l e =
      row_of_ext (λ k. f k (cell_at c l k)) n (map_row c f n l) (length_map_row f n l ∙ e)
      (exact_map_row f n l (omega arith))
      (cell_at_map_row f n l (omega arith))

  pub put_all-all : (f : ℕ → A) (n : ℕ) (l : List ℕ) → length l ≡ w * n → put_all c f n l ≡ row_of c f n
  put_all-all f n l e = map_row-all (λ k _. f k) n l e

  -- Two passes are the same if they make the same of each cell that the row has.
  pub map_row_ext : (f g : ℕ → A → A) (n : ℕ) (l : List ℕ) → length l ≡ w * n
      → ((k : ℕ) → k < n → f k (cell_at c l k) ≡ g k (cell_at c l k))
      → map_row c f n l ≡ map_row c g n l
  map_row_ext f g n l e h = map_row-all f n l e ∙ row_of_cong _ _ n h ∙ sym (map_row-all g n l e)

  -- One pass after another is one pass of both.
  pub map_row-after : (f g : ℕ → A → A) (n : ℕ) (l : List ℕ) → length l ≡ w * n
      → map_row c g n (map_row c f n l) ≡ map_row c (λ k a. g k (f k a)) n l
  map_row-after f g n l e =
      map_row-all g n (map_row c f n l) (length_map_row f n l ∙ e)
      ∙ row_of_cong _ _ n (λ k lt. ap (g k) (cell_at_map_row f n l (omega arith) k lt))
      ∙ sym (map_row-all (λ k a. g k (f k a)) n l e)

  -- Cells that f leaves as they are need no turn, if their bytes are exact: from a on n of them, and from a up to b.
  map_row_idle : (f : ℕ → A → A) (a n : ℕ) (l : List ℕ)
      → ((k : ℕ) → a ≤ k → k < a + n → Exact c l k)
      → ((k : ℕ) → a ≤ k → k < a + n → f k (cell_at c l k) ≡ cell_at c l k)
      → map_row c f a l ≡ map_row c f (a + n) l
  unfolding map_row
  map_row_idle f a zero l p h = let e : a ≡ a + 0 = omega arith in ap (λ (k : ℕ). map_row c f k l) e
  map_row_idle f a (suc n) l p h =
      let e : a + suc n ≡ suc (a + n) = omega arith in
      let m : List ℕ = map_row c f (a + n) l in
      let v : cell_at c m (a + n) ≡ cell_at c l (a + n) = cell_at_map_row-past f (a + n) l (a + n) (omega arith) in
      let x : Exact c m (a + n) = exact_map_row-past f (a + n) l (a + n) (omega arith) (p (a + n) (omega arith) (omega arith)) in
      map_row_idle f a n l (λ k i j. p k i (omega arith)) (λ k i j. h k i (omega arith))
      ∙ sym (put_cell_same m (a + n) x)
      ∙ ap (put_cell c m (a + n)) (v ∙ sym (h (a + n) (omega arith) (omega arith)) ∙ ap (f (a + n)) (sym v))
      ∙ ap (λ (k : ℕ). map_row c f k l) (sym e)

  pub map_row_rest : (f : ℕ → A → A) (a b : ℕ) (l : List ℕ) → a ≤ b
      → ((k : ℕ) → a ≤ k → k < b → Exact c l k)
      → ((k : ℕ) → a ≤ k → k < b → f k (cell_at c l k) ≡ cell_at c l k)
      → map_row c f a l ≡ map_row c f b l
  map_row_rest f a b l h p idle =
      let e : a + (b - a) ≡ b = omega arith in
      map_row_idle f a (b - a) l (λ k i j. p k i (omega arith)) (λ k i j. idle k i (omega arith))
      ∙ ap (λ (n : ℕ). map_row c f n l) e

  -- A pass that leaves each cell leaves the row.
  pub map_row_same : (f : ℕ → A → A) (n : ℕ) (l : List ℕ)
      → ((k : ℕ) → k < n → Exact c l k) → ((k : ℕ) → k < n → f k (cell_at c l k) ≡ cell_at c l k)
      → map_row c f n l ≡ l
  map_row_same f n l p idle =
      sym (map_row_none f l ∙ map_row_rest f 0 n l (omega arith) (λ k i j. p k j) (λ k i j. idle k j))
