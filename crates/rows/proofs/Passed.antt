-- Loops over the cells of a row: what each keeps, and what its answers cite. No contract cites this file. Assumes nothing.
use mathlib.Core.Path.{◌≡◌, sym, ap, ◌∙◌}
use mathlib.Core.List.{List}
use Prim.Native.Nat.{ℕ, ◌+◌, ◌*◌, ◌≤◌, ◌<◌}
use native.Mathlib.Omega.{arith}
use lib.ListN.{length}
use Rattle.rows.specs.Below.{between}
use Rattle.rows.specs.Cells.{Codec, only, cell_at, put_cell, row_of, map_row, Exact}
use Rattle.rows.proofs.Below.{between-inside, between_before, between-past}
use Rattle.rows.proofs.Cells.{length_put_cell, length_map_row, map_row_none, map_row_more, map_row_cong, map_row-after}
use Rattle.rows.proofs.Cells.{map_row_rest, map_row_same, put_all-all}

module _ {A : Type 0} {w : ℕ} (c : Codec A w) where
  -- Of n cells the first k are passed: each is f of what it was in l₀.
  pub record Passed (f : ℕ → A → A) (n : ℕ) (l₀ : List ℕ) (k : ℕ) (l : List ℕ) : Type 0 where
    pub bound : k ≤ n
    pub size : length l ≡ w * n
    pub made : l ≡ map_row c f k l₀

  -- Where a loop begins.
  pub started : {f : ℕ → A → A} {n : ℕ} {l : List ℕ} → length l ≡ w * n → Passed f n l 0 l
  started {f} {n} {l} h = record { bound = omega arith; size = h; made = map_row_none c f l }

  -- A turn, which put a in cell k.
  pub turned : {f : ℕ → A → A} {n k : ℕ} {l₀ l m : List ℕ} {a : A}
      → Passed f n l₀ k l → k < n → m ≡ put_cell c l k a → a ≡ f k (cell_at c l k)
      → Passed f n l₀ (k + 1) m
  turned {f} {n} {k} {l₀} {l} {m} {a} p h e s =
      record {
        bound = omega arith;
        size = ap length e ∙ length_put_cell c l k a ∙ p.size;
        made =
            e
            ∙ ap (put_cell c l k) s
            ∙ ap (λ (r : List ℕ). put_cell c r k (f k (cell_at c r k))) p.made
            ∙ map_row_more c f k l₀;
      }

  -- The cells from a up to b, to which the loop does not go.
  pub skipped : {f : ℕ → A → A} {n a : ℕ} {l₀ l : List ℕ} → Passed f n l₀ a l → (b : ℕ) → a ≤ b → b ≤ n
      → ((k : ℕ) → a ≤ k → k < b → Exact c l₀ k)
      → ((k : ℕ) → a ≤ k → k < b → f k (cell_at c l₀ k) ≡ cell_at c l₀ k)
      → Passed f n l₀ b l
  skipped {f} {n} {a} {l₀} {l} p b h u x idle =
      record { bound = u; size = p.size; made = p.made ∙ map_row_rest c f a b l₀ h x idle }

  -- Where an updating loop ends.
  pub updated : {f : ℕ → A → A} {n k : ℕ} {l₀ l : List ℕ} → Passed f n l₀ k l → n ≤ k → l ≡ map_row c f n l₀
  updated {f} {n} {k} {l₀} {l} p h =
      let e : k ≡ n = omega (arith, p.bound) in p.made ∙ ap (λ (j : ℕ). map_row c f j l₀) e

  -- Where an overwriting loop ends.
  pub filled : {f : ℕ → A} {n k : ℕ} {l₀ l : List ℕ} → Passed (λ k _. f k) n l₀ k l → n ≤ k → l ≡ row_of c f n
  filled {f} {n} {k} {l₀} {l} p h =
      let e : length l₀ ≡ w * n = sym (length_map_row c (λ k _. f k) k l₀) ∙ ap length (sym p.made) ∙ p.size in
      updated p h ∙ put_all-all c f n l₀ e

  -- ---- a loop over the cells from left up to right alone

  -- Of n cells those from left up to k are passed, and no loop goes to the others, whose bytes are exact.
  pub record PassedPart (f : ℕ → A → A) (n left right : ℕ) (l₀ : List ℕ) (k : ℕ) (l : List ℕ) : Type 0 where
    pub from : left ≤ k
    pub exact : (j : ℕ) → j < n → Exact c l₀ j
    pub passed : Passed (only (between left right) f) n l₀ k l

  pub passed-from : {f : ℕ → A → A} {n left right : ℕ} {l : List ℕ}
      → length l ≡ w * n → left ≤ n → ((j : ℕ) → j < n → Exact c l j)
      → PassedPart f n left right l left l
  passed-from {f} {n} {left} {right} {l} h u x =
      record {
        from = omega arith;
        exact = x;
        passed =
            skipped (started h) left (omega arith) u
            (λ k p q. x k (omega arith))
            (λ k p q. rw (between_before left right k q));
      }

  pub passed-inside : {f : ℕ → A → A} {n left right k : ℕ} {l₀ l m : List ℕ} {a : A}
      → PassedPart f n left right l₀ k l → k < right → right ≤ n → m ≡ put_cell c l k a → a ≡ f k (cell_at c l k)
      → PassedPart f n left right l₀ (k + 1) m
  passed-inside {f} {n} {left} {right} {k} {l₀} {l} {m} {a} p h u e s =
      record {
        from = omega (arith, p.from);
        exact = p.exact;
        passed = turned p.passed (omega arith) e (rw (between-inside left right k p.from h) s);
      }

  pub passed_to : {f : ℕ → A → A} {n left right k : ℕ} {l₀ l : List ℕ}
      → PassedPart f n left right l₀ k l → right ≤ k
      → l ≡ map_row c (only (between left right) f) n l₀
  passed_to {f} {n} {left} {right} {k} {l₀} {l} p h =
      updated
      (skipped p.passed n p.passed.bound (omega arith)
      (λ j i lt. p.exact j lt)
      (λ j i lt. rw (between-past left right j (omega arith))))
      (omega arith)

  -- ---- a loop over passes

  -- Of count passes over n cells the first s are done, which together make done s k of cell k.
  pub record Composed (done : ℕ → ℕ → A → A) (n count : ℕ) (l₀ : List ℕ) (s : ℕ) (l : List ℕ) : Type 0 where
    pub bound : s ≤ count
    pub size : length l ≡ w * n
    pub made : l ≡ map_row c (done s) n l₀

  pub composed_none : {done : ℕ → ℕ → A → A} {n count : ℕ} {l : List ℕ}
      → length l ≡ w * n → ((k : ℕ) → k < n → Exact c l k) → ((k : ℕ) (a : A) → done 0 k a ≡ a)
      → Composed done n count l 0 l
  composed_none {done} {n} {count} {l} h x idle =
      record { bound = omega arith; size = h; made = sym (map_row_same c (done 0) n l x (λ k lt. idle k _)) }

  -- A turn, which passed over the row by f.
  pub composed_more : {done : ℕ → ℕ → A → A} {n count s : ℕ} {l₀ l m : List ℕ} (f : ℕ → A → A)
      → Composed done n count l₀ s l → s < count → m ≡ map_row c f n l
      → ((k : ℕ) → k < n → (a : A) → f k (done s k a) ≡ done (s + 1) k a)
      → Composed done n count l₀ (s + 1) m
  composed_more {done} {n} {count} {s} {l₀} {l} {m} f p h e step =
      let start : length l₀ ≡ w * n = sym (length_map_row c (done s) n l₀) ∙ ap length (sym p.made) ∙ p.size in
      record {
        bound = omega arith;
        size = ap length e ∙ length_map_row c f n l ∙ p.size;
        made =
            e
            ∙ ap (map_row c f n) p.made
            ∙ map_row-after c (done s) f n l₀ start
            ∙ map_row_cong c _ (done (s + 1)) n l₀ step;
      }

  pub composed-all : {done : ℕ → ℕ → A → A} {n count s : ℕ} {l₀ l : List ℕ}
      → Composed done n count l₀ s l → count ≤ s → l ≡ map_row c (done count) n l₀
  composed-all {done} {n} {count} {s} {l₀} {l} p h =
      let e : s ≡ count = omega (arith, p.bound) in p.made ∙ ap (λ (j : ℕ). map_row c (done j) n l₀) e
