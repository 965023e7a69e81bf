-- Loops over the elements of an array, of any type: what each keeps, and what its answers cite. No contract cites this file.
-- Assumes nothing.
use mathlib.Core.Path.{◌≡◌, refl, sym, ap, ◌∙◌}
use mathlib.Core.Bool.{Bool, true, false}
use mathlib.Core.List.{List}
use Prim.Native.Nat.{ℕ, ◌+◌, ◌≤◌, ◌<◌}
use native.Mathlib.Nat.{not-suc-le-zero}
use native.Mathlib.Omega.{arith}
use lib.Dec.{ltb}
use lib.ListN.{length, get_or, set, length-set}
use lib.Seq.{get_or-set_same, get_or-set_other}
use borrow.Author.Count.{below_more}
use borrow.Author.Tests.{ltb-true, ltb-false}
use Rattle.rows.specs.Below.{between}
use Rattle.rows.specs.Cells.{only}
use Rattle.rows.specs.Tab.{map_tab}
use Rattle.rows.proofs.Below.{between-inside, between_before, between-past}
use Rattle.rows.proofs.Tab.{tab_ext}

module _ {A : Type 0} where
  -- The eight elements from i on set to a, b, .., as eight stores of code do.
  abbrev pub set_tile : List A → ℕ → A → A → A → A → A → A → A → A → List A
  set_tile l i a b c d e g h j =
      set (set (set (set (set (set (set (set l i a) (i + 1) b) (i + 2) c) (i + 3) d) (i + 4) e) (i + 5) g) (i + 6) h) (i + 7) j

  -- ---- a loop that overwrites an array eight elements a turn, as a tile has

  -- ---- a loop that updates an array

  -- Of n elements the first k are passed, each made f of what it was in l₀, and the others are as they were.
  pub record Mapped (f : ℕ → A → A) (n : ℕ) (d : A) (l₀ : List A) (k : ℕ) (l : List A) : Type 0 where
    pub bound : k ≤ n
    pub size : length l ≡ n
    pub made : (j : ℕ) → j < k → get_or l j d ≡ f j (get_or l₀ j d)
    pub kept : (j : ℕ) → k ≤ j → get_or l j d ≡ get_or l₀ j d

  pub mapped_none : {f : ℕ → A → A} {n : ℕ} {d : A} {l : List A} → length l ≡ n → Mapped f n d l 0 l
  mapped_none h =
      record { bound = omega arith; size = h; made = λ j lt. absurd (not-suc-le-zero lt); kept = λ j h. refl }

  pub mapped_more : {f : ℕ → A → A} {n k : ℕ} {d : A} {l₀ l : List A} {a : A}
      → Mapped f n d l₀ k l → k < n → a ≡ f k (get_or l k d)
      → Mapped f n d l₀ (k + 1) (set l k a)
  mapped_more {f} {n} {k} {d} {l₀} {l} {a} p h e =
      record {
        bound = omega arith;
        size = length-set l k a ∙ p.size;
        made =
            below_more (λ j. get_or (set l k a) j d ≡ f j (get_or l₀ j d)) k
            (λ j lt. get_or-set_other l k j a d (omega arith) ∙ p.made j lt)
            (get_or-set_same l k a d (omega (arith, p.size)) ∙ e ∙ ap (f k) (p.kept k (omega arith)));
        kept = λ j u. get_or-set_other l k j a d (omega arith) ∙ p.kept j (omega arith);
      }

  -- The elements from a up to b, to which the loop does not go.
  pub mapped_rest : {f : ℕ → A → A} {n a : ℕ} {d : A} {l₀ l : List A} → Mapped f n d l₀ a l → (b : ℕ) → a ≤ b → b ≤ n
      → ((k : ℕ) → a ≤ k → k < b → f k (get_or l₀ k d) ≡ get_or l₀ k d)
      → Mapped f n d l₀ b l
  mapped_rest {f} {n} {a} {d} {l₀} {l} p b h u idle =
      record { bound = u; size = p.size; made = λ j lt. go j lt (ltb j a) refl; kept = λ j s. p.kept j (omega arith) }
    where
      go : (j : ℕ) → j < b → (t : Bool) → ltb j a ≡ t → get_or l j d ≡ f j (get_or l₀ j d)
      go j lt true t = p.made j (ltb-true j a t)
      go j lt false t = let s : a ≤ j = ltb-false j a t in p.kept j s ∙ sym (idle j s lt)

  pub mapped-all : {f : ℕ → A → A} {n k : ℕ} {d : A} {l₀ l : List A} → Mapped f n d l₀ k l → n ≤ k
      → l ≡ map_tab f n d l₀
  unfolding map_tab
  mapped-all {f} {n} {k} {d} {l₀} {l} p h =
      tab_ext (λ j. f j (get_or l₀ j d)) n d l p.size (λ j lt. p.made j (omega (arith, p.bound)))

  -- ---- a loop over the elements from left up to right alone

  -- Of n elements those from left up to k are passed, and no loop goes to the others.
  pub record MappedPart (f : ℕ → A → A) (n left right : ℕ) (d : A) (l₀ : List A) (k : ℕ) (l : List A) : Type 0 where
    pub from : left ≤ k
    pub passed : Mapped (only (between left right) f) n d l₀ k l

  pub mapped-from : {f : ℕ → A → A} {n left right : ℕ} {d : A} {l : List A} → length l ≡ n → left ≤ n
      → MappedPart f n left right d l left l
  mapped-from {f} {n} {left} {right} h u =
      record {
        from = omega arith;
        passed = mapped_rest (mapped_none h) left (omega arith) u (λ k p q. rw (between_before left right k q));
      }

  pub mapped-inside : {f : ℕ → A → A} {n left right k : ℕ} {d : A} {l₀ l : List A} {a : A}
      → MappedPart f n left right d l₀ k l → k < right → right ≤ n → a ≡ f k (get_or l k d)
      → MappedPart f n left right d l₀ (k + 1) (set l k a)
  mapped-inside {f} {n} {left} {right} {k} p h u e =
      record {
        from = omega (arith, p.from);
        passed = mapped_more p.passed (omega arith) (rw (between-inside left right k p.from h) e);
      }

  pub mapped_to : {f : ℕ → A → A} {n left right k : ℕ} {d : A} {l₀ l : List A}
      → MappedPart f n left right d l₀ k l → right ≤ k
      → l ≡ map_tab (only (between left right) f) n d l₀
  mapped_to {f} {n} {left} {right} p h =
      mapped-all
      (mapped_rest p.passed n p.passed.bound (omega arith) (λ j i lt. rw (between-past left right j (omega arith))))
      (omega arith)
