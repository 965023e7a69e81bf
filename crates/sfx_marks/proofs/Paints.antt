-- Laws of a row with columns given to another row, so that they have its words. No contract cites this file. Assumes nothing.
use Prim.Native.Nat.{ℕ, ◌+◌, ◌-◌, ◌*◌, ◌/◌, ◌%◌, ◌^◌, ◌≤◌, ◌<◌}
use native.Mathlib.Decide.{dec_lt}
use native.Mathlib.Omega.{arith}
use mathlib.Core.Path.{◌≡◌, refl, sym, ap, ap₂, ◌∙◌}
use mathlib.Core.Bool.{Bool, true, false, cond, ◌&&◌, ◌||◌, and-false, or-false}
use mathlib.Core.List.{List}
use lib.Dec.{eqb}
use lib.ListN.{length, get_or, set}
use lib.Pow.{shr-shr}
use borrow.Author.Tests.{lt-ltb, le-ltb, lt-leb, le-leb}
use Rattle.rows.specs.Below.{between}
use Rattle.rows.specs.Cells.{only}
use Rattle.rows.specs.Tab.{tab, map_tab}
use Rattle.rows.proofs.Below.{between-inside, between_before, between-past}
use Rattle.rows.proofs.Tab.{length-tab, get_or-tab, get_or-of-tab, tab_cong, tab_ext}
use Rattle.rows.proofs.Tabbed.{mapped-from, mapped-inside, mapped_to}
use Rattle.sfx_marks.specs.Code.{is_set, marked, marked_in, given_row}
use Rattle.sfx_marks.proofs.Bits.{is_set_none, is_set_shift, is_set_low}
use Rattle.sfx_marks.proofs.Marked.{marked-word}

-- ---- a row with columns of another

cond_or : (s t : Bool) (a b : ℕ) → cond s a (cond t a b) ≡ cond (s || t) a b
cond_or true t a b = refl
cond_or false t a b = refl

cond_and : (s t : Bool) (a b : ℕ) → cond s (cond t a b) b ≡ cond (s && t) a b
cond_and true t a b = refl
cond_and false t a b = refl

module _ (other : List ℕ) where
  -- No column is given.
  pub given_none : (test : ℕ → Bool) {row : List ℕ} → length row ≡ 240 → ((k : ℕ) → test k ≡ false)
      → row ≡ given_row test other row
  unfolding given_row map_tab
  given_none test {row} size none = tab_ext _ 240 0 row size (λ k lt. rw (none k))

  pub length-given : (test : ℕ → Bool) (row : List ℕ) {l : List ℕ} → l ≡ given_row test other row → length l ≡ 240
  unfolding given_row map_tab
  length-given test row e = ap length e ∙ length-tab _ 240

  given_cong : (p q : ℕ → Bool) (row : List ℕ) → ((k : ℕ) → k < 240 → p k ≡ q k) → given_row p other row ≡ given_row q other row
  unfolding given_row map_tab
  given_cong p q row same = tab_cong _ _ 240 (λ k lt. rw (same k lt))

  given-after : (p q : ℕ → Bool) (row : List ℕ)
      → given_row p other (given_row q other row) ≡ given_row (λ k. p k || q k) other row
  unfolding given_row map_tab
  given-after p q row =
      tab_cong _ _ 240 (λ k lt.
      ap (cond (p k) (get_or other k 0)) (get_or-tab _ 240 k 0 lt) ∙ cond_or (p k) (q k) (get_or other k 0) (get_or row k 0))

-- The row, an element at a time.
pub tab-given : (test : ℕ → Bool) (f g : ℕ → ℕ) {other row : List ℕ} → other ≡ tab f 240 → row ≡ tab g 240
    → given_row test other row ≡ tab (λ k. cond (test k) (f k) (g k)) 240
unfolding given_row map_tab
tab-given test f g d e =
    tab_cong _ _ 240 (λ k lt. ap₂ (cond (test k)) (get_or-of-tab f 240 k 0 d lt) (get_or-of-tab g 240 k 0 e lt))

-- ---- a part of the columns after another

module _ (t u : ℕ → Bool) (a b c : ℕ) (near : a ≤ b) (far : b ≤ c) (same : (k : ℕ) → b ≤ k → k < c → u k ≡ t k) where
  -- What lies in the second part or in the first lies in both together.
  between-after : (k : ℕ) → Dec (k < b) → Dec (k < c)
      → ((between b c k && u k) || (between a b k && t k)) ≡ (between a c k && t k)
  unfolding between
  between-after k (yes h) l = rw (lt-leb b k h, lt-ltb k b h, lt-ltb k c (omega arith))
  between-after k (no h) (yes l) =
      let past : b ≤ k = omega arith in
      rw (le-leb b k past, le-leb a k (omega arith), le-ltb k b past, lt-ltb k c l, same k past l) (or-false (t k))
  between-after k (no h) (no l) =
      rw (le-leb b k (omega arith), le-leb a k (omega arith), le-ltb k c (omega arith), le-ltb k b (omega arith))

  pub given_more : (other row₀ : List ℕ) {row next : List ℕ}
      → row ≡ given_row (λ k. between a b k && t k) other row₀
      → next ≡ given_row (λ k. between b c k && u k) other row
      → next ≡ given_row (λ k. between a c k && t k) other row₀
  given_more other row₀ e f =
      f
      ∙ ap (given_row (λ k. between b c k && u k) other) e
      ∙ given-after other _ _ row₀
      ∙ given_cong other _ _ row₀ (λ k lt. between-after k (dec_lt k b) (dec_lt k c))

-- ---- the columns of one word

-- A store gives one column, by the lowest mark that is left.
pub given_one : (other row : List ℕ) (left x : ℕ) {word a : ℕ} → length row ≡ 240 → x < 240 → word ≡ get_or other x 0
    → a ≡ cond (eqb (left % 2) 1) word (get_or row x 0)
    → set row x a ≡ given_row (marked_in (left % 2) x (x + 1)) other row
unfolding given_row map_tab is_set
given_one other row left x size h word-is e =
    let none : x - x ≡ 0 = omega arith in
    let lowest : left % 2 / 2 ^ (x - x) % 2 ≡ left % 2 = rw none (omega arith) in
    mapped_to
    (mapped-inside
    (mapped-from {f = only (λ k. is_set (left % 2) (k - x)) (λ k _. get_or other k 0)} {d = 0} {l = row} size (omega arith))
    (omega arith) (omega arith) (rw (lowest, sym word-is) e))
    (omega arith)
    ∙ tab_cong _ _ 240 (λ k lt. cond_and (between x (x + 1) k) _ _ _)

-- A word without marks marks none.
pub marked_in_none : (first end k : ℕ) → marked_in 0 first end k ≡ false
marked_in_none first end k = rw (is_set_none (k - first)) (and-false (between first end k))

between_none : (a k : ℕ) → Dec (k < a) → between a a k ≡ false
between_none a k (yes h) = between_before a a k h
between_none a k (no h) = between-past a a k (omega arith)

-- Of the columns from first on and before end those before x are passed, and left has the marks of the others.
pub record Painted (other : List ℕ) (marks first end : ℕ) (row₀ row : List ℕ) (left x : ℕ) : Type 0 where
  pub from : first ≤ x
  pub bound : x ≤ end
  pub left_is : left ≡ marks / 2 ^ (x - first)
  pub given : row ≡ given_row (marked_in marks first x) other row₀

module _ (other : List ℕ) (marks first end : ℕ) where
  pub painted_none : {row : List ℕ} → length row ≡ 240 → first ≤ end → Painted other marks first end row row marks first
  painted_none size h =
      let d : first - first ≡ 0 = omega arith in
      record {
        from = omega arith;
        bound = h;
        left_is = rw d (omega arith);
        given = given_none other (marked_in marks first first) size (λ k. rw (between_none first k (dec_lt k first)));
      }

  -- A turn, which gave n columns by the lowest marks that were left.
  pub painted_more : (row₀ : List ℕ) (n : ℕ) {row next : List ℕ} {left x : ℕ} → Painted other marks first end row₀ row left x
      → x + n ≤ end
      → next ≡ given_row (marked_in (left % 2 ^ n) x (x + n)) other row
      → Painted other marks first end row₀ next (left / 2 ^ n) (x + n)
  painted_more row₀ n {row} {next} {left} {x} p h e =
      let from = p.from in
      let past : x - first + n ≡ x + n - first = omega arith in
      record {
        from = omega arith;
        bound = h;
        left_is = ap (λ (w : ℕ). w / 2 ^ n) p.left_is ∙ shr-shr marks (x - first) n ∙ ap (λ (m : ℕ). marks / 2 ^ m) past;
        given = given_more _ _ first x (x + n) from (omega arith) same other row₀ p.given e;
      }
    where
      same : (k : ℕ) → x ≤ k → k < x + n → is_set (left % 2 ^ n) (k - x) ≡ is_set marks (k - first)
      same k near far =
          let from = p.from in
          let place : x - first + (k - x) ≡ k - first = omega arith in
          is_set_low n left (k - x) (omega arith)
          ∙ ap (λ (w : ℕ). is_set w (k - x)) p.left_is
          ∙ is_set_shift marks (x - first) (k - x)
          ∙ ap (is_set marks) place

  pub painted-all : (row₀ : List ℕ) {row : List ℕ} {left x : ℕ} → Painted other marks first end row₀ row left x → end ≤ x
      → row ≡ given_row (marked_in marks first end) other row₀
  painted-all row₀ {row} {left} {x} p h =
      let e : x ≡ end = omega (arith, p.bound) in
      p.given ∙ ap (λ (n : ℕ). given_row (marked_in marks first n) other row₀) e

-- ---- the columns of four words

module _ (other ws row₀ : List ℕ) where
  -- The marked columns before end are given.
  abbrev pub GivenTo : ℕ → List ℕ → Type 0
  GivenTo end row = row ≡ given_row (λ k. between 0 end k && marked ws k) other row₀

  pub given_to_none : length row₀ ≡ 240 → GivenTo 0 row₀
  given_to_none size = given_none other _ size (λ k. ap (λ (b : Bool). b && marked ws k) (between_none 0 k (dec_lt k 0)))

  -- One word more.
  pub given_to_more : (i end : ℕ) {row next : List ℕ} → 64 * i ≤ end → end ≤ 64 * i + 64 → GivenTo (64 * i) row
      → next ≡ given_row (marked_in (get_or ws i 0) (64 * i) end) other row
      → GivenTo end next
  given_to_more i end h u = given_more (marked ws) _ 0 (64 * i) end (omega arith) h same other row₀
    where
      same : (k : ℕ) → 64 * i ≤ k → k < end → is_set (get_or ws i 0) (k - 64 * i) ≡ marked ws k
      same k near far =
          let place : 64 * i + (k - 64 * i) ≡ k = omega arith in
          sym (marked-word ws i (k - 64 * i) (omega arith)) ∙ ap (marked ws) place

  pub given_to-all : {row : List ℕ} → GivenTo 240 row → row ≡ given_row (marked ws) other row₀
  given_to-all e =
      e
      ∙ given_cong other _ _ row₀ (λ k lt. ap (λ (b : Bool). b && marked ws k) (between-inside 0 240 k (omega arith) lt))
