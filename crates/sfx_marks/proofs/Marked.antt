-- Laws of the marks of columns, 64 in a word. No contract cites this file. Assumes nothing.
use Prim.Native.Nat.{ℕ, suc, ◌+◌, ◌-◌, ◌*◌, ◌/◌, ◌%◌, ◌^◌, ◌≤◌, ◌<◌, min}
use native.Mathlib.Omega.{arith}
use mathlib.Core.Path.{◌≡◌, sym, ap, ap₂, ◌∙◌}
use mathlib.Core.Bool.{Bool, cond, not, ◌&&◌, ◌||◌}
use mathlib.Core.List.{List}
use lib.Bits.{bit_and, bit_or, and_le_l, or_lt}
use lib.Count.{ones}
use lib.ListN.{get_or}
use lib.Pow.{pow_pos, pow_mono}
use mir.Syntax.{w64}
use mir.Val.{Fits}
use Rattle.bits.proofs.Booleans.{leb_same}
use Rattle.rows.specs.Below.{tally, count_below, between}
use Rattle.rows.proofs.Below.{tally_none, tally-add, tally_cong}
use Rattle.rows.specs.Tab.{tab}
use Rattle.rows.proofs.Tab.{get_or-of-tab}
use Rattle.sfx_marks.specs.Code.{is_set, marked, count_marks, Clean, MarksOf, holds}
use Rattle.sfx_marks.specs.declared.columns.Columns.{Columns}
use Rattle.sfx_marks.proofs.Bits.{is_set_or, is_set_and, is_set_not, is_set-between, ones-count}

-- Column j of word i.
pub marked-word : (ws : List ℕ) (i j : ℕ) → j < 64 → marked ws (64 * i + j) ≡ is_set (get_or ws i 0) j
unfolding marked
marked-word ws i j h =
    let d : (64 * i + j) / 64 ≡ i = omega arith in
    let m : (64 * i + j) % 64 ≡ j = omega arith in
    rw (d, m)

-- ---- the count of marks is that of ones

-- Word i has the marks of its n columns.
ones-word : (ws : List ℕ) (i n : ℕ) → n ≤ 64 → get_or ws i 0 < 2 ^ n
    → ones (get_or ws i 0) ≡ count_below (λ k. marked ws (64 * i + k)) n
ones-word ws i n h few =
    ones-count n (get_or ws i 0) few
    ∙ tally_cong _ _ n (λ k lt. ap (λ (t : Bool). cond t 1 0) (sym (marked-word ws i k (omega arith))))

tally_words : (f : ℕ → ℕ)
    → tally f 240
    ≡ tally (λ k. f (0 + k)) 64 + tally (λ k. f (64 + k)) 64 + tally (λ k. f (128 + k)) 64 + tally (λ k. f (192 + k)) 48
tally_words f =
    omega (arith, tally_none f, tally-add f 0 64, tally-add f 64 64, tally-add f 128 64, tally-add f 192 48)

pub count_marks_ones : (ws : List ℕ) → ((i : ℕ) → Fits w64 (get_or ws i 0)) → Clean ws
    → ones (get_or ws 0 0) + ones (get_or ws 1 0) + ones (get_or ws 2 0) + ones (get_or ws 3 0) ≡ count_marks ws
count_marks_ones ws few clean =
    omega (
      arith,
      ones-word ws 0 64 (omega arith) (few 0).fits,
      ones-word ws 1 64 (omega arith) (few 1).fits,
      ones-word ws 2 64 (omega arith) (few 2).fits,
      ones-word ws 3 48 (omega arith) clean,
      tally_words (λ k. cond (marked ws k) 1 0),
    )

-- ---- words given by their index

module _ (word : ℕ → ℕ) {ws : List ℕ} (ws-are : ws ≡ tab word 4) where
  -- They mark what their bits say.
  marks_of_words : (test : ℕ → Bool) → ((i j : ℕ) → j < 64 → is_set (word i) j ≡ test (64 * i + j)) → MarksOf test ws
  unfolding marked
  marks_of_words test same =
      record {
        same = λ k lt.
            let place : 64 * (k / 64) + k % 64 ≡ k = omega arith in
            ap (λ (w : ℕ). is_set w (k % 64)) (get_or-of-tab word 4 (k / 64) 0 ws-are (omega arith))
            ∙ same (k / 64) (k % 64) (omega arith)
            ∙ ap test place;
      }

  clean_words : word 3 < 2 ^ 48 → Clean ws
  clean_words few = rw (get_or-of-tab word 4 3 0 ws-are (omega arith)) few

-- ---- the marks of columns

-- Those in one word, whose 64 columns start at first.
abbrev marks_in : Columns → ℕ → ℕ
marks_in c first = 2 ^ min 64 (c.right - first) - 2 ^ min 64 (c.left - first)

-- The marks below a left edge are among those below a right one.
pub low_bound : (left right first : ℕ) → left ≤ right → 2 ^ min 64 (left - first) ≤ 2 ^ min 64 (right - first)
low_bound left right first ordered = pow_mono (omega arith)

-- Column j of the word is the line's column first + j.
between-word : (left right first j : ℕ) → j < 64
    → between (min 64 (left - first)) (min 64 (right - first)) j ≡ between left right (first + j)
unfolding between
between-word left right first j h =
    ap₂ ◌&&◌
    (leb_same (min 64 (left - first)) j left (first + j) (λ p. omega arith) (λ p. omega arith))
    (leb_same (suc j) (min 64 (right - first)) (suc (first + j)) right (λ p. omega arith) (λ p. omega arith))

module _ (c : Columns) where
  is_set-marks_in : (first j : ℕ) → j < 64 → is_set (marks_in c first) j ≡ holds c (first + j)
  is_set-marks_in first j h =
      let ordered = c.ordered in
      is_set-between (min 64 (c.left - first)) (min 64 (c.right - first)) j (omega arith)
      ∙ between-word c.left c.right first j h

  -- The fourth word has 48 of the line.
  clean-marks_in : marks_in c 192 < 2 ^ 48
  clean-marks_in =
      let bound = c.bound in
      let few : min 64 (c.right - 192) ≤ 48 = omega arith in
      omega (arith, pow_mono few, pow_pos (min 64 (c.left - 192)))

  abbrev word : ℕ → ℕ
  word i = marks_in c (64 * i)

  pub marks_of_columns : {ws : List ℕ} → ws ≡ tab word 4 → MarksOf (holds c) ws
  marks_of_columns ws-are = marks_of_words word ws-are (holds c) (λ i j lt. is_set-marks_in (64 * i) j lt)

  pub clean_of_columns : {ws : List ℕ} → ws ≡ tab word 4 → Clean ws
  clean_of_columns ws-are = clean_words word ws-are clean-marks_in

-- ---- the marks of two

module _ (ws vs : List ℕ) (clean : Clean ws) where
  -- Those of the one without those of the other.
  abbrev free : ℕ → ℕ
  free i = bit_and (get_or ws i 0) ((2 ^ 64 - 1) - get_or vs i 0)

  pub marks_of_free : {r : List ℕ} → ((i : ℕ) → Fits w64 (get_or vs i 0)) → r ≡ tab free 4
      → MarksOf (λ k. marked ws k && not (marked vs k)) r
  marks_of_free few r-is =
      marks_of_words free r-is _
      (λ i j lt.
      is_set_and (get_or ws i 0) ((2 ^ 64 - 1) - get_or vs i 0) j
      ∙ ap₂ ◌&&◌
      (sym (marked-word ws i j lt))
      (is_set_not 64 (get_or vs i 0) j (few i).fits lt ∙ ap not (sym (marked-word vs i j lt))))

  pub clean_of_free : {r : List ℕ} → r ≡ tab free 4 → Clean r
  clean_of_free r-is = clean_words free r-is (omega (arith, and_le_l (get_or ws 3 0) ((2 ^ 64 - 1) - get_or vs 3 0)))

  -- Those of either.
  abbrev either : ℕ → ℕ
  either i = bit_or (get_or ws i 0) (get_or vs i 0)

  pub marks_of_either : {r : List ℕ} → r ≡ tab either 4 → MarksOf (λ k. marked ws k || marked vs k) r
  marks_of_either r-is =
      marks_of_words either r-is _
      (λ i j lt.
      is_set_or (get_or ws i 0) (get_or vs i 0) j ∙ ap₂ ◌||◌ (sym (marked-word ws i j lt)) (sym (marked-word vs i j lt)))

  pub clean_of_either : {r : List ℕ} → Clean vs → r ≡ tab either 4 → Clean r
  clean_of_either clean-too r-is = clean_words either r-is (or_lt 48 (get_or ws 3 0) (get_or vs 3 0) clean clean-too)
