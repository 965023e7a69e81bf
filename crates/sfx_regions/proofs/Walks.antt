-- Laws of the walk over a line's windows. No contract cites this file. Assumes nothing.
use Prim.Native.Nat.{ℕ, ◌<◌}
use native.Mathlib.Omega.{arith}
use mathlib.Core.Path.{◌≡◌, refl, sym, ap₂, ◌∙◌}
use mathlib.Core.Bool.{Bool, true, false, cond, not, ◌&&◌, ◌||◌}
use mathlib.Core.List.{List}
use lib.ListN.{replicate}
use Rattle.rows.specs.Cells.{cell_at}
use Rattle.rows.specs.Below.{between}
use Rattle.rows.specs.Tab.{tab}
use Rattle.rows.proofs.Below.{between-inside, count_below_full}
use Rattle.rows.proofs.Tab.{tab_cong, tab_replicate}
use Rattle.obj_entries.specs.Entry.{entry_cells, window_mark}
use Rattle.sfx_marks.specs.Code.{marked, count_marks, holds, MarksOf, given_row}
use Rattle.sfx_regions.specs.Code.{walked_word, walked_row}
use Rattle.sfx_marks.specs.declared.columns.Columns.{Columns}
use Rattle.sfx_regions.specs.declared.RegionWords.{RegionWords}
use Rattle.sfx_marks.proofs.Paints.{tab-given}

-- A column of window 0 is kept, one of window 1 alone is given to it, and one of neither is given to the rest.
cond_second : (s t : Bool) (a b c : ℕ) → (s || (t && not s)) ≡ true → cond (t && not s) b a ≡ cond s a (cond t b c)
cond_second true true a b c e = refl
cond_second true false a b c e = refl
cond_second false true a b c e = refl
cond_second false false a b c e = cc

cond-all : (s t : Bool) (a b c : ℕ) → cond (not (s || (t && not s))) c (cond (t && not s) b a) ≡ cond s a (cond t b c)
cond-all true true a b c = refl
cond-all true false a b c = refl
cond-all false true a b c = refl
cond-all false false a b c = refl

module _ (entries : List ℕ) (objWindow : Bool) (win0 win1 : Columns) (words : RegionWords)
    {first : List ℕ} (first_is : MarksOf (holds win0) first) where
  -- Window 0 holds every column.
  pub walked_first : count_marks first ≡ 240 → replicate 240 words.win0 ≡ walked_row entries objWindow win0 win1 words
  unfolding walked_word
  walked_first full =
      tab_replicate words.win0 240
      ∙ tab_cong _ _ 240 (λ k lt. rw (sym (first_is.same k lt) ∙ count_below_full (marked first) 240 full k lt))

  module _ {held second occupied row : List ℕ} (held-is : MarksOf (holds win1) held)
      (second_is : MarksOf (λ k. marked held k && not (marked first k)) second)
      (row_is : row ≡ given_row (marked second) (replicate 240 words.win1) (replicate 240 words.win0))
      (occupied-is : MarksOf (λ k. marked first k || marked second k) occupied) where
    marked_second : (k : ℕ) → k < 240 → marked second k ≡ (holds win1 k && not (holds win0 k))
    marked_second k lt =
        second_is.same k lt ∙ ap₂ (λ (t s : Bool). t && not s) (held-is.same k lt) (first_is.same k lt)

    marked_occupied : (k : ℕ) → k < 240 → marked occupied k ≡ (holds win0 k || (holds win1 k && not (holds win0 k)))
    marked_occupied k lt = occupied-is.same k lt ∙ ap₂ ◌||◌ (first_is.same k lt) (marked_second k lt)

    row_second : row ≡ tab (λ k. cond (marked second k) words.win1 words.win0) 240
    row_second = row_is ∙ tab-given (marked second) _ _ (tab_replicate words.win1 240) (tab_replicate words.win0 240)

    -- Windows 0 and 1 hold every column.
    pub walked_second : count_marks occupied ≡ 240 → row ≡ walked_row entries objWindow win0 win1 words
    unfolding walked_word
    walked_second full =
        row_second
        ∙ tab_cong _ _ 240 (λ k lt.
        let held-by-one = sym (marked_occupied k lt) ∙ count_below_full (marked occupied) 240 full k lt in
        rw (marked_second k lt) (cond_second (holds win0 k) (holds win1 k) _ _ _ held-by-one))

    -- Some columns are left.
    pub walked_all : {line left rest all : List ℕ}
        → MarksOf (between 0 240) line
        → MarksOf (λ k. marked line k && not (marked occupied k)) left
        → rest ≡ tab (λ k. cond (objWindow && window_mark (cell_at entry_cells entries k)) words.winobj words.winout) 240
        → all ≡ given_row (marked left) rest row
        → all ≡ walked_row entries objWindow win0 win1 words
    unfolding walked_word
    walked_all {line} {left} line-is left_is rest-is e =
        e
        ∙ tab-given (marked left) _ _ rest-is row_second
        ∙ tab_cong _ _ 240 (λ k lt.
        rw (marked-left k lt, marked_second k lt) (cond-all (holds win0 k) (holds win1 k) _ _ _))
      where
        marked-left : (k : ℕ) → k < 240 → marked left k ≡ not (holds win0 k || (holds win1 k && not (holds win0 k)))
        marked-left k lt =
            left_is.same k lt
            ∙ ap₂ (λ (t s : Bool). t && not s) (line-is.same k lt ∙ between-inside 0 240 k (omega arith) lt) (marked_occupied k lt)
