-- Laws of well-shaped entries: two tests of an entry's word tell them, and the reset row is well shaped. No contract cites
-- this file. Assumes nothing.
use Prim.Native.Nat.{ℕ, ◌-◌, ◌*◌, ◌/◌, ◌%◌, ◌≤◌}
use native.Mathlib.Omega.{arith}
use mathlib.Core.Path.{◌≡◌, ap}
use mathlib.Core.Bool.{Bool, true, false, not, ◌&&◌, ◌||◌, or-true}
use mathlib.Core.Logic.{⊎_elim}
use lib.Dec.{eqb, leb}
use borrow.Author.Tests.{eqb-true, eqb-false, eq-eqb, ne_eqb, leb-true, le-leb, not-true}
use Rattle.rgb15.specs.Colour.{transparent}
use Rattle.bits.proofs.Booleans.{and_both, or_split, both_ways}
use Rattle.rows.proofs.Below.{all_below_ext}
use Rattle.rows.proofs.Cells.{cell_at_row_of}
use Rattle.obj_entries.specs.Entry.{entry_cells, semi_mark, reset_row, well_shaped, shaped_row}
use Rattle.obj_entries.specs.Code.{entry_of_word}
use Rattle.obj_entries.specs.declared.Entry.{Entry}

-- A well-shaped entry shows nothing or a pixel.
pub data Shape (e : Entry) : Type 0 where
  blank : e.marks ≤ 3 → e.priority ≡ 4 → e.color.0 ≡ transparent → semi_mark e ≡ false → Shape e
  shown : e.marks ≤ 3 → e.priority ≤ 3 → e.color.0 ≤ 0x7fff → Shape e

pub well_shaped_shape : (e : Entry) → Shape e → well_shaped e ≡ true
unfolding well_shaped
well_shaped_shape e (blank marks≤ priority_is color_is semi_is) =
    rw (
      le-leb e.marks 3 marks≤,
      eq-eqb e.priority 4 priority_is,
      eq-eqb e.color.0 transparent color_is,
      semi_is,
    )
well_shaped_shape e (shown marks≤ priority≤ color≤) =
    rw (le-leb e.marks 3 marks≤, le-leb e.priority 3 priority≤, le-leb e.color.0 0x7fff color≤)
    (or-true (eqb e.priority 4 && eqb e.color.0 transparent && not (semi_mark e)))

pub shape-well_shaped : (e : Entry) → well_shaped e ≡ true → Shape e
unfolding well_shaped
shape-well_shaped e t =
    let parts = and_both (leb e.marks 3) _ t in
    let marks≤ = leb-true e.marks 3 parts.0 in
    ⊎_elim
    (λ h.
    let all = and_both (eqb e.priority 4 && eqb e.color.0 transparent) (not (semi_mark e)) h in
    let front = and_both (eqb e.priority 4) (eqb e.color.0 transparent) all.0 in
    blank marks≤ (eqb-true e.priority 4 front.0) (eqb-true e.color.0 transparent front.1)
    (not-true (semi_mark e) all.1))
    (λ h.
    let all = and_both (leb e.priority 3) (leb e.color.0 0x7fff) h in
    shown marks≤ (leb-true e.priority 3 all.0) (leb-true e.color.0 0x7fff all.1))
    (or_split _ _ parts.1)

-- ---- a word's tests

module _ (w : ℕ) where
  -- The word without bit 25, which is the window mark, is that of the reset entry.
  abbrev is_blank_word : Bool
  is_blank_word = eqb (w - 0x2000000 * (w / 0x2000000 % 2)) 0x48000

  -- Of the bits that a shown pixel has clear, 15 is of the colour, 18 to 23 of the priority, and 26 to 31 of the marks.
  abbrev is_shown_word : Bool
  is_shown_word = eqb (w / 0x8000 % 2) 0 && eqb (w / 0x40000 % 0x40) 0 && eqb (w / 0x4000000) 0

  shape_blank_word : is_blank_word ≡ true → Shape (entry_of_word w)
  shape_blank_word t =
      let same : w - 0x2000000 * (w / 0x2000000 % 2) ≡ 0x48000 = eqb-true _ _ t in
      blank (omega arith) (omega arith) (omega arith) (ne_eqb (w / 0x1000000 / 1 % 2) 1 (omega arith))

  shape_shown_word : is_shown_word ≡ true → Shape (entry_of_word w)
  shape_shown_word t =
      let all = and_both (eqb (w / 0x8000 % 2) 0 && eqb (w / 0x40000 % 0x40) 0) (eqb (w / 0x4000000) 0) t in
      let front = and_both (eqb (w / 0x8000 % 2) 0) (eqb (w / 0x40000 % 0x40) 0) all.0 in
      shown
      (omega (arith, eqb-true (w / 0x4000000) 0 all.1))
      (omega (arith, eqb-true (w / 0x40000 % 0x40) 0 front.1))
      (omega (arith, eqb-true (w / 0x8000 % 2) 0 front.0))

  word_shape : Shape (entry_of_word w) → (is_blank_word || is_shown_word) ≡ true
  word_shape (blank marks≤ priority_is color_is semi_is) =
      let clear = eqb-false (w / 0x1000000 / 1 % 2) 1 semi_is in
      rw (eq-eqb (w - 0x2000000 * (w / 0x2000000 % 2)) 0x48000 (omega arith))
  word_shape (shown marks≤ priority≤ color≤) =
      rw (
        eq-eqb (w / 0x8000 % 2) 0 (omega arith),
        eq-eqb (w / 0x40000 % 0x40) 0 (omega arith),
        eq-eqb (w / 0x4000000) 0 (omega arith),
      )
      (or-true is_blank_word)

  -- A word's tests are those of its entry.
  pub well_shaped_word : (is_blank_word || is_shown_word) ≡ well_shaped (entry_of_word w)
  well_shaped_word =
      both_ways (is_blank_word || is_shown_word) (well_shaped (entry_of_word w))
      (λ t. well_shaped_shape (entry_of_word w) (⊎_elim shape_blank_word shape_shown_word (or_split is_blank_word is_shown_word t)))
      (λ t. word_shape (shape-well_shaped (entry_of_word w) t))

-- The reset row is well shaped.
pub shaped_row-reset : shaped_row reset_row ≡ true
unfolding well_shaped
shaped_row-reset = all_below_ext _ 240 (λ k k<. ap well_shaped (cell_at_row_of entry_cells _ 240 k k<))
