-- Laws of entries. No contract cites this file. Assumes nothing.
use Prim.Native.Nat.{ℕ, ◌+◌, ◌*◌, ◌/◌, ◌%◌, ◌<◌}
use native.Mathlib.Omega.{arith}
use mathlib.Core.Path.{◌≡◌, ap, ap₂, ◌∙◌}
use mathlib.Core.Bool.{Bool, true, false, cond}
use mathlib.Core.List.{List, [], ◌∷◌}
use lib.ListN.{get_or}
use Rattle.rgb15.specs.Colour.{rgb}
use Rattle.rows.specs.Bytes.{bytes_from, put_from}
use Rattle.rows.specs.Cells.{cell_at, put_cell, Exact}
use Rattle.rows.specs.Words.{word_cells}
use Rattle.rows.proofs.Bytes.{bytes_at, bytes_from_at}
use Rattle.rows.proofs.Words.{low-join, high-join}
use Rattle.obj_entries.specs.Entry.{entry_cells}
use Rattle.obj_entries.specs.Code.{entry_of_word}
use Rattle.obj_entries.specs.declared.Entry.{Entry}

-- Every number of a list is a byte.
abbrev pub AllBytes : List ℕ → Type 0
AllBytes l = (i : ℕ) → get_or l i 0 < 256

-- A row of bytes is exact.
pub exact-entry_cells : (l : List ℕ) → AllBytes l → (k : ℕ) → Exact entry_cells l k
unfolding entry_cells cell_at bytes_from
exact-entry_cells l bytes k = let fits = bytes (4 * k) in simp (low-join, high-join)

-- The colour, the priority and the marks in a word.
pub entry_of_word_parts : (color priority marks : ℕ) {w : ℕ} → color < 0x10000 → priority < 256
    → w ≡ color + 0x10000 * priority + 0x1000000 * marks
    → entry_of_word w ≡ record { color = rgb color; priority = priority; marks = marks }
entry_of_word_parts color priority marks {w} color< fits word-is =
    let color_is : w % 0x10000 ≡ color = omega arith in
    let high_is : w / 0x10000 ≡ priority + 0x100 * marks = omega arith in
    let priority_is : w / 0x10000 % 0x100 ≡ priority = rw high_is (low-join priority marks fits) in
    let marks-is : w / 0x1000000 ≡ marks = omega arith in
    rw (color_is, priority_is, marks-is)

-- The entry of a word that was read.
pub entry-of-word : (l : List ℕ) → AllBytes l → (k : ℕ) {w : ℕ} → w ≡ cell_at word_cells l k
    → entry_of_word w ≡ cell_at entry_cells l k
unfolding entry_cells word_cells cell_at bytes_at
entry-of-word l bytes k {w} read =
    let word-is : w ≡ get_or l (4 * k) 0 + 0x100 * get_or l (4 * k + 1) 0 + 0x10000 * get_or l (4 * k + 2) 0
    + 0x1000000 * get_or l (4 * k + 3) 0
    = rw bytes_from_at at read in
    let first = bytes (4 * k) in
    let second = bytes (4 * k + 1) in
    let third = bytes (4 * k + 2) in
    rw bytes_from_at
    (entry_of_word_parts (get_or l (4 * k) 0 + 256 * get_or l (4 * k + 1) 0) (get_or l (4 * k + 2) 0) (get_or l (4 * k + 3) 0)
    (omega arith) third word-is)

-- The two bytes of a word's colour.
low_byte : (w : ℕ) → w % 0x100 ≡ w % 0x10000 % 256
low_byte w = omega arith

high_byte : (w : ℕ) → w / 0x100 % 0x100 ≡ w % 0x10000 / 256
high_byte w = omega arith

-- A word that is put is its entry put.
put_cell-word : (l : List ℕ) (k w : ℕ) → put_cell word_cells l k w ≡ put_cell entry_cells l k (entry_of_word w)
unfolding put_cell entry_cells word_cells
put_cell-word l k w =
    ap₂ (λ a b. put_from l (4 * k) (a ∷ b ∷ w / 0x10000 % 0x100 ∷ w / 0x1000000 ∷ [])) (low_byte w) (high_byte w)

-- An entry is put as its word.
pub put_cell_as_word : (l : List ℕ) (k w : ℕ) {e : Entry} {m : List ℕ}
    → entry_of_word w ≡ e → m ≡ put_cell word_cells l k w → m ≡ put_cell entry_cells l k e
put_cell_as_word l k w word_is m-is = m-is ∙ put_cell-word l k w ∙ ap (put_cell entry_cells l k) word_is

-- One of two words is put, the one that was read or that of an entry.
pub put_cell_chosen : (l : List ℕ) → AllBytes l → (k : ℕ) (kept : Bool)
    (w : ℕ) {v u : ℕ} {m : List ℕ} {e : Entry}
    → v ≡ cell_at word_cells l k → entry_of_word w ≡ e → u ≡ cond kept v w → m ≡ put_cell word_cells l k u
    → m ≡ put_cell entry_cells l k (cond kept (cell_at entry_cells l k) e)
put_cell_chosen l bytes k kept w {v} {e = e} v-is w_is u-is m-is =
    m-is
    ∙ put_cell-word l k _
    ∙ ap (λ u. put_cell entry_cells l k (entry_of_word u)) u-is
    ∙ ap (put_cell entry_cells l k) (go kept)
  where
    go : (kept : Bool) → entry_of_word (cond kept v w) ≡ cond kept (cell_at entry_cells l k) e
    go true = entry-of-word l bytes k v-is
    go false = w_is
