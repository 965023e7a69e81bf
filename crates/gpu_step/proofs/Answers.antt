-- What the line-end step gives, by what its tests find. No contract cites this file. Assumes nothing.
use Prim.Native.Nat.{ℕ, ◌+◌, ◌*◌, ◌^◌, ◌<◌}
use native.Mathlib.Omega.{arith}
use mathlib.Core.Path.{◌≡◌, refl, sym, ap, ◌∙◌}
use mathlib.Core.Bool.{Bool, true, false, cond, ◌&&◌}
use mathlib.Core.List.{List}
use lib.IntN.{ℤ, pos}
use lib.Signed.{mag}
use mir.Syntax.{w32}
use mir.Val.{to_z, of_z}
use mir.Facts.{sfits_to_z}
use lib.ListN.{length, get_or}
use borrow.Author.Tests.{eq-eqb, ne_eqb}
use Rattle.std.specs.declared.option.Option.{Option}
use Rattle.std.specs.declared.option.Option.TheVariants.{None, Some}
use Rattle.signed.specs.Signed.{word32}
use Rattle.rows.specs.Bytes.{bytes_from}
use Rattle.rows.specs.Cells.{cell_at, put_cell, map_row}
use Rattle.rows.specs.Tab.{tab}
use Rattle.rows.specs.Words.{word_cells}
use Rattle.rows.proofs.Cells.{put_all-all}
use Rattle.bg_points.specs.References.{in_ranges}
use Rattle.bg_points.specs.declared.references.References.{References}
use Rattle.gpu_step.specs.declared.Steps.{Steps}
use Rattle.gpu_step.proofs.Machine.{word_read, machine, references-read}
use Rattle.gpu_step.proofs.Added.{word_cast, word_bits}
use Rattle.gpu_step.specs.Step.{references_size, reference_at, references_in, words_of, bytes_of, sums, stepped, step_number, references_after}
use Rattle.gpu_step.specs.Step.{bytes_after, step, StepsTo}

-- A number read from bytes has 32 bits.
reference_fits : (bytes : List ℕ) → ((i : ℕ) → get_or bytes i 0 < 256) → (k : ℕ) → mag (reference_at bytes k) < 2 ^ 31
unfolding cell_at word_cells bytes_from
reference_fits bytes small k =
    let word< : cell_at word_cells bytes k < 2 ^ 32 =
    omega (arith, small (4 * k), small (4 * k + 1), small (4 * k + 1 + 1), small (4 * k + 1 + 1 + 1))
    in
    rw (sym (word_cast _ word<)) (sfits_to_z {w = w32} (record { fits = word< })).sfits

-- The four numbers read one by one are those of the bytes.
pub references_made : (bytes : List ℕ) {four : List ℤ} → ((i : ℕ) → get_or bytes i 0 < 256)
    → four ≡ tab (reference_at bytes) 4
    → machine
    (record { x2 = get_or four 0 (pos 0); y2 = get_or four 1 (pos 0); x3 = get_or four 2 (pos 0); y3 = get_or four 3 (pos 0) })
    ≡ references_in bytes
unfolding references_in tab
references_made bytes small are =
    rw are
    (references-read (references_in bytes) (reference_fits bytes small 0) (reference_fits bytes small 1)
    (reference_fits bytes small 2) (reference_fits bytes small 3))

-- The bits of a number that has 32, as code casts it.
pub record Bits (z : ℤ) (w : ℕ) : Type 0 where
  pub fits : mag z < 2 ^ 31
  pub cast : w ≡ of_z w32 (to_z w32 (of_z w32 z))

bits_are : (z : ℤ) {w : ℕ} → Bits z w → w ≡ word32 z
bits_are z b = b.cast ∙ ap (of_z w32) (word_read z b.fits) ∙ word_bits z b.fits

-- What is stepped to is in range.
pub stepped_ranges : (s : Steps) (r : References) {a : Option References} {to : References} → a ≡ stepped s r → a ≡ Some to
    → in_ranges to ≡ true
unfolding stepped step_number references_after
stepped_ranges s r a-is found = go (in_ranges r) (in_ranges (sums s r)) refl (sym a-is ∙ found)
  where
    go : {to : References} (t u : Bool) → in_ranges (sums s r) ≡ u
        → cond (t && u) (Some (sums s r)) None ≡ Some to → in_ranges to ≡ true
    go true true u-is same = sym (ap (λ a. in_ranges (references_after a r)) same) ∙ u-is
    go true false u-is same = absurd (let n : ◌≡◌ {A = ℕ} 6 0 = ap step_number same in omega arith)
    go false u u-is same = absurd (let n : ◌≡◌ {A = ℕ} 6 0 = ap step_number same in omega arith)

module _ (s : Steps) (bytes : List ℕ) where
  pub step-length : (length bytes ≡ references_size → ⊥) → StepsTo s bytes 2 bytes
  unfolding step
  step-length n = rw (ne_eqb (length bytes) references_size n)

  -- The four numbers r and the answer a as code found them.
  module _ (l : length bytes ≡ references_size) {r : References} {a : Option References} (r-is : r ≡ references_in bytes)
      (a-is : a ≡ stepped s r) where
    asked : stepped s (references_in bytes) ≡ a
    asked = rw (sym r-is) (sym a-is)

    pub step-refused : a ≡ None → StepsTo s bytes 6 bytes
    unfolding step bytes_after step_number
    step-refused found = rw (eq-eqb (length bytes) references_size l, asked ∙ found)

    pub step_done : {left : List ℕ} {to : References} → a ≡ Some to → left ≡ bytes_of to → StepsTo s bytes 0 left
    unfolding step bytes_after step_number
    step_done found left_is = rw (eq-eqb (length bytes) references_size l, asked ∙ found, left_is)

-- Four numbers put one after another are the bytes of the four.
module _ (r : References) (l : List ℕ) {l1 l2 l3 l4 : List ℕ} {w1 w2 w3 w4 : ℕ} where
  pub bytes_of_puts : l4 ≡ put_cell word_cells l3 3 w4 → l3 ≡ put_cell word_cells l2 2 w3
      → l2 ≡ put_cell word_cells l1 1 w2 → l1 ≡ put_cell word_cells l 0 w1 → length l ≡ references_size
      → Bits r.x2 w1 → Bits r.y2 w2 → Bits r.x3 w3 → Bits r.y3 w4
      → l4 ≡ bytes_of r
  unfolding bytes_of map_row
  bytes_of_puts e4 e3 e2 e1 size b1 b2 b3 b4 =
      rw (e4, e3, e2, e1, bits_are _ b1, bits_are _ b2, bits_are _ b3, bits_are _ b4)
      (put_all-all word_cells (λ k. get_or (words_of r) k 0) 4 l size)
