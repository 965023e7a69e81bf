-- The draws of the named inputs are accepted, and what that gives. No contract cites this file. Assumes nothing.
use Prim.Native.Nat.{ℕ, ◌+◌, ◌*◌, ◌<◌}
use native.Mathlib.Omega.{arith}
use mathlib.Core.Path.{◌≡◌, refl}
use mathlib.Core.Bool.{true, false}
use mathlib.Core.List.{List}
use lib.ListN.{length}
use borrow.Author.Tests.{eq-eqb}
use Rattle.signed.specs.Signed.{in_range}
use Rattle.rows.specs.Tab.{tab}
use Rattle.rows.proofs.Tab.{length-tab, get_or-tab}
use Rattle.rows.proofs.Cells.{length_row_of}
use Rattle.memory.specs.Memory.{half}
use Rattle.memory.specs.Sizes.{video_ram_size, palette_ram_size, oam_size, registers_size, output_size}
use Rattle.regs.specs.Registers.{DISPCNT, BLDY}
use Rattle.regs.specs.Display.{mode, force_blank}
use Rattle.obj_entries.specs.Entry.{entry_cells, entries_size, shaped_row, reset_row}
use Rattle.obj_entries.proofs.Shapes.{shaped_row-reset}
use Rattle.bg_points.specs.References.{in_ranges}
use Rattle.gpu_judge.specs.Judge.{Call, have_lengths, verdict}
use Rattle.gpu.specs.Line.{entries_after, line_after}
use Rattle.gpu.specs.Draw.{Draws}
use Rattle.std.specs.declared.result.Result.TheVariants.{Ok}
use Rattle.gpu_judge.specs.declared.Picture.TheVariants.{Drawn}
use Rattle.gpu.proofs.Given.{draws_accepted}
use Rattle.thm_unique.specs.Inputs.{first_line, dark, lit, covered, lent}
use Rattle.thm_unique.proofs.Once.{draw_once}

-- The halfword of two bytes of f, where a buffer has them.
abbrev pub pair : (ℕ → ℕ) → ℕ → ℕ
pair f at = f at + 0x100 * f (at + 1)

pub half-tab : (f : ℕ → ℕ) (size at : ℕ) → at + 1 < size → half (tab f size) at ≡ pair f at
unfolding half
half-tab f size at at< = rw (get_or-tab f size at 0 (omega arith), get_or-tab f size (at + 1) 0 at<)

-- All that satisfies the contract of an accepted draw.
pub given_accepted : (c : Call) (entries output : List ℕ) {n : ℕ} {entriesLeft outputLeft : List ℕ}
    → verdict c entries output ≡ Ok Drawn → Draws c entries output n entriesLeft outputLeft
    → (n ≡ 0) × (entriesLeft ≡ entries_after c entries) × (outputLeft ≡ line_after c (entries_after c entries))
given_accepted c entries output accepted d =
    draw_once c entries output d (draws_accepted c entries output accepted refl refl)

-- A row of well-shaped entries, and an output, of their lengths.
pub record Lendable (entries output : List ℕ) : Type 0 where
  pub entries_is : length entries ≡ entries_size
  pub output_is : length output ≡ output_size
  pub shaped : shaped_row entries ≡ true

pub lendable-reset : Lendable reset_row lent
lendable-reset =
    record {
      entries_is = length_row_of entry_cells _ 240;
      output_is = length-tab _ output_size;
      shaped = shaped_row-reset;
    }

module _ (entries output : List ℕ) (l : Lendable entries output) where
  -- With mode 0, no forced blank and an EVY of 0 nothing stops a draw of the first line.
  accepted_line : (vram palette oam registers : ℕ → ℕ)
      → force_blank (pair registers DISPCNT) ≡ false → mode (pair registers DISPCNT) ≡ 0 → pair registers BLDY ≡ 0
      → verdict
      (first_line (tab vram video_ram_size) (tab palette palette_ram_size) (tab oam oam_size) (tab registers registers_size))
      entries output
      ≡ Ok Drawn
  unfolding verdict have_lengths in_ranges in_range
  accepted_line vram palette oam registers blank_is mode_is bldy-is =
      rw (
        length-tab vram video_ram_size,
        length-tab palette palette_ram_size,
        length-tab oam oam_size,
        length-tab registers registers_size,
        eq-eqb _ _ l.entries_is,
        eq-eqb _ _ l.output_is,
        half-tab registers registers_size DISPCNT (omega arith),
        blank_is,
        mode_is,
        half-tab registers registers_size BLDY (omega arith),
        bldy-is,
        l.shaped,
      )

  pub accepted-dark : verdict dark entries output ≡ Ok Drawn
  accepted-dark = accepted_line _ _ _ _ refl refl refl

  pub accepted-lit : verdict lit entries output ≡ Ok Drawn
  accepted-lit = accepted_line _ _ _ _ refl refl refl

  pub accepted-covered : (p : ℕ) → verdict (covered p) entries output ≡ Ok Drawn
  accepted-covered p = accepted_line _ _ _ _ refl refl refl
