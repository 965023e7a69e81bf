-- What a draw gives, by its verdict. No contract cites this file. Assumes nothing.
use Prim.Native.Nat.{ℕ}
use mathlib.Core.Path.{◌≡◌, refl, sym, ◌∙◌}
use mathlib.Core.Bool.{Bool, true, false, cond}
use mathlib.Core.List.{List}
use lib.ListN.{length}
use Rattle.std.specs.declared.result.Result.{Result}
use Rattle.std.specs.declared.result.Result.TheVariants.{Ok, Err}
use Rattle.refusals.specs.Refusal.{refusal_number, outcome_number}
use Rattle.refusals.specs.declared.Refusal.{Refusal}
use Rattle.memory.specs.Sizes.{output_size}
use Rattle.rows.proofs.Cells.{length_row_of}
use Rattle.regs.specs.Registers.{dispcnt}
use Rattle.regs.specs.Display.{enable_obj}
use Rattle.regs.specs.Reading.{reading_of}
use Rattle.obj_entries.specs.Entry.{entries_size, entry_cells}
use Rattle.obj_sprites.specs.Sprite.{source}
use Rattle.obj.specs.Put.{put_sprites}
use Rattle.obj.proofs.Shapes.{shaped_row-after}
use Rattle.gpu_judge.specs.Judge.{Call, verdict}
use Rattle.gpu_judge.specs.Code.{Ready, request, judged, call_in}
use Rattle.gpu_judge.specs.declared.Picture.{Picture}
use Rattle.gpu_judge.specs.declared.Picture.TheVariants.{Blank, Drawn}
use Rattle.gpu_judge.specs.declared.Request.{Request}
use Rattle.gpu_judge.proofs.Verdicts.{verdict_unasked, verdict_short, verdict_cut, verdict_judged, call_asked}
use Rattle.gpu.specs.Line.{entries_after, line_after, blank_line}
use Rattle.gpu.specs.Draw.{given, draw, Draws}

-- ---- what each verdict gives

module _ (c : Call) (entries output : List ℕ) where
  -- What is given for a verdict.
  abbrev Gives : Result Picture Refusal → List ℕ → List ℕ → Type 0
  Gives v entriesLeft outputLeft =
      record { number = outcome_number v; entries = entriesLeft; output = outputLeft } ≡ given v c entries output

  pub gives_refused : (e : Refusal) → Gives (Err e) entries output
  unfolding given outcome_number
  gives_refused e = refl

  pub gives-blank : {outputLeft : List ℕ} → outputLeft ≡ blank_line → Gives (Ok Blank) entries outputLeft
  unfolding given outcome_number
  gives-blank output_is = rw output_is

  pub gives_drawn : {entriesLeft outputLeft : List ℕ} → entriesLeft ≡ entries_after c entries
      → outputLeft ≡ line_after c entriesLeft → Gives (Ok Drawn) entriesLeft outputLeft
  unfolding given outcome_number
  gives_drawn entries-are output_is = rw (output_is, entries-are)

-- ---- what a draw gives

module _ (c : Call) (entries output : List ℕ) where
  pub draws_unasked : {e : Refusal} → request c ≡ Err e → Draws c entries output (refusal_number e) entries output
  unfolding draw given
  draws_unasked refused = rw (verdict_unasked c entries output refused)

  module _ {r : Request} (asks : request c ≡ Ok r) where
    pub draws_short : (length entries ≡ entries_size → ⊥) → Draws c entries output 2 entries output
    unfolding draw given refusal_number
    draws_short n = rw (verdict_short c entries output asks n)

    pub draws_cut : {e : List ℕ} → e ≡ entries → length e ≡ entries_size → (length output ≡ output_size → ⊥)
        → Draws c entries output 2 e output
    unfolding draw given refusal_number
    draws_cut e-is whole n = rw (sym e-is) (rw (verdict_cut c _ output asks whole n))

  -- What is drawn on arrays that hold the entries and the output.
  pub draws_judged : {e o : List ℕ} {r : Request} → request c ≡ Ok r → e ≡ entries → o ≡ output
      → length e ≡ entries_size → length o ≡ output_size
      → {v : Result Picture Refusal} {entriesLeft outputLeft : List ℕ} → v ≡ judged r e
      → record { number = outcome_number v; entries = entriesLeft; output = outputLeft } ≡ given v (call_in r) e o
      → Draws c entries output (outcome_number v) entriesLeft outputLeft
  unfolding draw
  draws_judged asks e-is o-is whole full v-is gave =
      rw (sym e-is, sym o-is) (gave ∙ rw (call_asked c asks, verdict_judged c _ _ asks whole full, v-is) refl)

  -- What an accepted draw gives.
  pub draws_accepted : verdict c entries output ≡ Ok Drawn → {entriesLeft outputLeft : List ℕ}
      → entriesLeft ≡ entries_after c entries → outputLeft ≡ line_after c entriesLeft
      → Draws c entries output 0 entriesLeft outputLeft
  unfolding draw given
  draws_accepted accepted entries-are output_is = rw (accepted, output_is, entries-are)

  -- What an accepted draw has it keeps after its sprites.
  pub ready-after : Ready c entries output → Ready c (entries_after c entries) output
  unfolding entries_after
  ready-after r = go (enable_obj (dispcnt c.memory.registers))
    where
      after : List ℕ
      after = put_sprites (reading_of c.reading) (source c.memory) c.line entries

      go : (on : Bool) → Ready c (cond on after entries) output
      go false = r
      go true =
          record {
            lengths =
                record {
                  memory_is = r.lengths.memory_is;
                  entries_is = length_row_of entry_cells _ 240;
                  output_is = r.lengths.output_is;
                };
            reading< = r.reading<;
            line< = r.line<;
            mode< = r.mode<;
            evy≤ = r.evy≤;
            ranges = r.ranges;
            shaped = shaped_row-after (reading_of c.reading) (source c.memory) c.line entries r.shaped;
          }
