-- No useless program meets the contract of a draw: each fails it on a named input. No contract cites this file.
-- Assumes nothing.
use Prim.Native.Nat.{ℕ, ◌≤◌}
use native.Mathlib.Omega.{arith}
use mathlib.Core.Path.{◌≡◌, sym, ap, ◌∙◌}
use mathlib.Core.List.{List}
use mathlib.Core.Logic.{◌≢◌}
use Rattle.rows.specs.Cells.{cell_at}
use Rattle.rows.specs.Words.{word_cells}
use Rattle.rows.proofs.Cells.{cell_at_row_of}
use Rattle.obj_entries.specs.Entry.{entry_cells, reset_row}
use Rattle.obj_entries.specs.declared.Entry.{Entry}
use Rattle.gpu.specs.Draw.{Drawing, Draws}
use Rattle.thm_unique.specs.Inputs.{dark, lit, covered, lent}
use Rattle.thm_unique.specs.Useless.{Program, Meets, RefusesAll, PaintsAlike, LeavesEntries, FirstOnly}
use Rattle.thm_unique.proofs.Accepted.{given_accepted, lendable-reset, accepted-dark, accepted-lit}
use Rattle.thm_unique.proofs.Backdrop.{pixel-dark, pixel-lit}
use Rattle.thm_unique.proofs.Covered.{priority_in, priority-covered, priority_second}

-- ---- what satisfies the contract on the named inputs

-- A line of `dark` is accepted, and gives 0.
pub number-dark : {n : ℕ} {entries output : List ℕ} → Draws dark reset_row lent n entries output → n ≡ 0
number-dark d = (given_accepted dark reset_row lent (accepted-dark _ _ lendable-reset) d).0

-- The lines of `dark` and `lit` differ in their first pixel.
pub outputs_differ : {m n : ℕ} {entries others darkLine litLine : List ℕ}
    → Draws dark reset_row lent m entries darkLine → Draws lit reset_row lent n others litLine → darkLine ≢ litLine
outputs_differ d l same =
    let dark-is = (given_accepted dark reset_row lent (accepted-dark _ _ lendable-reset) d).2 in
    let lit_is = (given_accepted lit reset_row lent (accepted-lit _ _ lendable-reset) l).2 in
    let pixels : ◌≡◌ {A = ℕ} 0 0xf80000
    = sym (pixel-dark _) ∙ ap (λ (o : List ℕ). cell_at word_cells o 0) (sym dark-is ∙ same ∙ lit_is) ∙ pixel-lit _ in
    omega arith

priority-reset : priority_in reset_row ≡ 4
priority-reset = ap (λ (e : Entry). e.priority) (cell_at_row_of entry_cells _ 240 0 (omega arith))

-- `covered p` changes the reset row, where p stands in place of 4.
pub entries_differ : (p : ℕ) → p ≤ 3 → {n : ℕ} {entries output : List ℕ}
    → Draws (covered p) reset_row lent n entries output → entries ≢ reset_row
entries_differ p p≤ d same =
    omega (
      arith,
      ap (λ (r : Drawing). priority_in r.entries) d,
      ap priority_in same,
      priority-covered p p≤,
      priority-reset,
    )

-- `covered 0` changes the row that `covered 1` left, where 0 stands in place of 1.
pub entries_differ_later : {m n : ℕ} {first second output other : List ℕ} → Draws (covered 1) reset_row lent m first output
    → Draws (covered 0) first lent n second other
    → second ≢ first
entries_differ_later d e same =
    let first_is = ap (λ (r : Drawing). r.entries) d in
    let second_is = ap (λ (r : Drawing). priority_in r.entries) e in
    omega (
      arith,
      ap priority_in same,
      ap priority_in first_is,
      rw first_is at second_is,
      priority-covered 1 (omega arith),
      priority_second 1 0 (omega arith),
    )

-- ---- the four programs

module _ (program : Program) (meets : Meets program) where
  -- On `dark`.
  pub refuses-all_fails : RefusesAll program → ⊥
  refuses-all_fails refuses = refuses dark reset_row lent (number-dark (meets dark reset_row lent))

  -- On `dark` and `lit`.
  pub paints_alike_fails : PaintsAlike program → ⊥
  paints_alike_fails alike =
      outputs_differ (meets dark reset_row lent) (meets lit reset_row lent)
      (alike dark lit reset_row lent (accepted-dark _ _ lendable-reset) (accepted-lit _ _ lendable-reset))

  -- On `covered 0`.
  pub leaves_entries_fails : LeavesEntries program → ⊥
  leaves_entries_fails leaves =
      entries_differ 0 (omega arith) (meets (covered 0) reset_row lent) (leaves (covered 0) reset_row lent)

  -- On `covered 1`, and then `covered 0` on the row that it leaves.
  pub first-only_fails : FirstOnly program → ⊥
  first-only_fails first-only =
      let row = (program (covered 1) reset_row lent).entries in
      let drawn = meets (covered 1) reset_row lent in
      entries_differ_later drawn (meets (covered 0) row lent)
      (first-only (covered 0) row lent (entries_differ 1 (omega arith) drawn))
