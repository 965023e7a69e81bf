-- What the row reset and the steps give is what their tables give. No contract cites this file. Assumes nothing.
use mathlib.Core.Path.{◌≡◌, refl}
use mathlib.Core.Bool.{Bool, true, false, cond, not, ◌&&◌, ◌||◌}
use mathlib.Core.List.{List, [], ◌∷◌}
use mathlib.Core.Logic.{◌≢◌}
use lib.Dec.{eqb}
use lib.ListN.{length}
use Prim.Native.Nat.{ℕ}
use Rattle.bg_points.specs.References.{in_ranges}
use Rattle.bg_points.specs.declared.references.References.{References}
use Rattle.rows.specs.Answer.{Answer}
use Rattle.gpu_step.specs.declared.Steps.{Steps}
use Rattle.gpu_step.specs.Step.{sums, stepped, step_number, references_after, references_size, references_in, bytes_after, step}
use Rattle.std.specs.declared.option.Option.{Option}
use Rattle.std.specs.declared.option.Option.TheVariants.{None, Some}
use Rattle.obj_entries.specs.Entry.{entries_size, reset_row}
use Rattle.obj_entries.specs.Reset.{reset}
use Rattle.gpu_records.specs.Step.{steps_of, references_of, moved_to, step_records}
use Rattle.gpu_records.specs.declared.affine.BgAffine.{BgAffine}
use Rattle.thm_refusals.specs.Table.{Row, row}
use Rattle.thm_refusals.specs.Demand1.{reset_table, step_table, pair_table}
use Rattle.thm_refusals.proofs.Tables.{first_of}

-- An answer has the first number of the table, and where that isn't 0, the bytes that were lent.
abbrev Fits : List Row → List ℕ → Answer → Type 0
Fits table lent a = (a.number ≡ first_of table) × (a.number ≢ 0 → a.bytes ≡ lent)

pub reset_fits : (entries : List ℕ) → Fits (reset_table entries) entries (reset entries)
unfolding reset
reset_fits entries = go (eqb (length entries) entries_size)
  where
    go : (sized : Bool)
        → Fits (row 2 (not sized) ∷ []) entries
        (cond sized (record { number = 0; bytes = reset_row }) (record { number = 2; bytes = entries }))
    go true = (refl, λ n. absurd (n refl))
    go false = (refl, λ _. refl)

pub step_fits : (s : Steps) (bytes : List ℕ) → Fits (step_table s bytes) bytes (step s bytes)
unfolding step stepped bytes_after step_number
step_fits s bytes =
    let four = references_in bytes in
    let to = sums s four in
    go to (eqb (length bytes) references_size) (in_ranges four) (in_ranges to)
  where
    go : (to : References) (sized before after : Bool)
        → let answer = cond (before && after) (Some to) None in
        Fits (row 2 (not sized) ∷ row 6 (not before || not after) ∷ []) bytes
        (cond (not sized) (record { number = 2; bytes = bytes })
        (record { number = step_number answer; bytes = bytes_after answer bytes }))
    go to false before after = (refl, λ _. refl)
    go to true false after = (refl, λ _. refl)
    go to true true false = (refl, λ _. refl)
    go to true true true = (refl, λ n. absurd (n refl))

module _ (bg2 bg3 : BgAffine) where
  -- The same of the records, for each answer of the step on numbers.
  abbrev FitsPair : List Row → Option References → Type 0
  FitsPair table answer =
      let to = references_after answer (references_of bg2 bg3) in
      (step_number answer ≡ first_of table)
      × (step_number answer ≢ 0 → (moved_to bg2 to.x2 to.y2 ≡ bg2) × (moved_to bg3 to.x3 to.y3 ≡ bg3))

  pub pair_fits : let p = step_records bg2 bg3 in
      (p.number ≡ first_of (pair_table bg2 bg3)) × (p.number ≢ 0 → (p.bg2 ≡ bg2) × (p.bg3 ≡ bg3))
  unfolding step_records stepped step_number references_after moved_to
  pair_fits =
      let four = references_of bg2 bg3 in
      let to = sums (steps_of bg2 bg3) four in
      go to (in_ranges four) (in_ranges to)
    where
      go : (to : References) (before after : Bool)
          → FitsPair (row 6 (not before || not after) ∷ []) (cond (before && after) (Some to) None)
      go to false after = (refl, λ _. (refl, refl))
      go to true false = (refl, λ _. (refl, refl))
      go to true true = (refl, λ n. absurd (n refl))
