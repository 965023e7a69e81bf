-- What the step on a pair of records gives, by what the step on numbers answers. No contract cites this file.
-- Assumes nothing.
use Prim.Native.Nat.{ℕ}
use mathlib.Core.Path.{◌≡◌, sym, ap, ◌∙◌}
use Rattle.std.specs.declared.option.Option.{Option}
use Rattle.std.specs.declared.option.Option.TheVariants.{None, Some}
use Rattle.bg_points.specs.declared.references.References.{References}
use Rattle.gpu_step.specs.declared.Steps.{Steps}
use Rattle.gpu_step.specs.Step.{stepped, step_number, references_after}
use Rattle.gpu_step.proofs.Machine.{machine}
use Rattle.gpu_step.proofs.Added.{references_found}
use Rattle.gpu_step.proofs.Answers.{stepped_ranges}
use Rattle.gpu_records.specs.Step.{steps_of, references_of, moved_to, step_records, StepsRecords}
use Rattle.gpu_records.specs.declared.affine.BgAffine.{BgAffine}

-- The steps s, the four numbers r and the answer a as code found them.
module _ (bg2 bg3 : BgAffine) {s : Steps} {r : References} {a : Option References} (s-is : s ≡ steps_of bg2 bg3)
    (r-is : r ≡ references_of bg2 bg3) (a-is : a ≡ stepped s r) where
  asked : stepped (steps_of bg2 bg3) (references_of bg2 bg3) ≡ a
  asked = rw (sym s-is, sym r-is) (sym a-is)

  pub steps-refused : a ≡ None → StepsRecords bg2 bg3 6 bg2 bg3
  unfolding step_records moved_to step_number references_after
  steps-refused found = rw (asked ∙ found)

  pub steps_done : {left2 left3 : BgAffine} (to : References) → a ≡ Some to
      → left2 ≡ moved_to bg2 (machine to).x2 (machine to).y2 → left3 ≡ moved_to bg3 (machine to).x3 (machine to).y3
      → StepsRecords bg2 bg3 0 left2 left3
  unfolding step_records step_number references_after
  steps_done to found left2-is left3-is =
      rw (asked ∙ found, left2-is, left3-is)
      (ap (λ q. record { number = 0; bg2 = moved_to bg2 q.x2 q.y2; bg3 = moved_to bg3 q.x3 q.y3 })
      (references_found to (stepped_ranges s r a-is found)))

-- A record and a number that satisfy the contract are the only ones.
pub steps_once : (bg2 bg3 : BgAffine) {m n : ℕ} {a2 a3 b2 b3 : BgAffine}
    → StepsRecords bg2 bg3 m a2 a3 → StepsRecords bg2 bg3 n b2 b3
    → (m ≡ n) × (a2 ≡ b2) × (a3 ≡ b3)
steps_once bg2 bg3 p q =
    let same = p ∙ sym q in
    (ap (λ s. s.number) same, ap (λ s. s.bg2) same, ap (λ s. s.bg3) same)
