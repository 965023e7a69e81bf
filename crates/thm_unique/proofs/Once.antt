-- Each public contract has one result for each input: some result satisfies it, and no second one does. No contract cites
-- this file. Assumes nothing.
use Prim.Native.Nat.{ℕ}
use mathlib.Core.Path.{◌≡◌, refl, sym, ap, ◌∙◌}
use mathlib.Core.List.{List}
use Rattle.gpu_judge.specs.Judge.{Call}
use Rattle.gpu.specs.Draw.{Drawing, draw, Draws}
use Rattle.rows.specs.Answer.{Answer}
use Rattle.obj_entries.specs.Reset.{reset, Resets}
use Rattle.gpu_step.specs.declared.Steps.{Steps}
use Rattle.gpu_step.specs.Step.{step, StepsTo}

-- ---- the draw

module _ (c : Call) (entries output : List ℕ) where
  pub draw_some : let d = draw c entries output in Draws c entries output d.number d.entries d.output
  draw_some = refl

  -- The same number, entries and output.
  pub draw_once : {m n : ℕ} {entriesLeft otherEntries outputLeft otherOutput : List ℕ}
      → Draws c entries output m entriesLeft outputLeft → Draws c entries output n otherEntries otherOutput
      → (m ≡ n) × (entriesLeft ≡ otherEntries) × (outputLeft ≡ otherOutput)
  draw_once p q =
      let same = p ∙ sym q in
      (ap (λ (d : Drawing). d.number) same, ap (λ (d : Drawing). d.entries) same, ap (λ (d : Drawing). d.output) same)

-- ---- the row reset and the line-end step

answer_once : {a : Answer} {m n : ℕ} {left other : List ℕ} → record { number = m; bytes = left } ≡ a
    → record { number = n; bytes = other } ≡ a
    → (m ≡ n) × (left ≡ other)
answer_once p q =
    let same = p ∙ sym q in (ap (λ (a : Answer). a.number) same, ap (λ (a : Answer). a.bytes) same)

module _ (entries : List ℕ) where
  pub reset_some : Resets entries (reset entries).number (reset entries).bytes
  reset_some = refl

  -- The same number and entries.
  pub reset_once : {m n : ℕ} {left other : List ℕ} → Resets entries m left → Resets entries n other
      → (m ≡ n) × (left ≡ other)
  reset_once p q = answer_once p q

module _ (s : Steps) (bytes : List ℕ) where
  pub step_some : StepsTo s bytes (step s bytes).number (step s bytes).bytes
  step_some = refl

  -- The same number and bytes.
  pub step_once : {m n : ℕ} {left other : List ℕ} → StepsTo s bytes m left → StepsTo s bytes n other
      → (m ≡ n) × (left ≡ other)
  step_once p q = answer_once p q
