-- The number of an explanation, by what tests find, what it tells, and the reason by it. No contract cites this file. Assumes
-- nothing.
use Prim.Native.Nat.{ℕ, ◌≤◌, ◌<◌}
use mathlib.Core.Path.{◌≡◌, refl, sym, ap, ◌∙◌}
use native.Mathlib.Omega.{arith}
use mathlib.Core.Bool.{Bool, true, false, cond, false≢true}
use mathlib.Core.List.{List}
use mathlib.Core.Logic.{◌↔◌}
use lib.Dec.{eqb, ltb}
use lib.ListN.{length}
use borrow.Author.Tests.{eqb-true, eqb-false, ne_eqb, lt-ltb, le-ltb, ltb-true, ltb-false}
use Rattle.rows.proofs.Tab.{length-tab}
use Rattle.memory.specs.Sizes.{registers_size}
use Rattle.regs.specs.Registers.{dispcnt}
use Rattle.regs.specs.Display.{force_blank}
use Rattle.regs.specs.Reading.{reading_of}
use Rattle.bg_points.specs.declared.references.References.{References}
use Rattle.std.specs.declared.result.Result.{Result}
use Rattle.std.specs.declared.result.Result.TheVariants.{Ok, Err}
use Rattle.refusals.specs.Refusal.{refusal_number, outcome_number}
use Rattle.refusals.specs.declared.Refusal.{Refusal}
use Rattle.obj_entries.specs.Entry.{entries_size}
use Rattle.gpu_judge.specs.Judge.{Call, call_of, verdict}
use Rattle.gpu_judge.specs.Code.{Lengths, Ready, next, request, judged, call_in}
use Rattle.gpu_judge.specs.declared.Picture.{Picture}
use Rattle.gpu_judge.specs.declared.Picture.TheVariants.{Blank, Drawn}
use Rattle.gpu_judge.specs.declared.Request.{Request}
use Rattle.gpu_judge.proofs.Verdicts.{verdict_unasked, verdict_short, verdict_judged, call_asked, verdict_cases}
use Rattle.gpu.specs.Line.{entries_after}
use Rattle.gpu.specs.Draw.{given, draw}
use Rattle.explain.specs.Reason.{refused_reason, blank_reason, case_reason}
use Rattle.explain.specs.Explain.{case_at, whole_output, explain_number, explain, Explains}
use Rattle.explain.specs.Code.{column_reason, shown_reason, found}
use Rattle.explain.specs.declared.Reason.{Reason}

-- ---- a draw's number

-- A draw's number is its verdict's.
pub draw-number : (c : Call) (entries output : List ℕ) → (draw c entries output).number ≡ outcome_number (verdict c entries output)
unfolding draw given outcome_number refusal_number
draw-number c entries output =
    verdict_cases c entries output (λ v. (given v c entries output).number ≡ outcome_number v)
    refl refl refl (λ _ _. refl) refl refl refl (λ _. refl) (λ _ _. refl)

-- ---- what the number tells

-- Whether forced blank is on.
abbrev pub is_blank : Call → Bool
is_blank c = force_blank (dispcnt c.memory.registers)

module _ (c : Call) (entries : List ℕ) where
  -- A draw's 0 is that of forced blank, or of an input which passed all tests.
  pub zero_cases : (output : List ℕ) (P : Result Picture Refusal → Type 0)
      → (is_blank c ≡ true → Lengths c.memory entries output → P (Ok Blank))
      → (is_blank c ≡ false → Ready c entries output → P (Ok Drawn))
      → outcome_number (verdict c entries output) ≡ 0 → P (verdict c entries output)
  unfolding outcome_number refusal_number
  zero_cases output P blank accepted =
      verdict_cases c entries output (λ v. outcome_number v ≡ 0 → P v)
      (λ e. absurd (omega arith)) (λ e. absurd (omega arith)) (λ e. absurd (omega arith))
      (λ on lengths _. blank on lengths)
      (λ e. absurd (omega arith)) (λ e. absurd (omega arith)) (λ e. absurd (omega arith)) (λ _ e. absurd (omega arith))
      (λ off ready _. accepted off ready)

  abbrev registers : List ℕ
  registers = c.memory.registers

  -- What a draw that isn't refused has.
  abbrev Passed : Type 0
  Passed = (length registers ≡ registers_size) × (is_blank c ≡ false → Ready c entries whole_output)

  pub passed : outcome_number (verdict c entries whole_output) ≡ 0 → Passed
  passed =
      zero_cases whole_output (λ _. Passed)
      (λ on lengths. (lengths.memory_is.registers_is, λ off. absurd (false≢true (sym off ∙ on))))
      (λ _ ready. (ready.lengths.memory_is.registers_is, λ _. ready))

  module _ (column : ℕ) where
    -- A number of 0 comes of a draw's 0 and a column below 240, and of nothing else.
    pub number-zero : (explain_number c entries column ≡ 0) ↔ ((outcome_number (verdict c entries whole_output) ≡ 0) × (column < 240))
    unfolding explain_number
    number-zero =
        let n = outcome_number (verdict c entries whole_output) in go n (eqb n 0) (ltb column 240) refl refl
      where
        go : (n : ℕ) (none inside : Bool) → eqb n 0 ≡ none → ltb column 240 ≡ inside
            → (cond none (cond inside 0 8) n ≡ 0) ↔ ((n ≡ 0) × (column < 240))
        go n true true s t = (λ e. (eqb-true n 0 s, ltb-true column 240 t), λ both. refl)
        go n true false s t = (λ e. absurd (omega arith), λ both. absurd (omega (arith, ltb-false column 240 t, both.1)))
        go n false inside s t = (λ e. absurd (eqb-false n 0 s e), λ both. both.0)

-- ---- what code finds

-- What is answered for what is found.
abbrev answer : Result Reason Refusal → Reason
answer (Ok reason) = reason
answer (Err refusal) = refused_reason (refusal_number refusal)

module _ (c : Call) (entries : List ℕ) (column : ℕ) where
  explain_found : answer (found c entries column) ≡ explain c entries column
  unfolding found explain explain_number outcome_number refusal_number
  explain_found =
      verdict_cases c entries whole_output
      (λ v.
      answer (next v (λ picture. cond (ltb column 240) (Ok (shown_reason picture c entries column)) (Err Refusal.BadColumn)))
      ≡ (let n = cond (eqb (outcome_number v) 0) (cond (ltb column 240) 0 8) (outcome_number v) in
      cond (eqb n 0) (cond (is_blank c) blank_reason (column_reason c entries column)) (refused_reason n)))
      refl refl refl (λ on _. blank on (ltb column 240)) refl refl refl (λ _. refl) (λ off _. drawn off (ltb column 240))
    where
      blank : is_blank c ≡ true → (t : Bool)
          → answer (cond t (Ok blank_reason) (Err Refusal.BadColumn))
          ≡ (let n : ℕ = cond t 0 8 in
          cond (eqb n 0) (cond (is_blank c) blank_reason (column_reason c entries column)) (refused_reason n))
      blank on true = rw on
      blank on false = refl

      drawn : is_blank c ≡ false → (t : Bool)
          → answer (cond t (Ok (column_reason c entries column)) (Err Refusal.BadColumn))
          ≡ (let n : ℕ = cond t 0 8 in
          cond (eqb n 0) (cond (is_blank c) blank_reason (column_reason c entries column)) (refused_reason n))
      drawn off true = rw off
      drawn off false = refl

  module _ {f : Result Reason Refusal} (f-is : f ≡ found c entries column) where
    pub explains_reason : {r : Reason} → f ≡ Ok r → Explains c entries column r
    explains_reason is = ap answer (sym is ∙ f-is) ∙ explain_found

    pub explains_refused : {x : Refusal} {r : Reason} → f ≡ Err x → r ≡ refused_reason (refusal_number x) → Explains c entries column r
    explains_refused is r-is = r-is ∙ ap answer (sym is ∙ f-is) ∙ explain_found

  pub found_unasked : {x : Refusal} → request c ≡ Err x → found c entries column ≡ Err x
  unfolding found
  found_unasked refused = rw (verdict_unasked c entries whole_output refused)

  module _ {r : Request} (asks : request c ≡ Ok r) where
    pub found_short : (length entries ≡ entries_size → ⊥) → found c entries column ≡ Err Refusal.BadLength
    unfolding found
    found_short n = rw (verdict_short c entries whole_output asks n)

    module _ {e : List ℕ} (e-is : e ≡ entries) (whole : length e ≡ entries_size) where
      verdict_whole : verdict c entries whole_output ≡ judged r e
      verdict_whole = rw (sym e-is) (verdict_judged c e whole_output asks whole (length-tab _ 960))

      pub found_refused : {x : Refusal} → judged r e ≡ Err x → found c entries column ≡ Err x
      unfolding found
      found_refused is = rw (verdict_whole ∙ is)

      module _ {p : Picture} (is : judged r e ≡ Ok p) where
        pub found_outside : 240 ≤ column → found c entries column ≡ Err Refusal.BadColumn
        unfolding found
        found_outside out = rw (verdict_whole ∙ is, le-ltb column 240 out)

        pub found_reason : column < 240 → {reason : Reason} → reason ≡ shown_reason p (call_in r) e column
            → found c entries column ≡ Ok reason
        unfolding found
        found_reason inside reason_is =
            rw (verdict_whole ∙ is, lt-ltb column 240 inside, reason_is, call_asked c asks, e-is) refl

-- ---- what the reason is

module _ (c : Call) (entries : List ℕ) (column : ℕ) where
  -- What is explained where nothing is refused.
  abbrev pub reason_shown : Reason
  reason_shown =
      cond (is_blank c) blank_reason
      (case_reason (reading_of c.reading) c.memory.registers (case_at c (entries_after c entries) column))

  explain-number : (explain c entries column).number ≡ explain_number c entries column
  unfolding explain case_reason
  explain-number =
      let n = explain_number c entries column in go n (eqb n 0) (is_blank c) _ refl refl
    where
      go : (n : ℕ) (none on : Bool) (s : Reason) → s.number ≡ 0 → eqb n 0 ≡ none
          → (cond none (cond on blank_reason s) (refused_reason n)).number ≡ n
      go n true true s z t = sym (eqb-true n 0 t)
      go n true false s z t = z ∙ sym (eqb-true n 0 t)
      go n false on s z t = refl

  module _ {r : Reason} (r-is : Explains c entries column r) where
    pub reason-number : r.number ≡ explain_number c entries column
    reason-number = ap (λ (s : Reason). s.number) r-is ∙ explain-number

    pub reason-refused : (r.number ≡ 0 → ⊥) → r ≡ refused_reason r.number
    unfolding explain
    reason-refused not = rw (sym reason-number, ne_eqb r.number 0 not) at r-is

    module _ (zero_is : r.number ≡ 0) where
      pub reason-shown : r ≡ reason_shown
      unfolding explain
      reason-shown = rw (sym reason-number ∙ zero_is) at r-is

      pub reason_blank : is_blank c ≡ true → r ≡ blank_reason
      reason_blank on = rw on at reason-shown

-- ---- the same explanation

-- Its reference numbers given as equal ones.
pub explains_same : {q r : References} (reading line : ℕ) (vram palette oam registers entries : List ℕ) (column : ℕ)
    {reason : Reason} → q ≡ r
    → Explains (call_of reading line q vram palette oam registers) entries column reason
    → Explains (call_of reading line r vram palette oam registers) entries column reason
explains_same reading line vram palette oam registers entries column same e =
    e ∙ ap (λ four. explain (call_of reading line four vram palette oam registers) entries column) same
