-- The four useless programs (01, "How tight the contracts are"). No public contract cites this file. Assumes nothing.
use Rattle.std.specs.Prelude.{ℕ, ◌≡◌, Bool, cond, ◌&&◌, List, ◌≢◌, eqb, length}
use Rattle.rows.specs.Below.{all_below}
use Rattle.memory.specs.Memory.{byte}
use Rattle.obj_entries.specs.Entry.{entries_size, reset_row}
use Rattle.gpu_judge.specs.Judge.{Call, verdict}
use Rattle.gpu.specs.Line.{blank_line}
use Rattle.gpu.specs.Draw.{Drawing, draw, Draws}
use Rattle.std.specs.declared.result.Result.TheVariants.{Ok}
use Rattle.gpu_judge.specs.declared.Picture.TheVariants.{Drawn}

-- A program: what it gives for what it is asked for, the entries and the output.
abbrev pub Program : Type 0
Program = Call → List ℕ → List ℕ → Drawing

-- What a program gives satisfies the contract of a draw, for every input.
abbrev pub Meets : Program → Type 0
Meets program =
    (c : Call) (entries output : List ℕ)
    → let d = program c entries output in Draws c entries output d.number d.entries d.output

-- ---- the kinds of program

-- One that refuses everything: its number is never 0.
abbrev pub RefusesAll : Program → Type 0
RefusesAll program = (c : Call) (entries output : List ℕ) → (program c entries output).number ≢ 0

-- One that paints every line alike: accepted draws leave the same output, whatever they are asked for.
abbrev pub PaintsAlike : Program → Type 0
PaintsAlike program =
    (c d : Call) (entries output : List ℕ)
    → verdict c entries output ≡ Ok Drawn → verdict d entries output ≡ Ok Drawn
    → (program c entries output).output ≡ (program d entries output).output

-- One that leaves the entries untouched.
abbrev pub LeavesEntries : Program → Type 0
LeavesEntries program = (c : Call) (entries output : List ℕ) → (program c entries output).entries ≡ entries

-- One that runs sprites on the first draw after a reset and merely claims to later: it leaves the entries untouched unless
-- they are those of the reset row.
abbrev pub FirstOnly : Program → Type 0
FirstOnly program =
    (c : Call) (entries output : List ℕ) → entries ≢ reset_row → (program c entries output).entries ≡ entries

-- ---- a program of each kind, which else does what the contract asks

unfoldable pub refuser : Program
refuser c entries output = record { number = 1; entries = entries; output = output }

unfoldable pub painter : Program
painter c entries output =
    let d = draw c entries output in
    record { number = d.number; entries = d.entries; output = cond (eqb d.number 0) blank_line output }

unfoldable pub keeper : Program
keeper c entries output =
    let d = draw c entries output in record { number = d.number; entries = entries; output = d.output }

-- Whether the entries are those of the reset row.
unfoldable pub is_reset : List ℕ → Bool
is_reset entries =
    eqb (length entries) entries_size && all_below (λ k. eqb (byte entries k) (byte reset_row k)) entries_size

unfoldable pub starter : Program
starter c entries output =
    let d = draw c entries output in
    record { number = d.number; entries = cond (is_reset entries) d.entries entries; output = d.output }
