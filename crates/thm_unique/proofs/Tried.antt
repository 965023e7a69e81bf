-- Some program meets the contract, and some program is of each useless kind. No contract cites this file. Assumes nothing.
use Prim.Native.Nat.{ℕ}
use native.Mathlib.Omega.{arith}
use mathlib.Core.Path.{◌≡◌, refl, sym, ◌∙◌}
use mathlib.Core.Bool.{Bool, true, false, cond}
use mathlib.Core.List.{List}
use lib.Dec.{eqb}
use lib.ListN.{length}
use lib.Seq.{ext_get_or}
use borrow.Author.Tests.{eq-eqb, eqb-true}
use Rattle.bits.proofs.Booleans.{and_both}
use Rattle.rows.proofs.Below.{all_below_at, all_below_ext}
use Rattle.rows.proofs.Cells.{length_row_of}
use Rattle.memory.specs.Memory.{byte}
use Rattle.obj_entries.specs.Entry.{entry_cells, entries_size, reset_row}
use Rattle.gpu_judge.specs.Judge.{Call, verdict}
use Rattle.gpu.specs.Line.{blank_line}
use Rattle.gpu.specs.Draw.{draw}
use Rattle.std.specs.declared.result.Result.TheVariants.{Ok}
use Rattle.gpu_judge.specs.declared.Picture.TheVariants.{Drawn}
use Rattle.thm_unique.specs.Useless.{Meets, RefusesAll, PaintsAlike, LeavesEntries, FirstOnly}
use Rattle.thm_unique.specs.Useless.{refuser, painter, keeper, is_reset, starter}
use Rattle.thm_unique.proofs.Once.{draw_some}
use Rattle.thm_unique.proofs.Accepted.{given_accepted}

-- The definition itself meets the contract.
pub draw_meets : Meets draw
draw_meets c entries output = draw_some c entries output

pub refuser_refuses : RefusesAll refuser
unfolding refuser
refuser_refuses c entries output = λ e. omega arith

pub painter_paints : PaintsAlike painter
unfolding painter
painter_paints c d entries output c-is d-is =
    let blank : (b : Call) → verdict b entries output ≡ Ok Drawn → (painter b entries output).output ≡ blank_line
    = λ b b-is.
    rw (given_accepted b entries output b-is (draw_some b entries output)).0 in
    blank c c-is ∙ sym (blank d d-is)

pub keeper_keeps : LeavesEntries keeper
unfolding keeper
keeper_keeps c entries output = refl

is_reset_true : (entries : List ℕ) → is_reset entries ≡ true → entries ≡ reset_row
unfolding is_reset
is_reset_true entries is =
    let both = and_both (eqb (length entries) entries_size) _ is in
    let size : length entries ≡ entries_size = eqb-true _ _ both.0 in
    ext_get_or 0 entries reset_row (size ∙ sym (length_row_of entry_cells _ 240))
    (λ k k<. eqb-true _ _ (all_below_at _ entries_size both.1 k (omega arith)))

is_reset-reset : is_reset reset_row ≡ true
unfolding is_reset
is_reset-reset = rw (length_row_of entry_cells _ 240) (all_below_ext _ entries_size (λ k k<. eq-eqb (byte reset_row k) _ refl))

pub starter_leaves : FirstOnly starter
unfolding starter
starter_leaves c entries output other = go (is_reset entries) refl
  where
    go : (t : Bool) → is_reset entries ≡ t → cond t (draw c entries output).entries entries ≡ entries
    go true is = absurd (other (is_reset_true entries is))
    go false is = refl

-- On the reset row it gives what a draw gives.
pub starter_starts : (c : Call) (output : List ℕ) → starter c reset_row output ≡ draw c reset_row output
unfolding starter
starter_starts c output = rw is_reset-reset
