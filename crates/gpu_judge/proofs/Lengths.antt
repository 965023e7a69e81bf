-- What the tests of the lent memory's lengths make of it. No contract cites this file. Assumes nothing.
use Prim.Native.Nat.{ℕ}
use mathlib.Core.Path.{◌≡◌, sym, ap, ◌∙◌}
use mathlib.Core.Bool.{false, and-false, false≢true}
use mathlib.Core.List.{List}
use lib.Dec.{eqb}
use lib.ListN.{length}
use borrow.Author.Tests.{eq-eqb, ne_eqb}
use Rattle.std.specs.Option.{IsSome, is_some, ok_or}
use Rattle.std.specs.declared.option.Option.{Option}
use Rattle.std.specs.declared.option.Option.TheVariants.{None, Some}
use Rattle.std.specs.declared.result.Result.{Result}
use Rattle.std.specs.declared.result.Result.TheVariants.{Ok, Err}
use Rattle.refusals.specs.declared.Refusal.{Refusal}
use Rattle.memory.specs.Memory.{Memory, memory_from}
use Rattle.memory.specs.Sizes.{video_ram_size, palette_ram_size, oam_size, registers_size}
use Rattle.regs.specs.Reading.{try_reading}
use Rattle.regs.specs.declared.reading.Reading.{Reading}
use Rattle.gpu_judge.specs.Judge.{Call}
use Rattle.gpu_judge.specs.Code.{lent_memory, request}

module _ (vram palette oam registers : List ℕ) where
  -- A buffer of another length.
  pub lent_vram : (length vram ≡ video_ram_size → ⊥) → lent_memory (memory_from vram palette oam registers) ≡ Err Refusal.BadLength
  unfolding lent_memory
  lent_vram n = rw (ne_eqb _ _ n)

  pub lent_palette : (length palette ≡ palette_ram_size → ⊥) → lent_memory (memory_from vram palette oam registers) ≡ Err Refusal.BadLength
  unfolding lent_memory
  lent_palette n = simp (ne_eqb (length palette) palette_ram_size n, and-false)

  pub lent_oam : (length oam ≡ oam_size → ⊥) → lent_memory (memory_from vram palette oam registers) ≡ Err Refusal.BadLength
  unfolding lent_memory
  lent_oam n = simp (ne_eqb (length oam) oam_size n, and-false)

  pub lent_registers : (length registers ≡ registers_size → ⊥) → lent_memory (memory_from vram palette oam registers) ≡ Err Refusal.BadLength
  unfolding lent_memory
  lent_registers n = simp (ne_eqb (length registers) registers_size n, and-false)

  -- All of their lengths.
  pub lent_all : length vram ≡ video_ram_size → length palette ≡ palette_ram_size → length oam ≡ oam_size
      → length registers ≡ registers_size
      → lent_memory (memory_from vram palette oam registers) ≡ Ok (memory_from vram palette oam registers)
  unfolding lent_memory
  lent_all v p o r = rw (eq-eqb _ _ v, eq-eqb _ _ p, eq-eqb _ _ o, eq-eqb _ _ r)

-- ---- what a conversion of lent bytes tells

abbrev refusal_in : {A : Type 0} → Result A Refusal → Refusal → Refusal
refusal_in (Ok _) other = other
refusal_in (Err e) other = e

-- One that gives no array: the length is another, and the refusal is the one that is given.
pub missing : {A : Type 0} {o : Option A} {n m : ℕ} {e x : Refusal} → (n ≡ m → IsSome o) → o ≡ None
    → ◌≡◌ {A = Result A Refusal} (Err e) (ok_or o x) → (n ≡ m → ⊥) × (e ≡ x)
missing {e} {x} some gave same =
    let err : ◌≡◌ {A = Result _ Refusal} (Err e) (Err x) = same ∙ ap (λ o. ok_or o x) gave in (
      (λ size. false≢true (ap is_some (sym gave) ∙ some size)),
      ap (λ r. refusal_in r x) err,
    )

-- ---- what is asked for

module _ (c : Call) where
  pub request_reading : {e : Refusal} → try_reading c.reading ≡ Err e → request c ≡ Err e
  unfolding request
  request_reading p = rw p

  module _ {reading : Reading} (read : try_reading c.reading ≡ Ok reading) where
    pub request_memory : {e : Refusal} → lent_memory c.memory ≡ Err e → request c ≡ Err e
    unfolding request
    request_memory p = rw (read, p)

    pub request_both : {m : Memory} → lent_memory c.memory ≡ Ok m
        → request c ≡ Ok (record { reading = reading; line = c.line; references = c.references; memory = m })
    unfolding request
    request_both p = rw (read, p)
