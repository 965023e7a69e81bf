-- What a byte read gives (02, W-205). Assumes nothing.
use Rattle.std.specs.Prelude.{ℕ, ◌≡◌, cond, not, List}
use Rattle.std.specs.declared.result.Result.{Result}
use Rattle.std.specs.declared.result.Result.TheVariants.{Ok, Err}
use Rattle.refusals.specs.Refusal.{refusal_number}
use Rattle.refusals.specs.declared.Refusal.{Refusal}
use Rattle.memory.specs.Memory.{byte}
use Rattle.gpu_bus.specs.declared.Byte.{Byte}
use Rattle.gpu_pages.specs.Places.{is_other, byte_of}
use Rattle.gpu_bus.specs.Memories.{Memories, bus_lengths, memory_of}

-- A refused read has value 0.
abbrev pub refused_byte : ℕ → Byte
refused_byte number = record { number = number; value = 0 }

-- A byte that is read, or why it is refused, as it is handed out.
unfoldable pub read_byte : Result ℕ Refusal → Byte
read_byte (Ok value) = record { number = 0; value = value }
read_byte (Err refusal) = refused_byte (refusal_number refusal)

-- The byte at an offset, read.
abbrev pub byte_in : List ℕ → ℕ → Byte
byte_in bytes at = record { number = 0; value = byte bytes at }

-- 2 for a wrong length, then 9 for any other page, else the byte that the address reaches.
unfoldable pub read8 : ℕ → Memories → Byte
read8 address m =
    let place = byte_of address in
    cond (not (bus_lengths m)) (refused_byte 2)
    (cond (is_other place.page) (refused_byte 9)
    (byte_in (memory_of place.page m) place.offset))

-- A read gives the byte: its whole contract. Nothing is lent to be written.
abbrev pub Reads : ℕ → Memories → Byte → Type 0
Reads address m b = b ≡ read8 address m
