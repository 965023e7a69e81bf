-- What a store gives (02, W-205; GBATEK, "GBA Memory Map, Unpredictable Things: 8-bit stores to video memory").
-- Assumes nothing.
use Rattle.std.specs.Prelude.{ℕ, ◌/◌, ◌%◌, ◌≡◌, Bool, true, false, cond, not, ◌&&◌, List, [], ◌∷◌, eqb, ltb, length}
use Rattle.bits.specs.Bits.{bit}
use Rattle.memory.specs.Sizes.{registers_size}
use Rattle.regs.specs.Registers.{dispcnt}
use Rattle.regs.specs.Display.{mode}
use Rattle.obj_sprites.specs.Tiles.{tiles_start}
use Rattle.gpu_pages.specs.declared.Page.{Page}
use Rattle.gpu_pages.specs.declared.Page.TheVariants.{Palram, Vram, Oam, Other}
use Rattle.gpu_pages.specs.Places.{is_other, page_of, byte_of, place_of}
use Rattle.gpu_bus.specs.Memories.{Memories, bus_lengths, put_at_place}

-- A store of a byte, by the registers that are lent with it, or of a halfword.
pub data Store : Type 0 where
  Store8 : (registers : List ℕ) (address value : ℕ) → Store
  Store16 : (address value : ℕ) → Store

-- The address that is stored to.
abbrev pub address_of : Store → ℕ
address_of (Store8 registers address value) = address
address_of (Store16 address value) = address

-- The two bytes of a halfword, little-endian.
abbrev pub two_bytes : ℕ → List ℕ
two_bytes value = value % 0x100 ∷ value / 0x100 % 0x100 ∷ []

-- What a store puts at its place: a byte fills both halves of its halfword.
unfoldable pub stored : Store → List ℕ
stored (Store8 registers address value) = value ∷ value ∷ []
stored (Store16 address value) = two_bytes value

-- Whether a byte is taken: by the palette, and by video memory before the start of sprite tiles. A byte stored to OAM or to
-- sprite tiles changes nothing (8-bit stores to video memory).
unfoldable pub takes_byte : ℕ → Page → ℕ → Bool
takes_byte mode Palram offset = true
takes_byte mode Vram offset = ltb offset (tiles_start mode)
takes_byte mode Oam offset = false
takes_byte mode Other offset = false

-- Whether a store is taken where it isn't refused: a halfword is, and a byte by the mode in the registers.
unfoldable pub is_taken : Store → Bool
is_taken (Store8 registers address value) =
    let at = byte_of address in
    takes_byte (mode (dispcnt registers)) at.page at.offset
is_taken (Store16 address value) = true

-- Whether each buffer that is lent with a store has its length.
unfoldable pub store_lengths : Store → Memories → Bool
store_lengths (Store8 registers address value) m = bus_lengths m && eqb (length registers) registers_size
store_lengths (Store16 address value) m = bus_lengths m

-- Whether it is page 6.
abbrev pub is_video : Page → Bool
is_video Palram = false
is_video Vram = true
is_video Oam = false
is_video Other = false

-- A halfword store at an odd address of page 6.
unfoldable pub is_odd_halfword : Store → Bool
is_odd_halfword (Store8 registers address value) = false
is_odd_halfword (Store16 address value) = is_video (page_of address) && bit 0 address

-- 2 for a wrong length, then 9 for any other page, then 11 for a halfword store at an odd address of page 6.
unfoldable pub store_number : Store → Memories → ℕ
store_number s m =
    cond (not (store_lengths s m)) 2
    (cond (is_other (page_of (address_of s))) 9
    (cond (is_odd_halfword s) 11
    0))

-- Whether a store writes: it is accepted and taken.
abbrev pub is_written : Store → Memories → Bool
is_written s m = eqb (store_number s m) 0 && is_taken s

-- What a store gives: its number, and the memories afterwards.
pub record Stored : Type 0 where
  pub number : ℕ
  pub memories : Memories

-- The memories afterwards are those before with the store's two bytes put at its place if it writes, all others as before.
unfoldable pub store : Store → Memories → Stored
store s m =
    record {
      number = store_number s m;
      memories = cond (is_written s m) (put_at_place (place_of (address_of s)) (stored s) m) m;
    }

-- A store gives the number and leaves the memories: its whole contract.
abbrev pub Stores : Store → Memories → ℕ → Memories → Type 0
Stores s m number left = record { number = number; memories = left } ≡ store s m
