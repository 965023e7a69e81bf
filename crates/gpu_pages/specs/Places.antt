-- Where an address of the bus falls (02, W-205; GBATEK, "GBA Memory Map, Unpredictable Things: 8-bit stores to video
-- memory"). Assumes nothing.
use Rattle.std.specs.Prelude.{ℕ, ◌-◌, ◌%◌, Bool, true, false, cond, eqb, ltb}
use Rattle.bits.specs.Bits.{bits}
use Rattle.gpu_pages.specs.declared.Page.{Page}
use Rattle.gpu_pages.specs.declared.Page.TheVariants.{Palram, Vram, Oam, Other}

-- A page is all eight top bits of the address: 5 is the palette, 6 video memory, 7 OAM (GBA Memory Map).
unfoldable pub page_of : ℕ → Page
page_of address =
    cond (eqb (bits 31 24 address) 5) Palram
    (cond (eqb (bits 31 24 address) 6) Vram
    (cond (eqb (bits 31 24 address) 7) Oam
    Other))

-- Whether it is none of the three.
abbrev pub is_other : Page → Bool
is_other Palram = false
is_other Vram = false
is_other Oam = false
is_other Other = true

-- Palette and OAM repeat every 1,024 bytes (GBA Memory Map).
abbrev pub small_offset : ℕ → ℕ
small_offset address = address % 0x400

-- Video offsets are taken modulo 0x20000, and those from 0x18000 lose 0x8000 (GBA Memory Map).
unfoldable pub video_offset : ℕ → ℕ
video_offset address =
    let offset = address % 0x20000 in
    cond (ltb offset 0x18000) offset (offset - 0x8000)

-- The folded offset of an address, in the memory of its page; another page has none.
unfoldable pub offset_in : Page → ℕ → ℕ
offset_in Palram address = small_offset address
offset_in Vram address = video_offset address
offset_in Oam address = small_offset address
offset_in Other address = 0

-- An offset with bit 0 cleared.
abbrev pub even : ℕ → ℕ
even offset = offset - offset % 2

-- A page, and an offset in its memory.
pub record Place : Type 0 where
  pub page : Page
  pub offset : ℕ

-- The byte that an address reaches: its page and the folded offset.
unfoldable pub byte_of : ℕ → Place
byte_of address = record { page = page_of address; offset = offset_in (page_of address) address }

-- The place of a byte: the offset with bit 0 cleared, where its halfword starts.
abbrev pub halfword_of : Place → Place
halfword_of b = record { page = b.page; offset = even b.offset }

-- The place of an address: its page and the folded offset with bit 0 cleared.
abbrev pub place_of : ℕ → Place
place_of address = halfword_of (byte_of address)
