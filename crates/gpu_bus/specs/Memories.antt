-- The three memories that the bus reaches (02, W-205; 01, "What one draw takes and gives"). Assumes nothing.
use Rattle.std.specs.Prelude.{ℕ, Bool, ◌&&◌, List, [], eqb, length}
use Rattle.rows.specs.Bytes.{put_from}
use Rattle.memory.specs.Sizes.{video_ram_size, palette_ram_size, oam_size}
use Rattle.gpu_pages.specs.declared.Page.{Page}
use Rattle.gpu_pages.specs.declared.Page.TheVariants.{Palram, Vram, Oam, Other}
use Rattle.gpu_pages.specs.Places.{Place}

-- The memories, each as its bytes.
pub record Memories : Type 0 where
  pub vram : List ℕ
  pub palette : List ℕ
  pub oam : List ℕ

-- The memories in the order in which they are lent.
abbrev pub memories_of : List ℕ → List ℕ → List ℕ → Memories
memories_of vram palette oam = record { vram = vram; palette = palette; oam = oam }

-- Whether each has its length.
unfoldable pub bus_lengths : Memories → Bool
bus_lengths m =
    eqb (length m.vram) video_ram_size && eqb (length m.palette) palette_ram_size && eqb (length m.oam) oam_size

-- The memory of a page.
unfoldable pub memory_of : Page → Memories → List ℕ
memory_of Palram m = m.palette
memory_of Vram m = m.vram
memory_of Oam m = m.oam
memory_of Other m = []

-- The memories with that of a page replaced.
unfoldable pub with_memory : Page → List ℕ → Memories → Memories
with_memory Palram bytes m = memories_of m.vram bytes m.oam
with_memory Vram bytes m = memories_of bytes m.palette m.oam
with_memory Oam bytes m = memories_of m.vram m.palette bytes
with_memory Other bytes m = m

-- The memories with these bytes put from a place on, and every other byte as before.
unfoldable pub put_at_place : Place → List ℕ → Memories → Memories
put_at_place place bytes m = with_memory place.page (put_from (memory_of place.page m) place.offset bytes) m
