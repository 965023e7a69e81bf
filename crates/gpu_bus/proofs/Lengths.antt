-- Laws of lengths, and of a byte that is stored. No contract cites this file. Assumes nothing.
use Prim.Native.Nat.{ℕ, ◌+◌, ◌<◌}
use native.Mathlib.Omega.{arith}
use mathlib.Core.Path.{◌≡◌, sym, ◌∙◌}
use mathlib.Core.Bool.{Bool, true, false, not, ◌&&◌}
use mathlib.Core.List.{List}
use lib.Dec.{eqb}
use lib.ListN.{length}
use borrow.Author.Tests.{eqb-true, not-false}
use Rattle.bits.proofs.Booleans.{and_both}
use Rattle.memory.specs.Sizes.{video_ram_size, palette_ram_size, oam_size}
use Rattle.gpu_pages.specs.Places.{even}
use Rattle.gpu_bus.specs.Memories.{Memories, memories_of, bus_lengths}

-- ---- lengths

-- Every memory has its length.
pub record Sized (m : Memories) : Type 0 where
  pub vram_is : length m.vram ≡ video_ram_size
  pub palette_is : length m.palette ≡ palette_ram_size
  pub oam_is : length m.oam ≡ oam_size

pub sized_true : (m : Memories) → bus_lengths m ≡ true → Sized m
unfolding bus_lengths
sized_true m h =
    let two = and_both (eqb (length m.vram) video_ram_size && eqb (length m.palette) palette_ram_size) _ h in
    let one = and_both (eqb (length m.vram) video_ram_size) _ two.0 in
    record { vram_is = eqb-true _ _ one.0; palette_is = eqb-true _ _ one.1; oam_is = eqb-true _ _ two.1 }

-- What is found of lengths and offsets, as code comes to them: a byte and a halfword of each memory lie in it.
module _ (vram palette oam : List ℕ) {t : Bool} (t-is : t ≡ bus_lengths (memories_of vram palette oam)) (u : not t ≡ false) where
  sized_found : Sized (memories_of vram palette oam)
  sized_found = sized_true _ (sym t-is ∙ not-false _ u)

  module _ {at : ℕ} where
    pub palette-inside : at < 0x400 → at < length palette
    palette-inside h = omega (arith, sized_found.palette_is)

    pub oam-inside : at < 0x400 → at < length oam
    oam-inside h = omega (arith, sized_found.oam_is)

    pub video-inside : at < 0x18000 → at < length vram
    video-inside h = omega (arith, sized_found.vram_is)

    pub video_next : at < 0x18000 → at + 1 < length vram
    video_next h = omega (arith, sized_found.vram_is)

    module _ {i : ℕ} (i-is : i ≡ even at) where
      pub palette-half : at < 0x400 → i + 1 < length palette
      palette-half h = omega (arith, sized_found.palette_is)

      pub oam-half : at < 0x400 → i + 1 < length oam
      oam-half h = omega (arith, sized_found.oam_is)

      pub video-half : at < 0x18000 → i + 1 < length vram
      video-half h = omega (arith, sized_found.vram_is)

-- What lies in its memory.
pub ruleset inside = (palette-inside, oam-inside, video-inside, video_next, palette-half, oam-half, video-half)
