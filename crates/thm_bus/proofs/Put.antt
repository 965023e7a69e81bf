-- The memories with bytes put at places. No contract cites this file. Assumes nothing.
use Prim.Native.Nat.{ℕ, ◌+◌, ◌%◌, ◌≤◌, ◌<◌}
use native.Mathlib.Omega.{arith}
use mathlib.Core.Path.{◌≡◌, refl, sym, ap}
use mathlib.Core.Bool.{Bool, true, false, true≢false}
use mathlib.Core.List.{List}
use mathlib.Core.Logic.{◌≢◌}
use lib.Dec.{ltb}
use lib.ListN.{length}
use borrow.Author.Tests.{ltb-true, ltb-false}
use Rattle.rows.specs.Bytes.{put_from}
use Rattle.rows.proofs.Bytes.{length-put_from}
use Rattle.memory.specs.Memory.{byte}
use Rattle.gpu_pages.specs.declared.Page.{Page}
use Rattle.gpu_pages.specs.declared.Page.TheVariants.{Palram, Vram, Oam, Other}
use Rattle.gpu_pages.specs.Places.{is_other, even, offset_in}
use Rattle.gpu_bus.specs.Memories.{Memories, memories_of, bus_lengths, memory_of, with_memory}
use Rattle.gpu_pages.proofs.Offsets.{video_offset_bound}
use Rattle.gpu_bus.proofs.Lengths.{Sized}
use Rattle.thm_bus.proofs.Bytes.{put_from_again, put_from_comm, byte_put-other}

-- The memories with bytes put in that of a page.
abbrev pub put : Page → ℕ → List ℕ → Memories → Memories
put page at bytes m = with_memory page (put_from (memory_of page m) at bytes) m

-- Its memory is the one with the bytes put.
pub memory_of_put : (page : Page) (at : ℕ) (bytes : List ℕ) (m : Memories) → is_other page ≡ false
    → memory_of page (put page at bytes m) ≡ put_from (memory_of page m) at bytes
unfolding memory_of with_memory
memory_of_put Palram at bytes m some = refl
memory_of_put Vram at bytes m some = refl
memory_of_put Oam at bytes m some = refl
memory_of_put Other at bytes m some = absurd (true≢false some)

-- Lengths stay.
pub lengths_put : (page : Page) (at : ℕ) (bytes : List ℕ) (m : Memories) → bus_lengths (put page at bytes m) ≡ bus_lengths m
unfolding bus_lengths memory_of with_memory
lengths_put Palram at bytes m = rw (length-put_from m.palette at bytes)
lengths_put Vram at bytes m = rw (length-put_from m.vram at bytes)
lengths_put Oam at bytes m = rw (length-put_from m.oam at bytes)
lengths_put Other at bytes m = refl

-- Of as many bytes put at one place the last stand.
pub put_again : (page : Page) (at : ℕ) (bs cs : List ℕ) (m : Memories) → length bs ≡ length cs
    → put page at cs (put page at bs m) ≡ put page at cs m
unfolding memory_of with_memory
put_again Palram at bs cs m e = ap (λ (l : List ℕ). memories_of m.vram l m.oam) (put_from_again m.palette at bs cs e)
put_again Vram at bs cs m e = ap (λ (l : List ℕ). memories_of l m.palette m.oam) (put_from_again m.vram at bs cs e)
put_again Oam at bs cs m e = ap (λ (l : List ℕ). memories_of m.vram m.palette l) (put_from_again m.oam at bs cs e)
put_again Other at bs cs m e = refl

-- ---- two bytes each, at even offsets

module _ (i j : ℕ) (bs cs : List ℕ) (two : length bs ≡ 2) (too : length cs ≡ 2) (whole : i % 2 ≡ 0) (wide : j % 2 ≡ 0) where
  -- At different offsets of one memory.
  put_from_apart : (l : List ℕ) → i ≢ j → put_from (put_from l i bs) j cs ≡ put_from (put_from l j cs) i bs
  put_from_apart l n = go (ltb i j) refl
    where
      go : (t : Bool) → ltb i j ≡ t → put_from (put_from l i bs) j cs ≡ put_from (put_from l j cs) i bs
      go true t = let h : i < j = ltb-true i j t in put_from_comm l i j bs cs (omega arith)
      go false t = let h : j ≤ i = ltb-false i j t in sym (put_from_comm l j i cs bs (omega arith))

  -- At different places.
  pub put_apart : (p q : Page) (m : Memories) → (p ≡ q → i ≢ j) → put q j cs (put p i bs m) ≡ put p i bs (put q j cs m)
  unfolding memory_of with_memory
  put_apart Palram Palram m n = ap (λ (l : List ℕ). memories_of m.vram l m.oam) (put_from_apart m.palette (n refl))
  put_apart Vram Vram m n = ap (λ (l : List ℕ). memories_of l m.palette m.oam) (put_from_apart m.vram (n refl))
  put_apart Oam Oam m n = ap (λ (l : List ℕ). memories_of m.vram m.palette l) (put_from_apart m.oam (n refl))
  put_apart Palram Vram m n = refl
  put_apart Palram Oam m n = refl
  put_apart Palram Other m n = refl
  put_apart Vram Palram m n = refl
  put_apart Vram Oam m n = refl
  put_apart Vram Other m n = refl
  put_apart Oam Palram m n = refl
  put_apart Oam Vram m n = refl
  put_apart Oam Other m n = refl
  put_apart Other q m n = refl

module _ (i x : ℕ) (bs : List ℕ) (two : length bs ≡ 2) (whole : i % 2 ≡ 0) where
  -- A byte of another place.
  pub byte_apart : (p q : Page) (m : Memories) → (q ≡ p → even x ≢ i)
      → byte (memory_of q (put p i bs m)) x ≡ byte (memory_of q m) x
  unfolding memory_of with_memory
  byte_apart Palram Palram m n = byte_put-other m.palette i bs two x whole (n refl)
  byte_apart Vram Vram m n = byte_put-other m.vram i bs two x whole (n refl)
  byte_apart Oam Oam m n = byte_put-other m.oam i bs two x whole (n refl)
  byte_apart Palram Vram m n = refl
  byte_apart Palram Oam m n = refl
  byte_apart Palram Other m n = refl
  byte_apart Vram Palram m n = refl
  byte_apart Vram Oam m n = refl
  byte_apart Vram Other m n = refl
  byte_apart Oam Palram m n = refl
  byte_apart Oam Vram m n = refl
  byte_apart Oam Other m n = refl
  byte_apart Other q m n = refl

-- The halfword of an address lies in the memory of its page.
pub half-inside : (page : Page) (m : Memories) → Sized m → is_other page ≡ false → (address : ℕ)
    → even (offset_in page address) + 2 ≤ length (memory_of page m)
unfolding offset_in memory_of
half-inside Palram m sized some address = omega (arith, sized.palette_is)
half-inside Vram m sized some address = omega (arith, sized.vram_is, video_offset_bound address)
half-inside Oam m sized some address = omega (arith, sized.oam_is)
half-inside Other m sized some address = absurd (true≢false some)
