-- Laws of reads and stores (02, W-205; GBATEK, "GBA Memory Map, Unpredictable Things: 8-bit stores to video memory"). A place
-- is a page and a folded offset with bit 0 cleared. Assumes nothing.
use Rattle.std.specs.Prelude.{ℕ, ◌+◌, ◌*◌, ◌%◌, ◌≤◌, ◌<◌, ◌≡◌, true, false, ◌≢◌}
use Rattle.memory.specs.Memory.{byte}
use Rattle.gpu_bus.specs.declared.Byte.{Byte}
use Rattle.gpu_pages.specs.declared.Page.TheVariants.{Vram}
use Rattle.gpu_pages.specs.Places.{Place, page_of, byte_of, halfword_of, place_of}
use Rattle.gpu_bus.specs.Memories.{Memories, memory_of}
use Rattle.gpu_bus.specs.Read.{byte_in, read8, Reads}
use Rattle.gpu_bus.specs.Store.{Store, Store8, Store16, address_of, stored, is_video, is_odd_halfword, store_number, is_written, store, Stores}

-- The place that a store is for.
abbrev pub store_place : Store → Place
store_place s = place_of (address_of s)

-- The memories after a store.
abbrev pub after : Store → Memories → Memories
after s m = (store s m).memories

-- The byte at an offset of a page's memory.
abbrev pub byte_at : Place → Memories → ℕ
byte_at b m = byte (memory_of b.page m) b.offset

-- The same store at another address.
unfoldable pub store_at : ℕ → Store → Store
store_at address (Store8 registers old value) = Store8 registers address value
store_at address (Store16 old value) = Store16 address value

pub record BusLaws : Type 0 where
  -- A store that writes leaves its two bytes at its place, and every byte of another place is as it was.
  pub written : (s : Store) (m : Memories) → is_written s m ≡ true → (b : Place) → halfword_of b ≡ store_place s
      → byte_at b (after s m) ≡ byte (stored s) (b.offset % 2)
  pub others : (s : Store) (m : Memories) (b : Place) → halfword_of b ≢ store_place s → byte_at b (after s m) ≡ byte_at b m
  -- A read after a store that writes gives its byte, after one that doesn't the old byte, and so does a read of another place.
  pub read_written : (s : Store) (m : Memories) → is_written s m ≡ true → (address : ℕ) → place_of address ≡ store_place s
      → read8 address (after s m) ≡ byte_in (stored s) (address % 2)
  pub read_unwritten : (s : Store) (m : Memories) → is_written s m ≡ false → (address : ℕ)
      → read8 address (after s m) ≡ read8 address m
  pub read_elsewhere : (s : Store) (m : Memories) (address : ℕ) → place_of address ≢ store_place s
      → read8 address (after s m) ≡ read8 address m
  -- No store changes the number that another gives, nor whether that one writes.
  pub same_number : (s t : Store) (m : Memories) → store_number t (after s m) ≡ store_number t m
  -- Of two stores to one place the last that writes stands.
  pub last_stands : (s t : Store) (m : Memories) → store_place s ≡ store_place t → is_written t m ≡ true
      → after t (after s m) ≡ after t m
  pub first_stands : (s t : Store) (m : Memories) → is_written t m ≡ false → after t (after s m) ≡ after s m
  -- Stores to different places commute.
  pub commutes : (s t : Store) (m : Memories) → store_place s ≢ store_place t → after t (after s m) ≡ after s (after t m)
  -- A store through a mirror is the store, and a read the read: an address that reaches the same byte gives the same answer.
  pub mirror_store : (s : Store) (m : Memories) (address : ℕ) → byte_of address ≡ byte_of (address_of s)
      → store (store_at address s) m ≡ store s m
  pub mirror_read : (m : Memories) (a b : ℕ) → byte_of a ≡ byte_of b → read8 a m ≡ read8 b m
  -- A store asks for its place alone, and a halfword store of page 6 whether its address is odd, too.
  pub same_place : (s : Store) (m : Memories) (address : ℕ) → place_of address ≡ store_place s
      → is_odd_halfword (store_at address s) ≡ is_odd_halfword s → store (store_at address s) m ≡ store s m
  -- The mirrors: palette and OAM every 1,024 bytes, video memory every 128 KiB, and its last 32 KiB are those before them.
  pub small_mirrors : (address k : ℕ) → is_video (page_of address) ≡ false → page_of (address + 0x400 * k) ≡ page_of address
      → byte_of (address + 0x400 * k) ≡ byte_of address
  pub video_mirrors : (address k : ℕ) → page_of address ≡ Vram → page_of (address + 0x20000 * k) ≡ Vram
      → byte_of (address + 0x20000 * k) ≡ byte_of address
  pub last_mirror : (address : ℕ) → page_of address ≡ Vram → 0x10000 ≤ address % 0x20000 → address % 0x20000 < 0x18000
      → byte_of (address + 0x8000) ≡ byte_of address
  -- No second answer satisfies a contract.
  pub read_once : (address : ℕ) (m : Memories) {b c : Byte} → Reads address m b → Reads address m c → b ≡ c
  pub store_once : (s : Store) (m : Memories) {j k : ℕ} {left other : Memories}
      → Stores s m j left → Stores s m k other → (j ≡ k) × (left ≡ other)
