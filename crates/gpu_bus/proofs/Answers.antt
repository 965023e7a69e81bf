-- What reads and stores give, by what their tests find. No contract cites this file. Assumes nothing.
use Prim.Native.Nat.{ℕ, ◌/◌, ◌%◌}
use native.Mathlib.Omega.{arith}
use mathlib.Core.Path.{◌≡◌, refl, sym, ap, ap₂, ◌∙◌}
use mathlib.Core.Bool.{Bool, true, false, not, ◌&&◌, and-false}
use mathlib.Core.List.{List, [], ◌∷◌}
use lib.Dec.{eqb, ltb}
use lib.ListN.{length}
use borrow.Author.Tests.{not-true, not-false, eq-eqb, ne_eqb}
use Rattle.rows.specs.Bytes.{put_from}
use Rattle.bits.specs.Bits.{bit}
use Rattle.memory.specs.Memory.{byte}
use Rattle.memory.specs.Sizes.{registers_size}
use Rattle.regs.specs.Registers.{dispcnt}
use Rattle.regs.specs.Display.{mode, DisplayControlOf}
use Rattle.regs.specs.declared.DisplayControl.{DisplayControl}
use Rattle.obj_sprites.specs.Tiles.{tiles_start}
use Rattle.gpu_pages.specs.declared.Page.{Page}
use Rattle.gpu_pages.specs.declared.Page.TheVariants.{Palram, Vram, Oam, Other}
use Rattle.gpu_pages.specs.Places.{page_of, is_other, small_offset, video_offset, offset_in, even, byte_of}
use Rattle.gpu_bus.specs.Memories.{Memories, memories_of, bus_lengths, memory_of, with_memory, put_at_place}
use Rattle.gpu_bus.specs.Read.{read_byte, read8, Reads}
use Rattle.refusals.specs.Refusal.{refusal_number}
use Rattle.refusals.specs.declared.Refusal.TheVariants.{BadLength, BadPage}
use Rattle.std.specs.declared.result.Result.TheVariants.{Ok, Err}
use Rattle.gpu_bus.specs.Store.{Store, Store8, Store16, address_of, two_bytes, stored, takes_byte, is_taken}
use Rattle.gpu_bus.specs.Store.{store_lengths, is_video, is_odd_halfword, store_number, store, Stores}
use Rattle.gpu_pages.proofs.Offsets.{video_offset_parity}

-- ---- reads

module _ (address : ℕ) (m : Memories) {t : Bool} (t-is : t ≡ bus_lengths m) where
  pub reads-length : not t ≡ true → Reads address m (read_byte (Err BadLength))
  unfolding read8 read_byte refusal_number
  reads-length u = rw (sym t-is, u) refl

  module _ (u : not t ≡ false) {p : Page} (p-is : p ≡ page_of address) where
    pub reads_other : p ≡ Other → Reads address m (read_byte (Err BadPage))
    unfolding read8 byte_of read_byte refusal_number
    reads_other found = rw (sym t-is, u, sym p-is, found) refl

    module _ {at v : ℕ} where
      -- From whichever memory.
      reads_page : (page : Page) → is_other page ≡ false → p ≡ page → at ≡ offset_in page address
          → v ≡ byte (memory_of page m) at → Reads address m (read_byte (Ok v))
      unfolding read8 byte_of read_byte
      reads_page page some found at-is v-is = rw (sym t-is, u, sym p-is, found, some, sym at-is, v-is) refl

      pub reads_palette : p ≡ Palram → at ≡ small_offset address → v ≡ byte m.palette at → Reads address m (read_byte (Ok v))
      unfolding offset_in memory_of
      reads_palette = reads_page Palram refl

      pub reads_video : p ≡ Vram → at ≡ video_offset address → v ≡ byte m.vram at → Reads address m (read_byte (Ok v))
      unfolding offset_in memory_of
      reads_video = reads_page Vram refl

      pub reads_oam : p ≡ Oam → at ≡ small_offset address → v ≡ byte m.oam at → Reads address m (read_byte (Ok v))
      unfolding offset_in memory_of
      reads_oam = reads_page Oam refl

-- What a read gives, in each case.
pub ruleset reads = (reads-length, reads_other, reads_palette, reads_video, reads_oam)

-- ---- stores of either width

module _ (s : Store) (m : Memories) where
  pub stores-length : store_lengths s m ≡ false → Stores s m 2 m
  unfolding store store_number
  stores-length l = rw l

  module _ (l : store_lengths s m ≡ true) where
    pub stores-other : page_of (address_of s) ≡ Other → Stores s m 9 m
    unfolding store store_number
    stores-other e = rw (l, e)

    module _ (page : Page) (some : is_other page ≡ false) (e : page_of (address_of s) ≡ page) where
      pub stores_odd : is_odd_halfword s ≡ true → Stores s m 11 m
      unfolding store store_number
      stores_odd odd = rw (l, e, some, odd)

      module _ (o : is_odd_halfword s ≡ false) where
        pub stores_ignored : is_taken s ≡ false → Stores s m 0 m
        unfolding store store_number
        stores_ignored n = rw (l, e, some, o, n)

        pub stores_put : is_taken s ≡ true → {at : ℕ} {left : List ℕ} → at ≡ even (offset_in page (address_of s))
            → left ≡ put_from (memory_of page m) at (stored s) → Stores s m 0 (with_memory page left m)
        unfolding store store_number put_at_place byte_of
        stores_put y at-is left_is = rw (l, e, some, o, y, left_is, at-is)

-- ---- halfword stores, as code comes to them

module _ (address value : ℕ) (vram palette oam : List ℕ) {t : Bool} (t-is : t ≡ bus_lengths (memories_of vram palette oam)) where
  abbrev half : Store
  half = Store16 address value

  abbrev before : Memories
  before = memories_of vram palette oam

  pub half_length : not t ≡ true → Stores half before 2 before
  unfolding store_lengths
  half_length u = stores-length half before (sym t-is ∙ not-true _ u)

  module _ (u : not t ≡ false) {p : Page} (p-is : p ≡ page_of address) where
    half_sized : store_lengths half before ≡ true
    unfolding store_lengths
    half_sized = sym t-is ∙ not-false _ u

    pub half-other : p ≡ Other → Stores half before 9 before
    half-other found = stores-other half before half_sized (sym p-is ∙ found)

    -- Whether the address of a page is one that is refused as odd.
    odd_is : (page : Page) → p ≡ page → is_odd_halfword half ≡ is_video page && bit 0 address
    unfolding is_odd_halfword
    odd_is page found = ap (λ (q : Page). is_video q && bit 0 address) (sym p-is ∙ found)

    pub half_odd : p ≡ Vram → address % 2 ≡ 1 → Stores half before 11 before
    half_odd found one =
        stores_odd half before half_sized Vram refl (sym p-is ∙ found)
        (odd_is Vram found ∙ eq-eqb (address / 1 % 2) 1 (omega arith))

    module _ {at : ℕ} {left : List ℕ} where
      pub half_video : p ≡ Vram → (address % 2 ≡ 1 → ⊥) → at ≡ video_offset address → left ≡ put_from vram at (two_bytes value)
          → Stores half before 0 (memories_of left palette oam)
      unfolding offset_in memory_of with_memory stored is_taken
      half_video found n at-is left_is =
          let whole : at ≡ even (video_offset address) = at-is ∙ omega (arith, video_offset_parity address) in
          stores_put half before half_sized Vram refl (sym p-is ∙ found)
          (odd_is Vram found ∙ ne_eqb (address / 1 % 2) 1 (λ e. n (omega arith)))
          refl whole left_is

      module _ {i : ℕ} (at-is : at ≡ small_offset address) (i-is : i ≡ even at) where
        pub half_palette : p ≡ Palram → left ≡ put_from palette i (two_bytes value)
            → Stores half before 0 (memories_of vram left oam)
        unfolding offset_in memory_of with_memory stored is_taken
        half_palette found left_is =
            stores_put half before half_sized Palram refl (sym p-is ∙ found) (odd_is Palram found) refl
            (i-is ∙ ap even at-is) left_is

        pub half_oam : p ≡ Oam → left ≡ put_from oam i (two_bytes value)
            → Stores half before 0 (memories_of vram palette left)
        unfolding offset_in memory_of with_memory stored is_taken
        half_oam found left_is =
            stores_put half before half_sized Oam refl (sym p-is ∙ found) (odd_is Oam found) refl
            (i-is ∙ ap even at-is) left_is

-- What a store of a halfword gives, in each case.
pub ruleset halves = (half_length, half_odd, half_palette, half_video, half_oam, half-other)

-- ---- byte stores, as code comes to them

-- Where sprite tiles start, by the mode that is read.
pub takes_before : (registers : List ℕ) (at : ℕ) {d : DisplayControl} → DisplayControlOf (dispcnt registers) d
    → {start : ℕ} → start ≡ tiles_start d.mode → ltb at start ≡ takes_byte (mode (dispcnt registers)) Vram at
unfolding takes_byte
takes_before registers at d-is start_is = rw (start_is, d-is.mode_is)

-- Whether a byte is taken, by the page of its address.
taken_is : (registers : List ℕ) (address value : ℕ) (page : Page) → page_of address ≡ page
    → is_taken (Store8 registers address value) ≡ takes_byte (mode (dispcnt registers)) page (offset_in page address)
unfolding is_taken byte_of
taken_is registers address value page e =
    ap (λ (q : Page). takes_byte (mode (dispcnt registers)) q (offset_in q address)) e

module _ (registers : List ℕ) (address value : ℕ) (vram palette oam : List ℕ) where
  abbrev single : Store
  single = Store8 registers address value

  abbrev lent : Memories
  lent = memories_of vram palette oam

  pub byte_registers : (length registers ≡ registers_size → ⊥) → Stores single lent 2 lent
  unfolding store_lengths
  byte_registers n =
      stores-length single lent
      (ap (λ (b : Bool). bus_lengths lent && b) (ne_eqb (length registers) registers_size n) ∙ and-false (bus_lengths lent))

  module _ {t : Bool} (t-is : t ≡ bus_lengths lent) where
    pub byte-length : not t ≡ true → Stores single lent 2 lent
    unfolding store_lengths
    byte-length u =
        stores-length single lent
        (ap (λ (b : Bool). b && eqb (length registers) registers_size) (sym t-is ∙ not-true _ u))

  module _ {t : Bool} (t-is : t ≡ bus_lengths lent) (l : length registers ≡ registers_size) (u : not t ≡ false)
      {p : Page} (p-is : p ≡ page_of address) where
    byte_sized : store_lengths single lent ≡ true
    unfolding store_lengths
    byte_sized = ap₂ ◌&&◌ (sym t-is ∙ not-false _ u) (eq-eqb (length registers) registers_size l)

    never_odd : is_odd_halfword single ≡ false
    unfolding is_odd_halfword
    never_odd = refl

    pub byte-other : p ≡ Other → Stores single lent 9 lent
    byte-other found = stores-other single lent byte_sized (sym p-is ∙ found)

    pub byte_oam : p ≡ Oam → Stores single lent 0 lent
    unfolding takes_byte
    byte_oam found =
        let e = sym p-is ∙ found in
        stores_ignored single lent byte_sized Oam refl e never_odd (taken_is registers address value Oam e)

    module _ (x : ℕ) (x_is : two_bytes x ≡ value ∷ value ∷ []) {at i : ℕ} (i-is : i ≡ even at) {left : List ℕ} where
      pub byte_palette : p ≡ Palram → at ≡ small_offset address → left ≡ put_from palette i (two_bytes x)
          → Stores single lent 0 (memories_of vram left oam)
      unfolding offset_in memory_of with_memory stored takes_byte
      byte_palette found at-is left_is =
          let e = sym p-is ∙ found in
          stores_put single lent byte_sized Palram refl e never_odd (taken_is registers address value Palram e)
          (i-is ∙ ap even at-is) (left_is ∙ ap (put_from palette i) x_is)

    module _ (found : p ≡ Vram) {at : ℕ} (at-is : at ≡ video_offset address)
        {y : Bool} (y_is : y ≡ takes_byte (mode (dispcnt registers)) Vram at) where
      taken_video : is_taken single ≡ y
      unfolding offset_in
      taken_video = taken_is registers address value Vram (sym p-is ∙ found) ∙ rw (sym at-is, sym y_is)

      pub byte_tiles : y ≡ false → Stores single lent 0 lent
      byte_tiles n = stores_ignored single lent byte_sized Vram refl (sym p-is ∙ found) never_odd (taken_video ∙ n)

      pub byte_video : y ≡ true → (x : ℕ) → two_bytes x ≡ value ∷ value ∷ [] → {i : ℕ} → i ≡ even at
          → {left : List ℕ} → left ≡ put_from vram i (two_bytes x) → Stores single lent 0 (memories_of left palette oam)
      unfolding offset_in memory_of with_memory stored
      byte_video yes-is x x_is i-is left_is =
          stores_put single lent byte_sized Vram refl (sym p-is ∙ found) never_odd (taken_video ∙ yes-is)
          (i-is ∙ ap even at-is) (left_is ∙ ap (put_from vram _) x_is)

-- What a store of a byte gives, in each case.
pub ruleset singles = (byte_registers, byte-length, byte_palette, byte_video, byte_tiles, byte_oam, byte-other)
