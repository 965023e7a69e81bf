-- Which addresses reach one byte, and what follows of their reads and stores. No contract cites this file. Assumes nothing.
use Prim.Native.Nat.{ℕ, ◌+◌, ◌-◌, ◌*◌, ◌/◌, ◌%◌, ◌≤◌, ◌<◌}
use native.Mathlib.Omega.{arith}
use mathlib.Core.Path.{◌≡◌, refl, sym, ap, ap₂, ◌∙◌}
use mathlib.Core.Bool.{Bool, true, false, ◌&&◌, cond, true≢false}
use lib.Dec.{ltb}
use borrow.Author.Tests.{ltb-true, ltb-false, lt-ltb, le-ltb}
use Rattle.bits.specs.Bits.{bit}
use Rattle.regs.specs.Registers.{dispcnt}
use Rattle.regs.specs.Display.{mode}
use Rattle.obj_sprites.specs.Tiles.{tiles_start}
use Rattle.gpu_pages.specs.declared.Page.{Page}
use Rattle.gpu_pages.specs.declared.Page.TheVariants.{Palram, Vram, Oam, Other}
use Rattle.gpu_pages.specs.Places.{Place, page_of, video_offset, offset_in, even, byte_of, place_of}
use Rattle.gpu_bus.specs.Memories.{Memories}
use Rattle.gpu_bus.specs.Read.{read8}
use Rattle.gpu_bus.specs.Store.{Store, Store8, Store16, takes_byte, is_taken, store_lengths, is_video, is_odd_halfword, store_number, stored, store}
use Rattle.gpu_pages.proofs.Offsets.{video_offset_low, video_offset_high, video_offset_parity}
use Rattle.thm_bus.specs.BusLaws.{store_at}

-- ---- the mirrors

-- Addresses of one page with one offset reach one byte.
byte_of_is : (a b : ℕ) (page : Page) → page_of a ≡ page → page_of b ≡ page → offset_in page a ≡ offset_in page b
    → byte_of a ≡ byte_of b
unfolding byte_of
byte_of_is a b page in-a in_b same = rw (in-a, in_b, same)

small_same : (address k : ℕ) (page : Page) → is_video page ≡ false → offset_in page (address + 0x400 * k) ≡ offset_in page address
unfolding offset_in
small_same address k Palram n = omega arith
small_same address k Vram n = absurd (true≢false n)
small_same address k Oam n = omega arith
small_same address k Other n = refl

pub byte_of_small : (address k : ℕ) → is_video (page_of address) ≡ false → page_of (address + 0x400 * k) ≡ page_of address
    → byte_of (address + 0x400 * k) ≡ byte_of address
byte_of_small address k n same =
    byte_of_is (address + 0x400 * k) address (page_of address) same refl (small_same address k (page_of address) n)

pub byte_of_video : (address k : ℕ) → page_of address ≡ Vram → page_of (address + 0x20000 * k) ≡ Vram
    → byte_of (address + 0x20000 * k) ≡ byte_of address
unfolding offset_in video_offset
byte_of_video address k here there =
    let e : (address + 0x20000 * k) % 0x20000 ≡ address % 0x20000 = omega arith in
    byte_of_is (address + 0x20000 * k) address Vram there here (rw e)

-- 0x8000 past a byte of the third quarter stands in the last, on the same page.
module _ (address : ℕ) (from : 0x10000 ≤ address % 0x20000) (to : address % 0x20000 < 0x18000) where
  page_next : page_of (address + 0x8000) ≡ page_of address
  unfolding page_of
  page_next =
      let e : (address + 0x8000) / 0x1000000 % 256 ≡ address / 0x1000000 % 256 = omega arith in rw e

  pub byte_of_last : page_of address ≡ Vram → byte_of (address + 0x8000) ≡ byte_of address
  unfolding offset_in
  byte_of_last here =
      byte_of_is (address + 0x8000) address Vram (page_next ∙ here) here
      (let e : (address + 0x8000) % 0x20000 ≡ address % 0x20000 + 0x8000 = omega arith in
      sym (video_offset_high (address + 0x8000) (omega arith)) ∙ omega arith ∙ video_offset_low address to)

-- ---- what an address is asked for

-- Whether an address is odd, by the page's offset.
odd_is : (page : Page) (address : ℕ) → is_video page && bit 0 address ≡ is_video page && bit 0 (offset_in page address)
unfolding offset_in
odd_is Palram address = refl
odd_is Vram address = let e : address / 1 % 2 ≡ video_offset address / 1 % 2 = omega (arith, video_offset_parity address) in rw e
odd_is Oam address = refl
odd_is Other address = refl

module _ (a b : ℕ) (same : byte_of a ≡ byte_of b) where
  pages_same : page_of a ≡ page_of b
  unfolding byte_of
  pages_same = ap (λ (p : Place). p.page) same

  offsets_same : offset_in (page_of a) a ≡ offset_in (page_of b) b
  unfolding byte_of
  offsets_same = ap (λ (p : Place). p.offset) same

  pub odd_mirror : (s : Store) → is_odd_halfword (store_at a s) ≡ is_odd_halfword (store_at b s)
  unfolding store_at is_odd_halfword
  odd_mirror (Store8 registers old value) = refl
  odd_mirror (Store16 old value) =
      odd_is (page_of a) a
      ∙ ap₂ (λ (p : Page) (n : ℕ). is_video p && bit 0 n) pages_same offsets_same
      ∙ sym (odd_is (page_of b) b)

  pub read8_mirror : (m : Memories) → read8 a m ≡ read8 b m
  unfolding read8
  read8_mirror m = rw same

-- ---- a store asks for its place alone

tiles_start-even : (mode : ℕ) → tiles_start mode % 2 ≡ 0
unfolding tiles_start
tiles_start-even mode = go (ltb mode 3)
  where
    go : (t : Bool) → cond t 0x10000 0x14000 % 2 ≡ 0
    go true = refl
    go false = refl

ltb-even : (x y start : ℕ) → even x ≡ even y → start % 2 ≡ 0 → ltb x start ≡ ltb y start
ltb-even x y start e whole = go (ltb y start) refl
  where
    go : (t : Bool) → ltb y start ≡ t → ltb x start ≡ t
    go true t = let h : y < start = ltb-true y start t in lt-ltb x start (omega arith)
    go false t = let h : start ≤ y = ltb-false y start t in le-ltb x start (omega arith)

takes-even : (mode : ℕ) (page : Page) (x y : ℕ) → even x ≡ even y → takes_byte mode page x ≡ takes_byte mode page y
unfolding takes_byte
takes-even mode Palram x y e = refl
takes-even mode Vram x y e = ltb-even x y (tiles_start mode) e (tiles_start-even mode)
takes-even mode Oam x y e = refl
takes-even mode Other x y e = refl

module _ (a b : ℕ) (same : place_of a ≡ place_of b) where
  page_same : (byte_of a).page ≡ (byte_of b).page
  page_same = ap (λ (p : Place). p.page) same

  taken_same : (s : Store) → is_taken (store_at a s) ≡ is_taken (store_at b s)
  unfolding store_at is_taken
  taken_same (Store8 registers old value) =
      takes-even (mode (dispcnt registers)) (byte_of a).page (byte_of a).offset (byte_of b).offset (ap (λ (p : Place). p.offset) same)
      ∙ ap (λ (p : Page). takes_byte (mode (dispcnt registers)) p (byte_of b).offset) page_same
  taken_same (Store16 old value) = refl

  -- But for whether a halfword's address is odd.
  pub store-place : (s : Store) (m : Memories) → is_odd_halfword (store_at a s) ≡ is_odd_halfword (store_at b s)
      → store (store_at a s) m ≡ store (store_at b s) m
  unfolding store store_at store_number store_lengths stored byte_of
  store-place (Store8 registers old value) m odd = rw (taken_same (Store8 registers old value), odd, same, page_same)
  store-place (Store16 old value) m odd = rw (taken_same (Store16 old value), odd, same, page_same)
