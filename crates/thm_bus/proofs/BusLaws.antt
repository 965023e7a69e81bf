-- The laws of reads and stores. No contract cites this file. Assumes nothing.
use Prim.Native.Nat.{ℕ, ◌+◌, ◌%◌, ◌≤◌}
use native.Mathlib.Omega.{arith}
use mathlib.Core.Path.{◌≡◌, refl, sym, ap, ap₂, subst, ◌∙◌}
use mathlib.Core.Bool.{Bool, true, false, cond, not, ◌&&◌, true≢false}
use mathlib.Core.List.{List}
use mathlib.Core.Logic.{◌≢◌}
use lib.Dec.{eqb}
use lib.ListN.{length}
use borrow.Author.Tests.{eqb-true}
use Rattle.bits.proofs.Booleans.{and_both}
use Rattle.rows.specs.Bytes.{put_from}
use Rattle.memory.specs.Memory.{byte}
use Rattle.gpu_pages.specs.declared.Page.{Page}
use Rattle.gpu_pages.specs.declared.Page.TheVariants.{Palram, Vram, Oam, Other}
use Rattle.gpu_pages.specs.Places.{Place, page_of, is_other, offset_in, even, byte_of, halfword_of, place_of}
use Rattle.gpu_bus.specs.Memories.{Memories, bus_lengths, memory_of, put_at_place}
use Rattle.gpu_bus.specs.Read.{byte_in, read8}
use Rattle.gpu_bus.specs.Store.{Store, Store8, Store16, address_of, stored, is_taken, store_lengths, is_odd_halfword, store_number}
use Rattle.gpu_bus.specs.Store.{is_written, Stored, store}
use Rattle.gpu_pages.proofs.Offsets.{video_offset_parity}
use Rattle.gpu_bus.proofs.Lengths.{sized_true}
use Rattle.thm_bus.specs.BusLaws.{store_place, after, byte_at, store_at, BusLaws}
use Rattle.thm_bus.proofs.Bytes.{byte_put_same}
use Rattle.thm_bus.proofs.Put.{memory_of_put, lengths_put, put_again, put_apart, byte_apart, half-inside}
use Rattle.thm_bus.proofs.Mirrors.{byte_of_small, byte_of_video, byte_of_last, read8_mirror, store-place, odd_mirror}

-- ---- what a store leaves

length-stored : (s : Store) → length (stored s) ≡ 2
unfolding stored
length-stored (Store8 registers address value) = refl
length-stored (Store16 address value) = refl

even_whole : (offset : ℕ) → even offset % 2 ≡ 0
even_whole offset = omega arith

module _ (s : Store) (m : Memories) where
  after-written : is_written s m ≡ true → after s m ≡ put_at_place (store_place s) (stored s) m
  unfolding store
  after-written w = rw w

  after_unwritten : is_written s m ≡ false → after s m ≡ m
  unfolding store
  after_unwritten w = rw w

  -- What holds of both holds of what a store leaves.
  after_cases : (P : Memories → Type 0) → P (put_at_place (store_place s) (stored s) m) → P m → P (after s m)
  after_cases P put kept = go (is_written s m) refl
    where
      go : (t : Bool) → is_written s m ≡ t → P (after s m)
      go true w = subst P (sym (after-written w)) put
      go false w = subst P (sym (after_unwritten w)) kept

  lengths-after : bus_lengths (after s m) ≡ bus_lengths m
  unfolding put_at_place
  lengths-after =
      after_cases (λ n. bus_lengths n ≡ bus_lengths m) (lengths_put (store_place s).page (store_place s).offset (stored s) m) refl

number-after : (s t : Store) (m : Memories) → store_number t (after s m) ≡ store_number t m
unfolding store_number store_lengths
number-after s (Store8 registers address value) m = rw (lengths-after s m)
number-after s (Store16 address value) m = rw (lengths-after s m)

written_after : (s t : Store) (m : Memories) → is_written t (after s m) ≡ is_written t m
written_after s t m = ap (λ (n : ℕ). eqb n 0 && is_taken t) (number-after s t m)

-- Places that aren't the same differ in their offsets where their pages are the same.
differ : {a b : Place} → a ≢ b → a.page ≡ b.page → a.offset ≢ b.offset
differ n same e = n (ap₂ (λ (p : Page) (o : ℕ). record { page = p; offset = o }) same e)

-- ---- two stores

module _ (s t : Store) (m : Memories) where
  first_stands : is_written t m ≡ false → after t (after s m) ≡ after s m
  first_stands w = after_unwritten t (after s m) (written_after s t m ∙ w)

  last_stands : store_place s ≡ store_place t → is_written t m ≡ true → after t (after s m) ≡ after t m
  unfolding put_at_place
  last_stands same w =
      after-written t (after s m) (written_after s t m ∙ w)
      ∙ after_cases s m (λ n. put_at_place (store_place t) (stored t) n ≡ put_at_place (store_place t) (stored t) m) over refl
      ∙ sym (after-written t m w)
    where
      over : put_at_place (store_place t) (stored t) (put_at_place (store_place s) (stored s) m)
          ≡ put_at_place (store_place t) (stored t) m
      over =
          ap (λ (p : Place). put_at_place (store_place t) (stored t) (put_at_place p (stored s) m)) same
          ∙ put_again (store_place t).page (store_place t).offset (stored s) (stored t) m (length-stored s ∙ sym (length-stored t))

  -- Both written, at different places.
  both_put : store_place s ≢ store_place t
      → put_at_place (store_place t) (stored t) (put_at_place (store_place s) (stored s) m)
      ≡ put_at_place (store_place s) (stored s) (put_at_place (store_place t) (stored t) m)
  unfolding put_at_place
  both_put n =
      put_apart (store_place s).offset (store_place t).offset (stored s) (stored t) (length-stored s) (length-stored t)
      (even_whole _) (even_whole _) (store_place s).page (store_place t).page m (differ n)

  commutes : store_place s ≢ store_place t → after t (after s m) ≡ after s (after t m)
  commutes n = go (is_written s m) refl (is_written t m) refl
    where
      go : (x : Bool) → is_written s m ≡ x → (y : Bool) → is_written t m ≡ y → after t (after s m) ≡ after s (after t m)
      go false x y _ =
          ap (after t) (after_unwritten s m x) ∙ sym (after_unwritten s (after t m) (written_after t s m ∙ x))
      go true x false y = first_stands y ∙ sym (ap (after s) (after_unwritten t m y))
      go true x true y =
          after-written t (after s m) (written_after s t m ∙ y)
          ∙ ap (put_at_place (store_place t) (stored t)) (after-written s m x)
          ∙ both_put n
          ∙ sym (ap (put_at_place (store_place s) (stored s)) (after-written t m y))
          ∙ sym (after-written s (after t m) (written_after t s m ∙ x))

-- ---- bytes after a store

-- What a number of 0 tells.
number-zero : (l o d : Bool) → ◌≡◌ {A = ℕ} (cond (not l) 2 (cond o 9 (cond d 11 0))) 0 → (l ≡ true) × (o ≡ false)
number-zero false o d e = absurd (omega arith)
number-zero true true d e = absurd (omega arith)
number-zero true false d e = (refl, refl)

lengths-store : (s : Store) (m : Memories) → store_lengths s m ≡ true → bus_lengths m ≡ true
unfolding store_lengths
lengths-store (Store8 registers address value) m l = (and_both (bus_lengths m) _ l).0
lengths-store (Store16 address value) m l = l

offset_parity : (page : Page) (address : ℕ) → is_other page ≡ false → offset_in page address % 2 ≡ address % 2
unfolding offset_in
offset_parity Palram address some = omega arith
offset_parity Vram address some = video_offset_parity address
offset_parity Oam address some = omega arith
offset_parity Other address some = absurd (true≢false some)

byte_parity : (address : ℕ) → is_other (byte_of address).page ≡ false → (byte_of address).offset % 2 ≡ address % 2
unfolding byte_of
byte_parity address some = offset_parity (page_of address) address some

module _ (s : Store) (m : Memories) where
  others : (b : Place) → halfword_of b ≢ store_place s → byte_at b (after s m) ≡ byte_at b m
  unfolding put_at_place
  others b n =
      after_cases s m (λ o. byte_at b o ≡ byte_at b m)
      (byte_apart (store_place s).offset b.offset (stored s) (length-stored s) (even_whole _)
      (store_place s).page b.page m (differ n))
      refl

  module _ (w : is_written s m ≡ true) where
    accepted : (store_lengths s m ≡ true) × (is_other (page_of (address_of s)) ≡ false)
    unfolding store_number
    accepted =
        number-zero (store_lengths s m) (is_other (page_of (address_of s))) (is_odd_halfword s)
        (eqb-true (store_number s m) 0 (and_both (eqb (store_number s m) 0) (is_taken s) w).0)

    whole : bus_lengths m ≡ true
    whole = lengths-store s m accepted.0

    inside : (store_place s).offset + 2 ≤ length (memory_of (store_place s).page m)
    unfolding byte_of
    inside = half-inside (page_of (address_of s)) m (sized_true m whole) accepted.1 (address_of s)

    some_page : is_other (store_place s).page ≡ false
    unfolding byte_of
    some_page = accepted.1

    written : (b : Place) → halfword_of b ≡ store_place s → byte_at b (after s m) ≡ byte (stored s) (b.offset % 2)
    unfolding put_at_place
    written b same =
        let page-is : b.page ≡ (store_place s).page = ap (λ (p : Place). p.page) same in
        let start : even b.offset ≡ (store_place s).offset = ap (λ (p : Place). p.offset) same in
        let at : b.offset ≡ (store_place s).offset + b.offset % 2 = omega arith in
        ap (byte_at b) (after-written s m w)
        ∙ ap (λ (p : Page). byte (memory_of p (put_at_place (store_place s) (stored s) m)) b.offset) page-is
        ∙ ap (λ (l : List ℕ). byte l b.offset) (memory_of_put (store_place s).page (store_place s).offset (stored s) m some_page)
        ∙ ap (byte (put_from (memory_of (store_place s).page m) (store_place s).offset (stored s))) at
        ∙ byte_put_same _ _ (stored s) (length-stored s) (b.offset % 2) (omega arith) inside

    read_written : (address : ℕ) → place_of address ≡ store_place s → read8 address (after s m) ≡ byte_in (stored s) (address % 2)
    unfolding read8
    read_written address same =
        let here : is_other (byte_of address).page ≡ false = ap (λ (p : Place). is_other p.page) same ∙ some_page in
        rw (lengths-after s m, whole, here, written (byte_of address) same, byte_parity address here)

  read_elsewhere : (address : ℕ) → place_of address ≢ store_place s → read8 address (after s m) ≡ read8 address m
  unfolding read8
  read_elsewhere address n = rw (lengths-after s m, others (byte_of address) n)

-- ---- the laws

-- A store is the store at its own address.
store_at_own : (s : Store) → store_at (address_of s) s ≡ s
unfolding store_at
store_at_own (Store8 registers address value) = refl
store_at_own (Store16 address value) = refl

module _ (s : Store) (m : Memories) (address : ℕ) where
  same_place : place_of address ≡ store_place s → is_odd_halfword (store_at address s) ≡ is_odd_halfword s
      → store (store_at address s) m ≡ store s m
  same_place same odd =
      store-place address (address_of s) same s m (odd ∙ ap is_odd_halfword (sym (store_at_own s)))
      ∙ ap (λ (t : Store). store t m) (store_at_own s)

  mirror_store : byte_of address ≡ byte_of (address_of s) → store (store_at address s) m ≡ store s m
  mirror_store same =
      same_place (ap halfword_of same) (odd_mirror address (address_of s) same s ∙ ap is_odd_halfword (store_at_own s))

pub bus_laws : BusLaws
bus_laws =
    record {
      written = written;
      others = others;
      read_written = read_written;
      read_unwritten = λ s m w address. ap (read8 address) (after_unwritten s m w);
      read_elsewhere = read_elsewhere;
      same_number = number-after;
      last_stands = last_stands;
      first_stands = first_stands;
      commutes = commutes;
      mirror_store = mirror_store;
      mirror_read = λ m a b same. read8_mirror a b same m;
      same_place = same_place;
      small_mirrors = byte_of_small;
      video_mirrors = byte_of_video;
      last_mirror = λ address here from to. byte_of_last address from to here;
      read_once = λ address m p q. p ∙ sym q;
      store_once = λ s m p q.
          let same = p ∙ sym q in
          (ap (λ (a : Stored). a.number) same, ap (λ (a : Stored). a.memories) same);
    }
