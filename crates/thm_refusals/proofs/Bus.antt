-- What reads and stores give is what their tables give. No contract cites this file. Assumes nothing.
use Prim.Native.Nat.{ℕ}
use mathlib.Core.Path.{◌≡◌, refl}
use mathlib.Core.Bool.{Bool, true, false, cond, not, ◌&&◌}
use mathlib.Core.List.{[], ◌∷◌}
use mathlib.Core.Logic.{◌≢◌}
use lib.Dec.{eqb}
use Rattle.gpu_pages.specs.Places.{page_of, is_other, byte_of, place_of}
use Rattle.gpu_bus.specs.Memories.{Memories, bus_lengths, memory_of, put_at_place}
use Rattle.gpu_bus.specs.Read.{refused_byte, byte_in, read8}
use Rattle.gpu_bus.specs.Store.{Store, address_of, stored, is_taken, store_lengths, is_odd_halfword, store_number, store}
use Rattle.gpu_bus.specs.declared.Byte.{Byte}
use Rattle.thm_refusals.specs.Table.{row}
use Rattle.thm_refusals.specs.Demand1.{read_table, store_table}
use Rattle.thm_refusals.proofs.Tables.{first_of}

pub read_fits : (address : ℕ) (m : Memories) → let b = read8 address m in
    (b.number ≡ first_of (read_table address m)) × (b.number ≢ 0 → b ≡ refused_byte b.number)
unfolding read8 byte_of
read_fits address m =
    let at = byte_of address in
    go (byte_in (memory_of at.page m) at.offset) refl (bus_lengths m) (is_other (page_of address))
  where
    go : (byte : Byte) → byte.number ≡ 0 → (sized other : Bool)
        → let b = cond (not sized) (refused_byte 2) (cond other (refused_byte 9) byte) in
        (b.number ≡ first_of (row 2 (not sized) ∷ row 9 other ∷ [])) × (b.number ≢ 0 → b ≡ refused_byte b.number)
    go byte e false other = (refl, λ _. refl)
    go byte e true true = (refl, λ _. refl)
    go byte e true false = (e, λ n. absurd (n e))

pub store_fits : (s : Store) (m : Memories) → let a = store s m in
    (a.number ≡ first_of (store_table s m)) × (a.number ≢ 0 → a.memories ≡ m)
unfolding store store_number
store_fits s m =
    go (put_at_place (place_of (address_of s)) (stored s) m) (is_taken s)
    (store_lengths s m) (is_other (page_of (address_of s))) (is_odd_halfword s)
  where
    go : (put : Memories) (taken sized other odd : Bool)
        → let n : ℕ = cond (not sized) 2 (cond other 9 (cond odd 11 0)) in
        (n ≡ first_of (row 2 (not sized) ∷ row 9 other ∷ row 11 odd ∷ [])) × (n ≢ 0 → cond (eqb n 0 && taken) put m ≡ m)
    go put taken false other odd = (refl, λ _. refl)
    go put taken true true odd = (refl, λ _. refl)
    go put taken true false true = (refl, λ _. refl)
    go put taken true false false = (refl, λ n. absurd (n refl))
