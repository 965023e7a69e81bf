-- Laws of offsets. No contract cites this file. Assumes nothing.
use Prim.Native.Nat.{ℕ, ◌-◌, ◌%◌, ◌<◌, ◌≤◌}
use native.Mathlib.Omega.{arith}
use mathlib.Core.Path.{◌≡◌, refl, subst}
use mathlib.Core.Bool.{Bool, true, false}
use lib.Dec.{ltb}
use borrow.Author.Tests.{lt-ltb, le-ltb, ltb-true, ltb-false}
use Rattle.gpu_pages.specs.Places.{video_offset}

pub video_offset_low : (address : ℕ) → address % 0x20000 < 0x18000 → address % 0x20000 ≡ video_offset address
unfolding video_offset
video_offset_low address h = rw (lt-ltb _ 0x18000 h)

pub video_offset_high : (address : ℕ) → 0x18000 ≤ address % 0x20000 → address % 0x20000 - 0x8000 ≡ video_offset address
unfolding video_offset
video_offset_high address h = rw (le-ltb _ 0x18000 h)

-- What holds of both cases holds of the offset.
video_offset_cases : (P : ℕ → Type 0) (address : ℕ) → (address % 0x20000 < 0x18000 → P (address % 0x20000))
    → (0x18000 ≤ address % 0x20000 → P (address % 0x20000 - 0x8000)) → P (video_offset address)
video_offset_cases P address low high = go (ltb (address % 0x20000) 0x18000) refl
  where
    go : (t : Bool) → ltb (address % 0x20000) 0x18000 ≡ t → P (video_offset address)
    go true t = let h = ltb-true _ 0x18000 t in subst P (video_offset_low address h) (low h)
    go false t = let h = ltb-false _ 0x18000 t in subst P (video_offset_high address h) (high h)

-- An even address has an even offset, and an odd one an odd.
pub video_offset_parity : (address : ℕ) → video_offset address % 2 ≡ address % 2
video_offset_parity address = video_offset_cases (λ n. n % 2 ≡ address % 2) address (λ h. omega arith) (λ h. omega arith)

pub video_offset_bound : (address : ℕ) → video_offset address < 0x18000
video_offset_bound address = video_offset_cases (λ n. n < 0x18000) address (λ h. h) (λ h. omega arith)
