-- Laws of points and pixels of affine and bitmap backgrounds. No contract cites this file. Assumes nothing.
use Prim.Native.Nat.{ℕ, zero, suc, ◌+◌, ◌*◌, ◌%◌, ◌≤◌, ◌<◌}
use native.Mathlib.Omega.{arith}
use mathlib.Core.Path.{◌≡◌, ap, ◌∙◌}
use mathlib.Core.List.{List}
use borrow.Author.Tests.{eq-eqb, ne_eqb}
use Rattle.memory.specs.Memory.{byte, half}
use Rattle.memory.specs.Palette.{palette_color}
use Rattle.memory.specs.declared.PixelFormat.TheVariants.{BPP8}
use Rattle.bg_regular.specs.Regular.{tile_color}
use Rattle.bg.specs.Bitmap.{bitmap_pixel}
use Rattle.bg.specs.Affine.{affine_side, affine_tile, affine_pixel}

-- No side is longer than 1024.
pub affine_side_bound : (size : ℕ) → size < 4 → affine_side size ≤ 1024
affine_side_bound zero h = omega arith
affine_side_bound (suc zero) h = omega arith
affine_side_bound (suc (suc zero)) h = omega arith
affine_side_bound (suc (suc (suc zero))) h = omega arith
affine_side_bound (suc (suc (suc (suc size)))) h = omega arith

-- ---- an affine background's pixel

-- The colour at a pixel of an affine background, as it is made: what is read of the map, and its tile.
pub affine_pixel_is : (vram palette : List ℕ) (screen tiles side x y : ℕ) {tile c : ℕ} →
    tile ≡ affine_tile vram screen side x y → c ≡ tile_color vram palette (tiles + 0x40 * tile) (x % 8) (y % 8) BPP8 0 →
    c ≡ affine_pixel vram palette screen tiles side x y
unfolding affine_pixel
affine_pixel_is vram palette screen tiles side x y tile-is c-is =
    c-is ∙ ap (λ (n : ℕ). tile_color vram palette (tiles + 0x40 * n) (x % 8) (y % 8) BPP8 0) tile-is

-- ---- a bitmap's pixel, as it is made: what is read of it

module _ (vram palette : List ℕ) (mode start w x y : ℕ) where
  pub bitmap_pixel-byte : {index c : ℕ} → mode ≡ 4 → index ≡ byte vram (start + (x + w * y)) → c ≡ palette_color palette 0 index 0 →
      c ≡ bitmap_pixel vram palette mode start w x y
  unfolding bitmap_pixel
  bitmap_pixel-byte four index_is c-is = rw (eq-eqb mode 4 four) (c-is ∙ ap (λ (n : ℕ). palette_color palette 0 n 0) index_is)

  pub bitmap_pixel-half : {c : ℕ} → (mode ≡ 4 → ⊥) → c ≡ half vram (start + 2 * (x + w * y)) → c ≡ bitmap_pixel vram palette mode start w x y
  unfolding bitmap_pixel
  bitmap_pixel-half other c-is = rw (ne_eqb mode 4 other) c-is
