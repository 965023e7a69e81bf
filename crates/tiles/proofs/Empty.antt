-- Laws of rows of a tile with nothing in them. No contract cites this file. Assumes nothing.
use Prim.Native.Nat.{ℕ, zero, suc, ◌+◌, ◌*◌, ◌<◌}
use mathlib.Core.Path.{◌≡◌, refl, sym, ap, ap₂, ◌∙◌}
use mathlib.Core.Bool.{Bool, true, ◌&&◌, and_assoc}
use mathlib.Core.List.{List}
use native.Mathlib.Omega.{arith}
use lib.Dec.{eqb, eqb-suc-zero}
use lib.ListN.{replicate}
use borrow.Author.Tests.{eqb-true}
use Rattle.bits.specs.Bits.{bits}
use Rattle.rgb15.specs.Colour.{rgb, transparent}
use Rattle.rows.specs.Below.{all_below}
use Rattle.rows.proofs.Below.{all_below_at}
use Rattle.rows.specs.Tab.{tab}
use Rattle.rows.proofs.Tab.{tab_cong, tab_replicate}
use Rattle.memory.specs.Memory.{byte, half}
use Rattle.memory.specs.Palette.{palette_color}
use Rattle.memory.specs.Tiles.{tile_pixel}
use Rattle.memory.specs.declared.PixelFormat.{PixelFormat}
use Rattle.memory.specs.declared.PixelFormat.TheVariants.{BPP4, BPP8}
use Rattle.memory.proofs.Laws.{Bytes, palette_color-zero}
use Rattle.tiles.specs.Flip.{flip}
use Rattle.tiles.proofs.Rows.{flip_bound}

-- A number that is 0 exactly if two others are.
eqb_both : (n a b : ℕ) → (n ≡ 0 → (a ≡ 0) × (b ≡ 0)) → (a ≡ 0 → b ≡ 0 → n ≡ 0) → eqb n 0 ≡ eqb a 0 && eqb b 0
eqb_both zero a b there back = rw ((there refl).0, (there refl).1) refl
eqb_both (suc n) zero zero there back = absurd (omega (arith, back refl refl))
eqb_both (suc n) zero (suc b) there back = eqb-suc-zero n ∙ sym (eqb-suc-zero b)
eqb_both (suc n) (suc a) b there back = eqb-suc-zero n ∙ ap (λ (t : Bool). t && eqb b 0) (sym (eqb-suc-zero a))

-- A byte and its two pixels.
eqb-byte : (b : ℕ) → b < 256 → eqb b 0 ≡ eqb (bits 3 0 b) 0 && eqb (bits 7 4 b) 0
eqb-byte b fits = eqb_both b (bits 3 0 b) (bits 7 4 b) (λ e. (omega arith, omega arith)) (λ e f. omega arith)

-- The word at an offset, little-endian.
abbrev word : List ℕ → ℕ → ℕ
word bytes at = half bytes at + 0x10000 * half bytes (at + 2)

-- A halfword and its bytes, a word and its bytes.
eqb-half : (bytes : List ℕ) (at : ℕ) → eqb (half bytes at) 0 ≡ eqb (byte bytes at) 0 && eqb (byte bytes (at + 1)) 0
unfolding half
eqb-half bytes at =
    eqb_both (half bytes at) (byte bytes at) (byte bytes (at + 1)) (λ e. (omega arith, omega arith)) (λ e f. omega arith)

eqb-word : (bytes : List ℕ) (at base k : ℕ) → at ≡ base + k →
    eqb (word bytes at) 0
    ≡ (eqb (byte bytes (base + k)) 0 && eqb (byte bytes (base + (k + 1))) 0)
    && (eqb (byte bytes (base + (k + 2))) 0 && eqb (byte bytes (base + (k + 3))) 0)
eqb-word bytes at base k first =
    let second : base + (k + 1) ≡ at + 1 = omega arith in
    let third : base + (k + 2) ≡ at + 2 = omega arith in
    let fourth : base + (k + 3) ≡ at + 2 + 1 = omega arith in
    rw (second, third, fourth, sym first)
    (eqb_both (word bytes at) (half bytes at) (half bytes (at + 2)) (λ e. (omega arith, omega arith)) (λ e f. omega arith)
    ∙ ap₂ ◌&&◌ (eqb-half bytes at) (eqb-half bytes (at + 2)))

-- Whether every pixel of a row has index 0.
abbrev pub empty_row : List ℕ → ℕ → ℕ → PixelFormat → Bool
empty_row vram addr y format = all_below (λ x. eqb (tile_pixel vram addr x y format) 0) 8

-- Eight tests, in pairs.
all_below_pairs : (test : ℕ → Bool) →
    ((test 0 && test 1) && (test 2 && test 3)) && ((test 4 && test 5) && (test 6 && test 7)) ≡ all_below test 8
unfolding all_below
all_below_pairs test = simp and_assoc

module _ (vram : List ℕ) (addr y : ℕ) where
  -- The bytes of a row of 4 bits a pixel are one word.
  pub empty_row_one-word : Bytes vram → {format : PixelFormat} {w : ℕ} → format ≡ BPP4 → w ≡ word vram (addr + 4 * y) →
      eqb w 0 ≡ empty_row vram addr y format
  unfolding tile_pixel
  empty_row_one-word small format-is w_is =
      let at = addr + 4 * y in
      rw (format-is, w_is)
      (eqb-word vram at at 0 (omega arith)
      ∙ ap₂ ◌&&◌
      (ap₂ ◌&&◌ (eqb-byte _ (small (at + 0))) (eqb-byte _ (small (at + 1))))
      (ap₂ ◌&&◌ (eqb-byte _ (small (at + 2))) (eqb-byte _ (small (at + 3))))
      ∙ all_below_pairs (λ x. eqb (tile_pixel vram addr x y BPP4) 0))

  -- Those of a row of 8 bits a pixel are two.
  pub empty_row_two_words : {format : PixelFormat} {v w : ℕ} → format ≡ BPP8 →
      v ≡ word vram (addr + 8 * y) → w ≡ word vram (addr + 8 * y + 4) →
      eqb v 0 && eqb w 0 ≡ empty_row vram addr y format
  unfolding tile_pixel
  empty_row_two_words format-is v-is w_is =
      let at = addr + 8 * y in
      rw (format-is, v-is, w_is)
      (ap₂ ◌&&◌ (eqb-word vram at at 0 (omega arith)) (eqb-word vram (at + 4) at 4 refl)
      ∙ all_below_pairs (λ x. eqb (tile_pixel vram addr x y BPP8) 0))

-- All colours of such a row are transparent, flipped or not.
pub row_empty : (vram palette : List ℕ) (offset addr y : ℕ) (format : PixelFormat) (bank : ℕ) (flipped : Bool) {t : Bool} →
    t ≡ empty_row vram addr y format → t ≡ true →
    replicate 8 (rgb transparent)
    ≡ tab (λ x. rgb (palette_color palette offset (tile_pixel vram addr (flip flipped 8 x) y format) bank)) 8
row_empty vram palette offset addr y format bank flipped t-is t-holds =
    tab_replicate (rgb transparent) 8
    ∙ tab_cong _ _ 8 (λ x x<. ap rgb (sym (color (flip flipped 8 x) (flip_bound flipped 8 x x<))))
  where
    index : (x : ℕ) → x < 8 → tile_pixel vram addr x y format ≡ 0
    index x x< = eqb-true _ 0 (all_below_at _ 8 (sym t-is ∙ t-holds) x x<)

    color : (x : ℕ) → x < 8 → palette_color palette offset (tile_pixel vram addr x y format) bank ≡ transparent
    color x x< = rw (index x x<) (palette_color-zero palette offset bank)
