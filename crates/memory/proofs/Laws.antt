-- Laws of reads. No contract cites this file. Assumes nothing.
use Prim.Native.Nat.{ℕ, zero, suc, ◌<◌}
use native.Mathlib.Omega.{arith}
use mathlib.Core.Path.{◌≡◌, refl, sym, ◌∙◌}
use mathlib.Core.List.{List}
use lib.Dec.{eqb, eqb-suc-zero}
use borrow.Author.Tests.{ne_eqb}
use Rattle.rgb15.specs.Colour.{transparent, is_transparent}
use Rattle.memory.specs.Memory.{byte}
use Rattle.memory.specs.Palette.{palette_color}

-- Every element is a byte, as is known of a lent array: `c.fits-vram`.
abbrev pub Bytes : List ℕ → Type 0
Bytes bytes = (at : ℕ) → byte bytes at < 256

module _ (palette : List ℕ) (offset bank : ℕ) where
  -- Index 0 is transparent.
  pub palette_color-zero : palette_color palette offset 0 bank ≡ transparent
  unfolding palette_color
  palette_color-zero = refl

  -- Every other index has bit 15 clear.
  pub palette_color_bound : (index : ℕ) → (index ≡ 0 → ⊥) → palette_color palette offset index bank < 0x8000
  unfolding palette_color
  palette_color_bound index some = simp (ne_eqb index 0 some) (omega arith)

  -- A colour is transparent exactly if its index is 0.
  pub is_transparent-palette_color : (index : ℕ) → is_transparent (palette_color palette offset index bank) ≡ eqb index 0
  unfolding palette_color
  is_transparent-palette_color zero = refl
  is_transparent-palette_color (suc index) =
      let opaque = palette_color_bound (suc index) (λ z. omega arith) in
      ne_eqb (palette_color palette offset (suc index) bank) transparent (λ e. omega arith)
      ∙ sym (eqb-suc-zero index)
