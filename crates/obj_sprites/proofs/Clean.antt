-- Laws of a sprite's colours: an opaque one has bit 15 clear. No contract cites this file. Assumes nothing.
use Prim.Native.Nat.{ℕ, ◌≤◌}
use native.Mathlib.Omega.{arith}
use mathlib.Core.Path.{◌≡◌, sym, ◌∙◌}
use mathlib.Core.Bool.{false}
use mathlib.Core.List.{List}
use lib.IntN.{ℤ}
use borrow.Author.Tests.{eqb-false}
use Rattle.rgb15.specs.Colour.{transparent, is_transparent}
use Rattle.memory.specs.Palette.{palette_color}
use Rattle.memory.proofs.Laws.{palette_color_bound, is_transparent-palette_color}
use Rattle.regs.specs.declared.ObjMapping.{ObjMapping}
use Rattle.regs.specs.declared.reading.Reading.{Reading}
use Rattle.obj_sprites.specs.Oam.{Matrix}
use Rattle.obj_sprites.specs.Tiles.{texel}
use Rattle.obj_sprites.specs.Color.{normal_color, color_at, affine_obj_color}
use Rattle.obj_sprites.specs.Sprite.{Source, typed_color, sprite_color}
use Rattle.obj_sprites.specs.declared.attrs.ObjAttrs.{ObjAttrs}
use Rattle.obj_sprites.specs.declared.attrs.ObjType.{ObjType}
use Rattle.bits.proofs.Booleans.{cond_both}

-- An opaque colour is at most 0x7fff.
pub record Clean (color : ℕ) : Type 0 where
  pub opaque≤ : is_transparent color ≡ false → color ≤ 0x7fff

clean-transparent : Clean transparent
clean-transparent = record { opaque≤ = λ e. absurd (let z : ◌≡◌ {A = ℕ} 0 1 = cc in omega arith) }

clean_palette : (palette : List ℕ) (offset index bank : ℕ) → Clean (palette_color palette offset index bank)
clean_palette palette offset index bank =
    record {
      opaque≤ = λ opaque.
          let some = eqb-false index 0 (sym (is_transparent-palette_color palette offset bank index) ∙ opaque) in
          omega (arith, palette_color_bound palette offset bank index some);
    }

module _ (reading : Reading) (mapping : ObjMapping) (vram palette : List ℕ) (s : ObjAttrs) where
  clean-texel : (x y : ℕ) → Clean (texel reading mapping vram palette s x y)
  unfolding texel
  clean-texel x y = clean_palette palette 0x200 _ _

  clean_normal : (line column : ℕ) → Clean (normal_color reading mapping vram palette s line column)
  unfolding normal_color
  clean_normal line column = search (cond_both Clean, clean-texel, clean-transparent)

  clean_point : (x y : ℤ) → Clean (color_at reading mapping vram palette s x y)
  unfolding color_at
  clean_point x y = search (cond_both Clean, clean-texel, clean-transparent)

  clean_affine : (m : Matrix) (line column : ℕ) → Clean (affine_obj_color reading mapping vram palette m s line column)
  unfolding affine_obj_color
  clean_affine m line column = search (cond_both Clean, clean_point, clean-transparent)

  clean_typed : (type : ObjType) (oam : List ℕ) (line column : ℕ)
      → Clean (typed_color type reading mapping vram palette oam s line column)
  unfolding typed_color
  clean_typed ObjType.Normal oam line column = clean_normal line column
  clean_typed ObjType.Affine oam line column = clean_affine _ line column
  clean_typed ObjType.Hidden oam line column = clean-transparent
  clean_typed ObjType.AffineDoubleSize oam line column = clean_affine _ line column

-- A sprite's pixel is transparent or has bit 15 clear.
pub clean-sprite : (reading : Reading) (o : Source) (line n column : ℕ) → Clean (sprite_color reading o line n column)
unfolding sprite_color
clean-sprite reading o line n column =
    search (cond_both Clean, clean_typed reading, clean-transparent)
