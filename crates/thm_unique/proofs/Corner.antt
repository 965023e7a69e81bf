-- The sprites of `covered p`: all are one, and it has a red pixel at column 0. No contract cites this file. Assumes nothing.
use Prim.Native.Nat.{ℕ, ◌+◌, ◌*◌, ◌/◌, ◌%◌, ◌≤◌, ◌<◌}
use native.Mathlib.Omega.{arith}
use mathlib.Core.Path.{◌≡◌, refl, ◌∙◌}
use mathlib.Core.Bool.{true, false, cond}
use lib.Dec.{eqb}
use Rattle.signed.specs.Signed.{within}
use Rattle.rows.proofs.Tab.{get_or-tab}
use Rattle.memory.specs.Memory.{half}
use Rattle.memory.specs.Palette.{palette_color}
use Rattle.memory.specs.Sizes.{video_ram_size, palette_ram_size, oam_size, registers_size}
use Rattle.memory.specs.Tiles.{tile_pixel}
use Rattle.memory.specs.declared.PixelFormat.TheVariants.{BPP4}
use Rattle.regs.specs.Registers.{DISPCNT}
use Rattle.regs.specs.declared.ObjMapping.TheVariants.{TwoDimension}
use Rattle.regs.specs.declared.reading.Reading.{Reading}
use Rattle.obj_sprites.specs.Oam.{attributes}
use Rattle.obj_sprites.specs.Size.{obj_sizes, obj_size, obj_width, obj_height}
use Rattle.obj_sprites.specs.Attrs.{obj_mode, obj_type, obj_attrs, sprite}
use Rattle.obj_sprites.specs.Place.{x_of, y_of, boxed, left, top, on_line}
use Rattle.obj_sprites.specs.Tiles.{tiles_start, ignores_lowest_bit, tile_number, tile_base, tile_row, tile_at, texel}
use Rattle.tiles.specs.Flip.{flip}
use Rattle.obj_sprites.specs.Color.{normal_color}
use Rattle.obj_sprites.specs.Sprite.{source, is_shown, is_permitted, drawn, typed_color, sprite_color}
use Rattle.obj_sprites.specs.declared.attrs.ObjAttrs.{ObjAttrs}
use Rattle.obj_sprites.specs.declared.attrs.ObjMode.{ObjMode}
use Rattle.obj_sprites.specs.declared.attrs.ObjType.{ObjType}
use Rattle.thm_unique.specs.Inputs.{corner_sprites, covered}
use Rattle.thm_unique.proofs.Accepted.{pair, half-tab}

-- A sprite of 8x8 in the corner, with tile 0 and priority p.
abbrev corner : ℕ → ObjAttrs
corner p =
    record {
      y = 0;
      objtype = ObjType.Normal;
      objmode = ObjMode.Normal;
      format = BPP4;
      x = 0;
      affine_index = 0;
      h_flip = false;
      v_flip = false;
      width = 8;
      height = 8;
      tile = 0;
      priority = p;
      bank = 0;
    }

-- A halfword of OAM is that at the same place of the first sprite.
half_corner : (p at r : ℕ) → at + 1 < oam_size → at % 8 ≡ r → r < 7
    → half (corner_sprites p) at ≡ pair (λ k. cond (eqb k 5) (4 * p) 0) r
half_corner p at r at< r-is r< =
    let next : (at + 1) % 8 ≡ r + 1 = omega arith in half-tab _ oam_size at at< ∙ rw (r-is, next)

module _ (p : ℕ) (p≤ : p ≤ 3) where
  -- Each of the 128 is that sprite.
  pub sprite_corner : (n : ℕ) → n < 128 → sprite (corner_sprites p) n ≡ corner p
  unfolding attributes obj_attrs obj_mode obj_type obj_width obj_height obj_size obj_sizes
  sprite_corner n n< =
      let third-is : half (corner_sprites p) (8 * n + 4) ≡ 0x400 * p
      = half_corner p (8 * n + 4) 4 (omega arith) (omega arith) (omega arith) ∙ omega arith in
      let tile-is : 0x400 * p / 1 % 0x400 ≡ 0 = omega arith in
      let number_is : 0x400 * p / 0x400 ≡ p = omega arith in
      let priority_is : p % 4 ≡ p = omega arith in
      let bank-is : 0x400 * p / 0x1000 ≡ 0 = omega arith in
      rw (
        half_corner p (8 * n) 0 (omega arith) (omega arith) (omega arith),
        half_corner p (8 * n + 2) 2 (omega arith) (omega arith) (omega arith),
        third-is,
        tile-is,
        number_is,
        priority_is,
        bank-is,
      )

  module _ (reading : Reading) where
    -- It is drawn on line 0.
    drawn_corner : drawn reading TwoDimension 0x10000 (corner p) 0 ≡ true
    unfolding drawn is_shown is_permitted on_line within boxed top y_of tile_base tile_number ignores_lowest_bit
    drawn_corner = refl

    -- Its first pixel is red.
    texel_corner : texel reading TwoDimension (covered p).memory.vram (covered p).memory.palette (corner p) 0 0 ≡ 31
    unfolding texel tile_at tile_base tile_number ignores_lowest_bit tile_row tile_pixel palette_color
    texel_corner =
        rw (
          get_or-tab {A = ℕ} _ video_ram_size 0x10000 0 (omega arith),
          half-tab _ palette_ram_size 0x202 (omega arith),
        )

    -- Which it has at column 0.
    pub color_corner : sprite_color reading (source (covered p).memory) 0 0 0 ≡ 31
    unfolding sprite_color typed_color normal_color within left x_of top y_of flip tiles_start
    color_corner =
        rw (sprite_corner 0 (omega arith), half-tab _ registers_size DISPCNT (omega arith), drawn_corner) texel_corner
