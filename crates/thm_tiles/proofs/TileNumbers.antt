-- What ignoring the lowest bit of a tile number changes. No contract cites this file. Assumes nothing.
use Prim.Native.Nat.{ℕ, zero, suc, ◌+◌, ◌*◌, ◌/◌, ◌%◌, ◌≤◌, ◌<◌}
use native.Mathlib.Omega.{arith}
use mathlib.Core.Path.{◌≡◌, refl, ap, ap₂, ◌∙◌}
use mathlib.Core.Bool.{Bool, true, false, cond, ◌&&◌}
use mathlib.Core.List.{List}
use lib.Dec.{eqb}
use lib.IntN.{ℤ}
use Rattle.bits.specs.Bits.{bits}
use Rattle.rows.proofs.Cells.{row_of_cong}
use Rattle.rows.proofs.Tab.{get_or-tab}
use Rattle.memory.specs.Memory.{byte, half}
use Rattle.memory.specs.Sizes.{oam_size}
use Rattle.memory.specs.declared.PixelFormat.{PixelFormat}
use Rattle.memory.specs.declared.PixelFormat.TheVariants.{BPP4, BPP8}
use Rattle.regs.specs.declared.ObjMapping.{ObjMapping}
use Rattle.regs.specs.declared.ObjMapping.TheVariants.{TwoDimension, OneDimension}
use Rattle.regs.specs.declared.reading.Reading.TheVariants.{R, H}
use Rattle.obj_sprites.specs.Oam.{Attributes, attributes, Matrix, matrix}
use Rattle.obj_sprites.specs.Attrs.{obj_attrs, sprite}
use Rattle.obj_sprites.specs.Place.{left, top, on_line}
use Rattle.obj_sprites.specs.Tiles.{tiles_start, ignores_lowest_bit, tile_number, tile_base, tile_at, texel}
use Rattle.obj_sprites.specs.Color.{normal_color, color_at, affine_obj_color}
use Rattle.obj_sprites.specs.Sprite.{Source, drawn, typed_color, sprite_color}
use Rattle.obj_sprites.specs.declared.attrs.ObjAttrs.{ObjAttrs}
use Rattle.obj_sprites.specs.declared.attrs.ObjType.{ObjType}
use Rattle.obj_sprites.proofs.Drawn.{tiles_start_whole, leb-tile_base}
use Rattle.obj_entries.specs.Entry.{entry_cells}
use Rattle.obj_entries.specs.declared.Entry.{Entry}
use Rattle.obj.specs.Put.{sprite_step, entry_up_to, put_sprites}
use Rattle.thm_tiles.specs.TileNumbers.{even_oam, TileNumbers}

-- ---- which sprites are drawn

drawn_same : (mapping : ObjMapping) (mode : ℕ) (s : ObjAttrs) (line : ℕ)
    → drawn H mapping (tiles_start mode) s line ≡ drawn R mapping (tiles_start mode) s line
unfolding drawn on_line top
drawn_same mapping mode s line =
    rw (
      leb-tile_base H mapping (tiles_start mode) s (tiles_start_whole mode),
      leb-tile_base R mapping (tiles_start mode) s (tiles_start_whole mode),
    )

-- ---- H is R with such numbers made even

-- R counts a number whole.
ignores-R : (mapping : ObjMapping) (format : PixelFormat) → ignores_lowest_bit R mapping format ≡ false
unfolding ignores_lowest_bit
ignores-R OneDimension format = refl
ignores-R TwoDimension BPP4 = refl
ignores-R TwoDimension BPP8 = refl

tile_number-R : (mapping : ObjMapping) (s : ObjAttrs) → tile_number R mapping s ≡ s.tile
unfolding tile_number
tile_number-R mapping s = rw (ignores-R mapping s.format)

-- The sprite with its tile number as H counts it.
abbrev even : ObjMapping → ObjAttrs → ObjAttrs
even mapping s =
    record {
      y = s.y;
      objtype = s.objtype;
      objmode = s.objmode;
      format = s.format;
      x = s.x;
      affine_index = s.affine_index;
      h_flip = s.h_flip;
      v_flip = s.v_flip;
      width = s.width;
      height = s.height;
      tile = tile_number H mapping s;
      priority = s.priority;
      bank = s.bank;
    }

-- A halfword that is made even, or isn't, and its bits.
abbrev even_half : Bool → ℕ → ℕ
even_half ignored w = cond ignored (2 * (w / 2)) w

even_half_tile : (ignored : Bool) (w : ℕ) → bits 9 0 (even_half ignored w) ≡ even_half ignored (bits 9 0 w)
even_half_tile true w = omega arith
even_half_tile false w = refl

even_half_above : (ignored : Bool) (w : ℕ) → even_half ignored w / 2 ≡ w / 2
even_half_above true w = omega arith
even_half_above false w = refl

-- Of its two bytes the low one is made even.
even_half-bytes : (ignored : Bool) (low high : ℕ) → even_half ignored low + 0x100 * high ≡ even_half ignored (low + 0x100 * high)
even_half-bytes true low high = omega arith
even_half-bytes false low high = refl

module _ (mapping : ObjMapping) where
  -- A sprite's halfwords with the third made even where H ignores the lowest bit.
  abbrev even_attributes : Attributes → Attributes
  even_attributes a =
      record {
        first = a.first;
        second = a.second;
        third = even_half (ignores_lowest_bit H mapping (obj_attrs a).format) a.third;
      }

  obj_attrs-even : (a : Attributes) → obj_attrs (even_attributes a) ≡ even mapping (obj_attrs a)
  unfolding obj_attrs tile_number
  obj_attrs-even a =
      let ignored = ignores_lowest_bit H mapping (obj_attrs a).format in
      let third = even_half ignored a.third in
      let above : third / 2 ≡ a.third / 2 = even_half_above ignored a.third in
      let priority_is : bits 11 10 third ≡ bits 11 10 a.third = omega (arith, above) in
      let bank-is : bits 15 12 third ≡ bits 15 12 a.third = omega (arith, above) in
      rw (even_half_tile ignored a.third, priority_is, bank-is)

  module _ (oam : List ℕ) where
    byte-even : (at : ℕ) → at < oam_size
        → byte (even_oam mapping oam) at
        ≡ even_half (eqb (at % 8) 4 && ignores_lowest_bit H mapping (sprite oam (at / 8)).format) (byte oam at)
    unfolding even_oam
    byte-even at at< = get_or-tab _ oam_size at 0 at<

    -- Every byte but a sprite's fifth is as it was.
    byte_kept : (at r : ℕ) → at < oam_size → at % 8 ≡ r → eqb r 4 ≡ false → byte (even_oam mapping oam) at ≡ byte oam at
    byte_kept at r at< r-is other = byte-even at at< ∙ rw (r-is, other)

    half_kept : (at r : ℕ) → at + 1 < oam_size → at % 8 ≡ r → r < 7 → eqb r 4 ≡ false → eqb (r + 1) 4 ≡ false
        → half (even_oam mapping oam) at ≡ half oam at
    unfolding half
    half_kept at r at< r-is r< here next =
        ap₂ (λ low high. low + 0x100 * high)
        (byte_kept at r (omega arith) r-is here)
        (byte_kept (at + 1) (r + 1) at< (omega arith) next)

    -- That one is made even where H ignores the lowest bit.
    fifth-even : (n : ℕ) → n < 128
        → byte (even_oam mapping oam) (8 * n + 4)
        ≡ even_half (ignores_lowest_bit H mapping (sprite oam n).format) (byte oam (8 * n + 4))
    fifth-even n n< =
        let place : (8 * n + 4) % 8 ≡ 4 = omega arith in
        let number : (8 * n + 4) / 8 ≡ n = omega arith in
        byte-even (8 * n + 4) (omega arith) ∙ rw (place, number)

    third-even : (n : ℕ) → n < 128
        → half (even_oam mapping oam) (8 * n + 4)
        ≡ even_half (ignores_lowest_bit H mapping (sprite oam n).format) (half oam (8 * n + 4))
    unfolding half
    third-even n n< =
        ap₂ (λ low high. low + 0x100 * high)
        (fifth-even n n<)
        (byte_kept (8 * n + 4 + 1) 5 (omega arith) (omega arith) refl)
        ∙ even_half-bytes (ignores_lowest_bit H mapping (sprite oam n).format) (byte oam (8 * n + 4)) _

    sprite-even : (n : ℕ) → n < 128 → sprite (even_oam mapping oam) n ≡ even mapping (sprite oam n)
    unfolding attributes
    sprite-even n n< =
        rw (
          half_kept (8 * n) 0 (omega arith) (omega arith) (omega arith) refl refl,
          half_kept (8 * n + 2) 2 (omega arith) (omega arith) (omega arith) refl refl,
          third-even n n<,
        )
        (obj_attrs-even (attributes oam n))

    matrix_kept : (m : ℕ) → m ≤ 31 → matrix (even_oam mapping oam) m ≡ matrix oam m
    unfolding matrix
    matrix_kept m m≤ =
        rw (
          half_kept (6 + 32 * m) 6 (omega arith) (omega arith) (omega arith) refl refl,
          half_kept (6 + 32 * m + 8) 6 (omega arith) (omega arith) (omega arith) refl refl,
          half_kept (6 + 32 * m + 16) 6 (omega arith) (omega arith) (omega arith) refl refl,
          half_kept (6 + 32 * m + 24) 6 (omega arith) (omega arith) (omega arith) refl refl,
        )

  module _ (s : ObjAttrs) where
    tile_base-even : tile_base R mapping (even mapping s) ≡ tile_base H mapping s
    unfolding tile_base
    tile_base-even = rw (tile_number-R mapping (even mapping s))

    drawn-even : (start line : ℕ) → drawn R mapping start (even mapping s) line ≡ drawn H mapping start s line
    unfolding drawn on_line top
    drawn-even start line = rw tile_base-even

    module _ (vram palette : List ℕ) where
      texel-even : (x y : ℕ) → texel R mapping vram palette (even mapping s) x y ≡ texel H mapping vram palette s x y
      unfolding texel tile_at
      texel-even x y = rw tile_base-even

      normal_color-even : (line column : ℕ)
          → normal_color R mapping vram palette (even mapping s) line column ≡ normal_color H mapping vram palette s line column
      unfolding normal_color left top
      normal_color-even line column = rw (texel-even _ _)

      color_at-even : (x y : ℤ) → color_at R mapping vram palette (even mapping s) x y ≡ color_at H mapping vram palette s x y
      unfolding color_at
      color_at-even x y = rw (texel-even _ _)

      affine_obj_color-even : (m : Matrix) (line column : ℕ)
          → affine_obj_color R mapping vram palette m (even mapping s) line column
          ≡ affine_obj_color H mapping vram palette m s line column
      unfolding affine_obj_color left top
      affine_obj_color-even m line column = rw (color_at-even _ _)

      typed_color-even : (type : ObjType) (oam other : List ℕ) (line column : ℕ)
          → matrix other s.affine_index ≡ matrix oam s.affine_index
          → typed_color type R mapping vram palette other (even mapping s) line column
          ≡ typed_color type H mapping vram palette oam s line column
      unfolding typed_color
      typed_color-even ObjType.Normal oam other line column m-is = normal_color-even line column
      typed_color-even ObjType.Affine oam other line column m-is = rw m-is (affine_obj_color-even _ line column)
      typed_color-even ObjType.Hidden oam other line column m-is = refl
      typed_color-even ObjType.AffineDoubleSize oam other line column m-is = rw m-is (affine_obj_color-even _ line column)

-- A sprite uses one of 32 matrices.
index_bound : (a : Attributes) → (obj_attrs a).affine_index ≤ 31
unfolding obj_attrs
index_bound a = omega arith

-- An OAM that has the other's sprites with their numbers as H counts them, and its matrices.
record Even (mapping : ObjMapping) (oam other : List ℕ) : Type 0 where
  sprites : (n : ℕ) → n < 128 → sprite other n ≡ even mapping (sprite oam n)
  matrices : (m : ℕ) → m ≤ 31 → matrix other m ≡ matrix oam m

module _ (o : Source) (oam : List ℕ) (p : Even o.mapping o.oam oam) (line : ℕ) where
  abbrev other : Source
  other = record { vram = o.vram; palette = o.palette; oam = oam; mapping = o.mapping; start = o.start }

  sprite_step-even : (n column : ℕ) (e : Entry) → n < 128 → sprite_step H o line n column e ≡ sprite_step R other line n column e
  unfolding sprite_step sprite_color
  sprite_step-even n column e n< =
      let s = sprite o.oam n in
      rw (
        p.sprites n n<,
        drawn-even o.mapping s o.start line,
        typed_color-even o.mapping s o.vram o.palette s.objtype o.oam oam line column
            (p.matrices _ (index_bound (attributes o.oam n))),
      )

  entry_up_to-even : (n column : ℕ) (e : Entry) → n ≤ 128 → entry_up_to H o line n column e ≡ entry_up_to R other line n column e
  unfolding entry_up_to
  entry_up_to-even zero column e n≤ = refl
  entry_up_to-even (suc n) column e n≤ =
      sprite_step-even n column _ (omega arith)
      ∙ ap (sprite_step R other line n column) (entry_up_to-even n column e (omega arith))

  put_sprites-even : (entries : List ℕ) → put_sprites H o line entries ≡ put_sprites R other line entries
  put_sprites-even entries =
      row_of_cong entry_cells _ _ 240 (λ column column<. entry_up_to-even 128 column _ (omega arith))

-- What ignoring the lowest bit of a tile number changes.
pub tile_numbers : TileNumbers
tile_numbers =
    record {
      same_drawn = drawn_same;
      made_even = λ o line entries.
          put_sprites-even o (even_oam o.mapping o.oam)
          (record { sprites = sprite-even o.mapping o.oam; matrices = matrix_kept o.mapping o.oam })
          line entries;
      all_even = λ o counted line entries.
          put_sprites-even o o.oam (record { sprites = λ n n<. rw (counted n n<); matrices = λ m m≤. refl }) line entries;
    }
