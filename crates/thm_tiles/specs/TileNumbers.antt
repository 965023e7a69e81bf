-- What ignoring the lowest bit of a tile number changes, and what it doesn't (02, W-203; GBATEK, "LCD OBJ - OAM Attributes").
-- Assumes nothing.
use Rattle.std.specs.Prelude.{ℕ, ◌*◌, ◌/◌, ◌%◌, ◌<◌, ◌≡◌, cond, ◌&&◌, List, eqb}
use Rattle.rows.specs.Tab.{tab}
use Rattle.memory.specs.Memory.{byte}
use Rattle.memory.specs.Sizes.{oam_size}
use Rattle.regs.specs.declared.ObjMapping.{ObjMapping}
use Rattle.regs.specs.declared.reading.Reading.TheVariants.{R, H}
use Rattle.obj_sprites.specs.Oam.{obj_count}
use Rattle.obj_sprites.specs.Attrs.{sprite}
use Rattle.obj_sprites.specs.Tiles.{tiles_start, ignores_lowest_bit, tile_number}
use Rattle.obj_sprites.specs.Sprite.{Source, drawn}
use Rattle.obj_sprites.specs.declared.attrs.ObjAttrs.{ObjAttrs}
use Rattle.obj.specs.Put.{put_sprites}

-- OAM with the tile numbers made even whose lowest bit H ignores: that bit stands in the fifth byte of a sprite's eight.
unfoldable pub even_oam : ObjMapping → List ℕ → List ℕ
even_oam mapping oam =
    tab
    (λ at. cond (eqb (at % 8) 4 && ignores_lowest_bit H mapping (sprite oam (at / 8)).format)
    (2 * (byte oam at / 2)) (byte oam at))
    oam_size

-- The source with such numbers made even.
abbrev pub even_source : Source → Source
even_source o =
    record {
      vram = o.vram;
      palette = o.palette;
      oam = even_oam o.mapping o.oam;
      mapping = o.mapping;
      start = o.start;
    }

pub record TileNumbers : Type 0 where
  -- The same sprites are drawn on a line under H as under R: sprite tiles start at an even number, 0 or 512, so that the
  -- lowest bit never decides.
  pub same_drawn : (mapping : ObjMapping) (mode : ℕ) (s : ObjAttrs) (line : ℕ)
      → drawn H mapping (tiles_start mode) s line ≡ drawn R mapping (tiles_start mode) s line
  -- H makes of a row what R makes of it with such numbers made even.
  pub made_even : (o : Source) (line : ℕ) (entries : List ℕ)
      → put_sprites H o line entries ≡ put_sprites R (even_source o) line entries
  -- Where every number is as H counts it, H and R make the same of a row.
  pub all_even : (o : Source)
      → ((n : ℕ) → n < obj_count → tile_number H o.mapping (sprite o.oam n) ≡ (sprite o.oam n).tile)
      → (line : ℕ) (entries : List ℕ) → put_sprites H o line entries ≡ put_sprites R o line entries
