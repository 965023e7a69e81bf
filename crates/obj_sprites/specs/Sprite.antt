-- The pixel of a sprite of OAM, if it has one (01, "Sprites"; GBATEK, "LCD OBJ - OAM Attributes"). Assumes nothing.
use Rattle.std.specs.Prelude.{ℕ, Bool, true, false, cond, ◌&&◌, List, leb}
use Rattle.rgb15.specs.Colour.{transparent}
use Rattle.memory.specs.Memory.{Memory}
use Rattle.regs.specs.Registers.{dispcnt}
use Rattle.regs.specs.Display.{mode, obj_character_vram_mapping, obj_mapping}
use Rattle.regs.specs.declared.ObjMapping.{ObjMapping}
use Rattle.regs.specs.declared.reading.Reading.{Reading}
use Rattle.obj_sprites.specs.Oam.{matrix}
use Rattle.obj_sprites.specs.Attrs.{sprite}
use Rattle.obj_sprites.specs.Place.{on_line}
use Rattle.obj_sprites.specs.Tiles.{tiles_start, tile_base}
use Rattle.obj_sprites.specs.Color.{normal_color, affine_obj_color}
use Rattle.obj_sprites.specs.declared.attrs.ObjAttrs.{ObjAttrs}
use Rattle.obj_sprites.specs.declared.attrs.ObjMode.{ObjMode}
use Rattle.obj_sprites.specs.declared.attrs.ObjType.{ObjType}

-- What the sprites of a line are drawn from; the mapping and the start of sprite tiles are display control's.
pub record Source : Type 0 where
  pub vram : List ℕ
  pub palette : List ℕ
  pub oam : List ℕ
  pub mapping : ObjMapping
  pub start : ℕ

-- The lent memory as the sprites' source.
abbrev pub source : Memory → Source
source m =
    record {
      vram = m.vram;
      palette = m.palette;
      oam = m.oam;
      mapping = obj_mapping (obj_character_vram_mapping (dispcnt m.registers));
      start = tiles_start (mode (dispcnt m.registers));
    }

-- Whether the type isn't hidden.
unfoldable pub is_shown : ObjType → Bool
is_shown ObjType.Normal = true
is_shown ObjType.Affine = true
is_shown ObjType.Hidden = false
is_shown ObjType.AffineDoubleSize = true

-- Whether the mode isn't 3.
unfoldable pub is_permitted : ObjMode → Bool
is_permitted ObjMode.Normal = true
is_permitted ObjMode.Sfx = true
is_permitted ObjMode.Window = true
is_permitted ObjMode.Forbidden = false

-- Whether sprites of the mode show their pixels: window sprites don't, and those of mode 3 aren't drawn.
unfoldable pub is_visible : ObjMode → Bool
is_visible ObjMode.Normal = true
is_visible ObjMode.Sfx = true
is_visible ObjMode.Window = false
is_visible ObjMode.Forbidden = false

-- Whether sprites of the mode are semi-transparent.
unfoldable pub is_semi : ObjMode → Bool
is_semi ObjMode.Normal = false
is_semi ObjMode.Sfx = true
is_semi ObjMode.Window = false
is_semi ObjMode.Forbidden = false

-- Whether sprites of the mode are window sprites.
unfoldable pub is_window : ObjMode → Bool
is_window ObjMode.Normal = false
is_window ObjMode.Sfx = false
is_window ObjMode.Window = true
is_window ObjMode.Forbidden = false

-- A sprite is drawn on a line if its type isn't hidden, its mode isn't 3, the line is in its box, and its tiles start
-- no earlier than sprite tiles do.
unfoldable pub drawn : Reading → ObjMapping → ℕ → ObjAttrs → ℕ → Bool
drawn reading mapping start s line =
    is_shown s.objtype && is_permitted s.objmode && on_line reading s line && leb start (tile_base reading mapping s)

-- The colour at a column, by the sprite's type.
unfoldable pub typed_color : ObjType → Reading → ObjMapping → List ℕ → List ℕ → List ℕ → ObjAttrs → ℕ → ℕ → ℕ
typed_color ObjType.Normal reading mapping vram palette oam s line column =
    normal_color reading mapping vram palette s line column
typed_color ObjType.Affine reading mapping vram palette oam s line column =
    affine_obj_color reading mapping vram palette (matrix oam s.affine_index) s line column
typed_color ObjType.Hidden reading mapping vram palette oam s line column = transparent
typed_color ObjType.AffineDoubleSize reading mapping vram palette oam s line column =
    affine_obj_color reading mapping vram palette (matrix oam s.affine_index) s line column

-- The pixel of sprite n at a column of a line: transparent where it has none.
unfoldable pub sprite_color : Reading → Source → ℕ → ℕ → ℕ → ℕ
sprite_color reading o line n column =
    let s = sprite o.oam n in
    cond (drawn reading o.mapping o.start s line)
    (typed_color s.objtype reading o.mapping o.vram o.palette o.oam s line column)
    transparent
