-- As code has it: a sprite's two sides, looked up at once; where its tiles start, worked out once for many pixels; which
-- sprites are ruled out before their size is looked up; and what is asked (01, "Sprites").
-- No exported contract reaches this file. Assumes nothing.
use Rattle.std.specs.Prelude.{ℕ, ◌≤◌, ◌<◌, ◌≡◌, Bool, true, ◌&&◌, List}
use Rattle.signed.specs.Signed.{within}
use Rattle.memory.specs.Memory.{Memory}
use Rattle.memory.specs.Palette.{PALRAM_OFS_FG}
use Rattle.memory.specs.Tiles.{palette_bank}
use Rattle.tiles.specs.Code.{TileColors}
use Rattle.tiles.specs.declared.Tile.{Tile}
use Rattle.regs.specs.Registers.{dispcnt}
use Rattle.regs.specs.Display.{mode, obj_character_vram_mapping, obj_mapping}
use Rattle.regs.specs.declared.ObjMapping.{ObjMapping}
use Rattle.regs.specs.declared.reading.Reading.{Reading}
use Rattle.obj_sprites.specs.Size.{obj_width, obj_height}
use Rattle.obj_sprites.specs.Place.{below, on_line}
use Rattle.obj_sprites.specs.Tiles.{tiles_start, tile_at}
use Rattle.obj_sprites.specs.Sprite.{Source, is_shown}
use Rattle.obj_sprites.specs.declared.attrs.ObjAttrs.{ObjAttrs}
use Rattle.obj_sprites.specs.declared.attrs.Size.{Size}
use Rattle.obj_sprites.specs.declared.view.View.{View}

-- A width and a height are those of a size and a shape.
pub record SizeOf (size shape : ℕ) (r : Size) : Type 0 where
  pub width_is : r.0 ≡ obj_width size shape
  pub height_is : r.1 ≡ obj_height size shape
  pub width≤ : r.0 ≤ 64
  pub height≤ : r.1 ≤ 64

-- What a line's sprites are read by.
pub record ViewOf (registers : List ℕ) (reading : Reading) (line : ℕ) (v : View) : Type 0 where
  pub reading_is : v.reading ≡ reading
  pub line_is : v.line ≡ line
  pub mapping_is : v.mapping ≡ obj_mapping (obj_character_vram_mapping (dispcnt registers))
  pub start_is : v.tiles_start ≡ tiles_start (mode (dispcnt registers))

-- What the sprites of a view are drawn from.
abbrev pub source_of : Memory → View → Source
source_of m v = record { vram = m.vram; palette = m.palette; oam = m.oam; mapping = v.mapping; start = v.tiles_start }

-- A sprite has a line of the screen in its box.
abbrev pub OnLine : Reading → ObjAttrs → ℕ → Type 0
OnLine reading s line = (line < 160) × (on_line reading s line ≡ true)

-- A tile of sprites holds pixel (x, y) of one.
pub record TileOf (reading : Reading) (mapping : ObjMapping) (s : ObjAttrs) (x y : ℕ) (t : Tile) : Type 0 where
  pub addr_is : t.addr ≡ tile_at reading mapping s x y
  pub format_is : t.format ≡ s.format
  pub bank_is : t.bank ≡ palette_bank s.format s.bank
  pub colors : TileColors PALRAM_OFS_FG t

-- Whether a line may be in the sprite's box, by its type and its top alone: no box is higher than 128 lines.
unfoldable pub is_near : Reading → ObjAttrs → ℕ → Bool
is_near reading s line = is_shown s.objtype && within (below reading s line) 128
