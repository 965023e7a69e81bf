-- The pixels that the sprites of a draw put at a column, and which of several an entry holds (01, "Sprites", "Errors that
-- look right": ties, window marks; GBATEK, "LCD OBJ - OAM Attributes"). Assumes nothing.
use Rattle.std.specs.Prelude.{ℕ, zero, suc, ◌≡◌, Bool, true, false, not, cond, ◌&&◌, ◌||◌, ◌⊎◌, eqb, ltb}
use mathlib.Core.List.{List, [], ◌∷◌, ◌++◌, Memᴰ}
use Rattle.rgb15.specs.Colour.{transparent, is_transparent}
use Rattle.memory.specs.Memory.{Memory}
use Rattle.regs.specs.declared.reading.Reading.{Reading}
use Rattle.obj_sprites.specs.Attrs.{sprite}
use Rattle.obj_sprites.specs.Sprite.{source, is_visible, is_semi, is_window, sprite_color}
use Rattle.obj_entries.specs.Entry.{semi_mark}
use Rattle.obj_entries.specs.declared.Entry.{Entry}

-- A draw, as far as its sprites go.
pub record Draw : Type 0 where
  pub reading : Reading
  pub memory : Memory
  pub line : ℕ

-- A pixel that was put: by which draw, by which of its sprites, and what it shows.
pub record Pixel : Type 0 where
  pub draw : ℕ
  pub sprite : ℕ
  pub priority : ℕ
  pub color : ℕ
  pub semi : Bool

-- Whether sprite n of a draw has an opaque pixel at a column.
unfoldable pub is_opaque : Draw → ℕ → ℕ → Bool
is_opaque d n column = not (is_transparent (sprite_color d.reading (source d.memory) d.line n column))

-- What sprite n of draw number i shows at a column, opaque or not.
unfoldable pub pixel_of : ℕ → Draw → ℕ → ℕ → Pixel
pixel_of i d n column =
    let s = sprite d.memory.oam n in
    let color = sprite_color d.reading (source d.memory) d.line n column in
    record { draw = i; sprite = n; priority = s.priority; color = color; semi = is_semi s.objmode }

-- The pixels that the first n sprites of draw number i put at a column, in OAM order.
unfoldable pub pixels_up_to : ℕ → Draw → ℕ → ℕ → List Pixel
pixels_up_to i d zero column = []
pixels_up_to i d (suc n) column =
    pixels_up_to i d n column
    ++ cond (is_visible (sprite d.memory.oam n).objmode && is_opaque d n column) (pixel_of i d n column ∷ []) []

-- Whether some window sprite among the first n of a draw has an opaque pixel at a column.
unfoldable pub window_up_to : Draw → ℕ → ℕ → Bool
window_up_to d zero column = false
window_up_to d (suc n) column =
    window_up_to d n column || (is_window (sprite d.memory.oam n).objmode && is_opaque d n column)

-- Whether pixel p comes before q: by priority, then by draw, then by sprite number.
unfoldable pub is_before : Pixel → Pixel → Bool
is_before p q =
    ltb p.priority q.priority
    || (eqb p.priority q.priority
    && (ltb p.draw q.draw || (eqb p.draw q.draw && ltb p.sprite q.sprite)))

-- A pixel wins that is one of those put and comes before every other.
pub record Wins (ps : List Pixel) (w : Pixel) : Type 0 where
  pub among : Memᴰ w ps
  pub first : (p : Pixel) → Memᴰ p ps → (p ≡ w) ⊎ (is_before w p ≡ true)

-- An entry shows a pixel: its colour, its priority, and whether it is semi-transparent.
pub record Shows (p : Pixel) (e : Entry) : Type 0 where
  pub color_is : e.color.0 ≡ p.color
  pub priority_is : e.priority ≡ p.priority
  pub semi_is : semi_mark e ≡ p.semi

-- An entry shows nothing: colour, priority and the semi-transparent mark are those of the reset entry.
pub record Blank (e : Entry) : Type 0 where
  pub color_is : e.color.0 ≡ transparent
  pub priority_is : e.priority ≡ 4
  pub semi_is : semi_mark e ≡ false

-- An entry holds the winner of the pixels put, or nothing where none was put.
pub data Holds (ps : List Pixel) (e : Entry) : Type 0 where
  none : ps ≡ [] → Blank e → Holds ps e
  some : (w : Pixel) → Wins ps w → Shows w e → Holds ps e
