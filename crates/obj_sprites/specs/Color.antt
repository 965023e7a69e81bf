-- A sprite's colour at a column of a line that is in its box (01, "Sprites"; GBATEK, "LCD OBJ - OAM Attributes",
-- "LCD OBJ - OAM Rotation/Scaling Parameters"). Assumes nothing.
use Rattle.std.specs.Prelude.{ℕ, ◌/◌, cond, ◌&&◌, List, ℤ, pos, nat_abs, ◌+ℤ◌, ◌-ℤ◌, ◌*ℤ◌}
use Rattle.rgb15.specs.Colour.{transparent}
use Rattle.signed.specs.Signed.{down256, within}
use Rattle.tiles.specs.Flip.{flip}
use Rattle.regs.specs.declared.ObjMapping.{ObjMapping}
use Rattle.regs.specs.declared.reading.Reading.{Reading}
use Rattle.obj_sprites.specs.Oam.{Matrix}
use Rattle.obj_sprites.specs.Place.{box_width, box_height, across, below}
use Rattle.obj_sprites.specs.Tiles.{texel}
use Rattle.obj_sprites.specs.declared.attrs.ObjAttrs.{ObjAttrs}

-- A normal sprite's colour at a column: it flips by bits 12 and 13 of the second halfword.
unfoldable pub normal_color : Reading → ObjMapping → List ℕ → List ℕ → ObjAttrs → ℕ → ℕ → ℕ
normal_color reading mapping vram palette s line column =
    cond (within (across reading s column) s.width)
    (texel reading mapping vram palette s
    (flip s.h_flip s.width (nat_abs (across reading s column)))
    (flip s.v_flip s.height (nat_abs (below reading s line))))
    transparent

-- A coordinate of the point at an offset: the sum of both products is shifted by 8, which rounds down, then half the
-- sprite's own size is added.
unfoldable pub turn : ℤ → ℤ → ℤ → ℤ → ℕ → ℤ
turn p q ix iy side = down256 (p *ℤ ix +ℤ q *ℤ iy) +ℤ pos (side / 2)

-- The colour at a point: outside the sprite's own size there is no pixel.
unfoldable pub color_at : Reading → ObjMapping → List ℕ → List ℕ → ObjAttrs → ℤ → ℤ → ℕ
color_at reading mapping vram palette s x y =
    cond (within x s.width && within y s.height)
    (texel reading mapping vram palette s (nat_abs x) (nat_abs y))
    transparent

-- An affine sprite's colour at a column: offsets run from the box's middle, and it never flips.
unfoldable pub affine_obj_color : Reading → ObjMapping → List ℕ → List ℕ → Matrix → ObjAttrs → ℕ → ℕ → ℕ
affine_obj_color reading mapping vram palette m s line column =
    let ix = across reading s column -ℤ pos (box_width s / 2) in
    let iy = below reading s line -ℤ pos (box_height s / 2) in
    cond (within (across reading s column) (box_width s))
    (color_at reading mapping vram palette s
    (turn m.pa m.pb ix iy s.width) (turn m.pc m.pd ix iy s.height))
    transparent
