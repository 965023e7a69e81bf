-- Where a sprite lies on the screen (01, "Sprites"; GBATEK, "LCD OBJ - OAM Attributes"). Assumes nothing.
use Rattle.std.specs.Prelude.{ℕ, ◌*◌, Bool, cond, ltb, ℤ, pos, ◌-ℤ◌}
use Rattle.std.proofs.Math.IntN.{sub_ℕ}
use Rattle.memory.specs.Sizes.{display_width, display_height}
use Rattle.signed.specs.Signed.{within}
use Rattle.regs.specs.declared.reading.Reading.{Reading}
use Rattle.obj_sprites.specs.declared.attrs.ObjAttrs.{ObjAttrs}
use Rattle.obj_sprites.specs.declared.attrs.ObjType.{ObjType}

-- Y of 160 or more is Y - 256.
unfoldable pub y_of : ℕ → ℤ
y_of y = cond (ltb y display_height) (pos y) (sub_ℕ y 256)

-- X of 240 or more is X - 512.
unfoldable pub x_of : ℕ → ℤ
x_of x = cond (ltb x display_width) (pos x) (sub_ℕ x 512)

-- A side of the box, doubled for type 3.
unfoldable pub boxed : ObjType → ℕ → ℕ
boxed ObjType.Normal side = side
boxed ObjType.Affine side = side
boxed ObjType.Hidden side = side
boxed ObjType.AffineDoubleSize side = 2 * side

-- The width of the sprite's box.
abbrev pub box_width : ObjAttrs → ℕ
box_width s = boxed s.objtype s.width

-- The height of the sprite's box.
abbrev pub box_height : ObjAttrs → ℕ
box_height s = boxed s.objtype s.height

-- The column of the box's left edge; R and H agree here (01, "Two readings").
unfoldable pub left : Reading → ObjAttrs → ℤ
left reading s = x_of s.x

-- The line of the box's top; R and H agree here (01, "Two readings").
unfoldable pub top : Reading → ObjAttrs → ℤ
top reading s = y_of s.y

-- How far a column lies right of the box's left edge.
abbrev pub across : Reading → ObjAttrs → ℕ → ℤ
across reading s column = pos column -ℤ left reading s

-- How far a line lies below the box's top.
abbrev pub below : Reading → ObjAttrs → ℕ → ℤ
below reading s line = pos line -ℤ top reading s

-- Whether the line is in the sprite's box.
unfoldable pub on_line : Reading → ObjAttrs → ℕ → Bool
on_line reading s line = within (below reading s line) (box_height s)
