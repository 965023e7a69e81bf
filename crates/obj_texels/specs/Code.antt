-- As code has it: a sprite's row of 128 colours, which the widest box has, and an affine sprite's matrix and points, each
-- larger by a bias (01, "Sprites"; GBATEK, "LCD OBJ - OAM Attributes", "LCD OBJ - OAM Rotation/Scaling Parameters").
-- No exported contract reaches this file. Assumes nothing.
use Rattle.std.specs.Prelude.{ℕ, ◌^◌, ◌+◌, ◌-◌, ◌*◌, ◌/◌, ◌≤◌, ◌<◌, ◌≡◌, cond, List, ltb, ℤ, pos, ◌+ℤ◌, ◌-ℤ◌, ◌*ℤ◌}
use Rattle.std.proofs.Math.IntN.{sub_ℕ}
use Rattle.rgb15.specs.Colour.{transparent}
use Rattle.rows.specs.Below.{between}
use Rattle.tiles.specs.Flip.{flip}
use Rattle.regs.specs.declared.ObjMapping.{ObjMapping}
use Rattle.regs.specs.declared.reading.Reading.{Reading}
use Rattle.obj_sprites.specs.Oam.{Matrix}
use Rattle.obj_sprites.specs.Place.{box_width}
use Rattle.obj_sprites.specs.Tiles.{texel}
use Rattle.obj_sprites.specs.Color.{color_at, turn}
use Rattle.obj_sprites.specs.declared.attrs.ObjAttrs.{ObjAttrs}
use Rattle.obj_texels.specs.declared.affine.AffineMatrix.{AffineMatrix}
use Rattle.obj_texels.specs.declared.turn.Turn.{Turn}

-- ---- a normal sprite's row

-- The colour of column x of row y of a normal sprite, counted from the left as shown; past the sprite's width there is none.
unfoldable pub row_texel : Reading → ObjMapping → List ℕ → List ℕ → ObjAttrs → ℕ → ℕ → ℕ
row_texel reading mapping vram palette s y x =
    cond (ltb x s.width) (texel reading mapping vram palette s (flip s.h_flip s.width x) y) transparent

-- ---- an affine sprite's matrix and points

-- A matrix with each number 2^15 larger.
pub record MatrixOf (m : Matrix) (r : AffineMatrix) : Type 0 where
  pub pa_is : m.pa ≡ sub_ℕ r.pa (2 ^ 15)
  pub pb_is : m.pb ≡ sub_ℕ r.pb (2 ^ 15)
  pub pc_is : m.pc ≡ sub_ℕ r.pc (2 ^ 15)
  pub pd_is : m.pd ≡ sub_ℕ r.pd (2 ^ 15)
  pub pa< : r.pa < 2 ^ 16
  pub pb< : r.pb < 2 ^ 16
  pub pc< : r.pc < 2 ^ 16
  pub pd< : r.pd < 2 ^ 16

-- A coordinate of column i of the box, 2^16 larger: start is that of column 0, 256 to a pixel, and p the matrix's number.
abbrev pub point_at : ℕ → ℕ → ℕ → ℕ → ℕ
point_at start p i side = (start + p * i - 2 ^ 15 * i) / 256 + side / 2

-- What it is computed from has these ranges, so that no difference is below 0.
pub record PointRanges (start p i side : ℕ) : Type 0 where
  pub start≥ : 2 ^ 22 ≤ start
  pub start≤ : start ≤ 2 ^ 26
  pub p< : p < 2 ^ 16
  pub i≤ : i ≤ 127
  pub side≤ : side ≤ 64

-- What start is computed from: the matrix's numbers p and q, the box's middle (m, k) and the line's row j in the box.
pub record StartRanges (p q m k j : ℕ) : Type 0 where
  pub p< : p < 2 ^ 16
  pub q< : q < 2 ^ 16
  pub m≤ : m ≤ 64
  pub k≤ : k ≤ 64
  pub j≤ : j ≤ 127

-- What start is, by the matrix's numbers p and q, the box's middle (m, k) and the line's row j in the box.
pub record StartOf (p q m k j start : ℕ) : Type 0 where
  pub sum : start + (p * m + 2 ^ 15 * j + q * k) ≡ 2 ^ 15 * m + q * j + 2 ^ 15 * k + 2 ^ 24
  pub start≥ : 2 ^ 22 ≤ start
  pub start≤ : start ≤ 2 ^ 26

-- On a line that lies iy from the box's middle, each column of the box has its point. The numbers themselves: pa and pc are
-- the matrix's, 2^15 larger, and x and y the sums of column 0 before they are rounded, 2^24 larger.
pub record TurnOf (m : Matrix) (s : ObjAttrs) (iy : ℤ) (t : Turn) : Type 0 where
  pub pa_is : m.pa ≡ sub_ℕ t.pa (2 ^ 15)
  pub pc_is : m.pc ≡ sub_ℕ t.pc (2 ^ 15)
  pub x_start : m.pa *ℤ (pos 0 -ℤ pos (box_width s / 2)) +ℤ m.pb *ℤ iy ≡ sub_ℕ t.x (2 ^ 24)
  pub y_start : m.pc *ℤ (pos 0 -ℤ pos (box_width s / 2)) +ℤ m.pd *ℤ iy ≡ sub_ℕ t.y (2 ^ 24)
  pub x_is : (i : ℕ) → i ≤ 127
      → turn m.pa m.pb (pos i -ℤ pos (box_width s / 2)) iy s.width
      ≡ sub_ℕ (point_at t.x t.pa i s.width) (2 ^ 16)
  pub y_is : (i : ℕ) → i ≤ 127
      → turn m.pc m.pd (pos i -ℤ pos (box_width s / 2)) iy s.height
      ≡ sub_ℕ (point_at t.y t.pc i s.height) (2 ^ 16)

-- ---- an affine sprite's row

-- The colour of column i of an affine sprite's box, at that column's point.
abbrev pub box_point_color : Reading → ObjMapping → List ℕ → List ℕ → ObjAttrs → Turn → ℕ → ℕ
box_point_color reading mapping vram palette s t i =
    color_at reading mapping vram palette s
    (sub_ℕ (point_at t.x t.pa i s.width) (2 ^ 16))
    (sub_ℕ (point_at t.y t.pc i s.height) (2 ^ 16))

-- The colour of column i of an affine sprite's box, for the columns from one up to another; in the others there is none.
unfoldable pub affine_texel : Reading → ObjMapping → List ℕ → List ℕ → ObjAttrs → Turn → ℕ → ℕ → ℕ → ℕ
affine_texel reading mapping vram palette s t from to i =
    cond (between from to i) (box_point_color reading mapping vram palette s t i) transparent
