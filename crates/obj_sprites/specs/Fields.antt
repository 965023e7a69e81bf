-- A sprite as contracts see it, field by field in the order of its bits (01, "Sprites"; GBATEK, "LCD OBJ - OAM Attributes").
-- Assumes nothing.
use Rattle.std.specs.Prelude.{ℕ, ◌≤◌, Bool}
use Rattle.memory.specs.declared.PixelFormat.{PixelFormat}
use Rattle.obj_sprites.specs.declared.attrs.ObjMode.{ObjMode}
use Rattle.obj_sprites.specs.declared.attrs.ObjType.{ObjType}

-- x and y are as the halfwords hold them; width and height are the sprite's own.
pub record Fields : Type 0 where
  pub y : ℕ
  pub objtype : ObjType
  pub objmode : ObjMode
  pub format : PixelFormat
  pub x : ℕ
  pub affine_index : ℕ
  pub h_flip : Bool
  pub v_flip : Bool
  pub width : ℕ
  pub height : ℕ
  pub tile : ℕ
  pub priority : ℕ
  pub bank : ℕ

-- A sprite's numbers lie in the ranges of their bits.
pub record Decoded (s : Fields) : Type 0 where
  pub y≤ : s.y ≤ 255
  pub x≤ : s.x ≤ 511
  pub affine≤ : s.affine_index ≤ 31
  pub width≤ : s.width ≤ 64
  pub height≤ : s.height ≤ 64
  pub tile≤ : s.tile ≤ 1023
  pub priority≤ : s.priority ≤ 3
  pub bank≤ : s.bank ≤ 15
