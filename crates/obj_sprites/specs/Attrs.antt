-- A sprite decoded from its three halfwords (01, "Sprites"; GBATEK, "LCD OBJ - OAM Attributes"). Assumes nothing.
use Rattle.std.specs.Prelude.{ℕ, List, [], ◌∷◌, get_or}
use Rattle.bits.specs.Bits.{bits, bit}
use Rattle.regs.specs.Background.{tile_format}
use Rattle.obj_sprites.specs.Oam.{Attributes, attributes}
use Rattle.obj_sprites.specs.Size.{obj_width, obj_height}
use Rattle.obj_sprites.specs.declared.attrs.ObjAttrs.{ObjAttrs}
use Rattle.obj_sprites.specs.declared.attrs.ObjMode.{ObjMode}
use Rattle.obj_sprites.specs.declared.attrs.ObjType.{ObjType}

-- The mode of a number: 0 ordinary, 1 semi-transparent, 2 window, 3 prohibited.
unfoldable pub obj_mode : ℕ → ObjMode
obj_mode number = get_or (ObjMode.Normal ∷ ObjMode.Sfx ∷ ObjMode.Window ∷ ObjMode.Forbidden ∷ []) number ObjMode.Normal

-- The type of a number: 0 normal, 1 affine, 2 hidden, 3 affine in a box of double size.
unfoldable pub obj_type : ℕ → ObjType
obj_type number =
    get_or (ObjType.Normal ∷ ObjType.Affine ∷ ObjType.Hidden ∷ ObjType.AffineDoubleSize ∷ []) number ObjType.Normal

-- A sprite is what its three halfwords say.
unfoldable pub obj_attrs : Attributes → ObjAttrs
obj_attrs a =
    record {
      y = bits 7 0 a.first;
      objtype = obj_type (bits 9 8 a.first);
      objmode = obj_mode (bits 11 10 a.first);
      format = tile_format (bit 13 a.first);
      x = bits 8 0 a.second;
      affine_index = bits 13 9 a.second;
      h_flip = bit 12 a.second;
      v_flip = bit 13 a.second;
      width = obj_width (bits 15 14 a.second) (bits 15 14 a.first);
      height = obj_height (bits 15 14 a.second) (bits 15 14 a.first);
      tile = bits 9 0 a.third;
      priority = bits 11 10 a.third;
      bank = bits 15 12 a.third;
    }

-- Sprite n of OAM.
abbrev pub sprite : List ℕ → ℕ → ObjAttrs
sprite oam n = obj_attrs (attributes oam n)
