-- As code has it: a sprite by its fields, and back. No exported contract reaches this file. Assumes nothing.
use Rattle.obj_sprites.specs.Fields.{Fields}
use Rattle.obj_sprites.specs.declared.attrs.ObjAttrs.TheInside.{Inside}

-- What contracts see of a sprite.
abbrev pub fields_of : Inside → Fields
fields_of a =
    record {
      y = a.y;
      objtype = a.objtype;
      objmode = a.objmode;
      format = a.format;
      x = a.x;
      affine_index = a.affine_index;
      h_flip = a.h_flip;
      v_flip = a.v_flip;
      width = a.width;
      height = a.height;
      tile = a.tile;
      priority = a.priority;
      bank = a.bank;
    }

-- It is all of it.
abbrev pub inside_of : Fields → Inside
inside_of s =
    record {
      y = s.y;
      objtype = s.objtype;
      objmode = s.objmode;
      format = s.format;
      x = s.x;
      affine_index = s.affine_index;
      h_flip = s.h_flip;
      v_flip = s.v_flip;
      width = s.width;
      height = s.height;
      tile = s.tile;
      priority = s.priority;
      bank = s.bank;
    }
