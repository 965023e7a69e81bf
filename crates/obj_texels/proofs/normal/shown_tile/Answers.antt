-- obj_texels::normal::shown_tile meets its contract: the tile is the one shown, and its pixels are flipped as it is.
-- Assumes nothing.
use Prim.Native.Nat.{◌*◌, ◌/◌}
use native.Mathlib.Omega.{arith}
use mathlib.Core.Path.{◌≡◌, ap}
use Rattle.obj_sprites.specs.declared.attrs.ObjAttrs.{ObjAttrs}
use Rattle.obj_texels.proofs.Texels.{row_shown}
use Rattle.obj_texels.proofs.normal.shown_tile.Goals as goal

pub returns : goal.returns
returns c =
    let width_is = ap (λ (s : ObjAttrs). s.width) c.attrs.view_is in
    let whole : c.args.sprite.now.attrs.width ≡ 8 * (c.attrs.inside.width / 8) = omega (arith, width_is, c.requires) in
    row_shown _ _ _ _ _ _ _ _ whole (omega (arith, width_is, c.requires))
    (ap (λ (s : ObjAttrs). s.h_flip) c.attrs.view_is) c.flip-shown.ensures.0
    c.tile-tile.ensures.addr_is c.tile-tile.ensures.format_is c.tile-tile.ensures.bank_is c.row.ensures
