-- obj_texels::normal::texel_row meets its contract: a turn sets the eight columns of one tile, and the others stay transparent.
-- Assumes nothing.
use native.Mathlib.Omega.{arith}
use mathlib.Core.Path.{sym, ap, ◌∙◌}
use lib.ListN.{get_or-replicate, length-replicate}
use Rattle.rgb15.specs.Colour.{rgb, transparent}
use Rattle.rows.proofs.Tiles.{tiles_set_more, tiles_set-all, tiles_set_none}
use Rattle.obj_sprites.specs.declared.sprite.Sprite.{Sprite}
use Rattle.obj_texels.proofs.Texels.{row_texel-inside, row_texel_outside}
use Rattle.obj_texels.proofs.normal.texel_row.Goals as goal

pub loop-t-init : goal.loop-t-init
loop-t-init c = tiles_set_none (length-replicate 128 (rgb transparent))

pub loop-t-preserved : goal.loop-t-preserved
loop-t-preserved c =
    let width_is = ap (λ (s : Sprite). s.attrs.width) c.sprite.view_is in
    let t< = c.loop-t-test.true in
    tiles_set_more _ _ c.shown_tile-tile.result c.loop-t.invariant
    (omega (arith, t<, c.sprite.invariant.width≤)) c.shown_tile-tile.ensures
    (λ k k<. ap rgb (sym (row_texel-inside _ _ _ _ _ c.args.y _ (omega (arith, t<, k<, width_is)))))

pub returns : goal.returns
returns c =
    let width_is = ap (λ (s : Sprite). s.attrs.width) c.sprite.view_is in
    tiles_set-all c.loop-t.invariant (omega (arith, c.loop-t.auto.t-end, c.sprite.invariant.width≤))
    (λ x x≥ x<.
    ap rgb (row_texel_outside _ _ _ _ _ c.args.y x (omega (arith, c.requires.1, width_is, c.loop-t-test.false, x≥)))
    ∙ sym (get_or-replicate 128 x (rgb transparent) (rgb 0) x<))
