-- obj_sprites::sprite::Sprite::shown_row meets its contract: a normal sprite's box is as high as the sprite.
-- Assumes nothing.
use native.Mathlib.Omega.{arith}
use mathlib.Core.Path.{ap, ◌∙◌}
use Rattle.tiles.specs.Flip.{flip}
use Rattle.obj_sprites.specs.declared.attrs.ObjAttrs.{ObjAttrs}
use Rattle.obj_sprites.proofs.Places.{boxed_normal}
use Rattle.obj_sprites.proofs.sprite.Sprite.shown_row.Goals as goal

pub flip-requires : goal.flip-requires
flip-requires c =
    omega (
      arith,
      c.row.ensures.1,
      boxed_normal c.args.self.now.attrs.height c.requires.1,
      ap (λ (s : ObjAttrs). s.height) c.attrs.view_is,
    )

pub returns : goal.returns
returns c = (
  c.flip.ensures.0 ∙ rw c.row.ensures.0 (ap (λ (s : ObjAttrs). flip s.v_flip s.height c.row.result) c.attrs.view_is),
  omega (arith, c.flip.ensures.1, ap (λ (s : ObjAttrs). s.height) c.attrs.view_is),
)
