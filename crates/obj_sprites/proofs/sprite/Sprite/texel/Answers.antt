-- obj_sprites::sprite::Sprite::texel meets its contract: the tile's address, format and bank are those of texel.
-- Assumes nothing.
use mathlib.Core.Path.{refl, ◌∙◌}
use Rattle.obj_sprites.specs.Tiles.{texel}
use Rattle.obj_sprites.proofs.sprite.Sprite.texel.Goals as goal

pub returns : goal.returns
unfolding texel
returns c = c.color.ensures ∙ rw (c.tile.ensures.addr_is, c.tile.ensures.format_is, c.tile.ensures.bank_is) refl
