-- bg::picture::render_picture meets its contract: the line was made column by column.
-- Assumes nothing.
use borrow.Author.Rules.{rules}
use Rattle.rgb15.specs.Colour.{rgb}
use Rattle.rows.proofs.Made.{made_tab}
use Rattle.bg.specs.Code.{picture_color}
use Rattle.bg.proofs.picture.render_picture.Goals as goal

pub returns : goal.returns
returns g c =
    let a = c.args in
    let view = g.P.Picture in
    let color = picture_color (view.viewport a.picture) (view.pixel a.picture a.colors) a.affine in
    made_tab _ (λ column. rgb (color column)) _ _ 240 (rgb 0) (λ i y q i< k. search rules) c.from_fn.ensures.items
