-- sfx::Rows::compose meets its contract: where no layers are blended, the tops alone give the same row.
-- Assumes nothing.
use mathlib.Core.Path.{◌≡◌, sym, ◌∙◌}
use mathlib.Core.Bool.{not}
use borrow.Author.Rules.{rules}
use borrow.Author.Tests.{not-true}
use Rattle.bits.proofs.Booleans.{and_both}
use Rattle.sfx_effects.specs.Code.{blends}
use Rattle.rgb15.specs.Colour.{rgb}
use Rattle.rows.proofs.Made.{made_tab}
use Rattle.sfx.proofs.Tops.{tops_row}
use Rattle.sfx.proofs.Rows.compose.Goals as goal

pub returns-then-ne-plain : goal.returns-then-ne-plain
returns-then-ne-plain c =
    let other : c.ne.result ≡ not (blends c.args.line.mode) = search rules in
    let both = and_both _ _ c.if-ne-plain.true in
    tops_row c.requires (not-true _ (sym other ∙ both.0)) c.args.weights c.args.self.now (sym c.is_plain-plain.ensures ∙ both.1)
    (made_tab _ _ _ _ _ (rgb 0) (λ i y q i< k. search rules) c.from_fn.ensures.items)

pub returns-else-ne-plain : goal.returns-else-ne-plain
returns-else-ne-plain c = made_tab _ _ _ _ _ (rgb 0) (λ i y q i< k. search rules) c.from_fn-else-ne-plain.ensures.items
