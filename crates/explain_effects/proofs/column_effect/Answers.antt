-- explain_effects::column_effect meets its contract: a law for each return.
-- Assumes nothing.
use borrow.Author.Rules.{rules}
use Rattle.explain_effects.proofs.Named.{gives-sprite, gives_control, gives_none}
use Rattle.explain_effects.proofs.column_effect.Goals as goal

pub returns-then-is_object-semi : goal.returns-then-is_object-semi
returns-then-is_object-semi c = search (rules, gives-sprite)

pub returns-then-sfx_enabled-contains_render_layer : goal.returns-then-sfx_enabled-contains_render_layer
returns-then-sfx_enabled-contains_render_layer c = search (rules, gives_control)

pub returns-else-sfx_enabled-contains_render_layer : goal.returns-else-sfx_enabled-contains_render_layer
returns-else-sfx_enabled-contains_render_layer c = search (rules, gives_none)
