-- obj::open_columns meets its contract: a sprite that tests priority is passed over at a closed column.
-- Assumes nothing.
use mathlib.Core.Path.{sym, ap}
use borrow.Author.Rules.{rules}
use Rattle.obj_sprites.specs.declared.attrs.ObjAttrs.{ObjAttrs}
use Rattle.obj.proofs.Skip.{walked_closed, walked_back_closed, walked_none, walked_back_none}
use Rattle.obj.proofs.open_columns.Goals as goal

pub returns-in-Normal : goal.returns-in-Normal
returns-in-Normal c =
    let mode_is = sym (ap (λ (s : ObjAttrs). s.objmode) c.attrs.view_is) in
    let priority_is = sym (ap (λ (s : ObjAttrs). s.priority) c.attrs.view_is) in (
      walked_closed _ c.args.attrs mode_is priority_is c.in-Normal.is c.trimmed.ensures.0,
      walked_back_closed _ c.args.attrs mode_is priority_is c.in-Normal.is c.trimmed.ensures.1,
    )

pub returns-in-Window : goal.returns-in-Window
returns-in-Window c = (walked_none (search rules), walked_back_none (search rules))
