-- explain_obj::typed_color meets its contract: each arm is the clause of typed_color for its type.
-- Assumes nothing.
use mathlib.Core.Path.{ap}
use Rattle.obj_sprites.specs.declared.attrs.ObjAttrs.{ObjAttrs}
use Rattle.obj.proofs.Steps.{typed_color_hidden, typed_color_normal, typed_color_affine}
use Rattle.explain_obj.proofs.typed_color.Goals as goal

pub returns-in-Hidden : goal.returns-in-Hidden
returns-in-Hidden c =
    let type_is = ap (λ (s : ObjAttrs). s.objtype) c.attrs.view_is in
    rw (typed_color_hidden _ _ _ _ _ c.args.attrs _ type_is c.in-Hidden.is)

pub returns-in-Normal : goal.returns-in-Normal
returns-in-Normal c =
    let type_is = ap (λ (s : ObjAttrs). s.objtype) c.attrs.view_is in
    rw (typed_color_normal _ _ _ _ _ c.args.attrs _ type_is c.in-Normal.is)
    c.normal_color.ensures

pub returns-in-Affine : goal.returns-in-Affine
returns-in-Affine c =
    let type_is = ap (λ (s : ObjAttrs). s.objtype) c.attrs.view_is in
    rw (typed_color_affine _ _ _ _ _ c.args.attrs _ type_is c.in-Affine.is)
    c.affine_obj_color.ensures
