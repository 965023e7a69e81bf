-- obj_texels::affine::point_color meets its contract: both tests are those of color_at.
-- Assumes nothing.
use Prim.Native.Nat.{◌+◌, ◌^◌, ◌≤◌, ◌<◌}
use native.Mathlib.Omega.{arith}
use mathlib.Core.Path.{◌≡◌, sym, ap}
use Rattle.obj_sprites.specs.declared.sprite.Sprite.{Sprite}
use Rattle.obj_sprites.proofs.Points.{color_at_bounds, color_at-inside, color_at_outside}
use Rattle.obj_texels.specs.Code.{point_at}
use Rattle.obj_texels.proofs.affine.point_color.Goals as goal

bounds : (c : goal.Then-is_inside)
    → let x = c.point_at-x.result in
    let y = c.point_at-y.result in
    let attrs = c.args.sprite.now.attrs in
    ((2 ^ 16 ≤ x) × (x < 2 ^ 16 + attrs.width)) × ((2 ^ 16 ≤ y) × (y < 2 ^ 16 + attrs.height))
bounds c =
    let at = c.args in
    let s = at.sprite.now in
    color_at_bounds s.reading s.mapping at.colors.vram.now at.colors.palette.now s.attrs _ _ _
    (ap (λ (s : Sprite). s.attrs.width) c.sprite.view_is) (ap (λ (s : Sprite). s.attrs.height) c.sprite.view_is)
    c.is_inside.ensures c.is_inside-2.ensures c.if-is_inside.true

-- The sprite's sides, as they were read.
sides : (c : goal.Then-is_inside)
    → let read = c.sprite.inside.0.0 in
    let attrs = c.args.sprite.now.attrs in
    (read.width ≡ attrs.width) × (read.height ≡ attrs.height)
sides c = (ap (λ (s : Sprite). s.attrs.width) c.sprite.view_is, ap (λ (s : Sprite). s.attrs.height) c.sprite.view_is)

pub overflow_sub-sprite_x : goal.overflow_sub-sprite_x
overflow_sub-sprite_x c = omega (arith, bounds c, sides c)

pub overflow_sub-sprite_y : goal.overflow_sub-sprite_y
overflow_sub-sprite_y c = omega (arith, bounds c)

pub texel-requires : goal.texel-requires
texel-requires c = let inside = bounds c in let same = sides c in (omega arith, omega arith)

pub returns-then-is_inside : goal.returns-then-is_inside
returns-then-is_inside c =
    let turn = c.args.turn in
    color_at-inside _ _ _ _ _ _ _ _
    (ap (λ (s : Sprite). s.attrs.width) c.sprite.view_is) (ap (λ (s : Sprite). s.attrs.height) c.sprite.view_is)
    c.is_inside.ensures c.is_inside-2.ensures
    (point_at turn.x turn.pa c.args.i) (point_at turn.y turn.pc c.args.i) c.point_at-x.ensures c.point_at-y.ensures
    c.if-is_inside.true c.texel.ensures

pub returns-else-is_inside : goal.returns-else-is_inside
returns-else-is_inside c =
    let turn = c.args.turn in
    sym
    (color_at_outside _ _ _ _ _ _ _ _
    (ap (λ (s : Sprite). s.attrs.width) c.sprite.view_is) (ap (λ (s : Sprite). s.attrs.height) c.sprite.view_is)
    c.is_inside.ensures c.is_inside-2.ensures
    (point_at turn.x turn.pa c.args.i) (point_at turn.y turn.pc c.args.i) c.point_at-x.ensures c.point_at-y.ensures
    c.if-is_inside.false)
