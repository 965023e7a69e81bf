-- obj_sprites::attrs::ObjAttrs::new meets its contract: each field is its bits, or what a call ensures of them.
-- Assumes nothing.
use Prim.Native.Nat.{◌/◌, ◌%◌}
use mathlib.Core.Path.{◌≡◌}
use native.Mathlib.Omega.{arith}
use Rattle.bits.specs.Bits.{bits}
use Rattle.obj_sprites.specs.Size.{obj_width}
use Rattle.obj_sprites.specs.Attrs.{obj_attrs}
use Rattle.obj_sprites.proofs.attrs.ObjAttrs.new.Goals as goal

pub returns : goal.returns
unfolding obj_attrs
returns c =
    let at = c.args in
    let width_is : c.lookup-size.result.0 ≡ obj_width (bits 15 14 at.attr1) (bits 15 14 at.attr0)
    = c.lookup-size.ensures.width_is in
    let y_is : at.attr0 % 0x100 ≡ bits 7 0 at.attr0 = omega arith in
    let type_is : bits 1 0 (at.attr0 / 0x100) ≡ bits 9 8 at.attr0 = omega arith in
    let mode_is : bits 1 0 (at.attr0 / 0x400) ≡ bits 11 10 at.attr0 = omega arith in
    let x_is : at.attr1 % 0x200 ≡ bits 8 0 at.attr1 = omega arith in
    let tile-is : at.attr2 % 0x400 ≡ bits 9 0 at.attr2 = omega arith in
    let bank-is : at.attr2 / 0x1000 ≡ bits 15 12 at.attr2 = omega arith in
    cc
