-- Laws of a layer's tag and of a region's word: the bits that each is made of can be read again. No contract cites this file.
-- Assumes nothing.
use Prim.Native.Nat.{ℕ, ◌+◌, ◌*◌, ◌/◌, ◌%◌, ◌^◌, ◌≤◌}
use native.Mathlib.Omega.{arith}
use mathlib.Core.Path.{◌≡◌, refl, ap}
use mathlib.Core.Bool.{Bool, true, false, ◌&&◌}
use mathlib.Core.List.{List}
use lib.Dec.{eqb}
use Rattle.std.specs.Prelude.{Option, None}
use lib.ListN.{get_or}
use borrow.Author.Tests.{eqb-true, eqb-false}
use Rattle.bits.specs.Bits.{bits, bit}
use Rattle.regs.specs.Registers.{bldcnt}
use Rattle.regs_window.specs.Windows.{permits_objects, permits_effects}
use Rattle.regs_blend.specs.Layers.{targets}
use Rattle.regs_blend.specs.Blend.{target1, target2}
use Rattle.regs_blend.specs.declared.layer.RenderLayerKind.TheVariants.{Objects}
use Rattle.obj_entries.specs.Entry.{semi_mark}
use Rattle.obj_entries.specs.declared.Entry.{Entry}
use Rattle.sfx_layers.specs.Layers.{Layer, is_object, object_layer}
use Rattle.sfx_layers.specs.Code.{as_bit, first_bit, second_bit, semi_bit, layer_tag, line_tag, object_tag, tag_priority}
use Rattle.sfx_layers.specs.Code.{objects_bit, effects_bit, permits_place, region_word}

-- ---- bits

pub as_bit_bound : (t : Bool) → as_bit t ≤ 1
as_bit_bound true = omega arith
as_bit_bound false = omega arith

bit_is : (i w : ℕ) (t : Bool) → bits i i w ≡ as_bit t → bit i w ≡ t
bit_is i w true e = ap (λ n. eqb n 1) e
bit_is i w false e = ap (λ n. eqb n 1) e

-- ---- the tag of a layer

-- The tag of a layer; semi is whether the object is semi-transparent.
unfoldable pub tag_of : List ℕ → Bool → Layer → ℕ
tag_of registers semi l = line_tag registers l.kind l.priority + 2 ^ semi_bit * as_bit (is_object l.kind && semi)

-- What can be read from a tag.
pub record TagBits (registers : List ℕ) (semi : Bool) (l : Layer) (tag : ℕ) : Type 0 where
  pub first_is : bit first_bit tag ≡ targets (target1 (bldcnt registers)) l.kind
  pub second_is : bit second_bit tag ≡ targets (target2 (bldcnt registers)) l.kind
  pub semi_is : bit semi_bit tag ≡ is_object l.kind && semi
  pub priority_is : tag_priority tag ≡ l.priority

module _ (registers : List ℕ) (semi : Bool) where
  pub tag-bits : (l : Layer) → TagBits registers semi l (tag_of registers semi l)
  unfolding tag_of layer_tag
  tag-bits l =
      let first≤ = as_bit_bound (targets (target1 (bldcnt registers)) l.kind) in
      let second≤ = as_bit_bound (targets (target2 (bldcnt registers)) l.kind) in
      let semi≤ = as_bit_bound (is_object l.kind && semi) in
      let tag = tag_of registers semi l in
      record {
        first_is = bit_is first_bit tag _ (omega arith);
        second_is = bit_is second_bit tag _ (omega arith);
        semi_is = bit_is semi_bit tag _ (omega arith);
        priority_is = omega arith;
      }

  -- A layer that is no object, and an object.
  pub tag_plain : (l : Layer) → is_object l.kind ≡ false → line_tag registers l.kind l.priority ≡ tag_of registers semi l
  unfolding tag_of
  tag_plain l e = rw e (omega arith)

  pub tag_object : (e : Entry) → semi ≡ semi_mark e
      → object_tag (line_tag registers Objects 0) e ≡ tag_of registers semi (object_layer e)
  unfolding tag_of layer_tag
  tag_object e semi_is = rw semi_is (mark (semi_mark e) refl)
    where
      mark : (t : Bool) → semi_mark e ≡ t
          → object_tag (line_tag registers Objects 0) e ≡ line_tag registers Objects e.priority + 2 ^ semi_bit * as_bit t
      mark true t = omega (arith, eqb-true (e.marks / 1 % 2) 1 t)
      mark false t = omega (arith, eqb-false (e.marks / 1 % 2) 1 t)

-- ---- the word of a region

-- What can be read from a region's word.
pub record RegionBits (objects : Bool) (at : List (Option ℕ)) (flags w : ℕ) : Type 0 where
  pub place0_is : bit 0 w ≡ permits_place flags (get_or at 0 None)
  pub place1_is : bit 1 w ≡ permits_place flags (get_or at 1 None)
  pub place2_is : bit 2 w ≡ permits_place flags (get_or at 2 None)
  pub place3_is : bit 3 w ≡ permits_place flags (get_or at 3 None)
  pub objects_is : bit objects_bit w ≡ permits_objects flags && objects
  pub effects_is : bit effects_bit w ≡ permits_effects flags

pub region-bits : (objects : Bool) (at : List (Option ℕ)) (flags : ℕ)
    → RegionBits objects at flags (region_word objects at flags)
unfolding region_word
region-bits objects at flags =
    let place0≤ = as_bit_bound (permits_place flags (get_or at 0 None)) in
    let place1≤ = as_bit_bound (permits_place flags (get_or at 1 None)) in
    let place2≤ = as_bit_bound (permits_place flags (get_or at 2 None)) in
    let place3≤ = as_bit_bound (permits_place flags (get_or at 3 None)) in
    let objects≤ = as_bit_bound (permits_objects flags && objects) in
    let effects≤ = as_bit_bound (permits_effects flags) in
    let w = region_word objects at flags in
    record {
      place0_is = bit_is 0 w _ (omega arith);
      place1_is = bit_is 1 w _ (omega arith);
      place2_is = bit_is 2 w _ (omega arith);
      place3_is = bit_is 3 w _ (omega arith);
      objects_is = bit_is objects_bit w _ (omega arith);
      effects_is = bit_is effects_bit w _ (omega arith);
    }
