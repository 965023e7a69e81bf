-- Laws of one column: the colour that a sprite has there, and what sprites make of its entry. No contract cites this file.
-- Assumes nothing.
use Prim.Native.Nat.{ℕ, ◌+◌, ◌-◌, ◌≤◌, ◌<◌}
use native.Mathlib.Omega.{arith}
use mathlib.Core.Path.{◌≡◌, refl, sym, ap, ap₂, ◌∙◌}
use mathlib.Core.Bool.{Bool, true, false}
use mathlib.Core.List.{List}
use lib.IntN.{sub_ℕ, nat_abs}
use Rattle.std.specs.declared.option.Option.TheVariants.{Some, None}
use Rattle.signed.specs.Signed.{within}
use Rattle.tiles.specs.Flip.{flip}
use Rattle.regs.specs.declared.ObjMapping.{ObjMapping}
use Rattle.regs.specs.declared.reading.Reading.{Reading}
use Rattle.obj_sprites.specs.Attrs.{sprite}
use Rattle.obj_sprites.specs.Place.{left, below}
use Rattle.obj_sprites.specs.Tiles.{texel}
use Rattle.obj_sprites.specs.Color.{normal_color}
use Rattle.obj_sprites.specs.Sprite.{Source, drawn, typed_color, sprite_color}
use Rattle.obj_sprites.specs.declared.attrs.ObjAttrs.{ObjAttrs}
use Rattle.obj_sprites.proofs.Places.{between-within}
use Rattle.obj_texels.proofs.Colors.{normal_color-inside}
use Rattle.obj_entries.specs.declared.Entry.{Entry}
use Rattle.obj.specs.Put.{put_pixel, sprite_step, entry_up_to}
use Rattle.explain_obj.specs.Code.{PlaceOf}
use Rattle.obj.proofs.Steps.{sprite_step_none, entry_up_to_none, entry_up_to_more}

-- ---- the colour of a sprite

module _ (left width column : ℕ) where
  -- A column that a box holds.
  pub box_some : (left ≤ column + 272) × (column + 272 < left + width) → PlaceOf left width column (Some (column + 272 - left))
  box_some bounds = record { some = λ i e. (bounds.0, bounds.1, cc); none = λ e. absurd cc }

  -- One that it doesn't hold is not between its ends.
  pub box_none : column < 240 → within (sub_ℕ (column + 272) left) width ≡ false → PlaceOf left width column None
  box_none column< out =
      record {
        some = λ i e. absurd cc;
        none = λ e. between-within left width column column< refl refl ∙ out;
      }

-- A column of a normal sprite's box, whose texel was read.
pub normal_color-read : (reading : Reading) (mapping : ObjMapping) (vram palette : List ℕ) (s : ObjAttrs) (line l : ℕ)
    → left reading s ≡ sub_ℕ l 272
    → (column : ℕ) {x y color : ℕ}
    → l ≤ column + 272 → column + 272 < l + s.width
    → x ≡ flip s.h_flip s.width (column + 272 - l)
    → y ≡ flip s.v_flip s.height (nat_abs (below reading s line))
    → color ≡ texel reading mapping vram palette s x y
    → color ≡ normal_color reading mapping vram palette s line column
normal_color-read reading mapping vram palette s line l left_is column {y = y} h u x_is y_is color_is =
    color_is
    ∙ ap (λ x. texel reading mapping vram palette s x y) x_is
    ∙ normal_color-inside reading mapping vram palette s line l left_is column y_is h u

-- ---- the sprites in turn

module _ (reading : Reading) (o : Source) (line n column : ℕ) (e : Entry) {s : ObjAttrs} {test : Bool}
    (s-is : s ≡ sprite o.oam n) (test-is : test ≡ drawn reading o.mapping o.start s line) where
  -- A sprite that was read and is drawn puts its pixel.
  pub sprite_step-drawn : {color : ℕ} {r : Entry} → test ≡ true
      → color ≡ typed_color s.objtype reading o.mapping o.vram o.palette o.oam s line column
      → r ≡ put_pixel s.objmode s.priority color e
      → r ≡ sprite_step reading o line n column e
  unfolding sprite_step sprite_color
  sprite_step-drawn t color_is put_is = rw (sym s-is, sym test-is ∙ t, sym color_is) put_is

  -- One that isn't drawn leaves the entry.
  pub sprite_step_passed : test ≡ false → e ≡ sprite_step reading o line n column e
  sprite_step_passed t = sym (sprite_step_none reading o line n (rw (sym s-is) (sym test-is ∙ t)) column e)

module _ (reading : Reading) (o : Source) (line column : ℕ) where
  -- Entry e is what the sprites before number n made of e₀.
  pub record SteppedTo (e₀ : Entry) (n : ℕ) (e : Entry) : Type 0 where
    pub bound : n ≤ 128
    pub made : e ≡ entry_up_to reading o line n column e₀

  pub stepped_none : {e : Entry} → SteppedTo e 0 e
  stepped_none {e} = record { bound = omega arith; made = sym (entry_up_to_none reading o line column e) }

  pub stepped_more : {n : ℕ} {e₀ e f : Entry} → SteppedTo e₀ n e → n < 128 → f ≡ sprite_step reading o line n column e
      → SteppedTo e₀ (n + 1) f
  stepped_more {n} {e₀} p n< f-is =
      record {
        bound = omega arith;
        made = f-is ∙ ap (sprite_step reading o line n column) p.made ∙ entry_up_to_more reading o line n column e₀;
      }

pub stepped-all : (reading : Reading) {o p : Source} (line column : ℕ) {n : ℕ} {e₀ e : Entry}
    → SteppedTo reading o line column e₀ n e → 128 ≤ n → o ≡ p
    → e ≡ entry_up_to reading p line 128 column e₀
stepped-all reading line column {n} {e₀} q n≥ o_is =
    let all : n ≡ 128 = omega (arith, q.bound) in
    q.made ∙ ap₂ (λ o n. entry_up_to reading o line n column e₀) o_is all
