-- Laws of which sprites are drawn on a line. No contract cites this file. Assumes nothing.
use Prim.Native.Nat.{ℕ, ◌+◌, ◌*◌, ◌/◌, ◌%◌, ◌≤◌}
use native.Mathlib.Omega.{arith}
use mathlib.Core.Path.{◌≡◌, refl, sym, ap, ap₂, ◌∙◌}
use mathlib.Core.Bool.{Bool, true, false, cond, ◌&&◌}
use lib.Dec.{leb, ltb}
use lib.IntN.{ℤ, pos, negsuc, sub_ℕ}
use borrow.Author.Tests.{lt-ltb, ltb-true}
use Rattle.bits.proofs.Booleans.{and_both, cond_both, leb_same}
use Rattle.signed.specs.Signed.{within}
use Rattle.regs.specs.declared.ObjMapping.{ObjMapping}
use Rattle.regs.specs.declared.reading.Reading.{Reading}
use Rattle.obj_sprites.specs.Oam.{Attributes}
use Rattle.obj_sprites.specs.Attrs.{obj_attrs}
use Rattle.obj_sprites.specs.Place.{box_height, top, below, on_line}
use Rattle.obj_sprites.specs.Tiles.{OVRAM, tiles_start, ignores_lowest_bit, tile_number, tile_base}
use Rattle.obj_sprites.specs.Sprite.{is_shown, is_permitted, drawn}
use Rattle.obj_sprites.specs.Code.{is_near}
use Rattle.obj_sprites.specs.declared.attrs.ObjAttrs.{ObjAttrs}
use Rattle.obj_sprites.proofs.Decode.{height_bound}
use Rattle.obj_sprites.proofs.Places.{boxed_bound, below_is}

-- Sprite tiles start at a whole tile of either format.
pub tiles_start_whole : (mode : ℕ) → tiles_start mode % 64 ≡ 0
unfolding tiles_start
tiles_start_whole mode = cond_both (λ start. start % 64 ≡ 0) (ltb mode 3) refl refl

-- A number among the first m is among the first n, if those are no fewer.
within_wider : (z : ℤ) {m n : ℕ} → m ≤ n → within z m ≡ true → within z n ≡ true
unfolding within
within_wider (pos k) {m} {n} m≤n e = lt-ltb k n (omega (arith, ltb-true k m e))
within_wider (negsuc k) m≤n e = e

module _ (reading : Reading) (mapping : ObjMapping) (start : ℕ) (s : ObjAttrs) where
  -- Such a start is reached by a tile number exactly if it is by the even one at or below it.
  pub leb-tile_base : start % 64 ≡ 0 → leb start (tile_base reading mapping s) ≡ leb start (OVRAM + 32 * s.tile)
  unfolding tile_base tile_number
  leb-tile_base whole = go (ignores_lowest_bit reading mapping s.format)
    where
      go : (ignored : Bool)
          → leb start (OVRAM + 32 * cond ignored (2 * (s.tile / 2)) s.tile) ≡ leb start (OVRAM + 32 * s.tile)
      go true =
          leb_same start (OVRAM + 32 * (2 * (s.tile / 2))) start (OVRAM + 32 * s.tile) (λ h. omega arith) (λ h. omega arith)
      go false = refl

-- The tests of a sprite that is near, whose top is t less 96.
pub near_is : (reading : Reading) (s : ObjAttrs) (line t : ℕ) {shown inside : Bool} → top reading s ≡ sub_ℕ t 96
    → shown ≡ is_shown s.objtype → inside ≡ within (sub_ℕ (line + 96) t) 128
    → (shown && inside) ≡ is_near reading s line
unfolding is_near
near_is reading s line t top_is shown-is inside_is = rw (shown-is, inside_is, below_is reading s t top_is line)

module _ (reading : Reading) (mapping : ObjMapping) (start : ℕ) (s : ObjAttrs) (line : ℕ) where
  -- The tests but the last of a sprite that is drawn.
  drawn_box : drawn reading mapping start s line ≡ true
      → (is_shown s.objtype && is_permitted s.objmode && on_line reading s line) ≡ true
  unfolding drawn
  drawn_box e = (and_both _ (leb start (tile_base reading mapping s)) e).0

  -- A sprite that is drawn has the line in its box.
  pub drawn-on_line : drawn reading mapping start s line ≡ true → on_line reading s line ≡ true
  drawn-on_line e = (and_both (is_shown s.objtype && is_permitted s.objmode) (on_line reading s line) (drawn_box e)).1

  -- A sprite is drawn on no line but those that it is near: no box is higher than 128 lines.
  pub drawn_far : s.height ≤ 64 → is_near reading s line ≡ false → false ≡ drawn reading mapping start s line
  unfolding is_near on_line
  drawn_far height≤ far = go (drawn reading mapping start s line) refl
    where
      go : (b : Bool) → drawn reading mapping start s line ≡ b → false ≡ b
      go true e =
          let shown = is_shown s.objtype in
          let on = and_both (shown && is_permitted s.objmode) (on_line reading s line) (drawn_box e) in
          let near = within_wider (below reading s line) (boxed_bound s.objtype s.height height≤) on.1 in
          sym far ∙ ap₂ ◌&&◌ (and_both shown (is_permitted s.objmode) on.0).0 near
      go false e = refl

  -- So of one that three halfwords say.
  pub drawn_far_decoded : (a : Attributes) → s ≡ obj_attrs a → is_near reading s line ≡ false
      → false ≡ drawn reading mapping start s line
  drawn_far_decoded a s-is = drawn_far (omega (arith, ap (λ (s : ObjAttrs). s.height) s-is, height_bound a))

  module _ (t : ℕ) (top_is : top reading s ≡ sub_ℕ t 96) where
    -- The tests of a sprite that is drawn.
    pub drawn_is : {height : ℕ} {shown permitted inside : Bool}
        → shown ≡ is_shown s.objtype → permitted ≡ is_permitted s.objmode
        → height ≡ box_height s → inside ≡ within (sub_ℕ (line + 96) t) height → start % 64 ≡ 0
        → (shown && permitted && inside && leb start (OVRAM + 32 * s.tile)) ≡ drawn reading mapping start s line
    unfolding drawn on_line
    drawn_is shown-is permitted-is height_is inside_is whole =
        rw (
          shown-is,
          permitted-is,
          inside_is,
          height_is,
          leb-tile_base reading mapping start s whole,
          below_is reading s t top_is line,
        )
