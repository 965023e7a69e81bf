-- Laws of the window mark: it tells whether a window sprite had an opaque pixel.
-- No contract cites this file. Assumes nothing.
use Prim.Native.Nat.{ℕ, zero, suc}
use mathlib.Core.Path.{◌≡◌, refl, sym, ap, ◌∙◌}
use mathlib.Core.Bool.{Bool, true, false, not, cond, ◌&&◌, ◌||◌, or-true, or-false, or_assoc}
use lib.Dec.{leb}
use Rattle.rgb15.specs.Colour.{is_transparent}
use Rattle.obj_sprites.specs.Attrs.{sprite}
use Rattle.obj_sprites.specs.Sprite.{source, is_window}
use Rattle.obj_entries.specs.Entry.{window_mark}
use Rattle.obj.specs.Put.{passed_over, shown_by, windowed, written, put_pixel, sprite_step, entry_up_to}
use Rattle.obj.specs.Order.{Draw, is_opaque, window_up_to}
use Rattle.obj_sprites.specs.declared.attrs.ObjMode.{ObjMode}
use Rattle.obj_entries.specs.declared.Entry.{Entry}
use Rattle.bits.proofs.Booleans.{cond_both}
use Rattle.obj.proofs.Marks.{window_put_same, window_put-other}

-- A pixel that is shown leaves the window mark.
window_mark-shown_by : (semi : Bool) (priority color : ℕ) (e : Entry)
    → window_mark (shown_by semi priority color e) ≡ window_mark e
unfolding shown_by
window_mark-shown_by semi priority color e = window_put-other semi e.marks

window_mark-windowed : (e : Entry) → window_mark (windowed e) ≡ true
unfolding windowed
window_mark-windowed e = window_put_same e.marks

module _ (priority color : ℕ) (e : Entry) where
  -- A pixel that leaves the mark, shown or not.
  window_mark-other : (f : Entry) → window_mark f ≡ window_mark e
      → window_mark (cond (leb e.priority priority || is_transparent color) e f) ≡ (window_mark e || false)
  window_mark-other f same =
      cond_both (λ f. window_mark f ≡ window_mark e) (leb e.priority priority || is_transparent color) refl same
      ∙ sym (or-false (window_mark e))

  window_mark_put : (mode : ObjMode) (clear : Bool) → is_transparent color ≡ clear
      → window_mark (put_pixel mode priority color e) ≡ (window_mark e || (is_window mode && not clear))
  unfolding put_pixel passed_over written is_window
  window_mark_put ObjMode.Normal clear t =
      window_mark-other (shown_by false priority color e) (window_mark-shown_by false priority color e)
  window_mark_put ObjMode.Sfx clear t =
      window_mark-other (shown_by true priority color e) (window_mark-shown_by true priority color e)
  window_mark_put ObjMode.Window true t = rw t (sym (or-false (window_mark e)))
  window_mark_put ObjMode.Window false t = rw t (window_mark-windowed e ∙ sym (or-true (window_mark e)))
  window_mark_put ObjMode.Forbidden clear t = window_mark-other e refl

module _ (column : ℕ) where
  window_mark-sprite : (d : Draw) (n : ℕ) (e : Entry)
      → window_mark (sprite_step d.reading (source d.memory) d.line n column e)
      ≡ (window_mark e || (is_window (sprite d.memory.oam n).objmode && is_opaque d n column))
  unfolding is_opaque sprite_step
  window_mark-sprite d n e = window_mark_put _ _ e _ _ refl

  -- The sprites of a draw set the window mark where one of them is a window sprite with an opaque pixel, and else leave it.
  pub window_mark_sprites : (d : Draw) (n : ℕ) (e : Entry)
      → window_mark (entry_up_to d.reading (source d.memory) d.line n column e)
      ≡ (window_mark e || window_up_to d n column)
  unfolding window_up_to entry_up_to
  window_mark_sprites d zero e = sym (or-false (window_mark e))
  window_mark_sprites d (suc n) e =
      window_mark-sprite d n _
      ∙ ap (λ t. t || (is_window (sprite d.memory.oam n).objmode && is_opaque d n column)) (window_mark_sprites d n e)
      ∙ or_assoc (window_mark e) (window_up_to d n column) _
