-- Laws of well-shaped entries: the pass keeps a row so. No contract cites this file. Assumes nothing.
use Prim.Native.Nat.{ℕ, zero, suc, ◌≤◌}
use native.Mathlib.Omega.{arith}
use mathlib.Core.Path.{◌≡◌, refl, ap, ◌∙◌}
use mathlib.Core.Bool.{Bool, true, false, cond, ◌||◌}
use mathlib.Core.List.{List}
use Rattle.rgb15.specs.Colour.{is_transparent}
use Rattle.rows.proofs.Below.{all_below_at, all_below_ext}
use Rattle.rows.proofs.Cells.{cell_at_row_of}
use Rattle.regs.specs.declared.reading.Reading.{Reading}
use Rattle.obj_entries.specs.Entry.{entry_cells, well_shaped, shaped_row}
use Rattle.obj_entries.specs.declared.Entry.{Entry}
use Rattle.obj_entries.proofs.Shapes.{Shape, blank, shown, well_shaped_shape, shape-well_shaped}
use Rattle.obj_sprites.specs.Attrs.{sprite}
use Rattle.obj_sprites.specs.Sprite.{Source, sprite_color}
use Rattle.obj_sprites.specs.declared.attrs.ObjMode.{ObjMode}
use Rattle.bits.proofs.Booleans.{or_neither}
use Rattle.obj_sprites.proofs.Clean.{Clean, clean-sprite}
use Rattle.obj_sprites.proofs.Decode.{priority_bound}
use Rattle.obj.specs.Put.{passed_over, shown_by, windowed, written, put_pixel, sprite_step, entry_up_to, put_sprites}
use Rattle.obj.proofs.Marks.{semi_put-other, semi_put_bound}

-- ---- what a pixel makes of a well-shaped entry

shape-windowed : (e : Entry) → Shape e → Shape (windowed e)
unfolding windowed
shape-windowed e (blank marks≤ priority_is color_is semi_is) =
    blank (omega arith) priority_is color_is (semi_put-other e.marks ∙ semi_is)
shape-windowed e (shown marks≤ priority≤ color≤) = shown (omega arith) priority≤ color≤

marks_bound : {e : Entry} → Shape e → e.marks ≤ 3
marks_bound (blank marks≤ priority_is color_is semi_is) = marks≤
marks_bound (shown marks≤ priority≤ color≤) = marks≤

module _ (priority color : ℕ) (e : Entry) (priority≤ : priority ≤ 3) (clean : Clean color) (shape : Shape e) where
  shape-shown_by : (semi : Bool) → is_transparent color ≡ false → Shape (shown_by semi priority color e)
  unfolding shown_by
  shape-shown_by semi opaque =
      shown (semi_put_bound semi e.marks (marks_bound shape)) priority≤ (clean.opaque≤ opaque)

  shape-written : (mode : ObjMode) → is_transparent color ≡ false → Shape (written mode priority color e)
  unfolding written
  shape-written ObjMode.Normal opaque = shape-shown_by false opaque
  shape-written ObjMode.Sfx opaque = shape-shown_by true opaque
  shape-written ObjMode.Window opaque = shape-windowed e shape
  shape-written ObjMode.Forbidden opaque = shape

  shape_put : (mode : ObjMode) → Shape (put_pixel mode priority color e)
  unfolding put_pixel
  shape_put mode = go (passed_over mode priority e || is_transparent color) refl
    where
      go : (t : Bool) → (passed_over mode priority e || is_transparent color) ≡ t
          → Shape (cond t e (written mode priority color e))
      go true t = shape
      go false t = shape-written mode (or_neither (passed_over mode priority e) (is_transparent color) t).1

-- ---- the pass

module _ (reading : Reading) (o : Source) (line column : ℕ) where
  shape-sprite : (n : ℕ) (e : Entry) → Shape e → Shape (sprite_step reading o line n column e)
  unfolding sprite_step
  shape-sprite n e shape =
      let s = sprite o.oam n in
      shape_put s.priority (sprite_color reading o line n column) e (priority_bound _) (clean-sprite reading o line n column)
      shape s.objmode

  -- Sprites keep an entry well shaped.
  shape_sprites : (n : ℕ) (e : Entry) → Shape e → Shape (entry_up_to reading o line n column e)
  unfolding entry_up_to
  shape_sprites zero e shape = shape
  shape_sprites (suc n) e shape = shape-sprite n _ (shape_sprites n e shape)

-- The pass keeps a row well shaped.
pub shaped_row-after : (reading : Reading) (o : Source) (line : ℕ) (entries : List ℕ) → shaped_row entries ≡ true
    → shaped_row (put_sprites reading o line entries) ≡ true
shaped_row-after reading o line entries shaped =
    all_below_ext _ 240
    (λ k k<.
    ap well_shaped (cell_at_row_of entry_cells _ 240 k k<)
    ∙ well_shaped_shape _ (shape_sprites reading o line k 128 _ (shape-well_shaped _ (all_below_at _ 240 shaped k k<))))
