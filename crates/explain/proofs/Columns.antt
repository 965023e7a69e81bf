-- A column's colours and its entry. No contract cites this file. Assumes nothing.
use Prim.Native.Nat.{ℕ, ◌<◌}
use mathlib.Core.Path.{◌≡◌, refl, sym, ap, ◌∙◌}
use mathlib.Core.Bool.{Bool, true, false}
use mathlib.Core.List.{List}
use lib.ListN.{get_or}
use Rattle.rgb15.specs.Colour.{rgb}
use Rattle.rgb15.specs.declared.Rgb15.{Rgb15}
use Rattle.rows.specs.Tab.{tab}
use Rattle.rows.specs.Cells.{cell_at}
use Rattle.rows.proofs.Tab.{get_or-of-tab}
use Rattle.rows.proofs.Cells.{cell_at_row_of}
use Rattle.memory.specs.Palette.{backdrop}
use Rattle.regs.specs.Registers.{dispcnt}
use Rattle.regs.specs.Display.{enable_bg, DisplayControlOf}
use Rattle.regs.specs.declared.DisplayControl.{DisplayControl}
use Rattle.obj_entries.specs.Entry.{entry_cells}
use Rattle.obj_entries.specs.declared.Entry.{Entry}
use Rattle.obj_sprites.specs.Sprite.{source}
use Rattle.obj.specs.Put.{entry_up_to}
use Rattle.sfx_layers.specs.Layers.{backgrounds}
use Rattle.sfx.specs.Pixel.{case_of}
use Rattle.gpu_judge.specs.Code.{call_in}
use Rattle.gpu_judge.specs.declared.Request.{Request}
use Rattle.gpu_judge.proofs.Verdicts.{reading_read}
use Rattle.gpu.specs.Line.{entries_after, color_of}
use Rattle.gpu.specs.Code.{color_if_on}
use Rattle.gpu.proofs.Lines.{backgrounds_on, on_below}
use Rattle.explain.specs.Reason.{case_reason}
use Rattle.explain.specs.Code.{ReasonAt}
use Rattle.explain.specs.declared.Reason.{Reason}

-- A line's colour at a column.
pub color-read : (f : ℕ → Rgb15) (column : ℕ) {row : List Rgb15} → row ≡ tab f 240 → column < 240
    → get_or row column (rgb 0) ≡ f column
color-read f column row_is column< = get_or-of-tab _ 240 column (rgb 0) row_is column<

-- ---- the entry

module _ (r : Request) (entries : List ℕ) (column : ℕ) {d : DisplayControl}
    (d-is : DisplayControlOf (dispcnt r.memory.registers) d) {e : Entry} (e-is : e ≡ cell_at entry_cells entries column) where
  pub entry_on : {left : Entry} → d.enable_obj ≡ true → left ≡ entry_up_to r.reading (source r.memory) r.line 128 column e
      → column < 240 → left ≡ cell_at entry_cells (entries_after (call_in r) entries) column
  unfolding entries_after
  entry_on on left_is column< =
      left_is ∙ rw (e-is, sym d-is.obj_is, on, reading_read r.reading) (sym (cell_at_row_of entry_cells _ 240 column column<))

  pub entry_off : d.enable_obj ≡ false → e ≡ cell_at entry_cells (entries_after (call_in r) entries) column
  unfolding entries_after
  entry_off off = rw (sym d-is.obj_is, off) e-is

-- ---- the reason

module _ (r : Request) (entries : List ℕ) (column : ℕ) {on : List Bool} (on-is : on ≡ enable_bg (dispcnt r.memory.registers))
    {colors : List Rgb15}
    (colors-are : colors ≡ tab (λ bg.
    rgb (color_if_on (get_or on bg false) r.memory.vram r.memory.palette r.memory.registers r.references bg column r.line)) 4) where
  colors_on : (bg : ℕ) → get_or (enable_bg (dispcnt r.memory.registers)) bg false ≡ true
      → (get_or colors bg (rgb 0)).0 ≡ color_of (call_in r) bg column
  unfolding color_if_on
  colors_on bg is =
      ap (λ (a : Rgb15). a.0) (get_or-of-tab _ 4 bg (rgb 0) colors-are (on_below r.memory.registers bg is)) ∙ rw (on-is, is)

  -- The reason of the colours and the entry is that of the column.
  pub reason_at : {reason : Reason} {entry : Entry} → entry ≡ cell_at entry_cells (entries_after (call_in r) entries) column
      → reason
      ≡ case_reason r.reading r.memory.registers
      (case_of r.reading r.memory.registers (backdrop r.memory.palette)
      (backgrounds r.memory.registers (λ bg. (get_or colors bg (rgb 0)).0))
      entry column r.line)
      → ReasonAt (call_in r) entries column reason
  reason_at {entry} entry-is r-is =
      r-is
      ∙ ap
      (λ bgs.
      case_reason r.reading r.memory.registers
      (case_of r.reading r.memory.registers (backdrop r.memory.palette) bgs entry column r.line))
      (backgrounds_on r.memory.registers _ _ colors_on)
      ∙ rw (reading_read r.reading, entry-is) refl
