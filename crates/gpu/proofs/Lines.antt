-- Lines of backgrounds and entries, by what tests find. No contract cites this file. Assumes nothing.
use Prim.Native.Nat.{ℕ, zero, suc, ◌<◌}
use native.Mathlib.Omega.{arith}
use mathlib.Core.Path.{◌≡◌, refl, sym, ap, ap₂, ◌∙◌}
use mathlib.Core.Bool.{Bool, true, false, cond, false≢true, and-eq-true_iff}
use mathlib.Core.List.{List, [], ◌∷◌, ◌++◌, map, map-append, replicate}
use lib.ListN.{get_or}
use Rattle.rgb15.specs.Colour.{rgb, transparent}
use Rattle.rgb15.specs.declared.Rgb15.{Rgb15}
use Rattle.rows.specs.Tab.{tab}
use Rattle.rows.specs.Cells.{cell_at, row_of}
use Rattle.rows.specs.Words.{word_cells}
use Rattle.rows.proofs.Cells.{row_of_cong}
use Rattle.rows.proofs.Tab.{get_or-of-tab, tab_replicate}
use Rattle.memory.specs.Memory.{Memory}
use Rattle.memory.specs.Palette.{backdrop}
use Rattle.regs.specs.Registers.{dispcnt}
use Rattle.regs.specs.Display.{enable_bg, DisplayControlOf}
use Rattle.regs.specs.declared.DisplayControl.{DisplayControl}
use Rattle.bg_points.specs.declared.references.References.{References}
use Rattle.bg.specs.Background.{background_color}
use Rattle.obj_entries.specs.Entry.{entry_cells}
use Rattle.obj_sprites.specs.Sprite.{source}
use Rattle.obj.specs.Put.{put_sprites}
use Rattle.sfx_sorting.specs.Ordered.{keep, stands, standing, ordered}
use Rattle.sfx_layers.specs.Layers.{Layer, background, backgrounds}
use Rattle.sfx_layers.specs.Code.{line_color}
use Rattle.sfx.specs.Pixel.{pixel}
use Rattle.gpu_judge.specs.Code.{call_in}
use Rattle.gpu_judge.specs.declared.Request.{Request}
use Rattle.gpu_judge.proofs.Verdicts.{reading_read}
use Rattle.gpu.specs.Line.{entries_after, color_of, pixel_at, line_after}
use Rattle.gpu.specs.Code.{color_if_on}

-- ---- the line of a background

module _ (vram palette registers : List ℕ) (references : References) (bg line : ℕ) {on : Bool} where
  pub line_on : {r : List Rgb15} → on ≡ true
      → r ≡ tab (λ column. rgb (background_color vram palette registers references bg column line)) 240
      → r ≡ tab (λ column. rgb (color_if_on on vram palette registers references bg column line)) 240
  unfolding color_if_on
  line_on is r-is = rw is r-is

  pub line_off : on ≡ false
      → replicate 240 (rgb transparent) ≡ tab (λ column. rgb (color_if_on on vram palette registers references bg column line)) 240
  unfolding color_if_on
  line_off is = rw is (tab_replicate (rgb transparent) 240)

-- ---- the display control

-- The display control read of memory is that of memory that is the same.
pub read_of : {m n : Memory} → m ≡ n → {d : DisplayControl} → DisplayControlOf (dispcnt m.registers) d
    → DisplayControlOf (dispcnt n.registers) d
read_of same read = rw (sym same) read

-- ---- the entries

module _ (r : Request) (entries : List ℕ) {d : DisplayControl} (d-is : DisplayControlOf (dispcnt r.memory.registers) d) where
  pub entries_on : {left : List ℕ} → d.enable_obj ≡ true
      → left ≡ put_sprites r.reading (source r.memory) r.line entries → left ≡ entries_after (call_in r) entries
  unfolding entries_after
  entries_on on left_is = rw (sym d-is.obj_is, on, reading_read r.reading) left_is

  pub entries_off : d.enable_obj ≡ false → entries ≡ entries_after (call_in r) entries
  unfolding entries_after
  entries_off off = rw (sym d-is.obj_is, off)

-- ---- the backgrounds that are on

-- Whether a background is on.
abbrev pub is_on : List ℕ → ℕ → Bool
is_on registers bg = get_or (enable_bg (dispcnt registers)) bg false

-- Two functions that agree on those that the test picks make the same of them.
map-keep : {A B : Type 0} (f g : A → B) (test : A → Bool) → ((a : A) → test a ≡ true → f a ≡ g a)
    → (l : List A) → map f (keep test l) ≡ map g (keep test l)
unfolding keep
map-keep f g test same [] = refl
map-keep {A} f g test same (a ∷ rest) = go (test a) (same a) (map-keep f g test same rest)
  where
    kept : List A
    kept = keep test rest

    go : (t : Bool) → (t ≡ true → f a ≡ g a) → map f kept ≡ map g kept
        → map f (cond t (a ∷ kept) kept) ≡ map g (cond t (a ∷ kept) kept)
    go true first others = ap₂ ◌∷◌ (first refl) others
    go false first others = others

module _ (registers : List ℕ) (f g : ℕ → ℕ) (same : (bg : ℕ) → is_on registers bg ≡ true → f bg ≡ g bg) where
  layer_by : (ℕ → ℕ) → ℕ → Layer
  layer_by color bg = background registers bg (color bg)

  map-standing : (p : ℕ) → map (layer_by f) (standing registers p) ≡ map (layer_by g) (standing registers p)
  unfolding stands layer_by
  map-standing p =
      map-keep (layer_by f) (layer_by g) (stands registers p)
      (λ bg t. ap (background registers bg) (same bg ((and-eq-true_iff (is_on registers bg) _).0 t).0))
      (0 ∷ 1 ∷ 2 ∷ 3 ∷ [])

  map_more : (l : List ℕ) (p : ℕ) → map (layer_by f) l ≡ map (layer_by g) l
      → map (layer_by f) (l ++ standing registers p) ≡ map (layer_by g) (l ++ standing registers p)
  map_more l p l-is =
      map-append (layer_by f) l (standing registers p)
      ∙ ap₂ ◌++◌ l-is (map-standing p)
      ∙ sym (map-append (layer_by g) l (standing registers p))

  -- Only backgrounds that are on stand in the order, so the colours of the others don't matter.
  pub backgrounds_on : backgrounds registers f ≡ backgrounds registers g
  unfolding ordered layer_by
  backgrounds_on =
      let at = standing registers in
      map_more (at 0 ++ at 1 ++ at 2) 3 (map_more (at 0 ++ at 1) 2 (map_more (at 0) 1 (map-standing 0)))

-- Only backgrounds 0 to 3 are on.
pub on_below : (registers : List ℕ) (bg : ℕ) → is_on registers bg ≡ true → bg < 4
on_below registers zero on = omega arith
on_below registers (suc zero) on = omega arith
on_below registers (suc (suc zero)) on = omega arith
on_below registers (suc (suc (suc zero))) on = omega arith
on_below registers (suc (suc (suc (suc bg)))) on = absurd (false≢true on)

-- ---- the line

module _ (r : Request) {on : List Bool} (on-is : on ≡ enable_bg (dispcnt r.memory.registers)) {lines : List (List Rgb15)}
    (lines-are : lines
    ≡ tab (λ bg. tab (λ column.
    rgb (color_if_on (get_or on bg false) r.memory.vram r.memory.palette r.memory.registers r.references bg column r.line)) 240) 4) where
  -- The line of a background that is on, as code draws it by the switches that it read.
  bg_line_on : (column : ℕ) → column < 240 → (bg : ℕ) → is_on r.memory.registers bg ≡ true
      → line_color (get_or lines bg []) column ≡ color_of (call_in r) bg column
  unfolding color_if_on
  bg_line_on column column< bg is =
      ap (λ line. line_color line column) (get_or-of-tab _ 4 bg [] lines-are (on_below r.memory.registers bg is))
      ∙ ap (λ (a : Rgb15). a.0) (get_or-of-tab _ 240 column (rgb 0) refl column<)
      ∙ rw (on-is, is)

  -- The lines, composed, are the line.
  pub line_composed : {left : List ℕ} (entries : List ℕ)
      → left
      ≡ row_of word_cells
      (λ column.
      pixel r.reading r.memory.registers (backdrop r.memory.palette)
      (backgrounds r.memory.registers (λ bg. line_color (get_or lines bg []) column))
      (cell_at entry_cells entries column) column r.line)
      240
      → left ≡ line_after (call_in r) entries
  unfolding line_after pixel_at
  line_composed entries left_is =
      left_is
      ∙ row_of_cong word_cells _ _ 240
      (λ column column<.
      ap
      (λ bgs.
      pixel r.reading r.memory.registers (backdrop r.memory.palette) bgs (cell_at entry_cells entries column) column r.line)
      (backgrounds_on r.memory.registers _ _ (bg_line_on column column<)))
      ∙ rw (reading_read r.reading) refl
