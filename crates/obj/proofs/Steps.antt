-- Laws of the pass: a pass for each sprite over all columns is, at each column, a run through the sprites.
-- No contract cites this file. Assumes nothing.
use Prim.Native.Nat.{ℕ, ◌+◌, ◌≤◌, ◌<◌}
use native.Mathlib.Numerals.{add-one}
use mathlib.Core.Logic.{◌⊎◌, inl, inr}
use mathlib.Core.Path.{◌≡◌, refl, sym, ap, ◌∙◌}
use mathlib.Core.Bool.{true, false}
use mathlib.Core.List.{List}
use lib.ListN.{length}
use Rattle.rgb15.specs.Colour.{transparent}
use Rattle.rows.proofs.Cells.{map_row-all, map_row_cong}
use Rattle.rows.proofs.Passed.{Composed, composed_none, composed_more, composed-all}
use Rattle.memory.specs.Memory.{Memory}
use Rattle.regs.specs.declared.ObjMapping.{ObjMapping}
use Rattle.regs.specs.declared.reading.Reading.{Reading}
use Rattle.obj_sprites.specs.Oam.{matrix}
use Rattle.obj_sprites.specs.Attrs.{sprite}
use Rattle.obj_sprites.specs.Color.{normal_color, affine_obj_color}
use Rattle.obj_sprites.specs.Code.{ViewOf, source_of}
use Rattle.obj_sprites.specs.declared.view.View.{View}
use Rattle.obj_sprites.specs.Sprite.{Source, source, drawn, typed_color, sprite_color}
use Rattle.obj_entries.specs.Entry.{entry_cells}
use Rattle.obj.specs.Put.{sprite_step, entry_up_to, put_sprites}
use Rattle.obj.specs.Code.{put_row}
use Rattle.obj_sprites.specs.declared.attrs.ObjAttrs.{ObjAttrs}
use Rattle.obj_sprites.specs.declared.attrs.ObjType.{ObjType}
use Rattle.obj_entries.specs.declared.Entry.{Entry}
use Rattle.obj_entries.proofs.Entries.{AllBytes, exact-entry_cells}
use Rattle.obj.proofs.Pixels.{put_pixel-transparent, put_row_none}

-- The colours of a sprite, by its type, as it was read.
module _ (reading : Reading) (mapping : ObjMapping) (vram palette oam : List ℕ) (s : ObjAttrs) (line : ℕ)
    {read : ObjType} (read-is : read ≡ s.objtype) where
  pub typed_color_hidden : read ≡ ObjType.Hidden
      → typed_color s.objtype reading mapping vram palette oam s line ≡ λ _. transparent
  unfolding typed_color
  typed_color_hidden type_is = rw (sym read-is ∙ type_is)

  pub typed_color_normal : read ≡ ObjType.Normal
      → typed_color s.objtype reading mapping vram palette oam s line ≡ normal_color reading mapping vram palette s line
  unfolding typed_color
  typed_color_normal type_is = rw (sym read-is ∙ type_is)

  -- Both affine types.
  pub typed_color_affine : (read ≡ ObjType.Affine) ⊎ (read ≡ ObjType.AffineDoubleSize)
      → typed_color s.objtype reading mapping vram palette oam s line
      ≡ affine_obj_color reading mapping vram palette (matrix oam s.affine_index) s line
  unfolding typed_color
  typed_color_affine (inl type_is) = rw (sym read-is ∙ type_is)
  typed_color_affine (inr type_is) = rw (sym read-is ∙ type_is)

module _ (reading : Reading) (o : Source) (line n : ℕ) where
  -- A sprite that is not drawn changes nothing.
  pub sprite_step_none : drawn reading o.mapping o.start (sprite o.oam n) line ≡ false
      → (column : ℕ) (e : Entry) → sprite_step reading o line n column e ≡ e
  unfolding sprite_step sprite_color
  sprite_step_none out column e = rw out (put_pixel-transparent _ _ e)

  module _ (entries : List ℕ) {s : ObjAttrs} (s-is : s ≡ sprite o.oam n) where
    -- One that was read, and isn't drawn, leaves the row.
    pub put_row_passed : AllBytes entries → drawn reading o.mapping o.start s line ≡ false
        → entries ≡ put_row (sprite o.oam n) (sprite_color reading o line n) entries
    unfolding sprite_color
    put_row_passed bytes out =
        put_row_none (sprite o.oam n) (sprite_color reading o line n) entries bytes (λ k k<. rw (sym s-is, out))

    -- One that is drawn puts its colours.
    pub put_row-drawn : {m : List ℕ} → drawn reading o.mapping o.start s line ≡ true
        → m ≡ put_row s (typed_color s.objtype reading o.mapping o.vram o.palette o.oam s line) entries
        → m ≡ put_row (sprite o.oam n) (sprite_color reading o line n) entries
    unfolding sprite_color
    put_row-drawn d put_is = rw (sym s-is) (put_is ∙ map_row_cong entry_cells _ _ 240 entries (λ k k< e. rw d))

module _ (reading : Reading) (o : Source) (line : ℕ) where
  pub entry_up_to_none : (column : ℕ) (e : Entry) → entry_up_to reading o line 0 column e ≡ e
  unfolding entry_up_to
  entry_up_to_none column e = refl

  pub entry_up_to_more : (n column : ℕ) (e : Entry)
      → sprite_step reading o line n column (entry_up_to reading o line n column e) ≡ entry_up_to reading o line (n + 1) column e
  unfolding entry_up_to
  entry_up_to_more n column e = ap (λ k. entry_up_to reading o line k column e) (sym (add-one n))

  -- What the sprites before number n made of each column.
  pub record SpritesUpTo (l₀ : List ℕ) (n : ℕ) (l : List ℕ) : Type 0 where
    pub composed : Composed entry_cells (entry_up_to reading o line) 240 128 l₀ n l

  pub sprites_none : {l : List ℕ} → length l ≡ 960 → AllBytes l → SpritesUpTo l 0 l
  sprites_none {l} size bytes =
      record { composed = composed_none entry_cells size (λ k k<. exact-entry_cells l bytes k) entry_up_to_none }

  -- A turn.
  pub sprites_more : {n : ℕ} {l₀ l m : List ℕ} → SpritesUpTo l₀ n l → n < 128
      → m ≡ put_row (sprite o.oam n) (sprite_color reading o line n) l
      → SpritesUpTo l₀ (n + 1) m
  unfolding sprite_step
  sprites_more {n} p n< put_is =
      record {
        composed =
            composed_more entry_cells (sprite_step reading o line n) p.composed n< put_is (λ k k< e. entry_up_to_more n k e);
      }

-- The view of a line has the source of the lent memory.
pub source_is : (m : Memory) {registers : List ℕ} {reading : Reading} {line : ℕ} {v : View}
    → registers ≡ m.registers → ViewOf registers reading line v → source_of m v ≡ source m
source_is m registers_is view = cc (registers_is, view.mapping_is, view.start_is)

-- Where the pass ends: what it made of each column is the row after it.
pub sprites-all : (reading : Reading) {o p : Source} (line : ℕ) {n : ℕ} {l₀ l : List ℕ} → SpritesUpTo reading o line l₀ n l
    → 128 ≤ n → length l₀ ≡ 960 → o ≡ p
    → l ≡ put_sprites reading p line l₀
sprites-all reading {o} line {l₀ = l₀} p n≥ size o_is =
    composed-all entry_cells p.composed n≥
    ∙ map_row-all entry_cells (entry_up_to reading o line 128) 240 l₀ size
    ∙ ap (λ o. put_sprites reading o line l₀) o_is
