-- Laws of the pixels that a sprite puts. No contract cites this file. Assumes nothing.
use Prim.Native.Nat.{ℕ, ◌+◌, ◌-◌, ◌≤◌, ◌<◌}
use native.Mathlib.Omega.{arith}
use mathlib.Core.Path.{◌≡◌, refl, sym, ap, subst, ◌∙◌}
use mathlib.Core.Bool.{Bool, true, false, cond, ◌||◌, or-true}
use mathlib.Core.List.{List}
use mathlib.Core.Logic.{◌⊎◌, inl, inr}
use lib.Dec.{leb, ltb}
use lib.ListN.{length, get_or}
use borrow.Author.Tests.{ltb-true, ltb-false}
use Rattle.rgb15.specs.Colour.{rgb, transparent, is_transparent}
use Rattle.rgb15.specs.declared.Rgb15.{Rgb15}
use Rattle.rows.specs.Below.{between}
use Rattle.rows.specs.Cells.{cell_at, put_cell, only, map_row}
use Rattle.rows.proofs.Below.{between-inside, between_before, between-past}
use Rattle.rows.proofs.Cells.{map_row_ext, map_row_same}
use Rattle.rows.proofs.Passed.{PassedPart, passed-from, passed-inside, passed_to}
use Rattle.obj_entries.specs.Entry.{entry_cells}
use Rattle.obj_entries.specs.declared.Entry.{Entry}
use Rattle.obj_entries.proofs.Entries.{AllBytes, exact-entry_cells}
use Rattle.obj_sprites.specs.declared.attrs.ObjAttrs.{ObjAttrs}
use Rattle.obj_sprites.specs.declared.attrs.ObjMode.{ObjMode}
use Rattle.bits.proofs.Booleans.{cond_both}
use Rattle.obj.specs.Put.{passed_over, shown_by, windowed, written, put_pixel}
use Rattle.obj.specs.Code.{mode_of, put_column, put_row, box_pixel, put_box, Each, Walked, WalkedBack, PassedOver}

-- ---- one pixel

module _ (mode : ObjMode) (priority : ℕ) where
  -- A transparent pixel changes nothing.
  pub put_pixel-transparent : (e : Entry) → put_pixel mode priority transparent e ≡ e
  unfolding put_pixel
  put_pixel-transparent e = rw (or-true (passed_over mode priority e))

  -- A pixel that is passed over changes nothing.
  put_pixel_passed : (color : ℕ) (e : Entry) → passed_over mode priority e ≡ true → put_pixel mode priority color e ≡ e
  unfolding put_pixel
  put_pixel_passed color e t = rw t

-- A pixel of a sprite of mode 3 changes nothing.
pub put_pixel_forbidden : (priority color : ℕ) (e : Entry) → put_pixel ObjMode.Forbidden priority color e ≡ e
unfolding put_pixel passed_over written
put_pixel_forbidden priority color e = cond_both (λ f. f ≡ e) (leb e.priority priority || is_transparent color) refl refl

-- An ordinary or a semi-transparent sprite's pixel is shown, and a window sprite's is marked.
pub put_pixel_shown : (alpha : Bool) (priority color : ℕ) (e : Entry)
    → cond (leb e.priority priority || is_transparent color) e (shown_by alpha priority color e)
    ≡ put_pixel (cond alpha ObjMode.Sfx ObjMode.Normal) priority color e
unfolding put_pixel passed_over written
put_pixel_shown true priority color e = refl
put_pixel_shown false priority color e = refl

pub put_pixel-marked : (priority color : ℕ) (e : Entry)
    → cond (is_transparent color) e (windowed e) ≡ put_pixel ObjMode.Window priority color e
unfolding put_pixel passed_over written
put_pixel-marked priority color e = refl

-- What a pixel is put as, by the tests of its sprite's kind.
pub pixel_marked : (alpha : Bool) (priority color : ℕ) (e : Entry) {clear : Bool} {f : Entry}
    → clear ≡ is_transparent color → f ≡ windowed e → cond clear e f ≡ put_pixel (mode_of true alpha) priority color e
pixel_marked alpha priority color e clear-is f-is = rw (clear-is, f-is) (put_pixel-marked priority color e)

pub pixel_shown : (alpha : Bool) (priority color : ℕ) (e : Entry) {clear : Bool} {f : Entry}
    → clear ≡ is_transparent color → f ≡ shown_by alpha priority color e
    → cond (leb e.priority priority || clear) e f ≡ put_pixel (mode_of false alpha) priority color e
pixel_shown alpha priority color e clear-is f-is = rw (clear-is, f-is) (put_pixel_shown alpha priority color e)

-- An entry that was read, and then kept or put.
pub put_column_is : (mode : ObjMode) (priority color : ℕ) (entries : List ℕ) (column : ℕ) {e : Entry}
    (f : Entry) (kept : Bool) {m : List ℕ}
    → e ≡ cell_at entry_cells entries column → cond kept e f ≡ put_pixel mode priority color e
    → m ≡ put_cell entry_cells entries column (cond kept (cell_at entry_cells entries column) f)
    → m ≡ put_column mode priority color entries column
put_column_is mode priority color entries column f kept e-is put_is m-is =
    m-is ∙ ap (put_cell entry_cells entries column) (subst (λ e. cond kept e f ≡ put_pixel mode priority color e) e-is put_is)

-- ---- a row

-- A row stays where each entry does.
map_row_kept : (f : ℕ → Entry → Entry) (entries : List ℕ) → AllBytes entries
    → ((k : ℕ) → k < 240 → f k (cell_at entry_cells entries k) ≡ cell_at entry_cells entries k)
    → entries ≡ map_row entry_cells f 240 entries
map_row_kept f entries bytes kept = sym (map_row_same entry_cells f 240 entries (λ k k<. exact-entry_cells entries bytes k) kept)

-- A sprite that has no pixel leaves the row.
pub put_row_none : (s : ObjAttrs) (color : ℕ → ℕ) (entries : List ℕ) → AllBytes entries
    → ((k : ℕ) → k < 240 → color k ≡ transparent)
    → entries ≡ put_row s color entries
put_row_none s color entries bytes none =
    map_row_kept _ entries bytes (λ k k<. rw (none k k<) (put_pixel-transparent s.objmode s.priority _))

-- ---- a box's columns

-- Of a box's columns those from start up to k are put.
pub record PutUpTo (mode : ObjMode) (priority : ℕ) (colors : List Rgb15) (left start end : ℕ) (entries : List ℕ)
    (k : ℕ) (l : List ℕ) : Type 0 where
  pub part : PassedPart entry_cells (box_pixel mode priority colors left) 240 start end entries k l

module _ {mode : ObjMode} {priority : ℕ} {colors : List Rgb15} {left start end : ℕ} {entries : List ℕ} where
  pub put_up_to_none : length entries ≡ 960 → start ≤ 240 → AllBytes entries
      → PutUpTo mode priority colors left start end entries start entries
  put_up_to_none size start≤ bytes =
      record { part = passed-from entry_cells size start≤ (λ k k<. exact-entry_cells entries bytes k) }

  pub put_up_to_more : {k : ℕ} {l m : List ℕ} → PutUpTo mode priority colors left start end entries k l
      → k < end → end ≤ 240 → m ≡ put_column mode priority (get_or colors (k + 272 - left) (rgb 0)).0 l k
      → PutUpTo mode priority colors left start end entries (k + 1) m
  put_up_to_more p k< end≤ put_is = record { part = passed-inside entry_cells p.part k< end≤ put_is refl }

  pub put_up_to-all : {k : ℕ} {l : List ℕ} → PutUpTo mode priority colors left start end entries k l → end ≤ k
      → l ≡ put_box mode priority colors left start end entries
  put_up_to-all p end≤ = passed_to entry_cells p.part end≤

-- A sprite of mode 3 leaves the row.
pub put_box_forbidden : (priority : ℕ) (colors : List Rgb15) (left start end : ℕ) (entries : List ℕ) → AllBytes entries
    → entries ≡ put_box ObjMode.Forbidden priority colors left start end entries
put_box_forbidden priority colors left start end entries bytes =
    map_row_kept _ entries bytes
    (λ k k<. cond_both (λ f. f ≡ cell_at entry_cells entries k) (between start end k) (put_pixel_forbidden priority _ _) refl)

-- ---- the columns that a sprite leaves

-- A sprite's colours are transparent outside the columns from start up to end.
abbrev pub NoneOutside : (ℕ → ℕ) → ℕ → ℕ → Type 0
NoneOutside color start end = (k : ℕ) → k < 240 → between start end k ≡ false → color k ≡ transparent

-- A column lies before, between or past two others.
data Lies (a b k : ℕ) : Type 0 where
  before : k < a → Lies a b k
  inside : a ≤ k → k < b → Lies a b k
  past : b ≤ k → Lies a b k

lies : (a b k : ℕ) → Lies a b k
lies a b k = go (ltb k a) (ltb k b) refl refl
  where
    go : (t u : Bool) → ltb k a ≡ t → ltb k b ≡ u → Lies a b k
    go true u t h = before (ltb-true k a t)
    go false true t h = inside (ltb-false k a t) (ltb-true k b h)
    go false false t h = past (ltb-false k b h)

-- A sprite with no pixel outside the columns from start up to end, of which it is passed over from start up to a and from b on.
module _ (s : ObjAttrs) (color : ℕ → ℕ) (entries : List ℕ) {start end a b : ℕ} (none : NoneOutside color start end)
    (first : Walked (PassedOver entries s) start b a) (last : WalkedBack (PassedOver entries s) a end b) where
  -- The entry of a column before a or from b on is kept.
  kept : (k : ℕ) → k < 240 → (k < a) ⊎ (b ≤ k)
      → put_pixel s.objmode s.priority (color k) (cell_at entry_cells entries k) ≡ cell_at entry_cells entries k
  kept k k< closed = go (lies start end k) closed
    where
      go : Lies start end k → (k < a) ⊎ (b ≤ k)
          → put_pixel s.objmode s.priority (color k) (cell_at entry_cells entries k) ≡ cell_at entry_cells entries k
      go (before h) closed = rw (none k k< (between_before start end k h)) (put_pixel-transparent s.objmode s.priority _)
      go (past h) closed = rw (none k k< (between-past start end k h)) (put_pixel-transparent s.objmode s.priority _)
      go (inside from to) (inl k<a) = put_pixel_passed s.objmode s.priority (color k) _ (first.passed k from k<a)
      go (inside from to) (inr k≥b) = put_pixel_passed s.objmode s.priority (color k) _ (last.passed k k≥b to)

  -- Where no column is left between, the row stays.
  pub put_row_closed : AllBytes entries → b ≤ a → entries ≡ put_row s color entries
  put_row_closed bytes b≤a = map_row_kept _ entries bytes (λ k k<. kept k k< (go k (lies a b k)))
    where
      go : (k : ℕ) → Lies a b k → (k < a) ⊎ (b ≤ k)
      go k (before h) = inl h
      go k (inside from to) = absurd (omega arith)
      go k (past h) = inr h

  -- Where the sprite's colours are put in the columns between, all its pixels are put.
  pub put_row_open : (colors : List Rgb15) (left : ℕ) {m : List ℕ} → length entries ≡ 960
      → m ≡ put_box s.objmode s.priority colors left a b entries
      → Each (λ k. (get_or colors (k + 272 - left) (rgb 0)).0 ≡ color k) a b
      → m ≡ put_row s color entries
  put_row_open colors left size put_is same =
      put_is ∙ map_row_ext entry_cells _ _ 240 entries size (λ k k<. go k k< (lies a b k))
    where
      go : (k : ℕ) → k < 240 → Lies a b k
          → only (between a b) (box_pixel s.objmode s.priority colors left) k (cell_at entry_cells entries k)
          ≡ put_pixel s.objmode s.priority (color k) (cell_at entry_cells entries k)
      go k k< (before h) = rw (between_before a b k h) (sym (kept k k< (inl h)))
      go k k< (inside from to) = rw (between-inside a b k from to, same k from to)
      go k k< (past h) = rw (between-past a b k h) (sym (kept k k< (inr h)))
