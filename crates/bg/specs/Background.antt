-- Which backgrounds a mode has, and the colour of each (01, "Backgrounds"; GBATEK, "LCD I/O Display Control"). Assumes nothing.
use Rattle.std.specs.Prelude.{ℕ, cond, List, [], ◌∷◌, eqb, ℤ, get_or}
use Rattle.rgb15.specs.Colour.{transparent}
use Rattle.regs.specs.Registers.{dispcnt, bgcnt, hofs, vofs, pa, pc}
use Rattle.regs.specs.Display.{mode, display_frame_select}
use Rattle.bg_regular.specs.Regular.{regular_color}
use Rattle.bg_points.specs.declared.references.References.{References}
use Rattle.bg.specs.Affine.{affine_bg_color}
use Rattle.bg.specs.Bitmap.{bitmap_color}
use Rattle.bg.specs.declared.BgKind.{BgKind}
use Rattle.bg.specs.declared.BgKind.TheVariants.{Regular, Affine, Bitmap, Absent}

-- The reference x of background 2 or 3.
abbrev pub reference_x : References → ℕ → ℤ
reference_x references bg = cond (eqb bg 2) references.x2 references.x3

-- The reference y of background 2 or 3.
abbrev pub reference_y : References → ℕ → ℤ
reference_y references bg = cond (eqb bg 2) references.y2 references.y3

-- Backgrounds 0 to 3 of modes 0 to 5 (LCD I/O Display Control).
abbrev pub bg_kinds : List (List BgKind)
bg_kinds =
    (Regular ∷ Regular ∷ Regular ∷ Regular ∷ [])
    ∷ (Regular ∷ Regular ∷ Affine ∷ Absent ∷ [])
    ∷ (Absent ∷ Absent ∷ Affine ∷ Affine ∷ [])
    ∷ (Absent ∷ Absent ∷ Bitmap ∷ Absent ∷ [])
    ∷ (Absent ∷ Absent ∷ Bitmap ∷ Absent ∷ [])
    ∷ (Absent ∷ Absent ∷ Bitmap ∷ Absent ∷ [])
    ∷ []

-- What a background is in a mode.
unfoldable pub bg_kind : ℕ → ℕ → BgKind
bg_kind mode bg = get_or (get_or bg_kinds mode []) bg Absent

-- The colour of a background of each kind; one that the mode doesn't have is transparent.
unfoldable pub kind_color : BgKind → List ℕ → List ℕ → List ℕ → References → ℕ → ℕ → ℕ → ℕ
kind_color Regular vram palette registers references bg column line =
    regular_color vram palette (bgcnt registers bg) (hofs registers bg) (vofs registers bg) column line
kind_color Affine vram palette registers references bg column line =
    affine_bg_color vram palette (bgcnt registers bg)
    (reference_x references bg) (reference_y references bg) (pa registers bg) (pc registers bg) column
kind_color Bitmap vram palette registers references bg column line =
    bitmap_color vram palette (mode (dispcnt registers)) (display_frame_select (dispcnt registers)) (bgcnt registers bg)
    (reference_x references bg) (reference_y references bg) (pa registers bg) (pc registers bg) column
kind_color Absent vram palette registers references bg column line = transparent

-- The colour of a background at a column and line, by the mode that the registers give.
unfoldable pub background_color : List ℕ → List ℕ → List ℕ → References → ℕ → ℕ → ℕ → ℕ
background_color vram palette registers references bg column line =
    kind_color (bg_kind (mode (dispcnt registers)) bg) vram palette registers references bg column line
