-- The two layers of a column (01, "Windows and blending", its first paragraph; GBATEK, "LCD I/O BG Control", "LCD I/O Window
-- Feature", "LCD I/O Color Special Effects"). Assumes nothing.
use Rattle.std.specs.Prelude.{ℕ, Bool, true, false, cond, not, ◌&&◌, List, map, leb, get_or}
use Rattle.rgb15.specs.Colour.{is_transparent}
use Rattle.regs.specs.Registers.{dispcnt, bgcnt}
use Rattle.regs.specs.Display.{enable_obj}
use Rattle.regs.specs.Background.{priority}
use Rattle.sfx_sorting.specs.Ordered.{keep, ordered}
use Rattle.regs_window.specs.Windows.{permits, permits_objects}
use Rattle.regs_blend.specs.Layers.{background_layer, layer_bit}
use Rattle.regs_blend.specs.declared.layer.RenderLayerKind.{RenderLayerKind}
use Rattle.regs_blend.specs.declared.layer.RenderLayerKind.TheVariants.{
  Background0,
  Background1,
  Background2,
  Background3,
  Objects,
  Backdrop,
}
use Rattle.obj_entries.specs.declared.Entry.{Entry}

-- A layer at a column: its kind, its priority number and its colour.
pub record Layer : Type 0 where
  pub kind : RenderLayerKind
  pub priority : ℕ
  pub color : ℕ

-- Whether the layer is that of objects.
abbrev pub is_object : RenderLayerKind → Bool
is_object Background0 = false
is_object Background1 = false
is_object Background2 = false
is_object Background3 = false
is_object Objects = true
is_object Backdrop = false

-- A background as a layer, with its colour at the column.
abbrev pub background : List ℕ → ℕ → ℕ → Layer
background registers bg color =
    record { kind = background_layer bg; priority = priority (bgcnt registers bg); color = color }

-- The backgrounds as layers in their order, by the colour of each at the column; one that the mode doesn't have is
-- transparent, so it isn't composed.
abbrev pub backgrounds : List ℕ → (ℕ → ℕ) → List Layer
backgrounds registers color = map (λ bg. background registers bg (color bg)) (ordered registers)

-- The backdrop fills in with priority number 4, after all others.
abbrev pub backdrop_layer : ℕ → Layer
backdrop_layer color = record { kind = Backdrop; priority = 4; color = color }

-- The pixel of the column's entry as a layer.
abbrev pub object_layer : Entry → Layer
object_layer e = record { kind = Objects; priority = e.priority; color = e.color.0 }

-- A background counts if the region's flags permit it and its pixel is opaque. Flags number the backgrounds as targets do
-- (LCD I/O Window Feature, LCD I/O Color Special Effects).
unfoldable pub counts : ℕ → Layer → Bool
counts flags l = permits flags (layer_bit l.kind) && not (is_transparent l.color)

-- Objects count if the flags permit them, sprites are on, and the pixel is opaque.
unfoldable pub object_counts : List ℕ → ℕ → Entry → Bool
object_counts registers flags e =
    (permits_objects flags && enable_obj (dispcnt registers)) && not (is_transparent e.color.0)

-- The two layers that a column's pixel is made of.
pub record Pair : Type 0 where
  pub top : Layer
  pub bottom : Layer

-- The first two backgrounds that count are top and bottom; the backdrop fills in.
unfoldable pub first_two : ℕ → Layer → List Layer → Pair
first_two flags backdrop ls =
    record { top = get_or (keep (counts flags) ls) 0 backdrop; bottom = get_or (keep (counts flags) ls) 1 backdrop }

-- An object pixel goes on top if its priority is at most the top's, else second if at most the bottom's.
unfoldable pub placed : Layer → Pair → Pair
placed object p =
    cond (leb object.priority p.top.priority)
    (record { top = object; bottom = p.top })
    (cond (leb object.priority p.bottom.priority)
    (record { top = p.top; bottom = object })
    p)

-- Top and bottom of a column: by the registers, the region's flags, the backdrop's colour, the backgrounds in their order
-- and the column's entry.
unfoldable pub layers : List ℕ → ℕ → ℕ → List Layer → Entry → Pair
layers registers flags backdrop bgs e =
    let two = first_two flags (backdrop_layer backdrop) bgs in
    cond (object_counts registers flags e) (placed (object_layer e) two) two
