-- As code has it: the two layers of one column, each with its kind (01, "Windows and blending", its first paragraph).
-- No exported contract reaches this file. Assumes nothing.
use Rattle.std.specs.Prelude.{ℕ, ◌≡◌, cond, List, Option, Some, None}
use Rattle.rgb15.specs.declared.Rgb15.{Rgb15}
use Rattle.regs_window.specs.Windows.{permits}
use Rattle.sfx_sorting.specs.declared.background.Background.{Background}
use Rattle.sfx_layers.specs.Layers.{Layer, Pair, background}
use Rattle.sfx_layers.specs.Code.{line_color, is_seen}
use Rattle.explain_layers.specs.declared.Layer as code
use Rattle.explain_layers.specs.declared.Layers.{Layers}

-- Two layers are those of a pair.
pub record LayersOf (p : Pair) (r : Layers) : Type 0 where
  pub top_kind_is : r.top.kind ≡ p.top.kind
  pub top_priority_is : r.top.priority ≡ p.top.priority
  pub top_color_is : r.top.color.0 ≡ p.top.color
  pub bottom_kind_is : r.bottom.kind ≡ p.bottom.kind
  pub bottom_priority_is : r.bottom.priority ≡ p.bottom.priority
  pub bottom_color_is : r.bottom.color.0 ≡ p.bottom.color

-- A layer as the definitions have it.
abbrev pub as_layer : code.Layer → Layer
as_layer l = record { kind = l.kind; priority = l.priority; color = l.color.0 }

-- Two layers as a pair.
abbrev pub as_pair : Layers → Pair
as_pair r = record { top = as_layer r.top; bottom = as_layer r.bottom }

-- The background of a place over what is behind it, if it is shown: the top that it covers becomes the bottom.
unfoldable pub put_place : List ℕ → ℕ → Option Background → List Rgb15 → Pair → Pair
put_place registers flags None colors behind = behind
put_place registers flags (Some bg) colors behind =
    let color = line_color colors bg.number in
    cond (is_seen (permits flags bg.number) color)
    (record { top = background registers bg.number color; bottom = behind.top })
    behind
