-- Layers, and which are targets of a blend (01, "Windows and blending"; GBATEK, "LCD I/O Color Special Effects").
-- Assumes nothing.
use Rattle.std.specs.Prelude.{ℕ, Bool, [], ◌∷◌, get_or}
use Rattle.bits.specs.Bits.{bit}
use Rattle.regs_blend.specs.declared.layer.RenderLayerKind.{RenderLayerKind}
use Rattle.regs_blend.specs.declared.layer.RenderLayerKind.TheVariants.{
  Background0,
  Background1,
  Background2,
  Background3,
  Objects,
  Backdrop,
}

-- The layer of background 0, 1, 2 or 3.
unfoldable pub background_layer : ℕ → RenderLayerKind
background_layer bg = get_or (Background0 ∷ Background1 ∷ Background2 ∷ Background3 ∷ []) bg Background0

-- A layer's bit among the targets: backgrounds 0 to 3, objects, backdrop (LCD I/O Color Special Effects).
abbrev pub layer_bit : RenderLayerKind → ℕ
layer_bit Background0 = 0
layer_bit Background1 = 1
layer_bit Background2 = 2
layer_bit Background3 = 3
layer_bit Objects = 4
layer_bit Backdrop = 5

-- A layer is a target if its bit is set (LCD I/O Color Special Effects).
abbrev pub targets : ℕ → RenderLayerKind → Bool
targets flags kind = bit (layer_bit kind) flags
