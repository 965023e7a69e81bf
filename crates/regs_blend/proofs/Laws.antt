-- Laws of layers. No contract cites this file. Assumes nothing.
use Prim.Native.Nat.{ℕ, zero, suc, ◌<◌}
use native.Mathlib.Omega.{arith}
use mathlib.Core.Path.{◌≡◌, refl}
use Rattle.regs_blend.specs.Layers.{background_layer, layer_bit}

-- A background's bit is its number.
pub layer_bit-background : (bg : ℕ) → bg < 4 → layer_bit (background_layer bg) ≡ bg
unfolding background_layer
layer_bit-background zero h = refl
layer_bit-background (suc zero) h = refl
layer_bit-background (suc (suc zero)) h = refl
layer_bit-background (suc (suc (suc zero))) h = refl
layer_bit-background (suc (suc (suc (suc bg)))) h = absurd (omega arith)
