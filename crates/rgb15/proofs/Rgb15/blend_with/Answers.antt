-- rgb15::Rgb15::blend_with meets its contract: its ten calls ask what the search finds, and their results make up blend_with.
-- Assumes nothing.
use Prim.Native.Nat.{ℕ}
use mathlib.Core.Path.{◌≡◌}
use Rattle.rgb15.specs.Colour.{red, green, blue, from_rgb, blend_channel, blend_with}
use Rattle.rgb15.proofs.Rgb15.blend_with.Goals as goal

-- A channel read from each colour, and the two blended.
channel : (x y wa wb : ℕ) {v a b : ℕ} → v ≡ blend_channel a b wa wb → a ≡ x → b ≡ y → v ≡ blend_channel x y wa wb
channel x y wa wb v a b = cc

-- The three channels blended, and the colour made of them.
colour : (x y wa wb : ℕ) {c r g b : ℕ} →
    c ≡ from_rgb r g b →
    r ≡ blend_channel (red x) (red y) wa wb →
    g ≡ blend_channel (green x) (green y) wa wb →
    b ≡ blend_channel (blue x) (blue y) wa wb →
    c ≡ blend_with x y wa wb
unfolding blend_with
colour x y wa wb c r g b = cc

pub returns : goal.returns
returns c = search (channel, colour)
