-- Laws of colours. No contract cites this file. Assumes nothing.
-- What holds of one word's channels, as red colour ≤ 31, needs no law: `omega` reads it.
use Prim.Native.Nat.{ℕ, ◌+◌, ◌-◌, ◌*◌, ◌^◌, ◌≤◌}
use native.Mathlib.Nat.{mul-add, mul-le-mul_left, mul-le-mul_right}
use native.Mathlib.Omega.{arith}
use mathlib.Core.Path.{◌≡◌, ap, ap₂, ◌∙◌}
use Rattle.bits.specs.Bits.{bits}
use Rattle.rgb15.specs.Colour.{red, green, blue, to_rgb24, from_rgb, blend_channel, blend_with}

-- A colour has these three channels.
pub record Channels (colour r g b : ℕ) : Type 0 where
  pub red_is : red colour ≡ r
  pub green_is : green colour ≡ g
  pub blue_is : blue colour ≡ b

-- A colour has the channels that it was made of.
pub channels-from_rgb : {r g b : ℕ} → r ≤ 31 → g ≤ 31 → b ≤ 31 → Channels (from_rgb r g b) r g b
channels-from_rgb r≤ g≤ b≤ = record { red_is = omega arith; green_is = omega arith; blue_is = omega arith }

pub blend_channel_bound : (a b wa wb : ℕ) → blend_channel a b wa wb ≤ 31
unfolding blend_channel
blend_channel_bound a b wa wb = omega arith

-- ---- a channel blended

-- Channels exchanged together with their weights blend to the same.
pub blend_channel_exchange : (a b wa wb : ℕ) → blend_channel b a wb wa ≡ blend_channel a b wa wb
unfolding blend_channel
blend_channel_exchange a b wa wb = omega arith

-- With weights 16 and 0 the first channel stays.
pub blend_channel_first : (a b : ℕ) → a ≤ 31 → blend_channel a b 16 0 ≡ a
unfolding blend_channel
blend_channel_first a b a≤ = omega arith

-- With weights 0 and 16 the second channel stays.
pub blend_channel_second : (a b : ℕ) → b ≤ 31 → blend_channel a b 0 16 ≡ b
unfolding blend_channel
blend_channel_second a b b≤ = omega arith

-- Under white the weighted sum of a channel rises with evy: of each sixteenth it loses at most 31, and gains 31.
white-sum : (a : ℕ) {evy larger : ℕ} → a ≤ 31 → evy ≤ larger → a * (16 - evy) + 31 * evy ≤ a * (16 - larger) + 31 * larger
white-sum a {evy} {larger} a≤ evy≤ =
    let lost = 16 - evy - (16 - larger) in
    let parts : a * (16 - evy) ≡ a * (16 - larger) + a * lost = ap (λ w. a * w) (omega arith) ∙ mul-add a (16 - larger) lost in
    omega (arith, mul-le-mul_right lost a≤)

-- A larger evy never darkens a channel under white.
pub blend_channel-white : (a : ℕ) {evy larger : ℕ} → a ≤ 31 → evy ≤ larger
    → blend_channel a 31 (16 - evy) evy ≤ blend_channel a 31 (16 - larger) larger
unfolding blend_channel
blend_channel-white a a≤ evy≤ = omega (arith, white-sum a a≤ evy≤)

-- A larger evy never brightens a channel under black.
pub blend_channel-black : (a : ℕ) {evy larger : ℕ} → evy ≤ larger
    → blend_channel a 0 (16 - larger) larger ≤ blend_channel a 0 (16 - evy) evy
unfolding blend_channel
blend_channel-black a {evy} {larger} evy≤ =
    let fewer : a * (16 - larger) ≤ a * (16 - evy) = mul-le-mul_left a (omega arith) in
    omega arith

-- ---- a colour blended

-- The colour that a rule makes of two colours, channel by channel.
by_channel : (ℕ → ℕ → ℕ) → ℕ → ℕ → ℕ
by_channel rule x y = from_rgb (rule (red x) (red y)) (rule (green x) (green y)) (rule (blue x) (blue y))

-- Rules that agree of channels make the same colour.
by_channel_cong : {f g : ℕ → ℕ → ℕ} → ((a b : ℕ) → a ≤ 31 → f a b ≡ g a b) → (x y : ℕ) → by_channel f x y ≡ by_channel g x y
unfolding by_channel
by_channel_cong same x y =
    cc (
      same (red x) (red y) (omega arith),
      same (green x) (green y) (omega arith),
      same (blue x) (blue y) (omega arith),
    )

-- Colours exchanged together with their weights blend to the same.
pub blend_with_exchange : (x y wa wb : ℕ) → blend_with y x wb wa ≡ blend_with x y wa wb
unfolding by_channel blend_with
blend_with_exchange x y wa wb = by_channel_cong (λ a b _. blend_channel_exchange a b wa wb) x y

-- A colour made of another's channels is that colour, bit 15 cleared.
from_rgb_channels : (x : ℕ) → from_rgb (red x) (green x) (blue x) ≡ bits 14 0 x
from_rgb_channels x =
    ap₂ (λ low high. low + high * 2 ^ 10) low high ∙ omega arith
  where
    low : bits 4 0 (red x) + bits 4 0 (green x) * 2 ^ 5 ≡ bits 9 0 x
    low = omega arith

    high : bits 4 0 (blue x) ≡ blue x
    high = omega arith

-- With weights 16 and 0 a blend is what the first colour's channels make.
blend_with_kept : (x y : ℕ) → blend_with x y 16 0 ≡ from_rgb (red x) (green x) (blue x)
unfolding by_channel blend_with
blend_with_kept = by_channel_cong {g = λ a _. a} blend_channel_first

-- With weights 16 and 0 the first colour stays, bit 15 cleared.
pub blend_with_first : (x y : ℕ) → blend_with x y 16 0 ≡ bits 14 0 x
blend_with_first x y = blend_with_kept x y ∙ from_rgb_channels x

-- With weights 0 and 16 the second colour stays, bit 15 cleared: it is the first with both exchanged.
pub blend_with_second : (x y : ℕ) → blend_with x y 0 16 ≡ bits 14 0 y
blend_with_second x y = blend_with_exchange y x 16 0 ∙ blend_with_first y x

-- With weights 16 and 0 the first colour shows.
pub to_rgb24-blend_with_first : (x y : ℕ) → to_rgb24 (blend_with x y 16 0) ≡ to_rgb24 x
to_rgb24-blend_with_first x y =
    let kept = channels-from_rgb {r = red x} {g = green x} {b = blue x} (omega arith) (omega arith) (omega arith) in
    cc (blend_with_kept x y)

-- A blend has each channel blended, and is never transparent.
module _ (x y wa wb : ℕ) where
  pub channels-blend_with : Channels
      (blend_with x y wa wb)
      (blend_channel (red x) (red y) wa wb)
      (blend_channel (green x) (green y) wa wb)
      (blend_channel (blue x) (blue y) wa wb)
  unfolding blend_with
  channels-blend_with =
      channels-from_rgb (blend_channel_bound _ _ _ _) (blend_channel_bound _ _ _ _) (blend_channel_bound _ _ _ _)

-- Toward a colour of equal channels: if no channel is more with one evy than with another, none of the colour's is.
pub blend_with_bound : {t y : ℕ} → Channels y t t t → (e f : ℕ)
    → ((a : ℕ) → a ≤ 31 → blend_channel a t (16 - e) e ≤ blend_channel a t (16 - f) f) → (x : ℕ)
    → (red (blend_with x y (16 - e) e) ≤ red (blend_with x y (16 - f) f))
    × (green (blend_with x y (16 - e) e) ≤ green (blend_with x y (16 - f) f))
    × (blue (blend_with x y (16 - e) e) ≤ blue (blend_with x y (16 - f) f))
blend_with_bound {y = y} grey e f holds x =
    let one = channels-blend_with x y (16 - e) e in
    let other = channels-blend_with x y (16 - f) f in (
      rw (one.red_is, other.red_is, grey.red_is) (holds (red x) (omega arith)),
      rw (one.green_is, other.green_is, grey.green_is) (holds (green x) (omega arith)),
      rw (one.blue_is, other.blue_is, grey.blue_is) (holds (blue x) (omega arith)),
    )
