-- The laws for the blend hold. No contract cites this file. Assumes nothing.
use native.Mathlib.Omega.{arith}
use mathlib.Core.Path.{refl}
use Rattle.rgb15.specs.Colour.{black, white}
use Rattle.rgb15.proofs.Laws.{
  Channels,
  blend_channel_exchange,
  blend_channel_first,
  blend_channel_second,
  blend_channel-white,
  blend_channel-black,
  blend_with_exchange,
  blend_with_first,
  blend_with_second,
  blend_with_bound,
}
use Rattle.sfx_effects.specs.Effects.{fade}
use Rattle.thm_blend.specs.BlendLaws.{BlendLaws}

-- White and black have equal channels.
whites : Channels white 31 31 31
whites = record { red_is = refl; green_is = refl; blue_is = refl }

blacks : Channels black 0 0 0
blacks = record { red_is = refl; green_is = refl; blue_is = refl }

-- The laws for the blend.
pub blend_laws : BlendLaws
unfolding fade
blend_laws =
    record {
      exchange_channels = blend_channel_exchange;
      exchange_colours = blend_with_exchange;
      first_channel = blend_channel_first;
      first_colour = blend_with_first;
      white_channel = λ a. blend_channel_second a 31 (omega arith);
      white_colour = λ x. blend_with_second x white;
      black_channel = λ a. blend_channel_second a 0 (omega arith);
      black_colour = λ x. blend_with_second x black;
      never_darkens_channel = blend_channel-white;
      never_darkens_colour = λ x {evy} {larger} evy≤.
          blend_with_bound whites evy larger (λ a a≤. blend_channel-white a a≤ evy≤) x;
      never_brightens_channel = blend_channel-black;
      never_brightens_colour = λ x {evy} {larger} evy≤.
          blend_with_bound blacks larger evy (λ a _. blend_channel-black a evy≤) x;
    }
