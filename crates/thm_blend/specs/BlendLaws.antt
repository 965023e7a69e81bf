-- Laws for the blend, for who reorders effects (02, W-201; GBATEK, "LCD I/O Color Special Effects"). They are of the channel
-- rule and the colour rule that a draw follows, and hold of all numbers, so of every 16-bit colour, of weights 0 to 31 and of
-- evy 0 to 16. Assumes nothing.
use Rattle.std.specs.Prelude.{ℕ, ◌-◌, ◌≤◌, ◌≡◌}
use Rattle.bits.specs.Bits.{bits}
use Rattle.rgb15.specs.Colour.{red, green, blue, black, white, blend_channel, blend_with}
use Rattle.sfx_effects.specs.Effects.{fade}

-- White and black use weights 16 - evy and evy: of a channel, toward 31 and toward 0.
abbrev pub fade_channel : ℕ → ℕ → ℕ → ℕ
fade_channel evy a toward = blend_channel a toward (16 - evy) evy

-- No channel of the second colour is darker than that of the first.
abbrev pub NoDarker : ℕ → ℕ → Type 0
NoDarker x y = (red x ≤ red y) × (green x ≤ green y) × (blue x ≤ blue y)

-- Each law, of channels and of colours.
pub record BlendLaws : Type 0 where
  -- Exchanging both colours together with both weights changes nothing.
  pub exchange_channels : (a b wa wb : ℕ) → blend_channel b a wb wa ≡ blend_channel a b wa wb
  pub exchange_colours : (x y wa wb : ℕ) → blend_with y x wb wa ≡ blend_with x y wa wb
  -- Weights 16 and 0 give the first colour back with bit 15 cleared.
  pub first_channel : (a b : ℕ) → a ≤ 31 → blend_channel a b 16 0 ≡ a
  pub first_colour : (x y : ℕ) → blend_with x y 16 0 ≡ bits 14 0 x
  -- White with evy 16 is white and black with evy 16 is black.
  pub white_channel : (a : ℕ) → fade_channel 16 a 31 ≡ 31
  pub white_colour : (x : ℕ) → fade 16 x white ≡ white
  pub black_channel : (a : ℕ) → fade_channel 16 a 0 ≡ 0
  pub black_colour : (x : ℕ) → fade 16 x black ≡ black
  -- A larger evy never darkens under white nor brightens under black.
  pub never_darkens_channel : (a : ℕ) {evy larger : ℕ} → a ≤ 31 → evy ≤ larger → fade_channel evy a 31 ≤ fade_channel larger a 31
  pub never_darkens_colour : (x : ℕ) {evy larger : ℕ} → evy ≤ larger → NoDarker (fade evy x white) (fade larger x white)
  pub never_brightens_channel : (a : ℕ) {evy larger : ℕ} → evy ≤ larger → fade_channel larger a 0 ≤ fade_channel evy a 0
  pub never_brightens_colour : (x : ℕ) {evy larger : ℕ} → evy ≤ larger → NoDarker (fade larger x black) (fade evy x black)
