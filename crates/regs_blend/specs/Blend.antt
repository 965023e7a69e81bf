-- Blend control and weights, by their words (01, "Windows and blending"; GBATEK, "LCD I/O Color Special Effects").
-- Assumes nothing.
use Rattle.std.specs.Prelude.{ℕ, ◌≡◌, [], ◌∷◌, get_or}
use Rattle.bits.specs.Bits.{bits}
use Rattle.regs_blend.specs.declared.BlendControl.{BlendControl}
use Rattle.regs_blend.specs.declared.BlendAlpha.{BlendAlpha}
use Rattle.regs_blend.specs.declared.BlendMode.{BlendMode}
use Rattle.regs_blend.specs.declared.BlendMode.TheVariants.{BldNone, BldAlpha, BldWhite, BldBlack}

-- The effect of a number: 0 none, 1 blend, 2 white, 3 black (LCD I/O Color Special Effects).
unfoldable pub blend_mode_of : ℕ → BlendMode
blend_mode_of number = get_or (BldNone ∷ BldAlpha ∷ BldWhite ∷ BldBlack ∷ []) number BldNone

-- First targets are bits 0-5 (LCD I/O Color Special Effects).
abbrev pub target1 : ℕ → ℕ
target1 w = bits 5 0 w

-- The effect is bits 6-7 (LCD I/O Color Special Effects).
abbrev pub blend_mode : ℕ → BlendMode
blend_mode w = blend_mode_of (bits 7 6 w)

-- Second targets are bits 8-13 (LCD I/O Color Special Effects).
abbrev pub target2 : ℕ → ℕ
target2 w = bits 13 8 w

-- A blend control is what its word says.
pub record BlendControlOf (w : ℕ) (b : BlendControl) : Type 0 where
  pub target1_is : b.target1.0 ≡ target1 w
  pub mode_is : b.mode ≡ blend_mode w
  pub target2_is : b.target2.0 ≡ target2 w

-- EVA is bits 0-4 (LCD I/O Color Special Effects).
abbrev pub eva : ℕ → ℕ
eva w = bits 4 0 w

-- EVB is bits 8-12 (LCD I/O Color Special Effects).
abbrev pub evb : ℕ → ℕ
evb w = bits 12 8 w

-- The weights of a blend are what their word says.
pub record BlendAlphaOf (w : ℕ) (a : BlendAlpha) : Type 0 where
  pub eva_is : a.eva ≡ eva w
  pub evb_is : a.evb ≡ evb w
