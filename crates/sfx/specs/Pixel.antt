-- A pixel of the line: which case its column is, and the colour of a case (01, "Windows and blending"; GBATEK, "LCD I/O
-- Window Feature", "LCD I/O Color Special Effects"). Assumes nothing.
use Rattle.std.specs.Prelude.{ℕ, List}
use Rattle.rgb15.specs.Colour.{to_rgb24}
use Rattle.regs.specs.declared.reading.Reading.{Reading}
use Rattle.obj_entries.specs.Entry.{semi_mark, window_mark}
use Rattle.obj_entries.specs.declared.Entry.{Entry}
use Rattle.sfx_regions.specs.Region.{region, permitted}
use Rattle.sfx_regions.specs.declared.WindowType.{WindowType}
use Rattle.sfx_layers.specs.Layers.{Layer, Pair, layers}
use Rattle.sfx_effects.specs.Effects.{Effect, effect, effect_color}

-- The case of a column: its region, its top and bottom layer, and the effect.
pub record Case : Type 0 where
  pub region : WindowType
  pub pair : Pair
  pub effect : Effect

-- The case of a column in a region.
unfoldable pub case_in : List ℕ → WindowType → ℕ → List Layer → Entry → Case
case_in registers at backdrop bgs e =
    let flags = permitted registers at in
    let pair = layers registers flags backdrop bgs e in
    record { region = at; pair = pair; effect = effect registers flags (semi_mark e) pair }

-- The case of a column: by the backdrop's colour, the backgrounds in their order and the column's entry.
unfoldable pub case_of : Reading → List ℕ → ℕ → List Layer → Entry → ℕ → ℕ → Case
case_of reading registers backdrop bgs e column line =
    case_in registers (region reading registers (window_mark e) column line) backdrop bgs e

-- The colour of a case.
unfoldable pub case_color : Reading → List ℕ → Case → ℕ
case_color reading registers c =
    effect_color reading registers c.effect c.pair.top.color c.pair.bottom.color

-- The pixel of a column, as 24 bits.
unfoldable pub pixel : Reading → List ℕ → ℕ → List Layer → Entry → ℕ → ℕ → ℕ
pixel reading registers backdrop bgs e column line =
    to_rgb24 (case_color reading registers (case_of reading registers backdrop bgs e column line))
