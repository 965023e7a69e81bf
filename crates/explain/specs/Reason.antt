-- A reason, in numbers (02, W-202; 01, "Windows and blending"; GBATEK, "LCD I/O Window Feature", "LCD I/O Color Special
-- Effects"). Assumes nothing.
use Rattle.std.specs.Prelude.{ℕ, List}
use Rattle.rgb15.specs.Colour.{to_rgb24}
use Rattle.regs.specs.declared.reading.Reading.{Reading}
use Rattle.regs_blend.specs.Layers.{layer_bit}
use Rattle.sfx_regions.specs.declared.WindowType.{WindowType}
use Rattle.sfx_regions.specs.declared.WindowType.TheVariants.{Win0, Win1, WinObj, WinOut, WinNone}
use Rattle.sfx.specs.Pixel.{Case, case_color}
use Rattle.explain_effects.specs.Weights.{effect_number, first_weight, second_weight}
use Rattle.explain.specs.declared.Reason.{Reason}

-- 0 no windows, 1 window 0, 2 window 1, 3 object window, 4 outside.
abbrev pub region_number : WindowType → ℕ
region_number WinNone = 0
region_number Win0 = 1
region_number Win1 = 2
region_number WinObj = 3
region_number WinOut = 4

-- A refusal has its number, and 0 in every other field.
abbrev pub refused_reason : ℕ → Reason
refused_reason number =
    record {
      number = number;
      blank = 0;
      region = 0;
      top = 0;
      bottom = 0;
      effect = 0;
      top_color = 0;
      bottom_color = 0;
      first_weight = 0;
      second_weight = 0;
      pixel = 0;
    }

-- Under forced blank no layer is named: top and bottom are 6, and the pixel is 0xf8f8f8.
abbrev pub blank_reason : Reason
blank_reason =
    record {
      number = 0;
      blank = 1;
      region = 0;
      top = 6;
      bottom = 6;
      effect = 0;
      top_color = 0;
      bottom_color = 0;
      first_weight = 0;
      second_weight = 0;
      pixel = 0xf8f8f8;
    }

-- The reason of a case: layers are numbered by their bits in BLDCNT, and the effect is named by its case, not by what it
-- changes. The pixel is the one that is drawn.
unfoldable pub case_reason : Reading → List ℕ → Case → Reason
case_reason reading registers k =
    record {
      number = 0;
      blank = 0;
      region = region_number k.region;
      top = layer_bit k.pair.top.kind;
      bottom = layer_bit k.pair.bottom.kind;
      effect = effect_number k.effect;
      top_color = k.pair.top.color;
      bottom_color = k.pair.bottom.color;
      first_weight = first_weight reading registers k.effect;
      second_weight = second_weight reading registers k.effect;
      pixel = to_rgb24 (case_color reading registers k);
    }
