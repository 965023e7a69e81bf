-- As code has it: the line of each place, and the colour of a column's halfwords (01, "What must change shape").
-- No exported contract reaches this file. Assumes nothing.
use Rattle.std.specs.Prelude.{ℕ, Bool, List, [], ◌∷◌, get_or, Option, Some, None, eqb}
use Rattle.rgb15.specs.declared.Rgb15.{Rgb15}
use Rattle.bits.specs.Bits.{bits, bit}
use Rattle.rgb15.specs.Colour.{rgb}
use Rattle.rows.specs.Below.{all_below}
use Rattle.regs_blend.specs.declared.BlendMode.{BlendMode}
use Rattle.sfx_layers.specs.Code.{semi_bit, effects_bit, column_pair}
use Rattle.sfx_layers.specs.declared.layer.LineLayers.{LineLayers}
use Rattle.sfx_effects.specs.Code.{pair_color}
use Rattle.sfx_effects.specs.declared.weights.Weights.{Weights}
use Rattle.sfx.specs.declared.Rows.{Rows}

-- The line of what a place holds; where it holds none, any serves.
abbrev pub line_in : List (List Rgb15) → Option ℕ → List Rgb15
line_in lines None = get_or lines 0 []
line_in lines (Some bg) = get_or lines bg []

-- Whether no tag of a line has the mark of a semi-transparent object.
abbrev pub is_plain : List ℕ → Bool
is_plain tags = all_below (λ column. eqb (bits semi_bit semi_bit (get_or tags column 0)) 0) 240

-- The colour of each place's line at a column.
abbrev pub colors_at : Rows → ℕ → List Rgb15
colors_at rows column =
    let color : List Rgb15 → Rgb15 = λ line. get_or line column (rgb 0) in
    color rows.first.now ∷ color rows.second.now ∷ color rows.third.now ∷ color rows.fourth.now ∷ []

-- The colour of a column, by its line and the rows that it is composed of; where layers can't be blended, by the top alone.
unfoldable pub column_color : Bool → LineLayers BlendMode → Weights → Rows → ℕ → ℕ
column_color blends line w rows column =
    let region = get_or rows.regions.now column 0 in
    pair_color blends w line.mode (bit effects_bit region)
    (column_pair line region (get_or rows.tags.now column 0) (get_or rows.objects.now column 0) (colors_at rows column))
