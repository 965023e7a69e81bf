-- Laws of a line on which no layers are blended: a column has the colour that its top alone gives. No contract cites this
-- file. Assumes nothing.
use Prim.Native.Nat.{ℕ, ◌<◌}
use mathlib.Core.Path.{◌≡◌, ap, ◌∙◌}
use mathlib.Core.Bool.{true, false}
use mathlib.Core.List.{List}
use lib.Dec.{eqb}
use lib.ListN.{get_or}
use borrow.Author.Tests.{eqb-true}
use Rattle.bits.specs.Bits.{bits, bit}
use Rattle.rgb15.specs.Colour.{rgb}
use Rattle.rgb15.specs.declared.Rgb15.{Rgb15}
use Rattle.rows.specs.Tab.{tab}
use Rattle.rows.proofs.Below.{all_below_at}
use Rattle.rows.proofs.Tab.{tab_cong}
use Rattle.regs_blend.specs.declared.BlendMode.{BlendMode}
use Rattle.sfx_layers.specs.Code.{semi_bit, Unmarked}
use Rattle.sfx_layers.specs.declared.layer.LineLayers.{LineLayers}
use Rattle.sfx_layers.proofs.Marks.{column_pair_plain}
use Rattle.sfx_effects.specs.Code.{blends}
use Rattle.sfx_effects.specs.declared.weights.Weights.{Weights}
use Rattle.sfx_effects.proofs.Colors.{pair_color-top}
use Rattle.sfx.specs.Code.{is_plain, column_color}
use Rattle.sfx.specs.declared.Rows.{Rows}

module _ {line : LineLayers BlendMode} (unmarked-is : Unmarked line) (other : blends line.mode ≡ false) (w : Weights) (rows : Rows)
    (plain : is_plain rows.tags.now ≡ true) where
  tag_plain : (k : ℕ) → k < 240 → bit semi_bit (get_or rows.tags.now k 0) ≡ false
  tag_plain k k< =
      let none = all_below_at (λ j. eqb (bits semi_bit semi_bit (get_or rows.tags.now j 0)) 0) 240 plain k k< in
      ap (λ n. eqb n 1) (eqb-true (bits semi_bit semi_bit (get_or rows.tags.now k 0)) 0 none)

  color-top : (column : ℕ) → column < 240 → column_color false line w rows column ≡ column_color true line w rows column
  unfolding column_color
  color-top column column< =
      pair_color-top w line.mode _ _ other (column_pair_plain unmarked-is _ _ _ _ (tag_plain column column<))

  -- The row made of the tops alone.
  pub tops_row : {r : List Rgb15} → r ≡ tab (λ column. rgb (column_color false line w rows column)) 240
      → r ≡ tab (λ column. rgb (column_color true line w rows column)) 240
  tops_row r-is = r-is ∙ tab_cong _ _ 240 (λ column column<. ap rgb (color-top column column<))
