-- Laws of the columns that a window claims on a line. No contract cites this file. Assumes nothing.
use Prim.Native.Nat.{ℕ, ◌≤◌}
use native.Mathlib.Omega.{arith}
use mathlib.Core.Path.{◌≡◌, refl, sym, ap, ap₂, ◌∙◌}
use mathlib.Core.Bool.{Bool, true, false, ◌&&◌, false≢true}
use lib.Dec.{leb, ltb}
use borrow.Author.Tests.{ltb-false}
use Rattle.rows.specs.Below.{between}
use Rattle.rows.proofs.Below.{between-past}
use Rattle.regs_window.specs.Windows.{window_left, window_right, window_top, window_bottom, WindowOf, right_edge, in_columns, in_rows}
use Rattle.regs_window.specs.declared.Window.{Window}
use Rattle.regs_window.proofs.Laws.{inside_none}
use Rattle.sfx_regions.specs.Code.{ColumnsOf}
use Rattle.sfx_marks.specs.declared.columns.Columns.{Columns}

-- The columns of a test that is the same.
columns_of_cong : {p q : ℕ → Bool} {c : Columns} → ColumnsOf p c → ((k : ℕ) → p k ≡ q k) → ColumnsOf q c
columns_of_cong h e = record { same = λ k. h.same k ∙ e k }

module _ (on : Bool) {t rows : Bool} (near far : ℕ) {l r : ℕ}
    (left_is : l ≡ near) (right_is : (r ≡ right_edge near far) × (r ≤ 240)) (rows_is : t ≡ rows) where
  tested : {b : Bool} → ((on && t) && ltb l r) ≡ b → ((on && rows) && ltb l r) ≡ b
  tested e = sym (ap (λ (s : Bool). (on && s) && ltb l r) rows_is) ∙ e

  columns_some : {c : Columns} → (b : Bool) → c.left ≡ l → c.right ≡ r → (b && ltb l r) ≡ true
      → ColumnsOf (λ k. b && in_columns near far k) c
  unfolding between
  columns_some true from to e =
      record { same = λ k. ap₂ (λ (a b : ℕ). leb a k && ltb k b) (from ∙ left_is) (to ∙ right_is.0) }
  columns_some false from to e = absurd (false≢true e)

  columns_none : (b : Bool) → (b && ltb l r) ≡ false → (k : ℕ) → (b && in_columns near far k) ≡ false
  columns_none true e k =
      let h = ltb-false l r e in
      inside_none 240 near far k (omega (arith, left_is, right_is.0))
  columns_none false e k = refl

  -- A window that is on and whose rows hold the line claims its columns.
  pub claimed_some : {c : Columns} → c.left ≡ l → c.right ≡ r → ((on && t) && ltb l r) ≡ true
      → ColumnsOf (λ k. (on && rows) && in_columns near far k) c
  claimed_some from to taken = columns_some (on && rows) from to (tested taken)

  -- Any other, and one with equal edges, claims none.
  pub claimed_none : {c : Columns} → c.right ≡ 0 → ((on && t) && ltb l r) ≡ false
      → ColumnsOf (λ k. (on && rows) && in_columns near far k) c
  claimed_none {c} to untaken =
      record {
        same = λ k. between-past c.left c.right k (omega (arith, to)) ∙ sym (columns_none (on && rows) (tested untaken) k);
      }

-- The columns that a window claims, by its registers: a window's rows, and the columns of the same or another.
module _ (line : ℕ) {on enable : Bool} {h₀ v₀ flags₀ h₁ v₁ flags₁ : ℕ} {rows columns : Window} (on-is : on ≡ enable)
    (rows_are : WindowOf h₀ v₀ flags₀ rows) (columns-are : WindowOf h₁ v₁ flags₁ columns) where
  pub columns_of_window : {c : Columns}
      → ColumnsOf (λ k. (on && in_rows rows.top rows.bottom line) && in_columns columns.left columns.right k) c
      → ColumnsOf (λ k. (enable && in_rows (window_top v₀) (window_bottom v₀) line) && in_columns (window_left h₁) (window_right h₁) k) c
  columns_of_window p =
      columns_of_cong p (λ k. rw (on-is, rows_are.top_is, rows_are.bottom_is, columns-are.left_is, columns-are.right_is))
