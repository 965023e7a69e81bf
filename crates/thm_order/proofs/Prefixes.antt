-- Draws after draws leave and put what the later do on the row that the earlier left. No contract cites this file. Assumes
-- nothing.
use Prim.Native.Nat.{ℕ, suc, ◌+◌}
use native.Mathlib.Nat.{add-zero}
use native.Mathlib.Omega.{arith}
use mathlib.Core.Path.{◌≡◌, refl, sym, ap, ◌∙◌}
use mathlib.Core.Bool.{cond, ◌&&◌, ◌||◌, or_assoc}
use mathlib.Core.List.{List, [], ◌∷◌, ◌++◌, append_assoc}
use lib.ListN.{length}
use Rattle.obj.specs.Order.{Pixel, pixels_up_to, window_up_to}
use Rattle.thm_order.specs.Draws.{Attempt, row_left, row_after, puts_pixels, sprites_of, pixels_put, window_put, AfterEach}

row_after-append : (xs ys : List Attempt) (row : List ℕ) → row_after (xs ++ ys) row ≡ row_after ys (row_after xs row)
unfolding row_after
row_after-append [] ys row = refl
row_after-append (a ∷ xs) ys row = row_after-append xs ys (row_left a row)

module _ (ys : List Attempt) (column : ℕ) where
  pixels_put-append : (i : ℕ) (xs : List Attempt) (row : List ℕ)
      → pixels_put i (xs ++ ys) row column
      ≡ pixels_put i xs row column ++ pixels_put (i + length xs) ys (row_after xs row) column
  unfolding pixels_put row_after
  pixels_put-append i [] row = ap (λ n. pixels_put n ys row column) (sym (add-zero i))
  pixels_put-append i (a ∷ xs) row =
      let first : List Pixel = cond (puts_pixels a row) (pixels_up_to i (sprites_of a) 128 column) [] in
      let next = row_left a row in
      let on : suc i + length xs ≡ i + length (a ∷ xs) = omega arith in
      ap (λ ps. first ++ ps) (pixels_put-append (suc i) xs next)
      ∙ sym (append_assoc first (pixels_put (suc i) xs next column) _)
      ∙ ap (λ n. first ++ pixels_put (suc i) xs next column ++ pixels_put n ys (row_after xs next) column) on

  window_put-append : (xs : List Attempt) (row : List ℕ)
      → window_put (xs ++ ys) row column ≡ (window_put xs row column || window_put ys (row_after xs row) column)
  unfolding window_put row_after
  window_put-append [] row = refl
  window_put-append (a ∷ xs) row =
      let first = puts_pixels a row && window_up_to (sprites_of a) 128 column in
      ap (λ t. first || t) (window_put-append xs (row_left a row))
      ∙ sym (or_assoc first (window_put xs (row_left a row) column) _)

pub after_each : (earlier later : List Attempt) (row : List ℕ) → AfterEach earlier later row
after_each earlier later row =
    record {
      row_is = row_after-append earlier later row;
      pixels_are = λ i column. pixels_put-append later column i earlier row;
      window_is = λ column. window_put-append later column earlier row;
    }
