-- Sizes of sprites (01, "Sprites"; GBATEK, "LCD OBJ - OAM Attributes"). Assumes nothing.
use Rattle.std.specs.Prelude.{ℕ, List, [], ◌∷◌, get_or}

-- Width and height, laid out as in the notes: a row for each size, 0 to 3; square, wide, tall, and the prohibited shape,
-- which is always 8x8.
unfoldable pub obj_sizes : List (List (ℕ × ℕ))
obj_sizes =
    ((8, 8) ∷ (16, 8) ∷ (8, 16) ∷ (8, 8) ∷ [])
    ∷ ((16, 16) ∷ (32, 8) ∷ (8, 32) ∷ (8, 8) ∷ [])
    ∷ ((32, 32) ∷ (32, 16) ∷ (16, 32) ∷ (8, 8) ∷ [])
    ∷ ((64, 64) ∷ (64, 32) ∷ (32, 64) ∷ (8, 8) ∷ [])
    ∷ []

-- The cell of a size and a shape.
unfoldable pub obj_size : ℕ → ℕ → ℕ × ℕ
obj_size size shape = get_or (get_or obj_sizes size []) shape (0, 0)

-- The width by (size, shape).
unfoldable pub obj_width : ℕ → ℕ → ℕ
obj_width size shape = (obj_size size shape).0

-- The height by (size, shape).
unfoldable pub obj_height : ℕ → ℕ → ℕ
obj_height size shape = (obj_size size shape).1
