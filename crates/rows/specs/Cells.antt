-- Rows: lists of bytes that hold a value in each w bytes (01, "What one draw takes and gives": 240 of 4 bytes).
-- Assumes nothing.
use Rattle.std.specs.Prelude.{◌≡◌, List, [], ◌++◌, Bool, cond, ℕ, zero, suc, ◌*◌, length}
use Rattle.rows.specs.Bytes.{bytes_from, put_from}

-- How a value of A is written in w bytes, so that the bytes give the value back.
pub record Codec (A : Type 0) (w : ℕ) : Type 0 where
  pub enc : A → List ℕ
  pub dec : List ℕ → A
  pub length_enc : (a : A) → length (enc a) ≡ w
  pub dec_enc : (a : A) → dec (enc a) ≡ a

-- The step f where the test holds of the column, and none elsewhere.
abbrev pub only : {A : Type 0} → (ℕ → Bool) → (ℕ → A → A) → ℕ → A → A
only test f k a = cond (test k) (f k a) a

module _ {A : Type 0} {w : ℕ} (c : Codec A w) where
  -- The value of cell k.
  unfoldable pub cell_at : List ℕ → ℕ → A
  cell_at l k = c.dec (bytes_from w l (w * k))

  -- The row with a put in cell k.
  unfoldable pub put_cell : List ℕ → ℕ → A → List ℕ
  put_cell l k a = put_from l (w * k) (c.enc a)

  -- The row of n cells whose cell k is f k.
  unfoldable pub row_of : (ℕ → A) → ℕ → List ℕ
  row_of f zero = []
  row_of f (suc n) = row_of f n ++ c.enc (f n)

  -- The row with each cell k below n made f k of what it was.
  unfoldable pub map_row : (ℕ → A → A) → ℕ → List ℕ → List ℕ
  map_row f zero l = l
  map_row f (suc n) l = put_cell (map_row f n l) n (f n (cell_at (map_row f n l) n))

  -- The row with each cell k below n made f k, whatever it was.
  abbrev pub put_all : (ℕ → A) → ℕ → List ℕ → List ℕ
  put_all f = map_row (λ k _. f k)

  -- The bytes of cell k are those that its value is written in.
  abbrev pub Exact : List ℕ → ℕ → Type 0
  Exact l k = c.enc (cell_at l k) ≡ bytes_from w l (w * k)
