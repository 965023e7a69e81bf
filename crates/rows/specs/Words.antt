-- Numbers in cells, the low byte first (01, "What one draw takes and gives": little-endian). Assumes nothing.
-- The topmost byte is written with no remainder, so that the bytes of every number give it back.
use Rattle.std.specs.Prelude.{refl, [], ◌∷◌, ℕ, ◌+◌, ◌*◌, ◌/◌, ◌%◌, get_or}
use Rattle.std.proofs.Common.{arith}
use Rattle.rows.specs.Cells.{Codec}

-- A number in four bytes.
unfoldable pub word_cells : Codec ℕ 4
word_cells =
    record {
      enc = λ n. n % 0x100 ∷ n / 0x100 % 0x100 ∷ n / 0x10000 % 0x100 ∷ n / 0x1000000 ∷ [];
      dec = λ bs. get_or bs 0 0 + 0x100 * get_or bs 1 0 + 0x10000 * get_or bs 2 0 + 0x1000000 * get_or bs 3 0;
      length_enc = λ n. refl;
      dec_enc = λ n. omega arith;
    }
