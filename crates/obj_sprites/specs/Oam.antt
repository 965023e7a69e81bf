-- What OAM holds; nothing else reads it (01, "Sprites"; GBATEK, "LCD OBJ - OAM Attributes", "LCD OBJ - OAM
-- Rotation/Scaling Parameters"). Assumes nothing.
use Rattle.std.specs.Prelude.{ℕ, ◌+◌, ◌*◌, List, ℤ}
use Rattle.memory.specs.Memory.{half}
use Rattle.signed.specs.Signed.{signed16}

-- OAM has 128 sprites (LCD OBJ - OAM Attributes).
abbrev pub obj_count : ℕ
obj_count = 128

-- A sprite's three halfwords.
pub record Attributes : Type 0 where
  pub first : ℕ
  pub second : ℕ
  pub third : ℕ

-- Sprite n's three halfwords lie at 8n (LCD OBJ - OAM Attributes).
unfoldable pub attributes : List ℕ → ℕ → Attributes
attributes oam n =
    record { first = half oam (8 * n); second = half oam (8 * n + 2); third = half oam (8 * n + 4) }

-- A matrix's four numbers.
pub record Matrix : Type 0 where
  pub pa : ℤ
  pub pb : ℤ
  pub pc : ℤ
  pub pd : ℤ

-- Matrix n's four numbers, signed, lie at OAM 6 + 32n, then every 8 bytes (LCD OBJ - OAM Rotation/Scaling Parameters).
unfoldable pub matrix : List ℕ → ℕ → Matrix
matrix oam n =
    record {
      pa = signed16 (half oam (6 + 32 * n));
      pb = signed16 (half oam (6 + 32 * n + 8));
      pc = signed16 (half oam (6 + 32 * n + 16));
      pd = signed16 (half oam (6 + 32 * n + 24));
    }
