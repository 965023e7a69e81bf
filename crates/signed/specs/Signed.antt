-- Signed numbers: their words, a reference number's range, rounding, remainder (01, "Numbers a draw may return", "Backgrounds";
-- GBATEK, "LCD I/O BG Rotation/Scaling"). Assumes nothing.
use Rattle.std.specs.Prelude.{ℕ, ◌-◌, ◌%◌, ◌^◌, Bool, false, cond, ◌&&◌, ltb, ℤ, pos, negsuc}
use Rattle.std.proofs.Math.IntN.{sub_ℕ}
use Rattle.std.specs.Int.Signed.{le_z, lt_z, shr_z}

-- A halfword read as signed, 16 bits: from 2^15 on it stands for itself less 2^16.
unfoldable pub signed16 : ℕ → ℤ
signed16 h = cond (ltb h (2 ^ 15)) (pos h) (sub_ℕ h (2 ^ 16))

-- A word read as signed, 32 bits: from 2^31 on it stands for itself less 2^32.
unfoldable pub signed32 : ℕ → ℤ
signed32 w = cond (ltb w (2 ^ 31)) (pos w) (sub_ℕ w (2 ^ 32))

-- A reference number is in range if it is one of -2^28 .. 2^28 - 1.
unfoldable pub in_range : ℤ → Bool
in_range z = le_z (sub_ℕ 0 (2 ^ 28)) z && lt_z z (pos (2 ^ 28))

-- Divided by 256, rounded down.
abbrev pub down256 : ℤ → ℤ
down256 z = shr_z z 256

-- Wrapped by the non-negative remainder; negsuc n is -(n + 1).
unfoldable pub wrapped : ℤ → ℕ → ℕ
wrapped (pos n) m = n % m
wrapped (negsuc n) m = m - 1 - n % m

-- The 32-bit word of a signed number: its non-negative remainder by 2^32.
unfoldable pub word32 : ℤ → ℕ
word32 z = wrapped z (2 ^ 32)

-- Whether a number is one of 0 .. m - 1; negsuc n is -(n + 1).
unfoldable pub within : ℤ → ℕ → Bool
within (pos n) m = ltb n m
within (negsuc n) m = false
