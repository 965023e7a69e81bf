-- Bit fields of a word, as document 01 and GBATEK number them in every section. Assumes nothing.
-- Each is an `abbrev`, and 2 ^ n computes at a numeral: `omega` and `search` read bits 15 12 w as w / 0x1000 % 16.
use Rattle.std.specs.Prelude.{ℕ, ◌+◌, ◌-◌, ◌*◌, ◌/◌, ◌%◌, ◌^◌, Bool, cond, eqb}

-- Bits high to low of w, as a number: bits 15 12 entry is the bank.
abbrev pub bits : ℕ → ℕ → ℕ → ℕ
bits high low w = w / 2 ^ low % 2 ^ (high - low + 1)

-- Whether bit n of w is set, as the code's w / 0x80 % 2 == 1 of bit 7 (and w / 0x1 % 2 == 1 of bit 0).
abbrev pub bit : ℕ → ℕ → Bool
bit n w = eqb (bits n n w) 1

-- The word w with bit n set or cleared, and all others as they were.
abbrev pub put_bit : ℕ → Bool → ℕ → ℕ
put_bit n set w = w / 2 ^ (n + 1) * 2 ^ (n + 1) + cond set (2 ^ n) 0 + w % 2 ^ n
