-- As code has it: coordinates larger by 0x1e0000, so that none is below 0, and what they are computed from (01, "Backgrounds").
-- No exported contract reaches this file. Assumes nothing.
use Rattle.std.specs.Prelude.{ℕ, ◌%◌, ◌<◌, ◌≡◌, ℤ}
use Rattle.std.proofs.Math.IntN.{sub_ℕ}

-- The coordinate that a number stands for.
abbrev pub coordinate : ℕ → ℤ
coordinate q = sub_ℕ q 0x1e0000

-- A side that 0x1e0000 is a multiple of: the remainder of a number is then that of its coordinate.
abbrev pub Side : ℕ → Type 0
Side side = (0 < side) × (0x1e0000 % side ≡ 0)
