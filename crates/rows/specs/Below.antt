-- Tests and sums over the numbers below one, as the columns of a line (01, "Numbers a draw may return": an entry not well
-- shaped; "Windows and blending": how many columns are claimed, and edges of which the right is exclusive). Assumes nothing.
use Rattle.std.specs.Prelude.{Bool, true, ◌&&◌, cond, ℕ, zero, suc, ◌+◌, leb, ltb}

-- Whether the test holds of each number below n.
unfoldable pub all_below : (ℕ → Bool) → ℕ → Bool
all_below test zero = true
all_below test (suc n) = all_below test n && test n

-- The sum of f over the numbers below n.
unfoldable pub tally : (ℕ → ℕ) → ℕ → ℕ
tally f zero = 0
tally f (suc n) = tally f n + f n

-- How many numbers below n the test holds of.
abbrev pub count_below : (ℕ → Bool) → ℕ → ℕ
count_below test = tally (λ k. cond (test k) 1 0)

-- Whether k lies from left on and before right.
unfoldable pub between : ℕ → ℕ → ℕ → Bool
between left right k = leb left k && ltb k right
