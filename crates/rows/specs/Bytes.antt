-- Bytes of a list from a place on, read and put (01, "What one draw takes and gives"). Assumes nothing.
use Rattle.std.specs.Prelude.{List, [], ◌∷◌, ℕ, zero, suc, ◌+◌, get_or, set}

-- The w bytes of l from place i on.
unfoldable pub bytes_from : ℕ → List ℕ → ℕ → List ℕ
bytes_from zero l i = []
bytes_from (suc w) l i = get_or l i 0 ∷ bytes_from w l (i + 1)

-- The list l with the bytes bs put from place i on.
unfoldable pub put_from : List ℕ → ℕ → List ℕ → List ℕ
put_from l i [] = l
put_from l i (b ∷ bs) = put_from (set l i b) (i + 1) bs
