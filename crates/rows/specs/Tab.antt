-- Lists given by their elements: what a colour line is (01, "What must change shape": 240-element arrays). Assumes nothing.
use Rattle.std.specs.Prelude.{List, [], ◌∷◌, ◌++◌, ℕ, zero, suc, get_or}

-- The list of n elements whose element k is f k.
unfoldable pub tab : {A : Type 0} → (ℕ → A) → ℕ → List A
tab f zero = []
tab f (suc n) = tab f n ++ (f n ∷ [])

-- The list of n elements with each element k of l made f k of what it was; d stands for what l lacks.
unfoldable pub map_tab : {A : Type 0} → (ℕ → A → A) → ℕ → A → List A → List A
map_tab f n d l = tab (λ k. f k (get_or l k d)) n
