-- Laws of bytes put twice, and of a byte where two are put. No contract cites this file. Assumes nothing.
use Prim.Native.Nat.{ℕ, zero, suc, ◌+◌, ◌%◌, ◌≤◌, ◌<◌}
use native.Mathlib.Nat.{add-zero}
use native.Mathlib.Omega.{arith}
use mathlib.Core.Path.{◌≡◌, refl, sym, ap, ◌∙◌}
use mathlib.Core.Bool.{Bool, true, false}
use mathlib.Core.List.{List, [], ◌∷◌}
use mathlib.Core.Logic.{◌≢◌}
use lib.Dec.{ltb}
use lib.ListN.{length, set}
use lib.Seq.{set-set, set_comm}
use borrow.Author.Tests.{ltb-true, ltb-false}
use Rattle.rows.specs.Bytes.{bytes_from, put_from}
use Rattle.rows.proofs.Bytes.{bytes_from-put_from_same, bytes_from-put_from_before, bytes_from-put_from-past}
use Rattle.memory.specs.Memory.{byte}
use Rattle.gpu_pages.specs.Places.{even}

-- A byte set before others that are put.
set-put_from : (l : List ℕ) (i j b : ℕ) (bs : List ℕ) → i < j → set (put_from l j bs) i b ≡ put_from (set l i b) j bs
unfolding put_from
set-put_from l i j b [] h = refl
set-put_from l i j b (c ∷ bs) h =
    set-put_from (set l j c) i (j + 1) b bs (omega arith)
    ∙ ap (λ (m : List ℕ). put_from m (j + 1) bs) (set_comm l j i c b (omega arith))

-- Of as many bytes put at one place the last stand.
pub put_from_again : (l : List ℕ) (i : ℕ) (bs cs : List ℕ) → length bs ≡ length cs
    → put_from (put_from l i bs) i cs ≡ put_from l i cs
unfolding put_from
put_from_again l i [] [] e = refl
put_from_again l i [] (c ∷ cs) e = absurd (omega arith)
put_from_again l i (b ∷ bs) [] e = absurd (omega arith)
put_from_again l i (b ∷ bs) (c ∷ cs) e =
    ap (λ (m : List ℕ). put_from m (i + 1) cs)
    (set-put_from (set l i b) i (i + 1) c bs (omega arith) ∙ ap (λ (m : List ℕ). put_from m (i + 1) bs) (set-set l i b c))
    ∙ put_from_again (set l i c) (i + 1) bs cs (omega arith)

-- Bytes put at places that don't meet may be put in either order.
pub put_from_comm : (l : List ℕ) (i j : ℕ) (bs cs : List ℕ) → i + length bs ≤ j
    → put_from (put_from l i bs) j cs ≡ put_from (put_from l j cs) i bs
unfolding put_from
put_from_comm l i j [] cs h = refl
put_from_comm l i j (b ∷ bs) cs h =
    put_from_comm (set l i b) (i + 1) j bs cs (omega arith)
    ∙ ap (λ (m : List ℕ). put_from m (i + 1) bs) (sym (set-put_from l i j b cs (omega arith)))

-- ---- two bytes at an even offset

module _ (l : List ℕ) (i : ℕ) (bs : List ℕ) (two : length bs ≡ 2) where
  pub byte_put_same : (r : ℕ) → r < 2 → i + 2 ≤ length l → byte (put_from l i bs) (i + r) ≡ byte bs r
  unfolding bytes_from
  byte_put_same zero h fits =
      ap (byte (put_from l i bs)) (add-zero i) ∙ ap (λ (m : List ℕ). byte m 0) (bytes_from-put_from_same 2 l i bs two fits)
  byte_put_same (suc zero) h fits = ap (λ (m : List ℕ). byte m 1) (bytes_from-put_from_same 2 l i bs two fits)
  byte_put_same (suc (suc r)) h fits = absurd (omega arith)

  pub byte_put-other : (x : ℕ) → i % 2 ≡ 0 → even x ≢ i → byte (put_from l i bs) x ≡ byte l x
  unfolding bytes_from
  byte_put-other x whole n = go (ltb x i) refl
    where
      go : (t : Bool) → ltb x i ≡ t → byte (put_from l i bs) x ≡ byte l x
      go true t =
          let h : x < i = ltb-true x i t in
          ap (λ (m : List ℕ). byte m 0) (bytes_from-put_from_before 1 l i x bs (omega arith))
      go false t =
          let h : i ≤ x = ltb-false x i t in
          ap (λ (m : List ℕ). byte m 0) (bytes_from-put_from-past 1 l i x bs (omega arith))
