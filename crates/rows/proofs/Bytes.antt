-- Laws of bytes from a place on. No contract cites this file. Assumes nothing.
use mathlib.Core.Path.{◌≡◌, refl, sym, ap, ◌∙◌}
use mathlib.Core.List.{List, [], ◌∷◌, ◌++◌}
use mathlib.Core.Bool.{Bool, true, false}
use Prim.Native.Nat.{ℕ, zero, suc, ◌+◌, ◌-◌, ◌*◌, ◌≤◌, ◌<◌}
use native.Mathlib.Nat.{add-zero, mul-zero, mul-suc, le_of_suc-le-suc, not-suc-le-zero}
use native.Mathlib.Omega.{arith}
use lib.Dec.{ltb}
use lib.ListN.{length, get_or, set, length-set, get_or-append}
use lib.Seq.{set-get_or, ext_get_or, get_or-set_same, get_or-set_other, get_or-append-add}
use borrow.Author.Tests.{ltb-true, ltb-false}
use Rattle.rows.specs.Bytes.{bytes_from, put_from}

-- ---- bytes put from a place on

pub length-put_from : (l : List ℕ) (i : ℕ) (bs : List ℕ) → length (put_from l i bs) ≡ length l
unfolding put_from
length-put_from l i [] = refl
length-put_from l i (b ∷ bs) = length-put_from (set l i b) (i + 1) bs ∙ length-set l i b

get_or-put_from_before : (l : List ℕ) (i : ℕ) (bs : List ℕ) (r : ℕ) → r < i
    → get_or (put_from l i bs) r 0 ≡ get_or l r 0
unfolding put_from
get_or-put_from_before l i [] r h = refl
get_or-put_from_before l i (b ∷ bs) r h =
    get_or-put_from_before (set l i b) (i + 1) bs r (omega arith)
    ∙ get_or-set_other l i r b 0 (omega arith)

get_or-put_from-past : (l : List ℕ) (i : ℕ) (bs : List ℕ) (r : ℕ) → i + length bs ≤ r
    → get_or (put_from l i bs) r 0 ≡ get_or l r 0
unfolding put_from
get_or-put_from-past l i [] r h = refl
get_or-put_from-past l i (b ∷ bs) r h =
    get_or-put_from-past (set l i b) (i + 1) bs r (omega arith)
    ∙ get_or-set_other l i r b 0 (omega arith)

get_or-put_from_same : (l : List ℕ) (i : ℕ) (bs : List ℕ) (r : ℕ) → i + length bs ≤ length l → r < length bs
    → get_or (put_from l i bs) (i + r) 0 ≡ get_or bs r 0
unfolding put_from
get_or-put_from_same l i [] r h lt = absurd (not-suc-le-zero lt)
get_or-put_from_same l i (b ∷ bs) zero h lt =
    let e : i + 0 ≡ i = omega arith in
    ap (λ (n : ℕ). get_or (put_from (set l i b) (i + 1) bs) n 0) e
    ∙ get_or-put_from_before (set l i b) (i + 1) bs i (omega arith)
    ∙ get_or-set_same l i b 0 (omega arith)
get_or-put_from_same l i (b ∷ bs) (suc r) h lt =
    let e : i + suc r ≡ i + 1 + r = omega arith in
    let fits : i + 1 + length bs ≤ length (set l i b) = omega (arith, length-set l i b) in
    ap (λ (n : ℕ). get_or (put_from (set l i b) (i + 1) bs) n 0) e
    ∙ get_or-put_from_same (set l i b) (i + 1) bs r fits (le_of_suc-le-suc lt)

-- ---- bytes read from a place on

length-bytes_from : (w : ℕ) (l : List ℕ) (i : ℕ) → length (bytes_from w l i) ≡ w
unfolding bytes_from
length-bytes_from zero l i = refl
length-bytes_from (suc w) l i = ap suc (length-bytes_from w l (i + 1))

get_or-bytes_from : (w : ℕ) (l : List ℕ) (i r : ℕ) → r < w → get_or (bytes_from w l i) r 0 ≡ get_or l (i + r) 0
unfolding bytes_from
get_or-bytes_from zero l i r h = absurd (not-suc-le-zero h)
get_or-bytes_from (suc w) l i zero h =
    let e : i ≡ i + 0 = omega arith in ap (λ (n : ℕ). get_or l n 0) e
get_or-bytes_from (suc w) l i (suc r) h =
    let e : i + 1 + r ≡ i + suc r = omega arith in
    get_or-bytes_from w l (i + 1) r (le_of_suc-le-suc h) ∙ ap (λ (n : ℕ). get_or l n 0) e

-- Bytes put where they stand change nothing.
pub put_from_same : (w : ℕ) (l : List ℕ) (i : ℕ) → put_from l i (bytes_from w l i) ≡ l
unfolding put_from bytes_from
put_from_same zero l i = refl
put_from_same (suc w) l i =
    ap (λ (m : List ℕ). put_from m (i + 1) (bytes_from w l (i + 1))) (set-get_or l i 0)
    ∙ put_from_same w l (i + 1)

-- The w bytes from i on are those of a list, if each is; and those of two lists are the same, if each is.
bytes_from_is : (w : ℕ) (l : List ℕ) (i : ℕ) (bs : List ℕ) → length bs ≡ w
    → ((r : ℕ) → r < w → get_or l (i + r) 0 ≡ get_or bs r 0)
    → bytes_from w l i ≡ bs
bytes_from_is w l i bs e h =
    ext_get_or 0 (bytes_from w l i) bs (length-bytes_from w l i ∙ sym e)
    (λ r lt. let k : r < w = omega (arith, length-bytes_from w l i) in get_or-bytes_from w l i r k ∙ h r k)

bytes_from_cong : (w : ℕ) (l m : List ℕ) (i : ℕ)
    → ((r : ℕ) → r < w → get_or l (i + r) 0 ≡ get_or m (i + r) 0)
    → bytes_from w l i ≡ bytes_from w m i
bytes_from_cong w l m i h =
    bytes_from_is w l i (bytes_from w m i) (length-bytes_from w m i)
    (λ r lt. h r lt ∙ sym (get_or-bytes_from w m i r lt))

-- Bytes that are put are read back, and those before and past them are as they were.
pub bytes_from-put_from_same : (w : ℕ) (l : List ℕ) (i : ℕ) (bs : List ℕ) → length bs ≡ w → i + w ≤ length l
    → bytes_from w (put_from l i bs) i ≡ bs
bytes_from-put_from_same w l i bs e h =
    bytes_from_is w (put_from l i bs) i bs e (λ r lt. get_or-put_from_same l i bs r (omega arith) (omega arith))

pub bytes_from-put_from_before : (w : ℕ) (l : List ℕ) (i e : ℕ) (bs : List ℕ) → e + w ≤ i
    → bytes_from w (put_from l i bs) e ≡ bytes_from w l e
bytes_from-put_from_before w l i e bs h =
    bytes_from_cong w (put_from l i bs) l e (λ r lt. get_or-put_from_before l i bs (e + r) (omega arith))

pub bytes_from-put_from-past : (w : ℕ) (l : List ℕ) (i e : ℕ) (bs : List ℕ) → i + length bs ≤ e
    → bytes_from w (put_from l i bs) e ≡ bytes_from w l e
bytes_from-put_from-past w l i e bs h =
    bytes_from_cong w (put_from l i bs) l e (λ r lt. get_or-put_from-past l i bs (e + r) (omega arith))

-- Bytes in the first of two lists, and those of the second.
pub bytes_from-append_first : (w : ℕ) (l m : List ℕ) (i : ℕ) → i + w ≤ length l
    → bytes_from w (l ++ m) i ≡ bytes_from w l i
bytes_from-append_first w l m i h = bytes_from_cong w (l ++ m) l i (λ r lt. get_or-append l m 0 (i + r) (omega arith))

pub bytes_from-append_second : (w : ℕ) (l m : List ℕ) (i : ℕ) → length l ≡ i → length m ≡ w
    → bytes_from w (l ++ m) i ≡ m
bytes_from-append_second w l m i e h =
    bytes_from_is w (l ++ m) i m h
    (λ r lt.
    let s : i + r ≡ length l + r = omega arith in
    ap (λ (n : ℕ). get_or (l ++ m) n 0) s ∙ get_or-append-add l m r 0)

-- Two lists are equal if they are w * n long and the same w bytes at a time.
module _ (w : ℕ) (l m : List ℕ) where
  get_or_same : (n : ℕ) → ((k : ℕ) → k < n → bytes_from w l (w * k) ≡ bytes_from w m (w * k))
      → (i : ℕ) → i < w * n → get_or l i 0 ≡ get_or m i 0
  get_or_same zero h i lt = absurd (omega (arith, mul-zero w))
  get_or_same (suc n) h i lt = go (get_or_same n (λ k p. h k (omega arith)) i) (ltb i (w * n)) refl
    where
      go : (i < w * n → get_or l i 0 ≡ get_or m i 0) → (b : Bool) → ltb i (w * n) ≡ b → get_or l i 0 ≡ get_or m i 0
      go low true t = low (ltb-true i (w * n) t)
      go low false t =
          let p : w * n ≤ i = ltb-false i (w * n) t in
          let r : i - w * n < w = omega (arith, mul-suc w n) in
          let s : i ≡ w * n + (i - w * n) = omega arith in
          ap (λ (j : ℕ). get_or l j 0) s
          ∙ sym (get_or-bytes_from w l (w * n) (i - w * n) r)
          ∙ ap (λ (bs : List ℕ). get_or bs (i - w * n) 0) (h n (omega arith))
          ∙ get_or-bytes_from w m (w * n) (i - w * n) r
          ∙ ap (λ (j : ℕ). get_or m j 0) (sym s)

  pub bytes_from_ext : (n : ℕ) → length l ≡ w * n → length m ≡ w * n
      → ((k : ℕ) → k < n → bytes_from w l (w * k) ≡ bytes_from w m (w * k))
      → l ≡ m
  bytes_from_ext n e u h = ext_get_or 0 l m (e ∙ sym u) (λ i lt. get_or_same n h i (omega arith))

-- ---- as code has them, at places i, i + 1, i + 2, ..

-- The place i + j, as code writes it.
abbrev pub place : ℕ → ℕ → ℕ
place i zero = i
place i (suc j) = i + suc j

-- The w bytes of l from place i + j on; at a width that is written out it computes to get_or l i 0 ∷ get_or l (i + 1) 0 ∷ ..
unfoldable pub bytes_at : ℕ → List ℕ → ℕ → ℕ → List ℕ
bytes_at zero l i j = []
bytes_at (suc w) l i j = get_or l (place i j) 0 ∷ bytes_at w l i (suc j)

-- The list l with bytes put from place i + j on; it computes to set (set l i a) (i + 1) b ..
unfoldable pub put_at : List ℕ → ℕ → ℕ → List ℕ → List ℕ
put_at l i j [] = l
put_at l i j (b ∷ bs) = put_at (set l (place i j) b) i (suc j) bs

place_is : (i j : ℕ) → place i j ≡ i + j
place_is i zero = sym (add-zero i)
place_is i (suc j) = refl

place-suc : (i j : ℕ) → place i j + 1 ≡ place i (suc j)
place-suc i j = omega (arith, place_is i j)

bytes_from_place : (w : ℕ) (l : List ℕ) (i j : ℕ) → bytes_from w l (place i j) ≡ bytes_at w l i j
unfolding bytes_from bytes_at
bytes_from_place zero l i j = refl
bytes_from_place (suc w) l i j =
    ap (λ (bs : List ℕ). get_or l (place i j) 0 ∷ bs) (ap (bytes_from w l) (place-suc i j) ∙ bytes_from_place w l i (suc j))

put_from_place : (l : List ℕ) (i j : ℕ) (bs : List ℕ) → put_from l (place i j) bs ≡ put_at l i j bs
unfolding put_from put_at
put_from_place l i j [] = refl
put_from_place l i j (b ∷ bs) =
    ap (λ (n : ℕ). put_from (set l (place i j) b) n bs) (place-suc i j) ∙ put_from_place (set l (place i j) b) i (suc j) bs

pub bytes_from_at : (w : ℕ) (l : List ℕ) (i : ℕ) → bytes_from w l i ≡ bytes_at w l i 0
bytes_from_at w l i = bytes_from_place w l i 0

pub put_from_at : (l : List ℕ) (i : ℕ) (bs : List ℕ) → put_from l i bs ≡ put_at l i 0 bs
put_from_at l i bs = put_from_place l i 0 bs
