-- Laws of lists: those that a test picks, and numbers that rise by a key. No contract cites this file. Assumes nothing.
use Prim.Native.Nat.{ℕ, suc, ◌≤◌, ◌<◌}
use native.Mathlib.Nat.{le_trans}
use native.Mathlib.Omega.{arith}
use mathlib.Core.Path.{◌≡◌, refl, sym, ap, ◌∙◌}
use mathlib.Core.Bool.{Bool, true, false, cond}
use mathlib.Core.List.{List, [], ◌∷◌, ◌++◌, map}
use mathlib.Core.List.Memᴰ
use mathlib.Core.List.{Memᴰ}
use mathlib.Core.Logic.{◌⊎◌, inl, inr, ⊎_elim}
use Rattle.sfx_sorting.specs.Ordered.{keep}

-- ---- those that a test picks

-- Keeping after a map is mapping what is kept.
pub keep-map : {A B : Type 0} (test : B → Bool) (f : A → B) (l : List A)
    → keep test (map f l) ≡ map f (keep (λ a. test (f a)) l)
unfolding keep
keep-map test f [] = refl
keep-map {A} {B} test f (a ∷ l) = go (test (f a)) (keep-map test f l)
  where
    kept : List A
    kept = keep (λ b. test (f b)) l

    go : (t : Bool) {rest : List B} → rest ≡ map f kept → cond t (f a ∷ rest) rest ≡ map f (cond t (a ∷ kept) kept)
    go true e = ap (λ r. f a ∷ r) e
    go false e = e

module _ (test : ℕ → Bool) {m : ℕ} where
  -- A member of which the test holds is kept.
  pub member-keep : {l : List ℕ} → test m ≡ true → Memᴰ m l → Memᴰ m (keep test l)
  unfolding keep
  member-keep holds (Memᴰ.head e) = rw (sym (ap test e) ∙ holds) (Memᴰ.head e)
  member-keep holds (Memᴰ.tail {x = a} {xs = l} at) = go (test a) (member-keep holds at)
    where
      go : (t : Bool) → Memᴰ m (keep test l) → Memᴰ m (cond t (a ∷ keep test l) (keep test l))
      go true kept = Memᴰ.tail kept
      go false kept = kept

  -- What is kept is a member of which the test holds.
  pub kept_member : (l : List ℕ) → Memᴰ m (keep test l) → (test m ≡ true) × Memᴰ m l
  unfolding keep
  kept_member [] at = absurd (Memᴰ.not-nil at)
  kept_member (a ∷ l) at = go (test a) refl (kept_member l) at
    where
      go : (t : Bool) → test a ≡ t → (Memᴰ m (keep test l) → (test m ≡ true) × Memᴰ m l)
          → Memᴰ m (cond t (a ∷ keep test l) (keep test l))
          → (test m ≡ true) × Memᴰ m (a ∷ l)
      go true t below at =
          ⊎_elim
          (λ e. (ap test e ∙ t, Memᴰ.head e))
          (λ later. ((below later).0, Memᴰ.tail (below later).1))
          (Memᴰ.cases_cons at)
      go false t below at = ((below at).0, Memᴰ.tail (below at).1)

-- ---- numbers that rise by a key

-- The keys of a list's numbers rise from the low bound, each above the one before, and stay below the high one.
pub data Rises (key : ℕ → ℕ) (high : ℕ) : ℕ → List ℕ → Type 0 where
  ends : {low : ℕ} → low ≤ high → Rises key high low []
  goes : {low a : ℕ} {l : List ℕ} → low ≤ key a → Rises key high (suc (key a)) l → Rises key high low (a ∷ l)

module _ {key : ℕ → ℕ} {high : ℕ} where
  pub rises_bound : {low : ℕ} {l : List ℕ} → Rises key high low l → low ≤ high
  rises_bound (ends h) = h
  rises_bound (goes h r) = omega (arith, rises_bound r)

  -- From a lower bound they rise as well.
  pub rises-lower : {lower low : ℕ} {l : List ℕ} → lower ≤ low → Rises key high low l → Rises key high lower l
  rises-lower h (ends u) = ends (le_trans h u)
  rises-lower h (goes u r) = goes (le_trans h u) r

  pub rises-append : {middle low : ℕ} {l m : List ℕ} → Rises key middle low l → Rises key high middle m
      → Rises key high low (l ++ m)
  rises-append (ends h) s = rises-lower h s
  rises-append (goes h r) s = goes h (rises-append r s)

  pub rises-keep : (test : ℕ → Bool) {low : ℕ} {l : List ℕ} → Rises key high low l → Rises key high low (keep test l)
  unfolding keep
  rises-keep test (ends h) = ends h
  rises-keep test (goes {low = low} {a = a} {l = l} h r) = go (test a) (rises-keep test r)
    where
      go : (t : Bool) → Rises key high (suc (key a)) (keep test l)
          → Rises key high low (cond t (a ∷ keep test l) (keep test l))
      go true s = goes h s
      go false s = let below : low ≤ suc (key a) = omega arith in rises-lower below s

  -- The low bound is at most every member's key.
  pub rises_member : {low m : ℕ} {l : List ℕ} → Rises key high low l → Memᴰ m l → low ≤ key m
  rises_member (ends h) at = absurd (Memᴰ.not-nil at)
  rises_member {m = m} (goes {low = low} {a = a} {l = l} h r) at = go (rises_member r) (Memᴰ.cases_cons at)
    where
      go : (Memᴰ m l → suc (key a) ≤ key m) → (m ≡ a) ⊎ Memᴰ m l → low ≤ key m
      go below (inl e) = rw e h
      go below (inr later) = omega (arith, below later)

  -- The high bound is above it.
  pub rises-below : {low m : ℕ} {l : List ℕ} → Rises key high low l → Memᴰ m l → key m < high
  rises-below (ends h) at = absurd (Memᴰ.not-nil at)
  rises-below {m = m} (goes {a = a} {l = l} h r) at = go (rises-below r) (Memᴰ.cases_cons at)
    where
      go : (Memᴰ m l → key m < high) → (m ≡ a) ⊎ Memᴰ m l → key m < high
      go below (inl e) = rw e (rises_bound r)
      go below (inr later) = below later
