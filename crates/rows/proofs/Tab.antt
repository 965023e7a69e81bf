-- Laws of lists given by their elements, of any type. No contract cites this file. Assumes nothing.
use mathlib.Core.Path.{◌≡◌, refl, sym, ap, ◌∙◌}
use mathlib.Core.List.{List, [], ◌∷◌, ◌++◌}
use Prim.Native.Nat.{ℕ, zero, suc, ◌<◌}
use native.Mathlib.Nat.{not-suc-le-zero}
use native.Mathlib.Omega.{arith}
use lib.ListN.{length, get_or, replicate, length-append, length-replicate, get_or-replicate, get_or-append}
use lib.Seq.{ext_get_or, get_or_at}
use Rattle.rows.specs.Tab.{tab}
use Rattle.rows.proofs.Below.{below_suc}

module _ {A : Type 0} where
  pub length-tab : (f : ℕ → A) (n : ℕ) → length (tab f n) ≡ n
  unfolding tab
  length-tab f zero = refl
  length-tab f (suc n) = length-append (tab f n) (f n ∷ []) ∙ omega (arith, length-tab f n)

  pub get_or-tab : (f : ℕ → A) (n k : ℕ) (d : A) → k < n → get_or (tab f n) k d ≡ f k
  unfolding tab
  get_or-tab f zero k d h = absurd (not-suc-le-zero h)
  get_or-tab f (suc n) k d h =
      below_suc (λ j. get_or (tab f (suc n)) j d ≡ f j) n
      (λ j lt. get_or-append (tab f n) (f n ∷ []) d j (omega (arith, length-tab f n)) ∙ get_or-tab f n j d lt)
      (get_or_at (tab f n) (f n) [] d n (length-tab f n))
      k h

  -- An element of a list that is known to be tabulated, as a callee's contract says.
  pub get_or-of-tab : (f : ℕ → A) (n k : ℕ) (d : A) {l : List A} → l ≡ tab f n → k < n → get_or l k d ≡ f k
  get_or-of-tab f n k d e h = ap (λ (m : List A). get_or m k d) e ∙ get_or-tab f n k d h

  pub tab_cong : (f g : ℕ → A) (n : ℕ) → ((k : ℕ) → k < n → f k ≡ g k) → tab f n ≡ tab g n
  unfolding tab
  tab_cong f g zero h = refl
  tab_cong f g (suc n) h =
      ap (λ (l : List A). l ++ (f n ∷ [])) (tab_cong f g n (λ k lt. h k (omega arith)))
      ∙ ap (λ (a : A). tab g n ++ (a ∷ [])) (h n (omega arith))

  -- A list is that of f if each element is f's.
  pub tab_ext : (f : ℕ → A) (n : ℕ) (d : A) (l : List A) → length l ≡ n
      → ((k : ℕ) → k < n → get_or l k d ≡ f k)
      → l ≡ tab f n
  tab_ext f n d l e h =
      ext_get_or d l (tab f n) (e ∙ sym (length-tab f n))
      (λ k lt. h k (omega arith) ∙ sym (get_or-tab f n k d (omega arith)))

  -- An array of one value.
  pub tab_replicate : (a : A) (n : ℕ) → replicate n a ≡ tab (λ _. a) n
  tab_replicate a n =
      tab_ext (λ _. a) n a (replicate n a) (length-replicate n a) (λ k lt. get_or-replicate n k a a lt)
