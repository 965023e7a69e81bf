-- Laws of the first two of some numbers, by a key. No contract cites this file. Assumes nothing.
use Prim.Native.Nat.{ℕ, ◌<◌}
use native.Mathlib.Omega.{arith}
use mathlib.Core.Path.{◌≡◌, refl}
use mathlib.Core.List.{List, ◌∷◌}
use mathlib.Core.List.Memᴰ
use mathlib.Core.List.{Memᴰ}
use mathlib.Core.Logic.{◌⊎◌, inl, inr, ⊎_elim}
use lib.ListN.{get_or}
use Rattle.thm_explain.proofs.Rising.{Rises, ends, goes, rises_bound, rises_member}

-- Of the numbers in S, a is the first by the key and b the second; where there is none but the last, both are it.
pub data Leads (S : ℕ → Type 0) (key : ℕ → ℕ) (last : ℕ) : ℕ → ℕ → Type 0 where
  single : S last → ((m : ℕ) → S m → m ≡ last) → Leads S key last last last
  couple : (a b : ℕ) → S a → S b → key a < key b → ((m : ℕ) → S m → (m ≡ a) ⊎ ((m ≡ b) ⊎ (key b < key m)))
      → Leads S key last a b

pub leads_in : {S : ℕ → Type 0} {key : ℕ → ℕ} {last a b : ℕ} → Leads S key last a b → S a × S b
leads_in (single in-last all) = (in-last, in-last)
leads_in (couple a b in-a in_b less rest) = (in-a, in_b)

-- The first two of a list that rises below the last lead what it holds.
pub leads_list : (S : ℕ → Type 0) {key : ℕ → ℕ} (last : ℕ) → S last → {low : ℕ} {l : List ℕ} → Rises key (key last) low l
    → ((m : ℕ) → Memᴰ m l → S m) → ((m : ℕ) → S m → Memᴰ m l ⊎ (m ≡ last))
    → Leads S key last (get_or l 0 last) (get_or l 1 last)
leads_list S last in-last (ends h) in_List covers =
    single in-last (λ m s. ⊎_elim (λ at. absurd (Memᴰ.not-nil at)) (λ e. e) (covers m s))
leads_list S last in-last (goes {a = a} h (ends u)) in_List covers =
    couple a last (in_List a (Memᴰ.head refl)) in-last u
    (λ m s. ⊎_elim (λ at. inl (Memᴰ.eq_of_singleton at)) (λ e. inr (inl e)) (covers m s))
leads_list S {key} last in-last (goes {a = a} h (goes {a = b} {l = l} u r)) in_List covers =
    couple a b (in_List a (Memᴰ.head refl)) (in_List b (Memᴰ.tail (Memᴰ.head refl))) u
    (λ m s. ⊎_elim (listed m) (λ e. inr (inr (rw e (rises_bound r)))) (covers m s))
  where
    listed : (m : ℕ) → Memᴰ m (a ∷ b ∷ l) → (m ≡ a) ⊎ ((m ≡ b) ⊎ (key b < key m))
    listed m at =
        ⊎_elim inl
        (λ later. inr (⊎_elim inl (λ behind. inr (rises_member r behind)) (Memᴰ.cases_cons later)))
        (Memᴰ.cases_cons at)

-- What leads S leads the same numbers by another name.
pub leads_same : {S T : ℕ → Type 0} {key : ℕ → ℕ} {last a b : ℕ} → ((m : ℕ) → S m → T m) → ((m : ℕ) → T m → S m)
    → Leads S key last a b → Leads T key last a b
leads_same into back (single in-last all) = single (into _ in-last) (λ m t. all m (back m t))
leads_same into back (couple a b in-a in_b less rest) =
    couple a b (into a in-a) (into b in_b) less (λ m t. rest m (back m t))

-- T has one number more than S, and it isn't behind the last.
module _ {S T : ℕ → Type 0} {key : ℕ → ℕ} (last n : ℕ) (in-n : T n) (less-last : key n < key last)
    (into : (m : ℕ) → S m → T m) (back : (m : ℕ) → T m → (m ≡ n) ⊎ S m) where
  -- It is the first.
  pub leads_first : {a b : ℕ} → Leads S key last a b → key n < key a → Leads T key last n a
  leads_first (single in-last all) less =
      couple n last in-n (into last in-last) less (λ m t. ⊎_elim inl (λ s. inr (inl (all m s))) (back m t))
  leads_first (couple a b in-a in_b less rest) first =
      couple n a in-n (into a in-a) first (λ m t. ⊎_elim inl (λ s. inr (behind m (rest m s))) (back m t))
    where
      behind : (m : ℕ) → (m ≡ a) ⊎ ((m ≡ b) ⊎ (key b < key m)) → (m ≡ a) ⊎ (key a < key m)
      behind m (inl e) = inl e
      behind m (inr (inl e)) = inr (rw e less)
      behind m (inr (inr h)) = inr (omega arith)

  -- It is the second.
  pub leads_second : {a b : ℕ} → Leads S key last a b → key a < key n → key n < key b → Leads T key last a n
  leads_second (single in-last all) after before = absurd (omega arith)
  leads_second (couple a b in-a in_b less rest) after before =
      couple a n (into a in-a) in-n after (λ m t. ⊎_elim (λ e. inr (inl e)) (λ s. behind m (rest m s)) (back m t))
    where
      behind : (m : ℕ) → (m ≡ a) ⊎ ((m ≡ b) ⊎ (key b < key m)) → (m ≡ a) ⊎ ((m ≡ n) ⊎ (key n < key m))
      behind m (inl e) = inl e
      behind m (inr (inl e)) = inr (inr (rw e before))
      behind m (inr (inr h)) = inr (inr (omega arith))

  -- It is behind both.
  pub leads_behind : {a b : ℕ} → Leads S key last a b → key b < key n → Leads T key last a b
  leads_behind (single in-last all) after = absurd (omega arith)
  leads_behind (couple a b in-a in_b less rest) after =
      couple a b (into a in-a) (into b in_b) less
      (λ m t. ⊎_elim (λ e. inr (inr (rw e after))) (λ s. rest m s) (back m t))
