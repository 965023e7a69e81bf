-- Laws of the order of backgrounds: the exchanges of code give it. No contract cites this file. Assumes nothing.
use Prim.Native.Nat.{ℕ, ◌+◌, ◌*◌, ◌≤◌, ◌<◌}
use native.Mathlib.Omega.{arith}
use mathlib.Core.Path.{◌≡◌, refl, sym, ap, ap₂}
use Rattle.std.specs.Prelude.{Option, Some, None}
use mathlib.Core.Bool.{Bool, true, false, cond, ◌&&◌}
use mathlib.Core.List.{List, [], ◌∷◌, ◌++◌, map}
use lib.Dec.{eqb, leb, ltb}
use lib.ListN.{length, get_or}
use borrow.Author.Tests.{eqb-true, leb-true}
use Rattle.bits.specs.Bits.{bits}
use Rattle.bits.proofs.Booleans.{and_both}
use Rattle.regs.specs.Registers.{dispcnt, bgcnt}
use Rattle.regs.specs.Display.{enable_bg}
use Rattle.regs.specs.Background.{priority}
use Rattle.rows.specs.Below.{all_below}
use Rattle.rows.proofs.Below.{all_below_at}
use Rattle.sfx_sorting.specs.Ordered.{keep, stands, standing, ordered}
use Rattle.sfx_sorting.specs.Code.{places, sort_key, sorted_keys, key_place}

-- A background's rank: its priority, or 4 if it is off.
abbrev rank : List ℕ → ℕ → ℕ
rank registers bg = cond (get_or (enable_bg (dispcnt registers)) bg false) (priority (bgcnt registers bg)) 4

rank_bound : (on : Bool) (w : ℕ) → cond on (bits 1 0 w) 4 < 5
rank_bound true w = omega arith
rank_bound false w = omega arith

-- A background stands at a priority if that is its rank.
rank-stands : (on : Bool) (n p : ℕ) → eqb 4 p ≡ false → (on && eqb n p) ≡ eqb (cond on n 4) p
rank-stands true n p e = refl
rank-stands false n p e = sym e

-- Backgrounds 0 to 3, each if its test holds.
four : Bool → Bool → Bool → Bool → List ℕ
four a b c d = keep (λ bg. get_or (a ∷ b ∷ c ∷ d ∷ []) bg false) (0 ∷ 1 ∷ 2 ∷ 3 ∷ [])

-- The order by the four ranks.
at_rank : ℕ → ℕ → ℕ → ℕ → ℕ → List ℕ
at_rank a b c d p = four (eqb a p) (eqb b p) (eqb c p) (eqb d p)

order_of : ℕ → ℕ → ℕ → ℕ → List ℕ
order_of a b c d = at_rank a b c d 0 ++ at_rank a b c d 1 ++ at_rank a b c d 2 ++ at_rank a b c d 3

module _ (registers : List ℕ) where
  stands-rank : (p bg : ℕ) → eqb 4 p ≡ false → stands registers p bg ≡ eqb (rank registers bg) p
  unfolding stands
  stands-rank p bg e = rank-stands (get_or (enable_bg (dispcnt registers)) bg false) (priority (bgcnt registers bg)) p e

  standing_ranks : (p : ℕ) → eqb 4 p ≡ false
      → standing registers p ≡ at_rank (rank registers 0) (rank registers 1) (rank registers 2) (rank registers 3) p
  unfolding keep four at_rank
  standing_ranks p e = rw (stands-rank p 0 e, stands-rank p 1 e, stands-rank p 2 e, stands-rank p 3 e)

  ordered_ranks : ordered registers ≡ order_of (rank registers 0) (rank registers 1) (rank registers 2) (rank registers 3)
  unfolding ordered order_of
  ordered_ranks = cc (standing_ranks 0 refl, standing_ranks 1 refl, standing_ranks 2 refl, standing_ranks 3 refl)

-- ---- what a computed test of all ranks shows

all_ranks : (ℕ → ℕ → ℕ → ℕ → Bool) → Bool
all_ranks test = all_below (λ a. all_below (λ b. all_below (λ c. all_below (λ d. test a b c d) 5) 5) 5) 5

module _ (test : ℕ → ℕ → ℕ → ℕ → Bool) (all : all_ranks test ≡ true) (registers : List ℕ) where
  test_ranks : test (rank registers 0) (rank registers 1) (rank registers 2) (rank registers 3) ≡ true
  unfolding all_ranks
  test_ranks =
      let a< = rank_bound (get_or (enable_bg (dispcnt registers)) 0 false) (bgcnt registers 0) in
      let b< = rank_bound (get_or (enable_bg (dispcnt registers)) 1 false) (bgcnt registers 1) in
      let c< = rank_bound (get_or (enable_bg (dispcnt registers)) 2 false) (bgcnt registers 2) in
      let d< = rank_bound (get_or (enable_bg (dispcnt registers)) 3 false) (bgcnt registers 3) in
      all_below_at _ 5 (all_below_at _ 5 (all_below_at _ 5 (all_below_at _ 5 all _ a<) _ b<) _ c<) _ d<

-- Whether each of a list is a background's number.
unfoldable pub small : List ℕ → Bool
small [] = true
small (bg ∷ rest) = ltb bg 4 && small rest

-- Whether two places hold the same.
same_place : Option ℕ → Option ℕ → Bool
same_place None None = true
same_place None (Some b) = false
same_place (Some a) None = false
same_place (Some a) (Some b) = eqb a b

same_place_is : (p q : Option ℕ) → same_place p q ≡ true → p ≡ q
unfolding same_place
same_place_is None None t = refl
same_place_is None (Some b) t = cc
same_place_is (Some a) None t = cc
same_place_is (Some a) (Some b) t = ap Some (eqb-true a b t)

-- Whether two lists of places are the same.
same : List (Option ℕ) → List (Option ℕ) → Bool
same [] [] = true
same [] (b ∷ m) = false
same (a ∷ l) [] = false
same (a ∷ l) (b ∷ m) = same_place a b && same l m

same_is : (l m : List (Option ℕ)) → same l m ≡ true → l ≡ m
unfolding same
same_is [] [] t = refl
same_is [] (b ∷ m) t = cc
same_is (a ∷ l) [] t = cc
same_is (a ∷ l) (b ∷ m) t =
    let both = and_both (same_place a b) (same l m) t in
    ap₂ ◌∷◌ (same_place_is a b both.0) (same_is l m both.1)

-- The places that code makes of four ranks.
places_of : ℕ → ℕ → ℕ → ℕ → List (Option ℕ)
places_of a b c d = map key_place (sorted_keys (4 * a + 0) (4 * b + 1) (4 * c + 2) (4 * d + 3))

-- They are those of the order, which has at most four backgrounds.
places-all : all_ranks (λ a b c d. same (places_of a b c d) (places (order_of a b c d))) ≡ true
unfolding all_ranks all_below same same_place places_of sorted_keys places order_of at_rank four keep
places-all = refl

few-all : all_ranks (λ a b c d. small (order_of a b c d) && leb (length (order_of a b c d)) 4) ≡ true
unfolding all_ranks all_below small order_of at_rank four keep
few-all = refl

-- ---- the order

-- The places that code makes are those of the order.
pub places_sorted : (registers : List ℕ) {on : List Bool} {a b c d : ℕ} {keys : List ℕ} {p q r s : Option ℕ}
    → on ≡ enable_bg (dispcnt registers)
    → a ≡ sort_key (get_or on 0 false) (priority (bgcnt registers 0)) 0
    → b ≡ sort_key (get_or on 1 false) (priority (bgcnt registers 1)) 1
    → c ≡ sort_key (get_or on 2 false) (priority (bgcnt registers 2)) 2
    → d ≡ sort_key (get_or on 3 false) (priority (bgcnt registers 3)) 3
    → keys ≡ sorted_keys a b c d
    → p ≡ key_place (get_or keys 0 0)
    → q ≡ key_place (get_or keys 1 0)
    → r ≡ key_place (get_or keys 2 0)
    → s ≡ key_place (get_or keys 3 0)
    → p ∷ q ∷ r ∷ s ∷ [] ≡ places (ordered registers)
unfolding places_of sorted_keys
places_sorted registers on-is a-is b-is c-is d-is keys-is p-is q-is r-is s-is =
    rw (p-is, q-is, r-is, s-is, keys-is, a-is, b-is, c-is, d-is, on-is, ordered_ranks registers)
    (same_is _ _ (test_ranks _ places-all registers))

-- What stands in the order are backgrounds' numbers, at most four.
module _ (registers : List ℕ) where
  few : small (ordered registers) && leb (length (ordered registers)) 4 ≡ true
  few = rw (ordered_ranks registers) (test_ranks _ few-all registers)

  pub small-ordered : small (ordered registers) ≡ true
  small-ordered = (and_both _ _ few).0

  pub length-ordered : length (ordered registers) ≤ 4
  length-ordered = leb-true _ 4 (and_both (small (ordered registers)) _ few).1
