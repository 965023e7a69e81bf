-- The backgrounds that are on stand in the order of their places. No contract cites this file. Assumes nothing.
use Prim.Native.Nat.{ℕ, zero, suc, ◌+◌, ◌*◌, ◌≤◌, ◌<◌}
use native.Mathlib.Nat.{le_refl}
use native.Mathlib.Omega.{arith}
use mathlib.Core.Path.{◌≡◌, refl, ◌∙◌}
use mathlib.Core.Bool.{Bool, true, false, cond}
use mathlib.Core.List.Memᴰ
use mathlib.Core.List.{List, [], ◌∷◌, ◌++◌, Memᴰ}
use mathlib.Core.Logic.{⊎_elim}
use lib.ListN.{get_or}
use borrow.Author.Tests.{eqb-true, eq-eqb}
use Rattle.bits.proofs.Booleans.{and_both}
use Rattle.regs.specs.Registers.{dispcnt, bgcnt}
use Rattle.regs.specs.Display.{enable_bg}
use Rattle.regs.specs.Background.{priority}
use Rattle.sfx_sorting.specs.Ordered.{keep, stands, standing, ordered}
use Rattle.thm_explain.specs.Fits.{Column, registers_of, layer_priority}
use Rattle.thm_explain.proofs.Fronts.{place, rank-other}
use Rattle.thm_explain.proofs.Rising.{Rises, ends, goes, rises_bound, rises-lower, rises-append, rises-below}
use Rattle.thm_explain.proofs.Rising.{member-keep, kept_member}

-- ---- the numbers of the backgrounds

numbers : Rises (λ n. n) 4 0 (0 ∷ 1 ∷ 2 ∷ 3 ∷ [])
numbers = goes (le_refl 0) (goes (le_refl 1) (goes (le_refl 2) (goes (le_refl 3) (ends (le_refl 4)))))

member_numbers : (bg : ℕ) → bg < 4 → Memᴰ bg (0 ∷ 1 ∷ 2 ∷ 3 ∷ [])
member_numbers zero bg< = Memᴰ.head refl
member_numbers (suc zero) bg< = Memᴰ.tail (Memᴰ.head refl)
member_numbers (suc (suc zero)) bg< = Memᴰ.tail (Memᴰ.tail (Memᴰ.head refl))
member_numbers (suc (suc (suc zero))) bg< = Memᴰ.tail (Memᴰ.tail (Memᴰ.tail (Memᴰ.head refl)))
member_numbers (suc (suc (suc (suc bg)))) bg< = absurd (omega arith)

-- ---- their order

module _ (k : Column) where
  abbrev is_on : ℕ → Bool
  is_on bg = get_or (enable_bg (dispcnt (registers_of k))) bg false

  pub priority-background : (bg : ℕ) → bg < 4 → layer_priority k bg ≡ priority (bgcnt (registers_of k) bg)
  priority-background zero bg< = refl
  priority-background (suc zero) bg< = refl
  priority-background (suc (suc zero)) bg< = refl
  priority-background (suc (suc (suc zero))) bg< = refl
  priority-background (suc (suc (suc (suc bg)))) bg< = absurd (omega arith)

  -- The place of a background that stands at a priority.
  place-standing : (p bg : ℕ) → bg < 4 → stands (registers_of k) p bg ≡ true → place k bg ≡ 8 * p + suc bg
  unfolding stands
  place-standing p bg bg< t =
      let at : priority (bgcnt (registers_of k) bg) ≡ p = eqb-true _ p (and_both (is_on bg) _ t).1 in
      let same : layer_priority k bg ≡ p = priority-background bg bg< ∙ at in
      omega (arith, rank-other bg (λ e. omega arith))

  -- Those that stand at a priority rise.
  rises-standing : (p high : ℕ) → 8 * p + 5 ≤ high → {low : ℕ} {l : List ℕ} → Rises (λ n. n) 4 low l
      → Rises (place k) high (8 * p + suc low) (keep (stands (registers_of k) p) l)
  unfolding keep
  rises-standing p high h (ends {low = low} u) = ends {low = 8 * p + suc low} (omega arith)
  rises-standing p high h (goes {low = low} {a = a} {l = l} u r) =
      go (stands (registers_of k) p a) refl (rises-standing p high h r)
    where
      kept : List ℕ
      kept = keep (stands (registers_of k) p) l

      go : (t : Bool) → stands (registers_of k) p a ≡ t → Rises (place k) high (8 * p + suc (suc a)) kept
          → Rises (place k) high (8 * p + suc low) (cond t (a ∷ kept) kept)
      go true t s =
          let at = place-standing p a (rises_bound r) t in
          let below : 8 * p + suc low ≤ place k a = omega arith in
          let next : suc (place k a) ≤ 8 * p + suc (suc a) = omega arith in
          goes below (rises-lower next s)
      go false t s = let below : 8 * p + suc low ≤ 8 * p + suc (suc a) = omega arith in rises-lower below s

  -- All of them do, and stay below the backdrop.
  pub rises-ordered : Rises (place k) (place k 5) 1 (ordered (registers_of k))
  unfolding ordered
  rises-ordered =
      rises-append
      (rises-append
      (rises-append (rises-standing 0 9 (omega arith) numbers) (rises-standing 1 17 (omega arith) numbers))
      (rises-standing 2 25 (omega arith) numbers))
      (rises-standing 3 38 (omega arith) numbers)

  -- ---- which they are

  -- Those that stand at a priority.
  abbrev those : ℕ → List ℕ
  those p = standing (registers_of k) p

  member_those : (p bg : ℕ) → bg < 4 → is_on bg ≡ true → priority (bgcnt (registers_of k) bg) ≡ p
      → Memᴰ bg (those p)
  unfolding stands
  member_those p bg bg< on at = member-keep _ (rw (on, eq-eqb _ p at)) (member_numbers bg bg<)

  those_member : (p : ℕ) {bg : ℕ} → Memᴰ bg (those p) → (bg < 4) × (is_on bg ≡ true)
  unfolding stands
  those_member p {bg} at =
      let kept = kept_member (stands (registers_of k) p) (0 ∷ 1 ∷ 2 ∷ 3 ∷ []) at in
      (rises-below numbers kept.1, (and_both (is_on bg) _ kept.0).0)

  member_at : (p bg : ℕ) → bg < 4 → is_on bg ≡ true → priority (bgcnt (registers_of k) bg) ≡ p
      → Memᴰ bg (ordered (registers_of k))
  unfolding ordered
  member_at zero bg bg< on at =
      Memᴰ.append_left (those 3) (Memᴰ.append_left (those 2) (Memᴰ.append_left (those 1) (member_those 0 bg bg< on at)))
  member_at (suc zero) bg bg< on at =
      Memᴰ.append_left (those 3) (Memᴰ.append_left (those 2) (Memᴰ.append_right (those 0) (member_those 1 bg bg< on at)))
  member_at (suc (suc zero)) bg bg< on at =
      Memᴰ.append_left (those 3) (Memᴰ.append_right (those 0 ++ those 1) (member_those 2 bg bg< on at))
  member_at (suc (suc (suc zero))) bg bg< on at =
      Memᴰ.append_right (those 0 ++ those 1 ++ those 2) (member_those 3 bg bg< on at)
  member_at (suc (suc (suc (suc p)))) bg bg< on at = absurd (omega arith)

  -- Each background that is on is among them.
  pub member-ordered : (bg : ℕ) → bg < 4 → is_on bg ≡ true → Memᴰ bg (ordered (registers_of k))
  member-ordered bg bg< on = member_at (priority (bgcnt (registers_of k) bg)) bg bg< on refl

  -- And no other.
  pub ordered_member : {bg : ℕ} → Memᴰ bg (ordered (registers_of k)) → (bg < 4) × (is_on bg ≡ true)
  unfolding ordered
  ordered_member at =
      ⊎_elim
      (λ three.
      ⊎_elim
      (λ pair. ⊎_elim (those_member 0) (those_member 1) (Memᴰ.append_cases (those 0) pair))
      (those_member 2)
      (Memᴰ.append_cases (those 0 ++ those 1) three))
      (those_member 3)
      (Memᴰ.append_cases (those 0 ++ those 1 ++ those 2) at)
