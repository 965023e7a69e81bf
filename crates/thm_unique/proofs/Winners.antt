-- The priority of the winner of the pixels put. No contract cites this file. Assumes nothing.
use Prim.Native.Nat.{ℕ, zero, suc, ◌≤◌, ◌<◌}
use native.Mathlib.Omega.{arith}
use mathlib.Core.Path.{◌≡◌, refl, ap, ◌∙◌}
use mathlib.Core.Bool.{Bool, true, false, cond, ◌&&◌}
use mathlib.Core.List.{List, [], ◌∷◌}
use mathlib.Core.List.Memᴰ
use mathlib.Core.List.{Memᴰ}
use mathlib.Core.Logic.{⊎_elim}
use Rattle.obj_sprites.specs.Attrs.{sprite}
use Rattle.obj_sprites.specs.Sprite.{is_visible}
use Rattle.obj.specs.Order.{Draw, Pixel, Holds, none, some, is_opaque, pixel_of, pixels_up_to}
use Rattle.obj_entries.specs.declared.Entry.{Entry}
use Rattle.obj.proofs.Before.{is_before-le}

-- The entry's priority is at most that of any pixel put.
pub holds-le : {ps : List Pixel} {e : Entry} → Holds ps e → (p : Pixel) → Memᴰ p ps → e.priority ≤ p.priority
holds-le (none empty blank) p m = absurd (Memᴰ.not-nil (rw empty at m))
holds-le (some w wins shows) p m =
    ⊎_elim
    (λ same. omega (arith, shows.priority_is, ap (λ (x : Pixel). x.priority) same))
    (λ before. omega (arith, shows.priority_is, is_before-le w p before))
    (wins.first p m)

-- It is that of all pixels put, where they have one priority and there is one.
pub holds_same : {ps : List Pixel} {e : Entry} {priority : ℕ} → Holds ps e
    → ((p : Pixel) → Memᴰ p ps → p.priority ≡ priority) → (p : Pixel) → Memᴰ p ps
    → e.priority ≡ priority
holds_same (none empty blank) all p m = absurd (Memᴰ.not-nil (rw empty at m))
holds_same (some w wins shows) all p m = shows.priority_is ∙ all w wins.among

module _ (i : ℕ) (d : Draw) (column : ℕ) where
  abbrev is_put : ℕ → Bool
  is_put n = is_visible (sprite d.memory.oam n).objmode && is_opaque d n column

  -- The first sprite's pixel, where it has one, is among those of the first n sprites.
  pub first_among : (n : ℕ) → is_put 0 ≡ true → Memᴰ (pixel_of i d 0 column) (pixels_up_to i d (suc n) column)
  unfolding pixels_up_to
  first_among zero put = rw put (Memᴰ.head refl)
  first_among (suc n) put = Memᴰ.append_left _ (first_among n put)

  -- Pixels of sprites that all have a priority have it.
  pub priorities : (priority n : ℕ) → ((k : ℕ) → k < n → (sprite d.memory.oam k).priority ≡ priority)
      → (p : Pixel) → Memᴰ p (pixels_up_to i d n column) → p.priority ≡ priority
  unfolding pixels_up_to pixel_of
  priorities priority zero all p m = absurd (Memᴰ.not-nil m)
  priorities priority (suc n) all p m =
      ⊎_elim (priorities priority n (λ k lt. all k (omega arith)) p) (λ last. go (is_put n) last)
      (Memᴰ.append_cases (pixels_up_to i d n column) m)
    where
      go : (t : Bool) → Memᴰ p (cond t (pixel_of i d n column ∷ []) []) → p.priority ≡ priority
      go true last = ap (λ (x : Pixel). x.priority) (Memᴰ.eq_of_singleton last) ∙ all n (omega arith)
      go false last = absurd (Memᴰ.not-nil last)
