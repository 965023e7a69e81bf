-- The order of pixels: the entry of a column holds the winner of all that were put there, the first of least priority.
-- No contract cites this file. Assumes nothing.
use Prim.Native.Nat.{ℕ, zero, suc, ◌≤◌, ◌<◌}
use native.Mathlib.Omega.{arith}
use mathlib.Core.Path.{◌≡◌, refl, ap, ◌∙◌}
use mathlib.Core.Bool.{Bool, true, false, not, cond, ◌&&◌, or-true, or-false, and-false}
use mathlib.Core.List.{List, [], ◌∷◌, ◌++◌, append-nil, append_assoc}
use mathlib.Core.List.Memᴰ
use mathlib.Core.List.{Memᴰ}
use mathlib.Core.Logic.{inl, inr, ⊎_elim}
use lib.Dec.{leb}
use borrow.Author.Tests.{leb-true, leb-false}
use Rattle.rgb15.specs.Colour.{is_transparent}
use Rattle.obj_sprites.specs.Attrs.{sprite}
use Rattle.obj_sprites.specs.Sprite.{source, sprite_color, is_visible, is_semi}
use Rattle.obj.specs.Put.{passed_over, shown_by, windowed, written, put_pixel, sprite_step, entry_up_to}
use Rattle.obj.specs.Order.{Draw, Pixel, is_opaque, pixel_of, pixels_up_to, is_before, Wins, Shows, Holds, none, some}
use Rattle.obj_sprites.specs.declared.attrs.ObjMode.{ObjMode}
use Rattle.obj_entries.specs.declared.Entry.{Entry}
use Rattle.obj_sprites.proofs.Decode.{priority_bound}
use Rattle.obj.proofs.Before.{Earlier, by-priority, is_before_before, is_before_earlier, is_before-le}
use Rattle.obj.proofs.Pixels.{put_pixel_forbidden}
use Rattle.obj.proofs.Marks.{semi_put_same, semi_put-other}

-- ---- one pixel more

-- Every pixel was put earlier than sprite n of draw number i is.
abbrev pub AllEarlier : ℕ → ℕ → List Pixel → Type 0
AllEarlier i n ps = (p : Pixel) → Memᴰ p ps → Earlier i n p

-- A pixel that the entry's priority passes over doesn't win.
wins_passed : (ps : List Pixel) (q w : Pixel) → Wins ps w → w.priority ≤ q.priority → Earlier q.draw q.sprite w
    → Wins (ps ++ (q ∷ [])) w
wins_passed ps q w wins h u =
    record {
      among = Memᴰ.append_left (q ∷ []) wins.among;
      first = λ p m.
          ⊎_elim (λ in-ps. wins.first p in-ps)
          (λ last. inr (ap (is_before w) (Memᴰ.eq_of_singleton last) ∙ is_before_earlier w q h u))
          (Memᴰ.append_cases ps m);
    }

module _ (ps : List Pixel) (e : Entry) (q : Pixel) where
  holds_passed : Holds ps e → AllEarlier q.draw q.sprite ps → q.priority ≤ 3 → e.priority ≤ q.priority
      → Holds (ps ++ (q ∷ [])) e
  holds_passed (none empty blank) earlier q≤ h = absurd (omega (arith, blank.priority_is))
  holds_passed (some w wins shows) earlier q≤ h =
      some w (wins_passed ps q w wins (omega (arith, shows.priority_is)) (earlier w wins.among)) shows

  -- A pixel of lesser priority than the entry's wins.
  taken_first : Holds ps e → q.priority < e.priority → (p : Pixel) → Memᴰ p ps → is_before q p ≡ true
  taken_first (none empty blank) h p m = absurd (Memᴰ.not-nil (rw empty at m))
  taken_first (some w wins shows) h p m =
      is_before_before q p
      (by-priority
      (⊎_elim
      (λ same. omega (arith, shows.priority_is, ap (λ x. x.priority) same))
      (λ before. omega (arith, shows.priority_is, is_before-le w p before))
      (wins.first p m)))

  holds_taken : (f : Entry) → Holds ps e → q.priority < e.priority → Shows q f → Holds (ps ++ (q ∷ [])) f
  holds_taken f holds h shows =
      some q
      (record {
        among = Memᴰ.append_right ps (Memᴰ.head refl);
        first = λ p m.
            ⊎_elim (λ in-ps. inr (taken_first holds h p in-ps)) (λ last. inl (Memᴰ.eq_of_singleton last))
            (Memᴰ.append_cases ps m);
      })
      shows

-- ---- one sprite more

-- The entry that shows a pixel.
abbrev shown : Pixel → Entry → Entry
shown q = shown_by q.semi q.priority q.color

shows_shown : (q : Pixel) (e : Entry) → Shows q (shown q e)
unfolding shown_by
shows_shown q e = record { color_is = refl; priority_is = refl; semi_is = semi_put_same q.semi e.marks }

-- A pixel of a sprite that is ordinary or semi-transparent.
holds_shown : (ps : List Pixel) (e : Entry) (q : Pixel) → Holds ps e → AllEarlier q.draw q.sprite ps → q.priority ≤ 3
    → Holds (ps ++ (q ∷ [])) (cond (leb e.priority q.priority) e (shown q e))
holds_shown ps e q holds earlier q≤ = go (leb e.priority q.priority) refl
  where
    go : (t : Bool) → leb e.priority q.priority ≡ t → Holds (ps ++ (q ∷ [])) (cond t e (shown q e))
    go true t = holds_passed ps e q holds earlier q≤ (leb-true e.priority q.priority t)
    go false t = holds_taken ps e q _ holds (omega (arith, leb-false e.priority q.priority t)) (shows_shown q e)

-- The window mark is none of what an entry shows.
holds-windowed : (ps : List Pixel) (e : Entry) → Holds ps e → Holds ps (windowed e)
unfolding windowed
holds-windowed ps e (none empty blank) =
    none empty
    (record {
      color_is = blank.color_is;
      priority_is = blank.priority_is;
      semi_is = semi_put-other e.marks ∙ blank.semi_is;
    })
holds-windowed ps e (some w wins shows) =
    some w wins
    (record {
      color_is = shows.color_is;
      priority_is = shows.priority_is;
      semi_is = semi_put-other e.marks ∙ shows.semi_is;
    })

-- A sprite of any mode, with a colour that may be transparent.
module _ (ps : List Pixel) (e : Entry) (i n priority color : ℕ)
    (holds : Holds ps e) (earlier : AllEarlier i n ps) (priority≤ : priority ≤ 3) where
  abbrev pixel_by : ObjMode → Pixel
  pixel_by mode = record { draw = i; sprite = n; priority = priority; color = color; semi = is_semi mode }

  holds_put : (mode : ObjMode) (clear : Bool) → is_transparent color ≡ clear
      → Holds (ps ++ cond (is_visible mode && not (is_transparent color)) (pixel_by mode ∷ []) [])
      (put_pixel mode priority color e)
  unfolding put_pixel passed_over written is_visible is_semi
  holds_put mode true t = rw (t, or-true (passed_over mode priority e), and-false (is_visible mode), append-nil ps) holds
  holds_put ObjMode.Normal false t =
      rw (t, or-false (leb e.priority priority)) (holds_shown ps e (pixel_by ObjMode.Normal) holds earlier priority≤)
  holds_put ObjMode.Sfx false t =
      rw (t, or-false (leb e.priority priority)) (holds_shown ps e (pixel_by ObjMode.Sfx) holds earlier priority≤)
  holds_put ObjMode.Window false t = rw (t, append-nil ps) (holds-windowed ps e holds)
  holds_put ObjMode.Forbidden false t = rw (append-nil ps, put_pixel_forbidden priority color e) holds

-- A pixel that is put last is earlier than the next sprite is.
earlier_put : (ps : List Pixel) (q : Pixel) (visible : Bool) → AllEarlier q.draw q.sprite ps
    → AllEarlier q.draw (suc q.sprite) (ps ++ cond visible (q ∷ []) [])
earlier_put ps q visible earlier p m =
    ⊎_elim
    (λ in-ps. ⊎_elim inl (λ same. inr (same.0, omega (arith, same.1))) (earlier p in-ps))
    (λ last. go visible last)
    (Memᴰ.append_cases ps m)
  where
    go : (b : Bool) → Memᴰ p (cond b (q ∷ []) []) → Earlier q.draw (suc q.sprite) p
    go true last =
        let same = Memᴰ.eq_of_singleton last in inr (ap (λ x. x.draw) same, omega (arith, ap (λ x. x.sprite) same))
    go false last = absurd (Memᴰ.not-nil last)

-- ---- the sprites of a draw

-- An entry holds the winner of pixels that were all put earlier than sprite n of draw number i is.
pub record Held (i n : ℕ) (ps : List Pixel) (e : Entry) : Type 0 where
  pub holds : Holds ps e
  pub earlier : AllEarlier i n ps

module _ (column : ℕ) where
  -- One sprite more.
  held-sprite : (i : ℕ) (d : Draw) (n : ℕ) (ps : List Pixel) (e : Entry) → Held i n ps e
      → Held i (suc n)
      (ps ++ cond (is_visible (sprite d.memory.oam n).objmode && is_opaque d n column) (pixel_of i d n column ∷ []) [])
      (sprite_step d.reading (source d.memory) d.line n column e)
  unfolding is_opaque pixel_of sprite_step
  held-sprite i d n ps e held =
      let s = sprite d.memory.oam n in
      let color = sprite_color d.reading (source d.memory) d.line n column in
      record {
        holds =
            holds_put ps e i n s.priority color held.holds held.earlier (priority_bound _)
            s.objmode (is_transparent color) refl;
        earlier =
            earlier_put ps (pixel_of i d n column) (is_visible s.objmode && not (is_transparent color)) held.earlier;
      }

  -- The first n sprites of draw number i.
  pub held_sprites : (i : ℕ) (d : Draw) (n : ℕ) (ps : List Pixel) (e : Entry) → Held i 0 ps e
      → Held i n (ps ++ pixels_up_to i d n column) (entry_up_to d.reading (source d.memory) d.line n column e)
  unfolding pixels_up_to entry_up_to
  held_sprites i d zero ps e held = rw (append-nil ps) held
  held_sprites i d (suc n) ps e held =
      rw (← append_assoc) (held-sprite i d n _ _ (held_sprites i d n ps e held))
