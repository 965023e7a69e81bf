-- Top and bottom of a column are ones that fit. No contract cites this file. Assumes nothing.
use Prim.Native.Nat.{ℕ, ◌≤◌, ◌<◌}
use native.Mathlib.Omega.{arith}
use mathlib.Core.Path.{◌≡◌, refl, sym, ap, ◌∙◌}
use mathlib.Core.Bool.{Bool, true, false, cond, ◌&&◌, true≢false}
use mathlib.Core.Logic.{◌⊎◌, ◌≢◌, inl, inr}
use lib.Dec.{leb}
use lib.ListN.{get_or}
use borrow.Author.Tests.{leb-true, leb-false, not-true}
use Rattle.bits.proofs.Booleans.{and_both}
use Rattle.rgb15.specs.Colour.{is_transparent}
use Rattle.memory.specs.Palette.{backdrop}
use Rattle.regs.specs.Registers.{dispcnt}
use Rattle.regs.specs.Display.{enable_obj}
use Rattle.regs_window.specs.Windows.{permits_objects}
use Rattle.regs_blend.specs.Layers.{layer_bit}
use Rattle.sfx_layers.specs.Layers.{Pair, backgrounds, object_layer, object_counts, placed, layers}
use Rattle.gpu.specs.Line.{color_of}
use Rattle.thm_explain.specs.Fits.{Column, registers_of, entry_of, layer_color, layer_priority}
use Rattle.thm_explain.specs.Fits.{LayerShows, shows_background, shows_objects, shows_backdrop, Top, Bottom, under, alone}
use Rattle.thm_explain.proofs.Leading.{Leads, single, couple, leads_in, leads_same}
use Rattle.thm_explain.proofs.Leading.{leads_first, leads_second, leads_behind}
use Rattle.thm_explain.proofs.Fronts.{place, rank_bound, rank-other, front_place}
use Rattle.thm_explain.proofs.Backgrounds.{priority-background}
use Rattle.thm_explain.proofs.Layers.{layer_bit_kind, pair_at, Behind, counted, backs_are, leads_backs}

-- ---- which layers show

module _ (k : Column) (flags : ℕ) where
  shows_bound : {n : ℕ} → LayerShows k flags n → n ≤ 5
  shows_bound (shows_background bg bg< on permitted opaque) = omega arith
  shows_bound (shows_objects on permitted opaque) = omega arith
  shows_bound shows_backdrop = omega arith

  shows_cases : (n : ℕ) → LayerShows k flags n → (n ≡ 4) ⊎ Behind k flags n
  shows_cases n (shows_background bg bg< on permitted opaque) =
      inr (shows_background bg bg< on permitted opaque, λ e. omega arith)
  shows_cases n (shows_objects on permitted opaque) = inl refl
  shows_cases n shows_backdrop = inr (shows_backdrop, λ e. omega arith)

  -- Two layers that lead all that show.
  data Found (p : Pair) : Type 0 where
    found : (a b : ℕ) → p ≡ pair_at k a b → Leads (LayerShows k flags) (place k) 5 a b → Found p

  -- ---- with the object or without

  object-shows : object_counts (registers_of k) flags (entry_of k) ≡ true → LayerShows k flags 4
  unfolding object_counts
  object-shows t =
      let both = and_both (permits_objects flags && enable_obj (dispcnt (registers_of k))) _ t in
      let on = and_both (permits_objects flags) (enable_obj (dispcnt (registers_of k))) both.0 in
      shows_objects on.1 on.0 (not-true _ both.1)

  object_hidden : object_counts (registers_of k) flags (entry_of k) ≡ false → (n : ℕ) → LayerShows k flags n → Behind k flags n
  unfolding object_counts
  object_hidden t n (shows_background bg bg< on permitted opaque) =
      (shows_background bg bg< on permitted opaque, λ e. omega arith)
  object_hidden t n (shows_objects on permitted opaque) =
      let shown : object_counts (registers_of k) flags (entry_of k) ≡ true = rw (permitted, on, opaque) in
      absurd (true≢false (sym shown ∙ t))
  object_hidden t n shows_backdrop = (shows_backdrop, λ e. omega arith)

  -- The two layers of the column.
  abbrev pub layers_here : Pair
  layers_here =
      layers (registers_of k) flags (backdrop k.call.memory.palette)
      (backgrounds (registers_of k) (λ bg. color_of k.call bg k.at))
      (entry_of k)

-- ---- those of a column fit, if an opaque object's priority is at most 3

module _ (k : Column) (flags : ℕ) (low : is_transparent (layer_color k 4) ≡ false → layer_priority k 4 ≤ 3) where
  place_bound : {n : ℕ} → LayerShows k flags n → place k n ≤ 38
  place_bound (shows_background bg bg< on permitted opaque) =
      omega (arith, priority-background k bg bg<, rank-other bg (λ e. omega arith))
  place_bound (shows_objects on permitted opaque) = omega (arith, low opaque)
  place_bound shows_backdrop = omega arith

  -- ---- who leads is on top

  top_leads : {a b : ℕ} → Leads (LayerShows k flags) (place k) 5 a b → Top k flags a
  top_leads (single in-last all) = record { shows = in-last; first = λ m s other. absurd (other (all m s)) }
  top_leads (couple a b in-a in_b less rest) =
      record {
        shows = in-a;
        first = λ m s other.
            front_place k a m (shows_bound k flags in-a) (shows_bound k flags s) (ahead m other (rest m s));
      }
    where
      ahead : (m : ℕ) → m ≢ a → (m ≡ a) ⊎ ((m ≡ b) ⊎ (place k b < place k m)) → place k a < place k m
      ahead m other (inl e) = absurd (other e)
      ahead m other (inr (inl e)) = rw e less
      ahead m other (inr (inr h)) = omega arith

  bottom_leads : {a b : ℕ} → Leads (LayerShows k flags) (place k) 5 a b → Bottom k flags a b
  bottom_leads (single in-last all) = alone refl
  bottom_leads (couple a b in-a in_b less rest) =
      under b (λ e. omega (arith, ap (place k) e, place_bound in_b)) in_b (λ e. omega (arith, ap (place k) e))
      (λ m s not_top other.
      front_place k b m (shows_bound k flags in_b) (shows_bound k flags s) (ahead m not_top other (rest m s)))
    where
      ahead : (m : ℕ) → m ≢ a → m ≢ b → (m ≡ a) ⊎ ((m ≡ b) ⊎ (place k b < place k m)) → place k b < place k m
      ahead m not_top other (inl e) = absurd (not_top e)
      ahead m not_top other (inr (inl e)) = absurd (other e)
      ahead m not_top other (inr (inr h)) = h

  -- ---- the object placed

  -- Whether the object goes over a layer.
  abbrev over : ℕ → Bool
  over n = leb (layer_priority k 4) (layer_priority k n)

  over_front : {n : ℕ} → Behind k flags n → over n ≡ true → place k 4 < place k n
  over_front {n} behind t = omega (arith, leb-true (layer_priority k 4) (layer_priority k n) t, rank-other n behind.1)

  under_front : {n : ℕ} → Behind k flags n → over n ≡ false → place k n < place k 4
  under_front {n} behind t =
      let n≤ = shows_bound k flags behind.0 in
      omega (arith, leb-false (layer_priority k 4) (layer_priority k n) t, rank_bound n n≤)

  module _ (object : LayerShows k flags 4) {a b : ℕ} (leads : Leads (Behind k flags) (place k) 5 a b) where
    object_last : place k 4 < place k 5
    object_last = omega (arith, place_bound object)

    found-placed : (s t : Bool) → over a ≡ s → over b ≡ t
        → Found k flags (cond s (pair_at k 4 a) (cond t (pair_at k a 4) (pair_at k a b)))
    found-placed true t over-a over-b =
        found 4 a refl
        (leads_first 5 4 object object_last (λ m s. s.0) (shows_cases k flags) leads (over_front (leads_in leads).0 over-a))
    found-placed false true over-a over-b =
        found a 4 refl
        (leads_second 5 4 object object_last (λ m s. s.0) (shows_cases k flags) leads
        (under_front (leads_in leads).0 over-a) (over_front (leads_in leads).1 over-b))
    found-placed false false over-a over-b =
        found a b refl
        (leads_behind 5 4 object object_last (λ m s. s.0) (shows_cases k flags) leads
        (under_front (leads_in leads).1 over-b))

  found-layers : Found k flags (layers_here k flags)
  unfolding layers placed
  found-layers = rw (backs_are k flags) (go (object_counts (registers_of k) flags (entry_of k)) refl)
    where
      a : ℕ
      a = get_or (counted k flags) 0 5

      b : ℕ
      b = get_or (counted k flags) 1 5

      go : (t : Bool) → object_counts (registers_of k) flags (entry_of k) ≡ t
          → Found k flags (cond t (placed (object_layer (entry_of k)) (pair_at k a b)) (pair_at k a b))
      go true t = found-placed (object-shows k flags t) (leads_backs k flags) (over a) (over b) refl refl
      go false t = found a b refl (leads_same (λ m s. s.0) (object_hidden k flags t) (leads_backs k flags))

-- Two layers fit a column, by the numbers of their kinds.
pub record PairFits (k : Column) (flags : ℕ) (p : Pair) : Type 0 where
  pub top_fits : Top k flags (layer_bit p.top.kind)
  pub bottom_fits : Bottom k flags (layer_bit p.top.kind) (layer_bit p.bottom.kind)
  pub top-color : p.top.color ≡ layer_color k (layer_bit p.top.kind)
  pub bottom_color : p.bottom.color ≡ layer_color k (layer_bit p.bottom.kind)

module _ (k : Column) (flags : ℕ) (low : is_transparent (layer_color k 4) ≡ false → layer_priority k 4 ≤ 3) where
  pub pair_fits : PairFits k flags (layers_here k flags)
  pair_fits = go (found-layers k flags low)
    where
      go : {p : Pair} → Found k flags p → PairFits k flags p
      go (found a b p-is leads) =
          let a-is = layer_bit_kind a (shows_bound k flags (leads_in leads).0) in
          let b-is = layer_bit_kind b (shows_bound k flags (leads_in leads).1) in
          rw p-is
          (record {
            top_fits = rw a-is (top_leads k flags low leads);
            bottom_fits = rw (a-is, b-is) (bottom_leads k flags low leads);
            top-color = rw a-is;
            bottom_color = rw b-is;
          })
