-- Laws of the backgrounds of each mode. No contract cites this file. Assumes nothing.
use Prim.Native.Nat.{ℕ, ◌≤◌, ◌<◌}
use native.Mathlib.Omega.{arith}
use mathlib.Core.Path.{◌≡◌, refl, sym, ap, ◌∙◌}
use mathlib.Core.Bool.{Bool, true, false, cond}
use mathlib.Core.List.{List}
use lib.Dec.{eqb, leb}
use lib.IntN.{ℤ}
use lib.ListN.{replicate}
use borrow.Author.Tests.{leb-true, eqb-true}
use Rattle.rgb15.specs.Colour.{rgb, transparent}
use Rattle.rgb15.specs.declared.Rgb15.{Rgb15}
use Rattle.signed.specs.Signed.{in_range}
use Rattle.rows.specs.Below.{all_below}
use Rattle.rows.specs.Tab.{tab}
use Rattle.rows.proofs.Below.{all_below_at}
use Rattle.rows.proofs.Tab.{tab_cong, tab_replicate}
use Rattle.regs.specs.Registers.{dispcnt, bgcnt, hofs, vofs}
use Rattle.regs.specs.Display.{DisplayControlOf, mode}
use Rattle.regs.specs.declared.DisplayControl.{DisplayControl}
use Rattle.bg_points.specs.References.{in_ranges}
use Rattle.bg_points.specs.declared.references.References.{References}
use Rattle.bg_points.proofs.Ranges.{ranges_true}
use Rattle.bg_regular.specs.Regular.{regular_color}
use Rattle.bg.specs.Affine.{affine_pixel, affine_bg_color}
use Rattle.bg.specs.Bitmap.{bitmap_pixel, bitmap_color}
use Rattle.bg.specs.Background.{bg_kind, kind_color, background_color}
use Rattle.bg.specs.Code.{BgAffineOf, Liftable, AffineOf, BitmapOf, picture_color}
use Rattle.bg.specs.declared.BgKind.{BgKind}
use Rattle.bg.specs.declared.affine.AffinePicture.{AffinePicture}
use Rattle.bg.specs.declared.bitmap.Bitmap.{Bitmap}
use Rattle.bg.specs.declared.BgKind.TheVariants.{Regular, Affine, Absent}
use Rattle.bg.specs.declared.BgKind.TheVariants.{Bitmap as BitmapKind}
use Rattle.bg.specs.declared.steps.BgAffine.{BgAffine}

-- ---- which backgrounds a kind can be

-- Affine ones are 2 and 3, and a bitmap is 2.
abbrev placed : BgKind → ℕ → Bool
placed Affine bg = leb 2 bg
placed BitmapKind bg = eqb bg 2
placed Regular bg = true
placed Absent bg = true

placed-bg_kind : (m bg : ℕ) → m < 6 → bg < 4 → placed (bg_kind m bg) bg ≡ true
unfolding bg_kind all_below
placed-bg_kind m bg m< bg< =
    all_below_at (λ k. placed (bg_kind m k) k) 4
    (all_below_at (λ j. all_below (λ k. placed (bg_kind j k) k) 4) 6 refl m m<)
    bg bg<

-- ---- a background's reference numbers

in_range_either : (t : Bool) (a b : ℤ) → in_range a ≡ true → in_range b ≡ true → in_range (cond t a b) ≡ true
in_range_either true a b a_in b-in = a_in
in_range_either false a b a_in b-in = b-in

pub bg_affine_liftable : {registers : List ℕ} {references : References} {bg : ℕ} {a : BgAffine} →
    in_ranges references ≡ true → BgAffineOf registers references bg a → Liftable a
bg_affine_liftable {references = references} {bg} ranges a-is =
    let all = ranges_true references ranges in
    record {
      x_in = ap in_range a-is.x_is ∙ in_range_either (eqb bg 2) _ _ all.x2_in all.x3_in;
      y_in = ap in_range a-is.y_is ∙ in_range_either (eqb bg 2) _ _ all.y2_in all.y3_in;
    }

-- ---- a background of each kind: which it can be, and its line as it is made

module _ (registers : List ℕ) (bg : ℕ) {d : DisplayControl} {kind : BgKind}
    (display-is : DisplayControlOf (dispcnt registers) d) (kind-is : kind ≡ bg_kind d.mode bg) where
  kind-placed : (k : BgKind) → kind ≡ k → mode (dispcnt registers) < 6 → bg < 4 → placed k bg ≡ true
  kind-placed k told mode< bg< =
      rw (sym told, kind-is, display-is.mode_is) (placed-bg_kind (mode (dispcnt registers)) bg mode< bg<)

  pub affine-from_two : kind ≡ Affine → mode (dispcnt registers) < 6 → bg < 4 → 2 ≤ bg
  affine-from_two told mode< bg< = leb-true 2 bg (kind-placed Affine told mode< bg<)

  pub bitmap-from_two : kind ≡ BitmapKind → mode (dispcnt registers) < 6 → bg < 4 → 2 ≤ bg
  bitmap-from_two told mode< bg< = let two = eqb-true bg 2 (kind-placed BitmapKind told mode< bg<) in omega arith

  module _ (vram palette : List ℕ) (references : References) (line : ℕ) where
    kind_line_is : (k : BgKind) {r : List Rgb15} → kind ≡ k →
        r ≡ tab (λ column. rgb (kind_color k vram palette registers references bg column line)) 240 →
        r ≡ tab (λ column. rgb (background_color vram palette registers references bg column line)) 240
    unfolding background_color
    kind_line_is k told r-is =
        let kind_told : bg_kind (mode (dispcnt registers)) bg ≡ k = cc (display-is.mode_is, kind-is, told) in
        rw kind_told r-is

    pub absent_line_is : kind ≡ Absent →
        replicate 240 (rgb transparent) ≡ tab (λ column. rgb (background_color vram palette registers references bg column line)) 240
    unfolding kind_color
    absent_line_is told = kind_line_is Absent told (tab_replicate (rgb transparent) 240)

    module _ {control : ℕ} (control-is : control ≡ bgcnt registers bg) where
      pub regular_line_is : {h v : ℕ} {r : List Rgb15} → kind ≡ Regular → h ≡ hofs registers bg → v ≡ vofs registers bg →
          r ≡ tab (λ column. rgb (regular_color vram palette control h v column line)) 240 →
          r ≡ tab (λ column. rgb (background_color vram palette registers references bg column line)) 240
      unfolding kind_color
      regular_line_is told h_is v-is r-is =
          kind_line_is Regular told
          (r-is ∙ tab_cong _ _ 240 (λ column column<. ap rgb (cc (control-is, h_is, v-is))))

      module _ {a : BgAffine} (a-is : BgAffineOf registers references bg a) where
        pub affine_line_is : {p : AffinePicture} {r : List Rgb15} → kind ≡ Affine → AffineOf control p →
            r
            ≡ tab (λ column. rgb (picture_color p.viewport
            (affine_pixel vram palette p.screen_block p.char_block p.viewport.w) a column)) 240 →
            r ≡ tab (λ column. rgb (background_color vram palette registers references bg column line)) 240
        unfolding kind_color affine_bg_color
        affine_line_is told p-is r-is =
            kind_line_is Affine told
            (r-is
            ∙ tab_cong _ _ 240 (λ column column<. ap rgb (cc (
              control-is,
              a-is.x_is,
              a-is.y_is,
              a-is.pa_is,
              a-is.pc_is,
              p-is.screen_is,
              p-is.tiles_is,
              p-is.w_is,
              p-is.h_is,
              p-is.wraparound_is,
            ))))

        pub bitmap_line_is : {p : Bitmap} {r : List Rgb15} → kind ≡ BitmapKind → BitmapOf d control p →
            r
            ≡ tab (λ column. rgb (picture_color p.viewport
            (bitmap_pixel vram palette p.mode p.page p.viewport.w) a column)) 240 →
            r ≡ tab (λ column. rgb (background_color vram palette registers references bg column line)) 240
        unfolding kind_color bitmap_color
        bitmap_line_is told p-is r-is =
            let v-is = p-is.viewport_is in
            kind_line_is BitmapKind told
            (r-is
            ∙ tab_cong _ _ 240 (λ column column<. ap rgb (cc (
              control-is,
              a-is.x_is,
              a-is.y_is,
              a-is.pa_is,
              a-is.pc_is,
              display-is.mode_is,
              display-is.frame_is,
              p-is.mode_is,
              p-is.page_is,
              v-is.w_is,
              v-is.h_is,
              v-is.wraparound_is,
            ))))
