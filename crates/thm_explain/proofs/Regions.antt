-- The region of a column is the one that fits, and no other does. No contract cites this file. Assumes nothing.
use Prim.Native.Nat.{ℕ}
use mathlib.Core.Path.{◌≡◌, refl}
use mathlib.Core.Bool.{Bool, true, false, cond, not}
use Rattle.regs.specs.Reading.{reading_of}
use Rattle.obj_entries.specs.Entry.{window_mark}
use Rattle.sfx_regions.specs.Region.{uses_windows, region, permitted}
use Rattle.sfx_regions.specs.declared.WindowType.{WindowType}
use Rattle.sfx_regions.specs.declared.WindowType.TheVariants.{Win0, Win1, WinObj, WinOut, WinNone}
use Rattle.explain.specs.Reason.{region_number}
use Rattle.thm_explain.specs.Fits.{Column, registers_of, entry_of, in_first, in_second, in_objects, region_flags}
use Rattle.thm_explain.specs.Fits.{InRegion, no_windows, window0, window1, object_window, outside}

module _ (k : Column) where
  -- The region by the definition.
  abbrev pub region_at : WindowType
  region_at = region (reading_of k.call.reading) (registers_of k) (window_mark (entry_of k)) k.at k.call.line

  pub region_once : {n : ℕ} → InRegion k n → n ≡ region_number region_at
  unfolding region
  region_once (no_windows u) = rw u
  region_once (window0 u a) = rw (u, a)
  region_once (window1 u a b) = rw (u, a, b)
  region_once (object_window u a b o) = rw (u, a, b, o)
  region_once (outside u a b o) = rw (u, a, b, o)

  pub region_fits : InRegion k (region_number region_at)
  unfolding region
  region_fits = go (uses_windows (registers_of k)) (in_first k) (in_second k) (in_objects k) refl refl refl refl
    where
      go : (any first second objects : Bool) → uses_windows (registers_of k) ≡ any → in_first k ≡ first → in_second k ≡ second
          → in_objects k ≡ objects
          → InRegion k
          (region_number (cond (not any) WinNone (cond first Win0 (cond second Win1 (cond objects WinObj WinOut)))))
      go false first second objects u a b o = no_windows u
      go true true second objects u a b o = window0 u a
      go true false true objects u a b o = window1 u a b
      go true false false true u a b o = object_window u a b o
      go true false false false u a b o = outside u a b o

  -- What the region of a number permits is what the region does.
  pub flags-region : (at : WindowType) → region_flags k (region_number at) ≡ permitted (registers_of k) at
  unfolding permitted
  flags-region Win0 = refl
  flags-region Win1 = refl
  flags-region WinObj = refl
  flags-region WinOut = refl
  flags-region WinNone = refl
