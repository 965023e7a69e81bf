-- Laws of one column's region: the tests of code are those of the definition, in its order. No contract cites this file.
-- Assumes nothing.
use Prim.Native.Nat.{ℕ}
use mathlib.Core.Path.{◌≡◌, sym, ◌∙◌}
use mathlib.Core.Bool.{Bool, true, false, cond, ◌&&◌}
use mathlib.Core.List.{List}
use Rattle.regs.specs.Registers.{dispcnt}
use Rattle.regs.specs.Display.{DisplayControlOf, is_using_windows}
use Rattle.regs.specs.declared.DisplayControl.{DisplayControl}
use Rattle.regs.specs.declared.reading.Reading.{Reading}
use Rattle.sfx_regions.specs.Region.{region, uses_windows, in_window0, in_window1}
use Rattle.sfx_regions.specs.declared.WindowType.TheVariants.{Win0, Win1, WinObj, WinOut, WinNone}
use Rattle.sfx_regions.proofs.Regions.{uses_windows_is}

-- ---- the region

module _ (reading : Reading) (registers : List ℕ) (mark : Bool) (column line : ℕ) {d : DisplayControl} {any : Bool}
    (display : DisplayControlOf (dispcnt registers) d)
    (any-is : any ≡ is_using_windows d.enable_window0 d.enable_window1 d.enable_obj_window) where
  -- With no window on.
  pub region_none : any ≡ false → WinNone ≡ region reading registers mark column line
  unfolding region
  region_none off = rw (uses_windows_is registers display any-is ∙ off)

  module _ {in0 : Bool} (on : any ≡ true) (in0-is : in0 ≡ in_window0 registers column line) where
    uses : uses_windows registers ≡ true
    uses = uses_windows_is registers display any-is ∙ on

    pub region_win0 : in0 ≡ true → Win0 ≡ region reading registers mark column line
    unfolding region
    region_win0 t = rw (uses, sym in0-is ∙ t)

    module _ {in1 : Bool} (out0 : in0 ≡ false) (in1-is : in1 ≡ in_window1 reading registers column line) where
      pub region_win1 : in1 ≡ true → Win1 ≡ region reading registers mark column line
      unfolding region
      region_win1 t = rw (uses, sym in0-is ∙ out0, sym in1-is ∙ t)

      -- In neither window, by whether the object window holds the column.
      region_rest : (obj : Bool) → in1 ≡ false → (d.enable_obj_window && mark) ≡ obj
          → cond obj WinObj WinOut ≡ region reading registers mark column line
      unfolding region
      region_rest obj out1 t =
          rw (uses, sym in0-is ∙ out0, sym in1-is ∙ out1) (rw (rw display.obj_window_is at t))

      pub region_obj : in1 ≡ false → (d.enable_obj_window && mark) ≡ true
          → WinObj ≡ region reading registers mark column line
      region_obj = region_rest true

      pub region_out : in1 ≡ false → (d.enable_obj_window && mark) ≡ false
          → WinOut ≡ region reading registers mark column line
      region_out = region_rest false
