-- A reference number and what a line adds to it. No contract cites this file. Assumes nothing.
use Prim.Native.Nat.{ℕ, suc, ◌+◌, ◌-◌, ◌%◌, ◌^◌, ◌≤◌, ◌<◌}
use native.Mathlib.Nat.{mod-eq_of_lt}
use native.Mathlib.Omega.{arith}
use mathlib.Core.Path.{◌≡◌, refl, sym, ap, ap₂, ◌∙◌}
use mathlib.Core.Bool.{Bool, true, false, cond, not}
use lib.Dec.{ltb}
use lib.IntN.{ℤ, pos, negsuc, sub_ℕ, ◌+ℤ◌}
use lib.Signed.{mag}
use mir.Syntax.{w16, w32}
use mir.Val.{to_z, of_z}
use borrow.Author.Tests.{not-true, not-false, ltb-false}
use Rattle.signed.specs.Signed.{in_range, signed32, wrapped, word32}
use Rattle.signed.proofs.Bias.{raised, raised_bound, subℕ-raised}
use Rattle.signed.proofs.Difference.{down, subℕ-view, add-subℕ}
use Rattle.signed.proofs.Order.{mag-subℕ}
use Rattle.signed.proofs.Range.{mag-in_range}
use Rattle.std.specs.declared.option.Option.TheVariants.{None, Some}
use Rattle.bg_points.specs.References.{in_ranges}
use Rattle.bg_points.proofs.Ranges.{ranges_true}
use Rattle.bg_points.specs.declared.references.References.{References}
use Rattle.gpu_step.specs.Step.{sums, stepped}
use Rattle.gpu_step.specs.declared.Steps.{Steps}
use Rattle.gpu_step.proofs.Machine.{word_read, half-read, machine, references-read}

-- Their sum has 32 bits.
pub mag_sum : (z p : ℤ) → in_range z ≡ true → mag p < 2 ^ 15 → mag (z +ℤ p) < 2 ^ 31
mag_sum z p z-in p-small =
    let z-small = mag-in_range z z-in in
    let a = raised z (2 ^ 28) in
    let b = raised p (2 ^ 15) in
    let a< : a < 2 ^ 29 = raised_bound (2 ^ 28) z z-small in
    let b< : b < 2 ^ 16 = raised_bound (2 ^ 15) p p-small in
    let sum : z +ℤ p ≡ sub_ℕ (a + b) (2 ^ 28 + 2 ^ 15) =
    ap₂ ◌+ℤ◌ (subℕ-raised (2 ^ 28) z z-small) (subℕ-raised (2 ^ 15) p p-small) ∙ add-subℕ a (2 ^ 28) b (2 ^ 15)
    in
    rw sum (mag-subℕ (a + b) (2 ^ 28 + 2 ^ 15) (2 ^ 31) (omega (arith, a<, b<)) (omega (arith, a<, b<)))

-- A word read as signed is its number.
pub word_cast : (w : ℕ) → w < 2 ^ 32 → to_z w32 w ≡ signed32 w
unfolding signed32
word_cast w w< = go (ltb w (2 ^ 31)) refl
  where
    go : (t : Bool) → ltb w (2 ^ 31) ≡ t → to_z w32 w ≡ cond t (pos w) (sub_ℕ w (2 ^ 32))
    go true t = rw t refl
    go false t =
        let high : 2 ^ 31 ≤ w = ltb-false w (2 ^ 31) t in
        rw t (let e : 2 ^ 32 - suc w ≡ 2 ^ 32 - 1 - w = omega arith in ap negsuc e ∙ sym (subℕ-view w (2 ^ 32) (down (2 ^ 32 - 1 - w) (omega arith))))

-- The bits of a number are its word.
pub word_bits : (z : ℤ) → mag z < 2 ^ 31 → of_z w32 z ≡ word32 z
unfolding word32 wrapped
word_bits (pos n) fits = sym (mod-eq_of_lt (omega arith))
word_bits (negsuc n) fits = let e : n % 2 ^ 32 ≡ n = mod-eq_of_lt (omega arith) in rw e (omega arith)

-- ---- numbers in range, as the machine has them

small : (z : ℤ) → in_range z ≡ true → mag z < 2 ^ 31
small z h = omega (arith, mag-in_range z h)

-- Each is read back as it was, and found in range.
pub read_range : (z : ℤ) → in_range z ≡ true → to_z w32 (of_z w32 z) ≡ z
read_range z h = word_read z (small z h)

pub found_range : (z : ℤ) → in_range z ≡ true → in_range (to_z w32 (of_z w32 z)) ≡ true
found_range z h = rw (read_range z h) h

module _ (r : References) (h : in_ranges r ≡ true) where
  pub references_found : machine r ≡ r
  references_found =
      let all = ranges_true r h in
      references-read r (small _ all.x2_in) (small _ all.y2_in) (small _ all.x3_in) (small _ all.y3_in)

  pub x2_found : in_range (machine r).x2 ≡ true
  x2_found = found_range _ (ranges_true r h).x2_in

  pub y2_found : in_range (machine r).y2 ≡ true
  y2_found = found_range _ (ranges_true r h).y2_in

  pub x3_found : in_range (machine r).x3 ≡ true
  x3_found = found_range _ (ranges_true r h).x3_in

  pub y3_found : in_range (machine r).y3 ≡ true
  y3_found = found_range _ (ranges_true r h).y3_in

-- ---- the step

-- A sum as the machine has it.
pub added : {r : ℤ} (z p : ℤ) → in_range z ≡ true → mag p < 2 ^ 15 → r ≡ to_z w32 (of_z w32 z) +ℤ to_z w16 (of_z w16 p)
    → to_z w32 (of_z w32 r) ≡ z +ℤ p
added z p z-in p-fits r-is =
    let sum = r-is ∙ ap₂ ◌+ℤ◌ (read_range z z-in) (half-read p p-fits) in
    word_read _ (rw sum (mag_sum z p z-in p-fits)) ∙ sum

module _ (s : Steps) (r : References) where
  pub sums_are : {x2 y2 x3 y3 : ℤ}
      → x2 ≡ r.x2 +ℤ s.pb2 → y2 ≡ r.y2 +ℤ s.pd2 → x3 ≡ r.x3 +ℤ s.pb3 → y3 ≡ r.y3 +ℤ s.pd3
      → record { x2 = x2; y2 = y2; x3 = x3; y3 = y3 } ≡ sums s r
  unfolding sums
  sums_are x2-is y2-is x3-is y3-is = rw (x2-is, y2-is, x3-is, y3-is)

-- What the first test of the four tells.
pub ranges_found : {t : Bool} (r : References) → t ≡ in_ranges r → not t ≡ false → in_ranges r ≡ true
ranges_found r t-is n = sym t-is ∙ not-false _ n

module _ (s : Steps) (r : References) {t : Bool} (t-is : t ≡ in_ranges r) where
  pub stepped_not : not t ≡ true → None ≡ stepped s r
  unfolding stepped
  stepped_not n = rw (sym t-is ∙ not-true _ n)

  module _ (n : not t ≡ false) {to : References} (to_is : to ≡ sums s r) {u : Bool} (u-is : u ≡ in_ranges to) where
    pub stepped_to : u ≡ true → Some to ≡ stepped s r
    unfolding stepped
    stepped_to in-range = rw (ranges_found r t-is n, sym to_is, sym u-is, in-range)

    pub stepped_out : u ≡ false → None ≡ stepped s r
    unfolding stepped
    stepped_out out = rw (ranges_found r t-is n, sym to_is, sym u-is, out)
