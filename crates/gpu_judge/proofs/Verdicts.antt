-- What each test of a draw's input makes of the verdict. No contract cites this file. Assumes nothing.
use Prim.Native.Nat.{ℕ, zero, suc, ◌<◌, ◌≤◌, min}
use native.Mathlib.Omega.{arith}
use mathlib.Core.Path.{◌≡◌, refl, sym, ap, ◌∙◌}
use mathlib.Core.Bool.{Bool, true, false, cond, not, ◌&&◌, false≢true}
use mathlib.Core.List.{List}
use lib.Dec.{eqb, leb, ltb}
use lib.ListN.{length}
use borrow.Author.Tests.{eqb-true, eq-eqb, ne_eqb, ltb-true, ltb-false, leb-false, not-true, not-false, lt-ltb, le-ltb, le-leb, lt-leb}
use Rattle.std.specs.Result.{is_ok, result_unwrap_or}
use Rattle.std.specs.declared.result.Result.{Result}
use Rattle.std.specs.declared.result.Result.TheVariants.{Ok, Err}
use Rattle.bits.proofs.Booleans.{and_both}
use Rattle.memory.specs.Memory.{Memory, memory_lengths}
use Rattle.memory.specs.Sizes.{video_ram_size, palette_ram_size, oam_size, registers_size, display_height, output_size}
use Rattle.refusals.specs.declared.Refusal.{Refusal}
use Rattle.refusals.specs.declared.Refusal.TheVariants.{
  BadReading,
  BadLength,
  BadLine,
  BadMode,
  BadBldy,
  BadReference,
  BadEntry,
}
use Rattle.regs.specs.Registers.{dispcnt, bldy}
use Rattle.regs.specs.Display.{mode, force_blank, DisplayControlOf}
use Rattle.regs.specs.Reading.{reading_of, try_reading, counted}
use Rattle.regs.specs.declared.reading.Reading.{Reading}
use Rattle.regs.specs.declared.reading.Reading.TheVariants.{R, H}
use Rattle.regs.specs.declared.DisplayControl.{DisplayControl}
use Rattle.bg_points.specs.References.{in_ranges}
use Rattle.obj_entries.specs.Entry.{entries_size, shaped_row}
use Rattle.gpu_judge.specs.Judge.{Call, have_lengths, verdict}
use Rattle.gpu_judge.specs.Code.{Lengths, Ready, Pictured, lent_memory, next, request, judged, reading_number, call_in}
use Rattle.gpu_judge.specs.declared.Picture.{Picture}
use Rattle.gpu_judge.specs.declared.Picture.TheVariants.{Blank, Drawn}
use Rattle.gpu_judge.specs.declared.Request.{Request}

all_true : (a b c d e f : Bool) → (a && b && c && d && e && f) ≡ true
    → (a ≡ true) × (b ≡ true) × (c ≡ true) × (d ≡ true) × (e ≡ true) × (f ≡ true)
all_true a b c d e f h =
    let five = and_both (a && b && c && d && e) f h in
    let four = and_both (a && b && c && d) e five.0 in
    let three = and_both (a && b && c) d four.0 in
    let two = and_both (a && b) c three.0 in
    let one = and_both a b two.0 in
    (one.0, one.1, two.1, three.1, four.1, five.1)

pub lengths_are : (m : Memory) (entries output : List ℕ) → have_lengths m entries output ≡ true → Lengths m entries output
unfolding have_lengths
lengths_are m entries output h =
    let all =
    all_true (eqb (length m.vram) video_ram_size) (eqb (length m.palette) palette_ram_size)
    (eqb (length m.oam) oam_size) (eqb (length m.registers) registers_size)
    (eqb (length entries) entries_size) (eqb (length output) output_size) h
    in
    record {
      memory_is =
          record {
            vram_is = eqb-true _ _ all.0;
            palette_is = eqb-true _ _ all.1;
            oam_is = eqb-true _ _ all.2;
            registers_is = eqb-true _ _ all.3;
          };
      entries_is = eqb-true _ _ all.4;
      output_is = eqb-true _ _ all.5;
    }

-- ---- what code's tests make of the verdict

-- The premises are what the tests and calls that led to a return tell.
module _ (r : Request) (entries : List ℕ) where
  pub gives_line : 160 ≤ r.line → Err BadLine ≡ judged r entries
  unfolding judged
  gives_line late = rw (le-leb 160 _ late)

  module _ (l : r.line < 160) {d : DisplayControl} (d-is : DisplayControlOf (dispcnt r.memory.registers) d) where
    pub gives-blank : d.force_blank ≡ true → Ok Blank ≡ judged r entries
    unfolding judged
    gives-blank on = rw (lt-leb 160 _ l, sym d-is.blank_is ∙ on)

    module _ (off : d.force_blank ≡ false) where
      shown : force_blank (dispcnt r.memory.registers) ≡ false
      shown = sym d-is.blank_is ∙ off

      pub gives-mode : 5 < d.mode → Err BadMode ≡ judged r entries
      unfolding judged
      gives-mode late = rw (lt-leb 160 _ l, shown, sym d-is.mode_is, lt-ltb 5 _ late)

      module _ (early : d.mode ≤ 5) {y w : ℕ} (y_is : y ≡ bldy r.memory.registers) (w_is : w ≡ counted r.reading y) where
        moded : ltb 5 (mode (dispcnt r.memory.registers)) ≡ false
        moded = rw (sym d-is.mode_is) (le-ltb 5 _ early)

        weighed : counted r.reading (bldy r.memory.registers) ≡ w
        weighed = rw (sym y_is) (sym w_is)

        pub gives-bldy : 16 < w → Err BadBldy ≡ judged r entries
        unfolding judged
        gives-bldy high = rw (lt-leb 160 _ l, shown, moded, weighed, lt-ltb 16 _ high)

        module _ (low : w ≤ 16) {t : Bool} (t-is : t ≡ in_ranges r.references) where
          pub gives_reference : not t ≡ true → Err BadReference ≡ judged r entries
          unfolding judged
          gives_reference out = rw (lt-leb 160 _ l, shown, moded, weighed, le-ltb 16 _ low, sym t-is, out)

          module _ (in-range : not t ≡ false) {s : Bool} (s-is : s ≡ shaped_row entries) where
            pub gives_entry : not s ≡ true → Err BadEntry ≡ judged r entries
            unfolding judged
            gives_entry ill =
                rw (lt-leb 160 _ l, shown, moded, weighed, le-ltb 16 _ low, sym t-is, in-range, sym s-is, ill)

            pub gives_drawn : not s ≡ false → Ok Drawn ≡ judged r entries
            unfolding judged
            gives_drawn well =
                rw (lt-leb 160 _ l, shown, moded, weighed, le-ltb 16 _ low, sym t-is, in-range, sym s-is, well)

-- ---- the staircase

-- Forced blank tested in each row is forced blank tested once.
staircase : (blank late r high out ill : Bool)
    → cond (not blank && late) (Err BadMode)
    (cond (not blank && r && high) (Err BadBldy)
    (cond (not blank && out) (Err BadReference)
    (cond (not blank && ill) (Err BadEntry)
    (cond (not blank) (Ok Drawn) (Ok Blank)))))
    ≡ cond blank (Ok Blank)
    (cond late (Err BadMode) (cond (r && high) (Err BadBldy) (cond out (Err BadReference) (cond ill (Err BadEntry) (Ok Drawn)))))
staircase true late r high out ill = refl
staircase false late r high out ill = refl

-- EVY as a reading counts it is above 16 only with R.
evy_high : (n y : ℕ) → (eqb n 0 && ltb 16 y) ≡ ltb 16 (counted (reading_of n) y)
unfolding counted reading_of
evy_high zero y = refl
evy_high (suc n) y = rw (ne_eqb (suc n) 0 (λ e. omega (arith, e))) (sym (le-ltb 16 (min 16 y) (omega arith)))

-- What a draw asks for, if its reading is one.
abbrev pub asked : Call → Request
asked c = record { reading = reading_of c.reading; line = c.line; references = c.references; memory = c.memory }

-- The verdict is that of the first two tests, and then the rest's.
pub verdict_is : (c : Call) (entries output : List ℕ)
    → verdict c entries output
    ≡ cond (ltb 1 c.reading) (Err BadReading)
    (cond (not (have_lengths c.memory entries output)) (Err BadLength)
    (judged (asked c) entries))
unfolding verdict judged
verdict_is c entries output =
    ap
    (λ rest.
    cond (ltb 1 c.reading) (Err BadReading)
    (cond (not (have_lengths c.memory entries output)) (Err BadLength) (cond (leb display_height c.line) (Err BadLine) rest)))
    (staircase (force_blank (dispcnt c.memory.registers)) (ltb 5 (mode (dispcnt c.memory.registers)))
    (eqb c.reading 0) (ltb 16 (bldy c.memory.registers)) (not (in_ranges c.references)) (not (shaped_row entries))
    ∙ rw (evy_high c.reading (bldy c.memory.registers)) refl)

-- ---- what is asked for

-- A number is a reading's unless it is above 1.
read_by : (n : ℕ) → try_reading n ≡ cond (ltb 1 n) (Err BadReading) (Ok (reading_of n))
unfolding try_reading
read_by n = go (ltb 1 n) refl
  where
    go : (t : Bool) → ltb 1 n ≡ t
        → cond (leb n 1) (Ok (reading_of n)) (Err BadReading) ≡ cond t (Err BadReading) (Ok (reading_of n))
    go true t = rw (lt-leb n 1 (ltb-true 1 n t))
    go false t = rw (le-leb n 1 (ltb-false 1 n t))

module _ (c : Call) where
  asked_by : request c
      ≡ cond (ltb 1 c.reading) (Err BadReading) (cond (not (memory_lengths c.memory)) (Err BadLength) (Ok (asked c)))
  unfolding request lent_memory
  asked_by = rw (read_by c.reading) (go (ltb 1 c.reading) (memory_lengths c.memory))
    where
      go : (t u : Bool)
          → next (cond t (Err BadReading) (Ok (reading_of c.reading)))
          (λ reading.
          next (cond u (Ok c.memory) (Err BadLength))
          (λ memory. Ok (record { reading = reading; line = c.line; references = c.references; memory = memory })))
          ≡ cond t (Err BadReading) (cond (not u) (Err BadLength) (Ok (asked c)))
      go true u = refl
      go false true = refl
      go false false = refl

  -- The verdict is that of what is asked for, and of the entries' and the output's lengths.
  verdict_asked : (entries output : List ℕ)
      → verdict c entries output
      ≡ next (request c)
      (λ r.
      cond (not (eqb (length entries) entries_size && eqb (length output) output_size)) (Err BadLength) (judged r entries))
  unfolding have_lengths
  verdict_asked entries output =
      verdict_is c entries output
      ∙ go (ltb 1 c.reading) (memory_lengths c.memory) (eqb (length entries) entries_size) (eqb (length output) output_size)
      ∙ rw asked_by refl
    where
      go : (t u e o : Bool)
          → cond t (Err BadReading) (cond (not (u && e && o)) (Err BadLength) (judged (asked c) entries))
          ≡ next (cond t (Err BadReading) (cond (not u) (Err BadLength) (Ok (asked c))))
          (λ r. cond (not (e && o)) (Err BadLength) (judged r entries))
      go true u e o = refl
      go false false e o = refl
      go false true e o = refl

  module _ (entries output : List ℕ) where
    pub verdict_unasked : {e : Refusal} → request c ≡ Err e → verdict c entries output ≡ Err e
    verdict_unasked refused = verdict_asked entries output ∙ rw refused

    module _ {r : Request} (asks : request c ≡ Ok r) where
      pub verdict_short : (length entries ≡ entries_size → ⊥) → verdict c entries output ≡ Err BadLength
      verdict_short n = verdict_asked entries output ∙ rw (asks, ne_eqb (length entries) entries_size n)

      module _ (whole : length entries ≡ entries_size) where
        pub verdict_cut : (length output ≡ output_size → ⊥) → verdict c entries output ≡ Err BadLength
        verdict_cut n =
            verdict_asked entries output
            ∙ rw (asks, eq-eqb (length entries) entries_size whole, ne_eqb (length output) output_size n)

        pub verdict_judged : length output ≡ output_size → verdict c entries output ≡ judged r entries
        verdict_judged full =
            verdict_asked entries output
            ∙ rw (asks, eq-eqb (length entries) entries_size whole, eq-eqb (length output) output_size full)

-- A request that is made is for the draw.
reading_back : (n : ℕ) → n ≤ 1 → reading_number (reading_of n) ≡ n
unfolding reading_of
reading_back zero n≤ = refl
reading_back (suc n) n≤ = let e : n ≡ 0 = omega (arith, n≤) in rw e refl

pub call_asked : (c : Call) {r : Request} → request c ≡ Ok r → call_in r ≡ c
call_asked c {r} asks = go (ltb 1 c.reading) (memory_lengths c.memory) refl (sym (asked_by c) ∙ asks)
  where
    go : (t u : Bool) → ltb 1 c.reading ≡ t
        → cond t (Err BadReading) (cond (not u) (Err BadLength) (Ok (asked c))) ≡ Ok r → call_in r ≡ c
    go true u t-is same = absurd (false≢true (ap is_ok same))
    go false false t-is same = absurd (false≢true (ap is_ok same))
    go false true t-is same =
        let r_is : asked c ≡ r = ap (λ v. result_unwrap_or v (asked c)) same in
        rw (sym r_is) (rw (reading_back c.reading (ltb-false 1 c.reading t-is)) refl)

-- A reading is that of its number.
pub reading_read : (r : Reading) → reading_of (reading_number r) ≡ r
unfolding reading_of
reading_read R = refl
reading_read H = refl

-- ---- what a verdict tells

-- What holds of both answers of a test, each by what the test found, holds of the answer.
cond_cases : {A : Type 0} (P : A → Type 0) (t : Bool) {v w : A} → (t ≡ true → P v) → (t ≡ false → P w) → P (cond t v w)
cond_cases P true p q = p refl
cond_cases P false p q = q refl

-- What holds of each finding that the tests can lead to holds of what is found.
pub judged_cases : (r : Request) (entries : List ℕ) (P : Result Picture Refusal → Type 0)
    → P (Err BadLine)
    → (force_blank (dispcnt r.memory.registers) ≡ true → P (Ok Blank))
    → P (Err BadMode) → P (Err BadBldy) → P (Err BadReference) → (shaped_row entries ≡ false → P (Err BadEntry))
    → (Pictured r → shaped_row entries ≡ true → P (Ok Drawn))
    → P (judged r entries)
unfolding judged
judged_cases r entries P line blank bad-mode bad-bldy reference entry drawn =
    cond_cases P (leb display_height r.line) (λ _. line)
    (λ l. cond_cases P (force_blank (dispcnt r.memory.registers)) blank
    (λ lit. cond_cases P (ltb 5 (mode (dispcnt r.memory.registers))) (λ _. bad-mode)
    (λ m. cond_cases P (ltb 16 (counted r.reading (bldy r.memory.registers))) (λ _. bad-bldy)
    (λ y. cond_cases P (not (in_ranges r.references)) (λ _. reference)
    (λ i. cond_cases P (not (shaped_row entries)) (λ s. entry (not-true _ s))
    (λ s.
    drawn
    (record {
      line< = leb-false 160 r.line l;
      lit = lit;
      mode< = omega (arith, ltb-false 5 (mode (dispcnt r.memory.registers)) m);
      evy≤ = ltb-false 16 _ y;
      ranges = not-false _ i;
    })
    (not-false _ s)))))))

-- What is found of a request tells whether forced blank is on, and what the tests leave.
abbrev Tells : Request → Result Picture Refusal → Type 0
Tells r (Err _) = Unit {0}
Tells r (Ok Blank) = force_blank (dispcnt r.memory.registers) ≡ true
Tells r (Ok Drawn) = Pictured r

pub judged_tells : (r : Request) (entries : List ℕ) {v : Result Picture Refusal} → judged r entries ≡ v → Tells r v
judged_tells r entries v-is = rw (sym v-is) (judged_cases r entries (Tells r) tt (λ on. on) tt tt tt (λ _. tt) (λ p _. p))

module _ (c : Call) (entries output : List ℕ) where
  abbrev control : ℕ
  control = dispcnt c.memory.registers

  -- What holds of each verdict that the tests can lead to holds of the verdict.
  pub verdict_cases : (P : Result Picture Refusal → Type 0)
      → P (Err BadReading) → P (Err BadLength) → P (Err BadLine)
      → (force_blank control ≡ true → Lengths c.memory entries output → P (Ok Blank))
      → P (Err BadMode) → P (Err BadBldy) → P (Err BadReference) → (shaped_row entries ≡ false → P (Err BadEntry))
      → (force_blank control ≡ false → Ready c entries output → P (Ok Drawn))
      → P (verdict c entries output)
  verdict_cases P reading length line blank bad-mode bad-bldy reference entry drawn =
      rw (verdict_is c entries output)
      (cond_cases P (ltb 1 c.reading) (λ _. reading)
      (λ n. cond_cases P (not (have_lengths c.memory entries output)) (λ _. length)
      (λ u.
      judged_cases (asked c) entries P line (λ on. blank on (lengths_are _ _ _ (not-false _ u)))
      bad-mode bad-bldy reference entry
      (λ p s.
      drawn p.lit
      (record {
        lengths = lengths_are _ _ _ (not-false _ u);
        reading< = omega (arith, ltb-false 1 c.reading n);
        line< = p.line<;
        mode< = p.mode<;
        evy≤ = p.evy≤;
        ranges = p.ranges;
        shaped = s;
      })))))
