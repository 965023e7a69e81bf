-- Object entries (01, "What one draw takes and gives"). Assumes nothing.
use Rattle.std.specs.Prelude.{ℕ, ◌+◌, ◌*◌, ◌/◌, ◌%◌, refl, Bool, not, ◌&&◌, ◌||◌, List, [], ◌∷◌, eqb, leb, get_or}
use Rattle.std.proofs.Common.{arith, ap}
use Rattle.bits.specs.Bits.{bit}
use Rattle.rgb15.specs.Colour.{rgb, transparent}
use Rattle.memory.specs.Sizes.{display_width}
use Rattle.rows.specs.Below.{all_below}
use Rattle.rows.specs.Cells.{Codec, cell_at, row_of}
use Rattle.obj_entries.specs.declared.Entry.{Entry}

-- A row of entries has 960 bytes, 240 of 4.
abbrev pub entries_size : ℕ
entries_size = 960

-- An entry is colour (two bytes, little-endian), priority, marks.
unfoldable pub entry_cells : Codec Entry 4
entry_cells =
    record {
      enc = λ e. e.color.0 % 256 ∷ e.color.0 / 256 ∷ e.priority ∷ e.marks ∷ [];
      dec = λ bs. record { color = rgb (get_or bs 0 0 + 256 * get_or bs 1 0); priority = get_or bs 2 0; marks = get_or bs 3 0 };
      length_enc = λ e. refl;
      dec_enc = λ e. ap (λ c. record { color = rgb c; priority = e.priority; marks = e.marks }) (omega arith);
    }

-- The semi-transparent mark is bit 0.
abbrev pub semi_mark : Entry → Bool
semi_mark e = bit 0 e.marks

-- The window mark is bit 1.
abbrev pub window_mark : Entry → Bool
window_mark e = bit 1 e.marks

-- The reset entry has colour 0x8000, priority 4, marks 0.
abbrev pub reset_entry : Entry
reset_entry = record { color = rgb transparent; priority = 4; marks = 0 }

-- The reset row has 240 reset entries.
abbrev pub reset_row : List ℕ
reset_row = row_of entry_cells (λ _. reset_entry) display_width

-- A well-shaped entry has marks at most 3 and either priority 4 with colour 0x8000 and bit 0 clear, or priority 0 to 3
-- with colour at most 0x7fff.
unfoldable pub well_shaped : Entry → Bool
well_shaped e =
    leb e.marks 3
    && ((eqb e.priority 4 && eqb e.color.0 transparent && not (semi_mark e))
    || (leb e.priority 3 && leb e.color.0 0x7fff))

-- Whether each of a row's 240 entries is well shaped.
abbrev pub shaped_row : List ℕ → Bool
shaped_row entries = all_below (λ k. well_shaped (cell_at entry_cells entries k)) display_width
