-- As code has it: an entry's four bytes as one word (01, "What one draw takes and gives").
-- No exported contract reaches this file. Assumes nothing.
use Rattle.std.specs.Prelude.{ℕ, ◌/◌, ◌%◌}
use Rattle.rgb15.specs.Colour.{rgb}
use Rattle.obj_entries.specs.declared.Entry.{Entry}

-- The entry of a word: colour in bits 0 to 15, priority in bits 16 to 23, then marks.
abbrev pub entry_of_word : ℕ → Entry
entry_of_word w = record { color = rgb (w % 0x10000); priority = w / 0x10000 % 0x100; marks = w / 0x1000000 }
