-- gpu_bus::write_8 meets its contract: a law for each return.
-- Assumes nothing.
use mathlib.Core.Bool.{not}
use mathlib.Core.Path.{◌≡◌, ap}
use borrow.Author.Rules.{rules}
use Rattle.regs.specs.Registers.{dispcnt}
use Rattle.regs.specs.Display.{mode}
use Rattle.gpu_pages.specs.declared.Page.TheVariants.{Vram}
use Rattle.gpu_bus.specs.Store.{takes_byte}
use Rattle.gpu_bus.proofs.Lengths.{video-half}
use Rattle.refusals.specs.Refusal.{refusal_number, outcome_number}
use Rattle.gpu_bus.proofs.Answers.{singles, byte_palette, byte_video}
use Rattle.gpu_bus.proofs.write_8.Goals as goal

pub returns-in_err-registers : goal.returns-in_err-registers
unfolding outcome_number refusal_number
returns-in_err-registers c = search (rules, singles)

pub returns-then-not-have_lengths : goal.returns-then-not-have_lengths
unfolding outcome_number refusal_number
returns-then-not-have_lengths c = search (rules, singles)

pub returns-in-Palram : goal.returns-in-Palram
unfolding outcome_number refusal_number
returns-in-Palram c =
    let a = c.args in
    byte_palette a.registers.now a.addr a.value a.vram.now a.palette.now a.oam.now c.have_lengths.ensures (search rules)
    (ap not c.if-not-have_lengths.false) c.page_of.ensures _ c.expand_value.ensures c.even.ensures c.in-Palram.is
    c.small_offset.ensures.0 c.put_half.ensures

pub returns-then-takes_byte : goal.returns-then-takes_byte
unfolding outcome_number refusal_number
returns-then-takes_byte c =
    let a = c.args in
    let taken : c.takes_byte.result ≡ takes_byte (mode (dispcnt a.registers.now)) Vram c.video_offset-ofs.result = search rules in
    byte_video a.registers.now a.addr a.value a.vram.now a.palette.now a.oam.now c.have_lengths.ensures (search rules)
    (ap not c.if-not-have_lengths.false) c.page_of.ensures c.in-Vram.is c.video_offset-ofs.ensures.0 taken c.if-takes_byte.true _
    c.expand_value-then-takes_byte.ensures c.even-then-takes_byte.ensures c.put_half-then-takes_byte.ensures

pub returns-else-takes_byte : goal.returns-else-takes_byte
unfolding outcome_number refusal_number
returns-else-takes_byte c = search (rules, singles)

pub returns-in-Oam : goal.returns-in-Oam
unfolding outcome_number refusal_number
returns-in-Oam c = search (rules, singles)

pub returns-in-Other : goal.returns-in-Other
unfolding outcome_number refusal_number
returns-in-Other c = search (rules, singles)

-- The halfword lies in video memory.
pub put_half-requires-then-takes_byte : goal.put_half-requires-then-takes_byte
put_half-requires-then-takes_byte c =
    video-half _ _ _ c.have_lengths.ensures (ap not c.if-not-have_lengths.false)
    c.even-then-takes_byte.ensures c.video_offset-ofs.ensures.1
