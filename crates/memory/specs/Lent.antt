-- As code has it: the lent memory, by its bytes (01, "What one draw takes and gives"). Assumes nothing.
use Rattle.memory.specs.Memory.{Memory, memory_from}
use Rattle.memory.specs.declared.Memory.TheInside.{Inside}

-- The bytes of the four buffers.
abbrev pub memory_bytes : Inside → Memory
memory_bytes m = memory_from m.vram.now m.palette.now m.oam.now m.registers.now
