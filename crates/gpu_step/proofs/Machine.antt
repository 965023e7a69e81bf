-- Signed numbers as the machine has them, by what fits. No contract cites this file. Assumes nothing.
use Prim.Native.Nat.{◌^◌, ◌<◌}
use mathlib.Core.Path.{◌≡◌}
use lib.IntN.{ℤ}
use lib.Signed.{mag}
use mir.Syntax.{w16, w32}
use mir.Val.{to_z, of_z}
use mir.Facts.{to_z-of_z}
use Rattle.bg_points.specs.declared.references.References.{References}
use Rattle.gpu_step.specs.declared.Steps.{Steps}

-- A number of 32 bits, or of 16, is read back as it was.
pub word_read : (z : ℤ) → mag z < 2 ^ 31 → to_z w32 (of_z w32 z) ≡ z
word_read z fits = to_z-of_z {w = w32} (record { sfits = fits })

pub half-read : (z : ℤ) → mag z < 2 ^ 15 → to_z w16 (of_z w16 z) ≡ z
half-read z fits = to_z-of_z {w = w16} (record { sfits = fits })

-- The four numbers as the machine has them.
abbrev pub machine : References → References
machine r =
    record {
      x2 = to_z w32 (of_z w32 r.x2);
      y2 = to_z w32 (of_z w32 r.y2);
      x3 = to_z w32 (of_z w32 r.x3);
      y3 = to_z w32 (of_z w32 r.y3);
    }

pub references-read : (r : References) → mag r.x2 < 2 ^ 31 → mag r.y2 < 2 ^ 31 → mag r.x3 < 2 ^ 31 → mag r.y3 < 2 ^ 31
    → machine r ≡ r
references-read r x2< y2< x3< y3< =
    rw (word_read r.x2 x2<, word_read r.y2 y2<, word_read r.x3 x3<, word_read r.y3 y3<)

pub steps-read : (s : Steps) → mag s.pb2 < 2 ^ 15 → mag s.pd2 < 2 ^ 15 → mag s.pb3 < 2 ^ 15 → mag s.pd3 < 2 ^ 15
    → record {
      pb2 = to_z w16 (of_z w16 s.pb2);
      pd2 = to_z w16 (of_z w16 s.pd2);
      pb3 = to_z w16 (of_z w16 s.pb3);
      pd3 = to_z w16 (of_z w16 s.pd3);
    }
    ≡ s
steps-read s pb2< pd2< pb3< pd3< =
    rw (half-read s.pb2 pb2<, half-read s.pd2 pd2<, half-read s.pb3 pb3<, half-read s.pd3 pd3<)
