-- Laws of the columns that are passed by. No contract cites this file. Assumes nothing.
use Prim.Native.Nat.{ℕ, ◌≤◌}
use native.Mathlib.Omega.{arith}
use mathlib.Core.Path.{◌≡◌}
use mathlib.Core.Bool.{true}
use mathlib.Core.Logic.{◌⊎◌, inl, inr}
use mathlib.Core.List.{List}
use borrow.Author.Tests.{le-leb}
use Rattle.obj_entries.specs.declared.Entry.{Entry}
use Rattle.obj_sprites.specs.declared.attrs.ObjAttrs.{ObjAttrs}
use Rattle.obj_sprites.specs.declared.attrs.ObjMode.{ObjMode}
use Rattle.obj.specs.Put.{passed_over}
use Rattle.obj.specs.Code.{Walked, WalkedBack, Closed, PassedOver}

-- ---- walks

module _ {P : ℕ → Type 0} {a b : ℕ} where
  pub walked_none : a ≤ b → Walked P a b a
  walked_none h = record { from = omega arith; to = h; passed = λ n from to. absurd (omega arith) }

  -- A walk towards a nearer end.
  pub walked_short : {c r : ℕ} → Walked P a b r → r ≤ c → Walked P a c r
  walked_short w h = record { from = w.from; to = h; passed = w.passed }

  pub walked_back_none : a ≤ b → WalkedBack P a b b
  walked_back_none h = record { from = h; to = omega arith; passed = λ n from to. absurd (omega arith) }

-- ---- columns

-- At a closed column an ordinary or a semi-transparent sprite is passed over.
passed_over_closed : (mode : ObjMode) (priority : ℕ) (e : Entry) → (mode ≡ ObjMode.Normal) ⊎ (mode ≡ ObjMode.Sfx)
    → e.priority ≤ priority
    → passed_over mode priority e ≡ true
unfolding passed_over
passed_over_closed mode priority e (inl mode_is) closed = rw mode_is (le-leb e.priority priority closed)
passed_over_closed mode priority e (inr mode_is) closed = rw mode_is (le-leb e.priority priority closed)

-- Walks over closed columns are walks over columns at which the sprite is passed over.
module _ (entries : List ℕ) (s : ObjAttrs) {mode : ObjMode} {priority : ℕ} (mode_is : s.objmode ≡ mode)
    (priority_is : s.priority ≡ priority) (one : (mode ≡ ObjMode.Normal) ⊎ (mode ≡ ObjMode.Sfx)) where
  pub walked_closed : {a b r : ℕ} → Walked (Closed entries priority) a b r → Walked (PassedOver entries s) a b r
  walked_closed w =
      record {
        from = w.from;
        to = w.to;
        passed = λ n from to. rw (mode_is, priority_is) (passed_over_closed mode priority _ one (w.passed n from to));
      }

  pub walked_back_closed : {a b r : ℕ} → WalkedBack (Closed entries priority) a b r
      → WalkedBack (PassedOver entries s) a b r
  walked_back_closed w =
      record {
        from = w.from;
        to = w.to;
        passed = λ n from to. rw (mode_is, priority_is) (passed_over_closed mode priority _ one (w.passed n from to));
      }
