-- What a conversion of lent bytes tells that gives no array. No contract cites this file. Assumes nothing.
use mathlib.Core.Path.{◌≡◌, sym, ap, ◌∙◌}
use mathlib.Core.Bool.{false≢true}
use Rattle.std.specs.Option.{IsSome, is_some, ok_or}
use Rattle.std.specs.declared.option.Option.{Option}
use Rattle.std.specs.declared.option.Option.TheVariants.{None}
use Rattle.std.specs.declared.result.Result.{Result}
use Rattle.std.specs.declared.result.Result.TheVariants.{Ok, Err}
use Rattle.refusals.specs.declared.Refusal.{Refusal}

abbrev refusal_in : {A : Type 0} → Result A Refusal → Refusal → Refusal
refusal_in (Ok _) other = other
refusal_in (Err e) other = e

-- The length is another, and the refusal is the one that is given.
pub missing_array : {A : Type 0} {o : Option A} {P : Type 0} {e x : Refusal} → (P → IsSome o) → o ≡ None
    → ◌≡◌ {A = Result A Refusal} (Err e) (ok_or o x) → (P → ⊥) × (e ≡ x)
missing_array {e} {x} some gave same =
    let err : ◌≡◌ {A = Result _ Refusal} (Err e) (Err x) = same ∙ ap (λ o. ok_or o x) gave in (
      (λ size. false≢true (ap is_some (sym gave) ∙ some size)),
      ap (λ r. refusal_in r x) err,
    )
