use Rattle.std.proofs.Common.{◌≡◌, ℤ, ℕ, ◌<◌, List, [], ◌∷◌, length, refl, ◌∙◌, arith}
use Rattle.digit_tuple.specs.Sets.{members_at}
use Rattle.reference.proofs.tuples.+members_in.Goals as goal
use Rattle.reference.proofs.tuples.+members_in.Goals.{in_default-via-then-sets-lt1, in_default-via-else-sets-lt1+then-this-lt1}

no_set : (sets : List (List ℤ)) (places : List ℕ) → length sets < 1 → [] ≡ members_at sets places
no_set [] places none = refl
no_set (set ∷ sets) places none = absurd (omega arith)

no_place : (sets : List (List ℤ)) (places : List ℕ) → length places < 1 → [] ≡ members_at sets places
no_place [] places none = refl
no_place (set ∷ sets) [] none = refl
no_place (set ∷ sets) (place ∷ places) none = absurd (omega arith)

pub returns-in_default : goal.returns-in_default
returns-in_default t c = c.new.ensures.items ∙ elim c.in_default.branch [
  | in_default-via-then-sets-lt1 w ↦ no_set c.args.sets.now c.args.places.now (grind arith)
  | in_default-via-else-sets-lt1+then-this-lt1 w ↦ no_place c.args.sets.now c.args.places.now (grind arith)
]
