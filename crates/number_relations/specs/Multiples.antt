-- Multiples of a number by a factor, made by doubling.
use Rattle.std.specs.Prelude.{◌≡◌, ℕ, zero, suc, ◌*◌, ◌/◌, ◌%◌, ◌-◌, nat_eq, nat_lt, List, [], ◌∷◌, map, Result, ◌⊎◌, ◌↔◌, if◌then◌else◌}
use Rattle.std.specs.List.{AllByRecursion, Contains}
use Rattle.digit_tuple.specs.StepResults.{Then}
use Rattle.digit_tuple.specs.Steps.{StepLog}
use Rattle.digit_tuple.specs.declared.step_fault.StepFault.{StepFault}
use Rattle.product_op.specs.declared.op.Op.TheVariants.{And}
use Rattle.num_system.specs.Sealed.{SystemValue}
use Rattle.num_system.specs.declared.comparison.Comparison.TheVariants.{Equal}
use Rattle.automaton_steps.specs.Makings.{DoesStep, Gives, WithSome}
use Rattle.number_relations.specs.Relations.{RelationValue, IsRelation, RelationHolds}
use Rattle.number_relations.specs.Comparisons.{IsAnyNumber, IsComparison, IsSumRelation}
use Rattle.number_relations.specs.Constants.{relation_constant_step}
use Rattle.number_relations.specs.Joins.{relation_join_step}
use Rattle.number_relations.specs.Projections.{relation_project_step}

-- a relation on two numbers of a system, which holds where the second is so many times the first
pub record IsMultiple (system : SystemValue) (factor : ℕ) (x y : List ℕ) (r : RelationValue) : Type 0 where
  pub relation : IsRelation r
  pub names : (name : List ℕ) → Contains r.names name ↔ ((name ≡ x) ⊎ (name ≡ y))
  pub systems : AllByRecursion (λ (s : SystemValue). s ≡ system) r.systems
  pub holds_of : (number_of : List ℕ → ℕ) → RelationHolds r (map number_of r.names) ↔ (number_of y ≡ factor * number_of x)

-- the factor whose multiple another one's is made from: half of an even one, one less than an odd one
abbrev pub lesser_factor : ℕ → ℕ
lesser_factor c = if nat_eq (c % 2) 0 then c / 2 else c - 1

-- the factors above 2 of which each is made from the next one, from this one down, so many at most
abbrev pub factors_within : ℕ → ℕ → List ℕ
factors_within zero c = []
factors_within (suc few) c = if nat_lt 2 c then c ∷ factors_within few (lesser_factor c) else []

abbrev pub factors : ℕ → List ℕ
factors c = factors_within c c

-- what is added to the lesser multiple w of x: itself for an even factor, x for an odd one
abbrev pub addend : ℕ → List ℕ → List ℕ → List ℕ
addend c x w = if nat_eq (c % 2) 0 then w else x

-- A lesser multiple, under the name w, is joined with the relation that y is the sum of w and z, by the step product, and then w is
-- dropped, by the step project.
abbrev pub DoesGrowth : SystemValue → List ℕ → List ℕ → List ℕ → RelationValue → StepLog → Result RelationValue StepFault → StepLog → Type 0
DoesGrowth system z y w lesser =
    WithSome (IsSumRelation system w z y) (λ sum. Then (DoesStep (relation_join_step And lesser sum)) (λ joined. DoesStep (relation_project_step w joined)))

-- the multiple of x by the first of the factors is y, each made from the next one, and the last from the double: y and w are the
-- names of the multiples in turn
abbrev pub DoesGrown : SystemValue → List ℕ → List ℕ → List ℕ → List ℕ → StepLog → Result RelationValue StepFault → StepLog → Type 0
DoesGrown system [] x y w = WithSome (IsSumRelation system x x y) Gives
DoesGrown system (c ∷ cs) x y w = Then (DoesGrown system cs x w y) (DoesGrowth system (addend c x w) y w)

-- The multiple of x by a factor is y. By 0 it is the constant 0 on y, made by the step const, and joined with any number on x, by the
-- step product.
abbrev pub DoesMultiple : SystemValue → ℕ → List ℕ → List ℕ → List ℕ → StepLog → Result RelationValue StepFault → StepLog → Type 0
DoesMultiple system zero x y w =
    Then (DoesStep (relation_constant_step system 0 y)) (λ zero_is. WithSome (IsAnyNumber system x) (λ number. DoesStep (relation_join_step And zero_is number)))
DoesMultiple system (suc zero) x y w = WithSome (IsComparison system Equal x y) Gives
DoesMultiple system (suc (suc c)) x y w = DoesGrown system (factors (suc (suc c))) x y w
