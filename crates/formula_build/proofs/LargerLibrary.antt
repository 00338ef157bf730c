-- What is built with a library is built with a larger one.
use Rattle.std.proofs.Common.{◌≡◌, ℕ, Bool, true, false, List, [], ◌∷◌, ◌++◌, Some, Result, Ok, Err, inl, inr, refl, sym, ap, subst, if◌then◌else◌}
use Rattle.std.specs.Str.{bytes_eq}
use Rattle.digit_tuple.specs.Steps.{StepLog}
use Rattle.digit_tuple.specs.declared.step_fault.StepFault.{StepFault}
use Rattle.num_system.specs.Sealed.{SystemValue}
use Rattle.number_relations.specs.Relations.{RelationValue}
use Rattle.word_output.specs.Words.{WordValue}
use Rattle.term_plans.specs.Plans.{Plan, Made, compared, added, number, called, lettered, renamed, constant, joined, paired, complement, projected}
use Rattle.named_systems.proofs.NamedLemmas.{named_first}
use Rattle.plan_relations.specs.Libraries.{LibraryValue, NamedRelation, NamedWord, IsLibrary, IsSystemIn, IsRelationIn, IsWordIn, relation_named, word_named}
use Rattle.named_systems.specs.NamedSystems.{NamedSystem, AreSealed, system_named}
use Rattle.plan_relations.specs.Makings.{Makes}
use Rattle.plan_relations.specs.Building.{Builds, DoesLastStep, DoesSteps}
use Rattle.formula_build.specs.Solutions.{BuildsFormula}
use Rattle.formula_build.specs.OneBuilding.{Agree}

-- what a name means in the one it means in the other
pub record IsWithin (l n : LibraryValue) : Type 0 where
  pub relations : (name : List ℕ) (r : RelationValue) → IsRelationIn l name r → IsRelationIn n name r
  pub words : (name : List ℕ) (w : WordValue) → IsWordIn l name w → IsWordIn n name w
  pub systems : (name : List ℕ) (s : SystemValue) → IsSystemIn l name s → IsSystemIn n name s

-- the systems of both, and the relations and words of the first
abbrev pub both : LibraryValue → LibraryValue → LibraryValue
both l m = record { relations = l.relations; words = l.words; systems = l.systems ++ m.systems }

sealed_both : (ss ts : List NamedSystem) → AreSealed ss → AreSealed ts → AreSealed (ss ++ ts)
sealed_both [] ts first second = second
sealed_both (s ∷ ss) ts first second = (first.0, sealed_both ss ts first.1 second)

pub both_library : (l m : LibraryValue) → IsLibrary l → IsLibrary m → IsLibrary (both l m)
both_library l m first second = record { relations = first.relations; words = first.words; systems = sealed_both l.systems m.systems first.systems second.systems }

named_second : (ss ts : List NamedSystem) (name : List ℕ) (s : SystemValue) → ((t : SystemValue) → system_named ss name ≡ Some t → t ≡ s) → system_named ts name ≡ Some s → system_named (ss ++ ts) name ≡ Some s
named_second [] ts name s same is = is
named_second (n ∷ ss) ts name s same is = by (bytes_eq n.name name) (λ (alike : (t : SystemValue) → system_named ss name ≡ Some t → t ≡ s). named_second ss ts name s alike is) same
  where
    by : (b : Bool) → (((t : SystemValue) → system_named ss name ≡ Some t → t ≡ s) → system_named (ss ++ ts) name ≡ Some s)
        → ((t : SystemValue) → (if b then Some n.system else system_named ss name) ≡ Some t → t ≡ s) → (if b then Some n.system else system_named (ss ++ ts) name) ≡ Some s
    by true rest same = ap Some (same n.system refl)
    by false rest same = rest same

pub first_within : (l m : LibraryValue) → IsWithin l (both l m)
first_within l m = record { relations = λ name r is. is; words = λ name w is. is; systems = λ name s is. named_first l.systems m.systems name s is }

pub second_within : (l m : LibraryValue) → Agree l m → IsWithin m (both l m)
second_within l m agree = record {
  relations = λ name r is. subst (λ (rs : List NamedRelation). relation_named rs name ≡ Some r) (sym agree.relations) is;
  words = λ name w is. subst (λ (ws : List NamedWord). word_named ws name ≡ Some w) (sym agree.words) is;
  systems = λ name s is. named_second l.systems m.systems name s (λ t there. agree.systems name t s there is) is;
}

module _ (l n : LibraryValue) (within : IsWithin l n) where
  pub makes_within : (p : Plan) (c : RelationValue) → Makes l p c → Makes n p c
  makes_within (compared y r s t) c (system, is, makes) = (system, within.systems y system is, makes)
  makes_within (added y s t u) c (system, is, makes) = (system, within.systems y system is, makes)
  makes_within (number y t) c (system, is, makes) = (system, within.systems y system is, makes)
  makes_within (called y ts) c (r, is, makes) = (r, within.relations y r is, makes)
  makes_within (lettered y ts r b) c (w, is, makes) = (w, within.words y w is, makes)
  makes_within (renamed s t p) c (a, is, makes) = (a, makes_within p a is, makes)
  makes_within (constant y k t) c (system, is, makes) = (system, within.systems y system is, makes)
  makes_within (joined j p q) c (a, b, is, also, makes) = (a, b, makes_within p a is, makes_within q b also, makes)
  makes_within (paired x ts r y us) c (v, w, is, also, makes) = (v, w, within.words x v is, within.words y w also, makes)
  makes_within (complement p) c (a, is, makes) = (a, makes_within p a is, makes)
  makes_within (projected t p) c (a, is, makes) = (a, makes_within p a is, makes)

  steps_within : (p : Plan) (old new : StepLog) (result : Result RelationValue StepFault) → DoesLastStep l p old result new → DoesLastStep n p old result new
  steps_within (constant y k t) old new result (system, is, does) = (system, within.systems y system is, does)
  steps_within (joined j p q) old new result (a, b, is, also, does) = (a, b, makes_within p a is, makes_within q b also, does)
  steps_within (paired x ts r y us) old new result (v, w, is, also, does) = (v, w, within.words x v is, within.words y w also, does)
  steps_within (complement p) old new result (a, is, does) = (a, makes_within p a is, does)
  steps_within (projected t p) old new result (a, is, does) = (a, makes_within p a is, does)
  steps_within _ old new result does = absurd does

  all_within : (ps : List Plan) (last : Plan) (old new : StepLog) (result : Result RelationValue StepFault) → DoesSteps l ps last old result new → DoesSteps n ps last old result new
  all_within [] last old new result (inl out) = inl out
  all_within [] last old new result (inr (c, makes, given)) = inr (c, makes_within last c makes, given)
  all_within (p ∷ ps) last old new result (inl (made, mid, first, rest)) = inl (made, mid, steps_within p old mid (Ok made) first, all_within ps last mid new result rest)
  all_within (p ∷ ps) last old new result (inr (fault, refused, is)) = inr (fault, steps_within p old new (Err fault) refused, is)

  built_within : (ps : List Plan) (last : Plan) (old new : StepLog) (result : Result RelationValue StepFault) → Builds l ps last old result new → Builds n ps last old result new
  built_within ps last old new result (inl out) = inl out
  built_within ps last old new result (inr does) = inr (all_within ps last old new result does)

  pub builds_within : (old new : StepLog) (p : Made) (result : Result RelationValue StepFault) → BuildsFormula l p old result new → BuildsFormula n p old result new
  builds_within old new p result (inl (made, mid, built, ordered)) = inl (made, mid, built_within p.steps p.last old mid (Ok made) built, ordered)
  builds_within old new p result (inr (fault, stopped, is)) = inr (fault, built_within p.steps p.last old new (Err fault) stopped, is)
