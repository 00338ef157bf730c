-- The relations of listed automata that have the systems of the first have one shape.
use Rattle.std.proofs.Common.{◌≡◌, ◌≢◌, ℕ, zero, suc, ◌<◌, List, [], ◌∷◌, length, Some, refl, sym, ap, subst, arith}
use Rattle.std.specs.List.{AllByRecursion}
use Rattle.combinations.specs.Parts.{PartValue, systems_at}
use Rattle.combinations.specs.Shapes as shapes
use Rattle.combinations.specs.Shapes.{HaveSameTracks}
use Rattle.command_head.specs.Heads.{ValuedName}
use Rattle.command_head.specs.declared.head.ValuedName as valued
use Rattle.plan_relations.specs.Libraries.{NamedRelation, relation_named}
use Rattle.named_systems.specs.NamedSystems.{NamedSystem}
use Rattle.formula_resolve.specs.Headers.{Headers, automaton_tracks}
use Rattle.num_system.specs.Sealed.{SystemValue}
use Rattle.number_relations.specs.Relations.{RelationValue}
use Rattle.word_commands.specs.CombineMakes.{automata_in}
use Rattle.word_commands.specs.CombineOutcomes.{listed_names, HaveSystemsOfFirst}
use Rattle.word_commands.specs.CombineSteps.{ArePartsFrom}
use Rattle.command_parts.proofs.TableRelations.{AreUnder, one_under, as_many_under}

-- the relations are over these systems
abbrev pub AreAllOver : List SystemValue → List PartValue → Type 0
AreAllOver ss parts = AllByRecursion (λ (p : PartValue). p.relation.systems ≡ ss) parts

at_place : (ss : List SystemValue) (parts : List PartValue) (place : ℕ) → AreAllOver ss parts → place < length parts → systems_at parts place ≡ ss
at_place ss [] place all within = absurd (omega (arith, within))
at_place ss (p ∷ parts) zero all within = all.0
at_place ss (p ∷ parts) (suc place) all within = at_place ss parts place all.1 (omega (arith, within))

same_tracks : (ss : List SystemValue) → HaveSameTracks ss ss
same_tracks ss = record { count = refl; each = λ track within. record { digits = refl; direction = refl; language = λ w over. refl } }

-- relations over the same systems have one shape
shaped : (ss : List SystemValue) (parts : List PartValue) → 0 < length ss → AreAllOver ss parts → shapes.HaveOneShape parts
shaped ss parts some all place within =
    let first : systems_at parts 0 ≡ ss = at_place ss parts 0 all (omega (arith, within)) in
    let other : systems_at parts place ≡ ss = at_place ss parts place all within in
    (subst (λ (xs : List SystemValue). 0 < length xs) (sym first) some, subst (λ (xs : List SystemValue). HaveSameTracks xs (systems_at parts place)) (sym first) (subst (λ (xs : List SystemValue). HaveSameTracks ss xs) (sym other) (same_tracks ss)))

-- some automata have some relations
pub some_parts : (relations : List NamedRelation) (place : ℕ) (automata : List ValuedName) (parts : List PartValue) → ArePartsFrom relations place automata parts → automata ≢ [] → parts ≢ []
some_parts relations place [] parts are some = absurd (some refl)
some_parts relations place (v ∷ automata) [] are some = absurd are
some_parts relations place (v ∷ automata) (p ∷ parts) are some = λ none. let e : suc (length parts) ≡ 0 = ap length none in omega (arith, e)

module _ (systems : List NamedSystem) (h : Headers) (relations : List NamedRelation) (under : (name : List ℕ) (r : RelationValue) → relation_named relations name ≡ Some r → AreUnder systems (automaton_tracks h name) r.systems) where
  -- those of names with these tracks are over these systems
  all_over : (names : List (List ℕ)) (ss : List SystemValue) → AreUnder systems names ss → (place : ℕ) (automata : List ValuedName) (parts : List PartValue) → ArePartsFrom relations place automata parts
      → AllByRecursion (λ name. automaton_tracks h name ≡ names) (listed_names automata) → AreAllOver ss parts
  all_over names ss there place [] [] are same = tt
  all_over names ss there place [] (p ∷ parts) are same = absurd are
  all_over names ss there place (v ∷ automata) [] are same = absurd are
  all_over names ss there place (v ∷ automata) (p ∷ parts) (is, value, rest) same =
      let own : AreUnder systems names p.relation.systems = subst (λ (ns : List (List ℕ)). AreUnder systems ns p.relation.systems) same.0 (under v.name p.relation is) in
      (one_under systems names p.relation.systems ss own there, all_over names ss there (suc place) automata parts rest same.1)

  pub parts_shaped : (automata : List ValuedName) (parts : List PartValue) → ArePartsFrom relations 0 automata parts → HaveSystemsOfFirst h (listed_names automata) → shapes.HaveOneShape parts
  parts_shaped [] parts are shape = absurd shape
  parts_shaped (v ∷ automata) [] are shape = absurd are
  parts_shaped (v ∷ automata) (p ∷ parts) (is, value, rest) shape =
      let names : List (List ℕ) = automaton_tracks h v.name in
      let own : AreUnder systems names p.relation.systems = under v.name p.relation is in
      let count : length p.relation.systems ≡ length names = as_many_under systems names p.relation.systems own in
      shaped p.relation.systems (p ∷ parts) (some names p.relation.systems count shape.0) (refl, all_over names p.relation.systems own 1 automata parts rest shape.1)
    where
      some : (names : List (List ℕ)) (ss : List SystemValue) → length ss ≡ length names → names ≢ [] → 0 < length ss
      some [] ss count named = absurd (named refl)
      some (name ∷ names) ss count named = omega (arith, count)

-- some automata are some, however they lie in memory
pub some_automata : (automata : List valued.ValuedName) → automata ≢ [] → automata_in automata ≢ []
some_automata [] some = absurd (some refl)
some_automata (v ∷ automata) some = λ none. let e : suc (length (automata_in automata)) ≡ 0 = ap length none in omega (arith, e)
