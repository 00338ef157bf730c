-- The relation that was built of a formula, as what its text says.
use Rattle.std.proofs.Common.{◌≡◌, ◌≢◌, ◌↔◌, ℕ, Bool, List, [], ◌∷◌, length, map, IsTrue, refl, sym, ap, ◌∙◌, subst, arith}
use Rattle.std.specs.List.{AllByRecursion}
use Rattle.std.proofs.lemmas.List.{length-map}
use Rattle.digit_tuple.specs.Names.{AreDistinct}
use Rattle.digit_tuple.specs.Systems.{IsDigitCount}
use Rattle.digit_tuple.specs.declared.direction.Direction.{Direction}
use Rattle.digit_tuple.specs.declared.header.Header.TheVariants as headers
use Rattle.digit_tuple.specs.declared.systems.SystemTrack.{SystemTrack}
use Rattle.numeration.specs.Relations.{HoldsOf}
use Rattle.numeration.specs.Systems.{System}
use Rattle.num_system.specs.Sealed as sealed
use Rattle.num_system.specs.Sealed.{SystemValue}
use Rattle.num_system.specs.Tracks as relations
use Rattle.number_relations.specs.Relations.{RelationValue, RelationHolds}
use Rattle.num_system.proofs.HoldLemmas.{holds_same}
use Rattle.formula_parse.specs.Trees as trees
use Rattle.formula_resolve.specs.declared.variable.Variable as resolved
use Rattle.formula_truth.specs.Truth.{Holds}
use Rattle.formula_truth.proofs.MeaningLemmas.{MeanTheSame, meanings_matter}
use Rattle.plan_relations.specs.Libraries.{LibraryValue, meanings_of}
use Rattle.formula_build.specs.Solutions.{IsSolution}
use Rattle.formula_build.specs.VariableTracks.{AreSystemsOf, IsOverVariables}
use Rattle.dfa_text.specs.RelationText.{relation_text}
use Rattle.definitions.specs.Tracks.{systems_of, header_tracks, track_of}
use Rattle.definitions.specs.Trees.{Variable, Bindings}
use Rattle.system_files.specs.SystemFiles.{Custom}
use Rattle.definitions.specs.Named.{IsSystemNamed, AreNamed}
use Rattle.definitions.specs.FormulaTexts.{IsSolvedBy, named_systems, IsSolutionText, HasTruth}
use Rattle.definitions.specs.TreeMeanings.{assigned, meanings_in}
use Rattle.command_parts.specs.FormulaSteps.{AreMeant}
use Rattle.command_parts.specs.FormulaLoads.{tracks_over, automaton_text}
use Rattle.formula_commands.specs.VariablesOver.{variable_over, variables_over}
use Rattle.formula_commands.proofs.FormulaCheckNames.{AreVariables}
use Rattle.command_parts.proofs.MeantNames.{found_meant, named_digits}
use Rattle.definitions.proofs.AssignedLemmas.{names_of_variables, assigned_numbers}

-- the variables are over the systems that their names mean
pub are_variables : (custom : Custom) (l : LibraryValue) (found : List resolved.Variable) (ss : List SystemValue) → AreMeant custom l.systems → AreSystemsOf l found ss → AreVariables custom found (variables_over found ss)
are_variables custom l [] [] are over = tt
are_variables custom l [] (s ∷ ss) are over = absurd over
are_variables custom l (v ∷ found) [] are over = absurd over
are_variables custom l (v ∷ found) (s ∷ ss) are over =
    (record { name_is = refl; system_is = refl; means = found_meant custom l.systems v.system s are over.0 }, are_variables custom l found ss are over.1)

module _ (l : LibraryValue) where
  pub as_many : (found : List resolved.Variable) (ss : List SystemValue) → AreSystemsOf l found ss → length found ≡ length ss
  as_many [] [] over = refl
  as_many [] (s ∷ ss) over = absurd over
  as_many (v ∷ found) [] over = absurd over
  as_many (v ∷ found) (s ∷ ss) over = omega (arith, as_many found ss over.1)

  over_count : (found : List resolved.Variable) (ss : List SystemValue) → AreSystemsOf l found ss → length (variables_over found ss) ≡ length ss
  over_count [] [] over = refl
  over_count [] (s ∷ ss) over = absurd over
  over_count (v ∷ found) [] over = absurd over
  over_count (v ∷ found) (s ∷ ss) over = omega (arith, over_count found ss over.1)

  over_names : (found : List resolved.Variable) (ss : List SystemValue) → AreSystemsOf l found ss → names_of_variables (variables_over found ss) ≡ map (λ (v : resolved.Variable). v.name) found
  over_names [] [] over = refl
  over_names [] (s ∷ ss) over = absurd over
  over_names (v ∷ found) [] over = absurd over
  over_names (v ∷ found) (s ∷ ss) over = ap (λ (ns : List (List ℕ)). v.name ∷ ns) (over_names found ss over.1)

  over_systems : (found : List resolved.Variable) (ss : List SystemValue) → AreSystemsOf l found ss → systems_of (named_systems (variables_over found ss)) ≡ relations.systems_of ss
  over_systems [] [] over = refl
  over_systems [] (s ∷ ss) over = absurd over
  over_systems (v ∷ found) [] over = absurd over
  over_systems (v ∷ found) (s ∷ ss) over = ap (λ (xs : List System). sealed.system_of s ∷ xs) (over_systems found ss over.1)

over_tracks : (found : List resolved.Variable) (ss : List SystemValue) → header_tracks (named_systems (variables_over found ss)) ≡ tracks_over found ss
over_tracks [] ss = refl
over_tracks (v ∷ found) [] = refl
over_tracks (v ∷ found) (s ∷ ss) = ap (λ (ts : List SystemTrack). track_of (variable_over v s).system ∷ ts) (over_tracks found ss)

over_directions : (direction : Direction) (found : List resolved.Variable) (ss : List SystemValue) → AllByRecursion (λ (s : SystemValue). s.direction ≡ direction) ss → AllByRecursion (λ (v : Variable). v.direction ≡ direction) (variables_over found ss)
over_directions direction [] ss directions = tt
over_directions direction (v ∷ found) [] directions = tt
over_directions direction (v ∷ found) (s ∷ ss) directions = (directions.0, over_directions direction found ss directions.1)

-- each variable's system is the one that its name means
over_named : (custom : Custom) (direction : Direction) (found : List resolved.Variable) (ss : List SystemValue) → AreVariables custom found (variables_over found ss) → AllByRecursion (λ (s : SystemValue). s.direction ≡ direction) ss → AreNamed custom direction (named_systems (variables_over found ss))
over_named custom direction [] ss are directions = tt
over_named custom direction (v ∷ found) [] are directions = tt
over_named custom direction (v ∷ found) (s ∷ ss) are directions = (subst (λ (w : Direction). IsSystemNamed custom v.system w (sealed.system_of s)) directions.0 are.0.means, over_named custom direction found ss are.1 directions.1)

module _ (custom : Custom) (l : LibraryValue) (bindings : Bindings) (means : MeanTheSame (meanings_of l) (meanings_in custom bindings)) (meant : AreMeant custom l.systems) (formula : trees.Formula) (found : List resolved.Variable) (r : RelationValue) (solution : IsSolution l formula r) (over : IsOverVariables l found r) where
  abbrev variables : List Variable
  variables = variables_over found r.systems

  own_names : names_of_variables variables ≡ r.names
  own_names = over_names l found r.systems over.systems_are ∙ sym over.names_are

  -- the relation holds of numbers for which the formula is true
  solves : (ns : List ℕ) → length ns ≡ length variables → RelationHolds r ns ↔ IsSolvedBy custom bindings variables formula ns
  solves ns count =
      let a : List ℕ → ℕ = assigned variables ns in
      let own : map a r.names ≡ ns = ap (λ (names : List (List ℕ)). map a names) (sym own_names) ∙ assigned_numbers variables ns (subst AreDistinct (sym own_names) solution.relation.tracked.distinct) count in
      let says : RelationHolds r (map a r.names) ↔ Holds (meanings_of l) formula a = solution.holds a in
      let same : Holds (meanings_of l) formula a ↔ Holds (meanings_in custom bindings) formula a = meanings_matter (meanings_of l) (meanings_in custom bindings) means formula a in
      ((λ holds. same.0 (says.0 (subst (RelationHolds r) (sym own) holds))), (λ holds. subst (RelationHolds r) own (says.1 (same.1 holds))))

  -- its automaton accepts the representations of these numbers
  solution_holds : HoldsOf (relations.direction_of r.systems) (systems_of (named_systems variables)) (IsSolvedBy custom bindings variables formula) r.automaton
  solution_holds =
      let direction : Direction = relations.direction_of r.systems in
      let sizes : systems_of (named_systems variables) ≡ relations.systems_of r.systems = over_systems l found r.systems over.systems_are in
      let closed : HoldsOf direction (systems_of (named_systems variables)) (RelationHolds r) r.automaton = subst (λ (ss : List System). HoldsOf direction ss (RelationHolds r) r.automaton) (sym sizes) solution.relation.closed in
      holds_same direction (systems_of (named_systems variables)) (RelationHolds r) (IsSolvedBy custom bindings variables formula) r.automaton
      (λ ns count. solves ns (count ∙ ap length sizes ∙ length-map r.systems sealed.system_of ∙ sym (over_count l found r.systems over.systems_are))) closed

  -- the text of the automaton is that of the formula
  pub solution_text : IsSolutionText custom bindings variables formula (automaton_text found r)
  solution_text = record {
    direction = relations.direction_of r.systems;
    read = over_directions (relations.direction_of r.systems) found r.systems solution.relation.shared_direction;
    named = over_named custom (relations.direction_of r.systems) found r.systems (are_variables custom l found r.systems meant over.systems_are) solution.relation.shared_direction;
    automaton = r.automaton;
    canonical = solution.relation.tracked.canonical;
    holds = solution_holds;
    text_is = ap (λ (ts : List SystemTrack). relation_text (headers.Systems ts) r.automaton) (sym (over_tracks found r.systems));
  }

  -- a relation without tracks is that of a sentence, whose truth is whether it holds
  pub no_variables : r.names ≡ [] → variables ≡ []
  no_variables none = by variables (own_names ∙ none)
    where
      by : (vs : List Variable) → names_of_variables vs ≡ [] → vs ≡ []
      by [] is = refl
      by (v ∷ vs) is = let more : length (v.name ∷ names_of_variables vs) ≡ 0 = ap length is in absurd (omega (arith, more))

  pub some_variables : r.names ≢ [] → variables ≢ []
  some_variables some none = some (sym own_names ∙ ap names_of_variables none)

  pub sentence_truth : r.names ≡ [] → (truth : Bool) → (IsTrue truth ↔ RelationHolds r []) → HasTruth custom bindings formula truth
  sentence_truth none truth is =
      let empty : variables ≡ [] = no_variables none in
      let says : RelationHolds r [] ↔ IsSolvedBy custom bindings variables formula [] = solves [] (sym (ap length empty)) in
      let there : RelationHolds r [] ↔ IsSolvedBy custom bindings [] formula [] = subst (λ (vs : List Variable). RelationHolds r [] ↔ IsSolvedBy custom bindings vs formula []) empty says in
      ((λ holds. there.0 (is.0 holds)), (λ holds. is.1 (there.1 holds)))

-- each system has as many digits as a track may have
pub over_digits : (custom : Custom) (l : LibraryValue) (found : List resolved.Variable) (ss : List SystemValue) → AreMeant custom l.systems → AreSystemsOf l found ss → AllByRecursion (λ (s : SystemValue). IsDigitCount s.digits) ss
over_digits custom l [] [] are over = tt
over_digits custom l [] (s ∷ ss) are over = absurd over
over_digits custom l (v ∷ found) [] are over = absurd over
over_digits custom l (v ∷ found) (s ∷ ss) are over = (named_digits custom v.system s.direction (sealed.system_of s) (found_meant custom l.systems v.system s are over.0), over_digits custom l found ss are over.1)
