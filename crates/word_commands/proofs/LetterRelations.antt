-- The relation that is built of the formula of a letter.
use Rattle.std.proofs.Common.{◌≡◌, ℕ, ℤ, List, [], ◌∷◌, map, None, Result, Ok, Err, refl, sym, ap, ◌∙◌, subst}
use Rattle.std.specs.Prelude.{◌↔◌, ⊤, IfOk}
use Rattle.std.proofs.lemmas.Option.{none-some}
use Rattle.digit_tuple.specs.Steps.{StepLog}
use Rattle.digit_tuple.specs.declared.step_fault.StepFault.{StepFault}
use Rattle.formula_parse.specs.Tokens.{Name}
use Rattle.formula_parse.specs.Trees.{Formula}
use Rattle.formula_parse.specs.Views.{formula_view}
use Rattle.formula_truth.specs.Truth.{Holds}
use Rattle.formula_resolve.specs.Answers.{Reports}
use Rattle.formula_resolve.specs.FreeVariables.{free_variables}
use Rattle.formula_resolve.specs.Headers.{Headers}
use Rattle.formula_resolve.specs.Occurrences.{all_occurrences}
use Rattle.formula_resolve.specs.Resolving.{fault_of}
use Rattle.formula_resolve.specs.declared.fault.ResolveFault.{ResolveFault}
use Rattle.formula_resolve.specs.declared.fault.ResolveFault.TheVariants as resolve_faults
use Rattle.formula_resolve.specs.declared.variable.Variable.{Variable}
use Rattle.formula_build.specs.KnownNames.{AreKnownIn}
use Rattle.plan_relations.specs.Libraries.{IsSystemIn, LibraryValue, meanings_of}
use Rattle.formula_build.specs.Resolved.{plan_headers}
use Rattle.formula_build.specs.ResolvedViews.{IsPlanned, formula_of, headers_in, library_of}
use Rattle.formula_build.specs.Solutions.{BuildsFormula, IsSolution, direction_named, formula_plan}
use Rattle.formula_build.specs.TrackSystems.{Fits}
use Rattle.formula_build.specs.VariableTracks.{AreSystemsOf, IsOverVariables}
use Rattle.formula_build.specs.declared.names.Names.{Names}
use Rattle.formula_build.specs.declared.resolving.Resolved.{Resolved}
use Rattle.num_system.specs.Sealed.{SystemValue}
use Rattle.number_relations.specs.Relations.{RelationHolds, RelationValue}
use Rattle.word_images.specs.ImageFormula.{image_formula, place_variable}
use Rattle.word_commands.specs.ImageSteps.{letter_plan}
use Rattle.word_commands.specs.LetterParts.{IsLetterRelation, IsUsable}
use Rattle.word_commands.specs.RecodedWords.{image_headers}
use Rattle.word_commands.specs.LetterSettings.{library_in}
use Rattle.word_commands.specs.declared.setting.Setting.{Setting}
use Rattle.word_commands.proofs.NamedWords.{fits, known_in, only_system, system_there}
use Rattle.word_commands.proofs.LetterResolution.{no_fault, one_variable}

-- what holds of a result by two things that do
pub if_ok_both : {X E : Type 0} (P Q R : X → Type 0) (r : Result X E) → IfOk r P → IfOk r Q → ((x : X) → P x → Q x → R x) → IfOk r R
if_ok_both P Q R (Ok x) p q both = both x p q
if_ok_both P Q R (Err e) p q both = tt

-- where there is no fault, only memory can be wanting
pub only_memory : (X : Type 0) (fault : ResolveFault) → Reports {X = X} None (Err fault) → fault ≡ resolve_faults.Memory
only_memory X (resolve_faults.Plain n) reported = absurd (none-some _ reported)
only_memory X (resolve_faults.Arity n tracks given) reported = absurd (none-some _ reported)
only_memory X (resolve_faults.Clash n s t) reported = absurd (none-some _ reported)
only_memory X (resolve_faults.Direction s t) reported = absurd (none-some _ reported)
only_memory X resolve_faults.Memory reported = refl

-- a fault that is found in a formula
abbrev pub IsFound : ResolveFault → Type 0
IsFound (resolve_faults.Plain n) = ⊤
IsFound (resolve_faults.Arity n tracks given) = ⊤
IsFound (resolve_faults.Clash n s t) = ⊤
IsFound (resolve_faults.Direction s t) = ⊤
IsFound resolve_faults.Memory = ⊥

module _ (t : Setting) (s : Name) (k : ℕ) (b : ℤ) (usable : IsUsable t s k) where
  -- a formula of a letter is refused only because memory ran out
  pub refused_for_memory : (X : Type 0) (h : Headers) (f : Formula) (fault : ResolveFault) → h ≡ t.names.headers → f ≡ image_formula s k b → Reports {X = X} (fault_of h f) (Err fault) → fault ≡ resolve_faults.Memory
  refused_for_memory X h f fault headers is reported =
      only_memory X fault (subst (λ o. Reports {X = X} o (Err fault)) ((λ i. fault_of ((headers ∙ usable.setting.headers) i) (is i)) ∙ no_fault s k b usable.few usable.some) reported)

  -- and for nothing else
  pub not_refused : (X : Type 0) (h : Headers) (f : Formula) (fault other : ResolveFault) → h ≡ t.names.headers → f ≡ image_formula s k b → fault ≡ other → IsFound other → Reports {X = X} (fault_of h f) (Err fault) → ⊥
  not_refused X h f fault other headers is same found reported = subst IsFound (sym same ∙ refused_for_memory X h f fault headers is reported) found

  module _ (r : Resolved) (names : r.names.now ≡ t.names) (is : formula_view r.formula.now ≡ image_formula s k b) where
    library_same : library_of r t.words ≡ library_in t
    library_same = ap (λ (n : Names). record { relations = t.words.relations; words = t.words.words; systems = n.systems }) names

    headers_same : headers_in r ≡ image_headers s k
    headers_same = ap (λ (n : Names). n.headers) names ∙ usable.setting.headers

    pub fits_here : Fits (library_of r t.words) (plan_headers (headers_in r)) direction_named
    fits_here =
        subst (λ (h : Headers). Fits (library_of r t.words) (plan_headers h) direction_named) (sym headers_same)
        (subst (λ (l : LibraryValue). Fits l (plan_headers (image_headers s k)) direction_named) (sym library_same) (fits usable.rules usable.word s k (library_in t) usable.setting.library usable.few usable.system usable.systems usable.direction))

    pub known_here : AreKnownIn (library_of r t.words) (formula_of r)
    known_here =
        subst (λ (f : Formula). AreKnownIn (library_of r t.words) f) (sym is)
        (subst (λ (l : LibraryValue). AreKnownIn l (image_formula s k b)) (sym library_same) (known_in usable.rules usable.word s k (library_in t) usable.setting.library usable.few usable.system usable.systems b usable.some))

    -- what is built of the formula is built by the letter's change
    pub built_here : (old new : StepLog) (result : Result RelationValue StepFault) → BuildsFormula (library_of r t.words) (formula_plan (headers_in r) (formula_of r)) old result new → BuildsFormula (library_in t) (letter_plan s k b) old result new
    built_here old new result does =
        subst (λ (f : Formula). BuildsFormula (library_in t) (formula_plan (image_headers s k) f) old result new) is
        (subst (λ (h : Headers). BuildsFormula (library_in t) (formula_plan h (formula_of r)) old result new) headers_same
        (subst (λ (l : LibraryValue). BuildsFormula l (formula_plan (headers_in r) (formula_of r)) old result new) library_same does))

    one_system : (l : LibraryValue) (ss : List SystemValue) → AreSystemsOf l (record { name = place_variable; system = s } ∷ []) ss → (v : SystemValue) × (ss ≡ v ∷ []) × IsSystemIn l s v
    one_system l [] over = absurd over
    one_system l (v ∷ []) over = (v, refl, over.0)
    one_system l (v ∷ w ∷ ss) over = absurd over.1

    pub relation_here : (a : RelationValue) → IsPlanned r → IsOverVariables (library_of r t.words) r.variables.items a → IsSolution (library_of r t.words) (formula_of r) a → IsLetterRelation t s k b a
    relation_here a planned over solution = record {
      relation = solution.relation;
      system = usable.system;
      system_is = system_there usable.rules usable.word s k (library_in t) usable.setting.library usable.few usable.system usable.systems;
      systems = at.1 ∙ ap (λ (v : SystemValue). v ∷ []) (sym (only_system usable.rules usable.word s k (library_in t) usable.setting.library usable.few usable.system usable.systems s at.0 at.2).1);
      holds = λ n. subst (λ (ns : List ℕ). RelationHolds a ns ↔ Holds (meanings_of (library_in t)) (image_formula s k b) (λ name. n)) (ap (λ (names : List Name). map (λ name. n) names) names_are) (solves (λ name. n));
    }
      where
        variables : r.variables.items ≡ record { name = place_variable; system = s } ∷ []
        variables = planned.variables ∙ (λ i. free_variables (all_occurrences (headers_same i) (is i))) ∙ one_variable s k b usable.few usable.some

        names_are : a.names ≡ place_variable ∷ []
        names_are = over.names_are ∙ ap (λ (vs : List Variable). map (λ (v : Variable). v.name) vs) variables

        at : (v : SystemValue) × (a.systems ≡ v ∷ []) × IsSystemIn (library_in t) s v
        at = one_system (library_in t) a.systems (subst (λ (vs : List Variable). AreSystemsOf (library_in t) vs a.systems) variables (subst (λ (l : LibraryValue). AreSystemsOf l r.variables.items a.systems) library_same over.systems_are))

        solves : (number_of : List ℕ → ℕ) → RelationHolds a (map number_of a.names) ↔ Holds (meanings_of (library_in t)) (image_formula s k b) number_of
        solves number_of = subst (λ (f : Formula). RelationHolds a (map number_of a.names) ↔ Holds (meanings_of (library_in t)) f number_of) is
            (subst (λ (l : LibraryValue). RelationHolds a (map number_of a.names) ↔ Holds (meanings_of l) (formula_of r) number_of) library_same (solution.holds number_of))
