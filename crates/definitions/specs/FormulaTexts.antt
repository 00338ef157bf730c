-- The texts of formulas: of a sentence its truth, and else the automaton of the numbers for which the formula is true.
use Rattle.std.specs.Prelude.{◌≡◌, ◌↔◌, ℕ, Bool, true, false, List, [], ◌∷◌, map, codes, IsTrue, Option, None, Some, ⊤}
use Rattle.std.specs.List.{AllByRecursion}
use Rattle.digit_tuple.specs.Deterministic.{Automaton}
use Rattle.digit_tuple.specs.declared.direction.Direction.{Direction}
use Rattle.minimise.specs.Canonical.{IsCanonical}
use Rattle.numeration.specs.Relations.{HoldsOf}
use Rattle.formula_parse.specs.Trees as trees
use Rattle.formula_truth.specs.Truth.{Holds}
use Rattle.dfa_text.specs.RelationText.{relation_text}
use Rattle.definitions.specs.Tracks.{NamedSystem, OverSystems, systems_of, header_of}
use Rattle.definitions.specs.Trees.{Variable, Bindings}
use Rattle.system_files.specs.SystemFiles.{Custom}
use Rattle.definitions.specs.Named.{AreNamed}
use Rattle.definitions.specs.TreeMeanings.{assigned, meanings_in}

-- the formula is true for these numbers of its variables
abbrev pub IsSolvedBy : Custom → Bindings → List Variable → trees.Formula → List ℕ → Type 0
IsSolvedBy custom bindings variables formula ns = Holds (meanings_in custom bindings) formula (assigned variables ns)

-- the systems of the variables
abbrev pub named_systems : List Variable → List NamedSystem
named_systems variables = map (λ (v : Variable). v.system) variables

-- The text of a formula with free variables: that of the canonical automaton which accepts exactly the words that represent numbers for
-- which the formula is true. The systems of all variables are those that their names mean, read in one direction.
pub record IsSolutionText (custom : Custom) (bindings : Bindings) (variables : List Variable) (formula : trees.Formula) (text : List ℕ) : Type 0 where
  pub direction : Direction
  pub read : AllByRecursion (λ (v : Variable). v.direction ≡ direction) variables
  pub named : AreNamed custom direction (named_systems variables)
  pub automaton : Automaton
  pub canonical : IsCanonical automaton
  pub holds : HoldsOf direction (systems_of (named_systems variables)) (IsSolvedBy custom bindings variables formula) automaton
  pub text_is : text ≡ relation_text (header_of (OverSystems direction (named_systems variables))) automaton

-- whether a sentence is true
abbrev pub HasTruth : Custom → Bindings → trees.Formula → Bool → Type 0
HasTruth custom bindings formula truth = IsTrue truth ↔ IsSolvedBy custom bindings [] formula []

abbrev pub truth_text : Bool → List ℕ
truth_text true = codes "true\n"
truth_text false = codes "false\n"

-- the text of a sentence: its truth
abbrev pub IsSentenceText : Custom → Bindings → trees.Formula → List ℕ → Type 0
IsSentenceText custom bindings formula text = (truth : Bool) × HasTruth custom bindings formula truth × (text ≡ truth_text truth)

-- the text of a formula
abbrev pub IsFormulaText : Custom → Bindings → List Variable → trees.Formula → List ℕ → Type 0
IsFormulaText custom bindings [] formula text = IsSentenceText custom bindings formula text
IsFormulaText custom bindings (v ∷ variables) formula text = IsSolutionText custom bindings (v ∷ variables) formula text

-- the verdict on a formula: the truth of a sentence, and none where there is a free variable
abbrev pub HasVerdict : Custom → Bindings → List Variable → trees.Formula → Option Bool → Type 0
HasVerdict custom bindings [] formula None = ⊥
HasVerdict custom bindings [] formula (Some truth) = HasTruth custom bindings formula truth
HasVerdict custom bindings (v ∷ variables) formula None = ⊤
HasVerdict custom bindings (v ∷ variables) formula (Some truth) = ⊥
