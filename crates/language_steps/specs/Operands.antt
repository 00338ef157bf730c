-- What the functions of the crate take and give.
use Rattle.std.specs.Prelude.{◌≡◌, ◌≢◌, ◌⊎◌, ℕ, ◌<◌, ℤ, List, [], ◌∷◌, length, Some, Result, Ok, Err, MatchResult}
use Rattle.std.specs.List.{AllByRecursion}
use Rattle.std.specs.declared.alloc.Global.{Global}
use Rattle.std.specs.declared.vec.Vec.{Vec}
use Rattle.digit_tuple.specs.Deterministic.{Automaton}
use Rattle.digit_tuple.specs.Steps.{StepLog}
use Rattle.digit_tuple.specs.declared.step_fault.StepFault.{StepFault}
use Rattle.digit_tuple.specs.declared.step_fault.StepFault.TheVariants.{Memory}
use Rattle.minimise.specs.Canonical.{IsCanonical}
use Rattle.dfa_reading.specs.Branching.{AreGiven}
use Rattle.dfa_loading.specs.declared.loaded.Loaded.{Loaded}
use Rattle.language_steps.specs.LanguageSteps.{DoesReads, language_named}
use Rattle.language_steps.specs.Tables.{IsOverSets, table_name}
use Rattle.language_steps.specs.declared.op.LanguageOp.{LanguageOp}
use Rattle.language_steps.specs.declared.op.LanguageOp.TheVariants.{Pair, One}
use Rattle.language_steps.specs.declared.reading.NamedLanguage.{NamedLanguage}

-- an operation on one language has one, and the others have one or more
abbrev pub HasCount : LanguageOp → List (List ℕ) → Type 0
HasCount (Pair op) names = names ≢ []
HasCount (One op) names = (name : List ℕ) × (names ≡ name ∷ [])

-- a computation, or memory runs out
abbrev pub RunsOutOr : {Made : Type 0} → (StepLog → Result Made StepFault → StepLog → Type 0) → StepLog → Result Made StepFault → StepLog → Type 0
RunsOutOr does old result new = (result ≡ Err Memory) ⊎ does old result new

-- a table over sets, and with a state
pub record IsPlainTable (table : Loaded) : Type 0 where
  pub states : 0 < length table.listed.outputs
  pub given : AreGiven table.listed.header []

-- a table over these sets
pub record IsPlainTableOver (sets : List (List ℤ)) (table : Loaded) : Type 0 where
  pub over : IsOverSets sets table
  pub states : 0 < length table.listed.outputs

abbrev pub ArePlainTables : List (List ℤ) → List Loaded → Type 0
ArePlainTables sets tables = AllByRecursion (IsPlainTableOver sets) tables

-- the tables are read, or not
abbrev pub ReadsLanguages : List Loaded → StepLog → Result (Vec NamedLanguage Global) StepFault → StepLog → Type 0
ReadsLanguages tables old result new =
    MatchResult result (λ languages. DoesReads tables old (Ok languages.items) new) (λ fault. (fault ≡ Memory) ⊎ DoesReads tables old (Err fault) new)

-- a table has this name
abbrev pub HasTable : List Loaded → List ℕ → Type 0
HasTable [] name = ⊥
HasTable (table ∷ tables) name = (table_name table ≡ name) ⊎ HasTable tables name

-- a language is under this name
abbrev pub HasLanguage : List NamedLanguage → List ℕ → Type 0
HasLanguage languages name = (d : Automaton) × (language_named languages name ≡ Some d)

-- a canonical automaton over tracks of these sizes
pub record IsCanonicalOver (sizes : List ℕ) (d : Automaton) : Type 0 where
  pub sizes_are : d.sizes ≡ sizes
  pub canonical : IsCanonical d

-- each language is of such an automaton
abbrev pub AreCanonicalOver : List ℕ → List NamedLanguage → Type 0
AreCanonicalOver sizes languages = AllByRecursion (λ (l : NamedLanguage). IsCanonicalOver sizes l.language) languages

-- the first of some automata
abbrev pub IsFirst : Automaton → List Automaton → Type 0
IsFirst d ds = (others : List Automaton) × (ds ≡ d ∷ others)
