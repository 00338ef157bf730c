-- The steps of a language command: one that reads each table, and those of the operation, from the left, on the languages of the names.
use Rattle.std.specs.Prelude.{◌≡◌, ◌⊎◌, ℕ, ◌+◌, List, [], ◌∷◌, length, Option, None, Some, Result, Err, if◌then◌else◌}
use Rattle.std.specs.Str.{bytes_eq}
use Rattle.digit_tuple.specs.Automaton.{Branching, IsBranchTable, letters_of}
use Rattle.digit_tuple.specs.Deterministic.{Automaton}
use Rattle.digit_tuple.specs.Letters.{IsAlphabet, IsTooLarge}
use Rattle.digit_tuple.specs.StepResults.{Then}
use Rattle.digit_tuple.specs.Steps.{StepLog}
use Rattle.digit_tuple.specs.declared.step_fault.StepFault.{StepFault}
use Rattle.digit_tuple.specs.declared.step_fault.StepFault.TheVariants.{Letters}
use Rattle.automaton_steps.specs.Makings.{Making, DoesStep, Gives, WithSome}
use Rattle.automaton_steps.specs.ReadSteps.{read_step}
use Rattle.automaton_steps.specs.ReverseSteps.{reverse_step}
use Rattle.product_op.specs.declared.op.Op.TheVariants.{And, Or}
use Rattle.lang_ops.specs.ConcatSteps.{concat_step}
use Rattle.lang_ops.specs.ProductSteps.{product_step}
use Rattle.lang_ops.specs.StarSteps.{star_step}
use Rattle.dfa_reading.specs.Branching.{IsBranching, sizes_in}
use Rattle.dfa_reading.specs.Listed.{Listed}
use Rattle.dfa_loading.specs.declared.loaded.Loaded.{Loaded}
use Rattle.language_steps.specs.Tables.{table_name}
use Rattle.language_steps.specs.declared.op.LanguageOp.{LanguageOp}
use Rattle.language_steps.specs.declared.op.LanguageOp.TheVariants.{Pair, One}
use Rattle.language_steps.specs.declared.op.OneOp.TheVariants.{Star, Reversal}
use Rattle.language_steps.specs.declared.op.PairOp.{PairOp}
use Rattle.language_steps.specs.declared.op.PairOp.TheVariants.{Union, Intersection, Concatenation}
use Rattle.language_steps.specs.declared.reading.NamedLanguage.{NamedLanguage}

-- how many letters each track of a table over sets has
abbrev pub sizes_of : Listed → List ℕ
sizes_of listed = sizes_in listed.header []

-- the branching automaton of what is listed over sets
pub record IsTableOverSets (listed : Listed) (branching : Branching) : Type 0 where
  pub is_branching : IsBranching (sizes_of listed) listed branching
  pub table : IsBranchTable (letters_of branching) branching.states
  pub alphabet : IsAlphabet (sizes_of listed)

-- the step has too many tracks or letters
pub record IsTooLargeTable (listed : Listed) (old : StepLog) (result : Result Automaton StepFault) (new : StepLog) : Type 0 where
  pub large : IsTooLarge (sizes_of listed)
  pub refused : result ≡ Err (Letters (length old.lines + 1))
  pub same : new ≡ old

-- the step `read` of a table over sets
abbrev pub DoesPlainTable : Listed → StepLog → Result Automaton StepFault → StepLog → Type 0
DoesPlainTable listed old result new = IsTooLargeTable listed old result new ⊎ WithSome (IsTableOverSets listed) (λ branching. DoesStep (read_step branching)) old result new

-- the automaton that is read of a table, under the name of its file
abbrev pub named_language : Loaded → Automaton → NamedLanguage
named_language table d = record { name = table_name table; language = d }

-- tables over sets are read, one after another
abbrev pub DoesReads : List Loaded → StepLog → Result (List NamedLanguage) StepFault → StepLog → Type 0
DoesReads [] = Gives []
DoesReads (table ∷ tables) = Then (DoesPlainTable table.listed) (λ d. Then (DoesReads tables) (λ languages. Gives (named_language table d ∷ languages)))

-- the automaton under a name, if there is one
abbrev pub language_named : List NamedLanguage → List ℕ → Option Automaton
language_named [] name = None
language_named (l ∷ languages) name = if bytes_eq l.name name then Some l.language else language_named languages name

-- an automaton before others, if there is one
abbrev pub with_language : Option Automaton → List Automaton → List Automaton
with_language None ds = ds
with_language (Some d) ds = d ∷ ds

-- the automata under some names, in the order of the names
abbrev pub languages_named : List NamedLanguage → List (List ℕ) → List Automaton
languages_named languages [] = []
languages_named languages (name ∷ names) = with_language (language_named languages name) (languages_named languages names)

-- from the left, one step for each further automaton
abbrev pub DoesChain : (Automaton → Automaton → Making Automaton) → Automaton → List Automaton → StepLog → Result Automaton StepFault → StepLog → Type 0
DoesChain step d [] = Gives d
DoesChain step d (e ∷ ds) = Then (DoesStep (step d e)) (λ made. DoesChain step made ds)

-- the step of an operation on two languages
abbrev pub pair_step : PairOp → Automaton → Automaton → Making Automaton
pair_step Union = product_step Or
pair_step Intersection = product_step And
pair_step Concatenation = concat_step

-- the steps of an operation; one on one language takes one step
abbrev pub DoesOperation : LanguageOp → List Automaton → StepLog → Result Automaton StepFault → StepLog → Type 0
DoesOperation op [] = λ old result new. ⊥
DoesOperation (Pair op) (d ∷ ds) = DoesChain (pair_step op) d ds
DoesOperation (One Star) (d ∷ ds) = DoesStep (star_step d)
DoesOperation (One Reversal) (d ∷ ds) = DoesStep (reverse_step d)

-- the tables are read, and the operation is done on the languages of the names
abbrev pub DoesLanguage : LanguageOp → List (List ℕ) → List Loaded → StepLog → Result Automaton StepFault → StepLog → Type 0
DoesLanguage op names tables = Then (DoesReads tables) (λ languages. DoesOperation op (languages_named languages names))
