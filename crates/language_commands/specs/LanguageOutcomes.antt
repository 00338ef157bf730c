-- What a language command does, by its checks in their order: the shape of its head, the files of the automata, that all are over sets, that
-- all have the header of the first, its steps, and the length of the text to store.
use Rattle.std.specs.Prelude.{◌≡◌, ℕ, ℤ, List, map, codes, None, Some, Result, Ok, Err}
use Rattle.digit_tuple.specs.Deterministic.{Automaton}
use Rattle.digit_tuple.specs.Steps.{StepLog}
use Rattle.digit_tuple.specs.declared.step_fault.StepFault.{StepFault}
use Rattle.digit_tuple.specs.declared.step_fault.StepFault.TheVariants as steps
use Rattle.digit_tuple.specs.declared.steps.StepLine.{StepLine}
use Rattle.wal_outside.specs.declared.folder.Folder.TheVariants.{Automata}
use Rattle.command_head.specs.Grammar.{DerivesLanguage, DerivesLanguages}
use Rattle.command_head.specs.Heads.{LanguagesHead}
use Rattle.dfa_loading.specs.declared.loaded.Loaded.{Loaded}
use Rattle.formula_resolve.specs.FirstMentions.{first_files}
use Rattle.formula_resolve.specs.declared.file.File.{File}
use Rattle.formula_resolve.specs.declared.mention.Mention.{Mention}
use Rattle.formula_resolve.specs.declared.mention.Mention.TheVariants.{Called}
use Rattle.system_admission.specs.SystemSteps.{no_steps}
use Rattle.language_steps.specs.LanguageSteps.{DoesLanguage}
use Rattle.language_steps.specs.Tables.{AreOverSets, AreUnlike, first_not_plain}
use Rattle.language_steps.specs.declared.op.LanguageOp.{LanguageOp}
use Rattle.language_steps.specs.declared.op.LanguageOp.TheVariants.{Pair, One}
use Rattle.language_steps.specs.declared.op.OneOp.TheVariants.{Star, Reversal}
use Rattle.language_steps.specs.declared.op.PairOp.TheVariants.{Union, Intersection, Concatenation}
use Rattle.definitions.specs.Trees as trees
use Rattle.definitions.specs.Trees.{Language, Defined, Ledger, custom_of, trees_of}
use Rattle.command_parts.specs.declared.shape_refusal.ShapeRefusal.TheVariants as shape_refusals
use Rattle.command_parts.specs.declared.refusal.Refusal.TheVariants as refusals
use Rattle.command_parts.specs.declared.fault.Fault.{Fault}
use Rattle.command_parts.specs.declared.fault.Fault.TheVariants as faults
use Rattle.command_parts.specs.Accepting.{Success, stored}
use Rattle.command_parts.specs.Checks.{Check, Pure, Then, IsSingle}
use Rattle.command_parts.specs.FileChecks.{files_loaded}
use Rattle.command_parts.specs.HeadAnswers.{HeadAnswers}
use Rattle.command_parts.specs.RefusingChecks.{Refusing}
use Rattle.command_parts.specs.TrackSystems.{fault_of}

-- the word of a language command
abbrev pub op_word : LanguageOp → List ℕ
op_word (Pair Union) = codes "union"
op_word (Pair Intersection) = codes "intersect"
op_word (Pair Concatenation) = codes "concat"
op_word (One Star) = codes "star"
op_word (One Reversal) = codes "reverse"

-- its head: an operation on one language has one, the others one or more
abbrev pub DerivesOperation : LanguageOp → List (List ℕ) → LanguagesHead → Type 0
DerivesOperation (Pair op) = DerivesLanguages (op_word (Pair op))
DerivesOperation (One op) = DerivesLanguage (op_word (One op))

-- the operation in a definition
abbrev pub tree_op : LanguageOp → trees.LanguageOp
tree_op (Pair Union) = trees.Union
tree_op (Pair Intersection) = trees.Intersection
tree_op (Pair Concatenation) = trees.Concatenation
tree_op (One Star) = trees.Star
tree_op (One Reversal) = trees.Reversal

-- a listed automaton is mentioned as one that is called
abbrev pub language_mentions : List (List ℕ) → List Mention
language_mentions names = map (λ name. Called name 0) names

-- the files of the automata, each once
abbrev pub language_files : List (List ℕ) → List File
language_files names = first_files (language_mentions names)

-- all automata are over sets, or this is the first listed one that is not
abbrev pub NotPlainAnswers : List Loaded → Result (Unit {0}) (List ℕ) → Type 0
NotPlainAnswers tables (Ok plain) = first_not_plain tables ≡ None
NotPlainAnswers tables (Err name) = first_not_plain tables ≡ Some name

abbrev pub all_plain : List Loaded → Check (Unit {0})
all_plain tables = Refusing (λ name. faults.Refused (refusals.Shape (shape_refusals.NotPlain name))) (NotPlainAnswers tables)

-- the sets of all; or the first listed automaton, and the first later one that has another header
abbrev pub LangShapeAnswers : List Loaded → Result (List (List ℤ)) (List ℕ × List ℕ) → Type 0
LangShapeAnswers tables (Ok sets) = AreOverSets sets tables
LangShapeAnswers tables (Err names) = AreUnlike tables names

abbrev pub fault_of_shape : List ℕ × List ℕ → Fault
fault_of_shape names = faults.Refused (refusals.Shape (shape_refusals.LangShape names.0 names.1))

abbrev pub one_header : List Loaded → Check (List (List ℤ))
one_header tables = Refusing fault_of_shape (LangShapeAnswers tables)

-- the lines of the steps, or the number of the first one that passes a limit
abbrev pub LanguageAnswers : ℕ → LanguageOp → List (List ℕ) → List Loaded → Result (List StepLine) StepFault → Type 0
LanguageAnswers limit op names tables (Ok lines) = (made : Automaton) × (log : StepLog) × DoesLanguage op names tables (no_steps limit) (Ok made) log × (lines ≡ log.lines)
LanguageAnswers limit op names tables (Err (steps.Letters step)) = (log : StepLog) × DoesLanguage op names tables (no_steps limit) (Err (steps.Letters step)) log
LanguageAnswers limit op names tables (Err (steps.States step)) = (log : StepLog) × DoesLanguage op names tables (no_steps limit) (Err (steps.States step)) log
LanguageAnswers limit op names tables (Err steps.Memory) = ⊥

abbrev pub language_done : ℕ → LanguageOp → List (List ℕ) → List Loaded → Check (List StepLine)
language_done limit op names tables = Refusing fault_of (LanguageAnswers limit op names tables)

-- what is stored and printed: the operation on the definitions that the names mean now, over these sets
abbrev pub language_success : Ledger → LanguageOp → LanguagesHead → List (List ℤ) → List StepLine → Success
language_success ledger op head sets lines = record {
  folder = Automata;
  name = head.name;
  entry = Defined (Language sets (tree_op op) (trees_of ledger head.languages));
  lines = lines;
  verdict = None;
}

-- the checks after the header, after that of sets, after the files, and after the head
abbrev pub after_header : ℕ → Ledger → LanguageOp → LanguagesHead → List Loaded → List (List ℤ) → Check Success
after_header limit ledger op head tables sets = Then (language_done limit op head.languages tables) (λ lines. stored (custom_of ledger) (language_success ledger op head sets lines))

abbrev pub after_sets : ℕ → Ledger → LanguageOp → LanguagesHead → List Loaded → Check Success
after_sets limit ledger op head tables = Then (one_header tables) (λ sets. after_header limit ledger op head tables sets)

abbrev pub after_language_tables : ℕ → Ledger → LanguageOp → LanguagesHead → List Loaded → Check Success
after_language_tables limit ledger op head tables = Then (all_plain tables) (λ plain. after_sets limit ledger op head tables)

abbrev pub after_language_head : ℕ → Ledger → LanguageOp → LanguagesHead → Check Success
after_language_head limit ledger op head = Then (files_loaded ledger (language_files head.languages)) (λ tables. after_language_tables limit ledger op head tables)

-- all checks of a language command
abbrev pub language_checks : LanguageOp → ℕ → Ledger → List ℕ → Check Success
language_checks op limit ledger text = Then (Pure (HeadAnswers (DerivesOperation op) text)) (λ head. after_language_head limit ledger op head)

-- a command that makes a language of others has at most one proper outcome
abbrev pub LanguageHasOneOutcome : Type 0
LanguageHasOneOutcome = (op : LanguageOp) (limit : ℕ) (ledger : Ledger) (text : List ℕ) → IsSingle (language_checks op limit ledger text)
