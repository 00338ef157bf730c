-- What the steps of language commands make is canonical, over the sets of the tables.
use Rattle.std.proofs.Common.{◌≡◌, ℕ, ℤ, List, [], ◌∷◌, Option, None, Some, Ok, inl, inr, refl, sym, ap, ◌∙◌, subst}
use Rattle.std.specs.List.{AllByRecursion}
use Rattle.digit_tuple.specs.Deterministic.{Automaton}
use Rattle.digit_tuple.specs.Sets.{sizes_of}
use Rattle.digit_tuple.specs.Steps.{StepLog}
use Rattle.digit_tuple.specs.declared.step_fault.StepFault.TheVariants.{Memory}
use Rattle.automaton_steps.proofs.ThenAnswers.{equal_value, no_fault}
use Rattle.dfa_reading.specs.Branching.{AreGiven, sizes_in}
use Rattle.dfa_reading.specs.Headers as file
use Rattle.dfa_loading.specs.declared.loaded.Loaded.{Loaded}
use Rattle.language_steps.specs.LanguageSteps.{DoesChain, DoesLanguage, DoesOperation, DoesPlainTable, DoesReads, language_named, languages_named, named_language, pair_step, with_language}
use Rattle.language_steps.specs.Operands.{AreCanonicalOver, ArePlainTables, IsCanonicalOver, IsFirst, IsPlainTable}
use Rattle.language_steps.specs.Tables.{AreOverSets, IsOverSets}
use Rattle.language_steps.specs.declared.op.LanguageOp.{LanguageOp}
use Rattle.language_steps.specs.declared.op.LanguageOp.TheVariants.{Pair, One}
use Rattle.language_steps.specs.declared.op.OneOp.TheVariants.{Star, Reversal}
use Rattle.language_steps.specs.declared.op.PairOp.{PairOp}
use Rattle.language_steps.specs.declared.reading.NamedLanguage.{NamedLanguage}
use Rattle.language_steps.proofs.Chains.{found_over, pair_done}

module _ (sets : List (List ℤ)) where
  table_over : (table : Loaded) (d : Automaton) (old new : StepLog) → IsOverSets sets table → DoesPlainTable table.listed old (Ok d) new → IsCanonicalOver (sizes_of sets) d
  table_over table d old new over (inl large) = absurd (no_fault d _ large.refused)
  table_over table d old new over (inr (inl out)) = absurd (no_fault d Memory out)
  table_over table d old new over (inr (inr (n, of_table, done))) =
      record { sizes_are = done.step.made_is.sizes ∙ (of_table.is_branching.sizes_are ∙ ap (λ (h : file.Header). sizes_in h []) over); canonical = done.step.made_is.canonical }

  pub reads_over : (tables : List Loaded) (languages : List NamedLanguage) (old new : StepLog) → AllByRecursion (IsOverSets sets) tables → DoesReads tables old (Ok languages) new → AreCanonicalOver (sizes_of sets) languages
  reads_over [] languages old new over (is, same) = subst (AreCanonicalOver (sizes_of sets)) (sym (equal_value languages [] is)) tt
  reads_over (table ∷ tables) languages old new over (inr (fault, failed, is)) = absurd (no_fault languages fault is)
  reads_over (table ∷ tables) languages old new over (inl (d, mid, done, inr (fault, failed, is))) = absurd (no_fault languages fault is)
  reads_over (table ∷ tables) languages old new over (inl (d, mid, done, inl (others, late, reads, (is, same)))) =
      subst (AreCanonicalOver (sizes_of sets)) (sym (equal_value languages (named_language table d ∷ others) is)) (table_over table d old mid over.0 done, reads_over tables others mid late over.1 reads)

  -- tables over sets may be read
  pub may_be_read : (tables : List Loaded) → ArePlainTables sets tables → AllByRecursion IsPlainTable tables
  may_be_read [] all = tt
  may_be_read (table ∷ tables) all = (record { states = all.0.states; given = subst (λ (h : file.Header). AreGiven h []) (sym all.0.over) tt }, may_be_read tables all.1)

  pub tables_over : (tables : List Loaded) → ArePlainTables sets tables → AllByRecursion (IsOverSets sets) tables
  tables_over [] all = tt
  tables_over (table ∷ tables) all = (all.0.over, tables_over tables all.1)

module _ (sizes : List ℕ) where
  named_over : (languages : List NamedLanguage) (names : List (List ℕ)) → AreCanonicalOver sizes languages → AllByRecursion (IsCanonicalOver sizes) (languages_named languages names)
  named_over languages [] all = tt
  named_over languages (name ∷ names) all = by (language_named languages name) refl (named_over languages names all)
    where
      by : (o : Option Automaton) → language_named languages name ≡ o → AllByRecursion (IsCanonicalOver sizes) (languages_named languages names) → AllByRecursion (IsCanonicalOver sizes) (with_language o (languages_named languages names))
      by None is rest = rest
      by (Some d) is rest = (found_over sizes languages name d all is, rest)

  pub first_over : (languages : List NamedLanguage) (names : List (List ℕ)) (d : Automaton) → AreCanonicalOver sizes languages → IsFirst d (languages_named languages names) → IsCanonicalOver sizes d
  first_over languages names d all (others, is) = (subst (AllByRecursion (IsCanonicalOver sizes)) is (named_over languages names all)).0

  chain_over : (op : PairOp) (d made : Automaton) (ds : List Automaton) (old new : StepLog) → IsCanonicalOver sizes d → DoesChain (pair_step op) d ds old (Ok made) new → IsCanonicalOver sizes made
  chain_over op d made [] old new over (is, same) = subst (IsCanonicalOver sizes) (sym (equal_value made d is)) over
  chain_over op d made (e ∷ ds) old new over (inr (fault, failed, is)) = absurd (no_fault made fault is)
  chain_over op d made (e ∷ ds) old new over (inl (mid, log, done, rest)) = chain_over op mid made ds log new (pair_done op sizes d e mid old log over done) rest

  operation_over : (op : LanguageOp) (made : Automaton) (ds : List Automaton) (old new : StepLog) → AllByRecursion (IsCanonicalOver sizes) ds → DoesOperation op ds old (Ok made) new → IsCanonicalOver sizes made
  operation_over op made [] old new all does = absurd does
  operation_over (Pair op) made (d ∷ ds) old new all does = chain_over op d made ds old new all.0 does
  operation_over (One Star) made (d ∷ ds) old new all done = record { sizes_are = done.step.made_is.sizes ∙ all.0.sizes_are; canonical = done.step.made_is.canonical }
  operation_over (One Reversal) made (d ∷ ds) old new all done = record { sizes_are = done.step.made_is.sizes ∙ all.0.sizes_are; canonical = done.step.made_is.canonical }

all_over : (sets : List (List ℤ)) (tables : List Loaded) → AreOverSets sets tables → AllByRecursion (IsOverSets sets) tables
all_over sets [] over = absurd over
all_over sets (table ∷ tables) over = over

-- the sizes are those of the sets
pub language_sizes : (op : LanguageOp) (names : List (List ℕ)) (tables : List Loaded) (sets : List (List ℤ)) (old new : StepLog) (made : Automaton) → AreOverSets sets tables → DoesLanguage op names tables old (Ok made) new → made.sizes ≡ sizes_of sets
language_sizes op names tables sets old new made over (inr (fault, failed, is)) = absurd (no_fault made fault is)
language_sizes op names tables sets old new made over (inl (languages, mid, reads, does)) =
    (operation_over (sizes_of sets) op made (languages_named languages names) mid new (named_over (sizes_of sets) languages names (reads_over sets tables languages old mid (all_over sets tables over) reads)) does).sizes_are
