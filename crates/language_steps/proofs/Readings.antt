-- Tables that are read so far, and the languages under names.
use Rattle.std.proofs.Common.{◌≡◌, ◌≢◌, ◌⊎◌, ℕ, ◌+◌, ◌<◌, ◌≤◌, Bool, true, false, cond, List, [], ◌∷◌, ◌++◌, length, drop, get_or, None, Some, Result, Ok, Err, bytes_eq, inl, inr, refl, sym, ap, ◌∙◌, subst}
use Rattle.std.specs.List.{AllByRecursion}
use Rattle.std.proofs.lemmas.List.{append_assoc, append-nil, drop_all, drop_more}
use Rattle.std.proofs.lemmas.Slice.Eq.{bytes_eq-Decides}
use Rattle.digit_tuple.specs.Deterministic.{Automaton}
use Rattle.digit_tuple.specs.Steps.{StepLog}
use Rattle.digit_tuple.specs.declared.step_fault.StepFault.{StepFault}
use Rattle.automaton_steps.proofs.ThenAnswers.{equal_value, no_fault}
use Rattle.dfa_loading.specs.declared.loaded.Loaded.{Loaded}
use Rattle.language_steps.specs.LanguageSteps.{DoesPlainTable, DoesReads, language_named, named_language}
use Rattle.language_steps.specs.Operands.{HasLanguage, HasTable}
use Rattle.language_steps.specs.Tables.{table_name}
use Rattle.language_steps.specs.declared.reading.NamedLanguage.{NamedLanguage}

-- what is read after other languages
abbrev pub after_read : List NamedLanguage → Result (List NamedLanguage) StepFault → Result (List NamedLanguage) StepFault
after_read languages (Ok more) = Ok (languages ++ more)
after_read languages (Err fault) = Err fault

after_more : (languages : List NamedLanguage) (l : NamedLanguage) (r : Result (List NamedLanguage) StepFault) → after_read languages (after_read (l ∷ []) r) ≡ after_read (languages ++ l ∷ []) r
after_more languages l (Ok more) = ap Ok (sym (append_assoc languages (l ∷ []) more))
after_more languages l (Err fault) = refl

-- whatever the other tables give, all tables give it after these languages
abbrev pub AreReadSoFar : List Loaded → ℕ → StepLog → List NamedLanguage → StepLog → Type 0
AreReadSoFar tables i initial languages steps = (r : Result (List NamedLanguage) StepFault) (new : StepLog) → DoesReads (drop i tables) steps r new → DoesReads tables initial (after_read languages r) new

module _ (tables : List Loaded) (initial : StepLog) where
  pub none_read : AreReadSoFar tables 0 initial [] initial
  none_read (Ok more) new reads = reads
  none_read (Err fault) new reads = reads

  module _ (i : ℕ) (table : Loaded) (within : i < length tables) (is : table ≡ get_or tables i table) (languages : List NamedLanguage) (steps : StepLog) (so_far : AreReadSoFar tables i initial languages steps) where
    first_left : drop i tables ≡ table ∷ drop (i + 1) tables
    first_left = drop_more tables i table within ∙ ap (λ (t : Loaded). t ∷ drop (i + 1) tables) (sym is)

    with_first : (d : Automaton) (next : StepLog) → DoesPlainTable table.listed steps (Ok d) next → (r : Result (List NamedLanguage) StepFault) (new : StepLog) → DoesReads (drop (i + 1) tables) next r new
        → DoesReads (table ∷ drop (i + 1) tables) steps (after_read (named_language table d ∷ []) r) new
    with_first d next done (Ok more) new reads = inl (d, next, done, inl (more, new, reads, (refl, refl)))
    with_first d next done (Err fault) new reads = inl (d, next, done, inr (fault, reads, refl))

    -- one more is read
    pub read_more : (d : Automaton) (next : StepLog) → DoesPlainTable table.listed steps (Ok d) next → AreReadSoFar tables (i + 1) initial (languages ++ named_language table d ∷ []) next
    read_more d next done r new reads =
        subst (λ (x : Result (List NamedLanguage) StepFault). DoesReads tables initial x new) (after_more languages (named_language table d) r)
        (so_far (after_read (named_language table d ∷ []) r) new (subst (λ (ts : List Loaded). DoesReads ts steps (after_read (named_language table d ∷ []) r) new) (sym first_left) (with_first d next done r new reads)))

    -- or it is refused
    pub read_refused : (fault : StepFault) (new : StepLog) → DoesPlainTable table.listed steps (Err fault) new → DoesReads tables initial (Err fault) new
    read_refused fault new refused = so_far (Err fault) new (subst (λ (ts : List Loaded). DoesReads ts steps (Err fault) new) (sym first_left) (inr (fault, refused, refl)))

  -- all are read
  pub all_read : (i : ℕ) (languages : List NamedLanguage) (steps : StepLog) → length tables ≤ i → AreReadSoFar tables i initial languages steps → DoesReads tables initial (Ok languages) steps
  all_read i languages steps past so_far =
      subst (λ (ls : List NamedLanguage). DoesReads tables initial (Ok ls) steps) (append-nil languages) (so_far (Ok []) steps (subst (λ (ts : List Loaded). DoesReads ts steps (Ok []) steps) (sym (drop_all i tables past)) (refl, refl)))

-- the first language of this name is that at a place, where no other before it has the name
module _ (languages : List NamedLanguage) (name : List ℕ) where
  -- none before this place has the name
  abbrev pub IsLeft : ℕ → Type 0
  IsLeft i = language_named (drop i languages) name ≡ language_named languages name

-- a language is under each name that a table has
read_named : (tables : List Loaded) (languages : List NamedLanguage) (old new : StepLog) (name : List ℕ) → DoesReads tables old (Ok languages) new → HasTable tables name → HasLanguage languages name
read_named [] languages old new name does has = absurd has
read_named (table ∷ tables) languages old new name (inr (fault, failed, is)) has = absurd (no_fault languages fault is)
read_named (table ∷ tables) languages old new name (inl (d, mid, done, inr (fault, failed, is))) has = absurd (no_fault languages fault is)
read_named (table ∷ tables) languages old new name (inl (d, mid, done, inl (others, late, reads, (is, same)))) has =
    subst (λ (ls : List NamedLanguage). HasLanguage ls name) (sym (equal_value languages (named_language table d ∷ others) is)) (by (bytes_eq (table_name table) name) refl has (λ later. read_named tables others mid late name reads later))
  where
    by : (b : Bool) → bytes_eq (table_name table) name ≡ b → (table_name table ≡ name) ⊎ HasTable tables name → (HasTable tables name → HasLanguage others name) → HasLanguage (named_language table d ∷ others) name
    by true is either more = (d, ap (λ t. cond t (Some d) (language_named others name)) is)
    by false apart (inl same) more = let no : false ≡ true = sym apart ∙ (bytes_eq-Decides (table_name table) name).1 same in absurd (cc)
    by false apart (inr later) more = let rest = more later in (rest.0, ap (λ t. cond t (Some d) (language_named others name)) apart ∙ rest.1)

pub all_named : (tables : List Loaded) (languages : List NamedLanguage) (old new : StepLog) (names : List (List ℕ)) → DoesReads tables old (Ok languages) new → AllByRecursion (HasTable tables) names → AllByRecursion (HasLanguage languages) names
all_named tables languages old new [] does all = tt
all_named tables languages old new (name ∷ names) does all = (read_named tables languages old new name does all.0, all_named tables languages old new names does all.1)
