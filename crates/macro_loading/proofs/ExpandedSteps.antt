-- The expansion by macros that are read as their names are met.
use Rattle.std.proofs.Common.{◌≡◌, refl, sym, ap, subst, ◌∙◌, ℕ, List, Option, None, Some, Result, Ok, Err, Vec}
use Rattle.std.specs.Prelude.{IfSome}
use Rattle.std.specs.FinMap.{empty, get-empty}
use Rattle.std.specs.declared.alloc.Global.{Global}
use Rattle.wal_outside.specs.Files.{Files}
use Rattle.wal_outside.specs.Views.{StoreView}
use Rattle.macro_expand.specs.Texts.{TextOf, text_in}
use Rattle.macro_expand.specs.Expansion.{expansion}
use Rattle.macro_expand.specs.Sources.{AreAmong, LackUnknownIn, CameToAt, AnswersFrom}
use Rattle.macro_expand.specs.Views.{Answers}
use Rattle.macro_expand.specs.declared.fault.MacroFault.{MacroFault}
use Rattle.macro_expand.specs.declared.fault.MacroFault.TheVariants as macros
use Rattle.macro_loading.specs.MacroFiles.{macros_of, without, Fails, HasRead, IsExpanded}
use Rattle.macro_loading.specs.Reading.{Held, AreRead, IsReady, GoesOn, IsWanting, Stops, IsStill, HasWant, wanting, wanting_some, fault_of}
use Rattle.macro_loading.specs.declared.fault.ExpansionFault.{ExpansionFault}
use Rattle.macro_loading.specs.declared.fault.ExpansionFault.TheVariants as faults
use Rattle.macro_loading.specs.declared.macro_files.MacroFiles.{MacroFiles}
use Rattle.macro_loading.specs.declared.macro_files.Want.{Want}
use Rattle.macro_loading.specs.declared.macro_files.Want.TheVariants.{Absent, TooLong, Failed}
use Rattle.macro_loading.proofs.ShortTexts.{macro_absent, macro_long}
use Rattle.macro_loading.proofs.ChosenFiles.{chosen_plain, chosen_absent, chosen_long, without_among, without_lacks}

-- no macro was read
pub ready_first : (held : Held) → held.texts ≡ empty → held.want ≡ None → IsReady held
ready_first held texts want =
    let none : (name : List ℕ) → text_in held.texts name ≡ None = λ name. ap (λ t. text_in t name) texts ∙ get-empty _ name in
    record {
      read = record {
        short = λ name text e. absurd (cc (none name, e));
        reported = by held.store.files (λ files name text e. absurd (cc (none name, e)));
      };
      all_found = want;
    }
  where
    by : (reported : Option Files) → ((files : Files) → AreAmong (macros_of files) (text_in held.texts)) → IfSome reported (λ files. AreAmong (macros_of files) (text_in held.texts))
    by None all = tt
    by (Some files) all = all files

-- what an expansion by the texts that were read gives
abbrev pub GivesBy : List ℕ → TextOf → Result (Vec ℕ Global) MacroFault → Type 0
GivesBy text found result = (texts : TextOf) → AreAmong texts found → LackUnknownIn texts result → Answers (λ made. made.items) result (expansion texts text)

module _ (text : List ℕ) (old : StoreView) (texts : TextOf) where
  -- the text is expanded
  expanded_made : (new : StoreView) (made : Vec ℕ Global) → AreRead old texts → new ≡ old → GivesBy text texts (Ok made) → IsExpanded text old (Ok made) new
  expanded_made new made read same gives =
      let chosen = chosen_plain old texts read in
      subst (λ (store : StoreView). IsExpanded text old (Ok made) store) (sym same)
      (record { found = chosen.files; reported = chosen.reported; gives = gives (macros_of chosen.files) chosen.among tt; has_read = record { files = refl; faults = refl; cause = refl } })

  -- it has a fault
  expanded_fault : (new : StoreView) (fault : ExpansionFault) → AreRead old texts → new ≡ old → HasRead {X = Vec ℕ Global} old (Err fault) old → ((files : Files) → AreAmong (macros_of files) texts → Fails files text fault) → IsExpanded text old (Err fault) new
  expanded_fault new fault read same has gives =
      let chosen = chosen_plain old texts read in
      subst (λ (store : StoreView). IsExpanded text old (Err fault) store) (sym same)
      (record { found = chosen.files; reported = chosen.reported; gives = gives chosen.files chosen.among; has_read = has })

  read_before : (new : StoreView) → new.files ≡ old.files → AreRead new texts → AreRead old texts
  read_before new same read = record { short = read.short; reported = subst (λ (reported : Option Files). IfSome reported (λ files. AreAmong (macros_of files) texts)) same read.reported }

  -- a macro is not found
  expanded_wanting : (new : StoreView) (name : List ℕ) (want : Want) → AreRead new texts → texts name ≡ None → IsWanting name want old new → GivesBy text texts (Err (macros.Unknown name)) → IsExpanded text old (Err (faults.Load (wanting name want))) new
  expanded_wanting new name Absent read none is gives =
      let chosen = chosen_absent old texts (read_before new (ap (λ (s : StoreView). s.files) is.0) read) name none is.1 in
      subst (λ (store : StoreView). IsExpanded text old (Err (faults.Load (wanting name Absent))) store) (sym is.0)
      (record {
        found = chosen.files;
        reported = chosen.reported;
        gives = (refl, gives (macros_of chosen.files) chosen.among (macro_absent chosen.files name chosen.holds), chosen.holds);
        has_read = record { files = refl; faults = refl; cause = refl };
      })
  expanded_wanting new name TooLong read none is gives =
      let chosen = chosen_long old texts (read_before new (ap (λ (s : StoreView). s.files) is.0) read) name none is.1 in
      subst (λ (store : StoreView). IsExpanded text old (Err (faults.Load (wanting name TooLong))) store) (sym is.0)
      (record {
        found = chosen.files;
        reported = chosen.reported;
        gives = (refl, refl, gives (macros_of chosen.files) chosen.among (macro_long chosen.files name chosen.holds), chosen.holds);
        has_read = record { files = refl; faults = refl; cause = refl };
      })
  expanded_wanting new name Failed read none is gives =
      let chosen = chosen_plain old texts (read_before new is.0 read) in
      record {
        found = chosen.files;
        reported = chosen.reported;
        gives = (refl, gives (without name (macros_of chosen.files)) (without_among (macros_of chosen.files) texts name chosen.among none) (without_lacks (macros_of chosen.files) name));
        has_read = record { files = is.0; faults = is.1; cause = (is.1.1, is.2) };
      }

-- what a source holds, whose store is seen so
abbrev pub held_by : {T : Type 0} → (T → StoreView) → MacroFiles T → Held
held_by view macros = record { store = view macros.store.now; texts = macros.texts; want = macros.want }

-- both are of one store
abbrev pub AreOfOneStore : {T : Type 0} → MacroFiles T → MacroFiles T → Type 0
AreOfOneStore old new = new.store.ghost_name ≡ old.store.ghost_name

module _ {S : Type 0} (Same : S → S → Type 0) (held : S → Held) where
  abbrev Becomes : S → S → Type 0
  Becomes a b = Same a b × GoesOn (held a) (held b) × IsStill (held a) (held b)

  abbrev Lacks : S → List ℕ → S → Type 0
  Lacks a name b = Same a b × Stops (held a) name (held b) × IsStill (held a) (held b)

  -- what the expansion by the texts of such a source answers
  abbrev Answered : List ℕ → S → Result (Vec ℕ Global) MacroFault → S → Type 0
  Answered text old result new = AnswersFrom (λ s. text_in (held s).texts) Becomes Lacks (λ (made : Vec ℕ Global). made.items) (λ texts. expansion texts text) old result new

  same_at : (old new : S) (fault : MacroFault) → CameToAt Becomes Lacks old fault new → Same old new
  same_at old new (macros.Unknown name) came = came.0
  same_at old new macros.Memory came = came.0
  same_at old new (macros.Syntax at) came = came.0
  same_at old new (macros.MacroArgs name n given) came = came.0
  same_at old new (macros.MacroDepth name) came = came.0
  same_at old new macros.MacroLong came = came.0

  -- it is of the same store still
  pub same_by : (text : List ℕ) (old new : S) (result : Result (Vec ℕ Global) MacroFault) → Answered text old result new → Same old new
  same_by text old new (Ok made) answers = answers.came.0
  same_by text old new (Err fault) answers = same_at old new fault answers.came

  wanted_at : (old new : S) (fault : MacroFault) → IsReady (held old) → CameToAt Becomes Lacks old fault new → HasWant fault (held new).want
  wanted_at old new (macros.Unknown name) ready came = let stopped = came.1 ready in (stopped.want, stopped.want_is)
  wanted_at old new macros.Memory ready came = tt
  wanted_at old new (macros.Syntax at) ready came = tt
  wanted_at old new (macros.MacroArgs name n given) ready came = tt
  wanted_at old new (macros.MacroDepth name) ready came = tt
  wanted_at old new macros.MacroLong ready came = tt

  module _ (text : List ℕ) (old new : S) (ready : IsReady (held old)) where
    -- a name that is unknown was not found
    pub wanted_by : (result : Result (Vec ℕ Global) MacroFault) (fault : MacroFault) → result ≡ Err fault → Answered text old result new → HasWant fault (held new).want
    wanted_by result fault is answers = wanted_at old new fault ready (subst (λ (r : Result (Vec ℕ Global) MacroFault). Answered text old r new) is answers).came

    read_still : GoesOn (held old) (held new) → AreRead (held old).store (text_in (held new).texts)
    read_still came = let done = came ready in subst (λ (store : StoreView). AreRead store (text_in (held new).texts)) done.1 done.0.read

    -- the text is expanded
    pub made_by : (result : Result (Vec ℕ Global) MacroFault) (made : Vec ℕ Global) (store : StoreView) → result ≡ Ok made → (held old).store ≡ store → Answered text old result new → IsExpanded text store (Ok made) (held new).store
    made_by result made store is first answers =
        let made_so = subst (λ (r : Result (Vec ℕ Global) MacroFault). Answered text old r new) is answers in
        subst (λ (s : StoreView). IsExpanded text s (Ok made) (held new).store) first
        (expanded_made text (held old).store (text_in (held new).texts) (held new).store made (read_still made_so.came.1) (made_so.came.1 ready).1 made_so.gives)

    -- a fault that no read has
    quiet : (fault : ExpansionFault) → GoesOn (held old) (held new) → HasRead {X = Vec ℕ Global} (held old).store (Err fault) (held old).store
        → ((files : Files) → AreAmong (macros_of files) (text_in (held new).texts) → Fails files text fault) → IsExpanded text (held old).store (Err fault) (held new).store
    quiet fault came has gives = expanded_fault text (held old).store (text_in (held new).texts) (held new).store fault (read_still came) (came ready).1 has gives

    refused : (fault : MacroFault) → GivesBy text (text_in (held new).texts) (Err fault) → CameToAt Becomes Lacks old fault new → IsExpanded text (held old).store (Err (fault_of fault (held new).want)) (held new).store
    refused (macros.Unknown name) gives came =
        let stopped = came.1 ready in
        subst (λ (want : Option Want). IsExpanded text (held old).store (Err (faults.Load (wanting_some name want))) (held new).store) (sym stopped.want_is)
        (expanded_wanting text (held old).store (text_in (held new).texts) (held new).store name stopped.want stopped.read stopped.lacks stopped.wanting gives)
    refused macros.Memory gives came = quiet _ came.1 (record { files = refl; faults = refl; cause = refl }) (λ files among. tt)
    refused (macros.Syntax at) gives came = quiet _ came.1 (record { files = refl; faults = refl; cause = refl }) (λ files among. gives (macros_of files) among tt)
    refused (macros.MacroArgs name n given) gives came = quiet _ came.1 (record { files = refl; faults = refl; cause = refl }) (λ files among. gives (macros_of files) among tt)
    refused (macros.MacroDepth name) gives came = quiet _ came.1 (record { files = refl; faults = refl; cause = refl }) (λ files among. gives (macros_of files) among tt)
    refused macros.MacroLong gives came = quiet _ came.1 (record { files = refl; faults = refl; cause = refl }) (λ files among. gives (macros_of files) among tt)

    -- the text has a fault
    pub refused_by : (result : Result (Vec ℕ Global) MacroFault) (fault : MacroFault) (reported : ExpansionFault) (store : StoreView) → result ≡ Err fault → reported ≡ fault_of fault (held new).want → (held old).store ≡ store → Answered text old result new
        → IsExpanded text store (Err reported) (held new).store
    refused_by result fault reported store is reported_is first answers =
        let refused_so = subst (λ (r : Result (Vec ℕ Global) MacroFault). Answered text old r new) is answers in
        subst (λ (s : StoreView). IsExpanded text s (Err reported) (held new).store) first
        (subst (λ (e : ExpansionFault). IsExpanded text (held old).store (Err e) (held new).store) (sym reported_is) (refused fault refused_so.gives refused_so.came))
