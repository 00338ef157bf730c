-- From what each part of the code makes of a question about listed words to what the checks of its command make.
use Rattle.std.proofs.Common.{◌≡◌, ◌++◌, ℕ, Bool, List, [], ◌∷◌, Some, Result, Ok, Err, inl, inr, refl, sym, subst}
use Rattle.wal_outside.specs.Places.{Place}
use Rattle.wal_outside.specs.declared.folder.Folder.TheVariants.{Automata}
use Rattle.digit_tuple.specs.Deterministic.{Automaton}
use Rattle.digit_tuple.specs.Steps.{StepLog}
use Rattle.digit_tuple.specs.declared.direction.Direction.{Direction}
use Rattle.digit_tuple.specs.declared.step_fault.StepFault.{StepFault}
use Rattle.digit_tuple.specs.declared.step_fault.StepFault.TheVariants as steps
use Rattle.digit_tuple.specs.declared.steps.StepLine.{StepLine}
use Rattle.std.specs.Prelude.{Option}
use Rattle.dfa_loading.specs.declared.loaded.Loaded.{Loaded}
use Rattle.word_walk.specs.Listed.{is_listed}
use Rattle.definitions.specs.Listings.{AreTracksOf}
use Rattle.definitions.specs.Tracks.{Tracks, letter_sets}
use Rattle.definitions.specs.Trees.{Entry, Ledger, tree_of, custom_of}
use Rattle.table_listings.specs.Questions.{Answers, HasTooLongAnswer, IsAskedOn}
use Rattle.table_listings.specs.declared.question.Answer.{Answer}
use Rattle.table_listings.specs.declared.question.Answer.TheVariants as given
use Rattle.table_listings.specs.declared.question.Question.{Question}
use Rattle.command_parts.specs.declared.step_refusal.StepRefusal.TheVariants as step_refusals
use Rattle.command_parts.specs.declared.shape_refusal.ShapeRefusal.TheVariants as shape_refusals
use Rattle.command_parts.specs.declared.word_refusal.WordRefusal.TheVariants as word_refusals
use Rattle.command_parts.specs.declared.refusal.Refusal.TheVariants as refusals
use Rattle.command_parts.specs.declared.fault.Fault.{Fault}
use Rattle.command_parts.specs.declared.fault.Fault.TheVariants as faults
use Rattle.listing_commands.specs.declared.listing_fault.ListingFault.{ListingFault}
use Rattle.listing_commands.specs.declared.listing_fault.ListingFault.TheVariants as own
use Rattle.command_parts.specs.Accepting.{Said}
use Rattle.command_parts.specs.Checks.{Check, Fails, Passing, Then}
use Rattle.command_parts.specs.FileChecks.{FilesAnswers, files_loaded}
use Rattle.command_parts.specs.Lines.{shown_steps}
use Rattle.listing_commands.specs.ListingFaults.{fault_of_listing}
use Rattle.listing_commands.specs.ListingMakes.{AnswersBy, reply_of, answer_text}
use Rattle.listing_commands.specs.ListingOutcomes.{AreTableTracks, HasListing, IsRead, IsReadRefused, IsReply, PlaceAnswers, ReadingAnswers, Reply, ReplyAnswers, DecidesListed, after_listing_head, after_listing_systems, after_listing_tables, after_place, after_read, after_tracks, listing_files, listing_systems, reply_text, too_long}
use Rattle.command_parts.specs.FileChanges.{PrintsChecked}
use Rattle.command_parts.specs.RefusingChecks.{Refusing}
use Rattle.command_parts.specs.SystemChecks.{SystemsAnswers, systems_known}
use Rattle.command_parts.specs.TrackSystems.{fault_of}
use Rattle.command_parts.proofs.CheckSteps.{fails_first, fails_after}
use Rattle.command_parts.proofs.StoreReads.{IsOwn, own_fault}

-- what the checks after the first make all of them make
pub prints_after : {Y : Type 0} (first : Check Y) (rest : Y → Check Said) (y : Y) (shown : Bool) (r : Result (List ℕ) Fault) → first.answers (Ok y) → PrintsChecked (rest y) shown r → PrintsChecked (Then first rest) shown r
prints_after first rest y shown (Ok printed) passed (said, answers, is) = (said, (y, passed, answers), is)
prints_after first rest y shown (Err f) passed refused = fails_after first rest y f passed refused

-- an answer is printed after the steps, or the fault refuses
abbrev pub PrintsAnswer : Check Said → Bool → List StepLine → Result Answer ListingFault → Type 0
PrintsAnswer checks shown lines (Ok answer) = PrintsChecked checks shown (Ok (answer_text shown lines answer))
PrintsAnswer checks shown lines (Err fault) = Fails checks (fault_of_listing fault)

module _ (ledger : Ledger) (name : List ℕ) (question : Question) (table : Loaded) (admitted : StepLog) (tracks : Tracks) (are : AreTracksOf (custom_of ledger) table.listed.header tracks) where
  abbrev tables : List Loaded
  tables = table ∷ []

  abbrev checks : Check Said
  checks = after_listing_systems ledger name question tables admitted

  tracked : (shown : Bool) (r : Result (List ℕ) Fault) → PrintsChecked (after_tracks ledger name question tables admitted tracks) shown r → PrintsChecked checks shown r
  tracked shown r h = prints_after (Passing (AreTableTracks (custom_of ledger) tables)) (λ ts. after_tracks ledger name question tables admitted ts) tracks shown r are h

  -- the place is not on the tracks
  off_tracks : (shown : Bool) → ¬ IsAskedOn (letter_sets tracks) question → PrintsChecked checks shown (Err (faults.Refused (refusals.Shape (shape_refusals.Place name))))
  off_tracks shown off =
      tracked shown (Err (faults.Refused (refusals.Shape (shape_refusals.Place name)))) (fails_first (Refusing (λ of. faults.Refused (refusals.Shape (shape_refusals.Place of))) (PlaceAnswers name tracks question)) (λ on. after_place ledger name question tables admitted tracks) (faults.Refused (refusals.Shape (shape_refusals.Place name))) (name, refl, (refl, off)))

  module _ (on : IsAskedOn (letter_sets tracks) question) where
    placed : (shown : Bool) (r : Result (List ℕ) Fault) → PrintsChecked (after_place ledger name question tables admitted tracks) shown r → PrintsChecked checks shown r
    placed shown r h = tracked shown r (prints_after (Refusing (λ of. faults.Refused (refusals.Shape (shape_refusals.Place of))) (PlaceAnswers name tracks question)) (λ here. after_place ledger name question tables admitted tracks) tt shown r on h)

    -- a step passes a limit
    letters_refused : (shown : Bool) (step : ℕ) → IsReadRefused table.listed.header admitted (custom_of ledger) table (steps.Letters step) → PrintsChecked checks shown (Err (faults.Refused (refusals.Step (step_refusals.Letters step))))
    letters_refused shown step refused =
        placed shown (Err (faults.Refused (refusals.Step (step_refusals.Letters step))))
        (fails_first (Refusing fault_of (ReadingAnswers admitted (custom_of ledger) tables)) (λ lines. after_read ledger name question tracks lines) (faults.Refused (refusals.Step (step_refusals.Letters step))) (steps.Letters step, refl, refused))

    states_refused : (shown : Bool) (step : ℕ) → IsReadRefused table.listed.header admitted (custom_of ledger) table (steps.States step) → PrintsChecked checks shown (Err (faults.Refused (refusals.Step (step_refusals.States step))))
    states_refused shown step refused =
        placed shown (Err (faults.Refused (refusals.Step (step_refusals.States step))))
        (fails_first (Refusing fault_of (ReadingAnswers admitted (custom_of ledger) tables)) (λ lines. after_read ledger name question tracks lines) (faults.Refused (refusals.Step (step_refusals.States step))) (steps.States step, refl, refused))

    module _ (lines : List StepLine) (read : IsRead table.listed.header admitted (custom_of ledger) table lines) (listing : HasListing ledger name tracks) where
      after_lines : (shown : Bool) (r : Result (List ℕ) Fault) → PrintsChecked (after_read ledger name question tracks lines) shown r → PrintsChecked checks shown r
      after_lines shown r h = placed shown r (prints_after (Refusing fault_of (ReadingAnswers admitted (custom_of ledger) tables)) (λ ls. after_read ledger name question tracks ls) lines shown r read h)

      replied : (shown : Bool) (reply : Reply) → IsReply listing.lists (letter_sets tracks) question reply → PrintsChecked checks shown (Ok (shown_steps shown lines ++ reply_text reply))
      replied shown reply is =
          after_lines shown (Ok (shown_steps shown lines ++ reply_text reply))
          (record { lines = lines; text = reply_text reply }, (reply, (listing, is), refl), refl)

      lines_refused : (shown : Bool) → HasTooLongAnswer listing.lists (letter_sets tracks) question → PrintsChecked checks shown (Err (faults.Refused (refusals.Word word_refusals.TestLong)))
      lines_refused shown long =
          after_lines shown (Err (faults.Refused (refusals.Word word_refusals.TestLong)))
          (fails_first (Refusing too_long (ReplyAnswers ledger name tracks question)) (λ reply. Passing (λ (said : Said). said ≡ record { lines = lines; text = reply_text reply })) (faults.Refused (refusals.Word word_refusals.TestLong)) (tt, refl, (listing, long)))

  -- What is answered about an automaton that is read. It is that of the definition under the name.
  module _ (log : StepLog) (entry : Entry) (there : ledger Automata name ≡ Some entry) (Does : Result Automaton StepFault → Type 0) (skip : Option Direction)
      (reads : (d : Automaton) → Does (Ok d) → IsRead table.listed.header admitted (custom_of ledger) table log.lines)
      (stops : (fault : StepFault) → Does (Err fault) → IsReadRefused table.listed.header admitted (custom_of ledger) table fault)
      (decides_words : (d : Automaton) → Does (Ok d) → DecidesListed (custom_of ledger) tracks (tree_of entry) (is_listed d skip)) where
    listing_of : (d : Automaton) → Does (Ok d) → HasListing ledger name tracks
    listing_of d does = record { entry = entry; there = there; lists = is_listed d skip; decides_words = decides_words d does }

    is_reply : (d : Automaton) (answer : Answer) → Answers (is_listed d skip) (letter_sets tracks) question answer → IsReply (is_listed d skip) (letter_sets tracks) question (reply_of answer)
    is_reply d (given.Lines text) is = is
    is_reply d (given.Verdict infinite) is = is

    pub answered_so : (shown : Bool) (result : Result Answer ListingFault) → AnswersBy Does skip (letter_sets tracks) name question result → PrintsAnswer checks shown log.lines result
    unfolding listing_of
    answered_so shown (Ok answer) is = replied is.on log.lines (reads is.read is.does) (listing_of is.read is.does) shown (reply_of answer) (is_reply is.read answer is.answers)
    answered_so shown (Err (own.Place of)) (same, off) = subst (λ (n : List ℕ). Fails checks (faults.Refused (refusals.Shape (shape_refusals.Place n)))) (sym same) (off_tracks shown off)
    answered_so shown (Err (own.Step (steps.Letters step))) (on, does) = letters_refused on shown step (stops (steps.Letters step) does)
    answered_so shown (Err (own.Step (steps.States step))) (on, does) = states_refused on shown step (stops (steps.States step) does)
    answered_so shown (Err (own.Step steps.Memory)) is = tt
    answered_so shown (Err own.Long) is = lines_refused is.on log.lines (reads is.read is.does) (listing_of is.read is.does) shown is.long

-- its file is not loaded
pub listing_unloaded : (limit : ℕ) (ledger : Ledger) (name : List ℕ) (question : Question) (fault : Fault) → Fails (files_loaded ledger (listing_files name)) fault → Fails (after_listing_head limit ledger name question) fault
listing_unloaded limit ledger name question fault refused = fails_first (files_loaded ledger (listing_files name)) (λ tables. after_listing_tables limit ledger name question tables) fault refused

-- what is said where it is
pub listing_loaded : (limit : ℕ) (ledger : Ledger) (name : List ℕ) (question : Question) (tables : List Loaded) (shown : Bool) (result : Result (List ℕ) Fault) → FilesAnswers ledger (listing_files name) (Ok tables) → PrintsChecked (after_listing_tables limit ledger name question tables) shown result
    → PrintsChecked (after_listing_head limit ledger name question) shown result
listing_loaded limit ledger name question tables shown result there prints_checked = prints_after (files_loaded ledger (listing_files name)) (λ ts. after_listing_tables limit ledger name question ts) tables shown result there prints_checked

-- a system of its tracks is refused
pub listing_unknown : (limit : ℕ) (ledger : Ledger) (name : List ℕ) (question : Question) (tables : List Loaded) (fault : Fault) → Fails (systems_known limit (custom_of ledger) (listing_systems tables name)) fault → Fails (after_listing_tables limit ledger name question tables) fault
listing_unknown limit ledger name question tables fault refused = fails_first (systems_known limit (custom_of ledger) (listing_systems tables name)) (λ admitted. after_listing_systems ledger name question tables admitted) fault refused

-- what is said where they are known
pub listing_known : (limit : ℕ) (ledger : Ledger) (name : List ℕ) (question : Question) (tables : List Loaded) (admitted : StepLog) (shown : Bool) (result : Result (List ℕ) Fault) → SystemsAnswers limit (custom_of ledger) (listing_systems tables name) (Ok admitted)
    → PrintsChecked (after_listing_systems ledger name question tables admitted) shown result → PrintsChecked (after_listing_tables limit ledger name question tables) shown result
listing_known limit ledger name question tables admitted shown result known prints_checked =
    prints_after (systems_known limit (custom_of ledger) (listing_systems tables name)) (λ log. after_listing_systems ledger name question tables log) admitted shown result known prints_checked

-- no file is read after the systems
no_listing_read : (ledger : Ledger) (name : List ℕ) (question : Question) (tables : List Loaded) (admitted : StepLog) (place : Place) → (after_listing_systems ledger name question tables admitted).reads place → ⊥
no_listing_read ledger name question tables admitted place (inl read) = read
no_listing_read ledger name question tables admitted place (inr (tracks, are, inl read)) = read
no_listing_read ledger name question tables admitted place (inr (tracks, are, inr (on, placed, inl read))) = read
no_listing_read ledger name question tables admitted place (inr (tracks, are, inr (on, placed, inr (lines, steps, inl read)))) = read
no_listing_read ledger name question tables admitted place (inr (tracks, are, inr (on, placed, inr (lines, steps, inr (reply, said, read))))) = read

-- so what is said is refused by no fault of the store
pub own_said : (ledger : Ledger) (name : List ℕ) (question : Question) (tables : List Loaded) (admitted : StepLog) (shown : Bool) (r : Result (List ℕ) Fault) → PrintsChecked (after_listing_systems ledger name question tables admitted) shown r → IsOwn r
own_said ledger name question tables admitted shown (Ok printed) prints_checked = tt
own_said ledger name question tables admitted shown (Err f) refused = own_fault (after_listing_systems ledger name question tables admitted) (λ place. no_listing_read ledger name question tables admitted place) f refused
