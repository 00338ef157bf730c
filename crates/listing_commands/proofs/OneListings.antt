-- A question about listed words has one outcome.
use Rattle.std.proofs.Common.{◌≡◌, ◌≢◌, ◌↔◌, ℕ, ◌<◌, ℤ, Bool, List, [], ◌∷◌, length, Some, Result, Ok, Err, refl, sym, ap, ◌∙◌, subst, IsTrue, arith, codes}
use Rattle.std.specs.List.{All, AllByRecursion}
use Rattle.std.proofs.lemmas.List.Elements.{All-from_recursion}
use Rattle.wal_outside.specs.Files.{Files}
use Rattle.command_head.specs.Grammar.{DerivesName}
use Rattle.command_head.specs.Heads.{TestHead}
use Rattle.command_head.specs.TestBreaks.{HasTest}
use Rattle.command_head.specs.declared.fault.HeadFault.{HeadFault}
use Rattle.command_head.specs.declared.fault.HeadFault.TheVariants as heads
use Rattle.command_head.proofs.ListingHeads.{one_name}
use Rattle.command_head.proofs.OneFault.{one_head}
use Rattle.command_head.proofs.TestHeads.{one_test}
use Rattle.automaton_steps.proofs.AnswerCases.{memory_alone, one_value, same_fault}
use Rattle.digit_tuple.specs.Sets.{IsAscending}
use Rattle.digit_tuple.specs.Steps.{StepLog}
use Rattle.digit_tuple.specs.declared.direction.Direction.{Direction}
use Rattle.digit_tuple.specs.declared.step_fault.StepFault.{StepFault}
use Rattle.digit_tuple.specs.declared.step_fault.StepFault.TheVariants as steps
use Rattle.digit_tuple.specs.declared.steps.StepLine.{StepLine}
use Rattle.digit_tuple.proofs.SystemLemmas.{IsLetterSet-digit_set}
use Rattle.digit_tuple.proofs.TruthLemmas.{same_tests}
use Rattle.dfa_loading.specs.Loading.{AreListedBy}
use Rattle.dfa_loading.specs.Places.{IsListedBy}
use Rattle.dfa_loading.specs.declared.loaded.Loaded.{Loaded}
use Rattle.dfa_reading.specs.Headers.{Header, Truth, Systems, Sets}
use Rattle.formula_resolve.specs.declared.file.File.TheVariants.{Automaton}
use Rattle.language_steps.specs.LanguageSteps.{DoesPlainTable}
use Rattle.language_steps.proofs.HeaderSets.{file_sets}
use Rattle.language_steps.proofs.OneSteps.{table_one}
use Rattle.definitions.specs.Listings.{AreTracksOf, IsListedOver}
use Rattle.definitions.specs.Named.{AreNamed}
use Rattle.definitions.specs.Tracks as tracks
use Rattle.definitions.specs.Tracks.{Tracks, OverSets, OverSystems, letter_sets, names_of}
use Rattle.definitions.specs.Trees.{Entry, Ledger, tree_of, custom_of}
use Rattle.definitions.proofs.NameLemmas.{same_direction, same_list}
use Rattle.system_files.specs.SystemFiles.{Custom}
use Rattle.table_listings.specs.Questions.{HasLines, HasTooLongAnswer, HasVerdict}
use Rattle.table_listings.specs.declared.question.Question.{Question}
use Rattle.table_listings.specs.declared.question.Question.TheVariants.{Words, Infinity}
use Rattle.table_listings.proofs.OneAnswer.{equal_lists}
use Rattle.command_parts.specs.declared.shape_refusal.ShapeRefusal.TheVariants as shape_refusals
use Rattle.command_parts.specs.declared.refusal.Refusal.{Refusal}
use Rattle.command_parts.specs.declared.refusal.Refusal.TheVariants as refusals
use Rattle.command_parts.specs.declared.fault.Fault.TheVariants as faults
use Rattle.command_parts.specs.Accepting.{Said}
use Rattle.command_parts.specs.Checks.{Passing, Pure, IsSingle}
use Rattle.command_parts.specs.FileChecks.{files_loaded}
use Rattle.command_parts.specs.FormulaSteps.{IsReadingStopped}
use Rattle.command_parts.specs.HeadAnswers.{HeadAnswers, fault_of_head}
use Rattle.listing_commands.specs.ListingOutcomes.{AreTableTracks, HasListing, IsPlainRead, IsReply, IsSystemsRead, Lines, PlaceAnswers, IsReadRefused, ReadingAnswers, ReadingAnswersBelow, Reply, ReplyAnswers, Verdict, after_listing_head, after_listing_systems, after_listing_tables, after_place, after_read, after_tracks, listing_files, inf_checks, listing_systems, reply_text, test_checks, too_long, words_asked, TestAnswers}
use Rattle.command_parts.specs.RefusingChecks.{Refusing}
use Rattle.command_parts.specs.SystemChecks.{systems_known}
use Rattle.command_parts.specs.TrackSystems.{fault_of}
use Rattle.command_parts.proofs.CheckSteps.{passing_single, then_single}
use Rattle.command_parts.proofs.HeaderLines.{listed_some}
use Rattle.command_parts.proofs.MeantNames.{named_digits}
use Rattle.command_parts.proofs.OneHeads.{head_single}
use Rattle.command_parts.proofs.OneLoadings.{files_single}
use Rattle.command_parts.proofs.OneMeantReadings.{both_stopped, read_stopped, same_reading, stopped_by}
use Rattle.command_parts.proofs.OneSystems.{systems_single}
use Rattle.command_parts.proofs.RefusingSteps.{refusing_single}

-- a check that refuses nothing answers in one way where there is one value
one_passes : {Y : Type 0} (Is : Y → Type 0) → ((y z : Y) → Is y → Is z → y ≡ z) → IsSingle (Passing Is)
one_passes {Y} Is one (Ok y) (Ok z) a b = ap (λ (x : Y). let r : Result Y Refusal = Ok x in r) (one y z a b)
one_passes Is one (Ok y) (Err f) a b = absurd b
one_passes Is one (Err f) s a b = absurd a

-- a header has one list of tracks
named_over : (custom : Custom) (names : List (List ℕ)) (over other : Tracks) → 0 < length names → AreTracksOf custom (Systems names) over → AreTracksOf custom (Systems names) other → over ≡ other
named_over custom names (OverSets sets) other some a b = absurd a
named_over custom names (OverSystems direction named) (OverSets sets) some a b = absurd b
named_over custom names (OverSystems direction named) (OverSystems direction' named') some (is, are) (is', are') =
    let same : named ≡ named' = same_list custom direction direction' named named' are are' (sym is ∙ is') in
    let directions : direction ≡ direction' = same_direction custom direction direction' named named' (some_named named (subst (λ (ns : List (List ℕ)). 0 < length ns) is some)) are are' (sym is ∙ is') in
    λ i. OverSystems (directions i) (same i)
  where
    some_named : (xs : List tracks.NamedSystem) → 0 < length (names_of xs) → 0 < length xs
    some_named [] none = none
    some_named (x ∷ xs) more = omega arith

one_over : (custom : Custom) (header : Header) (over other : Tracks) → ((names : List (List ℕ)) → header ≡ Systems names → 0 < length names) → AreTracksOf custom header over → AreTracksOf custom header other → over ≡ other
one_over custom (Truth value) over other some a b = a ∙ sym b
one_over custom (Systems names) over other some a b = named_over custom names over other (some names refl) a b
one_over custom (Sets sets) over other some a b = a ∙ sym b

-- whose digits are in order
digits_up : (custom : Custom) (direction : Direction) (named : List tracks.NamedSystem) → AreNamed custom direction named → AllByRecursion IsAscending (letter_sets (OverSystems direction named))
digits_up custom direction [] are = tt
digits_up custom direction (s ∷ named) are = ((IsLetterSet-digit_set s.system.digits (named_digits custom s.name direction s.system are.0)).ascending, digits_up custom direction named are.1)

over_up : (custom : Custom) (header : Header) (over : Tracks) → ((sets : List (List ℤ)) → header ≡ Sets sets → All IsAscending sets) → AreTracksOf custom header over → All IsAscending (letter_sets over)
over_up custom (Truth value) over up are = subst (λ (t : Tracks). All IsAscending (letter_sets t)) (sym are) (All-from_recursion IsAscending [] tt)
over_up custom (Systems names) (OverSystems direction named) up are = All-from_recursion IsAscending (letter_sets (OverSystems direction named)) (digits_up custom direction named are.1)
over_up custom (Systems names) (OverSets sets) up are = absurd are
over_up custom (Sets sets) over up are = subst (λ (t : Tracks). All IsAscending (letter_sets t)) (sym are) (up sets refl)

-- the place is on the tracks, or not
place_one : (name : List ℕ) (over : Tracks) (question : Question) (r s : Result (Unit {0}) (List ℕ)) → PlaceAnswers name over question r → PlaceAnswers name over question s → r ≡ s
place_one name over question (Ok on) (Ok also) a b = refl
place_one name over question (Ok on) (Err of) a b = absurd (b.1 a)
place_one name over question (Err of) (Ok on) a b = absurd (a.1 b)
place_one name over question (Err of) (Err other) a b = ap (λ (n : List ℕ). let r : Result (Unit {0}) (List ℕ) = Err n in r) (a.0 ∙ sym b.0)

-- the steps of a table over sets have one answer
module _ (admitted : StepLog) (table : Loaded) where
  plain_lines : (ls ms : List StepLine) → IsPlainRead admitted table ls → IsPlainRead admitted table ms → ls ≡ ms
  plain_lines ls ms a b =
      let same = one_value steps.Memory a.log b.log a.read b.read (table_one table.listed admitted a.log b.log (Ok a.read) (Ok b.read) a.done b.done) in
      a.lines_are ∙ (ap (λ (l : StepLog). l.lines) same.1 ∙ sym b.lines_are)

  plain_refused : (ls : List StepLine) (fault : StepFault) → fault ≢ steps.Memory → IsPlainRead admitted table ls → (log : StepLog) × DoesPlainTable table.listed admitted (Err fault) log → ⊥
  plain_refused ls fault ample a (log, does) = ample (memory_alone steps.Memory a.log log a.read fault (table_one table.listed admitted a.log log (Ok a.read) (Err fault) a.done does))

  plain_faults : (f g : StepFault) → f ≢ steps.Memory → g ≢ steps.Memory → (log : StepLog) × DoesPlainTable table.listed admitted (Err f) log → (log : StepLog) × DoesPlainTable table.listed admitted (Err g) log → f ≡ g
  plain_faults f g ample enough (log, does) (next, also) = same_fault steps.Memory log next f g (table_one table.listed admitted log next (Err f) (Err g) does also) ample enough

-- those of a table over systems too
module _ (admitted : StepLog) (custom : Custom) (table : Loaded) (files : Files) (name : List ℕ) (listed : AreListedBy files (listing_files name) (table ∷ [])) where
  systems_lines : (ls ms : List StepLine) → IsSystemsRead admitted custom table ls → IsSystemsRead admitted custom table ms → ls ≡ ms
  systems_lines ls ms a b =
      let same = same_reading admitted custom (table ∷ []) files (listing_files name) listed a.systems b.systems a.log b.log a.reads b.reads a.sealed a.meant b.sealed b.meant a.done b.done in
      a.lines_are ∙ (ap (λ (l : StepLog). l.lines) same.1 ∙ sym b.lines_are)

  systems_refused : (ls : List StepLine) (fault : StepFault) → fault ≢ steps.Memory → IsSystemsRead admitted custom table ls → IsReadingStopped admitted custom (table ∷ []) fault → ⊥
  systems_refused ls fault ample a stopped =
      read_stopped admitted custom (table ∷ []) files (listing_files name) listed a.systems a.log a.reads (Err fault) a.sealed a.meant a.done (stopped_by admitted custom (table ∷ []) fault ample stopped)

  systems_faults : (f g : StepFault) → f ≢ steps.Memory → g ≢ steps.Memory → IsReadingStopped admitted custom (table ∷ []) f → IsReadingStopped admitted custom (table ∷ []) g → f ≡ g
  systems_faults f g ample enough a b =
      let both : (let x : Result (List StepLine) StepFault = Err f in x) ≡ Err g =
      both_stopped admitted custom (table ∷ []) files (listing_files name) listed (Err f) (Err g) (stopped_by admitted custom (table ∷ []) f ample a) (stopped_by admitted custom (table ∷ []) g enough b) in cc

-- there are lines, or a fault that is none of memory
module _ (Answers : Result (List StepLine) StepFault → Type 0) (Reads : List StepLine → Type 0) (Stops : StepFault → Type 0) (reads : (ls : List StepLine) → Answers (Ok ls) → Reads ls) (stops : (f : StepFault) → Answers (Err f) → (f ≢ steps.Memory) × Stops f)
    (lines : (ls ms : List StepLine) → Reads ls → Reads ms → ls ≡ ms) (apart : (ls : List StepLine) (f : StepFault) → f ≢ steps.Memory → Reads ls → Stops f → ⊥) (one : (f g : StepFault) → f ≢ steps.Memory → g ≢ steps.Memory → Stops f → Stops g → f ≡ g) where
  one_done : (r s : Result (List StepLine) StepFault) → Answers r → Answers s → r ≡ s
  one_done (Ok ls) (Ok ms) a b = ap (λ (x : List StepLine). let r : Result (List StepLine) StepFault = Ok x in r) (lines ls ms (reads ls a) (reads ms b))
  one_done (Ok ls) (Err f) a b = let f_stops = stops f b in absurd (apart ls f f_stops.0 (reads ls a) f_stops.1)
  one_done (Err f) (Ok ls) a b = let f_stops = stops f a in absurd (apart ls f f_stops.0 (reads ls b) f_stops.1)
  one_done (Err f) (Err g) a b =
      let first = stops f a in
      let other = stops g b in
      ap (λ (x : StepFault). let r : Result (List StepLine) StepFault = Err x in r) (one f g first.0 other.0 first.1 other.1)

module _ (admitted : StepLog) (custom : Custom) (table : Loaded) (files : Files) (name : List ℕ) (listed : AreListedBy files (listing_files name) (table ∷ [])) where
  plain_stops : (sets : List (List ℤ)) (f : StepFault) → ReadingAnswersBelow (Sets sets) admitted custom table (Err f) → (f ≢ steps.Memory) × ((log : StepLog) × DoesPlainTable table.listed admitted (Err f) log)
  plain_stops sets (steps.Letters step) a = ((λ same. cc), a)
  plain_stops sets (steps.States step) a = ((λ same. cc), a)
  plain_stops sets steps.Memory a = absurd a

  systems_stop : (header : Header) → ((f : StepFault) → IsReadRefused header admitted custom table f → IsReadingStopped admitted custom (table ∷ []) f) → (f : StepFault) → ReadingAnswersBelow header admitted custom table (Err f)
      → (f ≢ steps.Memory) × IsReadingStopped admitted custom (table ∷ []) f
  systems_stop header refused (steps.Letters step) a = ((λ same. cc), refused (steps.Letters step) a)
  systems_stop header refused (steps.States step) a = ((λ same. cc), refused (steps.States step) a)
  systems_stop header refused steps.Memory a = absurd a

  reading_one : (header : Header) (r s : Result (List StepLine) StepFault) → ReadingAnswersBelow header admitted custom table r → ReadingAnswersBelow header admitted custom table s → r ≡ s
  reading_one (Truth value) r s a b =
      one_done (ReadingAnswersBelow (Truth value) admitted custom table) (IsSystemsRead admitted custom table) (λ f. IsReadingStopped admitted custom (table ∷ []) f) (λ ls read. read) (systems_stop (Truth value) (λ f stopped. stopped))
      (systems_lines admitted custom table files name listed) (systems_refused admitted custom table files name listed) (systems_faults admitted custom table files name listed) r s a b
  reading_one (Systems names) r s a b =
      one_done (ReadingAnswersBelow (Systems names) admitted custom table) (IsSystemsRead admitted custom table) (λ f. IsReadingStopped admitted custom (table ∷ []) f) (λ ls read. read) (systems_stop (Systems names) (λ f stopped. stopped))
      (systems_lines admitted custom table files name listed) (systems_refused admitted custom table files name listed) (systems_faults admitted custom table files name listed) r s a b
  reading_one (Sets sets) r s a b =
      one_done (ReadingAnswersBelow (Sets sets) admitted custom table) (IsPlainRead admitted table) (λ f. (log : StepLog) × DoesPlainTable table.listed admitted (Err f) log) (λ ls read. read) (plain_stops sets)
      (plain_lines admitted table) (plain_refused admitted table) (plain_faults admitted table) r s a b

-- the definition under a name, and the words that it lists over some tracks
module _ (ledger : Ledger) (name : List ℕ) (over : Tracks) where
  same_entry : (a b : HasListing ledger name over) → a.entry ≡ b.entry
  same_entry a b = let both : Some a.entry ≡ Some b.entry = sym a.there ∙ b.there in cc

  same_listing : (a b : HasListing ledger name over) (w : List ℕ) → a.lists w ≡ b.lists w
  same_listing a b w =
      let moved : IsTrue (b.lists w) ↔ IsListedOver (custom_of ledger) over (tree_of a.entry) w = subst (λ (e : Entry). IsTrue (b.lists w) ↔ IsListedOver (custom_of ledger) over (tree_of e) w) (sym (same_entry a b)) (b.decides_words w) in
      same_tests (a.lists w) (b.lists w) (λ h. moved.1 ((a.decides_words w).0 h), λ h. (a.decides_words w).1 (moved.0 h))

  module _ (question : Question) (up : All IsAscending (letter_sets over)) where
    -- lines are asked for, or a verdict is
    not_both : (lists others : List ℕ → Bool) (text : List ℕ) (infinite : Bool) (q : Question) → HasLines lists (letter_sets over) q text → HasVerdict others q infinite → ⊥
    not_both lists others text infinite (Words words) has verdict = verdict
    not_both lists others text infinite Infinity has verdict = has

    no_verdict : (lists others : List ℕ → Bool) (infinite : Bool) (q : Question) → HasVerdict lists q infinite → HasTooLongAnswer others (letter_sets over) q → ⊥
    no_verdict lists others infinite (Words words) verdict long = verdict
    no_verdict lists others infinite Infinity verdict long = long

    same_reply : (a b : HasListing ledger name over) (reply other : Reply) → IsReply a.lists (letter_sets over) question reply → IsReply b.lists (letter_sets over) question other → reply ≡ other
    same_reply a b (Lines text) (Lines other) is also = ap Lines ((equal_lists.lines a.lists b.lists (letter_sets over) question text up (same_listing a b) is).1 other also)
    same_reply a b (Lines text) (Verdict infinite) is also = absurd (not_both a.lists b.lists text infinite question is also)
    same_reply a b (Verdict infinite) (Lines text) is also = absurd (not_both b.lists a.lists text infinite question also is)
    same_reply a b (Verdict infinite) (Verdict other) is also = ap Verdict (equal_lists.verdict a.lists b.lists question infinite other (same_listing a b) is also)

    not_long : (a b : HasListing ledger name over) (reply : Reply) → IsReply a.lists (letter_sets over) question reply → HasTooLongAnswer b.lists (letter_sets over) question → ⊥
    not_long a b (Lines text) is long = (equal_lists.lines a.lists b.lists (letter_sets over) question text up (same_listing a b) is).0 long
    not_long a b (Verdict infinite) is long = no_verdict a.lists b.lists infinite question is long

    reply_one : (r s : Result Reply (Unit {0})) → ReplyAnswers ledger name over question r → ReplyAnswers ledger name over question s → r ≡ s
    reply_one (Ok reply) (Ok other) (a, is) (b, also) = ap (λ (x : Reply). let r : Result Reply (Unit {0}) = Ok x in r) (same_reply a b reply other is also)
    reply_one (Ok reply) (Err long) (a, is) (b, also) = absurd (not_long a b reply is also)
    reply_one (Err long) (Ok reply) (a, is) (b, also) = absurd (not_long b a reply also is)
    reply_one (Err long) (Err other) a b = refl

-- the checks after the systems, by the table that files list
module _ (ledger : Ledger) (name : List ℕ) (question : Question) (admitted : StepLog) (files : Files) where
  table_single : (table : Loaded) → AreListedBy files (listing_files name) (table ∷ []) → IsSingle (after_listing_systems ledger name question (table ∷ []) admitted)
  table_single table listed =
      let at : IsListedBy files (Automaton name) table = listed.0 in
      let some = λ (names : List (List ℕ)) (is : table.listed.header ≡ Systems names). listed_some at.text table.listed names at.lists.lists is in
      then_single (Passing (AreTableTracks (custom_of ledger) (table ∷ []))) (λ over. after_tracks ledger name question (table ∷ []) admitted over)
      (one_passes (AreTableTracks (custom_of ledger) (table ∷ [])) (λ over other a b. one_over (custom_of ledger) table.listed.header over other some a b)) (λ over are.
      then_single (Refusing (λ of. faults.Refused (refusals.Shape (shape_refusals.Place of))) (PlaceAnswers name over question)) (λ on. after_place ledger name question (table ∷ []) admitted over) (refusing_single (λ of. faults.Refused (refusals.Shape (shape_refusals.Place of))) (PlaceAnswers name over question) (place_one name over question)) (λ on here.
      then_single (Refusing fault_of (ReadingAnswers admitted (custom_of ledger) (table ∷ []))) (λ lines. after_read ledger name question over lines)
      (refusing_single fault_of (ReadingAnswers admitted (custom_of ledger) (table ∷ [])) (reading_one admitted (custom_of ledger) table files name listed table.listed.header)) (λ lines read.
      then_single (Refusing too_long (ReplyAnswers ledger name over question)) (λ reply. Passing (λ (said : Said). said ≡ record { lines = lines; text = reply_text reply }))
      (refusing_single too_long (ReplyAnswers ledger name over question) (reply_one ledger name over question (sets_up table at over are))) (λ reply said.
      passing_single (record { lines = lines; text = reply_text reply })))))
    where
      sets_up : (t : Loaded) → IsListedBy files (Automaton name) t → (over : Tracks) → AreTracksOf (custom_of ledger) t.listed.header over → All IsAscending (letter_sets over)
      sets_up t is over are = over_up (custom_of ledger) t.listed.header over (λ sets header. λ k d within. ((file_sets is.text t.listed sets is.lists.lists header).each k d within).ascending) are

  systems_after_single : (tables : List Loaded) → AreListedBy files (listing_files name) tables → IsSingle (after_listing_systems ledger name question tables admitted)
  systems_after_single [] listed = absurd listed
  systems_after_single (table ∷ []) listed = table_single table listed
  systems_after_single (table ∷ other ∷ tables) listed = absurd listed.1

pub listing_single : (limit : ℕ) (ledger : Ledger) (name : List ℕ) (question : Question) → IsSingle (after_listing_head limit ledger name question)
listing_single limit ledger name question =
    then_single (files_loaded ledger (listing_files name)) (λ tables. after_listing_tables limit ledger name question tables) (files_single ledger (listing_files name)) (λ tables there.
    then_single (systems_known limit (custom_of ledger) (listing_systems tables name)) (λ admitted. after_listing_systems ledger name question tables admitted) (systems_single limit (custom_of ledger) (listing_systems tables name)) (λ admitted known.
    systems_after_single ledger name question admitted there.0 tables there.2))

-- the head of a `test` is one
test_has : (text : List ℕ) (r : Result TestHead HeadFault) → TestAnswers text r → HasTest (λ head. head) text r × (r ≢ Err heads.Memory)
test_has text (Ok head) a = (a, λ no. cc)
test_has text (Err (heads.Syntax at)) a = (a, λ no. cc)
test_has text (Err (heads.Number at)) a = (a, λ no. cc)
test_has text (Err heads.Memory) a = absurd a

test_head_one : (text : List ℕ) (r s : Result TestHead HeadFault) → TestAnswers text r → TestAnswers text s → r ≡ s
test_head_one text r s a b =
    let one = test_has text r a in
    let other = test_has text s b in
    one_test text r s one.0 other.0 one.1 other.1

pub test_single : (limit : ℕ) (ledger : Ledger) (text : List ℕ) → IsSingle (test_checks limit ledger text)
test_single limit ledger text =
    then_single (Refusing fault_of_head (TestAnswers text)) (λ head. after_listing_head limit ledger head.name (words_asked head)) (refusing_single fault_of_head (TestAnswers text) (test_head_one text))
    (λ head spells. listing_single limit ledger head.name (words_asked head))

pub inf_single : (limit : ℕ) (ledger : Ledger) (text : List ℕ) → IsSingle (inf_checks limit ledger text)
inf_single limit ledger text =
    then_single (Pure (HeadAnswers (DerivesName (codes "inf")) text)) (λ name. after_listing_head limit ledger name Infinity) (head_single (DerivesName (codes "inf")) (one_head (DerivesName (codes "inf")) (one_name (codes "inf"))) text)
    (λ name spells. listing_single limit ledger name Infinity)
