use Rattle.std.proofs.Common.{◌≡◌, ℕ, ◌<◌, Bool, List, [], ◌∷◌, length, vec_len, rules, Ok, Err, sym, subst}
use Rattle.std.proofs.lemmas.Result.{err_from_is_err_and}
use Rattle.digit_tuple.specs.Steps.{StepLog}
use Rattle.wal_outside.specs.Files.{Files}
use Rattle.dfa_loading.specs.Loading.{AreListedBy}
use Rattle.dfa_loading.specs.declared.loaded.Loaded.{Loaded}
use Rattle.named_systems.specs.NamedSystems.{NamedSystem, AreSealed}
use Rattle.table_listings.specs.declared.question.Answer.{Answer}
use Rattle.system_files.specs.SystemFiles.{Custom}
use Rattle.command_parts.specs.FormulaLoads.{HasSystems}
use Rattle.command_parts.specs.FormulaSteps.{AreMeant}
use Rattle.listing_commands.specs.ListingFaults.{fault_of_listing}
use Rattle.listing_commands.specs.ListingMakes.{AnswersBelow, CanBeListed, PrintsAfterSystems, answer_text}
use Rattle.listing_commands.specs.ListingOutcomes.{listing_files, listing_systems}
use Rattle.listing_commands.specs.declared.listing.ReadListing.{ReadListing}
use Rattle.listing_commands.specs.declared.listing_fault.ListingFault.{ListingFault}
use Rattle.listing_commands.proofs.ListingReading.{sole, some_table, said_here}
use Rattle.listing_commands.proofs.ListingReady.{can_be_listed}
use Rattle.listing_commands.proofs.listing.said_over.Goals as goal

pub index-requires : goal.index-requires
index-requires c =
    let tables = c.args.read.now.mentioned.tables in
    let long : vec_len tables ≡ length tables.items = search rules in
    subst (λ (n : ℕ). 0 < n) (sym long) (some_table c.requires.read.0 c.args.read.now.asked.name tables.items c.requires.read.1.listed)

-- the one table can be listed over the systems
can_here : (read : ReadListing) (files : Files) (table : Loaded) (systems : List NamedSystem) → read.mentioned.tables.items ≡ table ∷ [] → AreListedBy files (listing_files read.asked.name) read.mentioned.tables.items → AreSealed systems
    → HasSystems (listing_systems read.mentioned.tables.items read.asked.name) systems → ((custom : Custom) × AreMeant custom systems) → CanBeListed systems table
can_here read files table systems same listed sealed has meant =
    can_be_listed files read.asked.name table systems (subst (λ (ts : List Loaded). AreListedBy files (listing_files read.asked.name) ts) same listed) sealed
    (subst (λ (ts : List Loaded). HasSystems (listing_systems ts read.asked.name) systems) same has) meant

pub answered-requires : goal.answered-requires
answered-requires c =
    let read = c.args.read.now in
    let same = sole c.requires.read.0 read.asked.name read.mentioned.tables.items c.index.result.now c.requires.read.1.listed c.index.ensures in
    can_here read c.requires.read.0 c.index.result.now c.args.named.names.systems same c.requires.read.1.listed c.are_sealed.ensures c.requires.named.1.systems (c.requires.named.0, c.requires.named.1.meant)

-- a refusal is the fault of the checks
refused_so : (read : ReadListing) (table : Loaded) (systems : List NamedSystem) (admitted log : StepLog) (shown : Bool) (fault : ListingFault) → read.mentioned.tables.items ≡ table ∷ [] → CanBeListed systems table
    → AnswersBelow table.listed.header systems admitted table read.asked.name read.asked.question (Err fault) log → (custom : Custom) → AreMeant custom systems → PrintsAfterSystems admitted shown read custom (Err (fault_of_listing fault))
refused_so read table systems admitted log shown fault same can answers custom meant ledger files stores own listed = said_here read table systems admitted log shown (Err fault) same can answers custom meant ledger files stores own listed

-- an answer is printed
printed_so : (read : ReadListing) (table : Loaded) (systems : List NamedSystem) (admitted log : StepLog) (shown : Bool) (answer : Answer) → read.mentioned.tables.items ≡ table ∷ [] → CanBeListed systems table
    → AnswersBelow table.listed.header systems admitted table read.asked.name read.asked.question (Ok answer) log → (custom : Custom) → AreMeant custom systems → PrintsAfterSystems admitted shown read custom (Ok (answer_text shown log.lines answer))
printed_so read table systems admitted log shown answer same can answers custom meant ledger files stores own listed = said_here read table systems admitted log shown (Ok answer) same can answers custom meant ledger files stores own listed

pub returns-in_err-answer : goal.returns-in_err-answer
returns-in_err-answer c =
    let p = err_from_is_err_and c.from_residual.result c.from_residual.ensures.1 in
    let read = c.args.read.now in
    let same = sole c.requires.read.0 read.asked.name read.mentioned.tables.items c.index.result.now c.requires.read.1.listed c.index.ensures in
    rw (p.1, p.2)
    (λ custom named. refused_so read c.index.result.now c.args.named.names.systems c.args.named.steps c.answered.new.steps c.args.shown c.in_err-answer.field-0.0 same (can_here read c.requires.read.0 c.index.result.now c.args.named.names.systems same c.requires.read.1.listed c.are_sealed.ensures c.requires.named.1.systems (c.requires.named.0, c.requires.named.1.meant)) c.in_err-answer.ensures custom named.meant)

pub returns-in_err-printed_answer : goal.returns-in_err-printed_answer
returns-in_err-printed_answer c =
    let p = err_from_is_err_and c.from_residual-in_err-printed_answer.result c.from_residual-in_err-printed_answer.ensures.1 in
    rw (p.1, p.2) (λ custom named ledger files stores own listed. tt)

pub returns : goal.returns
returns c =
    let read = c.args.read.now in
    let same = sole c.requires.read.0 read.asked.name read.mentioned.tables.items c.index.result.now c.requires.read.1.listed c.index.ensures in
    λ custom named. subst (λ (text : List ℕ). PrintsAfterSystems c.args.named.steps c.args.shown read custom (Ok text)) (sym c.in_ok-printed_answer.ensures)
    (printed_so read c.index.result.now c.args.named.names.systems c.args.named.steps c.answered.new.steps c.args.shown c.in_ok-answer.answer same (can_here read c.requires.read.0 c.index.result.now c.args.named.names.systems same c.requires.read.1.listed c.are_sealed.ensures c.requires.named.1.systems (c.requires.named.0, c.requires.named.1.meant)) c.in_ok-answer.ensures custom named.meant)
