-- What is said of the table that was loaded: it is refused by no fault of the store, and is what the checks give.
use Rattle.std.proofs.Common.{◌≡◌, ℕ, ◌<◌, Bool, List, [], ◌∷◌, length, slice_index_or, Result, refl, sym, subst, arith}
use Rattle.wal_outside.specs.Files.{Files}
use Rattle.digit_tuple.specs.Steps.{StepLog}
use Rattle.dfa_loading.specs.Loading.{AreListedBy}
use Rattle.dfa_loading.specs.declared.loaded.Loaded.{Loaded}
use Rattle.named_systems.specs.NamedSystems.{NamedSystem}
use Rattle.definitions.proofs.CustomTexts.{found_custom}
use Rattle.definitions.proofs.ListedWords.{automata_list, relations_list, texts_list}
use Rattle.definitions.proofs.TableRelations.{table_holds}
use Rattle.definitions.specs.Texts.{Stores}
use Rattle.definitions.specs.Trees.{Ledger, custom_of, ledger_of}
use Rattle.system_files.specs.SystemFiles.{Custom}
use Rattle.command_parts.specs.declared.fault.Fault.{Fault}
use Rattle.table_listings.specs.declared.question.Answer.{Answer}
use Rattle.listing_commands.specs.declared.listing.ReadListing.{ReadListing}
use Rattle.listing_commands.specs.declared.listing_fault.ListingFault.{ListingFault}
use Rattle.command_parts.specs.FormulaSteps.{AreMeant}
use Rattle.listing_commands.specs.ListingMakes.{AnswersBelow, CanBeListed, PrintsAfterSystems, IsReadListing}
use Rattle.listing_commands.specs.ListingOutcomes.{after_listing_systems, listing_files}
use Rattle.command_parts.proofs.StoredLedgers.{files_store}
use Rattle.command_parts.proofs.FilesElsewhere.{listed_elsewhere}
use Rattle.listing_commands.proofs.ListingChains.{PrintsAnswer, own_said}
use Rattle.listing_commands.proofs.ListingMaking.{below_said}
use Rattle.listing_commands.proofs.ListingWords.{ListingLaws}
use Rattle.command_parts.proofs.StoreReads.{IsOwn}
use Rattle.command_parts.proofs.TextReads.{with_bases}

pub own_over : (admitted : StepLog) (shown : Bool) (read : ReadListing) (custom : Custom) (r : Result (List ℕ) Fault) → IsReadListing read → PrintsAfterSystems admitted shown read custom r → IsOwn r
own_over admitted shown read custom r is prints_checked =
    let files : Files = with_bases is.0 custom in
    let ledger : Ledger = ledger_of files in
    own_said ledger read.asked.name read.asked.question read.mentioned.tables.items admitted shown r
    (prints_checked ledger files (files_store files) (found_custom files) (listed_elsewhere is.0 custom (listing_files read.asked.name) read.mentioned.tables.items is.1.listed))

-- there is one table
pub sole : (files : Files) (name : List ℕ) (tables : List Loaded) (table : Loaded) → AreListedBy files (listing_files name) tables → table ≡ slice_index_or tables 0 table → tables ≡ table ∷ []
sole files name [] table listed is = absurd listed
sole files name (t ∷ []) table listed is = λ i. sym is i ∷ []
sole files name (t ∷ other ∷ tables) table listed is = absurd listed.1

pub some_table : (files : Files) (name : List ℕ) (tables : List Loaded) → AreListedBy files (listing_files name) tables → 0 < length tables
some_table files name [] listed = absurd listed
some_table files name (t ∷ tables) listed = omega arith

listing_laws : ListingLaws
listing_laws = record { texts = texts_list; relations = relations_list; languages = automata_list; tables = table_holds }

-- what is answered about it is what the checks after the systems give
pub said_here : (read : ReadListing) (table : Loaded) (systems : List NamedSystem) (admitted log : StepLog) (shown : Bool) (result : Result Answer ListingFault) → read.mentioned.tables.items ≡ table ∷ [] → CanBeListed systems table
    → AnswersBelow table.listed.header systems admitted table read.asked.name read.asked.question result log → (custom : Custom) → AreMeant custom systems → (ledger : Ledger) (files : Files) → Stores ledger files → custom_of ledger ≡ custom
    → AreListedBy files (listing_files read.asked.name) read.mentioned.tables.items → PrintsAnswer (after_listing_systems ledger read.asked.name read.asked.question read.mentioned.tables.items admitted) shown log.lines result
said_here read table systems admitted log shown result same can answers custom meant ledger files stores own listed =
    let name = read.asked.name in
    let question = read.asked.question in
    let here : AreListedBy files (listing_files name) (table ∷ []) = subst (λ (ts : List Loaded). AreListedBy files (listing_files name) ts) same listed in
    let mean : AreMeant (custom_of ledger) systems = subst (λ (k : Custom). AreMeant k systems) (sym own) meant in
    subst (λ (ts : List Loaded). PrintsAnswer (after_listing_systems ledger name question ts admitted) shown log.lines result) (sym same)
    (below_said listing_laws ledger files stores name question table here.0 admitted log shown systems can.sealed mean can.readable table.listed.header refl result answers)
