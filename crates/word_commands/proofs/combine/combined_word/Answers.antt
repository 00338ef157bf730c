use Rattle.std.proofs.Common.{◌≢◌, List, [], pos, Some, Ok, Err, sym, subst}
use Rattle.std.proofs.lemmas.Result.{err_from_is_err_and}
use Rattle.combinations.specs.CombineSteps.{DoesCombine}
use Rattle.combinations.specs.Parts.{PartValue, systems_at}
use Rattle.combinations.specs.Shapes.{HaveOneShape as HaveOneTracks}
use Rattle.combinations.specs.declared.combine_fault.CombineFault.TheVariants.{Step}
use Rattle.dfa_loading.specs.Headers.{headers_of}
use Rattle.dfa_loading.specs.declared.loaded.Loaded.{Loaded}
use Rattle.plan_relations.specs.Libraries.{ReadValue}
use Rattle.word_commands.specs.CombineMakes.{HasRelations, automata_in, automata_of}
use Rattle.word_commands.specs.CombineSteps.{ArePartsFrom}
use Rattle.command_parts.specs.TableReads.{relations_in}
use Rattle.command_parts.specs.TableReading.{AreReadable}
use Rattle.command_parts.proofs.StoppedReadings.{stopped_here}
use Rattle.word_commands.proofs.ListedParts.{parts_shaped, some_automata, some_parts}
use Rattle.word_commands.proofs.ListedSteps.{list_done, list_refused, unread_list}
use Rattle.word_commands.proofs.ListedTables.{listed_readable, listed_relations, listed_under}
use Rattle.word_commands.proofs.combine.combined_word.Goals as goal

pub read_tables-requires : goal.read_tables-requires
read_tables-requires c =
    let possible = c.requires in
    let read = c.args.read.now in
    let systems = c.args.names.now.systems in
    subst (λ (ts : List Loaded). AreReadable systems ts) (sym c.deref.ensures.value)
    (listed_readable (automata_of read) read.mentioned.tables.items possible.read_list.loaded.0 possible.read_list.loaded.1.listed systems c.are_sealed.ensures possible.named.0 possible.named.1.meant possible.plain possible.named.1.systems)

pub returns-in_err-library : goal.returns-in_err-library
returns-in_err-library c =
    let p = err_from_is_err_and c.from_residual.result c.from_residual.ensures.1 in
    let possible = c.requires in
    let read = c.args.read.now in
    let systems = c.args.names.now.systems in
    let fault = c.in_err-library.field-0.0 in
    λ custom named.
    rw (p.1, p.2) (unread_list c.args.steps.now custom read.mentioned.tables.items (automata_of read) fault
    (stopped_here systems c.args.steps.now custom read.mentioned.tables.items fault c.are_sealed.ensures named.meant (rw c.deref.ensures.value at c.in_err-library.ensures)))

pub parts_of-requires-clause-named : goal.parts_of-requires-clause-named
parts_of-requires-clause-named c =
    let possible = c.requires in
    let read = c.args.read.now in
    let systems = c.args.names.now.systems in
    let done = rw c.deref.ensures.value at c.in_ok-library.ensures in
    let named : HasRelations (relations_in done.0) (automata_of read) =
    listed_relations (automata_of read) read.mentioned.tables.items possible.read_list.loaded.0 possible.read_list.loaded.1.listed systems c.are_sealed.ensures possible.named.0 possible.named.1.meant possible.plain possible.named.1.systems done.0 c.args.steps.now c.read_tables.new.steps done.1 in
    subst (λ (l : ReadValue). HasRelations l.relations (automata_in c.deref-2.result.now)) (sym done.2) (subst (λ xs. HasRelations (relations_in done.0) (automata_in xs)) (sym c.deref-2.ensures.value) named)

pub returns-in_err-parts : goal.returns-in_err-parts
returns-in_err-parts c =
    let p = err_from_is_err_and c.from_residual-in_err-parts.result c.from_residual-in_err-parts.ensures.1 in
    λ custom named. rw (p.1, p.2) tt

pub word_of-requires-clause-some : goal.word_of-requires-clause-some
word_of-requires-clause-some c =
    let possible = c.requires in
    let read = c.args.read.now in
    let systems = c.args.names.now.systems in
    let done = rw c.deref.ensures.value at c.in_ok-library.ensures in
    let parts = c.in_ok-parts.parts.items in
    let are : ArePartsFrom (relations_in done.0) 0 (automata_of read) parts =
    subst (λ (l : ReadValue). ArePartsFrom l.relations 0 (automata_of read) parts) done.2 (subst (λ xs. ArePartsFrom c.in_ok-library.library.relations 0 (automata_in xs) parts) c.deref-2.ensures.value c.in_ok-parts.ensures) in
    let some : automata_of read ≢ [] = some_automata read.automata.items possible.read_list.some in
    subst (λ (ps : List PartValue). ps ≢ []) (sym c.deref-3.ensures.value) (some_parts (relations_in done.0) 0 (automata_of read) parts are some)

pub word_of-requires-clause-shape : goal.word_of-requires-clause-shape
word_of-requires-clause-shape c =
    let possible = c.requires in
    let read = c.args.read.now in
    let systems = c.args.names.now.systems in
    let done = rw c.deref.ensures.value at c.in_ok-library.ensures in
    let parts = c.in_ok-parts.parts.items in
    let are : ArePartsFrom (relations_in done.0) 0 (automata_of read) parts =
    subst (λ (l : ReadValue). ArePartsFrom l.relations 0 (automata_of read) parts) done.2 (subst (λ xs. ArePartsFrom c.in_ok-library.library.relations 0 (automata_in xs) parts) c.deref-2.ensures.value c.in_ok-parts.ensures) in
    let some : automata_of read ≢ [] = some_automata read.automata.items possible.read_list.some in
    let under = listed_under (automata_of read) read.mentioned.tables.items possible.read_list.loaded.0 possible.read_list.loaded.1.listed systems c.are_sealed.ensures possible.named.0 possible.named.1.meant possible.plain possible.named.1.systems done.0 c.args.steps.now c.read_tables.new.steps done.1 in
    subst HaveOneTracks (sym c.deref-3.ensures.value) (parts_shaped systems (headers_of read.mentioned.tables.items) (relations_in done.0) under (automata_of read) parts are possible.shape)

pub returns-in_err-word : goal.returns-in_err-word
returns-in_err-word c =
    let p = err_from_is_err_and c.from_residual-in_err-word.result c.from_residual-in_err-word.ensures.1 in
    let possible = c.requires in
    let read = c.args.read.now in
    let systems = c.args.names.now.systems in
    let done = rw c.deref.ensures.value at c.in_ok-library.ensures in
    let parts = c.in_ok-parts.parts.items in
    let are : ArePartsFrom (relations_in done.0) 0 (automata_of read) parts =
    subst (λ (l : ReadValue). ArePartsFrom l.relations 0 (automata_of read) parts) done.2 (subst (λ xs. ArePartsFrom c.in_ok-library.library.relations 0 (automata_in xs) parts) c.deref-2.ensures.value c.in_ok-parts.ensures) in
    let some : automata_of read ≢ [] = some_automata read.automata.items possible.read_list.some in
    let fault = c.in_err-word.field-0.0 in
    let refused = subst (λ (ps : List PartValue). DoesCombine (Some (pos 0)) ps (systems_at ps 0) c.read_tables.new.steps (Err (Step fault)) c.word_of.new.steps) c.deref-3.ensures.value c.in_err-word.ensures in
    λ custom named. rw (p.1, p.2) (list_refused c.args.steps.now read systems c.are_sealed.ensures done.0 c.read_tables.new.steps done.1 parts are some custom named.meant fault c.word_of.new.steps refused)

pub returns : goal.returns
returns c =
    let possible = c.requires in
    let read = c.args.read.now in
    let systems = c.args.names.now.systems in
    let done = rw c.deref.ensures.value at c.in_ok-library.ensures in
    let parts = c.in_ok-parts.parts.items in
    let are : ArePartsFrom (relations_in done.0) 0 (automata_of read) parts =
    subst (λ (l : ReadValue). ArePartsFrom l.relations 0 (automata_of read) parts) done.2 (subst (λ xs. ArePartsFrom c.in_ok-library.library.relations 0 (automata_in xs) parts) c.deref-2.ensures.value c.in_ok-parts.ensures) in
    let some : automata_of read ≢ [] = some_automata read.automata.items possible.read_list.some in
    let word = c.in_ok-word.word in
    let made = subst (λ (ps : List PartValue). DoesCombine (Some (pos 0)) ps (systems_at ps 0) c.read_tables.new.steps (Ok word) c.word_of.new.steps) c.deref-3.ensures.value c.in_ok-word.ensures in
    λ custom named. list_done c.args.steps.now read systems c.are_sealed.ensures done.0 c.read_tables.new.steps done.1 parts are some custom named.meant word c.word_of.new.steps made
