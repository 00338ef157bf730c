use Rattle.std.proofs.Common.{◌++◌, List, Ok, Err, refl, sym, ap, ◌∙◌, subst, inr}
use Rattle.std.proofs.lemmas.List.{length-map}
use Rattle.std.proofs.lemmas.Result.{err_from_is_err_and}
use Rattle.dfa_loading.specs.declared.loaded.Loaded.{Loaded}
use Rattle.formula_build.proofs.ReadFormulas.{read_formed}
use Rattle.formula_build.specs.Resolved.{AreDirections}
use Rattle.formula_build.specs.declared.resolving.Resolved.{Resolved}
use Rattle.formula_build.specs.Solutions.{direction_named}
use Rattle.formula_resolve.specs.Headers.{Headers}
use Rattle.formula_resolve.specs.declared.variable.Variable.{Variable}
use Rattle.system_files.specs.SystemFiles.{Custom}
use Rattle.definitions.specs.Trees.{custom_of}
use Rattle.command_parts.specs.FormulaFaults.{fault_of_resolution}
use Rattle.formula_commands.specs.FormulaMakes.{tree_of}
use Rattle.formula_commands.specs.FormulaOutcomes.{bindings_now}
use Rattle.command_parts.specs.FormulaLoads.{HaveTracks, IsTextOf, HasNoTextOf}
use Rattle.command_parts.specs.FormulaSteps.{AreMeant}
use Rattle.command_parts.specs.Lines.{verdict_line}
use Rattle.command_parts.specs.TableReading.{AreReadable}
use Rattle.command_parts.specs.TableReads.{library_with}
use Rattle.command_parts.specs.TrackSystems as track_systems
use Rattle.formula_commands.specs.VariablesOver.{variables_over}
use Rattle.formula_commands.proofs.FormulaCheckNames.{AreVariables}
use Rattle.formula_commands.proofs.FormulaChains.{systems_unresolved, resolved_unbuilt, steps_made}
use Rattle.formula_commands.proofs.FormulaGround.{ground_directions, ground_readable, ground_fits, ground_known, ground_means}
use Rattle.formula_commands.proofs.FormulaWrites.{text_made, text_refused, verdict_is}
use Rattle.command_parts.proofs.StoppedReadings.{stopped_here}
use Rattle.formula_commands.proofs.FormulaReady.{set_up, fits_here, known_here, solution_here, tracks_here, variables_here, steps_here, resolves_here}
use Rattle.formula_commands.proofs.FormulaRefusals.{unresolved, unbuilt, unread}
use Rattle.formula_commands.proofs.FormulaSolutions.{are_variables, as_many, over_digits}
use Rattle.formula_commands.proofs.formula.built.Goals as goal

pub resolve-requires-clause-formed : goal.resolve-requires-clause-formed
resolve-requires-clause-formed c = read_formed c.requires.read.text (tree_of c.args.read.now) c.requires.read.reads

pub resolve-requires-clause-directions : goal.resolve-requires-clause-directions
resolve-requires-clause-directions c =
    subst (λ (h : Headers). AreDirections h direction_named) (sym c.requires.named.1.headers) (ground_directions (tree_of c.args.read.now) c.args.read.now.mentioned.tables.items c.requires.read.loaded.0 c.requires.read.loaded.1.listed)

pub returns-in_err-resolved : goal.returns-in_err-resolved
returns-in_err-resolved c =
    let p = err_from_is_err_and c.from_residual.result c.from_residual.ensures.1 in
    let f = tree_of c.args.read.now in
    let tables = c.args.read.now.mentioned.tables.items in
    let fault = c.in_err-resolved.field-0.0 in
    λ custom named ledger files place stores same listed.
    rw (p.1, p.2) (systems_unresolved c.args.named.steps ledger place tables f (fault_of_resolution fault) (unresolved Resolved tables f c.args.named.names.headers fault c.requires.named.1.headers c.in_err-resolved.ensures.reported))

pub read_tables-requires : goal.read_tables-requires
read_tables-requires c =
    let f = tree_of c.args.read.now in
    let tables = c.args.read.now.mentioned.tables.items in
    let systems = c.args.named.names.systems in
    let r = c.in_ok-resolved.resolved in
    let no_fault = resolves_here tables f c.args.named.names.headers c.requires.named.1.headers c.in_ok-resolved.ensures.reported in
    subst (λ (ts : List Loaded). AreReadable systems ts) (sym c.deref.ensures.value) (ground_readable f tables c.requires.read.loaded.0 c.requires.read.loaded.1.listed systems c.are_sealed.ensures c.requires.named.0 c.requires.named.1.meant no_fault c.requires.named.1.systems)

pub returns-in_err-library : goal.returns-in_err-library
returns-in_err-library c =
    let p = err_from_is_err_and c.from_residual-in_err-library.result c.from_residual-in_err-library.ensures.1 in
    let f = tree_of c.args.read.now in
    let tables = c.args.read.now.mentioned.tables.items in
    let systems = c.args.named.names.systems in
    let r = c.in_ok-resolved.resolved in
    let no_fault = resolves_here tables f c.args.named.names.headers c.requires.named.1.headers c.in_ok-resolved.ensures.reported in
    let fault = c.in_err-library.field-0.0 in
    λ custom named ledger files place stores same listed.
    let here = subst (λ (k : Custom). AreMeant k systems) (sym same) named.meant in
    rw (p.1, p.2) (resolved_unbuilt c.args.named.steps ledger place tables f (track_systems.fault_of fault) no_fault
    (unread c.args.named.steps (custom_of ledger) tables f fault (stopped_here systems c.args.named.steps (custom_of ledger) tables fault c.are_sealed.ensures here (rw c.deref.ensures.value at c.in_err-library.ensures))))

pub build-requires-clause-fits : goal.build-requires-clause-fits
build-requires-clause-fits c =
    let f = tree_of c.args.read.now in
    let tables = c.args.read.now.mentioned.tables.items in
    let systems = c.args.named.names.systems in
    let r = c.in_ok-resolved.resolved in
    let no_fault = resolves_here tables f c.args.named.names.headers c.requires.named.1.headers c.in_ok-resolved.ensures.reported in
    let done = rw c.deref.ensures.value at c.in_ok-library.ensures in
    let read = c.in_ok-library.library in
    let reads = done.0 in
    let up = set_up r read reads c.args.read.now.formula tables c.args.named.names systems c.in_ok-resolved.ensures.formula c.in_ok-resolved.ensures.names c.requires.named.1.headers refl done.2 in
    fits_here r read reads f tables systems up (ground_fits f tables c.requires.read.loaded.0 c.requires.read.loaded.1.listed systems c.are_sealed.ensures c.requires.named.0 c.requires.named.1.meant no_fault c.requires.named.1.systems reads c.args.named.steps c.read_tables.new.steps done.1)

pub build-requires-clause-known : goal.build-requires-clause-known
build-requires-clause-known c =
    let f = tree_of c.args.read.now in
    let tables = c.args.read.now.mentioned.tables.items in
    let systems = c.args.named.names.systems in
    let r = c.in_ok-resolved.resolved in
    let no_fault = resolves_here tables f c.args.named.names.headers c.requires.named.1.headers c.in_ok-resolved.ensures.reported in
    let done = rw c.deref.ensures.value at c.in_ok-library.ensures in
    let read = c.in_ok-library.library in
    let reads = done.0 in
    let up = set_up r read reads c.args.read.now.formula tables c.args.named.names systems c.in_ok-resolved.ensures.formula c.in_ok-resolved.ensures.names c.requires.named.1.headers refl done.2 in
    known_here r read reads f tables systems up
    (ground_known f tables c.requires.read.loaded.0 c.requires.read.loaded.1.listed systems c.are_sealed.ensures c.requires.named.0 c.requires.named.1.meant no_fault c.requires.named.1.systems reads c.args.named.steps c.read_tables.new.steps done.1 (c.requires.read.text, c.requires.read.reads))

pub returns-in_err-relation : goal.returns-in_err-relation
returns-in_err-relation c =
    let p = err_from_is_err_and c.from_residual-in_err-relation.result c.from_residual-in_err-relation.ensures.1 in
    let f = tree_of c.args.read.now in
    let tables = c.args.read.now.mentioned.tables.items in
    let systems = c.args.named.names.systems in
    let r = c.in_ok-resolved.resolved in
    let no_fault = resolves_here tables f c.args.named.names.headers c.requires.named.1.headers c.in_ok-resolved.ensures.reported in
    let done = rw c.deref.ensures.value at c.in_ok-library.ensures in
    let read = c.in_ok-library.library in
    let reads = done.0 in
    let up = set_up r read reads c.args.read.now.formula tables c.args.named.names systems c.in_ok-resolved.ensures.formula c.in_ok-resolved.ensures.names c.requires.named.1.headers refl done.2 in
    let fault = c.in_err-relation.field-0.0 in
    λ custom named ledger files place stores same listed.
    let here = subst (λ (k : Custom). AreMeant k systems) (sym same) named.meant in
    let steps = steps_here r read reads f tables systems up c.args.named.steps (custom_of ledger) c.read_tables.new.steps c.build.new.steps (Err fault) c.are_sealed.ensures here done.1 c.in_err-relation.ensures.steps in
    rw (p.1, p.2) (resolved_unbuilt c.args.named.steps ledger place tables f (track_systems.fault_of fault) no_fault (unbuilt c.args.named.steps (custom_of ledger) tables f fault (inr (c.build.new.steps.lines, steps))))

pub formula_text-requires : goal.formula_text-requires
formula_text-requires c =
    let f = tree_of c.args.read.now in
    let tables = c.args.read.now.mentioned.tables.items in
    let systems = c.args.named.names.systems in
    let r = c.in_ok-resolved.resolved in
    let no_fault = resolves_here tables f c.args.named.names.headers c.requires.named.1.headers c.in_ok-resolved.ensures.reported in
    let done = rw c.deref.ensures.value at c.in_ok-library.ensures in
    let read = c.in_ok-library.library in
    let reads = done.0 in
    let up = set_up r read reads c.args.read.now.formula tables c.args.named.names systems c.in_ok-resolved.ensures.formula c.in_ok-resolved.ensures.names c.requires.named.1.headers refl done.2 in
    let a = c.in_ok-relation.relation in
    let over = tracks_here r read reads f tables systems up a c.in_ok-relation.ensures.tracks in
    let tracks : HaveTracks r.variables.items a.systems = record {
      count = length-map r.variables.items (λ (v : Variable). v.system) ∙ as_many (library_with reads systems) r.variables.items a.systems over.systems_are;
      digits = over_digits c.requires.named.0 (library_with reads systems) r.variables.items a.systems c.requires.named.1.meant over.systems_are;
    } in
    subst (λ (vs : List Variable). HaveTracks vs a.systems) (sym c.deref-2.ensures.value) tracks

pub returns-in_err-stored : goal.returns-in_err-stored
returns-in_err-stored c =
    let p = err_from_is_err_and c.from_residual-in_err-stored.result c.from_residual-in_err-stored.ensures.1 in
    let f = tree_of c.args.read.now in
    let tables = c.args.read.now.mentioned.tables.items in
    let systems = c.args.named.names.systems in
    let r = c.in_ok-resolved.resolved in
    let no_fault = resolves_here tables f c.args.named.names.headers c.requires.named.1.headers c.in_ok-resolved.ensures.reported in
    let done = rw c.deref.ensures.value at c.in_ok-library.ensures in
    let read = c.in_ok-library.library in
    let reads = done.0 in
    let up = set_up r read reads c.args.read.now.formula tables c.args.named.names systems c.in_ok-resolved.ensures.formula c.in_ok-resolved.ensures.names c.requires.named.1.headers refl done.2 in
    let a = c.in_ok-relation.relation in
    let over = tracks_here r read reads f tables systems up a c.in_ok-relation.ensures.tracks in
    let solution = solution_here r read reads f tables systems up a c.in_ok-relation.ensures.solution in
    let found = variables_here r read reads f tables systems up c.in_ok-resolved.ensures.planned in
    let l = library_with reads systems in
    let refused = subst (λ (vs : List Variable). HasNoTextOf vs a c.in_err-stored.field-0.0) c.deref-2.ensures.value c.in_err-stored.ensures in
    λ custom named ledger files place stores same listed.
    let here = subst (λ (k : Custom). AreMeant k systems) (sym same) named.meant in
    let means = ground_means f tables files listed systems c.are_sealed.ensures custom named.meant no_fault c.requires.named.1.systems reads c.args.named.steps c.read_tables.new.steps done.1 ledger stores same in
    let steps = steps_here r read reads f tables systems up c.args.named.steps (custom_of ledger) c.read_tables.new.steps c.build.new.steps (Ok a) c.are_sealed.ensures here done.1 c.in_ok-relation.ensures.steps in
    let are = subst (λ (vs : List Variable). AreVariables (custom_of ledger) vs (variables_over r.variables.items a.systems)) found (are_variables (custom_of ledger) l r.variables.items a.systems here over.systems_are) in
    rw (p.1, p.2) (steps_made c.args.named.steps ledger place tables f (variables_over r.variables.items a.systems) c.build.new.steps.lines c.args.shown (Err c.in_err-stored.field-0.0) no_fault (a, steps) are
    (text_refused (custom_of ledger) l (bindings_now ledger f) means here f r.variables.items a solution over place c.build.new.steps.lines c.in_err-stored.field-0.0 refused))

pub returns : goal.returns
returns c =
    let f = tree_of c.args.read.now in
    let tables = c.args.read.now.mentioned.tables.items in
    let systems = c.args.named.names.systems in
    let r = c.in_ok-resolved.resolved in
    let no_fault = resolves_here tables f c.args.named.names.headers c.requires.named.1.headers c.in_ok-resolved.ensures.reported in
    let done = rw c.deref.ensures.value at c.in_ok-library.ensures in
    let read = c.in_ok-library.library in
    let reads = done.0 in
    let up = set_up r read reads c.args.read.now.formula tables c.args.named.names systems c.in_ok-resolved.ensures.formula c.in_ok-resolved.ensures.names c.requires.named.1.headers refl done.2 in
    let a = c.in_ok-relation.relation in
    let over = tracks_here r read reads f tables systems up a c.in_ok-relation.ensures.tracks in
    let solution = solution_here r read reads f tables systems up a c.in_ok-relation.ensures.solution in
    let found = variables_here r read reads f tables systems up c.in_ok-resolved.ensures.planned in
    let l = library_with reads systems in
    let text = subst (λ (vs : List Variable). IsTextOf vs a c.in_ok-stored.stored.items) c.deref-2.ensures.value c.in_ok-stored.ensures in
    let printed = c.in_ok-push_verdict.ensures ∙ ap (λ prefix. prefix ++ verdict_line c.verdict.result) c.in_ok-printed.ensures in
    λ custom named ledger files place stores same listed.
    let here = subst (λ (k : Custom). AreMeant k systems) (sym same) named.meant in
    let means = ground_means f tables files listed systems c.are_sealed.ensures custom named.meant no_fault c.requires.named.1.systems reads c.args.named.steps c.read_tables.new.steps done.1 ledger stores same in
    let steps = steps_here r read reads f tables systems up c.args.named.steps (custom_of ledger) c.read_tables.new.steps c.build.new.steps (Ok a) c.are_sealed.ensures here done.1 c.in_ok-relation.ensures.steps in
    let are = subst (λ (vs : List Variable). AreVariables (custom_of ledger) vs (variables_over r.variables.items a.systems)) found (are_variables (custom_of ledger) l r.variables.items a.systems here over.systems_are) in
    let verdict = verdict_is (custom_of ledger) l (bindings_now ledger f) means here f r.variables.items a solution over c.verdict.result c.verdict.ensures.sentence c.verdict.ensures.truth in
    steps_made c.args.named.steps ledger place tables f (variables_over r.variables.items a.systems) c.build.new.steps.lines c.args.shown (Ok _) no_fault (a, steps) are
    (text_made (custom_of ledger) l (bindings_now ledger f) means here f r.variables.items a solution over place c.build.new.steps.lines c.verdict.result c.args.shown _ verdict text printed)
