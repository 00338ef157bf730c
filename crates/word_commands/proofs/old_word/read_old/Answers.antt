use Rattle.std.proofs.Common.{◌≡◌, List, None, Some, inl, refl, sym, ap, ◌∙◌, subst}
use Rattle.std.proofs.lemmas.Result.{err_from_is_err_and}
use Rattle.dfa_loading.specs.declared.loaded.Loaded.{Loaded}
use Rattle.plan_relations.specs.Libraries.{ReadValue, word_named}
use Rattle.command_parts.specs.TableReading.{AreReadable}
use Rattle.command_parts.proofs.StoppedReadings.{stopped_here}
use Rattle.word_commands.proofs.OldWords.{old_readable, old_there}
use Rattle.word_commands.proofs.old_word.read_old.Goals as goal

pub read_tables-requires : goal.read_tables-requires
read_tables-requires c =
    let old = c.args.old.now in
    let named = c.requires.named in
    subst (λ (ts : List Loaded). AreReadable c.args.names.now.systems ts) (sym c.deref.ensures.value)
    (old_readable old.name old.mentioned.tables.items c.requires.old.0 c.requires.old.1.listed c.args.names.now.systems c.are_sealed.ensures named.0 named.1.meant named.1.systems)

pub returns-in_err-library : goal.returns-in_err-library
returns-in_err-library c =
    let p = err_from_is_err_and c.from_residual.result c.from_residual.ensures.1 in
    let tables = c.args.old.now.mentioned.tables.items in
    let fault = c.in_err-library.field-0.0 in
    λ custom named. rw (p.1, p.2) (stopped_here c.args.names.now.systems c.args.steps.now custom tables fault c.are_sealed.ensures named.meant (rw c.deref.ensures.value at c.in_err-library.ensures))

pub unreachable-requires : goal.unreachable-requires
unreachable-requires c =
    let old = c.args.old.now in
    let named = c.requires.named in
    let done = rw c.deref.ensures.value at c.in_ok-library.ensures in
    let there = old_there old.name old.mentioned.tables.items c.requires.old.0 c.requires.old.1.listed c.args.names.now.systems c.are_sealed.ensures named.0 named.1.meant named.1.systems done.0 c.args.steps.now c.read_tables.new.steps done.1 in
    let none : Some there.0 ≡ None = sym there.1 ∙ subst (λ (l : ReadValue). word_named l.words old.name ≡ None) done.2 c.in-None.ensures.found in
    cc

pub returns-in_err-clone-in-Some : goal.returns-in_err-clone-in-Some
returns-in_err-clone-in-Some c =
    let p = err_from_is_err_and c.from_residual-in_err-clone-in-Some.result c.from_residual-in_err-clone-in-Some.ensures.1 in
    λ custom named. rw (p.1, p.2) (inl refl)

pub returns : goal.returns
returns c =
    let old = c.args.old.now in
    let done = rw c.deref.ensures.value at c.in_ok-library.ensures in
    λ custom named. record {
      systems = c.args.names.now.systems;
      sealed = c.are_sealed.ensures;
      meant = named.meant;
      has = named.systems;
      reads = done.0;
      read = done.1;
      word_is = sym (ap (λ (l : ReadValue). word_named l.words old.name) done.2) ∙ (c.in-Some.ensures.found ∙ ap Some (sym c.in_ok-clone-in-Some.ensures.cases));
    }
