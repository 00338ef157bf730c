use Rattle.std.proofs.Common.{List, sym, subst}
use Rattle.std.specs.List.{AllByRecursion}
use Rattle.digit_tuple.specs.Sets.{sizes_of}
use Rattle.language_steps.specs.Operands.{AreCanonicalOver, HasLanguage}
use Rattle.language_steps.specs.declared.reading.NamedLanguage.{NamedLanguage}
use Rattle.language_steps.proofs.MadeSizes.{may_be_read, reads_over, tables_over}
use Rattle.language_steps.proofs.Readings.{all_named}
use Rattle.language_steps.proofs.making.language_of.Goals as goal

pub read_languages-requires : goal.read_languages-requires
read_languages-requires c = may_be_read c.requires.tables.0 c.args.tables.now c.requires.tables.1

pub operated-requires-clause-named : goal.operated-requires-clause-named
operated-requires-clause-named c =
    subst (λ (ls : List NamedLanguage). AllByRecursion (HasLanguage ls) c.args.names.now) (sym c.deref.ensures.value)
    (all_named c.args.tables.now c.in_ok-languages.languages.items c.args.steps.now c.read_languages.new.steps c.args.names.now c.in_ok-languages.ensures c.requires.named)

pub operated-requires-clause-canonical : goal.operated-requires-clause-canonical
operated-requires-clause-canonical c =
    let sets = c.requires.tables.0 in
    let tables = c.args.tables.now in
    (sizes_of sets, subst (AreCanonicalOver (sizes_of sets)) (sym c.deref.ensures.value) (reads_over sets tables c.in_ok-languages.languages.items c.args.steps.now c.read_languages.new.steps (tables_over sets tables c.requires.tables.1) c.in_ok-languages.ensures))
