use Rattle.std.proofs.Common.{◌≡◌, ℕ, List, length, ap, sym, ◌∙◌, subst}
use Rattle.std.specs.List.{All, Contains}
use Rattle.digit_tuple.specs.Names.{places_of}
use Rattle.digit_tuple.specs.Parts.{picked}
use Rattle.product_op.specs.Readings.{Reading}
use Rattle.product_op.specs.TrackReadings.{read_on}
use Rattle.product_op.proofs.product.listed_reader.Goals as goal

pub argument_reader-requires-clause-count : goal.argument_reader-requires-clause-count
argument_reader-requires-clause-count c = subst (λ (ns : List (List ℕ)). length ns ≡ length c.args.joint.now.alphabet) (sym c.deref.ensures.value) c.requires.count

pub argument_reader-requires-clause-there : goal.argument_reader-requires-clause-there
argument_reader-requires-clause-there c = subst (λ (ns : List (List ℕ)). All (Contains ns) c.args.argument.now.names) (sym c.deref.ensures.value) c.requires.there

pub argument_reader-requires-clause-sizes : goal.argument_reader-requires-clause-sizes
argument_reader-requires-clause-sizes c =
    let argument = c.args.argument.now in
    subst (λ (ns : List (List ℕ)). picked (places_of ns argument.names) c.args.joint.now.alphabet ≡ argument.automaton.sizes) (sym c.deref.ensures.value) c.requires.sizes

pub returns : goal.returns
returns c =
    let argument = c.args.argument.now in
    let reader = c.in_ok-reader.reader in
    let read_by : List ℕ → Reading = λ parts. record { automaton = reader.dfa.now; parts = parts } in
    ap read_by c.in_ok-list_within.ensures ∙ c.in_ok-reader.ensures ∙ ap (λ (ns : List (List ℕ)). read_on c.args.joint.now.alphabet argument.automaton (places_of ns argument.names)) c.deref.ensures.value
