use Rattle.std.proofs.Common.{◌≡◌, ◌*◌, length, ap, ◌∙◌, arith}
use Rattle.std.specs.List.{sum_by}
use Rattle.digit_tuple.specs.Deterministic.{Automaton}
use Rattle.digit_tuple.specs.TransitionCounts.{transition_count, cell_count}
use Rattle.digit_tuple.specs.Letters.{product}
use Rattle.digit_tuple.proofs.KeptLemmas.{kept-few, kept-transition_count, kept-cell_count}
use Rattle.digit_tuple.proofs.dfa.Dfa.cells.Goals as goal

pub cells-requires : goal.cells-requires
cells-requires c =
    kept-few c.self.inside.flags.items c.self.inside.table c.args.self.now c.self.invariant.0 c.self.view_is c.self.invariant.1
    (omega (arith, c.letters-letters.ensures.alphabet.letters, ap product c.alphabet.ensures.sizes))

pub returns-clause-count : goal.returns-clause-count
returns-clause-count c = c.cells.ensures.count ∙ kept-cell_count c.self.inside.flags.items c.self.inside.table c.args.self.now c.self.invariant.0 c.self.view_is

pub returns-clause-few : goal.returns-clause-few
returns-clause-few c =
    let d = c.args.self.now in
    let transitions = kept-transition_count c.self.inside.flags.items c.self.inside.table d c.self.invariant.0 c.self.view_is in
    let cells : c.cells.result ≡ cell_count d = returns-clause-count c in
    let sizes : length c.self.inside.table.sizes * sum_by length c.self.inside.table.rows ≡ length d.sizes * transition_count d =
    ap (λ n. length c.self.inside.table.sizes * n) transitions ∙ ap (λ (a : Automaton). length a.sizes * transition_count d) c.self.view_is in
    omega (arith, cells, sizes, c.cells.ensures.few)
