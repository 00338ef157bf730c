use Rattle.std.proofs.Common.{◌≡◌, ◌*◌, ◌+◌, ◌≤◌, length, min, ap, ◌∙◌, arith}
use Rattle.std.proofs.Math.Nat.{min-le_right}
use Rattle.std.specs.List.{slice_range}
use Rattle.digit_tuple.specs.Deterministic.{Automaton, letters_of, states_of}
use Rattle.digit_tuple.specs.Letters.{product}
use Rattle.product_op.specs.NextTables.{all_rows, next_list}
use Rattle.product_op.proofs.NextTableLemmas.{all_rows-row, all_rows-fit, next_list-least, kept_rows}
use Rattle.product_op.proofs.next_table.NextTable.row.Goals as goal

pub slice_bounds-result-end : goal.slice_bounds-result-end
slice_bounds-result-end c =
    let d = c.self.inside.dfa.now in
    let n = c.min.result in
    let w = c.letters-letters.result in
    let letters : w ≡ letters_of d = c.letters-letters.ensures.value ∙ ap product c.alphabet.ensures.sizes in
    let rows : c.self.inside.next.items ≡ all_rows d = kept_rows d c.self.inside.next.items c.self.inside.next.len c.is_empty.result c.self.invariant (omega (arith, c.self.inside.next.ok)) c.is_empty.ensures c.if-is_empty.false in
    let least : n ≡ min c.args.state (states_of d) = c.min.ensures ∙ ap (min c.args.state) c.states.ensures.value in
    let within : n ≤ states_of d = omega (arith, least, min-le_right c.args.state (states_of d)) in
    omega (arith, ap length c.deref.ensures.value, ap length rows, all_rows-fit d n w within letters)

pub returns : goal.returns
returns c =
    let d = c.self.inside.dfa.now in
    let n = c.min.result in
    let w = c.letters-letters.result in
    let letters : w ≡ letters_of d = c.letters-letters.ensures.value ∙ ap product c.alphabet.ensures.sizes in
    let rows : c.self.inside.next.items ≡ all_rows d = kept_rows d c.self.inside.next.items c.self.inside.next.len c.is_empty.result c.self.invariant (omega (arith, c.self.inside.next.ok)) c.is_empty.ensures c.if-is_empty.false in
    let least : n ≡ min c.args.state (states_of d) = c.min.ensures ∙ ap (min c.args.state) c.states.ensures.value in
    let within : n ≤ states_of d = omega (arith, least, min-le_right c.args.state (states_of d)) in
    ap (λ xs. slice_range xs (n * w) (n * w + w)) (c.deref.ensures.value ∙ rows)
    ∙ ap (λ k. slice_range (all_rows d) (n * k) (n * k + k)) letters
    ∙ all_rows-row d n within
    ∙ next_list-least d n c.args.state least
    ∙ ap (λ (e : Automaton). next_list e c.args.state) c.self.view_is
