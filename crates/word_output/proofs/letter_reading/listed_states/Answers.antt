use Rattle.std.proofs.Common.{◌+◌, ap, ◌∙◌}
use Rattle.std.proofs.lemmas.Result.{IfOk-weaker}
use Rattle.digit_tuple.specs.Deterministic.{letters_of}
use Rattle.digit_tuple.specs.Letters.{product}
use Rattle.dfa_reading.specs.Branching.{sizes_in}
use Rattle.product_op.proofs.ResultLemmas.{IfOk-two}
use Rattle.word_output.proofs.ListedStateLemmas.{AreListedStates-explored, apart-listed, width-listed}
use Rattle.word_output.proofs.letter_reading.listed_states.Goals as goal

pub returns-clause-states : goal.returns-clause-states
returns-clause-states c =
    let listed = c.args.listed.now in
    let sizes = sizes_in listed.header c.args.digits.now in
    let table = c.in_ok-table.table in
    let is = c.in_ok-table.ensures.table_of in
    IfOk-two c.table_states.result _ _ _
    (λ stepped same tuples. AreListedStates-explored sizes listed table is c.in_ok-table.ensures.table (letters_of table) stepped.result.keys stepped.result.dfa (ap product is.sizes_are) (same ∙ is.sizes_are) tuples)
    c.table_states.ensures.sizes c.table_states.ensures.tuples

pub returns-clause-width : goal.returns-clause-width
returns-clause-width c =
    let listed = c.args.listed.now in
    let sizes = sizes_in listed.header c.args.digits.now in
    let table = c.in_ok-table.table in
    let is = c.in_ok-table.ensures.table_of in
    IfOk-weaker c.table_states.result _ _
    (λ stepped width. width-listed sizes listed table is c.in_ok-table.ensures.table (letters_of table) stepped.width (ap product is.sizes_are) width)
    c.table_states.ensures.width

pub returns-clause-exceeds : goal.returns-clause-exceeds
returns-clause-exceeds c refused =
    let listed = c.args.listed.now in
    let sizes = sizes_in listed.header c.args.digits.now in
    let table = c.in_ok-table.table in
    let is = c.in_ok-table.ensures.table_of in
    record {
      alphabet = c.in_ok-table.ensures.fits;
      apart = apart-listed sizes listed table is c.in_ok-table.ensures.table (letters_of table) (c.args.limit.most + 1) (ap product is.sizes_are) (c.table_states.ensures.states refused);
    }
