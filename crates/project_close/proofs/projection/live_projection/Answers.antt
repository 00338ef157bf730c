use Rattle.std.proofs.Common.{◌+◌, sym, ◌∙◌}
use Rattle.std.proofs.lemmas.Result.{IfOk-weaker}
use Rattle.digit_tuple.specs.Letters.{product}
use Rattle.project_close.proofs.ProjectionLemmas.{reads_apart, reads_language, reads_letters, reads_graph, reads_width}
use Rattle.project_close.proofs.projection.live_projection.Goals as goal

pub canonical_sets-requires-clause-first : goal.canonical_sets-requires-clause-first
canonical_sets-requires-clause-first c =
    let d = c.args.d.now in
    let n = c.in_ok-reading.reading.image in
    (reads_graph d c.args.places.now c.args.direction n c.in_ok-reading.reading.first.items c.in_ok-reading.ensures).1

pub canonical_sets-requires-clause-letters : goal.canonical_sets-requires-clause-letters
canonical_sets-requires-clause-letters c =
    let d = c.args.d.now in
    let n = c.in_ok-reading.reading.image in
    sym (reads_letters d c.args.places.now c.args.direction n c.in_ok-reading.reading.first.items c.in_ok-reading.ensures c.args.alphabet c.requires.alphabet)

pub returns-clause-language : goal.returns-clause-language
returns-clause-language c =
    let d = c.args.d.now in
    let places = c.args.places.now in
    let direction = c.args.direction in
    let n = c.in_ok-reading.reading.image in
    let first = c.in_ok-reading.reading.first.items in
    let reads = c.in_ok-reading.ensures in
    IfOk-weaker c.canonical_sets.result _ _
    (λ stepped same w over.
    let one = reads_language d places direction n first reads w in
    ((λ is. one.0 (sym (same w over) ∙ is)), (λ there. same w over ∙ one.1 there)))
    c.canonical_sets.ensures.language

pub returns-clause-width : goal.returns-clause-width
returns-clause-width c =
    let d = c.args.d.now in
    let places = c.args.places.now in
    let direction = c.args.direction in
    let n = c.in_ok-reading.reading.image in
    let first = c.in_ok-reading.reading.first.items in
    let reads = c.in_ok-reading.ensures in
    IfOk-weaker c.canonical_sets.result _ _
    (λ stepped width. reads_width d places direction n first reads c.requires.canonical c.requires.live (product c.args.alphabet) (reads_letters d places direction n first reads c.args.alphabet c.requires.alphabet) stepped.width width)
    c.canonical_sets.ensures.width

pub returns-clause-states : goal.returns-clause-states
returns-clause-states c refused =
    let d = c.args.d.now in
    let places = c.args.places.now in
    let direction = c.args.direction in
    let n = c.in_ok-reading.reading.image in
    let first = c.in_ok-reading.reading.first.items in
    let reads = c.in_ok-reading.ensures in
    reads_apart d places direction n first reads c.requires.canonical c.requires.live (product c.args.alphabet) (reads_letters d places direction n first reads c.args.alphabet c.requires.alphabet) (c.args.limit.most + 1) (c.canonical_sets.ensures.states refused)
