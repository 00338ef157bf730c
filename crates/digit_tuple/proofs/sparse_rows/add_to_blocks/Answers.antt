use Rattle.std.proofs.Common.{◌≡◌, ◌∷◌, ◌++◌, [], length, sym, ap, ◌∙◌, subst, arith}
use Rattle.digit_tuple.specs.Decisions.{IsSound, rows_in}
use Rattle.digit_tuple.proofs.RowGrowthLemmas.{map-ahead_zero}
use Rattle.digit_tuple.proofs.RowBlockLemmas.{open-grown, open-last, open-rows}
use Rattle.digit_tuple.proofs.sparse_rows.add_to_blocks.Goals as goal

pub add_row-requires-clause-sound : goal.add_row-requires-clause-sound
add_row-requires-clause-sound c =
    let blocks = c.open_block.new.blocks in
    let opened = c.in_ok-open_block.ensures.opened in
    let all : c.len-last.result ≡ length blocks.items = omega (arith, c.len-last.ensures, blocks.ok) in
    subst IsSound (sym (c.index_mut.ensures.value ∙ open-last c.args.tracks.now blocks.items opened c.len-last.result all c.index_mut.result.now)) opened.over.sound

pub returns-clause-blocks : goal.returns-clause-blocks
returns-clause-blocks c =
    let blocks = c.open_block.new.blocks in
    let opened = c.in_ok-open_block.ensures.opened in
    let all : c.len-last.result ≡ length blocks.items = omega (arith, c.len-last.ensures, blocks.ok) in
    open-grown c.args.tracks.now blocks.items opened c.len-last.result all c.index_mut.result.now c.index_mut.ensures.value c.add_row.new.self c.args.transitions.now
    c.in_ok-add_row.ensures.sound c.in_ok-add_row.ensures.sizes
    (c.in_ok-add_row.ensures.rows ∙ ap (λ es. rows_in c.index_mut.result.now ++ es ∷ []) (map-ahead_zero c.args.transitions.now))

pub returns-clause-rows : goal.returns-clause-rows
returns-clause-rows c =
    let blocks = c.open_block.new.blocks in
    let opened = c.in_ok-open_block.ensures.opened in
    let all : c.len-last.result ≡ length blocks.items = omega (arith, c.len-last.ensures, blocks.ok) in
    open-rows c.args.tracks.now blocks.items opened c.len-last.result all c.index_mut.result.now c.index_mut.ensures.value c.add_row.new.self c.args.transitions.now
    c.in_ok-add_row.ensures.sound c.in_ok-add_row.ensures.sizes
    (c.in_ok-add_row.ensures.rows ∙ ap (λ es. rows_in c.index_mut.result.now ++ es ∷ []) (map-ahead_zero c.args.transitions.now))
    ∙ ap (λ rs. rs ++ c.args.transitions.now ∷ []) c.in_ok-open_block.ensures.rows
