use Rattle.std.proofs.Common.{◌∷◌, ◌++◌, List, [], length, subst, sym, ap, ◌∙◌, arith, inr}
use Rattle.std.specs.List.{AllByRecursion, flat_map}
use Rattle.std.proofs.lemmas.Bool.{false≢true}
use Rattle.std.proofs.lemmas.List.{append-nil, flat_map_more}
use Rattle.digit_tuple.specs.Decisions.{rows_in}
use Rattle.digit_tuple.specs.SparseRows.{IsFullOver, AreRowBlocks}
use Rattle.digit_tuple.specs.declared.transitions.Transition.{Transition}
use Rattle.digit_tuple.proofs.RowBlockLemmas.{HaveSameRows-full, HaveSameRows-rows}
use Rattle.digit_tuple.proofs.sparse_rows.open_block.Goals as goal

pub returns-clause-opened : goal.returns-clause-opened
returns-clause-opened c =
    let tracks = c.args.tracks.now in
    let parted = c.part_last.new.blocks.items in
    let shrunk = c.shrink_last.new.blocks.items in
    let new = c.in_ok-on_one_track.field-0 in
    let full : AllByRecursion (IsFullOver tracks) parted = subst (AllByRecursion (IsFullOver tracks)) c.deref.ensures.value (c.if-has_room.ensures.full (λ same. false≢true same) tracks (subst (AreRowBlocks tracks) (sym c.deref.ensures.value) c.in_ok-part_last.ensures.blocks)) in
    record {
      before = shrunk;
      last = new;
      are = c.in_ok-push.ensures.items;
      full = HaveSameRows-full tracks parted shrunk c.shrink_last.ensures full;
      over = record { sound = c.in_ok-on_one_track.ensures.sound; tracks = inr (c.in_ok-on_one_track.ensures.sizes ∙ ap (λ n. n ∷ []) c.letters.ensures.value) };
      room = omega (arith, ap length c.in_ok-on_one_track.ensures.rows);
    }

pub returns-clause-rows : goal.returns-clause-rows
returns-clause-rows c =
    let parted = c.part_last.new.blocks.items in
    let shrunk = c.shrink_last.new.blocks.items in
    let new = c.in_ok-on_one_track.field-0 in
    ap (flat_map rows_in) c.in_ok-push.ensures.items
    ∙ sym (flat_map_more rows_in [] shrunk new)
    ∙ ap (λ (rs : List (List Transition)). flat_map rows_in shrunk ++ rs) c.in_ok-on_one_track.ensures.rows
    ∙ append-nil (flat_map rows_in shrunk)
    ∙ HaveSameRows-rows parted shrunk c.shrink_last.ensures
    ∙ c.in_ok-part_last.ensures.rows
