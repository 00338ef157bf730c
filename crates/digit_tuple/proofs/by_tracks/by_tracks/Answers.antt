use Rattle.std.proofs.Common.{◌≡◌, ◌<◌, ◌++◌, ◌∷◌, List, [], map, length, get_or, sym, ap, ◌∙◌, subst, arith}
use Rattle.std.specs.List.{All, AllPairs}
use Rattle.std.proofs.lemmas.List.{take_more}
use Rattle.digit_tuple.specs.Decisions.{rows_in, sizes_in, after_digit, IsFrom}
use Rattle.digit_tuple.specs.Deterministic.{IsByEarlier}
use Rattle.digit_tuple.specs.Letters.{product}
use Rattle.digit_tuple.specs.declared.transitions.Transition.{Transition}
use Rattle.digit_tuple.proofs.AscendingRows.{ascending-row}
use Rattle.digit_tuple.proofs.DecisionReads.{letters-below}
use Rattle.digit_tuple.proofs.JoinedReads.{AreBelow, all_at, map-after_zero}
use Rattle.digit_tuple.proofs.RowGrowthLemmas.{map-ahead_zero}
use Rattle.digit_tuple.proofs.SparseRowLemmas.{decide-product}
use Rattle.digit_tuple.proofs.by_tracks.by_tracks.Goals as goal

pub add_row-requires-clause-letters : goal.add_row-requires-clause-letters
add_row-requires-clause-letters c =
    let rows = c.args.rows.now in
    let row : List Transition = get_or (rows_in rows) c.loop-place.place [] in
    let read : c.deref.result.now ≡ row = c.deref.ensures.value ∙ c.in_ok-row_into.ensures ∙ ap (λ (es : List Transition). es ++ map (after_digit 0) row) c.clear.ensures.items ∙ map-after_zero row in
    let within : c.loop-place.place < length (rows_in rows) = omega (arith, c.loop-place-test.true, c.len-place-end.ensures) in
    let below : AreBelow (product (sizes_in rows)) row = all_at (AreBelow (product (sizes_in rows))) (rows_in rows) c.loop-place.place [] (letters-below rows c.requires.over.sound) within in
    let same = decide-product c.args.tracks.now (sizes_in rows) c.requires.over.tracks in
    let kept = ap product c.loop-place.invariant.1 in
    subst (All (IsFrom 0 (product (sizes_in c.loop-place.parted)))) (sym read)
    (λ k d inside. (omega arith, let less = all_at (λ (e : Transition). e.letter < product (sizes_in rows)) row k d below inside in omega (arith, less, same, kept)))

pub add_row-requires-clause-ascending : goal.add_row-requires-clause-ascending
add_row-requires-clause-ascending c =
    let rows = c.args.rows.now in
    let row : List Transition = get_or (rows_in rows) c.loop-place.place [] in
    let read : c.deref.result.now ≡ row = c.deref.ensures.value ∙ c.in_ok-row_into.ensures ∙ ap (λ (es : List Transition). es ++ map (after_digit 0) row) c.clear.ensures.items ∙ map-after_zero row in
    subst (AllPairs IsByEarlier) (sym read) (ascending-row rows c.loop-place.place c.requires.over.sound (omega (arith, c.loop-place-test.true, c.len-place-end.ensures)))

pub loop-place-preserved : goal.loop-place-preserved
loop-place-preserved c =
    let rows = c.args.rows.now in
    let place = c.loop-place.place in
    let row : List Transition = get_or (rows_in rows) place [] in
    let read : c.deref.result.now ≡ row = c.deref.ensures.value ∙ c.in_ok-row_into.ensures ∙ ap (λ (es : List Transition). es ++ map (after_digit 0) row) c.clear.ensures.items ∙ map-after_zero row in (
      c.in_ok-add_row.ensures.sound,
      c.in_ok-add_row.ensures.sizes ∙ c.loop-place.invariant.1,
      c.in_ok-add_row.ensures.rows
          ∙ ap (λ (es : List Transition). rows_in c.loop-place.parted ++ es ∷ []) (map-ahead_zero c.deref.result.now ∙ read)
          ∙ ap (λ (rs : List (List Transition)). rs ++ row ∷ []) c.loop-place.invariant.2
          ∙ sym (take_more (rows_in rows) place [] (omega (arith, c.loop-place-test.true, c.len-place-end.ensures))),
    )
