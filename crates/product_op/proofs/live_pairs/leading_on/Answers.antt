use Rattle.std.proofs.Common.{◌≡◌, ◌++◌, ◌∷◌, [], ℕ, List, Vec, Global, not, get_or, sym, ap, ◌∙◌}
use Rattle.product_op.specs.DeadPairs.{leads_on}
use Rattle.product_op.specs.Readings.{reading_in}
use Rattle.product_op.proofs.LiveLetterLemmas.{filter_kept, filter_left, leads_by}
use Rattle.product_op.proofs.live_pairs.leading_on.Goals as goal
use Rattle.product_op.proofs.live_pairs.leading_on.Goals.{then-not-is_sink+in_ok-push, else-not-is_sink}

pub loop-letter-preserved : goal.loop-letter-preserved
loop-letter-preserved c =
    let r = reading_in c.args.reader.now in
    let state = c.args.state in
    let letters = c.args.letters.now in
    let place = c.loop-letter.letter-index in
    let letter = get_or letters place 0 in
    let leads : leads_on r state letter ≡ not c.is_sink.result = leads_by r state letter c.next_by.result c.is_sink.result c.next_by.ensures c.is_sink.ensures.0 c.is_sink.ensures.1 in
    record {
      row = c.loop-letter.invariant.row;
      leading = elim c.if-not-is_sink.branch [
        | then-not-is_sink+in_ok-push w ↦
            ap (λ (v : Vec ℕ Global). v.items) w.leading-is ∙ w.in_ok-push.ensures.items ∙ ap (λ (es : List ℕ). es ++ letter ∷ []) c.loop-letter.invariant.leading
            ∙ sym (filter_kept (leads_on r state) letters place c.loop-letter-test.true (leads ∙ ap not w.if-not-is_sink.true))
        | else-not-is_sink w ↦
            ap (λ (v : Vec ℕ Global). v.items) w.leading-is ∙ c.loop-letter.invariant.leading
            ∙ sym (filter_left (leads_on r state) letters place c.loop-letter-test.true (leads ∙ ap not w.if-not-is_sink.false))
      ];
    }
