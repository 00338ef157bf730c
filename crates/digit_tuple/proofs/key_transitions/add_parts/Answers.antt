use Rattle.std.proofs.Common.{◌≡◌, ℕ, ◌+◌, ◌*◌, ◌≤◌, ◌++◌, ◌∷◌, [], List, Option, length, sym, ap, ◌∙◌, subst, arith}
use Rattle.std.specs.Prelude.{Vec}
use Rattle.std.specs.declared.alloc.Global.{Global}
use Rattle.std.proofs.lemmas.Nat.{row_fits}
use Rattle.std.proofs.lemmas.List.Elements.{All-push, All-same}
use Rattle.digit_tuple.specs.Keys.{AreKeyTransitions, part_of, some_nonzero}
use Rattle.digit_tuple.specs.KeySpans.{transitions_in}
use Rattle.digit_tuple.specs.declared.key_transitions.KeySpan.{KeySpan}
use Rattle.digit_tuple.proofs.KeySpanLemmas.{transitions_in-part, transitions_in-no_part}
use Rattle.digit_tuple.proofs.LetterKeyTransitions.{AreKeyTransitions-more}
use Rattle.digit_tuple.proofs.key_transitions.add_parts.Goals as goal
use Rattle.digit_tuple.proofs.key_transitions.add_parts.Goals.{then-has_nonzero+in_ok-push, else-has_nonzero}

pub loop-letter-preserved : goal.loop-letter-preserved
loop-letter-preserved c =
    let numbers = c.args.numbers.now in
    let width = c.args.width in
    let letter = c.loop-letter.letter in
    let spans = c.loop-letter.spans.items in
    let f : ℕ → Option (List ℕ) = λ a. some_nonzero (part_of numbers width a) in
    let next = AreKeyTransitions-more letter f (transitions_in numbers spans) c.loop-letter.invariant.parts in
    let fits : letter * width + width ≤ length numbers = omega (arith, c.requires.room, row_fits letter width c.args.letters width (omega arith) (omega arith)) in
    let is_within : KeySpan → Type 0 = λ span. (span.start ≤ span.end) × (span.end ≤ length numbers) in
    elim c.if-has_nonzero.branch [
      | then-has_nonzero+in_ok-push w ↦
          let span : KeySpan = record { letter = letter; start = letter * width; end = letter * width + width } in
          let pushed : c.if-has_nonzero.spans.items ≡ spans ++ span ∷ [] = ap (λ (v : Vec KeySpan Global). v.items) w.spans-is ∙ w.in_ok-push.ensures.items in
          record {
            within = All-same is_within c.if-has_nonzero.spans.items (spans ++ span ∷ []) pushed (All-push is_within spans span c.loop-letter.invariant.within (omega arith, fits));
            parts = subst (AreKeyTransitions (letter + 1) f) (sym (ap (transitions_in numbers) pushed ∙ transitions_in-part numbers spans letter width c.has_nonzero.result c.has_nonzero.ensures w.if-has_nonzero.true)) next;
          }
      | else-has_nonzero w ↦
          let kept : c.if-has_nonzero.spans.items ≡ spans = ap (λ (v : Vec KeySpan Global). v.items) w.spans-is in
          record {
            within = All-same is_within c.if-has_nonzero.spans.items spans kept c.loop-letter.invariant.within;
            parts = subst (AreKeyTransitions (letter + 1) f) (sym (ap (transitions_in numbers) kept ∙ transitions_in-no_part numbers spans letter width c.has_nonzero.result c.has_nonzero.ensures w.if-has_nonzero.false)) next;
          }
    ]
