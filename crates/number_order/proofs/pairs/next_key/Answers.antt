use Rattle.std.proofs.Common.{ℕ, ◌/◌, ◌%◌, [], ◌∷◌, ap, ◌∙◌, Ordering}
use Rattle.std.specs.Ordering.{ordering_index}
use Rattle.residual_classes.specs.Classes.{next_of}
use Rattle.number_order.specs.PairKeys.{at, compared_more}
use Rattle.number_order.proofs.PairLemmas.{letter_digits, at-next_states}
use Rattle.number_order.proofs.pairs.next_key.Goals as goal

pub bounds-firsts-first : goal.bounds-firsts-first
bounds-firsts-first c =
    let n = c.args.pairs.now.digits in
    let small = letter_digits n c.args.letter c.requires.letter in
    (at-next_states c.args.pairs.now.language.now (at c.args.key.now 0) n (c.args.letter / n) c.args.firsts.now c.requires.firsts small.0).0

pub bounds-seconds-second : goal.bounds-seconds-second
bounds-seconds-second c =
    let n = c.args.pairs.now.digits in
    let small = letter_digits n c.args.letter c.requires.letter in
    (at-next_states c.args.pairs.now.language.now (at c.args.key.now 1) n (c.args.letter % n) c.args.seconds.now c.requires.seconds small.1).0

pub returns : goal.returns
returns c =
    let n = c.args.pairs.now.digits in
    let d = c.args.pairs.now.language.now in
    let key = c.args.key.now in
    let small = letter_digits n c.args.letter c.requires.letter in
    let order : ℕ = c.number_of.result in
    ap (λ p. p ∷ at c.args.seconds.now (c.args.letter % n) ∷ order ∷ []) (at-next_states d (at key 0) n (c.args.letter / n) c.args.firsts.now c.requires.firsts small.0).1
    ∙ ap (λ q. next_of d (at key 0) (c.args.letter / n) ∷ q ∷ order ∷ []) (at-next_states d (at key 1) n (c.args.letter % n) c.args.seconds.now c.requires.seconds small.1).1
    ∙ ap (λ o. next_of d (at key 0) (c.args.letter / n) ∷ next_of d (at key 1) (c.args.letter % n) ∷ o ∷ [])
    (c.number_of.ensures ∙ ap ordering_index (c.compare-order.ensures ∙ ap (λ (so_far : Ordering). compared_more c.args.pairs.now.direction so_far (c.args.letter / n) (c.args.letter % n)) c.ordering_of.ensures))
