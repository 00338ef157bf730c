use Rattle.std.proofs.Common.{◌≡◌, ◌+◌, ◌<◌, ◌≤◌, ◌⊎◌, inl, inr, ◌∷◌, [], length, get_or, sym, ap, ◌∙◌, arith}
use Rattle.std.proofs.lemmas.Bool.{cases_lt}
use Rattle.digit_tuple.specs.declared.transitions.Transition.{Transition}
use Rattle.digit_tuple.specs.Deterministic.{transitions_of}
use Rattle.residual_classes.specs.Classes.{class_of, dead_class}
use Rattle.residual_classes.specs.ClassTransitions.{class_transitions}
use Rattle.residual_classes.specs.TransitionLetters.{listed}
use Rattle.residual_classes.specs.Hashes.{hash_transitions}
use Rattle.residual_classes.proofs.FlatTransitionLemmas.{HasPlace-between, transition_by_place}
use Rattle.residual_classes.proofs.HashLemmas.{hash_transitions-begin, hash_transitions-end, hash_transitions-more}
use Rattle.residual_classes.proofs.LookLemmas.{looked_at-more, looked_at-take}
use Rattle.residual_classes.proofs.hashing.RoundPart.mix_full.Goals as goal

pub loop-letter-init : goal.loop-letter-init
loop-letter-init g c =
    let self = c.args.self.now in
    let z : Transition = record { letter = 0; target = 0 } in
    record {
      hash = hash_transitions-begin self.span.first self.span.end c.args.start self.hashes.now (dead_class self.dfa.now self.hashes.now) (transitions_of self.dfa.now c.args.state) z
          (λ k inside. ap (λ (e : Transition). e.letter) (transition_by_place self.dfa.now self.starts.now (listed self.letters.now) self.targets.now c.requires.flat c.states-states.ensures.table c.requires.full c.args.state k z c.requires.state inside));
      looks = omega arith;
    }

pub mix_target-hash-requires-clause-target : goal.mix_target-hash-requires-clause-target
mix_target-hash-requires-clause-target g c =
    let self = c.args.self.now in
    let there = HasPlace-between self.dfa.now self.starts.now (listed self.letters.now) self.targets.now c.requires.flat c.states-states.ensures.table c.args.state (class_of self.starts.now c.args.state + c.loop-letter.letter) c.requires.state
    (omega arith) (omega (arith, c.loop-letter-test.true, c.min-letter-end.ensures)) in
    omega (arith, there.target)

pub loop-letter-preserved : goal.loop-letter-preserved
loop-letter-preserved g c =
    let self = c.args.self.now in
    let q = c.args.state in
    let k = c.loop-letter.letter in
    let es = transitions_of self.dfa.now q in
    let z : Transition = record { letter = 0; target = 0 } in
    let dead = dead_class self.dfa.now self.hashes.now in
    let inside : k < length es = omega (arith, c.loop-letter-test.true, c.min-letter-end.ensures, c.requires.flat.ends q c.requires.state) in
    let letter : (get_or es k z).letter ≡ k = ap (λ (e : Transition). e.letter) (transition_by_place self.dfa.now self.starts.now (listed self.letters.now) self.targets.now c.requires.flat c.states-states.ensures.table c.requires.full q k z c.requires.state inside) in
    let hash =
    c.mix_target-hash.ensures.hash
    ∙ ap (λ (e : Transition). hash_transitions self.span.first self.span.end c.loop-letter.hash (class_transitions self.hashes.now dead (e ∷ [])))
    (sym (transition_by_place self.dfa.now self.starts.now (listed self.letters.now) self.targets.now c.requires.flat c.states-states.ensures.table c.requires.full q k z c.requires.state inside))
    ∙ ap (λ h. hash_transitions self.span.first self.span.end h (class_transitions self.hashes.now dead (get_or es k z ∷ []))) c.loop-letter.invariant.hash
    ∙ hash_transitions-more self.span.first self.span.end c.args.start self.hashes.now dead es k z inside in
    record {
      hash = hash;
      looks = omega (arith, c.mix_target-hash.ensures.looks, c.loop-letter.invariant.looks, looked_at-more self.span.first self.span.end es k z inside (omega (arith, letter, c.loop-letter.auto.letter)) (omega (arith, letter, c.loop-letter-test.true, c.min-letter-end.ensures)));
    }

pub returns-clause-hash : goal.returns-clause-hash
returns-clause-hash g c =
    let self = c.args.self.now in
    let q = c.args.state in
    let n = c.loop-letter.letter in
    let es = transitions_of self.dfa.now q in
    let z : Transition = record { letter = 0; target = 0 } in
    let past : (length es < n + 1) ⊎ (n + 1 ≤ length es) = cases_lt (length es) (n + 1) in
    let done : (length es ≤ n) ⊎ (self.span.end ≤ n) = elim past [
      | inl all ↦ inl (omega (arith, all))
      | inr more ↦ inr (omega (arith, more, c.loop-letter-test.false, c.min-letter-end.ensures, c.requires.flat.ends q c.requires.state))
    ] in
    c.loop-letter.invariant.hash
    ∙ hash_transitions-end self.span.first self.span.end c.args.start self.hashes.now (dead_class self.dfa.now self.hashes.now) es z
    (λ k inside. ap (λ (e : Transition). e.letter) (transition_by_place self.dfa.now self.starts.now (listed self.letters.now) self.targets.now c.requires.flat c.states-states.ensures.table c.requires.full q k z c.requires.state inside)) n done

pub returns-clause-looks : goal.returns-clause-looks
returns-clause-looks g c =
    let self = c.args.self.now in
    omega (arith, c.loop-letter.invariant.looks, looked_at-take self.span.first self.span.end (transitions_of self.dfa.now c.args.state) c.loop-letter.letter)
