use Rattle.std.proofs.Common.{◌≡◌, ℕ, ◌+◌, ◌-◌, ◌<◌, ◌≤◌, ◌⊎◌, inl, inr, ◌∷◌, [], length, get_or, take, sym, ap, ◌∙◌, arith}
use Rattle.std.proofs.lemmas.Bool.{cases_lt}
use Rattle.digit_tuple.specs.declared.transitions.Transition.{Transition}
use Rattle.digit_tuple.specs.Deterministic.{transitions_of}
use Rattle.digit_tuple.proofs.DfaLemmas.{row_at}
use Rattle.residual_classes.specs.Classes.{class_of, dead_class}
use Rattle.residual_classes.specs.ClassTransitions.{class_transitions}
use Rattle.residual_classes.specs.TransitionLetters.{listed}
use Rattle.residual_classes.specs.Hashes.{hash_transitions}
use Rattle.residual_classes.proofs.FlatTransitionLemmas.{HasPlace-between}
use Rattle.residual_classes.proofs.HashLemmas.{before_first, hash_transitions-more, hash_transitions-rest, hash_transitions-skip}
use Rattle.residual_classes.specs.LookCounts.{looked_at}
use Rattle.residual_classes.proofs.LookLemmas.{looked_at-more, looked_at-next, looked_at-take}
use Rattle.residual_classes.proofs.hashing.RoundPart.mix_listed.Goals as goal
use Rattle.residual_classes.proofs.hashing.RoundPart.mix_listed.Goals.{then-letter-self-2, else-letter-self-2}

pub returns-then-letter-self-clause-hash : goal.returns-then-letter-self-clause-hash
returns-then-letter-self-clause-hash g c =
    let self = c.args.self.now in
    let q = c.args.state in
    let place = c.loop-place.place in
    let there = HasPlace-between self.dfa.now self.starts.now (listed self.letters.now) self.targets.now c.requires.flat c.states-states.ensures.table q place c.requires.state
    c.loop-place.auto.place c.loop-place-test.true in
    let es = transitions_of self.dfa.now q in
    let k = place - class_of self.starts.now q in
    let z : Transition = record { letter = 0; target = 0 } in
    let here : self.span.end ≤ (get_or es k z).letter = omega (arith, c.if-letter-self.true, c.letter-letter.ensures ∙ sym (ap (λ (e : Transition). e.letter) (there.transition z))) in
    let later : (i : ℕ) → k ≤ i → i < length es → (k < i) ⊎ (i ≤ k) → self.span.end ≤ (get_or es i z).letter = λ i after inside cases. elim cases [
      | inl less ↦ omega (arith, here, (row_at self.dfa.now q c.states-states.ensures.table c.requires.state).ascending k i z less inside)
      | inr most ↦ let same : k ≡ i = omega (arith, after, most) in omega (arith, here, ap (λ n. (get_or es n z).letter) same)
    ] in
    c.loop-place.invariant.hash
    ∙ hash_transitions-rest self.span.first self.span.end c.args.start self.hashes.now (dead_class self.dfa.now self.hashes.now) es k z (λ i after inside. later i after inside (cases_lt k i))

pub mix_target-hash-requires-clause-target : goal.mix_target-hash-requires-clause-target
mix_target-hash-requires-clause-target g c =
    let self = c.args.self.now in
    let there = HasPlace-between self.dfa.now self.starts.now (listed self.letters.now) self.targets.now c.requires.flat c.states-states.ensures.table c.args.state c.loop-place.place c.requires.state
    c.loop-place.auto.place c.loop-place-test.true in
    omega (arith, there.target)

pub loop-place-preserved : goal.loop-place-preserved
loop-place-preserved g c =
    let self = c.args.self.now in
    let q = c.args.state in
    let place = c.loop-place.place in
    let there = HasPlace-between self.dfa.now self.starts.now (listed self.letters.now) self.targets.now c.requires.flat c.states-states.ensures.table q place c.requires.state
    c.loop-place.auto.place c.loop-place-test.true in
    let es = transitions_of self.dfa.now q in
    let k = place - class_of self.starts.now q in
    let z : Transition = record { letter = 0; target = 0 } in
    let dead = dead_class self.dfa.now self.hashes.now in
    let letter : c.letter-letter.result ≡ (get_or es k z).letter = c.letter-letter.ensures ∙ sym (ap (λ (e : Transition). e.letter) (there.transition z)) in
    let next : k + 1 ≡ place + 1 - class_of self.starts.now q = omega (arith, c.loop-place.auto.place) in
    let hash : c.if-letter-self-2.hash ≡ hash_transitions self.span.first self.span.end c.args.start (class_transitions self.hashes.now dead (take (place + 1 - class_of self.starts.now q) es)) =
    elim c.if-letter-self-2.branch [
      | then-letter-self-2 w ↦ w.hash-is ∙ w.mix_target-hash.ensures.hash
          ∙ ap (λ l. let e : Transition = record { letter = l; target = class_of self.targets.now place } in hash_transitions self.span.first self.span.end c.loop-place.hash (class_transitions self.hashes.now dead (e ∷ []))) c.letter-letter.ensures
          ∙ ap (λ (e : Transition). hash_transitions self.span.first self.span.end c.loop-place.hash (class_transitions self.hashes.now dead (e ∷ []))) (sym (there.transition z))
          ∙ ap (λ h. hash_transitions self.span.first self.span.end h (class_transitions self.hashes.now dead (get_or es k z ∷ []))) c.loop-place.invariant.hash
          ∙ hash_transitions-more self.span.first self.span.end c.args.start self.hashes.now dead es k z there.inside
          ∙ ap (λ n. hash_transitions self.span.first self.span.end c.args.start (class_transitions self.hashes.now dead (take n es))) next
      | else-letter-self-2 w ↦ w.hash-is ∙ c.loop-place.invariant.hash
          ∙ hash_transitions-skip self.span.first self.span.end c.args.start self.hashes.now dead es k z there.inside (before_first self.span.first self.span.end c.args.start self.hashes.now dead es (get_or es k z).letter (omega (arith, w.if-letter-self-2.false, letter)))
          ∙ ap (λ n. hash_transitions self.span.first self.span.end c.args.start (class_transitions self.hashes.now dead (take n es))) next
    ] in
    let looks : c.if-letter-self-2.looks ≤ c.args.looks.now + looked_at self.span.first self.span.end (take (k + 1) es) =
    elim c.if-letter-self-2.branch [
      | then-letter-self-2 w ↦ omega (arith, w.looks-is, w.mix_target-hash.ensures.looks, c.loop-place.invariant.looks, looked_at-more self.span.first self.span.end es k z there.inside (omega (arith, letter, w.if-letter-self-2.true)) (omega (arith, letter, c.if-letter-self.false)))
      | else-letter-self-2 w ↦ omega (arith, w.looks-is, c.loop-place.invariant.looks, looked_at-next self.span.first self.span.end es k z there.inside)
    ] in
    record { hash = hash; looks = omega (arith, looks, ap (λ n. looked_at self.span.first self.span.end (take n es)) next) }

pub returns-then-letter-self-clause-looks : goal.returns-then-letter-self-clause-looks
returns-then-letter-self-clause-looks g c =
    let self = c.args.self.now in
    omega (arith, c.loop-place.invariant.looks, looked_at-take self.span.first self.span.end (transitions_of self.dfa.now c.args.state) (c.loop-place.place - class_of self.starts.now c.args.state))

pub returns-clause-looks : goal.returns-clause-looks
returns-clause-looks g c =
    let self = c.args.self.now in
    omega (arith, c.loop-place.invariant.looks, looked_at-take self.span.first self.span.end (transitions_of self.dfa.now c.args.state) (c.loop-place.place - class_of self.starts.now c.args.state))
