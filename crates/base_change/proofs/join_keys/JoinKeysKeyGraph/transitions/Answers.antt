use Rattle.std.proofs.Common.{ℕ, List, [], ◌∷◌, ap, ◌∙◌}
use Rattle.base_change.specs.GroupKeys.{join_next}
use Rattle.base_change.proofs.StepLemmas.{join-next-is, one_transition_more}
use Rattle.base_change.proofs.join_keys.JoinKeysKeyGraph.transitions.Goals as goal

pub loop-letter-preserved : goal.loop-letter-preserved
loop-letter-preserved c =
    let keys = c.args.self.now in
    let key : List ℕ = c.args.key.now in
    let letter : ℕ = c.loop-letter.letter in
    let next : ℕ → List ℕ = join_next keys.dfa.now keys.root keys.digits key in
    one_transition_more next letter c.loop-letter.out c.push.new.self (c.lead_digits-state.result ∷ []) c.loop-letter.invariant
    (ap (λ (q : ℕ). q ∷ []) c.lead_digits-state.ensures ∙ join-next-is keys.dfa.now keys.root keys.digits key letter c.requires.key) c.in_ok-push.ensures.ok
