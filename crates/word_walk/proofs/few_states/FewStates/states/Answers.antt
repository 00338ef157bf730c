use Rattle.std.proofs.Common.{◌≡◌, ℕ, ◌<◌, Bool, List, length, sym, ap, ◌∙◌, subst}
use Rattle.std.specs.List.{All}
use Rattle.word_walk.specs.FewStates.{flags_of}
use Rattle.word_walk.proofs.FewStateLemmas.{length-flags_of}
use Rattle.word_walk.proofs.few_states.FewStates.states.Goals as goal

pub returns-clause-flags : goal.returns-clause-flags
returns-clause-flags c =
    let n : ℕ = c.self.inside.count in
    let states : List ℕ = c.self.inside.states.items in
    let size : length c.args.self.now ≡ n = sym (ap (λ (flags : List Bool). length flags) c.self.view_is) ∙ length-flags_of n states in
    sym c.self.view_is
    ∙ ap (λ (m : ℕ). flags_of m states) (sym size)
    ∙ ap (flags_of (length c.args.self.now)) (sym c.deref.ensures.value)

pub returns-clause-within : goal.returns-clause-within
returns-clause-within c =
    let n : ℕ = c.self.inside.count in
    let states : List ℕ = c.self.inside.states.items in
    let size : length c.args.self.now ≡ n = sym (ap (λ (flags : List Bool). length flags) c.self.view_is) ∙ length-flags_of n states in
    subst (All (λ (q : ℕ). q < length c.args.self.now)) (sym c.deref.ensures.value) (subst (λ (m : ℕ). All (λ (q : ℕ). q < m) states) (sym size) c.self.invariant.within)
