use Rattle.std.proofs.Common.{◌≡◌, ℕ, ◌<◌, Bool, List, Vec, Global, Option, sym, ap, ◌∙◌, subst}
use Rattle.std.specs.List.{All}
use Rattle.std.specs.Option.{IfSome}
use Rattle.digit_tuple.specs.Deterministic.{states_of}
use Rattle.word_walk.specs.FewStates.{flags_of}
use Rattle.word_walk.specs.Sources.{AreSources, targets_from}
use Rattle.word_walk.proofs.SourceLemmas.{AreSources-targets, targets-within}
use Rattle.word_walk.proofs.sources.sources_by.Goals as goal

pub of_list-requires : goal.of_list-requires
of_list-requires c =
    let d = c.args.d.now in
    let n = c.args.backwards.now in
    let states : List ℕ = c.states.result.now in
    let items : c.in-Some.sources.items ≡ targets_from n states
    = subst (λ (o : Option (Vec ℕ Global)). IfSome o (λ (v : Vec ℕ Global). v.items ≡ targets_from n states)) c.in-Some.is c.in_ok-sources.ensures in
    subst (λ (m : ℕ). All (λ (q : ℕ). q < m) c.in-Some.sources.items) (sym c.states-count.ensures.value)
    (subst (All (λ (q : ℕ). q < states_of d)) (sym items) (targets-within d c.states-count.ensures.table n c.requires.backwards states))

pub returns-in-Some : goal.returns-in-Some
returns-in-Some c =
    let d = c.args.d.now in
    let n = c.args.backwards.now in
    let states : List ℕ = c.states.result.now in
    let items : c.in-Some.sources.items ≡ targets_from n states
    = subst (λ (o : Option (Vec ℕ Global)). IfSome o (λ (v : Vec ℕ Global). v.items ≡ targets_from n states)) c.in-Some.is c.in_ok-sources.ensures in
    let few : c.args.few.now ≡ flags_of (states_of d) states = c.states.ensures.flags ∙ ap (λ (m : ℕ). flags_of m states) c.requires.width in
    let made : c.of_list.result ≡ flags_of (states_of d) (targets_from n states)
    = c.of_list.ensures ∙ ap (λ (m : ℕ). flags_of m c.in-Some.sources.items) c.states-count.ensures.value ∙ ap (flags_of (states_of d)) items in
    let all : All (λ (q : ℕ). q < states_of d) states = subst (λ (m : ℕ). All (λ (q : ℕ). q < m) states) c.requires.width c.states.ensures.within in
    subst (AreSources d c.args.few.now) (sym made)
    (subst (λ (flags : List Bool). AreSources d flags (flags_of (states_of d) (targets_from n states))) (sym few)
    (AreSources-targets d c.states-count.ensures.table n c.requires.backwards states all))
