use Rattle.std.proofs.Common.{◌≡◌, ℕ, ◌<◌, Bool, false, List, length, get_or, nat_cmp, ap, ◌∙◌, subst, arith}
use Rattle.std.specs.List.Sorted.{IsBinarySearchResult}
use Rattle.word_walk.specs.FewStates.{flags_of}
use Rattle.word_walk.proofs.FewStateLemmas.{flag_searched, length-flags_of}
use Rattle.word_walk.proofs.few_states.FewStates.has.Goals as goal

pub returns : goal.returns
returns c =
    let n : ℕ = c.self.inside.count in
    let states : List ℕ = c.self.inside.states.items in
    let is : flags_of n states ≡ c.args.self.now = c.self.view_is in
    let within : c.args.state < n = omega (arith, c.requires, ap (λ (flags : List Bool). length flags) is, length-flags_of n states) in
    let search : IsBinarySearchResult (λ p. nat_cmp p c.args.state) states c.binary_search.result
    = subst (λ (xs : List ℕ). IsBinarySearchResult (λ p. nat_cmp p c.args.state) xs c.binary_search.result) c.deref.ensures.value c.binary_search.ensures.position in
    c.is_ok.ensures.value ∙ flag_searched n states c.self.invariant c.args.state within c.binary_search.result search ∙ ap (λ (flags : List Bool). get_or flags c.args.state false) is
