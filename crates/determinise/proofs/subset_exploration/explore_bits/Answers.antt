use Rattle.std.proofs.Common.{◌+◌, ◌∙◌}
use Rattle.std.proofs.lemmas.Result.{IfOk-weaker}
use Rattle.digit_tuple.specs.Automaton.{letters_of}
use Rattle.digit_tuple.specs.Keys.{LeadAlike}
use Rattle.digit_tuple.proofs.WidthLemmas.{HasApart-same, HasWidth-same}
use Rattle.determinise.specs.BitSubsets.{bits_after, state_bits, states_in}
use Rattle.determinise.specs.SubsetLaws.{after_is_state_set}
use Rattle.determinise.specs.Subsets.{IsStateSet, has_accepting, set_after}
use Rattle.determinise.proofs.BitSubsetLemmas.{states_in-bits}
use Rattle.determinise.proofs.ViewedKeyLemmas.{key_accepts-viewed, LeadAlike-viewed, LeadAlike-from_viewed}
use Rattle.determinise.proofs.subset_exploration.explore_bits.Goals as goal

pub explore-requires-clause-graph : goal.explore-requires-clause-graph
explore-requires-clause-graph c = (c.requires.first, c.requires.rows, c.requires.few)

pub returns-clause-language : goal.returns-clause-language
returns-clause-language c =
    let n = c.args.subsets.now.nfa.now in
    let table = c.requires.rows.table in
    IfOk-weaker c.explore.result _ _
    (λ stepped same word over. same word over
    ∙ key_accepts-viewed (IsStateSet n) (letters_of n) (set_after n) (λ key a is small. after_is_state_set n key a) (state_bits n) (states_in n) (states_in-bits n table) (has_accepting n) word c.args.subsets.now.first.now over c.requires.first)
    c.explore.ensures.language

pub returns-clause-width : goal.returns-clause-width
returns-clause-width c =
    let n = c.args.subsets.now.nfa.now in
    let first = c.args.subsets.now.first.now in
    let table = c.requires.rows.table in
    IfOk-weaker c.explore.result _ _
    (λ stepped width. HasWidth-same (LeadAlike (bits_after n) (state_bits n first)) (LeadAlike (set_after n) first) (letters_of n) stepped.width
    (LeadAlike-from_viewed (IsStateSet n) (letters_of n) (set_after n) (λ key a is small. after_is_state_set n key a) (state_bits n) (states_in n) (states_in-bits n table) first c.requires.first)
    (LeadAlike-viewed (IsStateSet n) (letters_of n) (set_after n) (λ key a is small. after_is_state_set n key a) (state_bits n) (states_in n) (states_in-bits n table) first c.requires.first) width)
    c.explore.ensures.width

pub returns-clause-states : goal.returns-clause-states
returns-clause-states c h =
    let n = c.args.subsets.now.nfa.now in
    let first = c.args.subsets.now.first.now in
    let table = c.requires.rows.table in
    HasApart-same (LeadAlike (bits_after n) (state_bits n first)) (LeadAlike (set_after n) first) (letters_of n) (c.args.limit.most + 1)
    (LeadAlike-viewed (IsStateSet n) (letters_of n) (set_after n) (λ key a is small. after_is_state_set n key a) (state_bits n) (states_in n) (states_in-bits n table) first c.requires.first)
    (c.explore.ensures.states h)
