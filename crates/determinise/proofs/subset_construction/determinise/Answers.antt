use Rattle.std.proofs.Common.{◌+◌, [], ◌∷◌, sym, ◌∙◌}
use Rattle.std.proofs.lemmas.Result.{IfOk-weaker}
use Rattle.digit_tuple.specs.Automaton.{letters_of}
use Rattle.digit_tuple.proofs.WidthLemmas.{HasApart-same, HasWidth-same}
use Rattle.digit_tuple.specs.Keys.{LeadAlike}
use Rattle.determinise.specs.Subsets.{Alike, set_after}
use Rattle.determinise.specs.SubsetLaws.{start_is_state_set}
use Rattle.determinise.proofs.SubsetLemmas.{key_accepts-start, Alike-lead, LeadAlike-states}
use Rattle.determinise.proofs.subset_construction.determinise.Goals as goal

pub explore_subsets-requires-clause-first : goal.explore_subsets-requires-clause-first
explore_subsets-requires-clause-first c = start_is_state_set c.args.n.now c.alphabet.ensures.table

pub returns-clause-language : goal.returns-clause-language
returns-clause-language c =
    let n = c.args.n.now in
    IfOk-weaker c.explore_subsets.result _ _
    (λ stepped same word over.
    let one = key_accepts-start n c.alphabet.ensures.table word in
    ((λ is. one.0 (sym (same word over) ∙ is)), (λ accepts. same word over ∙ one.1 accepts)))
    c.explore_subsets.ensures.language

pub returns-clause-width : goal.returns-clause-width
returns-clause-width c =
    let n = c.args.n.now in
    IfOk-weaker c.explore_subsets.result _ _
    (λ stepped width. HasWidth-same (LeadAlike (set_after n) (0 ∷ [])) (Alike n) (letters_of n) stepped.width
    (λ w v over too same. Alike-lead n c.alphabet.ensures.table w v same) (LeadAlike-states n c.alphabet.ensures.table) width)
    c.explore_subsets.ensures.width

pub returns-clause-states : goal.returns-clause-states
returns-clause-states c h =
    let n = c.args.n.now in
    HasApart-same (LeadAlike (set_after n) (0 ∷ [])) (Alike n) (letters_of n) (c.args.limit.most + 1) (LeadAlike-states n c.alphabet.ensures.table) (c.explore_subsets.ensures.states h)
