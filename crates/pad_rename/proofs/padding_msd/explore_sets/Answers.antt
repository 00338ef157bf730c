use Rattle.std.proofs.Common.{◌≡◌, ◌+◌, [], List, ℕ, sym, ap, ◌∙◌, subst}
use Rattle.std.proofs.lemmas.Result.{IfOk-weaker}
use Rattle.digit_tuple.specs.Automaton as branching
use Rattle.digit_tuple.specs.Automaton.{Branching, IsBranchTable}
use Rattle.digit_tuple.specs.Deterministic.{letters_of}
use Rattle.digit_tuple.specs.Keys.{LeadAlike, key_accepts}
use Rattle.digit_tuple.specs.Letters.{product, IsWord}
use Rattle.digit_tuple.specs.Width.{HasApart, HasWidth}
use Rattle.digit_tuple.proofs.WidthLemmas.{HasApart-same, HasWidth-same}
use Rattle.pad_rename.specs.Padding.{MsdPaddedAlike}
use Rattle.pad_rename.specs.PaddedSets.{AreFirst, IsStateList, padded_after, padded_accepts}
use Rattle.pad_rename.specs.SameBranching.{branching_as}
use Rattle.pad_rename.proofs.PaddedSetLemmas.{IsStateList-first, sets_accept-padded, alike_from_sets, sets_from_alike}
use Rattle.pad_rename.proofs.SinkLeads.{IsBranchTable-as}
use Rattle.pad_rename.proofs.padding_msd.explore_sets.Goals as goal

pub explore_canonical-requires : goal.explore_canonical-requires
explore_canonical-requires c =
    let d = c.args.a.now in
    let first = c.deref.result.now in
    let are : AreFirst d first = subst (λ (set : List ℕ). AreFirst d set) (sym c.deref.ensures.value) c.in_ok-first.ensures in
    record {
      graph = (
        subst (λ (n : Branching). IsBranchTable (branching.letters_of n) n.states) (sym c.in_ok-nfa.ensures) (IsBranchTable-as d c.requires.table),
        subst (λ (n : Branching). IsStateList n first) (sym c.in_ok-nfa.ensures) (IsStateList-first d c.requires first are),
      );
      letters = ap (λ (n : Branching). branching.letters_of n) c.in_ok-nfa.ensures ∙ ap product (sym (c.in_ok-alphabet.ensures ∙ c.alphabet.ensures.sizes));
    }

pub returns-clause-language : goal.returns-clause-language
returns-clause-language c =
    let d = c.args.a.now in
    let first = c.deref.result.now in
    let letters : letters_of d ≡ product c.in_ok-alphabet.alphabet = ap product (sym (c.in_ok-alphabet.ensures ∙ c.alphabet.ensures.sizes)) in
    let are : AreFirst d first = subst (λ (set : List ℕ). AreFirst d set) (sym c.deref.ensures.value) c.in_ok-first.ensures in
    IfOk-weaker c.explore_canonical.result _ _
    (λ stepped same w over. let is = same w (subst (λ n. IsWord n w) letters over) ∙ ap (λ (n : Branching). key_accepts (padded_after n first) (padded_accepts n first) [] w) c.in_ok-nfa.ensures in
    let iff = sets_accept-padded d c.requires first are w over in
    ((λ yes. iff.0 (sym is ∙ yes)), (λ padded. is ∙ iff.1 padded)))
    c.explore_canonical.ensures.language

pub returns-clause-width : goal.returns-clause-width
returns-clause-width c =
    let d = c.args.a.now in
    let first = c.deref.result.now in
    let letters : product c.in_ok-alphabet.alphabet ≡ letters_of d = ap product (c.in_ok-alphabet.ensures ∙ c.alphabet.ensures.sizes) in
    let are : AreFirst d first = subst (λ (set : List ℕ). AreFirst d set) (sym c.deref.ensures.value) c.in_ok-first.ensures in
    IfOk-weaker c.explore_canonical.result _ _
    (λ stepped width. HasWidth-same (LeadAlike (padded_after (branching_as d) first) []) (MsdPaddedAlike d) (letters_of d) stepped.width
    (alike_from_sets d c.requires first are) (sets_from_alike d c.requires first are)
    (subst (λ (n : Branching). HasWidth (LeadAlike (padded_after n first) []) (letters_of d) stepped.width) c.in_ok-nfa.ensures
    (subst (λ n. HasWidth (LeadAlike (padded_after c.in_ok-nfa.nfa first) []) n stepped.width) letters width)))
    c.explore_canonical.ensures.width

pub returns-clause-states : goal.returns-clause-states
returns-clause-states c refused =
    let d = c.args.a.now in
    let first = c.deref.result.now in
    let letters : product c.in_ok-alphabet.alphabet ≡ letters_of d = ap product (c.in_ok-alphabet.ensures ∙ c.alphabet.ensures.sizes) in
    let are : AreFirst d first = subst (λ (set : List ℕ). AreFirst d set) (sym c.deref.ensures.value) c.in_ok-first.ensures in
    HasApart-same (LeadAlike (padded_after (branching_as d) first) []) (MsdPaddedAlike d) (letters_of d) (c.args.limit.most + 1) (sets_from_alike d c.requires first are)
    (subst (λ (n : Branching). HasApart (LeadAlike (padded_after n first) []) (letters_of d) (c.args.limit.most + 1)) c.in_ok-nfa.ensures
    (subst (λ n. HasApart (LeadAlike (padded_after c.in_ok-nfa.nfa first) []) n (c.args.limit.most + 1)) letters (c.explore_canonical.ensures.states refused)))
