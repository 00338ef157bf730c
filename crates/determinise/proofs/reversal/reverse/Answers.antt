use Rattle.std.proofs.Common.{◌≡◌, ◌≢◌, ◌+◌, ◌<◌, ℕ, List, [], ◌++◌, reverse, length, false, vec_len, sym, ap, ◌∙◌, subst, arith}
use Rattle.std.proofs.lemmas.Bool.{eqb-true, eqb-false}
use Rattle.std.proofs.lemmas.Result.{IfOk-weaker}
use Rattle.digit_tuple.specs.Automaton as branching
use Rattle.digit_tuple.specs.Deterministic.{Automaton, accepts_of, letters_of}
use Rattle.digit_tuple.specs.Letters.{IsWord, product}
use Rattle.digit_tuple.specs.Width.{HasApart, HasWidth}
use Rattle.digit_tuple.proofs.WidthLemmas.{HasApart-one, HasApart-same, HasWidth-one, HasWidth-same}
use Rattle.digit_tuple.proofs.NoWordLemmas.{bare_refuses}
use Rattle.digit_tuple.proofs.WordLemmas.{IsWord-append}
use Rattle.digit_tuple.specs.Keys.{LeadAlike}
use Rattle.digit_tuple.specs.AcceptingStates.{AreAccepting}
use Rattle.determinise.specs.Reversed.{SameReversedResidual}
use Rattle.determinise.specs.Subsets.{set_after}
use Rattle.digit_tuple.proofs.PaddingLemmas.{IsWord-reverse}
use Rattle.determinise.proofs.ReversalLemmas.{key_accepts-reversed, SameReversedResidual-lead, LeadAlike-residual, IsStateSet-accepting, accepts_of-none, nil_of_length}
use Rattle.determinise.proofs.reversal.reverse.Goals as goal

pub explore_subsets-requires : goal.explore_subsets-requires
explore_subsets-requires c =
    let t = c.in_ok-reachable.reachable in
    let n = c.in_ok-nfa.nfa in
    let turned = c.in_ok-nfa.ensures.reversal in
    let more : vec_len c.in_ok-first.first ≢ 0 = eqb-false (vec_len c.in_ok-first.first) 0 (sym c.is_empty.ensures ∙ c.if-is_empty.false) in
    let some : 0 < length c.deref.result.now = omega (arith, more, c.in_ok-first.first.ok, c.deref.ensures.len) in
    record {
      first = IsStateSet-accepting t n turned c.deref.result.now (subst (AreAccepting t) (sym c.deref.ensures.value) c.in_ok-first.ensures) some;
      letters = ap product (turned.sizes ∙ c.in_ok-reachable.ensures.sizes ∙ sym (c.in_ok-alphabet.ensures ∙ c.alphabet.ensures.sizes));
    }

pub returns-clause-language : goal.returns-clause-language
returns-clause-language c =
    let d = c.args.d.now in
    let t = c.in_ok-reachable.reachable in
    let n = c.in_ok-nfa.nfa in
    let turned = c.in_ok-nfa.ensures.reversal in
    let letters : letters_of d ≡ branching.letters_of n = ap product (sym (turned.sizes ∙ c.in_ok-reachable.ensures.sizes)) in
    let accepting : AreAccepting t c.deref.result.now = subst (AreAccepting t) (sym c.deref.ensures.value) c.in_ok-first.ensures in
    IfOk-weaker c.explore_subsets.result _ _
    (λ stepped same word over. same word (subst (λ l. IsWord l word) letters over)
    ∙ key_accepts-reversed t c.in_ok-reachable.ensures.table n turned c.deref.result.now accepting c.in_ok-nfa.ensures.table word
    ∙ c.in_ok-reachable.ensures.language (reverse word) (IsWord-reverse (letters_of d) word over))
    c.explore_subsets.ensures.language

pub returns-clause-width : goal.returns-clause-width
returns-clause-width c =
    let d = c.args.d.now in
    let t = c.in_ok-reachable.reachable in
    let n = c.in_ok-nfa.nfa in
    let first = c.deref.result.now in
    let turned = c.in_ok-nfa.ensures.reversal in
    let letters : letters_of d ≡ branching.letters_of n = ap product (sym (turned.sizes ∙ c.in_ok-reachable.ensures.sizes)) in
    let accepting : AreAccepting t c.deref.result.now = subst (AreAccepting t) (sym c.deref.ensures.value) c.in_ok-first.ensures in
    let numbered = c.in_ok-reachable.ensures.numbered in
    let more : vec_len c.in_ok-first.first ≢ 0 = eqb-false (vec_len c.in_ok-first.first) 0 (sym c.is_empty.ensures ∙ c.if-is_empty.false) in
    let some : 0 < length c.deref.result.now = omega (arith, more, c.in_ok-first.first.ok, c.deref.ensures.len) in
    IfOk-weaker c.explore_subsets.result _ _
    (λ stepped width. HasWidth-same (LeadAlike (set_after n) first) (SameReversedResidual d) (letters_of d) stepped.width
    (SameReversedResidual-lead t c.in_ok-reachable.ensures.table n turned first accepting c.in_ok-nfa.ensures.table d c.in_ok-reachable.ensures.sizes c.in_ok-reachable.ensures.language)
    (LeadAlike-residual t c.in_ok-reachable.ensures.table n turned first accepting c.in_ok-nfa.ensures.table d c.in_ok-reachable.ensures.sizes c.in_ok-reachable.ensures.language numbered.0 numbered.1
    (IsStateSet-accepting t n turned first accepting some))
    (subst (λ l. HasWidth (LeadAlike (set_after n) first) l stepped.width) (sym letters) width))
    c.explore_subsets.ensures.width

pub returns-clause-states : goal.returns-clause-states
returns-clause-states c h =
    let d = c.args.d.now in
    let t = c.in_ok-reachable.reachable in
    let n = c.in_ok-nfa.nfa in
    let first = c.deref.result.now in
    let turned = c.in_ok-nfa.ensures.reversal in
    let letters : letters_of d ≡ branching.letters_of n = ap product (sym (turned.sizes ∙ c.in_ok-reachable.ensures.sizes)) in
    let accepting : AreAccepting t c.deref.result.now = subst (AreAccepting t) (sym c.deref.ensures.value) c.in_ok-first.ensures in
    let numbered = c.in_ok-reachable.ensures.numbered in
    let more : vec_len c.in_ok-first.first ≢ 0 = eqb-false (vec_len c.in_ok-first.first) 0 (sym c.is_empty.ensures ∙ c.if-is_empty.false) in
    let some : 0 < length c.deref.result.now = omega (arith, more, c.in_ok-first.first.ok, c.deref.ensures.len) in
    HasApart-same (LeadAlike (set_after n) first) (SameReversedResidual d) (letters_of d) (c.args.limit.most + 1)
    (LeadAlike-residual t c.in_ok-reachable.ensures.table n turned first accepting c.in_ok-nfa.ensures.table d c.in_ok-reachable.ensures.sizes c.in_ok-reachable.ensures.language numbered.0 numbered.1
    (IsStateSet-accepting t n turned first accepting some))
    (subst (λ l. HasApart (LeadAlike (set_after n) first) l (c.args.limit.most + 1)) (sym letters) (c.explore_subsets.ensures.states h))

pub returns-then-is_empty-clause-language : goal.returns-then-is_empty-clause-language
returns-then-is_empty-clause-language c =
    let d = c.args.d.now in
    let t = c.in_ok-reachable.reachable in
    let zero_len : vec_len c.in_ok-first.first ≡ 0 = eqb-true (vec_len c.in_ok-first.first) 0 (sym c.is_empty.ensures ∙ c.if-is_empty.true) in
    let none : c.in_ok-first.first.items ≡ [] = nil_of_length c.in_ok-first.first.items (omega (arith, zero_len, c.in_ok-first.first.ok)) in
    let refuses : (w : List ℕ) → IsWord (letters_of d) w → accepts_of d w ≡ false = λ w over. sym (c.in_ok-reachable.ensures.language w over) ∙ accepts_of-none t c.in_ok-reachable.ensures.table (subst (AreAccepting t) none c.in_ok-first.ensures) w in
    IfOk-weaker c.no_words_within.result _ _
    (λ stepped is word over. ap (λ (a : Automaton). accepts_of a word) is ∙ bare_refuses c.in_ok-alphabet.alphabet word ∙ sym (refuses (reverse word) (IsWord-reverse (letters_of d) word over)))
    c.no_words_within.ensures.no_words

pub returns-then-is_empty-clause-width : goal.returns-then-is_empty-clause-width
returns-then-is_empty-clause-width c =
    let d = c.args.d.now in
    let t = c.in_ok-reachable.reachable in
    let zero_len : vec_len c.in_ok-first.first ≡ 0 = eqb-true (vec_len c.in_ok-first.first) 0 (sym c.is_empty.ensures ∙ c.if-is_empty.true) in
    let none : c.in_ok-first.first.items ≡ [] = nil_of_length c.in_ok-first.first.items (omega (arith, zero_len, c.in_ok-first.first.ok)) in
    let refuses : (w : List ℕ) → IsWord (letters_of d) w → accepts_of d w ≡ false = λ w over. sym (c.in_ok-reachable.ensures.language w over) ∙ accepts_of-none t c.in_ok-reachable.ensures.table (subst (AreAccepting t) none c.in_ok-first.ensures) w in
    let alike : (w : List ℕ) → IsWord (letters_of d) w → SameReversedResidual d w [] =
    λ w over u more. refuses (reverse (w ++ u)) (IsWord-reverse (letters_of d) (w ++ u) (IsWord-append (letters_of d) w u over more)) ∙ sym (refuses (reverse ([] ++ u)) (IsWord-reverse (letters_of d) u more)) in
    IfOk-weaker c.no_words_within.result _ _
    (λ stepped one. subst (HasWidth (SameReversedResidual d) (letters_of d)) (sym one) (HasWidth-one (SameReversedResidual d) (letters_of d) alike))
    c.no_words_within.ensures.width

pub returns-then-is_empty-clause-states : goal.returns-then-is_empty-clause-states
returns-then-is_empty-clause-states c h =
    let none : c.args.limit.most ≡ 0 = c.no_words_within.ensures.states.0 h in
    let count : 1 ≡ c.args.limit.most + 1 = omega (arith, none) in
    subst (HasApart (SameReversedResidual c.args.d.now) (letters_of c.args.d.now)) count (HasApart-one (SameReversedResidual c.args.d.now) (letters_of c.args.d.now))
