use Rattle.std.proofs.Common.{◌≡◌, ℕ, ◌+◌, ◌*◌, List, [], ◌∷◌, ◌++◌, get_or, ap, sym, ◌∙◌, subst, mul-one}
use Rattle.std.proofs.lemmas.Result.{IfOk-weaker}
use Rattle.digit_tuple.specs.Letters.{IsWord, product}
use Rattle.digit_tuple.specs.Width.{HasApart, HasWidth}
use Rattle.digit_tuple.specs.Keys.{LeadAlike, key_accepts}
use Rattle.digit_tuple.specs.Deterministic.{accepts_of}
use Rattle.digit_tuple.proofs.WidthLemmas.{HasApart-same, HasWidth-same}
use Rattle.number_order.specs.Orders.{OrderAlike}
use Rattle.number_order.specs.PairKeys.{first_pair, is_compared_pair}
use Rattle.number_order.proofs.PairLemmas.{pair_after, pair_letters-are, alike_from_keys, keys_from_alike, pairing_holds, one_size, both_ok}
use Rattle.number_order.proofs.pairs.compared.Goals as goal

pub returns-clause-relation : goal.returns-clause-relation
returns-clause-relation c =
    let direction = c.args.direction in
    let d = c.args.language.now in
    let n = c.size-digits.result in
    let sizes : d.sizes ≡ n ∷ [] = one_size d.sizes n c.requires.track (c.size-digits.ensures ∙ ap (λ ss. get_or ss 0 0) c.alphabet.ensures.sizes) in
    let letters : product c.in_ok-alphabet.alphabet ≡ n * n = ap product c.in_ok-alphabet.ensures.value ∙ ap (λ m. n * m) (mul-one n) in
    IfOk-weaker c.explore_canonical.result _ _
    (λ stepped h s is language. pairing_holds direction c.args.wanted d n s stepped.result sizes is language
    (record { sizes = h.0 ∙ c.in_ok-alphabet.ensures.value; accepts = λ w over. h.1 w (subst (λ m. IsWord m w) (sym letters) over) }))
    (both_ok c.explore_canonical.result (λ stepped. stepped.result.sizes ≡ c.in_ok-alphabet.alphabet)
    (λ stepped. (w : List ℕ) → IsWord (product c.in_ok-alphabet.alphabet) w → accepts_of stepped.result w ≡ key_accepts (pair_after direction d n) (is_compared_pair c.args.wanted d) (first_pair d) w)
    c.explore_canonical.ensures.sizes c.explore_canonical.ensures.language)

pub returns-clause-sizes : goal.returns-clause-sizes
returns-clause-sizes c =
    let d = c.args.language.now in
    let n = c.size-digits.result in
    let sizes : d.sizes ≡ n ∷ [] = one_size d.sizes n c.requires.track (c.size-digits.ensures ∙ ap (λ ss. get_or ss 0 0) c.alphabet.ensures.sizes) in
    IfOk-weaker c.explore_canonical.result _ _ (λ stepped h. h ∙ c.in_ok-alphabet.ensures.value ∙ sym (ap (λ (ss : List ℕ). ss ++ ss) sizes)) c.explore_canonical.ensures.sizes

pub returns-clause-width : goal.returns-clause-width
returns-clause-width c =
    let direction = c.args.direction in
    let d = c.args.language.now in
    let n = c.size-digits.result in
    let sizes : d.sizes ≡ n ∷ [] = one_size d.sizes n c.requires.track (c.size-digits.ensures ∙ ap (λ ss. get_or ss 0 0) c.alphabet.ensures.sizes) in
    let letters : product c.in_ok-alphabet.alphabet ≡ n * n = ap product c.in_ok-alphabet.ensures.value ∙ ap (λ m. n * m) (mul-one n) in
    IfOk-weaker c.explore_canonical.result _ _
    (λ stepped h. subst (λ m. HasWidth (OrderAlike direction d) m stepped.width) (pair_letters-are direction d n sizes)
    (HasWidth-same (LeadAlike (pair_after direction d n) (first_pair d)) (OrderAlike direction d) (n * n) stepped.width
    (λ w v over there same. alike_from_keys direction d n sizes w v same)
    (λ w v over there same. keys_from_alike direction d n sizes w v c.requires.canonical over there same)
    (subst (λ m. HasWidth (LeadAlike (pair_after direction d n) (first_pair d)) m stepped.width) letters h)))
    c.explore_canonical.ensures.width

pub returns-clause-states : goal.returns-clause-states
returns-clause-states c refused =
    let direction = c.args.direction in
    let d = c.args.language.now in
    let n = c.size-digits.result in
    let sizes : d.sizes ≡ n ∷ [] = one_size d.sizes n c.requires.track (c.size-digits.ensures ∙ ap (λ ss. get_or ss 0 0) c.alphabet.ensures.sizes) in
    let letters : product c.in_ok-alphabet.alphabet ≡ n * n = ap product c.in_ok-alphabet.ensures.value ∙ ap (λ m. n * m) (mul-one n) in
    subst (λ m. HasApart (OrderAlike direction d) m (c.args.limit.most + 1)) (pair_letters-are direction d n sizes)
    (HasApart-same (LeadAlike (pair_after direction d n) (first_pair d)) (OrderAlike direction d) (n * n) (c.args.limit.most + 1)
    (λ w v over there same. keys_from_alike direction d n sizes w v c.requires.canonical over there same)
    (subst (λ m. HasApart (LeadAlike (pair_after direction d n) (first_pair d)) m (c.args.limit.most + 1)) letters (c.explore_canonical.ensures.states refused)))
