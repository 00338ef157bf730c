use Rattle.std.proofs.Common.{◌≡◌, ◌+◌, ◌∷◌, [], List, ℕ, sym, ap, ◌∙◌, subst}
use Rattle.std.proofs.lemmas.Result.{IfOk-weaker}
use Rattle.digit_tuple.specs.Deterministic.{letters_of}
use Rattle.digit_tuple.specs.Keys.{LeadAlike, key_accepts}
use Rattle.digit_tuple.specs.Letters.{IsWord, product}
use Rattle.digit_tuple.specs.Width.{HasApart, HasWidth}
use Rattle.determinise.specs.Subsets.{IsStateSet, has_accepting, set_after}
use Rattle.lang_ops.proofs.StarTableLemmas.{started_apart, started_language, started_set, started_width}
use Rattle.lang_ops.proofs.star.star_without_empty.Goals as goal

pub canonical_sets-requires-clause-first : goal.canonical_sets-requires-clause-first
canonical_sets-requires-clause-first c =
    subst (λ k. IsStateSet c.in_ok-table.table (k ∷ [])) (sym c.states.ensures.value)
    (started_set c.args.a.now c.requires.canonical c.requires.empty c.in_ok-table.ensures.0 c.in_ok-table.table c.in_ok-table.ensures.1 c.in_ok-table.ensures.2)

pub canonical_sets-requires-clause-letters : goal.canonical_sets-requires-clause-letters
canonical_sets-requires-clause-letters c = ap product (c.in_ok-table.ensures.1.sizes ∙ sym (c.in_ok-alphabet.ensures ∙ c.alphabet.ensures.sizes))

pub returns-clause-language : goal.returns-clause-language
returns-clause-language c =
    let a = c.args.a.now in
    let sizes : c.in_ok-alphabet.alphabet ≡ a.sizes = c.in_ok-alphabet.ensures ∙ c.alphabet.ensures.sizes in
    IfOk-weaker c.canonical_sets.result _ _
    (λ stepped same w over.
    let there = subst (λ (ss : List ℕ). IsWord (product ss) w) (sym sizes) over in
    let start = ap (λ k. key_accepts (set_after c.in_ok-table.table) (has_accepting c.in_ok-table.table) (k ∷ []) w) c.states.ensures.value in
    let one = started_language a c.requires.canonical c.requires.empty c.in_ok-table.ensures.0 c.in_ok-table.table c.in_ok-table.ensures.1 c.in_ok-table.ensures.2 w in
    ((λ is. one.0 (sym (same w there ∙ start) ∙ is)), (λ starred. same w there ∙ start ∙ one.1 starred)))
    c.canonical_sets.ensures.language

pub returns-clause-width : goal.returns-clause-width
returns-clause-width c =
    let a = c.args.a.now in
    let sizes : c.in_ok-alphabet.alphabet ≡ a.sizes = c.in_ok-alphabet.ensures ∙ c.alphabet.ensures.sizes in
    IfOk-weaker c.canonical_sets.result _ _
    (λ stepped width. started_width a c.requires.canonical c.requires.empty c.in_ok-table.ensures.0 c.in_ok-table.table c.in_ok-table.ensures.1 c.in_ok-table.ensures.2 stepped.width
    (subst (λ k. HasWidth (LeadAlike (set_after c.in_ok-table.table) (k ∷ [])) (letters_of a) stepped.width) c.states.ensures.value
    (subst (λ (ss : List ℕ). HasWidth (LeadAlike (set_after c.in_ok-table.table) (c.states.result ∷ [])) (product ss) stepped.width) sizes width)))
    c.canonical_sets.ensures.width

pub returns-clause-states : goal.returns-clause-states
returns-clause-states c refused =
    let a = c.args.a.now in
    let sizes : c.in_ok-alphabet.alphabet ≡ a.sizes = c.in_ok-alphabet.ensures ∙ c.alphabet.ensures.sizes in
    started_apart a c.requires.canonical c.requires.empty c.in_ok-table.ensures.0 c.in_ok-table.table c.in_ok-table.ensures.1 c.in_ok-table.ensures.2 (c.args.limit.most + 1)
    (subst (λ k. HasApart (LeadAlike (set_after c.in_ok-table.table) (k ∷ [])) (letters_of a) (c.args.limit.most + 1)) c.states.ensures.value
    (subst (λ (ss : List ℕ). HasApart (LeadAlike (set_after c.in_ok-table.table) (c.states.result ∷ [])) (product ss) (c.args.limit.most + 1)) sizes (c.canonical_sets.ensures.states refused)))
