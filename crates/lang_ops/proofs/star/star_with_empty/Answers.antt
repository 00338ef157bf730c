use Rattle.std.proofs.Common.{◌≡◌, ◌+◌, ◌∷◌, [], List, ℕ, sym, ap, ◌∙◌, subst}
use Rattle.std.proofs.lemmas.Result.{IfOk-weaker}
use Rattle.digit_tuple.specs.Keys.{LeadAlike}
use Rattle.digit_tuple.specs.Letters.{IsWord, product}
use Rattle.digit_tuple.specs.Width.{HasApart, HasWidth}
use Rattle.determinise.specs.Subsets.{set_after}
use Rattle.lang_ops.proofs.StarTableLemmas.{returning_apart, returning_language, returning_set, returning_width}
use Rattle.lang_ops.proofs.star.star_with_empty.Goals as goal

pub canonical_sets-requires-clause-first : goal.canonical_sets-requires-clause-first
canonical_sets-requires-clause-first c = returning_set c.args.a.now c.requires.canonical c.requires.empty c.in_ok-table.table c.in_ok-table.ensures

pub canonical_sets-requires-clause-letters : goal.canonical_sets-requires-clause-letters
canonical_sets-requires-clause-letters c = ap product (c.in_ok-table.ensures.sizes ∙ sym (c.in_ok-alphabet.ensures ∙ c.alphabet.ensures.sizes))

pub returns-clause-language : goal.returns-clause-language
returns-clause-language c =
    let a = c.args.a.now in
    let sizes : c.in_ok-alphabet.alphabet ≡ a.sizes = c.in_ok-alphabet.ensures ∙ c.alphabet.ensures.sizes in
    IfOk-weaker c.canonical_sets.result _ _
    (λ stepped same w over.
    let there = subst (λ (ss : List ℕ). IsWord (product ss) w) (sym sizes) over in
    let one = returning_language a c.requires.canonical c.requires.empty c.in_ok-table.table c.in_ok-table.ensures w in
    ((λ is. one.0 (sym (same w there) ∙ is)), (λ starred. same w there ∙ one.1 starred)))
    c.canonical_sets.ensures.language

pub returns-clause-width : goal.returns-clause-width
returns-clause-width c =
    let a = c.args.a.now in
    let sizes : c.in_ok-alphabet.alphabet ≡ a.sizes = c.in_ok-alphabet.ensures ∙ c.alphabet.ensures.sizes in
    IfOk-weaker c.canonical_sets.result _ _
    (λ stepped width. returning_width a c.requires.canonical c.requires.empty c.in_ok-table.table c.in_ok-table.ensures stepped.width
    (subst (λ (ss : List ℕ). HasWidth (LeadAlike (set_after c.in_ok-table.table) (0 ∷ [])) (product ss) stepped.width) sizes width))
    c.canonical_sets.ensures.width

pub returns-clause-states : goal.returns-clause-states
returns-clause-states c refused =
    let a = c.args.a.now in
    let sizes : c.in_ok-alphabet.alphabet ≡ a.sizes = c.in_ok-alphabet.ensures ∙ c.alphabet.ensures.sizes in
    returning_apart a c.requires.canonical c.requires.empty c.in_ok-table.table c.in_ok-table.ensures (c.args.limit.most + 1)
    (subst (λ (ss : List ℕ). HasApart (LeadAlike (set_after c.in_ok-table.table) (0 ∷ [])) (product ss) (c.args.limit.most + 1)) sizes (c.canonical_sets.ensures.states refused))
