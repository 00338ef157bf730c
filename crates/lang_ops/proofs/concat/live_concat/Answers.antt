use Rattle.std.proofs.Common.{◌+◌, ℕ, List, sym, ap, ◌∙◌, subst}
use Rattle.std.proofs.lemmas.Result.{IfOk-weaker}
use Rattle.digit_tuple.specs.Keys.{LeadAlike}
use Rattle.digit_tuple.specs.Letters.{IsWord, product}
use Rattle.digit_tuple.specs.Width.{HasApart, HasWidth}
use Rattle.determinise.specs.Subsets.{set_after}
use Rattle.lang_ops.specs.ConcatTables.{AreConcatStarts}
use Rattle.lang_ops.proofs.ConcatLemmas.{concat_apart, concat_width, key_accepts-concat}
use Rattle.lang_ops.proofs.concat.live_concat.Goals as goal

pub canonical_sets-requires-clause-first : goal.canonical_sets-requires-clause-first
canonical_sets-requires-clause-first c =
    let n = c.in_ok-table.table in
    let starts : AreConcatStarts c.args.a.now c.concat_link-link.result n c.deref.result.now = subst (λ (fs : List ℕ). AreConcatStarts c.args.a.now c.concat_link-link.result n fs) (sym c.deref.ensures.value) c.in_ok-first.ensures in
    starts.set

pub canonical_sets-requires-clause-letters : goal.canonical_sets-requires-clause-letters
canonical_sets-requires-clause-letters c = ap product (c.in_ok-table.ensures.sizes ∙ sym c.requires.alphabet)

pub returns-clause-language : goal.returns-clause-language
returns-clause-language c =
    let a = c.args.a.now in
    let b = c.args.b.now in
    let link = c.concat_link-link.result in
    let n = c.in_ok-table.table in
    let first = c.deref.result.now in
    let starts : AreConcatStarts a link n first = subst (λ (fs : List ℕ). AreConcatStarts a link n fs) (sym c.deref.ensures.value) c.in_ok-first.ensures in
    IfOk-weaker c.canonical_sets.result _ _
    (λ stepped same w over.
    let there = subst (λ (ss : List ℕ). IsWord (product ss) w) (sym c.requires.alphabet) over in
    let one = key_accepts-concat a b c.requires.first c.requires.second c.requires.sizes c.requires.live link c.concat_link-link.ensures n c.in_ok-table.ensures first starts w over in
    ((λ is. one.0 (sym (same w there) ∙ is)), (λ found. same w there ∙ one.1 found)))
    c.canonical_sets.ensures.language

pub returns-clause-width : goal.returns-clause-width
returns-clause-width c =
    let a = c.args.a.now in
    let b = c.args.b.now in
    let link = c.concat_link-link.result in
    let n = c.in_ok-table.table in
    let first = c.deref.result.now in
    let starts : AreConcatStarts a link n first = subst (λ (fs : List ℕ). AreConcatStarts a link n fs) (sym c.deref.ensures.value) c.in_ok-first.ensures in
    IfOk-weaker c.canonical_sets.result _ _
    (λ stepped width. concat_width a b c.requires.first c.requires.second c.requires.sizes c.requires.live link c.concat_link-link.ensures n c.in_ok-table.ensures first starts stepped.width
    (subst (λ (ss : List ℕ). HasWidth (LeadAlike (set_after n) first) (product ss) stepped.width) c.requires.alphabet width))
    c.canonical_sets.ensures.width

pub returns-clause-states : goal.returns-clause-states
returns-clause-states c refused =
    let a = c.args.a.now in
    let b = c.args.b.now in
    let link = c.concat_link-link.result in
    let n = c.in_ok-table.table in
    let first = c.deref.result.now in
    let starts : AreConcatStarts a link n first = subst (λ (fs : List ℕ). AreConcatStarts a link n fs) (sym c.deref.ensures.value) c.in_ok-first.ensures in
    concat_apart a b c.requires.first c.requires.second c.requires.sizes c.requires.live link c.concat_link-link.ensures n c.in_ok-table.ensures first starts (c.args.limit.most + 1)
    (subst (λ (ss : List ℕ). HasApart (LeadAlike (set_after n) first) (product ss) (c.args.limit.most + 1)) c.requires.alphabet (c.canonical_sets.ensures.states refused))
