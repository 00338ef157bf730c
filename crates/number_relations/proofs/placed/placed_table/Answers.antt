use Rattle.std.proofs.Common.{rules, ◌≡◌, length, sym, ap, ◌∙◌, subst}
use Rattle.digit_tuple.specs.Deterministic.{Automaton, accepts_of}
use Rattle.digit_tuple.specs.Letters.{product, IsWord}
use Rattle.digit_tuple.specs.Names.{AreDistinct}
use Rattle.minimise.specs.Tracked.{NamedAutomaton}
use Rattle.pad_rename.specs.Substitution.{sizes_under, word_under}
use Rattle.pad_rename.proofs.SubstitutionLemmas.{sizes_under-themselves, word_under-themselves}
use Rattle.number_relations.proofs.OnceLemmas.{once_all}
use Rattle.number_relations.proofs.placed.placed_table.Goals as goal

pub of_canonical-requires-clause-count : goal.of_canonical-requires-clause-count
of_canonical-requires-clause-count c =
    let long : c.len.result ≡ length c.args.names.items = search rules in
    let full = once_all c.args.under.now c.args.names.items c.len.result c.requires.names long c.if-len-under.false in
    ap length full ∙ c.requires.substitution.count ∙ ap (λ (d : Automaton). length d.sizes) (sym c.in_ok-table.ensures)

pub returns-clause-sizes : goal.returns-clause-sizes
returns-clause-sizes c =
    let under = c.args.under.now in
    let sizes = c.args.dfa.now.sizes in
    let long : c.len.result ≡ length c.args.names.items = search rules in
    let full = once_all under c.args.names.items c.len.result c.requires.names long c.if-len-under.false in
    let distinct : AreDistinct under = subst AreDistinct full c.requires.substitution.distinct in
    ap (λ (t : NamedAutomaton). t.automaton.sizes) c.of_canonical.ensures ∙ ap (λ (d : Automaton). d.sizes) c.in_ok-table.ensures
    ∙ sym (ap (sizes_under sizes under) full ∙ sizes_under-themselves sizes under distinct c.requires.substitution.count)

pub returns-clause-language : goal.returns-clause-language
returns-clause-language c w over =
    let d = c.args.dfa.now in
    let under = c.args.under.now in
    let count = c.requires.substitution.count in
    let long : c.len.result ≡ length c.args.names.items = search rules in
    let full = once_all under c.args.names.items c.len.result c.requires.names long c.if-len-under.false in
    let distinct : AreDistinct under = subst AreDistinct full c.requires.substitution.distinct in
    let inside : IsWord (product d.sizes) w = subst (λ ss. IsWord (product ss) w) (ap (sizes_under d.sizes under) full ∙ sizes_under-themselves d.sizes under distinct count) over in
    ap (λ (t : NamedAutomaton). accepts_of t.automaton w) c.of_canonical.ensures ∙ ap (λ (e : Automaton). accepts_of e w) c.in_ok-table.ensures
    ∙ sym (ap (λ ns. accepts_of d (word_under d.sizes under ns w)) full ∙ ap (accepts_of d) (word_under-themselves d.sizes under distinct count w inside))
