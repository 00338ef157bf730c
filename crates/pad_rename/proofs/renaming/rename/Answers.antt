use Rattle.std.proofs.Common.{◌≡◌, [], sym, ap, ◌∙◌, subst}
use Rattle.digit_tuple.specs.Deterministic.{Automaton, accepts_of}
use Rattle.digit_tuple.specs.Letters.{product, IsWord}
use Rattle.digit_tuple.specs.Names.{with_names}
use Rattle.minimise.specs.Tracked.{NamedAutomaton}
use Rattle.pad_rename.specs.Substitution.{IsSubstitution, sizes_under, word_under}
use Rattle.pad_rename.proofs.RenamingLemmas.{IsSubstitution-renaming}
use Rattle.pad_rename.proofs.SubstitutionLemmas.{sizes_under-themselves, word_under-themselves}
use Rattle.pad_rename.proofs.renaming.rename.Goals as goal

pub substitute-requires : goal.substitute-requires
substitute-requires c =
    subst (λ ns. IsSubstitution c.dfa-dfa.result.now.sizes c.args.names.now ns) (sym c.deref-then-not-are_equal.ensures.value)
    (subst (λ (d : Automaton). IsSubstitution d.sizes c.args.names.now c.in_ok-ordered.ordered.items) (sym c.dfa-dfa.ensures.value)
    (IsSubstitution-renaming c.args.a.now.automaton.sizes c.args.names.now c.in_ok-ordered.ordered.items (c.requires.count ∙ c.dfa-dfa.ensures.tracked.count) c.requires.distinct c.in_ok-ordered.ensures.joint))

pub returns-clause-sizes : goal.returns-clause-sizes
returns-clause-sizes c =
    let sizes = c.args.a.now.automaton.sizes in
    let names = c.args.names.now in
    let same : with_names [] names ≡ names = sym c.in_ok-ordered.ensures.names ∙ sym c.deref.ensures.value ∙ c.are_equal.ensures.0 c.if-not-are_equal.false in
    ap (λ (t : NamedAutomaton). t.automaton.sizes) c.of_canonical.ensures ∙ ap (λ (d : Automaton). d.sizes) (c.in_ok-table.ensures ∙ c.dfa-dfa.ensures.value)
    ∙ sym (ap (sizes_under sizes names) same ∙ sizes_under-themselves sizes names c.requires.distinct (c.requires.count ∙ c.dfa-dfa.ensures.tracked.count))

pub returns-clause-language : goal.returns-clause-language
returns-clause-language c w over =
    let d = c.args.a.now.automaton in
    let names = c.args.names.now in
    let count = c.requires.count ∙ c.dfa-dfa.ensures.tracked.count in
    let same : with_names [] names ≡ names = sym c.in_ok-ordered.ensures.names ∙ sym c.deref.ensures.value ∙ c.are_equal.ensures.0 c.if-not-are_equal.false in
    let inside : IsWord (product d.sizes) w = subst (λ ss. IsWord (product ss) w) (ap (sizes_under d.sizes names) same ∙ sizes_under-themselves d.sizes names c.requires.distinct count) over in
    ap (λ (t : NamedAutomaton). accepts_of t.automaton w) c.of_canonical.ensures ∙ ap (λ (e : Automaton). accepts_of e w) (c.in_ok-table.ensures ∙ c.dfa-dfa.ensures.value)
    ∙ sym (ap (λ ns. accepts_of d (word_under d.sizes names ns w)) same ∙ ap (accepts_of d) (word_under-themselves d.sizes names c.requires.distinct count w inside))
