use Rattle.std.proofs.Common.{◌≡◌, sym, ap, ◌∙◌, subst, arith}
use Rattle.std.proofs.lemmas.Bool.{false≢true}
use Rattle.std.proofs.lemmas.List.{take_all}
use Rattle.command_head.specs.declared.head.ValuedName.{ValuedName}
use Rattle.formula_resolve.specs.Headers.{automaton_tracks}
use Rattle.word_commands.specs.CombineMakes.{automata_in}
use Rattle.word_commands.specs.CombineOutcomes.{IsFirstOver, listed_names}
use Rattle.word_commands.proofs.ListedChecks.{AreOver, all_names, first_over_at}
use Rattle.word_commands.proofs.combine.first_other.Goals as goal

pub returns-then-not-are_same : goal.returns-then-not-are_same
returns-then-not-are_same c =
    let h = c.args.headers.now in
    let tracks = c.args.tracks.now in
    let automata = c.args.automata.now in
    subst (λ (v : ValuedName). IsFirstOver h tracks (listed_names (automata_in automata)) v.name) (sym c.other-item.is)
    (first_over_at h tracks automata c.loop-other.other-index c.other-item.result c.loop-other-test.true c.loop-other.invariant
    (λ same. false≢true (sym c.if-not-are_same.true ∙ c.are_same.ensures.1 (c.automaton_tracks.ensures ∙ (ap (λ (v : ValuedName). automaton_tracks h v.name) c.other-item.is ∙ same)))))

pub returns : goal.returns
returns c =
    let h = c.args.headers.now in
    let tracks = c.args.tracks.now in
    let automata = c.args.automata.now in
    all_names h (λ other. automaton_tracks h other ≡ tracks) automata (subst (AreOver h tracks) (take_all c.loop-other.other-index automata (omega (arith, c.loop-other-test.false))) c.loop-other.invariant)
