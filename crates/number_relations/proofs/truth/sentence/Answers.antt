use Rattle.std.proofs.Common.{[], sym, ap, ◌∙◌, subst}
use Rattle.digit_tuple.specs.Deterministic.{accepts_of, letters_of}
use Rattle.digit_tuple.specs.Letters.{IsWord}
use Rattle.digit_tuple.proofs.NoWordLemmas.{bare_refuses}
use Rattle.minimise.specs.Tracked.{NamedAutomaton}
use Rattle.number_relations.proofs.TruthLemmas.{complement_all}
use Rattle.number_relations.proofs.truth.sentence.Goals as goal

pub returns-then-not-holds-clause-language : goal.returns-then-not-holds-clause-language
returns-then-not-holds-clause-language c w over =
    ap (λ (t : NamedAutomaton). accepts_of t.automaton w) c.in_ok-none.ensures ∙ bare_refuses [] w ∙ sym c.if-not-holds.true

pub returns-in-Ok-clause-language : goal.returns-in-Ok-clause-language
returns-in-Ok-clause-language c w over =
    c.in-Ok.ensures.language w (subst (λ (t : NamedAutomaton). IsWord (letters_of t.automaton) w) (sym c.in_ok-none.ensures) over)
    ∙ complement_all c.in_ok-none.none w c.in_ok-none.ensures ∙ sym c.if-not-holds.false
