use Rattle.std.proofs.Common.{◌≡◌, Some, refl, get_or, sym, ap, ◌∙◌, subst, arith}
use Rattle.std.proofs.lemmas.List.{take_all}
use Rattle.command_head.specs.declared.head.ValuedName.{ValuedName}
use Rattle.formula_resolve.specs.Headers.{is_plain}
use Rattle.word_commands.proofs.ListedChecks.{AreNotPlain, first_at, none_first}
use Rattle.word_commands.proofs.combine.none_plain.Goals as goal

pub returns-then-is_plain : goal.returns-then-is_plain
returns-then-is_plain c =
    let h = c.args.headers.now in
    let automata = c.args.automata.now in
    let i = c.loop-valued.valued-index in
    let own : (get_or automata i c.valued-item.result).name ≡ c.in_ok-copy.field-0 = ap (λ (v : ValuedName). v.name) (sym c.valued-item.is) ∙ sym c.in_ok-copy.ensures in
    (c.in_ok-copy.field-0, refl, first_at h automata i c.valued-item.result c.loop-valued-test.true c.loop-valued.invariant (ap (λ (v : ValuedName). is_plain h v.name) (sym c.valued-item.is) ∙ (sym c.is_plain.ensures ∙ c.if-is_plain.true)) ∙ ap Some own)

pub returns : goal.returns
returns c =
    let h = c.args.headers.now in
    let automata = c.args.automata.now in
    none_first h automata (subst (AreNotPlain h) (take_all c.loop-valued.valued-index automata (omega (arith, c.loop-valued-test.false))) c.loop-valued.invariant)
