use Rattle.std.proofs.Common.{◌≡◌, ◌+◌, ◌≤◌, Bool, true, false, refl, sym, ap, ◌∙◌, subst, arith}
use mir.Val.{bool_byte}
use Rattle.digit_tuple.specs.Deterministic.{Automaton, accepts_of, letters_of, states_of}
use Rattle.digit_tuple.specs.Width.{HasWidth}
use Rattle.pad_rename.specs.Padding.{MsdPaddedAlike}
use Rattle.pad_rename.proofs.StayingZeros.{HasApart-ends, HasWidth-ends, accepts-padded, one_if}
use Rattle.pad_rename.proofs.zeros_stay.pad_itself.Goals as goal

one_if-byte : (b : Bool) → bool_byte b ≡ one_if b
one_if-byte true = refl
one_if-byte false = refl

pub returns-clause-language : goal.returns-clause-language
returns-clause-language c w over =
    let d = c.args.a.now in
    let same : accepts_of c.in_ok-result.result w ≡ accepts_of d w = ap (λ (e : Automaton). accepts_of e w) c.in_ok-result.ensures in
    let iff = accepts-padded d c.requires.canonical c.requires.stay w over in
    ((λ is. iff.0 (sym same ∙ is)), (λ padded. same ∙ iff.1 padded))

pub returns-clause-width : goal.returns-clause-width
returns-clause-width c =
    let d = c.args.a.now in
    let returns = c.in_ok-returns.field-0.returns in
    let gap = c.in_ok-returns.field-0.gap in
    let count : states_of d + one_if returns + one_if gap ≡ c.from.result + c.from-2.result + c.from-3.result =
    omega (arith, c.from.ensures, c.states.ensures.value, c.from-2.ensures ∙ one_if-byte returns, c.from-3.ensures ∙ one_if-byte gap) in
    subst (HasWidth (MsdPaddedAlike d) (letters_of d)) count (HasWidth-ends d c.requires.canonical c.requires.stay returns gap c.in_ok-returns.ensures)

pub returns-then-width-from-clause-states : goal.returns-then-width-from-clause-states
returns-then-width-from-clause-states c refused =
    let d = c.args.a.now in
    let returns = c.in_ok-returns.field-0.returns in
    let gap = c.in_ok-returns.field-0.gap in
    let more : c.args.limit.most + 1 ≤ states_of d + one_if returns + one_if gap =
    omega (arith, c.if-width-from.true, c.from-4.ensures, c.from.ensures, c.states.ensures.value, c.from-2.ensures ∙ one_if-byte returns, c.from-3.ensures ∙ one_if-byte gap) in
    HasApart-ends d c.requires.canonical c.requires.stay returns gap c.in_ok-returns.ensures (c.args.limit.most + 1) more
