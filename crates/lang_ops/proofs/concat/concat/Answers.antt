use Rattle.std.proofs.Common.{◌≡◌, ◌+◌, [], true≢false, sym, ap, ◌∙◌, subst, arith}
use Rattle.std.proofs.lemmas.Result.{IfOk-weaker}
use Rattle.digit_tuple.specs.Deterministic.{Automaton, accepts_of, letters_of}
use Rattle.digit_tuple.specs.Width.{HasApart, HasWidth}
use Rattle.digit_tuple.proofs.NoWordLemmas.{bare_refuses}
use Rattle.digit_tuple.proofs.WidthLemmas.{HasApart-one, HasWidth-one}
use Rattle.minimise.specs.Canonical.{IsCanonical}
use Rattle.minimise.specs.Residuals.{IsDead}
use Rattle.minimise.proofs.NoWordLemmas.{IsCanonical-bare}
use Rattle.lang_ops.specs.Concatenation.{ConcatAlike}
use Rattle.lang_ops.proofs.ConcatLemmas.{ConcatAlike-dead, none_concatenated}
use Rattle.lang_ops.proofs.concat.concat.Goals as goal

pub returns-then-accepts_nothing-clause-language : goal.returns-then-accepts_nothing-clause-language
returns-then-accepts_nothing-clause-language c =
    let a = c.args.a.now in
    let b = c.args.b.now in
    let dead : IsDead a 0 = c.accepts_nothing.ensures.0 c.if-accepts_nothing.true in
    IfOk-weaker c.no_words_within.result _ _
    (λ stepped is w over. (
      (λ yes. absurd (true≢false (sym yes ∙ ap (λ (e : Automaton). accepts_of e w) is ∙ bare_refuses c.in_ok-alphabet.alphabet w))),
      (λ found. absurd (none_concatenated a b dead w over found)),
    ))
    c.no_words_within.ensures.no_words

pub returns-then-accepts_nothing-clause-width : goal.returns-then-accepts_nothing-clause-width
returns-then-accepts_nothing-clause-width c =
    let a = c.args.a.now in
    let b = c.args.b.now in
    let dead : IsDead a 0 = c.accepts_nothing.ensures.0 c.if-accepts_nothing.true in
    IfOk-weaker c.no_words_within.result _ _
    (λ stepped one. subst (HasWidth (ConcatAlike a b) (letters_of a)) (sym one) (HasWidth-one (ConcatAlike a b) (letters_of a) (λ w over. ConcatAlike-dead a b dead w [] over tt)))
    c.no_words_within.ensures.width

pub returns-then-accepts_nothing-clause-states : goal.returns-then-accepts_nothing-clause-states
returns-then-accepts_nothing-clause-states c refused =
    let a = c.args.a.now in
    let b = c.args.b.now in
    let none : c.args.limit.most ≡ 0 = c.no_words_within.ensures.states.0 refused in
    let count : 1 ≡ c.args.limit.most + 1 = omega (arith, none) in
    subst (HasApart (ConcatAlike a b) (letters_of a)) count (HasApart-one (ConcatAlike a b) (letters_of a))

pub returns-then-accepts_nothing-clause-canonical : goal.returns-then-accepts_nothing-clause-canonical
returns-then-accepts_nothing-clause-canonical c =
    IfOk-weaker c.no_words_within.result _ _ (λ stepped is. subst IsCanonical (sym is) (IsCanonical-bare c.in_ok-alphabet.alphabet)) c.no_words_within.ensures.no_words
