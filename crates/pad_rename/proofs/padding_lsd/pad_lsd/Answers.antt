use Rattle.std.proofs.Common.{◌≡◌, ◌+◌, [], sym, ap, ◌∙◌, subst, true≢false, arith}
use Rattle.std.proofs.lemmas.Result.{IfOk-weaker}
use Rattle.digit_tuple.specs.Deterministic.{Automaton, accepts_of, letters_of}
use Rattle.digit_tuple.specs.Width.{HasApart, HasWidth}
use Rattle.digit_tuple.specs.declared.direction.Direction.TheVariants.{Lsd}
use Rattle.digit_tuple.proofs.NoWordLemmas.{bare_refuses}
use Rattle.digit_tuple.proofs.WidthLemmas.{HasApart-one, HasWidth-one}
use Rattle.minimise.specs.Canonical.{IsCanonical}
use Rattle.minimise.specs.Residuals.{IsDead}
use Rattle.pad_rename.specs.Padding.{PaddedAlike}
use Rattle.minimise.proofs.NoWordLemmas.{IsCanonical-bare}
use Rattle.pad_rename.proofs.NoWordLemmas.{LsdPaddedAlike-none, none_padded}
use Rattle.pad_rename.proofs.padding_lsd.pad_lsd.Goals as goal

pub returns-then-accepts_nothing-clause-canonical : goal.returns-then-accepts_nothing-clause-canonical
returns-then-accepts_nothing-clause-canonical c =
    IfOk-weaker c.no_words_within.result _ _ (λ stepped is. subst IsCanonical (sym is) (IsCanonical-bare c.in_ok-alphabet.alphabet)) c.no_words_within.ensures.no_words

pub returns-then-accepts_nothing-clause-language : goal.returns-then-accepts_nothing-clause-language
returns-then-accepts_nothing-clause-language c =
    let d = c.args.a.now in
    let dead : IsDead d 0 = c.accepts_nothing.ensures.0 c.if-accepts_nothing.true in
    IfOk-weaker c.no_words_within.result _ _
    (λ stepped is w over. (
      (λ yes. absurd (true≢false (sym yes ∙ ap (λ (e : Automaton). accepts_of e w) is ∙ bare_refuses c.in_ok-alphabet.alphabet w))),
      (λ padded. absurd (none_padded d dead Lsd w padded)),
    ))
    c.no_words_within.ensures.no_words

pub returns-then-accepts_nothing-clause-width : goal.returns-then-accepts_nothing-clause-width
returns-then-accepts_nothing-clause-width c =
    let d = c.args.a.now in
    let dead : IsDead d 0 = c.accepts_nothing.ensures.0 c.if-accepts_nothing.true in
    IfOk-weaker c.no_words_within.result _ _
    (λ stepped one. subst (HasWidth (PaddedAlike Lsd d) (letters_of d)) (sym one) (HasWidth-one (PaddedAlike Lsd d) (letters_of d) (λ w over. LsdPaddedAlike-none d dead w [] over tt)))
    c.no_words_within.ensures.width

pub returns-then-accepts_nothing-clause-states : goal.returns-then-accepts_nothing-clause-states
returns-then-accepts_nothing-clause-states c refused =
    let none : c.args.limit.most ≡ 0 = c.no_words_within.ensures.states.0 refused in
    let count : 1 ≡ c.args.limit.most + 1 = omega (arith, none) in
    subst (HasApart (PaddedAlike Lsd c.args.a.now) (letters_of c.args.a.now)) count (HasApart-one (PaddedAlike Lsd c.args.a.now) (letters_of c.args.a.now))
