use Rattle.std.proofs.Common.{◌≡◌, ◌+◌, [], true≢false, sym, ap, ◌∙◌, subst, arith}
use Rattle.std.proofs.lemmas.Result.{IfOk-weaker}
use Rattle.digit_tuple.specs.Deterministic.{Automaton, accepts_of}
use Rattle.digit_tuple.specs.Letters.{product}
use Rattle.digit_tuple.specs.Width.{HasApart, HasWidth}
use Rattle.digit_tuple.proofs.NoWordLemmas.{bare_refuses}
use Rattle.digit_tuple.proofs.WidthLemmas.{HasApart-one, HasWidth-one}
use Rattle.minimise.specs.Canonical.{IsCanonical}
use Rattle.minimise.specs.Residuals.{IsDead}
use Rattle.project_close.specs.Projection.{ProjectionAlike}
use Rattle.minimise.proofs.NoWordLemmas.{IsCanonical-bare}
use Rattle.project_close.proofs.ProjectionLemmas.{ProjectionAlike-dead, none_in_projection}
use Rattle.project_close.proofs.projection.projected.Goals as goal

pub returns-then-accepts_nothing-clause-language : goal.returns-then-accepts_nothing-clause-language
returns-then-accepts_nothing-clause-language c =
    let d = c.args.d.now in
    let dead : IsDead d 0 = c.accepts_nothing.ensures.0 c.if-accepts_nothing.true in
    IfOk-weaker c.no_words_within.result _ _
    (λ stepped is w over. (
      (λ yes. absurd (true≢false (sym yes ∙ ap (λ (e : Automaton). accepts_of e w) is ∙ bare_refuses c.args.alphabet w))),
      (λ inside. absurd (none_in_projection d dead c.args.places.now c.args.direction w inside)),
    ))
    c.no_words_within.ensures.no_words

pub returns-then-accepts_nothing-clause-width : goal.returns-then-accepts_nothing-clause-width
returns-then-accepts_nothing-clause-width c =
    let d = c.args.d.now in
    let dead : IsDead d 0 = c.accepts_nothing.ensures.0 c.if-accepts_nothing.true in
    let alike = ProjectionAlike d c.args.places.now c.args.direction in
    IfOk-weaker c.no_words_within.result _ _
    (λ stepped one. subst (HasWidth alike (product c.args.alphabet)) (sym one) (HasWidth-one alike (product c.args.alphabet) (λ w over. ProjectionAlike-dead d dead c.args.places.now c.args.direction w [])))
    c.no_words_within.ensures.width

pub returns-then-accepts_nothing-clause-states : goal.returns-then-accepts_nothing-clause-states
returns-then-accepts_nothing-clause-states c refused =
    let alike = ProjectionAlike c.args.d.now c.args.places.now c.args.direction in
    let none : c.args.limit.most ≡ 0 = c.no_words_within.ensures.states.0 refused in
    let count : 1 ≡ c.args.limit.most + 1 = omega (arith, none) in
    subst (HasApart alike (product c.args.alphabet)) count (HasApart-one alike (product c.args.alphabet))

pub returns-then-accepts_nothing-clause-canonical : goal.returns-then-accepts_nothing-clause-canonical
returns-then-accepts_nothing-clause-canonical c =
    IfOk-weaker c.no_words_within.result _ _ (λ stepped is. subst IsCanonical (sym is) (IsCanonical-bare c.args.alphabet)) c.no_words_within.ensures.no_words
