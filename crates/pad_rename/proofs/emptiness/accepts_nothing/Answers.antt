use Rattle.std.proofs.Common.{◌≡◌, [], false, not, sym, ap, ◌∙◌, true≢false}
use Rattle.digit_tuple.specs.Deterministic.{accepting_of}
use Rattle.pad_rename.proofs.NoWordLemmas.{bare_from_dead, dead_from_bare}
use Rattle.pad_rename.proofs.emptiness.accepts_nothing.Goals as goal

pub returns-then-not-accepting : goal.returns-then-not-accepting
returns-then-not-accepting c =
    let d = c.args.d.now in
    let none : accepting_of d 0 ≡ false = sym c.accepting.ensures.accepting ∙ c.if-not-accepting.true in (
      (λ is. dead_from_bare d none (c.is_bare.ensures.0 is)),
      (λ dead. c.is_bare.ensures.1 (bare_from_dead d c.requires dead)),
    )

pub returns-else-not-accepting : goal.returns-else-not-accepting
returns-else-not-accepting c = (
  (λ is. absurd (true≢false (sym is ∙ ap not c.if-not-accepting.false))),
  (λ dead. ap not (c.accepting.ensures.accepting ∙ dead [] tt)),
)
