use Rattle.std.proofs.Common.{ap, ◌∙◌, ◌++◌, ◌∷◌, [], bytes_eq, arith}
use Rattle.formula_resolve.specs.FirstMentions.{with_new}
use Rattle.formula_resolve.proofs.FirstLemmas.{added_new, kept_old}
use Rattle.formula_resolve.proofs.first_mentions.FirstNames.with.Goals as goal
use Rattle.formula_resolve.proofs.first_mentions.FirstNames.with.Goals.{then-branch-len+in_ok-copy+in_ok-push, else-branch-len}

pub returns : goal.returns
returns c =
    elim c.if-branch-len.branch [
      | then-branch-len+in_ok-copy+in_ok-push w ↦
          ap (λ v. v.items) w.names-is ∙ w.in_ok-push.ensures.items
          ∙ (λ i. c.self.inside.names.items ++ w.in_ok-copy.ensures i ∷ [])
          ∙ added_new c.self.inside.names.items c.self.inside.seen c.number_of.new.self c.deref.result.now c.args.name.now c.in_ok-number_of.field-0 c.self.invariant (c.deref.ensures.value ∙ c.in_ok-key.ensures) c.in_ok-number_of.ensures.number (omega (arith, w.if-branch-len.true, c.len.ensures, c.self.inside.names.ok))
          ∙ ap (λ ns. with_new bytes_eq ns c.args.name.now) c.self.view_is
      | else-branch-len w ↦
          ap (λ v. v.items) w.names-is
          ∙ kept_old c.self.inside.names.items c.self.inside.seen c.number_of.new.self c.deref.result.now c.args.name.now c.in_ok-number_of.field-0 c.self.invariant (c.deref.ensures.value ∙ c.in_ok-key.ensures) c.in_ok-number_of.ensures.number (λ same. w.if-branch-len.false (omega (arith, same, c.len.ensures, c.self.inside.names.ok)))
          ∙ ap (λ ns. with_new bytes_eq ns c.args.name.now) c.self.view_is
    ]
