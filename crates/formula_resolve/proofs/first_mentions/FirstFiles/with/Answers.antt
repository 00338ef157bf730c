use Rattle.std.proofs.Common.{ap, ◌∙◌, arith}
use Rattle.formula_resolve.specs.FirstMentions.{with_new, is_same_file}
use Rattle.formula_resolve.proofs.FirstLemmas.{file_added, file_there, seen_kept, seen_added}
use Rattle.formula_resolve.proofs.first_mentions.FirstFiles.with.Goals as goal

pub returns-then-branch-len : goal.returns-then-branch-len
returns-then-branch-len c =
    file_there c.self.inside.files.items c.self.inside.seen c.number_of.new.self c.deref.result.now c.args.file c.in_ok-number_of.field-0 c.self.invariant (c.deref.ensures.value ∙ c.in_ok-key.ensures) c.in_ok-number_of.ensures.number
    (λ same. c.if-branch-len.true (omega (arith, same, c.len.ensures, c.self.inside.files.ok)))
    ∙ ap (λ fs. with_new is_same_file fs c.args.file) c.self.view_is

pub returns : goal.returns
returns c =
    c.in_ok-push.ensures.items
    ∙ file_added c.self.inside.files.items c.self.inside.seen c.number_of.new.self c.deref.result.now c.args.file c.in_ok-number_of.field-0 c.self.invariant (c.deref.ensures.value ∙ c.in_ok-key.ensures) c.in_ok-number_of.ensures.number
    (omega (arith, c.if-branch-len.false, c.len.ensures, c.self.inside.files.ok))
    ∙ ap (λ fs. with_new is_same_file fs c.args.file) c.self.view_is

pub invariant_of-result : goal.invariant_of-result
invariant_of-result c =
    seen_kept c.self.inside.files.items c.self.inside.seen c.number_of.new.self c.deref.result.now c.in_ok-number_of.field-0 c.self.invariant c.in_ok-number_of.ensures.number
    (λ same. c.if-branch-len.true (omega (arith, same, c.len.ensures, c.self.inside.files.ok)))

pub invariant_of-result-2 : goal.invariant_of-result-2
invariant_of-result-2 c =
    seen_added c.self.inside.files.items c.push.new.self.items c.self.inside.seen c.number_of.new.self c.deref.result.now c.args.file c.in_ok-number_of.field-0 c.self.invariant (c.deref.ensures.value ∙ c.in_ok-key.ensures) c.in_ok-number_of.ensures.number
    (omega (arith, c.if-branch-len.false, c.len.ensures, c.self.inside.files.ok)) c.in_ok-push.ensures.items
