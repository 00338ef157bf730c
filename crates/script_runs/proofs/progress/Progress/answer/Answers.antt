use Rattle.std.proofs.Common.{refl, ◌∙◌, subst, arith}
use Rattle.std.proofs.lemmas.Result.{err_from_is_err_and}
use Rattle.script_runs.specs.declared.coming.ItemText.{ItemText}
use Rattle.script_runs.specs.declared.coming.ItemText.TheVariants as texts
use Rattle.script_runs.specs.Coming.{IsItem}
use Rattle.script_runs.proofs.ReplySteps.{broken_replied, command_replied, refusal_replied, may_pay, no_command, refused_past}
use Rattle.script_runs.proofs.progress.Progress.answer.Goals as goal

pub returns-in-Broken-clause-reply : goal.returns-in-Broken-clause-reply
returns-in-Broken-clause-reply g c = λ cut is ledger stores.
    let own : IsItem (record { line = c.args.item.now.line; text = texts.Broken c.in-Broken.fault }) cut = subst (λ (text : ItemText). IsItem (record { line = c.args.item.now.line; text = text }) cut) c.in-Broken.is is in
    rw c.refuse.ensures (broken_replied _ (g.met.A.Answering.sound c.args.self.now.answering) c.args.depth ledger (g.T.Store.view c.args.store.now) c.args.self.now.script.room c.args.item.now.line c.in-Broken.fault cut own)

pub returns-in_err-deed-in-Command-clause-reply : goal.returns-in_err-deed-in-Command-clause-reply
returns-in_err-deed-in-Command-clause-reply g c = λ cut is ledger stores.
    let p = err_from_is_err_and c.from_residual.result c.from_residual.ensures.1 in
    let own : IsItem (record { line = c.args.item.now.line; text = texts.Command c.in-Command.text c.in-Command.shown }) cut = subst (λ (text : ItemText). IsItem (record { line = c.args.item.now.line; text = text }) cut) c.in-Command.is is in
    rw (p.1, p.2) (refusal_replied _ (g.met.A.Answering.sound c.args.self.now.answering) c.args.depth ledger (g.T.Store.view c.args.store.now) (g.T.Store.view c.answer.new.store) c.in-Command.text.items c.in-Command.shown cut own.text.0 own.text.1 c.args.self.now.script.room _
    (rw c.deref.ensures.value at c.in_err-deed-in-Command.ensures.command ledger stores))

pub returns-in_ok-deed-in-Command-clause-reply : goal.returns-in_ok-deed-in-Command-clause-reply
returns-in_ok-deed-in-Command-clause-reply g c = λ cut is ledger stores.
    let own : IsItem (record { line = c.args.item.now.line; text = texts.Command c.in-Command.text c.in-Command.shown }) cut = subst (λ (text : ItemText). IsItem (record { line = c.args.item.now.line; text = text }) cut) c.in-Command.is is in
    command_replied _ (g.met.A.Answering.sound c.args.self.now.answering) c.args.depth ledger (g.T.Store.view c.args.store.now) (g.T.Store.view c.answer.new.store) c.in-Command.text.items c.in-Command.shown cut own.text.0 own.text.1 c.args.self.now.script.room c.pay.new.self.script.room c.in_ok-deed-in-Command.deed c.pay.result
    (rw c.deref.ensures.value at c.in_ok-deed-in-Command.ensures.command ledger stores) (rw c.in_ok-deed-in-Command.ensures.kept at c.pay.ensures.pays)

pub returns-in_ok-deed-in-Command-clause-loads : goal.returns-in_ok-deed-in-Command-clause-loads
returns-in_ok-deed-in-Command-clause-loads g c = may_pay (g.A.Answering.language c.answer.new.self) c.args.depth c.args.self.now.script.room c.pay.new.self.script.room c.in_ok-deed-in-Command.deed c.pay.result c.pay.ensures.pays c.in_ok-deed-in-Command.ensures.loads

pub returns-in-Broken-clause-kept : goal.returns-in-Broken-clause-kept
returns-in-Broken-clause-kept g c = refl

pub returns-in-Broken-clause-tally : goal.returns-in-Broken-clause-tally
returns-in-Broken-clause-tally g c = refl

pub returns-in-Broken-clause-spent : goal.returns-in-Broken-clause-spent
returns-in-Broken-clause-spent g c = record { only = refl; falls = omega arith }

pub returns-in-Broken-clause-loads : goal.returns-in-Broken-clause-loads
returns-in-Broken-clause-loads g c = tt

pub returns-in-Broken-clause-limit : goal.returns-in-Broken-clause-limit
returns-in-Broken-clause-limit g c = λ past. refused_past (g.A.Answering.language c.args.self.now.answering) c.args.item.now.text c.in-Broken.fault c.refuse.result c.in-Broken.is past c.refuse.ensures

pub returns-in_err-deed-in-Command-clause-kept : goal.returns-in_err-deed-in-Command-clause-kept
returns-in_err-deed-in-Command-clause-kept g c = c.in_err-deed-in-Command.ensures.kept

pub returns-in_err-deed-in-Command-clause-tally : goal.returns-in_err-deed-in-Command-clause-tally
returns-in_err-deed-in-Command-clause-tally g c = refl

pub returns-in_err-deed-in-Command-clause-spent : goal.returns-in_err-deed-in-Command-clause-spent
returns-in_err-deed-in-Command-clause-spent g c = record { only = refl; falls = omega arith }

pub returns-in_err-deed-in-Command-clause-limit : goal.returns-in_err-deed-in-Command-clause-limit
returns-in_err-deed-in-Command-clause-limit g c = λ past. absurd (no_command c.args.item.now.text c.in-Command.text c.in-Command.shown c.in-Command.is past)

pub returns-in_err-deed-in-Command-clause-loads : goal.returns-in_err-deed-in-Command-clause-loads
returns-in_err-deed-in-Command-clause-loads g c =
    let p = err_from_is_err_and c.from_residual.result c.from_residual.ensures.1 in
    rw p.1 tt

pub returns-in_ok-deed-in-Command-clause-kept : goal.returns-in_ok-deed-in-Command-clause-kept
returns-in_ok-deed-in-Command-clause-kept g c = c.pay.ensures.kept ∙ c.in_ok-deed-in-Command.ensures.kept

pub returns-in_ok-deed-in-Command-clause-tally : goal.returns-in_ok-deed-in-Command-clause-tally
returns-in_ok-deed-in-Command-clause-tally g c = c.pay.ensures.tally

pub returns-in_ok-deed-in-Command-clause-spent : goal.returns-in_ok-deed-in-Command-clause-spent
returns-in_ok-deed-in-Command-clause-spent g c = c.pay.ensures.spent

pub returns-in_ok-deed-in-Command-clause-limit : goal.returns-in_ok-deed-in-Command-clause-limit
returns-in_ok-deed-in-Command-clause-limit g c = λ past. absurd (no_command c.args.item.now.text c.in-Command.text c.in-Command.shown c.in-Command.is past)
