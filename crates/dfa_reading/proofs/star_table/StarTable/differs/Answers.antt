use Rattle.std.proofs.Common.{Option, Some, sym, ap, ◌∙◌}
use Rattle.dfa_reading.specs.declared.star_table.Targets.{Targets}
use Rattle.dfa_reading.specs.StarTables.{StarTable, targets_at, differs_from}
use Rattle.dfa_reading.proofs.StarTableLemmas.{targets_at-entries}
use Rattle.dfa_reading.proofs.star_table.StarTable.differs.Goals as goal

pub returns-in-None : goal.returns-in-None
returns-in-None c =
    ap (λ (o : Option Targets). differs_from o c.args.target) (c.in-None.ensures.value ∙ targets_at-entries c.self.inside.targets.entries c.args.digits.now)
    ∙ ap (λ (t : StarTable). differs_from (targets_at t.entries c.args.digits.now) c.args.target) c.self.view_is

pub returns-in-Some-One : goal.returns-in-Some-One
returns-in-Some-One c =
    ap (λ (t : Targets). differs_from (Some t) c.args.target) (sym c.in-Some-One.field-0-is)
    ∙ ap (λ (o : Option Targets). differs_from o c.args.target) (c.in-Some-One.ensures.value ∙ targets_at-entries c.self.inside.targets.entries c.args.digits.now)
    ∙ ap (λ (t : StarTable). differs_from (targets_at t.entries c.args.digits.now) c.args.target) c.self.view_is

pub returns-in-Some-Several : goal.returns-in-Some-Several
returns-in-Some-Several c =
    ap (λ (t : Targets). differs_from (Some t) c.args.target) (sym c.in-Some-Several.field-0-is)
    ∙ ap (λ (o : Option Targets). differs_from o c.args.target) (c.in-Some-Several.ensures.value ∙ targets_at-entries c.self.inside.targets.entries c.args.digits.now)
    ∙ ap (λ (t : StarTable). differs_from (targets_at t.entries c.args.digits.now) c.args.target) c.self.view_is
