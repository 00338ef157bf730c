use Rattle.std.proofs.Common.{◌≡◌, Option, List, ℕ, ap, ◌∙◌}
use Rattle.indexmap.specs.IndexMap.{insert_entry}
use Rattle.dfa_reading.specs.declared.star_table.Targets.{Targets}
use Rattle.dfa_reading.specs.StarTables.{StarTable, same_digits, entries_in, targets_at, joined, with_target}
use Rattle.dfa_reading.proofs.StarTableLemmas.{targets_at-entries, entries_in-insert}
use Rattle.dfa_reading.proofs.star_table.StarTable.add.Goals as goal

pub returns : goal.returns
returns c =
    let entries = c.self.inside.targets.entries in
    let digits = c.args.digits.items in
    let pattern = c.self.inside.pattern.items in
    let found = c.copied.ensures ∙ c.get.ensures.value ∙ targets_at-entries entries c.as_slice.result.now ∙ ap (targets_at (entries_in entries)) c.as_slice.ensures.value in
    let added : entries_in c.insert.new.self.entries ≡ insert_entry same_digits (entries_in entries) digits (joined (targets_at (entries_in entries) digits) c.args.target) =
    ap entries_in c.in_ok-insert.ensures.entries ∙ entries_in-insert entries c.args.digits c.joined-targets.result
    ∙ ap (insert_entry same_digits (entries_in entries) digits) (c.joined-targets.ensures ∙ ap (λ (o : Option Targets). joined o c.args.target) found) in
    ap (λ (es : List (List (Option ℕ) × Targets)). let t : StarTable = record { pattern = pattern; entries = es } in t) added
    ∙ ap (λ (t : StarTable). with_target t digits c.args.target) c.self.view_is
