use Rattle.std.proofs.Common.{◌≡◌, cond, None, Some, IfOk, sym, ap, ◌∙◌, rules}
use Rattle.std.proofs.lemmas.Int.{to_z-of_z}
use mir.Val.{SFits}
use mir.Syntax.{w32}
use Rattle.transducer_reading.specs.Entries.{Line, entry_of}
use Rattle.transducer_reading.specs.Reading.{add_entry}
use Rattle.transducer_reading.specs.Drafts.{draft_view}
use Rattle.transducer_reading.proofs.DraftLemmas.{letter_in, entry_kept}
use Rattle.transducer_reading.proofs.LastLemmas.{reading_kept}
use Rattle.transducer_reading.proofs.draft.Draft.add_line.Goals as goal

pub returns-in-Some-Line-clause-reading : goal.returns-in-Some-Line-clause-reading
returns-in-Some-Line-clause-reading c =
    let draft = draft_view c.args.self.now in
    let set = c.in-Some.set in
    let output = c.in-Some-Line.output in
    let fits : SFits w32 output = search rules in
    let entry = Line c.in-Some-Line.letter (c.in-Some-Line.target, output) in
    let read : Some entry ≡ entry_of set c.args.line.now = rw c.in-Some-Line.field-0-is at c.in-Some-Line.ensures in
    let added : IfOk c.add_last.result (λ added. cond added (Some (draft_view c.add_last.new.self)) None ≡ add_entry c.args.at draft entry) = simp to_z-of_z at c.add_last.ensures.added in
    reading_kept c.add_last.result c.add_last.new.self c.args.at draft entry
    (λ next made. entry_kept c.args.at draft next set entry c.in-Some.is (λ letter result e. letter_in set c.args.line.now letter result (sym read ∙ ap Some e)) made c.requires.draft_is)
    added c.add_last.ensures.last
