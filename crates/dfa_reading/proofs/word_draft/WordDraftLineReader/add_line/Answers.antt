use Rattle.std.proofs.Common.{◌≡◌, Bool, length, cond, true, None, Some, sym, ap, ◌∙◌, subst}
use Rattle.std.proofs.lemmas.List.{length-map}
use Rattle.dfa_reading.specs.declared.outputs.Outputs.TheVariants.{Letters}
use Rattle.dfa_reading.specs.Reading.{add_line}
use Rattle.dfa_reading.specs.declared.draft.Draft.{Draft as DraftRead}
use Rattle.dfa_reading.specs.DraftViews.{draft_line_view, draft_view}
use Rattle.dfa_reading.specs.Transitions.{transitions_in}
use Rattle.dfa_reading.specs.WordFiles.{is_word, are_of_systems}
use Rattle.dfa_reading.specs.WordDrafts.{IsReading}
use Rattle.dfa_reading.proofs.WordSteps.{line_added, IsReading-next, add_word_line-is}
use Rattle.dfa_reading.proofs.word_draft.WordDraftLineReader.add_line.Goals as goal

pub returns-clause-added : goal.returns-clause-added
returns-clause-added c =
    let old = c.args.self.now in
    let next = draft_view c.add_line.new.self in
    let b = c.in_ok-note_line.field-0 in
    let read : add_line Letters c.args.at (draft_view old.draft) c.args.line.now ≡ Some next = sym c.in_ok-add_line.ensures ∙ ap (λ (d : Bool). cond d (Some next) None) c.if-not-branch.false in
    let states : c.len-states.result ≡ length old.draft.outputs.items = c.len-states.ensures ∙ old.draft.outputs.ok.0 in
    let lines : c.len-lines.result ≡ length (draft_view old.draft).lines = c.len-lines.ensures ∙ old.draft.lines.ok.0 ∙ sym (length-map old.draft.lines.items draft_line_view) in
    let systems : are_of_systems next.header ≡ true = sym c.are_systems.ensures ∙ c.if-not-are_systems.false in
    let word : is_word next ≡ b = line_added (draft_view old.draft) (transitions_in old.last.list.items) old.last.tables.items c.requires c.args.at next c.args.line.now c.len-states.result c.len-lines.result b read states lines systems c.in_ok-note_line.ensures.agrees in
    ap (λ (d : DraftRead). cond b (Some (draft_view d)) None) c.in_ok-note_line.ensures.draft ∙ add_word_line-is c.args.at (draft_view old.draft) next c.args.line.now b read word

pub returns-clause-prefix : goal.returns-clause-prefix
returns-clause-prefix c all_agree =
    let old = c.args.self.now in
    let next = draft_view c.add_line.new.self in
    let b = c.in_ok-note_line.field-0 in
    let new = c.note_line.new.self.last in
    let read : add_line Letters c.args.at (draft_view old.draft) c.args.line.now ≡ Some next = sym c.in_ok-add_line.ensures ∙ ap (λ (d : Bool). cond d (Some next) None) c.if-not-branch.false in
    let states : c.len-states.result ≡ length old.draft.outputs.items = c.len-states.ensures ∙ old.draft.outputs.ok.0 in
    let lines : c.len-lines.result ≡ length (draft_view old.draft).lines = c.len-lines.ensures ∙ old.draft.lines.ok.0 ∙ sym (length-map old.draft.lines.items draft_line_view) in
    let systems : are_of_systems next.header ≡ true = sym c.are_systems.ensures ∙ c.if-not-are_systems.false in
    let word : is_word next ≡ b = line_added (draft_view old.draft) (transitions_in old.last.list.items) old.last.tables.items c.requires c.args.at next c.args.line.now c.len-states.result c.len-lines.result b read states lines systems c.in_ok-note_line.ensures.agrees in
    subst (λ (d : DraftRead). IsReading (draft_view d) (transitions_in new.list.items) new.tables.items) (sym c.in_ok-note_line.ensures.draft)
    (IsReading-next (draft_view old.draft) (transitions_in old.last.list.items) old.last.tables.items c.requires c.args.at next c.args.line.now c.len-states.result c.len-lines.result (transitions_in new.list.items) new.tables.items read states lines
    (word ∙ all_agree) (c.in_ok-note_line.ensures.list all_agree) (c.in_ok-note_line.ensures.indexed all_agree))
