use Rattle.std.proofs.Common.{◌≡◌, Bool, true, None, Some, IsSome, Option, is_some, cond, sym, ap, ◌∙◌}
use Rattle.std.specs.Prelude.{option_map}
use Rattle.dfa_reading.specs.declared.outputs.Outputs.TheVariants.{Numbers}
use Rattle.dfa_reading.specs.Reading.{add_line}
use Rattle.dfa_reading.specs.HeaderViews.{header_view}
use Rattle.dfa_reading.specs.declared.header.FileHeader.{FileHeader}
use Rattle.dfa_reading.specs.DraftViews.{draft_view}
use Rattle.dfa_reading.specs.SystemFiles.{may_head, is_headed}
use Rattle.dfa_reading.proofs.Drafts.{line_read-kept}
use Rattle.dfa_reading.proofs.SystemHeaders.{headed_added, headed_still}
use Rattle.dfa_reading.proofs.headed_draft.HeadedDraftLineReader.add_line.Goals as goal
use Rattle.dfa_reading.proofs.headed_draft.HeadedDraftLineReader.add_line.Goals.{Then-headed}

-- a header that the code has read is one that was read
some_view : (o : Option FileHeader) → is_some o ≡ true → IsSome (option_map header_view o)
some_view None some = some
some_view (Some header) some = some

read_line : (c : Then-headed) → add_line Numbers c.args.at (draft_view c.args.self.now.draft) c.args.line.now ≡ Some (draft_view c.add_line.new.self)
read_line c = sym c.in_ok-add_line.ensures ∙ ap (λ (d : Bool). cond d (Some (draft_view c.add_line.new.self)) None) c.if-not-branch.false

still : (c : Then-headed) → is_headed (may_head c.args.self.now.part) (draft_view c.add_line.new.self).header ≡ true
still c =
    headed_still (may_head c.args.self.now.part) c.args.at (draft_view c.args.self.now.draft) (draft_view c.add_line.new.self) c.args.line.now (read_line c)
    (some_view c.args.self.now.draft.header (sym c.is_some-headed.ensures ∙ c.if-headed.true)) c.requires.headed

pub returns-then-headed-clause-added : goal.returns-then-headed-clause-added
returns-then-headed-clause-added c =
    ap (λ (b : Bool). cond b (Some (draft_view c.add_line.new.self)) None) c.if-headed.true
    ∙ headed_added (may_head c.args.self.now.part) c.args.at (draft_view c.args.self.now.draft) (draft_view c.add_line.new.self) c.args.line.now true (read_line c) (still c)

pub returns-then-headed-clause-prefix : goal.returns-then-headed-clause-prefix
returns-then-headed-clause-prefix c added = record {
  draft_is = line_read-kept Numbers c.args.at (draft_view c.args.self.now.draft) (draft_view c.add_line.new.self) c.args.line.now (read_line c) c.requires.draft_is;
  headed = still c;
}

pub returns-else-headed-clause-prefix : goal.returns-else-headed-clause-prefix
returns-else-headed-clause-prefix c added = record {
  draft_is = line_read-kept Numbers c.args.at (draft_view c.args.self.now.draft) (draft_view c.add_line.new.self) c.args.line.now
      (sym c.in_ok-add_line.ensures ∙ ap (λ (d : Bool). cond d (Some (draft_view c.add_line.new.self)) None) c.if-not-branch.false) c.requires.draft_is;
  headed = sym c.heads.ensures ∙ added;
}
