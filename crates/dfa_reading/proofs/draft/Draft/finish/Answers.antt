use Rattle.std.proofs.Common.{ap}
use Rattle.std.specs.Prelude.{option_map}
use Rattle.dfa_reading.specs.HeaderViews.{header_view}
use Rattle.dfa_reading.specs.LineViews.{lines_in}
use Rattle.dfa_reading.specs.DraftViews.{draft_view}
use Rattle.dfa_reading.proofs.Drafts.{IsListed-placed}
use Rattle.dfa_reading.proofs.draft.Draft.finish.Goals as goal

pub new-requires : goal.new-requires
new-requires c = IsListed-placed (draft_view c.args.self) (header_view c.in-Some.header) (lines_in c.in_ok-lines.lines.items) (ap (option_map header_view) c.in-Some.is) c.in_ok-lines.ensures c.requires
