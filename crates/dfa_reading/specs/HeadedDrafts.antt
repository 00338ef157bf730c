-- What was read of the file of a user's system so far. Nobody has to believe this: it serves the reader of such files.
use Rattle.std.specs.Prelude.{◌≡◌, true}
use Rattle.dfa_reading.specs.Reading.{IsDraft}
use Rattle.dfa_reading.specs.SystemFiles.{is_headed, may_head}
use Rattle.dfa_reading.specs.DraftViews.{draft_view}
use Rattle.dfa_reading.specs.declared.headed_draft.HeadedDraft.{HeadedDraft}

-- what was read is the prefix of a file of this part of a system
pub record IsHeadedReader (d : HeadedDraft) : Type 0 where
  pub draft_is : IsDraft (draft_view d.draft)
  pub headed : is_headed (may_head d.part) (draft_view d.draft).header ≡ true
