use Rattle.std.proofs.Common.{length}
use Rattle.command_head.specs.Parts.{parts_of, texts_of}
use Rattle.command_head.specs.Heads.{AtWord, reg_at}
use Rattle.command_head.proofs.Walks.{run_goes, goes_run}
use Rattle.command_head.proofs.ReadHeads.{reg_derived}
use Rattle.command_head.proofs.DerivedHeads.{reg_goes}
use Rattle.command_head.proofs.laws.reads_grammar.Goals as goal

pub returns : goal.returns
unfolding reg_at
returns c text head = (
  λ h. reg_derived (texts_of (parts_of text)) head (run_goes (length text) AtWord (parts_of text) head h),
  λ s. goes_run (length text) AtWord (parts_of text) head (reg_goes (texts_of (parts_of text)) head s),
)
