use Rattle.std.proofs.Common.{◌≡◌, ℕ, Bool, true, false, cond, List, None, Some, Result, Ok, Err, IfOk, IsTrue, sym, true≢false}
use Rattle.dfa_reading.specs.declared.outputs.Outputs.TheVariants.{Numbers}
use Rattle.dfa_reading.specs.Reading.{Draft, add_line, IsDraft}
use Rattle.dfa_reading.specs.DraftViews.{draft_view}
use Rattle.dfa_reading.proofs.Drafts.{line_read-kept}
use Rattle.dfa_reading.proofs.draft.DraftLineReader.add_line.Goals as goal

-- a line that was added keeps what holds of each draft
kept : {E : Type 0} (result : Result Bool E) (at : ℕ) (draft next : Draft) (line : List ℕ) → IfOk result (λ added. cond added (Some next) None ≡ add_line Numbers at draft line) → IsDraft draft → IfOk result (λ added. IsTrue added → IsDraft next)
kept (Ok true) at draft next line h is = λ added. line_read-kept Numbers at draft next line (sym h) is
kept (Ok false) at draft next line h is = λ added. absurd (true≢false (sym added))
kept (Err fault) at draft next line h is = tt

pub returns-clause-prefix : goal.returns-clause-prefix
returns-clause-prefix c = kept c.add_line.result c.args.at (draft_view c.args.self.now) (draft_view c.add_line.new.self) c.args.line.now c.add_line.ensures c.requires
