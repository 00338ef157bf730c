-- What one call of a cutter gives.
use Rattle.std.specs.Prelude.{◌≡◌, ◌≢◌, ℕ, ◌+◌, ◌<◌, ◌≤◌, Bool, true, false, if◌then◌else◌, List, [], ◌++◌, length, Option, None, Some, Result, Ok, Err, ⊤}
use Rattle.std.specs.List.{concat}
use Rattle.std.specs.Io.KnownBytes.{IsAtEnd as HasGivenAll}
use Rattle.wal_outside.specs.Views.{SourceView}
use Rattle.script_cut.specs.Asking.{Gives, AreAsked}
use Rattle.script_cut.specs.Cuts.{Ended, Terminated, Unterminated, PastLimit, Rest, Next, IsAtEnd, HasNoCommand}
use Rattle.script_cut.specs.Kept.{Kept}
use Rattle.script_cut.specs.declared.cut.Cut.{Cut}
use Rattle.script_cut.specs.declared.cut.Cut.TheVariants as cuts
use Rattle.script_cut.specs.declared.cut.CutFault.{CutFault}
use Rattle.script_cut.specs.declared.cut.CutFault.TheVariants as faults

-- Where a cutter is in the script, if these bytes are still to come: what it holds is left, and then they are. Once the source has ended
-- nothing is left.
abbrev pub place_of : Kept → List ℕ → Rest
place_of kept more = record { left = if kept.over then [] else kept.held ++ more; room = kept.room; line = kept.line }

-- these bytes may still come: all that the source reports, any where it reports nothing, and none after its end
abbrev pub MayCome : Bool → Option (List ℕ) → List ℕ → Type 0
MayCome true was more = more ≡ []
MayCome false None more = ⊤
MayCome false (Some left) more = more ≡ left

-- what is answered of the next item
abbrev pub GivesItem : Rest → Result Cut CutFault → Rest → Type 0
GivesItem old (Ok (cuts.Command text shown line)) new =
    Next old (record { text = text.items; line = line; ended = Terminated shown }) new × (length text.items ≤ 65536)
GivesItem old (Ok cuts.End) new = IsAtEnd old
GivesItem old (Err (faults.Syntax line len)) new =
    (text : List ℕ) × Next old (record { text = text; line = line; ended = Unterminated }) new × (len ≡ length text) × (len ≤ 65536)
GivesItem old (Err (faults.Long line)) new =
    (text : List ℕ) × (ended : Ended) × Next old (record { text = text; line = line; ended = ended }) new × (65536 < length text)
GivesItem old (Err (faults.ScriptLimit line)) new =
    (last : Rest) × Next old (record { text = []; line = line; ended = PastLimit }) last
GivesItem old (Err faults.Failed) new = ⊤
GivesItem old (Err faults.Memory) new = ⊤

-- the source failed: all that was held and given may be passed, and no command has its terminator in it
pub record HasFailed (old : Kept) (given : List ℕ) : Type 0 where
  pub none : HasNoCommand (old.held ++ given)
  pub within : length (old.held ++ given) ≤ old.room

-- One call. The source gave pieces, each in a call of its own. Whatever comes after the bytes that were held and those that were given, the
-- item is the next one of all these bytes, and what is left is what follows it. Each call of the source but the last gave bytes, and before
-- the last one no command had its terminator in what was held and given; so no call is made once a whole command is there or the source has
-- ended. Where calls are made, at most one byte past those that may be passed is held and given; and with each byte that is passed one less
-- may be.
pub record HasCut (old : Kept) (was : SourceView) (result : Result Cut CutFault) (new : Kept) (now : SourceView) : Type 0 where
  pub pieces : List (List ℕ)
  pub given : Gives was pieces now
  pub asked : AreAsked HasNoCommand old.held pieces
  pub within : pieces ≢ [] → length (old.held ++ concat pieces) ≤ old.room + 1
  pub room : new.room + length (old.held ++ concat pieces) ≡ old.room + length new.held
  pub ended : old.over ≡ false → new.over ≡ true → HasGivenAll now.left
  pub item : (more : List ℕ) → MayCome new.over now.left more → GivesItem (place_of old (concat pieces ++ more)) result (place_of new more)
  pub failed : result ≡ Err faults.Failed → HasFailed old (concat pieces)

-- the answers with which a script has ended, and none other
abbrev pub EndsScript : Result Cut CutFault → Kept → Type 0
EndsScript (Ok cuts.End) new = new.over ≡ true
EndsScript (Err (faults.Syntax line len)) new = new.over ≡ true
EndsScript (Ok (cuts.Command text shown line)) new = ⊤
EndsScript (Err (faults.Long line)) new = ⊤
EndsScript (Err (faults.ScriptLimit line)) new = ⊤
EndsScript (Err faults.Failed) new = ⊤
EndsScript (Err faults.Memory) new = ⊤
