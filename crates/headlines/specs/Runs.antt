-- The answers of a run in their order, each with what was printed of it.
use Rattle.std.specs.Prelude.{◌≡◌, ℕ, List, [], ◌++◌, Some, ⊤}
use Rattle.wal_outside.specs.Views.{SinkView}
use Rattle.script_cut.specs.Cuts.{Item, Rest, start, Next}

-- a command, or what a script has in place of one, and all that was printed of it
pub record Answer : Type 0 where
  pub item : Item
  pub line : List ℕ

-- the answers of a text, one after another, each before those of the text that it loaded
pub data Answers : Type 0 where
  none : Answers
  answer : Answer → Answers → Answers → Answers

-- The items of the answers are those of a text from a place on, in their order, as scripts are cut. Those of a text that was loaded are its own.
abbrev pub AreIn : Rest → Answers → Type 0
AreIn place none = ⊤
AreIn place (answer first inside following) =
    (after : Rest) × Next place first.item after × ((loaded : List ℕ) × AreIn (start loaded) inside) × ((room : ℕ) × AreIn (record after { room = room }) following)

-- what was printed of them
abbrev pub lines_of : Answers → List ℕ
lines_of none = []
lines_of (answer first inside following) = first.line ++ (lines_of inside ++ lines_of following)

-- All was printed, or a prefix of it, after what the sink held before.
pub record ArePrinted (answers : Answers) (held now : SinkView) : Type 0 where
  pub printed : List ℕ
  pub rest : List ℕ
  pub split : lines_of answers ≡ printed ++ rest
  pub sent : (before : List ℕ) → held.held ≡ Some before → now.held ≡ Some (before ++ printed)

-- each answer has the property
abbrev pub Each : (Answer → Type 0) → Answers → Type 0
Each P none = ⊤
Each P (answer first inside following) = P first × Each P inside × Each P following

-- Each answer has the property with what is known before it and after it. What is known after one is known before the next.
abbrev pub EachBy : {L : Type 0} → (L → Answer → L → Type 0) → L → Answers → L → Type 0
EachBy P known none last = last ≡ known
EachBy {L} P known (answer first inside following) last = (next : L) × (mid : L) × P known first next × EachBy P next inside mid × EachBy P mid following last
