-- What a sink holds after bytes were handed to it.
use Rattle.std.specs.Prelude.{◌≡◌, ◌≢◌, ℕ, List, [], ◌++◌, Option, None, Some, Result, Ok, Err, ⊤}
use Rattle.wal_outside.specs.declared.sink.WriteFault.{WriteFault}
use Rattle.wal_outside.specs.Causes.{CountsFault, is_failed}
use Rattle.wal_outside.specs.Views.{SinkView}

-- a prefix of a text, and not all of it
pub record IsProperPrefix (prefix text : List ℕ) : Type 0 where
  pub rest : List ℕ
  pub some : rest ≢ []
  pub split : text ≡ prefix ++ rest

-- a sink that says what it holds has all of the text more, or where a call failed a part of it; no call is made for no bytes, so none fails
unfoldable pub Grows : Option (List ℕ) → Option (List ℕ) → List ℕ → Result (Unit {0}) WriteFault → Type 0
Grows None new text (Ok _) = ⊤
Grows None new text (Err _) = text ≢ []
Grows (Some held) new text (Ok _) = new ≡ Some (held ++ text)
Grows (Some held) new text (Err _) = (prefix : List ℕ) × IsProperPrefix prefix text × (new ≡ Some (held ++ prefix))

-- A text was handed to a sink. The count of faults rises where a call failed, and else it stays.
pub record Sends (old : SinkView) (text : List ℕ) (result : Result (Unit {0}) WriteFault) (new : SinkView) : Type 0 where
  pub held : Grows old.held new.held text result
  pub faults : CountsFault (is_failed result) old.faults new.faults

-- all of the text was handed over
abbrev pub HasSent : SinkView → List ℕ → SinkView → Type 0
HasSent old text new = Sends old text (Ok tt) new
