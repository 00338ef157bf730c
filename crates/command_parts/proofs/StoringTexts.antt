-- A text of an entry is stored, or is too long.
use Rattle.std.proofs.Common.{◌≡◌, ℕ, Bool, true, false, List, [], ◌++◌, Option, None, Result, Ok, Err, refl, sym, ap, ◌∙◌, subst, append-nil}
use Rattle.wal_outside.specs.declared.folder.Folder.{Folder}
use Rattle.definitions.specs.Texts.{HasText}
use Rattle.system_files.specs.SystemFiles.{Custom}
use Rattle.word_output.specs.Words.{WordValue}
use Rattle.command_parts.specs.declared.fault.Fault.{Fault}
use Rattle.command_parts.specs.declared.fault.Fault.TheVariants as faults
use Rattle.command_parts.specs.declared.file_change.Made.{Made}
use Rattle.command_parts.specs.Accepting.{Success, stored}
use Rattle.command_parts.specs.Checks.{Fails}
use Rattle.command_parts.specs.Lines.{shown_steps, verdict_line}
use Rattle.command_parts.specs.FileChanges.{Makes}
use Rattle.command_parts.specs.TextChanges.{IsTextRefused, StoresText}
use Rattle.command_parts.specs.WordPrinting.{HasNoWordText, Keeps, named_text}
use Rattle.command_parts.proofs.TextCheckNames.{text_success}

nothing_shown : (shown : Bool) → [] ≡ shown_steps shown [] ++ []
nothing_shown true = refl
nothing_shown false = refl

-- a text of an entry that is too long refuses the command
pub unstored : (custom : Custom) (made : Success) (text : List ℕ) (fault : Fault) → HasText custom made.entry text → IsTextRefused text fault → Fails (stored custom made) fault
unstored custom made text (faults.Refused refusal) has (is, long) = (is, (text, has, long))
unstored custom made text faults.Memory has refused = tt
unstored custom made text (faults.Store folder of) has refused = absurd refused

-- bytes that are stored as they are
pub text_stored : (custom : Custom) (folder : Folder) (name bytes : List ℕ) (shown : Bool) (result : Result Made Fault) → StoresText bytes result → Makes custom (stored custom (text_success folder name bytes)) shown result
text_stored custom folder name bytes shown (Ok made) is = record {
  success = text_success folder name bytes;
  answers = (refl, (bytes, refl, is.fits));
  has_text = is.stored_is;
  printed_is = is.printed_is ∙ nothing_shown shown;
}
text_stored custom folder name bytes shown (Err fault) refused = unstored custom (text_success folder name bytes) bytes fault refl refused

-- a word whose text is too long
pub word_refused : (names : List (List ℕ)) (v : WordValue) (fault : Fault) → HasNoWordText names v fault → IsTextRefused (named_text names v) fault
word_refused names v (faults.Refused refusal) refused = refused
word_refused names v faults.Memory refused = tt
word_refused names v (faults.Store folder of) refused = absurd refused

-- the text of a word that is the text of the entry is stored, or it is too long
pub kept_text : (custom : Custom) (success : Success) (names : List (List ℕ)) (word : WordValue) (shown : Bool) (result : Result Made Fault) → success.verdict ≡ None → HasText custom success.entry (named_text names word) → Keeps names word shown success.lines result
    → Makes custom (stored custom success) shown result
kept_text custom success names word shown (Ok made) none has k = record {
  success = success;
  answers = (refl, (made.stored.items, own, k.text.1));
  has_text = own;
  printed_is = k.printed ∙ (sym (append-nil (shown_steps shown success.lines)) ∙ ap (λ (verdict : Option Bool). shown_steps shown success.lines ++ verdict_line verdict) (sym none));
}
  where
    own : HasText custom success.entry made.stored.items
    own = subst (HasText custom success.entry) (sym k.text.0) has
kept_text custom success names word shown (Err fault) none has refused = unstored custom success (named_text names word) fault has (word_refused names word fault refused)
