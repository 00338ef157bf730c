-- What was made is right wherever the text is the same, and is right when it is found again.
use Rattle.std.proofs.Common.{◌≡◌, ℕ, ◌+◌, ◌<◌, ◌≤◌, Bool, true, false, if◌then◌else◌, List, [], ◌∷◌, ◌++◌, drop, length, map, get_or, Result, Ok, Err, inr, refl, sym, ap, ◌∙◌, subst, arith}
use Rattle.std.specs.Rc.{rc_value}
use Rattle.std.proofs.lemmas.List.{length-append}
use Rattle.digit_tuple.specs.Steps.{StepLog, with_lines}
use Rattle.digit_tuple.specs.declared.step_fault.StepFault.{StepFault}
use Rattle.digit_tuple.specs.declared.steps.StepLine.{StepLine}
use Rattle.digit_tuple.proofs.DecisionLemmas.{all_push}
use Rattle.digit_tuple.proofs.JoinedReads.{all_at}
use Rattle.dfa_reading.specs.Listed.{Listed}
use Rattle.dfa_reading.specs.Reading.{relation_of}
use Rattle.dfa_reading.specs.WordFiles.{word_of}
use Rattle.num_system.specs.Sealed.{SystemValue}
use Rattle.number_relations.specs.Relations.{RelationValue}
use Rattle.word_output.specs.WordReadings.{DoesWord}
use Rattle.word_output.specs.Words.{WordValue}
use Rattle.definitions.specs.TableSteps.{DoesTable}
use Rattle.kept_tables.specs.KeptTables.{IsSourceOf, IsRightRelation, IsRightWord, AreRight, IsWordOf, IsNotMade}
use Rattle.kept_tables.specs.declared.kept_tables.KeptRelation.{KeptRelation}
use Rattle.kept_tables.specs.declared.kept_tables.KeptWord.{KeptWord}
use Rattle.kept_tables.specs.declared.source.Source.{Source}
use Rattle.step_lines.proofs.ShiftedSteps.{Shifts}
use Rattle.kept_tables.proofs.TableShifts.{table_shifts, word_shifts}

drop-prefix : (first more : List StepLine) → drop (length first) (first ++ more) ≡ more
drop-prefix [] more = refl
drop-prefix (line ∷ first) more = drop-prefix first more

-- the lines after the first are those that were added
lines_added : (old new : StepLog) (lines kept : List StepLine) → new ≡ with_lines old lines → kept ≡ drop (length old.lines) new.lines → lines ≡ kept
lines_added old new lines kept new_is kept_is =
    let lines_are : new.lines ≡ old.lines ++ lines = ap (λ (log : StepLog). log.lines) new_is in
    sym (kept_is ∙ (ap (λ (all : List StepLine). drop (length old.lines) all) lines_are ∙ drop-prefix old.lines lines))

module _ {A E : Type 0} (does : List SystemValue → Listed → StepLog → Result A E → StepLog → Type 0) (shifts : (systems : List SystemValue) (listed : Listed) → Shifts (does systems listed)) where
  -- what was made once is made after any steps
  made_again : (systems : List SystemValue) (listed : Listed) (old new : StepLog) (made : A) (lines : List StepLine) → does systems listed old (Ok made) new → lines ≡ drop (length old.lines) new.lines
      → (other : StepLog) → other.limit ≡ new.limit → does systems listed other (Ok made) (with_lines other lines)
  made_again systems listed old new made lines done lines_are other limit =
      let by = shifts systems listed old new made done in
      let kept : new.limit ≡ old.limit = ap (λ (log : StepLog). log.limit) by.new_is in
      subst (λ (ls : List StepLine). does systems listed other (Ok made) (with_lines other ls)) (lines_added old new by.lines lines by.new_is lines_are) (by.shift other (limit ∙ kept))

  -- by what the text lists, wherever that is its text, over the same systems
  made_by : (reads : List ℕ → Result Listed ℕ) (text : List ℕ) (systems : List SystemValue) (listed : Listed) (old new : StepLog) (made : A) (source : Source) → reads text ≡ Ok listed → does systems listed old (Ok made) new
      → IsSourceOf text systems new (length old.lines) source → (other : Listed) (log : StepLog) → reads source.text ≡ Ok other → log.limit ≡ source.limit
      → does (map rc_value source.systems.items) other log (Ok made) (with_lines log source.lines.items)
  made_by reads text systems listed old new made source read done is other log also limit =
      let same : listed ≡ other = let e : Ok listed ≡ Ok other = sym read ∙ (ap reads (sym is.made_of.text_is) ∙ also) in cc in
      let again = made_again systems listed old new made source.lines.items done is.lines_are log (limit ∙ is.made_of.limit_is) in
      subst (λ (l : Listed). does (map rc_value source.systems.items) l log (Ok made) (with_lines log source.lines.items)) same
      (subst (λ (ss : List SystemValue). does ss listed log (Ok made) (with_lines log source.lines.items)) (sym is.made_of.systems_are) again)

pub relation_right : (text : List ℕ) (systems : List SystemValue) (listed : Listed) (old new : StepLog) (r : RelationValue) (source : Source) → relation_of text ≡ Ok listed → DoesTable systems listed old (Ok r) new
    → IsSourceOf text systems new (length old.lines) source → IsRightRelation source r
relation_right text systems listed old new r source read done is = made_by DoesTable table_shifts relation_of text systems listed old new r source read done is

pub word_right : (text : List ℕ) (systems : List SystemValue) (listed : Listed) (old new : StepLog) (w : WordValue) (source : Source) → word_of text ≡ Ok listed → DoesWord systems listed old (Ok w) new
    → IsSourceOf text systems new (length old.lines) source → IsRightWord source w
word_right text systems listed old new w source read done is = made_by DoesWord word_shifts word_of text systems listed old new w source read done is

-- steps are added after others
pub relation_longer : (systems : List SystemValue) (listed : Listed) (old new : StepLog) (r : RelationValue) → DoesTable systems listed old (Ok r) new → length old.lines ≤ length new.lines
relation_longer systems listed old new r done =
    let by = table_shifts systems listed old new r done in
    let lines_are : new.lines ≡ old.lines ++ by.lines = ap (λ (log : StepLog). log.lines) by.new_is in
    omega (arith, ap (λ (lines : List StepLine). length lines) lines_are, length-append old.lines by.lines)

pub word_longer : (systems : List SystemValue) (listed : Listed) (old new : StepLog) (w : WordValue) → DoesWord systems listed old (Ok w) new → length old.lines ≤ length new.lines
word_longer systems listed old new w done =
    let by = word_shifts systems listed old new w done in
    let lines_are : new.lines ≡ old.lines ++ by.lines = ap (λ (log : StepLog). log.lines) by.new_is in
    omega (arith, ap (λ (lines : List StepLine). length lines) lines_are, length-append old.lines by.lines)

-- what is found again is made by the next steps
pub word_found : (source : Source) (w : WordValue) (text : List ℕ) (systems : List SystemValue) (listed : Listed) (old new : StepLog) → word_of text ≡ Ok listed → IsWordOf source w text systems old.limit
    → new ≡ with_lines old source.lines.items → DoesWord systems listed old (Ok w) new
word_found source w text systems listed old new read is new_is =
    let made = is.is_right listed old (ap word_of is.made_of.text_is ∙ read) (sym is.made_of.limit_is) in
    subst (DoesWord systems listed old (Ok w)) (sym new_is) (subst (λ (ss : List SystemValue). DoesWord ss listed old (Ok w) (with_lines old source.lines.items)) is.made_of.systems_are made)

-- where no line was added before, the steps of a word are the next ones
pub word_next : (systems : List SystemValue) (listed : Listed) (old mid new : StepLog) (w v : WordValue) → mid ≡ old → v ≡ w → DoesWord systems listed mid (Ok w) new → DoesWord systems listed old (Ok v) new
word_next systems listed old mid new w v same is done = subst (λ (x : WordValue). DoesWord systems listed old (Ok x) new) (sym is) (subst (λ (o : StepLog). DoesWord systems listed o (Ok w) new) same done)

pub word_refused : (systems : List SystemValue) (listed : Listed) (old mid new : StepLog) (fault : StepFault) → mid ≡ old → DoesWord systems listed mid (Err fault) new → IsNotMade (DoesWord systems listed) old fault new
word_refused systems listed old mid new fault same refused = inr (subst (λ (o : StepLog). DoesWord systems listed o (Err fault) new) same refused)

module _ (relations : List KeptRelation) (words : List KeptWord) (are : AreRight relations words) where
  -- one more is kept, if there is room and memory for it
  pub relation_pushed : (k : KeptRelation) (more : List KeptRelation) (pushed : Bool) → length relations + length words < 256 → IsRightRelation k.source k.relation.value → more ≡ (if pushed then relations ++ k ∷ [] else relations) → AreRight more words
  relation_pushed k more true room right is = subst (λ (rs : List KeptRelation). AreRight rs words) (sym is) (record {
    few = omega (arith, room, length-append relations (k ∷ []));
    relations_are = all_push (λ (r : KeptRelation). IsRightRelation r.source r.relation.value) relations k are.relations_are right;
    words_are = are.words_are;
  })
  relation_pushed k more false room right is = subst (λ (rs : List KeptRelation). AreRight rs words) (sym is) are

  pub word_pushed : (k : KeptWord) (more : List KeptWord) (pushed : Bool) → length relations + length words < 256 → IsRightWord k.source k.word.value → more ≡ (if pushed then words ++ k ∷ [] else words) → AreRight relations more
  word_pushed k more true room right is = subst (λ (ws : List KeptWord). AreRight relations ws) (sym is) (record {
    few = omega (arith, room, length-append words (k ∷ []));
    relations_are = are.relations_are;
    words_are = all_push (λ (w : KeptWord). IsRightWord w.source w.word.value) words k are.words_are right;
  })
  word_pushed k more false room right is = subst (λ (ws : List KeptWord). AreRight relations ws) (sym is) are

  -- and each that is kept
  pub word_at : (i : ℕ) (k : KeptWord) → i < length words → k ≡ get_or words i k → IsRightWord k.source k.word.value
  word_at i k within is = subst (λ (w : KeptWord). IsRightWord w.source w.word.value) (sym is) (all_at (λ (w : KeptWord). IsRightWord w.source w.word.value) words i k are.words_are within)
