-- The lines of the state that was listed last, among all lines.
use Rattle.std.proofs.Common.{◌≡◌, ℕ, ◌+◌, ◌<◌, Bool, ◌&&◌, ◌||◌, true, false, cond, List, [], ◌∷◌, ◌++◌, length, take, drop, None, Some, IfOk, IsTrue, Result, Ok, Err, refl, sym, ap, ◌∙◌, subst, true≢false, arith}
use Rattle.std.specs.List.{All, list_any}
use Rattle.std.proofs.lemmas.Bool.{eq-eqb, ne_eqb}
use Rattle.std.proofs.lemmas.List.{length_push, take-append-drop, take-append-le, drop-append-le}
use Rattle.std.proofs.lemmas.List.Elements.{All-head, All-tail, All-weaker, All-push}
use Rattle.std.proofs.lemmas.List.Folds.{list_any-append, list_any_none}
use Rattle.transducer_reading.specs.declared.draft.Draft.{Draft as DraftRead}
use Rattle.transducer_reading.specs.declared.results.Results.{Results}
use Rattle.transducer_reading.specs.declared.transducer.TransducerLine.{TransducerLine}
use Rattle.transducer_reading.specs.Entries.{Entry}
use Rattle.transducer_reading.specs.Reading.{Draft, with_line, are_in_conflict, has_conflict, add_line_of, add_entry}
use Rattle.transducer_reading.specs.LastResults.{AreResults, clashes}
use Rattle.transducer_reading.specs.Drafts.{draft_view, IsDraft, IsLast, IsLastKept, IsReading}

abbrev FileLine : Type 0
FileLine = ℕ × TransducerLine

module _ (numbers : List ℕ) (lines : List FileLine) (first : ℕ) (results : Results) (is : IsLast numbers lines first results) where
  -- a line of the state was read
  pub last-line : (at : ℕ) (line : TransducerLine) (next : Results) → line.state + 1 ≡ length numbers → AreResults (drop first lines ++ (at, line) ∷ []) next → IsLast numbers (lines ++ (at, line) ∷ []) first next
  last-line at line next state more = record {
    within = omega (arith, is.within, length_push lines (at, line));
    earlier = subst (All (λ (l : FileLine). l.1.state + 1 < length numbers)) (sym (take-append-le first lines ((at, line) ∷ []) is.within)) is.earlier;
    own = subst (All (λ (l : FileLine). l.1.state + 1 ≡ length numbers)) (sym (drop-append-le first lines ((at, line) ∷ []) is.within))
        (All-push (λ (l : FileLine). l.1.state + 1 ≡ length numbers) (drop first lines) (at, line) is.own state);
    results_are = subst (λ (ls : List FileLine). AreResults ls next) (sym (drop-append-le first lines ((at, line) ∷ []) is.within)) more;
  }

  -- only the lines of the state can be in conflict with a further one
  same_state : (line : TransducerLine) (ls : List FileLine) → All (λ (l : FileLine). line.state ≡ l.1.state) ls → list_any (λ (other : FileLine). are_in_conflict line other.1) ls ≡ list_any (clashes line) ls
  same_state line [] each = refl
  same_state line (x ∷ ls) each =
      ap (λ b. (b && clashes line x) || list_any (λ (other : FileLine). are_in_conflict line other.1) ls) (eq-eqb line.state x.1.state (All-head (λ (l : FileLine). line.state ≡ l.1.state) x ls each))
      ∙ ap (λ b. clashes line x || b) (same_state line ls (All-tail (λ (l : FileLine). line.state ≡ l.1.state) x ls each))

  pub last-conflict : (line : TransducerLine) → line.state + 1 ≡ length numbers → has_conflict lines line ≡ list_any (clashes line) (drop first lines)
  last-conflict line state =
      ap (λ (ls : List FileLine). list_any (λ (other : FileLine). are_in_conflict line other.1) ls) (sym (take-append-drop first lines))
      ∙ list_any-append (λ (other : FileLine). are_in_conflict line other.1) (take first lines) (drop first lines)
      ∙ ap (λ b. b || list_any (λ (other : FileLine). are_in_conflict line other.1) (drop first lines))
      (list_any_none (λ (other : FileLine). are_in_conflict line other.1) (take first lines)
      (All-weaker (λ (l : FileLine). l.1.state + 1 < length numbers) (λ (l : FileLine). are_in_conflict line l.1 ≡ false)
      (λ x h. ap (λ b. b && clashes line x) (ne_eqb line.state x.1.state (λ e. omega (arith, h, state)))) (take first lines) is.earlier))
      ∙ same_state line (drop first lines) (All-weaker (λ (l : FileLine). l.1.state + 1 ≡ length numbers) (λ (l : FileLine). line.state ≡ l.1.state) (λ x h. omega (arith, h, state)) (drop first lines) is.own)

-- what a further line makes
module _ (at : ℕ) (draft : Draft) (line : TransducerLine) where
  add-by : (conflict : Bool) → (length draft.numbers ≡ 0 → ⊥) → has_conflict draft.lines line ≡ conflict → cond conflict None (Some (with_line at draft line)) ≡ add_line_of at draft line
  add-by conflict some is =
      sym (ap (λ b. cond b None (cond (has_conflict draft.lines line) None (Some (with_line at draft line)))) (ne_eqb (length draft.numbers) 0 some) ∙ ap (λ b. cond b None (Some (with_line at draft line))) is)

  pub add-conflict : (length draft.numbers ≡ 0 → ⊥) → has_conflict draft.lines line ≡ true → None ≡ add_line_of at draft line
  add-conflict some is = add-by true some is

  pub add-alone : (length draft.numbers ≡ 0 → ⊥) → has_conflict draft.lines line ≡ false → Some (with_line at draft line) ≡ add_line_of at draft line
  add-alone some is = add-by false some is

-- a line of the file that was added leaves what holds of each reader
pub reading_kept : {E : Type 0} (result : Result Bool E) (d : DraftRead) (at : ℕ) (draft : Draft) (entry : Entry) → ((next : Draft) → add_entry at draft entry ≡ Some next → IsDraft next)
    → IfOk result (λ added. cond added (Some (draft_view d)) None ≡ add_entry at draft entry) → IfOk result (λ added. IsTrue added → IsLastKept d) → IfOk result (λ added. IsTrue added → IsReading d)
reading_kept (Ok true) d at draft entry kept is last = λ added. record { draft_is = kept (draft_view d) (sym is); last = last added }
reading_kept (Ok false) d at draft entry kept is last = λ added. absurd (true≢false (sym added))
reading_kept (Err fault) d at draft entry kept is last = tt
