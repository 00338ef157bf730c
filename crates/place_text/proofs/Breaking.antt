-- Where a text first breaks the grammar of places, and the fault there.
use Rattle.std.proofs.Common.{◌≡◌, ℕ, ◌+◌, Bool, true, false, List, [], ◌∷◌, ◌++◌, length, take, append_assoc, append-nil, Option, None, Some, Err, refl, sym, ◌∙◌, ap, subst, ℤ, pos, arith}
use Rattle.std.specs.Prelude.{slice_get}
use Rattle.std.specs.Bool.{MatchBool}
use Rattle.std.proofs.lemmas.List.{map-append, length-append, length-map}
use Rattle.std.proofs.Math.Seq.{take-append_seam}
use Rattle.text_grammar.specs.Faults.{Begins}
use Rattle.place_text.specs.declared.fault.PlaceFault.{PlaceFault}
use Rattle.place_text.specs.declared.fault.PlaceFault.TheVariants.{Syntax, Number, Memory}
use Rattle.place_text.specs.declared.lexeme.Lexeme.{Lexeme}
use Rattle.place_text.specs.declared.lexeme.Lexeme.TheVariants as lexeme
use Rattle.place_text.specs.declared.lexeme.Lexeme.TheVariants.{Open, Close}
use Rattle.text_grammar.specs.Spots.{Spot, tokens}
use Rattle.text_grammar.specs.Results.{◌>>=◌}
use Rattle.place_text.specs.Lexemes.{spots, lexemes}
use Rattle.place_text.specs.Grammar.{Derives}
use Rattle.place_text.specs.Faults.{fault_of, fault_at, MayBeNumber, IsFault, Parses}
use Rattle.place_text.specs.Stages.{Stage, AtStart, AtFirst, AtLetter, AfterDigit, AfterComma, AfterLetter, AfterEmpty, step, takes_number, ended, or_fault, run, place_at}
use Rattle.place_text.proofs.ListSteps.{slice_get-prefix, slice_get-past}
use Rattle.place_text.proofs.Walks.{from, reach, reach-append, reach-push}
use Rattle.place_text.proofs.Complete.{derived_read}
use Rattle.place_text.proofs.Sound.{derived}

-- lexemes that may follow, and the place that is then read
record Completed (stage : Stage) : Type 0 where
  more : List Lexeme
  letters : List (List ℤ)
  read : from (reach more stage) ended ≡ Some letters

-- from each stage some text goes on to its end
completes : (stage : Stage) → Completed stage
completes AtStart = record { more = Open ∷ Close ∷ []; letters = _; read = refl }
completes AtFirst = record { more = Close ∷ []; letters = _; read = refl }
completes (AtLetter letters) = record { more = lexeme.Number (pos 0) ∷ Close ∷ []; letters = _; read = refl }
completes (AfterDigit letters digits) = record { more = Close ∷ []; letters = _; read = refl }
completes (AfterComma letters digits) = record { more = lexeme.Number (pos 0) ∷ Close ∷ []; letters = _; read = refl }
completes (AfterLetter letters) = record { more = []; letters = _; read = refl }
completes AfterEmpty = record { more = []; letters = _; read = refl }

-- what leads to a stage begins a text
begins : (ts : List Lexeme) (stage : Stage) → reach ts AtStart ≡ Some stage → Begins Derives ts
begins ts stage h =
    let c = completes stage in
    (c.more, c.letters, derived (ts ++ c.more) c.letters (ap (λ o. from o ended) (reach-append ts c.more AtStart ∙ ap (λ o. from o (λ n. reach c.more n)) h) ∙ c.read))

-- what leads to no stage begins none
begins_none : (ts : List Lexeme) → reach ts AtStart ≡ None → Begins Derives ts → ⊥
begins_none ts h b =
    let e = sym (ap (λ o. from o ended) (reach-append ts b.0 AtStart ∙ ap (λ o. from o (λ n. reach b.0 n)) h)) ∙ derived_read (ts ++ b.0) b.1 b.2 in
    cc

-- the stage after the number 0, or that there is none after any number
record TakesNumber (stage : Stage) : Type 0 where
  further : Stage
  goes : step stage (lexeme.Number (pos 0)) ≡ Some further

goes_on : (stage : Stage) → takes_number stage ≡ true → TakesNumber stage
goes_on AtStart h = absurd cc
goes_on AtFirst h = record { further = _; goes = refl }
goes_on (AtLetter letters) h = record { further = _; goes = refl }
goes_on (AfterDigit letters digits) h = absurd cc
goes_on (AfterComma letters digits) h = record { further = _; goes = refl }
goes_on (AfterLetter letters) h = absurd cc
goes_on AfterEmpty h = absurd cc

stops : (stage : Stage) (number : ℤ) → takes_number stage ≡ false → step stage (lexeme.Number number) ≡ None
stops AtStart number h = refl
stops AtFirst number h = absurd cc
stops (AtLetter letters) number h = absurd cc
stops (AfterDigit letters digits) number h = refl
stops (AfterComma letters digits) number h = absurd cc
stops (AfterLetter letters) number h = refl
stops AfterEmpty number h = refl

number_may_be : (ts : List Lexeme) (stage : Stage) → reach ts AtStart ≡ Some stage → MatchBool (takes_number stage) (MayBeNumber ts) (MayBeNumber ts → ⊥)
number_may_be ts stage h = by_test (takes_number stage) refl
  where
    by_test : (b : Bool) → takes_number stage ≡ b → MatchBool b (MayBeNumber ts) (MayBeNumber ts → ⊥)
    by_test true e = let t = goes_on stage e in (pos 0, begins (ts ++ lexeme.Number (pos 0) ∷ []) t.further (reach-push ts (lexeme.Number (pos 0)) AtStart stage h ∙ t.goes))
    by_test false e = λ m. begins_none (ts ++ lexeme.Number m.0 ∷ []) (reach-push ts (lexeme.Number m.0) AtStart stage h ∙ stops stage m.0 e) m.1

-- a fault that is not out of memory is reported with its byte
parses_fault : (text : List ℕ) (fault : PlaceFault) → IsFault text fault → Parses text (Err fault)
parses_fault text (Syntax at) h = h
parses_fault text (Number at) h = h
parses_fault text Memory h = tt

-- the lexemes of a text that were read, and those that are left
record HasReadSoFar (text : List ℕ) (stage : Stage) (left : List (Spot Lexeme)) : Type 0 where
  prefix : List (Spot Lexeme)
  split : spots text ≡ prefix ++ left
  reached : reach (tokens prefix) AtStart ≡ Some stage

lexemes_split : (text : List ℕ) (stage : Stage) (left : List (Spot Lexeme)) (st : HasReadSoFar text stage left) → lexemes text ≡ tokens st.prefix ++ tokens left
lexemes_split text stage left st = ap tokens st.split ∙ map-append (λ (s : Spot Lexeme). s.token) st.prefix left

-- the lexemes before are those of the prefix
taken : (text : List ℕ) (stage : Stage) (left : List (Spot Lexeme)) (st : HasReadSoFar text stage left) → take (length st.prefix) (lexemes text) ≡ tokens st.prefix
taken text stage left st =
    ap (λ n. take n (lexemes text)) (sym (length-map st.prefix (λ (s : Spot Lexeme). s.token)))
    ∙ (ap (take (length (tokens st.prefix))) (lexemes_split text stage left st) ∙ take-append_seam (tokens st.prefix) (tokens left))

counted : (text : List ℕ) (stage : Stage) (left : List (Spot Lexeme)) (st : HasReadSoFar text stage left) → length (lexemes text) ≡ length st.prefix + length left
counted text stage left st =
    length-map (spots text) (λ (s : Spot Lexeme). s.token) ∙ (ap length st.split ∙ length-append st.prefix left)

may_be_here : (text : List ℕ) (stage : Stage) (left : List (Spot Lexeme)) (st : HasReadSoFar text stage left) → MatchBool (takes_number stage) (MayBeNumber (take (length st.prefix) (lexemes text))) (MayBeNumber (take (length st.prefix) (lexemes text)) → ⊥)
may_be_here text stage left st =
    let P : List Lexeme → Type 0 = λ ts. MatchBool (takes_number stage) (MayBeNumber ts) (MayBeNumber ts → ⊥) in
    subst P (sym (taken text stage left st)) (number_may_be (tokens st.prefix) stage st.reached)

begins_here : (text : List ℕ) (stage : Stage) (left : List (Spot Lexeme)) (st : HasReadSoFar text stage left) → Begins Derives (take (length st.prefix) (lexemes text))
begins_here text stage left st = subst (Begins Derives) (sym (taken text stage left st)) (begins (tokens st.prefix) stage st.reached)

-- one lexeme more
has_read_more : (text : List ℕ) (stage further : Stage) (s : Spot Lexeme) (left : List (Spot Lexeme)) → HasReadSoFar text stage (s ∷ left) → step stage s.token ≡ Some further → HasReadSoFar text further left
has_read_more text stage further s left st e = record {
  prefix = st.prefix ++ s ∷ [];
  split = st.split ∙ sym (append_assoc st.prefix (s ∷ []) left);
  reached = ap (λ (ts : List Lexeme). reach ts AtStart) (map-append (λ (x : Spot Lexeme). x.token) st.prefix (s ∷ [])) ∙ (reach-push (tokens st.prefix) s.token AtStart stage st.reached ∙ e);
}

-- a lexeme with which no place goes on
fault_here : (text : List ℕ) (stage : Stage) (s : Spot Lexeme) (left : List (Spot Lexeme)) → HasReadSoFar text stage (s ∷ left) → step stage s.token ≡ None → IsFault text (fault_of (takes_number stage) s)
fault_here text stage s left st e =
    let n : length (lexemes text) ≡ length st.prefix + length (s ∷ left) = counted text stage (s ∷ left) st in
    let whole : lexemes text ≡ (tokens st.prefix ++ s.token ∷ []) ++ tokens left = lexemes_split text stage (s ∷ left) st ∙ sym (append_assoc (tokens st.prefix) (s.token ∷ []) (tokens left)) in
    let len : length st.prefix + 1 ≡ length (tokens st.prefix ++ s.token ∷ []) = ap (λ k. k + 1) (sym (length-map st.prefix (λ (x : Spot Lexeme). x.token))) ∙ sym (length-append (tokens st.prefix) (s.token ∷ [])) in
    let next : take (length st.prefix + 1) (lexemes text) ≡ tokens st.prefix ++ s.token ∷ [] = ap (λ k. take k (lexemes text)) len ∙ (ap (take (length (tokens st.prefix ++ s.token ∷ []))) whole ∙ take-append_seam (tokens st.prefix ++ s.token ∷ []) (tokens left)) in
    record {
      count = length st.prefix;
      breaks = record {
        within = omega arith;
        before = begins_here text stage (s ∷ left) st;
        there = λ inside b. begins_none (tokens st.prefix ++ s.token ∷ []) (reach-push (tokens st.prefix) s.token AtStart stage st.reached ∙ e) (subst (Begins Derives) next b);
        end = λ at_end letters g. absurd (omega arith);
      };
      at_number = takes_number stage;
      may_be = may_be_here text stage (s ∷ left) st;
      fault_is = ap (fault_at text (takes_number stage)) (sym (ap (λ (ss : List (Spot Lexeme)). slice_get ss (length st.prefix)) st.split ∙ slice_get-prefix st.prefix s left));
    }

-- a text that ends too early
fault_at_end : (text : List ℕ) (stage : Stage) → HasReadSoFar text stage [] → ended stage ≡ None → IsFault text (Syntax (length text))
fault_at_end text stage st e =
    let n : length (lexemes text) ≡ length st.prefix + 0 = counted text stage [] st in
    let whole : lexemes text ≡ tokens st.prefix = lexemes_split text stage [] st ∙ append-nil (tokens st.prefix) in
    let read : from (reach (lexemes text) AtStart) ended ≡ None = ap (λ (ts : List Lexeme). from (reach ts AtStart) ended) whole ∙ (ap (λ o. from o ended) st.reached ∙ e) in
    record {
      count = length st.prefix;
      breaks = record {
        within = omega arith;
        before = begins_here text stage [] st;
        there = λ inside b. absurd (omega arith);
        end = λ at_end letters g. let both : None ≡ Some letters = sym read ∙ derived_read (lexemes text) letters g in cc;
      };
      at_number = takes_number stage;
      may_be = may_be_here text stage [] st;
      fault_is = ap (fault_at text (takes_number stage)) (sym (ap (λ (ss : List (Spot Lexeme)). slice_get ss (length st.prefix)) (st.split ∙ append-nil st.prefix) ∙ slice_get-past st.prefix));
    }

-- what is read of the lexemes that are left
runs : (text : List ℕ) (stage : Stage) (left : List (Spot Lexeme)) → HasReadSoFar text stage left → Parses text (run (length text) stage left)
runs text stage [] st = by_end (ended stage) refl
  where
    by_end : (o : Option (List (List ℤ))) → ended stage ≡ o → Parses text (or_fault (Syntax (length text)) o)
    by_end None e = fault_at_end text stage st e
    by_end (Some letters) e =
        let whole : lexemes text ≡ tokens st.prefix = lexemes_split text stage [] st ∙ append-nil (tokens st.prefix) in
        derived (lexemes text) letters (ap (λ (ts : List Lexeme). from (reach ts AtStart) ended) whole ∙ (ap (λ o. from o ended) st.reached ∙ e))
runs text stage (s ∷ left) st = by_step (step stage s.token) refl (λ further e. runs text further left (has_read_more text stage further s left st e))
  where
    by_step : (o : Option Stage) → step stage s.token ≡ o → ((further : Stage) → step stage s.token ≡ Some further → Parses text (run (length text) further left)) → Parses text (or_fault (fault_of (takes_number stage) s) o >>= λ n. run (length text) n left)
    by_step None e rest = parses_fault text (fault_of (takes_number stage) s) (fault_here text stage s left st e)
    by_step (Some further) e rest = rest further e

pub parses : (text : List ℕ) → Parses text (place_at text)
parses text = runs text AtStart (spots text) (record { prefix = []; split = refl; reached = refl })
