-- Where a text first breaks the grammar of rules, and the fault there.
use Rattle.std.proofs.Common.{◌≡◌, ℕ, ◌+◌, Bool, true, false, List, [], ◌∷◌, ◌++◌, length, take, append_assoc, append-nil, Option, None, Some, Err, refl, sym, ◌∙◌, ap, subst, ℤ, pos, arith}
use Rattle.std.specs.Prelude.{slice_get, if◌then◌else◌}
use Rattle.std.specs.Bool.{MatchBool}
use Rattle.std.proofs.lemmas.List.{map-append, length-append, length-map}
use Rattle.std.proofs.Math.Seq.{take-append_seam}
use Rattle.text_grammar.specs.Faults.{Begins}
use Rattle.morph_words.specs.declared.fault.RulesFault.{RulesFault}
use Rattle.morph_words.specs.declared.fault.RulesFault.TheVariants.{Syntax, Number, Memory}
use Rattle.morph_words.specs.declared.lexeme.Lexeme.{Lexeme}
use Rattle.morph_words.specs.declared.lexeme.Lexeme.TheVariants.{Letter, Arrow}
use Rattle.text_grammar.specs.Spots.{Spot, tokens}
use Rattle.text_grammar.specs.Results.{◌>>=◌}
use Rattle.morph_words.specs.Lexemes.{spots, lexemes}
use Rattle.morph_words.specs.Rules.{Rules, has}
use Rattle.morph_words.specs.Grammar.{Derives}
use Rattle.morph_words.specs.Faults.{fault_of, fault_at, MayBeLetter, IsFault, Parses}
use Rattle.morph_words.specs.Stages.{Stage, AtFirst, AfterLetter, AfterArrow, InImage, AfterRule, AfterComma, begun, step, takes_letter, ended, or_fault, run, rules_at}
use Rattle.morph_words.proofs.ListSteps.{slice_get-prefix, slice_get-past}
use Rattle.morph_words.proofs.Walks.{from, reach, reach-append, reach-push}
use Rattle.morph_words.proofs.Complete.{letter_on, derived_read}
use Rattle.morph_words.proofs.Sound.{derived}
use Rattle.morph_words.proofs.Orders.{free_letter}

-- lexemes that may follow, and the rules that are then read
record Completed (stage : Stage) : Type 0 where
  more : List Lexeme
  rules : Rules
  read : from (reach more stage) ended ≡ Some rules

-- from each stage some text goes on to its end
completes : (stage : Stage) → Completed stage
completes AtFirst = record { more = Letter (pos 0) ∷ Arrow ∷ Letter (pos 0) ∷ []; rules = _; read = refl }
completes (AfterLetter rules letter) = record { more = Arrow ∷ Letter (pos 0) ∷ []; rules = _; read = refl }
completes (AfterArrow rules letter) = record { more = Letter (pos 0) ∷ []; rules = _; read = refl }
completes (InImage rules letter image) = record { more = []; rules = _; read = refl }
completes (AfterRule rules) = record { more = []; rules = _; read = refl }
completes (AfterComma rules) =
    let free = free_letter rules in
    record {
      more = Letter free.0 ∷ Arrow ∷ Letter (pos 0) ∷ [];
      rules = _;
      read = ap (λ o. from o ended) (letter_on true rules free.0 (Arrow ∷ Letter (pos 0) ∷ []) free.1);
    }

-- what leads to a stage begins a text
begins : (ts : List Lexeme) (stage : Stage) → reach ts AtFirst ≡ Some stage → Begins Derives ts
begins ts stage h =
    let c = completes stage in
    (c.more, c.rules, derived (ts ++ c.more) c.rules (ap (λ o. from o ended) (reach-append ts c.more AtFirst ∙ ap (λ o. from o (λ n. reach c.more n)) h) ∙ c.read))

-- what leads to no stage begins none
begins_none : (ts : List Lexeme) → reach ts AtFirst ≡ None → Begins Derives ts → ⊥
begins_none ts h b =
    let e = sym (ap (λ o. from o ended) (reach-append ts b.0 AtFirst ∙ ap (λ o. from o (λ n. reach b.0 n)) h)) ∙ derived_read (ts ++ b.0) b.1 b.2 in
    cc

-- a letter with which a stage goes on, or that there is none
record TakesLetter (stage : Stage) : Type 0 where
  letter : ℤ
  further : Stage
  goes : step stage (Letter letter) ≡ Some further

begun_free : (rules : Rules) (letter : ℤ) → has rules letter ≡ false → begun rules letter ≡ Some (AfterLetter rules letter)
begun_free rules letter h = ap (λ (b : Bool). if b then None else Some (AfterLetter rules letter)) h

goes_on : (stage : Stage) → takes_letter stage ≡ true → TakesLetter stage
goes_on AtFirst h = record { letter = pos 0; further = _; goes = refl }
goes_on (AfterLetter rules letter) h = absurd cc
goes_on (AfterArrow rules letter) h = record { letter = pos 0; further = _; goes = refl }
goes_on (InImage rules letter image) h = record { letter = pos 0; further = _; goes = refl }
goes_on (AfterRule rules) h = let free = free_letter rules in record { letter = free.0; further = AfterLetter rules free.0; goes = begun_free rules free.0 free.1 }
goes_on (AfterComma rules) h = let free = free_letter rules in record { letter = free.0; further = AfterLetter rules free.0; goes = begun_free rules free.0 free.1 }

stops : (stage : Stage) (letter : ℤ) → takes_letter stage ≡ false → step stage (Letter letter) ≡ None
stops AtFirst letter h = absurd cc
stops (AfterLetter rules a) letter h = refl
stops (AfterArrow rules a) letter h = absurd cc
stops (InImage rules a image) letter h = absurd cc
stops (AfterRule rules) letter h = absurd cc
stops (AfterComma rules) letter h = absurd cc

letter_may_be : (ts : List Lexeme) (stage : Stage) → reach ts AtFirst ≡ Some stage → MatchBool (takes_letter stage) (MayBeLetter ts) (MayBeLetter ts → ⊥)
letter_may_be ts stage h = by_test (takes_letter stage) refl
  where
    by_test : (b : Bool) → takes_letter stage ≡ b → MatchBool b (MayBeLetter ts) (MayBeLetter ts → ⊥)
    by_test true e = let t = goes_on stage e in (t.letter, begins (ts ++ Letter t.letter ∷ []) t.further (reach-push ts (Letter t.letter) AtFirst stage h ∙ t.goes))
    by_test false e = λ m. begins_none (ts ++ Letter m.0 ∷ []) (reach-push ts (Letter m.0) AtFirst stage h ∙ stops stage m.0 e) m.1

-- a fault that is not out of memory is reported with its byte
parses_fault : (text : List ℕ) (fault : RulesFault) → IsFault text fault → Parses text (Err fault)
parses_fault text (Syntax at) h = h
parses_fault text (Number at) h = h
parses_fault text Memory h = tt

-- the lexemes of a text that were read, and those that are left
record HasReadSoFar (text : List ℕ) (stage : Stage) (left : List (Spot Lexeme)) : Type 0 where
  prefix : List (Spot Lexeme)
  split : spots text ≡ prefix ++ left
  reached : reach (tokens prefix) AtFirst ≡ Some stage

lexemes_split : (text : List ℕ) (stage : Stage) (left : List (Spot Lexeme)) (st : HasReadSoFar text stage left) → lexemes text ≡ tokens st.prefix ++ tokens left
lexemes_split text stage left st = ap tokens st.split ∙ map-append (λ (s : Spot Lexeme). s.token) st.prefix left

-- the lexemes before are those of the prefix
taken : (text : List ℕ) (stage : Stage) (left : List (Spot Lexeme)) (st : HasReadSoFar text stage left) → take (length st.prefix) (lexemes text) ≡ tokens st.prefix
taken text stage left st =
    ap (λ n. take n (lexemes text)) (sym (length-map st.prefix (λ (s : Spot Lexeme). s.token)))
    ∙ (ap (take (length (tokens st.prefix))) (lexemes_split text stage left st) ∙ take-append_seam (tokens st.prefix) (tokens left))

counted : (text : List ℕ) (stage : Stage) (left : List (Spot Lexeme)) (st : HasReadSoFar text stage left) → length (lexemes text) ≡ length st.prefix + length left
counted text stage left st =
    length-map (spots text) (λ (s : Spot Lexeme). s.token) ∙ (ap length st.split ∙ length-append st.prefix left)

may_be_here : (text : List ℕ) (stage : Stage) (left : List (Spot Lexeme)) (st : HasReadSoFar text stage left) → MatchBool (takes_letter stage) (MayBeLetter (take (length st.prefix) (lexemes text))) (MayBeLetter (take (length st.prefix) (lexemes text)) → ⊥)
may_be_here text stage left st =
    let P : List Lexeme → Type 0 = λ ts. MatchBool (takes_letter stage) (MayBeLetter ts) (MayBeLetter ts → ⊥) in
    subst P (sym (taken text stage left st)) (letter_may_be (tokens st.prefix) stage st.reached)

begins_here : (text : List ℕ) (stage : Stage) (left : List (Spot Lexeme)) (st : HasReadSoFar text stage left) → Begins Derives (take (length st.prefix) (lexemes text))
begins_here text stage left st = subst (Begins Derives) (sym (taken text stage left st)) (begins (tokens st.prefix) stage st.reached)

-- one lexeme more
has_read_more : (text : List ℕ) (stage further : Stage) (s : Spot Lexeme) (left : List (Spot Lexeme)) → HasReadSoFar text stage (s ∷ left) → step stage s.token ≡ Some further → HasReadSoFar text further left
has_read_more text stage further s left st e = record {
  prefix = st.prefix ++ s ∷ [];
  split = st.split ∙ sym (append_assoc st.prefix (s ∷ []) left);
  reached = ap (λ (ts : List Lexeme). reach ts AtFirst) (map-append (λ (x : Spot Lexeme). x.token) st.prefix (s ∷ [])) ∙ (reach-push (tokens st.prefix) s.token AtFirst stage st.reached ∙ e);
}

-- a lexeme with which no rules go on
fault_here : (text : List ℕ) (stage : Stage) (s : Spot Lexeme) (left : List (Spot Lexeme)) → HasReadSoFar text stage (s ∷ left) → step stage s.token ≡ None → IsFault text (fault_of (takes_letter stage) s)
fault_here text stage s left st e =
    let n : length (lexemes text) ≡ length st.prefix + length (s ∷ left) = counted text stage (s ∷ left) st in
    let whole : lexemes text ≡ (tokens st.prefix ++ s.token ∷ []) ++ tokens left = lexemes_split text stage (s ∷ left) st ∙ sym (append_assoc (tokens st.prefix) (s.token ∷ []) (tokens left)) in
    let len : length st.prefix + 1 ≡ length (tokens st.prefix ++ s.token ∷ []) = ap (λ k. k + 1) (sym (length-map st.prefix (λ (x : Spot Lexeme). x.token))) ∙ sym (length-append (tokens st.prefix) (s.token ∷ [])) in
    let next : take (length st.prefix + 1) (lexemes text) ≡ tokens st.prefix ++ s.token ∷ [] = ap (λ k. take k (lexemes text)) len ∙ (ap (take (length (tokens st.prefix ++ s.token ∷ []))) whole ∙ take-append_seam (tokens st.prefix ++ s.token ∷ []) (tokens left)) in
    record {
      count = length st.prefix;
      breaks = record {
        within = omega arith;
        before = begins_here text stage (s ∷ left) st;
        there = λ inside b. begins_none (tokens st.prefix ++ s.token ∷ []) (reach-push (tokens st.prefix) s.token AtFirst stage st.reached ∙ e) (subst (Begins Derives) next b);
        end = λ at_end rules g. absurd (omega arith);
      };
      at_letter = takes_letter stage;
      may_be = may_be_here text stage (s ∷ left) st;
      fault_is = ap (fault_at text (takes_letter stage)) (sym (ap (λ (ss : List (Spot Lexeme)). slice_get ss (length st.prefix)) st.split ∙ slice_get-prefix st.prefix s left));
    }

-- a text that ends too early
fault_at_end : (text : List ℕ) (stage : Stage) → HasReadSoFar text stage [] → ended stage ≡ None → IsFault text (Syntax (length text))
fault_at_end text stage st e =
    let n : length (lexemes text) ≡ length st.prefix + 0 = counted text stage [] st in
    let whole : lexemes text ≡ tokens st.prefix = lexemes_split text stage [] st ∙ append-nil (tokens st.prefix) in
    let read : from (reach (lexemes text) AtFirst) ended ≡ None = ap (λ (ts : List Lexeme). from (reach ts AtFirst) ended) whole ∙ (ap (λ o. from o ended) st.reached ∙ e) in
    record {
      count = length st.prefix;
      breaks = record {
        within = omega arith;
        before = begins_here text stage [] st;
        there = λ inside b. absurd (omega arith);
        end = λ at_end rules g. let both : None ≡ Some rules = sym read ∙ derived_read (lexemes text) rules g in cc;
      };
      at_letter = takes_letter stage;
      may_be = may_be_here text stage [] st;
      fault_is = ap (fault_at text (takes_letter stage)) (sym (ap (λ (ss : List (Spot Lexeme)). slice_get ss (length st.prefix)) (st.split ∙ append-nil st.prefix) ∙ slice_get-past st.prefix));
    }

-- what is read of the lexemes that are left
runs : (text : List ℕ) (stage : Stage) (left : List (Spot Lexeme)) → HasReadSoFar text stage left → Parses text (run (length text) stage left)
runs text stage [] st = by_end (ended stage) refl
  where
    by_end : (o : Option Rules) → ended stage ≡ o → Parses text (or_fault (Syntax (length text)) o)
    by_end None e = fault_at_end text stage st e
    by_end (Some rules) e =
        let whole : lexemes text ≡ tokens st.prefix = lexemes_split text stage [] st ∙ append-nil (tokens st.prefix) in
        derived (lexemes text) rules (ap (λ (ts : List Lexeme). from (reach ts AtFirst) ended) whole ∙ (ap (λ o. from o ended) st.reached ∙ e))
runs text stage (s ∷ left) st = by_step (step stage s.token) refl (λ further e. runs text further left (has_read_more text stage further s left st e))
  where
    by_step : (o : Option Stage) → step stage s.token ≡ o → ((further : Stage) → step stage s.token ≡ Some further → Parses text (run (length text) further left)) → Parses text (or_fault (fault_of (takes_letter stage) s) o >>= λ n. run (length text) n left)
    by_step None e rest = parses_fault text (fault_of (takes_letter stage) s) (fault_here text stage s left st e)
    by_step (Some further) e rest = rest further e

pub parses : (text : List ℕ) → Parses text (rules_at text)
parses text = runs text AtFirst (spots text) (record { prefix = []; split = refl; reached = refl })
