-- How many words go on from digits, by what these lead to.
use Rattle.std.proofs.Common.{◌≡◌, ℕ, ◌<◌, Bool, false, cond, List, [], ◌∷◌, ◌++◌, reverse, length, get_or, Vec, Global, Option, None, Some, refl, ap, sym, ◌∙◌, subst, count_by}
use Rattle.std.specs.Option.{option_map_or, option_and_then, IfSome}
use Rattle.std.proofs.lemmas.List.{reverse-append}
use Rattle.digit_tuple.specs.declared.direction.Direction.{Direction}
use Rattle.digit_tuple.specs.declared.direction.Direction.TheVariants.{Msd, Lsd}
use Rattle.digit_tuple.specs.Deterministic.{Automaton, IsTable, accepts_from, letters_of, run_of, states_of, step_of}
use Rattle.digit_tuple.proofs.WordLemmas.{accepts_from-append, run_of-append}
use Rattle.numeration.specs.Words.{words}
use Rattle.numeration.proofs.CountLemmas.{sum_below, count_by-none}
use Rattle.constants.specs.Continuations.{read, continuations}
use Rattle.constants.specs.WordCounts.{capped, words_at, AreCounts}
use Rattle.constants.specs.Prefixes.{AreMarks, IsPrefix, Fits}
use Rattle.constants.specs.declared.prefix.Prefix.{Prefix}
use Rattle.constants.specs.declared.prefix.Prefix.TheVariants.{After, Before}
use Rattle.constants.proofs.SumLemmas.{count-apart}
use Rattle.constants.proofs.CappedLemmas.{capped-again, capped-below, capped-cond}
use Rattle.constants.proofs.CountSteps.{run-in_range}

continues-from : (a : Automaton) (w : List ℕ) (n : ℕ) (o : Option ℕ) → o ≡ run_of a 0 w
    → continuations (letters_of a) (read Msd a) w n ≡ count_by (λ u. option_map_or (λ p. accepts_from a p u) o false) (words (letters_of a) n)
continues-from a w n o is =
    ap (λ (t : List ℕ → Bool). count_by t (words (letters_of a) n)) (λ i u. accepts_from-append a 0 w u i)
    ∙ ap (λ (r : Option ℕ). count_by (λ u. option_map_or (λ p. accepts_from a p u) r false) (words (letters_of a) n)) (sym is)

-- the digits lead nowhere
pub continues-nowhere : (a : Automaton) (w : List ℕ) (n : ℕ) → None ≡ run_of a 0 w → 0 ≡ capped (continuations (letters_of a) (read Msd a) w n)
continues-nowhere a w n is = ap capped (sym (continues-from a w n None is ∙ count_by-none (letters_of a) n (λ u. false) (λ u long. refl)))

-- the digits lead to a state
pub continues-after : (a : Automaton) (w row : List ℕ) (n q : ℕ) → q < length row → Some q ≡ run_of a 0 w → AreCounts Msd a n row
    → get_or row q 0 ≡ capped (continuations (letters_of a) (read Msd a) w n)
continues-after a w row n q within is are =
    are.counts q (subst (λ k. q < k) are.long within) ∙ ap capped (sym (continues-from a w n (Some q) is))

-- the digits, reversed, lead from states to acceptance
pub continues-before : (a : Automaton) (w : List ℕ) (n : ℕ) → IsTable (letters_of a) a.states
    → continuations (letters_of a) (read Lsd a) w n ≡ sum_below (λ q. cond {A = ℕ} (accepts_from a q (reverse w)) (words_at Lsd a n q) 0) (states_of a)
continues-before a w n table =
    ap (λ (t : List ℕ → Bool). count_by t (words (letters_of a) n)) (λ i u. split u i)
    ∙ count-apart (λ u. run_of a 0 (reverse u)) (λ q. accepts_from a q (reverse w)) (states_of a) (words (letters_of a) n) (λ u. run-in_range a (reverse u) table)
  where
    split : (u : List ℕ) → accepts_from a 0 (reverse (w ++ u)) ≡ option_map_or (λ q. accepts_from a q (reverse w)) (run_of a 0 (reverse u)) false
    split u = ap (λ v. accepts_from a 0 v) (reverse-append w u) ∙ accepts_from-append a 0 (reverse u) (reverse w)

pub marks-sum : (a : Automaton) (w row : List ℕ) (marks : List Bool) (n : ℕ) → IsTable (letters_of a) a.states → AreMarks a (reverse w) marks → AreCounts Lsd a n row
    → capped (sum_below (λ q. cond {A = ℕ} (get_or marks q false) (get_or row q 0) 0) (states_of a)) ≡ capped (continuations (letters_of a) (read Lsd a) w n)
marks-sum a w row marks n table marked are =
    capped-below (λ q. cond {A = ℕ} (get_or marks q false) (get_or row q 0) 0) (λ q. cond {A = ℕ} (accepts_from a q (reverse w)) (words_at Lsd a n q) 0) (states_of a)
    (λ q within. capped-cond (get_or marks q false) (get_or row q 0) (words_at Lsd a n q) (ap capped (are.counts q within) ∙ capped-again (words_at Lsd a n q))
    ∙ ap (λ t. capped (cond {A = ℕ} t (words_at Lsd a n q) 0)) (marked.at q within))
    ∙ ap capped (sym (continues-before a w n table))

-- one digit more
pub run-more : (a : Automaton) (w : List ℕ) (o : Option ℕ) (digit : ℕ) → o ≡ run_of a 0 w → option_and_then (λ q. step_of a q digit) o ≡ run_of a 0 (w ++ digit ∷ [])
run-more a w o digit is =
    ap (λ r. option_and_then (λ q. step_of a q digit) r) is ∙ sym (run_of-append a 0 w (digit ∷ []) ∙ by (run_of a 0 w))
  where
    last : (o : Option ℕ) → option_and_then (λ r. Some r) o ≡ o
    last None = refl
    last (Some r) = refl

    by : (o : Option ℕ) → option_and_then (λ p. run_of a p (digit ∷ [])) o ≡ option_and_then (λ q. step_of a q digit) o
    by None = refl
    by (Some q) = last (step_of a q digit)

pub reverse-more : (w : List ℕ) (digit : ℕ) → digit ∷ reverse w ≡ reverse (w ++ digit ∷ [])
reverse-more w digit = sym (reverse-append w (digit ∷ []))

-- the count of a prefix
pub prefix-state : (direction : Direction) (a : Automaton) (w row : List ℕ) (n : ℕ) (state : Option ℕ) → IfSome state (λ q. q < length row) → IsPrefix direction a w (After state) → AreCounts direction a n row
    → option_map_or (λ q. get_or row q 0) state 0 ≡ capped (continuations (letters_of a) (read direction a) w n)
prefix-state Msd a w row n None within prefix are = continues-nowhere a w n prefix
prefix-state Msd a w row n (Some q) within prefix are = continues-after a w row n q within prefix are
prefix-state Lsd a w row n state within prefix are = absurd prefix

pub prefix-marks : (direction : Direction) (a : Automaton) (w row : List ℕ) (n sum : ℕ) (marks : Vec Bool Global) → IsPrefix direction a w (Before marks) → AreCounts direction a n row
    → (AreMarks a (reverse w) marks.items → AreCounts Lsd a n row → sum ≡ capped (continuations (letters_of a) (read Lsd a) w n))
    → sum ≡ capped (continuations (letters_of a) (read direction a) w n)
prefix-marks Msd a w row n sum marks prefix are is = absurd prefix
prefix-marks Lsd a w row n sum marks prefix are is = is prefix are

-- the prefix with one digit more
pub prefix-after : (direction : Direction) (a : Automaton) (w : List ℕ) (state : Option ℕ) (digit : ℕ) → IsPrefix direction a w (After state)
    → IsPrefix direction a (w ++ digit ∷ []) (After (option_and_then (λ q. step_of a q digit) state))
prefix-after Msd a w state digit prefix = run-more a w state digit prefix
prefix-after Lsd a w state digit prefix = absurd prefix

pub prefix-before : (direction : Direction) (a : Automaton) (w : List ℕ) (marks more : Vec Bool Global) (digit : ℕ) → IsPrefix direction a w (Before marks)
    → ((v : List ℕ) → AreMarks a v marks.items → AreMarks a (digit ∷ v) more.items) → IsPrefix direction a (w ++ digit ∷ []) (Before more)
prefix-before Msd a w marks more digit prefix made = absurd prefix
prefix-before Lsd a w marks more digit prefix made = subst (λ v. AreMarks a v more.items) (reverse-more w digit) (made (reverse w) prefix)

pub fits-same : (m n : ℕ) (prefix : Prefix) → m ≡ n → Fits n prefix → Fits m prefix
fits-same m n prefix same fits = subst (λ k. Fits k prefix) (sym same) fits
