-- Counts of the words of a length at each state, and those of words of one digit more.
use Rattle.std.proofs.Common.{◌≡◌, ℕ, suc, ◌+◌, ◌<◌, Bool, false, cond, nat_eq, List, [], ◌∷◌, reverse, get_or, Option, None, Some, refl, ap, sym, ◌∙◌, count_by}
use Rattle.std.specs.List.{All, sum_by}
use Rattle.std.specs.Option.{option_map_or, option_and_then, IfSome}
use Rattle.digit_tuple.specs.declared.transitions.Transition.{Transition}
use Rattle.digit_tuple.specs.declared.direction.Direction.TheVariants.{Msd, Lsd}
use Rattle.digit_tuple.specs.Deterministic.{Automaton, IsTable, IsRow, accepts_from, transitions_of, letters_of, run_of, states_of, step_of}
use Rattle.digit_tuple.proofs.DfaLemmas.{row_at}
use Rattle.digit_tuple.proofs.PaddingLemmas.{reverse-cons}
use Rattle.digit_tuple.proofs.WordLemmas.{run_of-append}
use Rattle.minimise.proofs.CanonicalLemmas.{run_within}
use Rattle.numeration.specs.Words.{words}
use Rattle.numeration.proofs.CountLemmas.{sum_below, sum_below-same, count_by-words, count_by-none}
use Rattle.constants.specs.WordCounts.{capped, leads_to, words_at, AreCounts}
use Rattle.constants.proofs.SumLemmas.{sum_below-swap, sum-transitions, count-apart}
use Rattle.constants.proofs.CappedLemmas.{capped-again, capped-add, capped-sum_by, capped-cond}

row_is : (a : Automaton) (q : ℕ) → IsTable (letters_of a) a.states → q < states_of a → IsRow (letters_of a) (states_of a) (transitions_of a q)
row_is a q table within = row_at a q table within

-- a word leads to a state of the automaton, or nowhere
pub run-in_range : (a : Automaton) (w : List ℕ) → IsTable (letters_of a) a.states → IfSome (run_of a 0 w) (λ p. p < states_of a)
run-in_range a w table = by (run_of a 0 w) refl
  where
    by : (o : Option ℕ) → run_of a 0 w ≡ o → IfSome o (λ p. p < states_of a)
    by None is = tt
    by (Some p) is = run_within a w 0 p table table.initial is

-- words that are accepted from a state, by their first digits
words_from-suc : (a : Automaton) (n q : ℕ) → words_at Msd a (suc n) q ≡ sum_below (λ b. option_map_or (λ p. words_at Msd a n p) (step_of a q b) 0) (letters_of a)
words_from-suc a n q =
    count_by-words (letters_of a) (λ u. accepts_from a q u) n
    ∙ sum_below-same (λ b. count_by (λ u. accepts_from a q (b ∷ u)) (words (letters_of a) n)) (λ b. option_map_or (λ p. words_at Msd a n p) (step_of a q b) 0) (letters_of a) (λ b below. by (step_of a q b))
  where
    by : (o : Option ℕ) → count_by (λ u. option_map_or (λ p. accepts_from a p u) o false) (words (letters_of a) n) ≡ option_map_or (λ p. words_at Msd a n p) o 0
    by None = count_by-none (letters_of a) n (λ u. false) (λ u long. refl)
    by (Some p) = refl

-- the sum of the counts where the transitions of a state lead
pub counts_from-suc : (a : Automaton) (n q : ℕ) (row : List ℕ) → IsTable (letters_of a) a.states → q < states_of a → AreCounts Msd a n row
    → capped (sum_by (λ e. get_or row e.target 0) (transitions_of a q)) ≡ capped (words_at Msd a (suc n) q)
counts_from-suc a n q row table within are =
    let is : IsRow (letters_of a) (states_of a) (transitions_of a q) = row_is a q table within in
    let same : All (λ e. capped (get_or row e.target 0) ≡ capped (words_at Msd a n e.target)) (transitions_of a q) =
    λ k e inside. ap capped (are.counts _ (is.in_range k e inside).1) ∙ capped-again (words_at Msd a n _) in
    capped-sum_by (λ (e : Transition). get_or row e.target 0) (λ (e : Transition). words_at Msd a n e.target) (transitions_of a q) same
    ∙ ap capped (sum-transitions (λ p. words_at Msd a n p) (letters_of a) (transitions_of a q) is.ascending (λ k e inside. (is.in_range k e inside).0) ∙ sym (words_from-suc a n q))

-- a digit more, read last
leads-push : (a : Automaton) (b p : ℕ) (u : List ℕ)
    → leads_to a p (reverse (b ∷ u)) ≡ option_map_or (λ q. option_map_or (λ t. nat_eq t p) (step_of a q b) false) (run_of a 0 (reverse u)) false
leads-push a b p u =
    ap (λ w. leads_to a p w) (reverse-cons b u)
    ∙ ap (λ o. option_map_or (λ t. nat_eq t p) o false) (run_of-append a 0 (reverse u) (b ∷ []))
    ∙ by (run_of a 0 (reverse u))
  where
    last : (o : Option ℕ) → option_map_or (λ t. nat_eq t p) (option_and_then (λ r. Some r) o) false ≡ option_map_or (λ t. nat_eq t p) o false
    last None = refl
    last (Some r) = refl

    by : (o : Option ℕ) → option_map_or (λ t. nat_eq t p) (option_and_then (λ q. run_of a q (b ∷ [])) o) false ≡ option_map_or (λ q. option_map_or (λ t. nat_eq t p) (step_of a q b) false) o false
    by None = refl
    by (Some q) = last (step_of a q b)

-- the count that the transitions of a state bring to another
abbrev pub brought : Automaton → ℕ → ℕ → ℕ → ℕ
brought a n p q = sum_by (λ e. cond {A = ℕ} (nat_eq e.target p) (words_at Lsd a n q) 0) (transitions_of a q)

-- words that lead to a state, by their last digits
pub words_into-suc : (a : Automaton) (n p : ℕ) → IsTable (letters_of a) a.states → words_at Lsd a (suc n) p ≡ sum_below (λ q. brought a n p q) (states_of a)
words_into-suc a n p table = led ∙ each ∙ swapped ∙ gathered
  where
    d : ℕ
    d = letters_of a

    moves : ℕ → ℕ → Bool
    moves b q = option_map_or (λ t. nat_eq t p) (step_of a q b) false

    led : words_at Lsd a (suc n) p ≡ sum_below (λ b. count_by (λ u. leads_to a p (reverse (b ∷ u))) (words d n)) d
    led = count_by-words d (λ u. leads_to a p (reverse u)) n

    each : sum_below (λ b. count_by (λ u. leads_to a p (reverse (b ∷ u))) (words d n)) d ≡ sum_below (λ b. sum_below (λ q. cond {A = ℕ} (moves b q) (words_at Lsd a n q) 0) (states_of a)) d
    each = sum_below-same (λ b. count_by (λ u. leads_to a p (reverse (b ∷ u))) (words d n)) (λ b. sum_below (λ q. cond {A = ℕ} (moves b q) (words_at Lsd a n q) 0) (states_of a)) d
        (λ b below. ap (λ (t : List ℕ → Bool). count_by t (words d n)) (λ i u. leads-push a b p u i)
        ∙ count-apart (λ u. run_of a 0 (reverse u)) (λ q. moves b q) (states_of a) (words d n) (λ u. run-in_range a (reverse u) table))

    swapped : sum_below (λ b. sum_below (λ q. cond {A = ℕ} (moves b q) (words_at Lsd a n q) 0) (states_of a)) d ≡ sum_below (λ q. sum_below (λ b. cond {A = ℕ} (moves b q) (words_at Lsd a n q) 0) d) (states_of a)
    swapped = sum_below-swap (λ b q. cond {A = ℕ} (moves b q) (words_at Lsd a n q) 0) d (states_of a)

    by : (m : ℕ) (o : Option ℕ) → cond {A = ℕ} (option_map_or (λ t. nat_eq t p) o false) m 0 ≡ option_map_or (λ t. cond {A = ℕ} (nat_eq t p) m 0) o 0
    by m None = refl
    by m (Some t) = refl

    along : (q : ℕ) → q < states_of a → sum_below (λ b. cond {A = ℕ} (moves b q) (words_at Lsd a n q) 0) d ≡ brought a n p q
    along q within =
        let is : IsRow d (states_of a) (transitions_of a q) = row_is a q table within in
        sum_below-same (λ b. cond {A = ℕ} (moves b q) (words_at Lsd a n q) 0) (λ b. option_map_or (λ t. cond {A = ℕ} (nat_eq t p) (words_at Lsd a n q) 0) (step_of a q b) 0) d (λ b below. by (words_at Lsd a n q) (step_of a q b))
        ∙ sym (sum-transitions (λ t. cond {A = ℕ} (nat_eq t p) (words_at Lsd a n q) 0) d (transitions_of a q) is.ascending (λ k e inside. (is.in_range k e inside).0))

    gathered : sum_below (λ q. sum_below (λ b. cond {A = ℕ} (moves b q) (words_at Lsd a n q) 0) d) (states_of a) ≡ sum_below (λ q. brought a n p q) (states_of a)
    gathered = sum_below-same (λ q. sum_below (λ b. cond {A = ℕ} (moves b q) (words_at Lsd a n q) 0) d) (λ q. brought a n p q) (states_of a) along

-- what the transitions of one more state bring, by a capped count
pub brought-more : (a : Automaton) (n p q count before : ℕ) → count ≡ capped (words_at Lsd a n q)
    → capped (before + sum_by (λ e. cond {A = ℕ} (nat_eq e.target p) count 0) (transitions_of a q)) ≡ capped (before + brought a n p q)
brought-more a n p q count before is =
    capped-add before (sum_by (λ e. cond {A = ℕ} (nat_eq e.target p) count 0) (transitions_of a q)) before (brought a n p q) refl
    (capped-sum_by (λ (e : Transition). cond {A = ℕ} (nat_eq e.target p) count 0) (λ (e : Transition). cond {A = ℕ} (nat_eq e.target p) (words_at Lsd a n q) 0) (transitions_of a q)
    (λ k e inside. capped-cond (nat_eq _ p) count (words_at Lsd a n q) (ap capped is ∙ capped-again (words_at Lsd a n q))))
