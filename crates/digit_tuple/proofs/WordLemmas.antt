-- Words over an alphabet, and where they lead in a deterministic automaton.
use Rattle.std.proofs.Common.{◌≡◌, ℕ, ◌<◌, false, List, [], ◌∷◌, ◌++◌, Option, None, Some, refl, ap, ◌∙◌}
use Rattle.std.specs.Option.{option_map_or, option_and_then}
use Rattle.digit_tuple.specs.Letters.{IsWord}
use Rattle.digit_tuple.specs.Deterministic.{Automaton, step_of, run_of, accepts_from}

pub IsWord-push : (letters : ℕ) (w : List ℕ) (a : ℕ) → IsWord letters w → a < letters → IsWord letters (w ++ a ∷ [])
IsWord-push letters [] a over within = (within, tt)
IsWord-push letters (b ∷ w) a over within = (over.0, IsWord-push letters w a over.1 within)

pub IsWord-prefix : (letters : ℕ) (w v : List ℕ) → IsWord letters (w ++ v) → IsWord letters w
IsWord-prefix letters [] v over = tt
IsWord-prefix letters (b ∷ w) v over = (over.0, IsWord-prefix letters w v over.1)

pub IsWord-back : (letters : ℕ) (w v : List ℕ) → IsWord letters (w ++ v) → IsWord letters v
IsWord-back letters [] v over = over
IsWord-back letters (b ∷ w) v over = IsWord-back letters w v over.1

pub IsWord-append : (letters : ℕ) (w v : List ℕ) → IsWord letters w → IsWord letters v → IsWord letters (w ++ v)
IsWord-append letters [] v over more = more
IsWord-append letters (b ∷ w) v over more = (over.0, IsWord-append letters w v over.1 more)

-- a word and then another
pub run_of-append : (d : Automaton) (q : ℕ) (w v : List ℕ) → run_of d q (w ++ v) ≡ option_and_then (λ p. run_of d p v) (run_of d q w)
run_of-append d q [] v = refl
run_of-append d q (a ∷ w) v = by (step_of d q a) (λ p. run_of-append d p w v)
  where
    by : (o : Option ℕ) → ((p : ℕ) → run_of d p (w ++ v) ≡ option_and_then (λ r. run_of d r v) (run_of d p w))
        → option_and_then (λ p. run_of d p (w ++ v)) o ≡ option_and_then (λ p. run_of d p v) (option_and_then (λ p. run_of d p w) o)
    by None rest = refl
    by (Some p) rest = rest p

pub run_of-push : (d : Automaton) (q p : ℕ) (w : List ℕ) (a : ℕ) → run_of d q w ≡ Some p → run_of d q (w ++ a ∷ []) ≡ step_of d p a
run_of-push d q p w a leads = run_of-append d q w (a ∷ []) ∙ ap (λ o. option_and_then (λ r. run_of d r (a ∷ [])) o) leads ∙ last (step_of d p a)
  where
    last : (o : Option ℕ) → option_and_then (λ r. Some r) o ≡ o
    last None = refl
    last (Some r) = refl

-- a word is accepted from q, after which one is accepted from where the first leads
pub accepts_from-append : (d : Automaton) (q : ℕ) (w v : List ℕ) → accepts_from d q (w ++ v) ≡ option_map_or (λ p. accepts_from d p v) (run_of d q w) false
accepts_from-append d q [] v = refl
accepts_from-append d q (a ∷ w) v = by (step_of d q a) (λ p. accepts_from-append d p w v)
  where
    by : (o : Option ℕ) → ((p : ℕ) → accepts_from d p (w ++ v) ≡ option_map_or (λ r. accepts_from d r v) (run_of d p w) false)
        → option_map_or (λ p. accepts_from d p (w ++ v)) o false ≡ option_map_or (λ p. accepts_from d p v) (option_and_then (λ p. run_of d p w) o) false
    by None rest = refl
    by (Some p) rest = rest p
