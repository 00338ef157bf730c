-- Where words lead from a key.
use Rattle.std.proofs.Common.{◌≡◌, ℕ, ◌<◌, Bool, false, List, [], ◌∷◌, ◌++◌, Option, None, Some, MatchOption, refl}
use Rattle.std.specs.Bool.{⊤}
use Rattle.std.specs.Option.{option_and_then, option_map_or}
use Rattle.digit_tuple.specs.Letters.{IsWord}
use Rattle.digit_tuple.specs.Keys.{key_run, key_accepts}

-- a word is accepted where the key that it leads to accepts
pub key_accepts-run : (after : List ℕ → ℕ → Option (List ℕ)) (accepts : List ℕ → Bool) (w key : List ℕ) → key_accepts after accepts key w ≡ option_map_or accepts (key_run after key w) false
key_accepts-run after accepts [] key = refl
key_accepts-run after accepts (a ∷ w) key = by (after key a) (λ next. key_accepts-run after accepts w next)
  where
    by : (o : Option (List ℕ)) → ((next : List ℕ) → key_accepts after accepts next w ≡ option_map_or accepts (key_run after next w) false)
        → option_map_or (λ next. key_accepts after accepts next w) o false ≡ option_map_or accepts (option_and_then (λ next. key_run after next w) o) false
    by None rest = refl
    by (Some next) rest = rest next

-- what each letter keeps, a word keeps
pub key_run-keeps : (P : List ℕ → Type 0) (letters : ℕ) (after : List ℕ → ℕ → Option (List ℕ)) → ((key : List ℕ) (a : ℕ) → P key → a < letters → MatchOption (after key a) ⊤ P)
    → (w key : List ℕ) → IsWord letters w → P key → MatchOption (key_run after key w) ⊤ P
key_run-keeps P letters after keeps [] key over holds = holds
key_run-keeps P letters after keeps (a ∷ w) key over holds = by (after key a) (keeps key a holds over.0) (λ next inside. key_run-keeps P letters after keeps w next over.1 inside)
  where
    by : (o : Option (List ℕ)) → MatchOption o ⊤ P → ((next : List ℕ) → P next → MatchOption (key_run after next w) ⊤ P) → MatchOption (option_and_then (λ next. key_run after next w) o) ⊤ P
    by None all rest = tt
    by (Some next) all rest = rest next all

-- after a word the key's acceptance is that of the key it leads to
pub key_accepts-append : (after : List ℕ → ℕ → Option (List ℕ)) (accepts : List ℕ → Bool) (w u key : List ℕ) → key_accepts after accepts key (w ++ u) ≡ option_map_or (λ k. key_accepts after accepts k u) (key_run after key w) false
key_accepts-append after accepts [] u key = refl
key_accepts-append after accepts (a ∷ w) u key = by (after key a) (λ next. key_accepts-append after accepts w u next)
  where
    by : (o : Option (List ℕ)) → ((next : List ℕ) → key_accepts after accepts next (w ++ u) ≡ option_map_or (λ k. key_accepts after accepts k u) (key_run after next w) false)
        → option_map_or (λ next. key_accepts after accepts next (w ++ u)) o false ≡ option_map_or (λ k. key_accepts after accepts k u) (option_and_then (λ next. key_run after next w) o) false
    by None rest = refl
    by (Some next) rest = rest next
