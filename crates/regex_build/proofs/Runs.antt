-- The machine over a list of tokens.
use Rattle.std.proofs.Common.{◌≡◌, refl, ◌∙◌, ap, ℕ, Bool, true, false, List, [], ◌∷◌, ◌++◌, Option, None, Some}
use Rattle.std.specs.Prelude.{ℤ}
use Rattle.regex_build.specs.declared.postfix_symbol.PostfixSymbol.{PostfixSymbol}
use Rattle.regex_build.specs.declared.reading.Group.{Group}
use Rattle.regex_build.specs.declared.reading.Stage.{Stage}
use Rattle.regex_build.specs.Tokens.{Token}
use Rattle.regex_build.specs.Machine.{State, gate, step}

abbrev pub after : {X Y : Type 0} → Option X → (X → Option Y) → Option Y
after None k = None
after (Some x) k = k x

abbrev pub run : ℕ → List Token → State → Option State
run tracks [] s = Some s
run tracks (t ∷ ts) s = after (step tracks s t) (λ n. run tracks ts n)

-- a state, by its parts
abbrev pub st : List Group → Group → Stage → List ℤ → List PostfixSymbol → State
st os g p l ss = record { outer = os; group = g; stage = p; letter = l; symbols = ss }

pub run-append : (tracks : ℕ) (ts us : List Token) (s n : State) → run tracks ts s ≡ Some n → run tracks (ts ++ us) s ≡ run tracks us n
run-append tracks [] us s n e = ap (λ o. after o (λ m. run tracks us m)) e
run-append tracks (t ∷ ts) us s n e = along (step tracks s t) (λ m. run-append tracks ts us m n) e
  where
    along : (o : Option State) → ((m : State) → run tracks ts m ≡ Some n → run tracks (ts ++ us) m ≡ run tracks us n) → after o (λ m. run tracks ts m) ≡ Some n → after o (λ m. run tracks (ts ++ us) m) ≡ run tracks us n
    along None h e = absurd cc
    along (Some m) h e = h m e

pub run-push : (tracks : ℕ) (ts : List Token) (t : Token) (s n : State) → run tracks ts s ≡ Some n → run tracks (ts ++ t ∷ []) s ≡ step tracks n t
run-push tracks ts t s n e = run-append tracks ts (t ∷ []) s n e ∙ lone (step tracks n t)
  where
    lone : (o : Option State) → after o (λ m. run tracks [] m) ≡ o
    lone None = refl
    lone (Some m) = refl

-- a gate that is open
pub opened : {X : Type 0} (b : Bool) (o : Option X) → b ≡ true → gate b o ≡ o
opened true o e = refl
opened false o e = absurd cc
