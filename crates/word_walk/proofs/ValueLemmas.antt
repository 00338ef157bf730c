-- What a walk's fields say of its value.
use Rattle.std.proofs.Common.{◌≡◌, ℕ, List, Option, None, Some, MatchOption, ap, sym, subst}
use Rattle.std.specs.Option.{option_map}
use Rattle.digit_tuple.specs.Deterministic.{Automaton, accepts_of}
use Rattle.word_walk.specs.Following.{IsLast, IsNext}
use Rattle.word_walk.specs.Walks.{WalkValue}

pub map_none : {X : Type 0} (f : X → List ℕ) (o : Option X) → o ≡ None → option_map f o ≡ None
map_none f o is = ap (option_map f) is

pub map_some : {X : Type 0} (f : X → List ℕ) (o : Option X) (x : X) → o ≡ Some x → option_map f o ≡ Some (f x)
map_some f o x is = ap (option_map f) is

pub match_weaker : {X A B : Type 0} {P Q : X → Type 0} (o : Option X) → (A → B) → ((x : X) → P x → Q x) → MatchOption o A P → MatchOption o B Q
match_weaker None none some is = none is
match_weaker (Some x) none some is = some x is

pub IsLast-as : (walk : WalkValue) (d : Automaton) (place : Option (List ℕ)) → d ≡ walk.listing → walk.place ≡ place → IsLast (accepts_of d) place → IsLast (accepts_of walk.listing) walk.place
IsLast-as walk d place same at last = subst (λ (p : Option (List ℕ)). IsLast (accepts_of walk.listing) p) (sym at) (subst (λ (x : Automaton). IsLast (accepts_of x) place) same last)

pub IsNext-as : (walk : WalkValue) (d : Automaton) (place : Option (List ℕ)) (w : List ℕ) → d ≡ walk.listing → walk.place ≡ place → IsNext (accepts_of d) place w → IsNext (accepts_of walk.listing) walk.place w
IsNext-as walk d place w same at next = subst (λ (p : Option (List ℕ)). IsNext (accepts_of walk.listing) p w) (sym at) (subst (λ (x : Automaton). IsNext (accepts_of x) place w) same next)
