-- Paths of a nondeterministic automaton.
use Rattle.std.proofs.Common.{ℕ, ◌<◌, List, [], ◌∷◌, ◌++◌, subst, sym, refl}
use Rattle.digit_tuple.specs.Automaton.{Branching, Path, Leads, states_of, letters_of, IsBranchTable}
use Rattle.digit_tuple.proofs.TableLemmas.{Leads-in_range}

-- a path over two words, one after the other
pub Path-append : (n : Branching) (u v : List ℕ) (p r q : ℕ) → Path n p u r → Path n r v q → Path n p (u ++ v) q
Path-append n [] v p r q first second = subst (λ k. Path n k v q) (sym first) second
Path-append n (a ∷ u) v p r q first second = (first.0, first.1, Path-append n u v first.0 r q first.2 second)

-- where the first word led
pub Path-split : (n : Branching) (u v : List ℕ) (p q : ℕ) → Path n p (u ++ v) q → (r : ℕ) × Path n p u r × Path n r v q
Path-split n [] v p q path = (p, refl, path)
Path-split n (a ∷ u) v p q path =
    let rest = Path-split n u v path.0 q path.2 in
    (rest.0, (path.0, path.1, rest.1), rest.2)

-- one more letter at the end
pub Path-push : (n : Branching) (u : List ℕ) (a p r q : ℕ) → Path n p u r → Leads n r a q → Path n p (u ++ a ∷ []) q
Path-push n u a p r q path leads = Path-append n u (a ∷ []) p r q path (q, leads, refl)

-- a path stays among the states
pub Path-in_range : (n : Branching) (w : List ℕ) (p q : ℕ) → IsBranchTable (letters_of n) n.states → p < states_of n → Path n p w q → q < states_of n
Path-in_range n [] p q table within path = subst (λ k. k < states_of n) path within
Path-in_range n (a ∷ w) p q table within path =
    Path-in_range n w path.0 q table (Leads-in_range n p a path.0 table path.1).1 path.2
