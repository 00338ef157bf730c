-- The branching automaton accepts the words that a file accepts.
use Rattle.std.proofs.Common.{◌≡◌, ℕ, List, [], ◌∷◌, sym, ◌∙◌, subst}
use Rattle.std.specs.List.{AllZip}
use Rattle.digit_tuple.specs.Automaton.{Branching, Path}
use Rattle.digit_tuple.proofs.LetterLemmas.{code_of-injective}
use Rattle.dfa_reading.specs.Listed.{Listed, Moves, MovesAlong}
use Rattle.dfa_reading.specs.Branching.{IsBranching, IsLetterOfDigits, BranchingAcceptsListed}
use Rattle.dfa_reading.proofs.Letters.{takes_digits}

module _ (sizes : List ℕ) (listed : Listed) (n : Branching) (is : IsBranching sizes listed n) where
  path_moves : (word : List (List ℕ)) (letters : List ℕ) (p q : ℕ) → AllZip (IsLetterOfDigits sizes) word letters → Path n p letters q → MovesAlong sizes listed p word q
  path_moves [] [] p q codes path = path
  path_moves [] (a ∷ letters) p q codes path = absurd codes
  path_moves (t ∷ word) [] p q codes path = absurd codes
  path_moves (t ∷ word) (a ∷ letters) p q codes (r, leads, path) =
      let (tuple, moves, code) = (is.leads p a r).0 leads in
      let (line, among, from, takes, to) = moves in
      let same : tuple ≡ t = code_of-injective sizes tuple t (takes_digits sizes line.digits tuple takes) codes.0.fit (sym code ∙ codes.0.letter_is) in
      (r, subst (λ (u : List ℕ). Moves sizes listed p u r) same moves, path_moves word letters r q codes.1 path)

  moves_path : (word : List (List ℕ)) (letters : List ℕ) (p q : ℕ) → AllZip (IsLetterOfDigits sizes) word letters → MovesAlong sizes listed p word q → Path n p letters q
  moves_path [] [] p q codes along = along
  moves_path [] (a ∷ letters) p q codes along = absurd codes
  moves_path (t ∷ word) [] p q codes along = absurd codes
  moves_path (t ∷ word) (a ∷ letters) p q codes (r, moves, along) = (r, (is.leads p a r).1 (t, moves, codes.0.letter_is), moves_path word letters r q codes.1 along)

pub accepts_listed : BranchingAcceptsListed
accepts_listed sizes listed n is word letters codes = (
  (λ h. (h.0, path_moves sizes listed n is word letters 0 h.0 codes h.1, (is.accepting h.0).0 h.2)),
  (λ h. (h.0, moves_path sizes listed n is word letters 0 h.0 codes h.1, (is.accepting h.0).1 h.2)),
)
