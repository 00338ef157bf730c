-- The first word of a length, letter by letter.
use Rattle.std.proofs.Common.{◌≡◌, ℕ, suc, List, [], ◌∷◌, ◌++◌, Option, None, Some, sym, ap, ◌∙◌}
use Rattle.std.specs.Option.{option_map_or}
use Rattle.std.proofs.lemmas.List.{append_assoc, append-nil}
use Rattle.digit_tuple.specs.Deterministic.{Automaton, transitions_of}
use Rattle.digit_tuple.specs.declared.transitions.Transition.{Transition}
use Rattle.word_walk.specs.Levels.{first_live, least_word}

module _ (d : Automaton) (k q : ℕ) (done : List ℕ) where
  -- one letter more
  pub least_word-more : (e : Transition) → first_live d k 0 (transitions_of d q) ≡ Some e → (done ++ e.letter ∷ []) ++ least_word d k e.target ≡ done ++ least_word d (suc k) q
  least_word-more e found = append_assoc done (e.letter ∷ []) (least_word d k e.target) ∙ ap (λ (w : List ℕ). done ++ w) (sym (ap (λ (o : Option Transition). option_map_or (λ f. f.letter ∷ least_word d k f.target) o []) found))

  -- no letter more
  pub least_word-end : first_live d k 0 (transitions_of d q) ≡ None → done ≡ done ++ least_word d (suc k) q
  least_word-end none = sym (append-nil done) ∙ ap (λ (w : List ℕ). done ++ w) (sym (ap (λ (o : Option Transition). option_map_or (λ f. f.letter ∷ least_word d k f.target) o []) none))
