-- The next word of the same length, found from the last letter on.
use Rattle.std.proofs.Common.{◌≡◌, ℕ, zero, suc, ◌+◌, ◌<◌, ◌≤◌, List, [], ◌∷◌, ◌++◌, length, get_or, take, drop, Option, None, Some, refl, sym, ap, ◌∙◌, arith}
use Rattle.std.specs.Option.{option_map, option_map_or, option_and_then, option_or}
use Rattle.std.proofs.lemmas.List.{take-append-drop, take_more}
use Rattle.std.proofs.Math.Seq.{drop-cons}
use Rattle.digit_tuple.specs.Deterministic.{Automaton, step_of, run_of, transitions_of}
use Rattle.digit_tuple.specs.declared.transitions.Transition.{Transition}
use Rattle.digit_tuple.proofs.WordLemmas.{run_of-push}
use Rattle.word_walk.specs.Levels.{first_live}
use Rattle.word_walk.specs.Raising.{path_of, raised, word_by}

module _ (d : Automaton) where
  pub length-path_of : (w : List ℕ) (q : ℕ) → length (path_of d q w) ≤ length w
  length-path_of [] q = omega arith
  length-path_of (a ∷ w) q = by (step_of d q a) (λ p. length-path_of w p)
    where
      by : (o : Option ℕ) → ((p : ℕ) → length (path_of d p w) ≤ length w) → suc (length (option_map_or (λ p. path_of d p w) o [])) ≤ suc (length w)
      by None rest = omega arith
      by (Some p) rest = omega (arith, rest p)

  pub path_of-at : (w : List ℕ) (q k : ℕ) → k < length (path_of d q w) → run_of d q (take k w) ≡ Some (get_or (path_of d q w) k 0)
  path_of-at [] q k within = absurd (omega (arith, within))
  path_of-at (a ∷ w) q zero within = refl
  path_of-at (a ∷ w) q (suc k) within = by (step_of d q a) within (λ p. path_of-at w p k)
    where
      by : (o : Option ℕ) → suc k < suc (length (option_map_or (λ p. path_of d p w) o [])) → ((p : ℕ) → k < length (path_of d p w) → run_of d p (take k w) ≡ Some (get_or (path_of d p w) k 0))
          → option_and_then (λ p. run_of d p (take k w)) o ≡ Some (get_or (option_map_or (λ p. path_of d p w) o []) k 0)
      by None inside rest = absurd (omega (arith, inside))
      by (Some p) inside rest = rest p (omega (arith, inside))

  -- what can be raised after the first so many letters
  abbrev pub raised_after : ℕ → ℕ → List ℕ → Option (List ℕ)
  raised_after q k w = option_and_then (λ p. raised d p (drop k w)) (run_of d q (take k w))

  -- nothing after the path
  pub raised_after-path : (w : List ℕ) (q : ℕ) → raised_after q (length (path_of d q w)) w ≡ None
  raised_after-path [] q = refl
  raised_after-path (a ∷ w) q = by (step_of d q a) (λ p. raised_after-path w p)
    where
      by : (o : Option ℕ) → ((p : ℕ) → raised_after p (length (path_of d p w)) w ≡ None)
          → option_and_then (λ p. raised d p (drop (length (option_map_or (λ p. path_of d p w) o [])) w)) (option_and_then (λ p. run_of d p (take (length (option_map_or (λ p. path_of d p w) o [])) w)) o) ≡ None
      by None rest = refl
      by (Some p) rest = rest p

  pub raised_prefix : (u : List ℕ) (q p : ℕ) (v x : List ℕ) → run_of d q u ≡ Some p → raised d p v ≡ Some x → raised d q (u ++ v) ≡ Some (u ++ x)
  raised_prefix [] q p v x leads is = let same : Some q ≡ Some p = leads in let one : q ≡ p = cc in ap (λ r. raised d r v) one ∙ is
  raised_prefix (a ∷ u) q p v x leads is = by (step_of d q a) leads (λ r on. raised_prefix u r p v x on is)
    where
      here : Option (List ℕ)
      here = option_map (word_by d (length (u ++ v))) (first_live d (length (u ++ v)) (suc a) (transitions_of d q))

      by : (o : Option ℕ) → option_and_then (λ r. run_of d r u) o ≡ Some p → ((r : ℕ) → run_of d r u ≡ Some p → raised d r (u ++ v) ≡ Some (u ++ x))
          → option_or (option_map (λ (y : List ℕ). a ∷ y) (option_and_then (λ r. raised d r (u ++ v)) o)) here ≡ Some (a ∷ (u ++ x))
      by None nowhere rest = let both : None ≡ Some p = nowhere in absurd (cc)
      by (Some r) on rest = ap (λ (o : Option (List ℕ)). option_or (option_map (λ (y : List ℕ). a ∷ y) o) here) (rest r on)

  module _ (w : List ℕ) (k : ℕ) (within : k < length (path_of d 0 w)) (none : raised_after 0 (k + 1) w ≡ None) where
    abbrev q : ℕ
    q = get_or (path_of d 0 w) k 0

    abbrev a : ℕ
    a = get_or w k 0

    inside : k < length w
    inside = omega (arith, within, length-path_of w 0)

    dropped : drop k w ≡ a ∷ drop (k + 1) w
    dropped = let next : suc k ≡ k + 1 = omega arith in drop-cons w k 0 inside ∙ ap (λ n. a ∷ drop n w) next

    abbrev rest : ℕ
    rest = length (drop (k + 1) w)

    abbrev here : Option Transition
    here = first_live d rest (suc a) (transitions_of d q)

    -- only a greater letter is left
    raised-here : raised d q (drop k w) ≡ option_map (word_by d rest) here
    raised-here = ap (raised d q) dropped ∙ ap (λ (o : Option (List ℕ)). option_or (option_map (λ (y : List ℕ). a ∷ y) o) (option_map (word_by d rest) here)) deeper
      where
        deeper : option_and_then (λ p. raised d p (drop (k + 1) w)) (step_of d q a) ≡ None
        deeper = ap (option_and_then (λ p. raised d p (drop (k + 1) w))) (sym (run_of-push d 0 q (take k w) a (path_of-at w 0 k within)) ∙ ap (run_of d 0) (sym (take_more w k 0 inside))) ∙ none

    pub raised_after-none : here ≡ None → raised_after 0 k w ≡ None
    raised_after-none nothing = ap (option_and_then (λ p. raised d p (drop k w))) (path_of-at w 0 k within) ∙ raised-here ∙ ap (option_map (word_by d rest)) nothing

    pub raised-some : (e : Transition) → here ≡ Some e → raised d 0 w ≡ Some (take k w ++ word_by d rest e)
    raised-some e found = ap (raised d 0) (sym (take-append-drop k w)) ∙ raised_prefix (take k w) 0 q (drop k w) (word_by d rest e) (path_of-at w 0 k within) (raised-here ∙ ap (option_map (word_by d rest)) found)
