-- Paths of automata with links: along the transitions of the automaton, and through the link where a word is accepted.
use Rattle.std.proofs.Common.{◌≡◌, ◌↔◌, ◌⊎◌, inl, inr, ℕ, ◌<◌, true, false, List, [], ◌∷◌, ◌++◌, length, Option, None, Some, refl, sym, ap, ◌∙◌, true≢false, arith}
use Rattle.std.specs.Option.{option_and_then, option_map_or}
use Rattle.std.proofs.lemmas.Option.{none-some, same_Some}
use Rattle.digit_tuple.specs.Automaton.{Branching, Leads, Path}
use Rattle.digit_tuple.specs.Deterministic.{Automaton, IsTable, accepting_of, accepts_from, letters_of, run_of, states_of, step_of}
use Rattle.minimise.proofs.RunLemmas.{step_within}

-- a letter leads from a state of the automaton where it does there, and to the link where it leads to an accepting state there
abbrev pub LeadsLinked : Automaton → Option ℕ → Branching → Type 0
LeadsLinked a link n = (p c q : ℕ) → p < states_of a → Leads n p c q ↔ ((step_of a p c ≡ Some q) ⊎ ((link ≡ Some q) × ((t : ℕ) × (step_of a p c ≡ Some t) × (accepting_of a t ≡ true))))

module _ (a : Automaton) (table : IsTable (letters_of a) a.states) (link : Option ℕ) (n : Branching) (leads : LeadsLinked a link n) where
  -- the automaton's runs are paths
  pub path_from_run : (w : List ℕ) (p q : ℕ) → p < states_of a → run_of a p w ≡ Some q → Path n p w q
  path_from_run [] p q low is = same_Some p q is
  path_from_run (c ∷ w) p q low is = by (step_of a p c) refl is (λ t. path_from_run w t q)
    where
      by : (o : Option ℕ) → step_of a p c ≡ o → option_and_then (λ t. run_of a t w) o ≡ Some q → ((t : ℕ) → t < states_of a → run_of a t w ≡ Some q → Path n t w q) → (r : ℕ) × Leads n p c r × Path n r w q
      by None step none rest = absurd (none-some _ none)
      by (Some t) step some rest = (t, (leads p c t low).1 (inl step), rest t (step_within a p c t table low step) some)

  -- an accepted word of a letter or more leads to the link
  pub path_from_accepted : (u : List ℕ) (c p l : ℕ) → p < states_of a → link ≡ Some l → accepts_from a p (c ∷ u) ≡ true → Path n p (c ∷ u) l
  path_from_accepted [] c p l low to is = by (step_of a p c) refl is
    where
      by : (o : Option ℕ) → step_of a p c ≡ o → option_map_or (λ t. accepts_from a t []) o false ≡ true → Path n p (c ∷ []) l
      by None step none = absurd (true≢false (sym none))
      by (Some t) step some = (l, (leads p c l low).1 (inr (to, (t, step, some))), refl)
  path_from_accepted (b ∷ u) c p l low to is = by (step_of a p c) refl is (λ t within. path_from_accepted u b t l within to)
    where
      by : (o : Option ℕ) → step_of a p c ≡ o → option_map_or (λ t. accepts_from a t (b ∷ u)) o false ≡ true → ((t : ℕ) → t < states_of a → accepts_from a t (b ∷ u) ≡ true → Path n t (b ∷ u) l) → Path n p (c ∷ b ∷ u) l
      by None step none rest = absurd (true≢false (sym none))
      by (Some t) step some rest = (t, (leads p c t low).1 (inl step), rest t (step_within a p c t table low step) some)

  -- the word is cut after an accepted prefix, where a path goes through the link
  pub record IsCut (p : ℕ) (w : List ℕ) (q : ℕ) : Type 0 where
    pub prefix : List ℕ
    pub rest : List ℕ
    pub is : w ≡ prefix ++ rest
    pub accepted : accepts_from a p prefix ≡ true
    pub state : ℕ
    pub to : link ≡ Some state
    pub path : Path n state rest q
    pub shorter : length rest < length w

  -- a path is a run, or goes through the link
  pub cut_from_path : (w : List ℕ) (p q : ℕ) → p < states_of a → Path n p w q → (run_of a p w ≡ Some q) ⊎ IsCut p w q
  cut_from_path [] p q low path = inl (ap Some path)
  cut_from_path (c ∷ w) p q low path = by ((leads p c path.0 low).0 path.1) (λ within. cut_from_path w path.0 q within path.2)
    where
      further : step_of a p c ≡ Some path.0 → (run_of a path.0 w ≡ Some q) ⊎ IsCut path.0 w q → (run_of a p (c ∷ w) ≡ Some q) ⊎ IsCut p (c ∷ w) q
      further step (inl run) = inl (ap (λ (o : Option ℕ). option_and_then (λ t. run_of a t w) o) step ∙ run)
      further step (inr cut) = inr (record {
        prefix = c ∷ cut.prefix;
        rest = cut.rest;
        is = ap (λ v. c ∷ v) cut.is;
        accepted = ap (λ (o : Option ℕ). option_map_or (λ t. accepts_from a t cut.prefix) o false) step ∙ cut.accepted;
        state = cut.state;
        to = cut.to;
        path = cut.path;
        shorter = omega (arith, cut.shorter);
      })

      by : (step_of a p c ≡ Some path.0) ⊎ ((link ≡ Some path.0) × ((t : ℕ) × (step_of a p c ≡ Some t) × (accepting_of a t ≡ true)))
          → (path.0 < states_of a → (run_of a path.0 w ≡ Some q) ⊎ IsCut path.0 w q) → (run_of a p (c ∷ w) ≡ Some q) ⊎ IsCut p (c ∷ w) q
      by (inl step) rest = further step (rest (step_within a p c path.0 table low step))
      by (inr found) rest = inr (record {
        prefix = c ∷ [];
        rest = w;
        is = refl;
        accepted = ap (λ (o : Option ℕ). option_map_or (λ t. accepts_from a t []) o false) found.1.1 ∙ found.1.2;
        state = path.0;
        to = found.0;
        path = path.2;
        shorter = omega arith;
      })
