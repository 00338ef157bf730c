-- The reversal of a deterministic automaton.
use Rattle.std.proofs.Common.{◌≡◌, ℕ, ◌<◌, Bool, true, false, List, [], ◌∷◌, ◌++◌, reverse, length, get_or, Option, None, Some, ◌↔◌, refl, sym, ap, ◌∙◌, subst, true≢false, append-nil, arith}
use Rattle.std.specs.List.{Contains}
use Rattle.std.specs.Option.{option_and_then, option_map_or, IfSome}
use Rattle.std.proofs.lemmas.Option.{same_Some}
use Rattle.std.proofs.lemmas.List.{reverse-append, reverse-reverse}
use Rattle.std.proofs.lemmas.List.Elements.{All-contains_itself}
use Rattle.digit_tuple.specs.Automaton as branching
use Rattle.digit_tuple.specs.Automaton.{Branching, IsBranchTable, Leads, Path}
use Rattle.digit_tuple.specs.Deterministic.{Automaton, IsTable, states_of, letters_of, step_of, run_of, accepts_from, accepts_of, accepting_of}
use Rattle.digit_tuple.specs.FirstWords.{IsNumberedByFirsts}
use Rattle.digit_tuple.specs.Letters.{IsWord, product}
use Rattle.digit_tuple.proofs.DfaLemmas.{row_at, target_by-in_range}
use Rattle.digit_tuple.proofs.PaddingLemmas.{reverse-cons, IsWord-reverse}
use Rattle.digit_tuple.proofs.PathLemmas.{Path-in_range}
use Rattle.digit_tuple.proofs.WordLemmas.{IsWord-append, run_of-append, run_of-push, accepts_from-append}
use Rattle.digit_tuple.specs.Keys.{key_run, key_accepts, LeadAlike}
use Rattle.digit_tuple.proofs.KeyLemmas.{key_accepts-run, key_accepts-append}
use Rattle.digit_tuple.specs.Reversed.{IsReversal}
use Rattle.digit_tuple.specs.AcceptingStates.{AreAccepting}
use Rattle.determinise.specs.Reversed.{SameReversedResidual}
use Rattle.determinise.specs.Subsets.{set_after, has_accepting, IsStateSet}
use Rattle.digit_tuple.proofs.MemberLemmas.{Contains-none, list_any-contains, contains_from_list_any}
use Rattle.determinise.proofs.SubsetLemmas.{set_of, key_run-members, key_run-set, same_set}

pub same_bool : (a b : Bool) → (a ≡ true → b ≡ true) → (b ≡ true → a ≡ true) → a ≡ b
same_bool true b forth back = sym (forth refl)
same_bool false true forth back = back refl
same_bool false false forth back = refl

-- a state accepts the words that lead to an accepting state
pub accepts_from-run : (t : Automaton) (q : ℕ) (w : List ℕ) → accepts_from t q w ≡ option_map_or (accepting_of t) (run_of t q w) false
accepts_from-run t q w = ap (accepts_from t q) (sym (append-nil w)) ∙ accepts_from-append t q w []

module _ (t : Automaton) (table : IsTable (letters_of t) t.states) where
  pub run_of-in_range : (w : List ℕ) (q r : ℕ) → q < states_of t → run_of t q w ≡ Some r → r < states_of t
  run_of-in_range [] q r within leads = omega (arith, within, same_Some q r leads)
  run_of-in_range (a ∷ w) q r within leads = by (step_of t q a) (target_by-in_range (letters_of t) (states_of t) _ a (row_at t q table within).in_range) leads (λ p inside. run_of-in_range w p r inside)
    where
      by : (o : Option ℕ) → IfSome o (λ p. p < states_of t) → option_and_then (λ p. run_of t p w) o ≡ Some r → ((p : ℕ) → p < states_of t → run_of t p w ≡ Some r → r < states_of t) → r < states_of t
      by None small is rest = let none : None ≡ Some r = is in cc
      by (Some p) small is rest = rest p small is

  module _ (n : Branching) (turned : IsReversal t n) where
    -- paths are runs of the reversed words
    pub run_of-path : (w : List ℕ) (f q : ℕ) → Path n f w q → run_of t q (reverse w) ≡ Some f
    run_of-path [] f q path = ap Some (sym path)
    run_of-path (a ∷ w) f q path =
        ap (run_of t q) (reverse-cons a w) ∙ run_of-push t q path.0 (reverse w) a (run_of-path w path.0 q path.2) ∙ ((turned.leads f a path.0).0 path.1).1

    pub path_from_run : (w : List ℕ) (f q : ℕ) → q < states_of t → run_of t q (reverse w) ≡ Some f → Path n f w q
    path_from_run [] f q within leads = sym (same_Some q f leads)
    path_from_run (a ∷ w) f q within leads = by (run_of t q (reverse w)) refl (sym (run_of-append t q (reverse w) (a ∷ [])) ∙ ap (run_of t q) (sym (reverse-cons a w)) ∙ leads) (λ r. path_from_run w r q within)
      where
        last : (r : ℕ) → run_of t r (a ∷ []) ≡ Some f → step_of t r a ≡ Some f
        last r is = one (step_of t r a) is
          where
            one : (o : Option ℕ) → option_and_then (λ p. Some p) o ≡ Some f → o ≡ Some f
            one None none = none
            one (Some p) some = some

        by : (o : Option ℕ) → run_of t q (reverse w) ≡ o → option_and_then (λ r. run_of t r (a ∷ [])) o ≡ Some f → ((r : ℕ) → run_of t q (reverse w) ≡ Some r → Path n r w q) → Path n f (a ∷ w) q
        by None is none rest = let both : None ≡ Some f = none in cc
        by (Some r) is some rest = (r, (turned.leads f a r).1 (run_of-in_range (reverse w) q r within is, last r some), rest r is)

    module _ (first : List ℕ) (accepting : AreAccepting t first) (ntable : IsBranchTable (branching.letters_of n) n.states) where
      -- the set after a word has the states that accept the reversed word
      pub set_after-word : (w : List ℕ) (q : ℕ) → Contains (set_of n ntable (key_run (set_after n) first w)) q ↔ ((q < states_of t) × (accepts_from t q (reverse w) ≡ true))
      set_after-word w q = ((λ there. forth ((key_run-members n ntable w first q).0 there)), (λ both. (key_run-members n ntable w first q).1 (back both.0 (run_of t q (reverse w)) refl (sym (accepts_from-run t q (reverse w)) ∙ both.1))))
        where
          forth : (f : ℕ) × Contains first f × Path n f w q → (q < states_of t) × (accepts_from t q (reverse w) ≡ true)
          forth found =
              let is = (accepting.members found.0).0 found.1 in
              let low : found.0 < branching.states_of n = omega (arith, is.0, turned.states) in
              let inside = Path-in_range n w found.0 q ntable low found.2 in (
                omega (arith, inside, turned.states),
                accepts_from-run t q (reverse w) ∙ ap (λ o. option_map_or (accepting_of t) o false) (run_of-path w found.0 q found.2) ∙ is.1,
              )

          back : q < states_of t → (o : Option ℕ) → run_of t q (reverse w) ≡ o → option_map_or (accepting_of t) o false ≡ true → (f : ℕ) × Contains first f × Path n f w q
          back within None is refused = absurd (true≢false (sym refused))
          back within (Some f) is taken = (f, (accepting.members f).1 (run_of-in_range (reverse w) q f within is, taken), path_from_run w f q within is)

      -- a word is accepted by the sets where the reversed word is
      pub key_accepts-reversed : (w : List ℕ) → key_accepts (set_after n) (has_accepting n) first w ≡ accepts_of t (reverse w)
      key_accepts-reversed w = key_accepts-run (set_after n) (has_accepting n) w first
          ∙ same_bool (option_map_or (has_accepting n) (key_run (set_after n) first w) false) (accepts_of t (reverse w)) (forth (key_run (set_after n) first w) (set_after-word w)) (back (key_run (set_after n) first w) (set_after-word w))
        where
          forth : (o : Option (List ℕ)) → ((q : ℕ) → Contains (set_of n ntable o) q ↔ ((q < states_of t) × (accepts_from t q (reverse w) ≡ true))) → option_map_or (has_accepting n) o false ≡ true → accepts_of t (reverse w) ≡ true
          forth None iff is = absurd (true≢false (sym is))
          forth (Some set) iff is =
              let found = contains_from_list_any (branching.accepting_of n) set is in
              subst (λ q. accepts_from t q (reverse w) ≡ true) ((turned.accepting found.0).0 found.2) ((iff found.0).0 found.1).1

          back : (o : Option (List ℕ)) → ((q : ℕ) → Contains (set_of n ntable o) q ↔ ((q < states_of t) × (accepts_from t q (reverse w) ≡ true))) → accepts_of t (reverse w) ≡ true → option_map_or (has_accepting n) o false ≡ true
          back None iff is = absurd (Contains-none 0 ((iff 0).1 (table.initial, is)))
          back (Some set) iff is = list_any-contains (branching.accepting_of n) set 0 ((iff 0).1 (table.initial, is)) ((turned.accepting 0).1 refl)

      module _ (d : Automaton) (sizes : t.sizes ≡ d.sizes) (language : (w : List ℕ) → IsWord (letters_of d) w → accepts_of t w ≡ accepts_of d w) where
        letters_same : letters_of t ≡ letters_of d
        letters_same = ap product sizes

        -- words that lead to one set have one residual of the reversed language
        pub SameReversedResidual-lead : (w v : List ℕ) → IsWord (letters_of d) w → IsWord (letters_of d) v → LeadAlike (set_after n) first w v → SameReversedResidual d w v
        SameReversedResidual-lead w v over too same u more =
            sym (language (reverse (w ++ u)) (IsWord-reverse (letters_of d) (w ++ u) (IsWord-append (letters_of d) w u over more)))
            ∙ sym (key_accepts-reversed (w ++ u)) ∙ key_accepts-append (set_after n) (has_accepting n) w u first
            ∙ ap (λ o. option_map_or (λ k. key_accepts (set_after n) (has_accepting n) k u) o false) same
            ∙ sym (key_accepts-append (set_after n) (has_accepting n) v u first) ∙ key_accepts-reversed (v ++ u)
            ∙ language (reverse (v ++ u)) (IsWord-reverse (letters_of d) (v ++ u) (IsWord-append (letters_of d) v u too more))

        -- the other way, since a word leads to each state
        module _ (firsts : List (List ℕ)) (numbered : IsNumberedByFirsts t firsts) (is_set : IsStateSet n first) where
          accepts_after : (q : ℕ) → q < states_of t → (w : List ℕ) → accepts_of t (reverse (w ++ reverse (get_or firsts q []))) ≡ accepts_from t q (reverse w)
          accepts_after q within w =
              ap (accepts_of t) (reverse-append w (reverse (get_or firsts q [])) ∙ ap (λ x. x ++ reverse w) (reverse-reverse (get_or firsts q [])))
              ∙ accepts_from-append t 0 (get_or firsts q []) (reverse w) ∙ ap (λ o. option_map_or (λ p. accepts_from t p (reverse w)) o false) (numbered.lead q within)

          same_from : (q : ℕ) → q < states_of t → (w v : List ℕ) → IsWord (letters_of d) w → IsWord (letters_of d) v → SameReversedResidual d w v → accepts_from t q (reverse w) ≡ accepts_from t q (reverse v)
          same_from q within w v over too same =
              let u : List ℕ = reverse (get_or firsts q []) in
              let word : IsWord (letters_of d) u = IsWord-reverse (letters_of d) (get_or firsts q []) (subst (λ l. IsWord l (get_or firsts q [])) letters_same (numbered.over q within)) in
              sym (accepts_after q within w)
              ∙ language (reverse (w ++ u)) (IsWord-reverse (letters_of d) (w ++ u) (IsWord-append (letters_of d) w u over word)) ∙ same u word
              ∙ sym (language (reverse (v ++ u)) (IsWord-reverse (letters_of d) (v ++ u) (IsWord-append (letters_of d) v u too word)))
              ∙ accepts_after q within v

          pub LeadAlike-residual : (w v : List ℕ) → IsWord (letters_of d) w → IsWord (letters_of d) v → SameReversedResidual d w v → LeadAlike (set_after n) first w v
          LeadAlike-residual w v over too same =
              same_set n ntable (key_run (set_after n) first w) (key_run (set_after n) first v) (key_run-set n ntable first is_set w (subst (λ l. IsWord l w) letters_n over)) (key_run-set n ntable first is_set v (subst (λ l. IsWord l v) letters_n too))
              (λ q. (
                (λ there. let both = (set_after-word w q).0 there in (set_after-word v q).1 (both.0, sym (same_from q both.0 w v over too same) ∙ both.1)),
                (λ there. let both = (set_after-word v q).0 there in (set_after-word w q).1 (both.0, same_from q both.0 w v over too same ∙ both.1)),
              ))
            where
              letters_n : letters_of d ≡ branching.letters_of n
              letters_n = ap product (sym sizes ∙ sym turned.sizes)

-- where no state accepts
pub accepts_of-none : (t : Automaton) → IsTable (letters_of t) t.states → AreAccepting t [] → (w : List ℕ) → accepts_of t w ≡ false
accepts_of-none t table accepting w = accepts_from-run t 0 w ∙ by (run_of t 0 w) (λ r is. run_of-in_range t table w 0 r table.initial is) refl
  where
    none : (q : ℕ) → q < states_of t → (b : Bool) → accepting_of t q ≡ b → b ≡ false
    none q within true is = absurd (Contains-none q ((accepting.members q).1 (within, is)))
    none q within false is = refl

    by : (o : Option ℕ) → ((r : ℕ) → o ≡ Some r → r < states_of t) → o ≡ o → option_map_or (accepting_of t) o false ≡ false
    by None within same = refl
    by (Some r) within same = none r (within r refl) (accepting_of t r) refl

-- accepting states are a set of the reversed automaton's
pub IsStateSet-accepting : (t : Automaton) (n : Branching) → IsReversal t n → (first : List ℕ) → AreAccepting t first → 0 < length first → IsStateSet n first
IsStateSet-accepting t n turned first accepting some = record {
  some = some;
  in_range = λ k d within. let both = (accepting.members (get_or first k d)).0 (All-contains_itself first k d within) in omega (arith, both.0, turned.states);
  ascending = accepting.ascending;
}

pub nil_of_length : (xs : List ℕ) → length xs ≡ 0 → xs ≡ []
nil_of_length [] none = refl
nil_of_length (x ∷ xs) none = absurd (omega arith)
