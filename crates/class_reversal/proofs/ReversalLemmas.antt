-- The automaton of the classes that words have from each state is the canonical one of the reversed words' classes.
use Rattle.std.proofs.Common.{◌≡◌, ◌≢◌, ◌==◌, ◌↔◌, IsTrue, not, ℕ, ◌<◌, ◌≤◌, Bool, true, false, List, [], ◌∷◌, ◌++◌, length, map, reverse, get_or, Option, None, Some, MatchOption, ◌⊎◌, inl, inr, refl, sym, ap, ◌∙◌, subst, true≢false, arith, if◌then◌else◌}
use Rattle.std.specs.List.{range_with_len}
use Rattle.std.specs.Option.{option_map_or}
use Rattle.std.proofs.lemmas.Bool.{cases_lt, eqb-true, eqb-false}
use Rattle.std.proofs.lemmas.List.{get_or-map, length-map, reverse-append, reverse-reverse}
use Rattle.digit_tuple.specs.Deterministic.{Automaton, IsTable, letters_of, states_of, step_of, accepting_of, run_of}
use Rattle.digit_tuple.specs.Explored.{IsExplored, key_at}
use Rattle.digit_tuple.specs.FirstWords.{IsNumberedByFirsts}
use Rattle.digit_tuple.specs.Keys.{LeadAlike, key_run, some_nonzero}
use Rattle.digit_tuple.specs.Letters.{IsWord, product}
use Rattle.digit_tuple.proofs.ExploredLemmas.{run_of-explored}
use Rattle.digit_tuple.proofs.PaddingLemmas.{IsWord-reverse}
use Rattle.digit_tuple.proofs.WordLemmas.{IsWord-append, IsWord-push, run_of-push}
use Rattle.residual_classes.specs.Classes.{class_of}
use Rattle.residual_classes.specs.ClassFunctions.{class_after, class_from}
use Rattle.residual_classes.proofs.ClassFromLemmas.{class_from-append}
use Rattle.minimise.specs.Canonical.{IsCanonicalWithClasses}
use Rattle.minimise.proofs.ClassLeadLemmas.{class_from-lead}
use Rattle.minimise.proofs.LeadLemmas.{lead}
use Rattle.class_reversal.specs.BackwardClasses.{classes_back, first_class, has_class, has_some_class}
use Rattle.class_reversal.specs.ReversedClasses.{GivesReversedClasses, SameReversedClassAfter}
use Rattle.class_reversal.proofs.BackwardLemmas.{key_run-each}
use Rattle.class_reversal.proofs.StateClasses.{class_from-past, each_class, each_class-at, first_of_key, map-same, no_class, none_from_none, none_of_zeros, same_classes}

some_key : {k l : List ℕ} → Some k ≡ Some l → k ≡ l
some_key {k} {l} same = cc

module _ (d : Automaton) (classes : List ℕ) (count : length classes ≡ states_of d) where
  -- what follows a word, reversed, has the class that the reversed word has from where it leads
  reversed_after : (w u : List ℕ) → class_after d classes (reverse (w ++ u)) ≡ class_from d classes (lead d 0 (reverse u)) (reverse w)
  reversed_after w u = ap (class_after d classes) (reverse-append w u) ∙ class_from-lead d classes count (reverse u) (reverse w) 0

  -- where no state has a class, no word has one
  module _ (none : has_some_class classes ≡ false) where
    pub no_class_after : (w : List ℕ) → class_after d classes w ≡ 0
    no_class_after w = sym (each_class-at d classes w 0 count) ∙ no_class (each_class d classes w) (none_from_none d classes w count none) 0

  module _ (some : has_some_class classes ≡ true) where
    -- where a word leads
    leads_to : (w : List ℕ) → key_run (classes_back d) classes w ≡ some_nonzero (each_class d classes (reverse w))
    leads_to w = key_run-each d w classes count some

    -- words that lead to one key have the same classes, reversed, from all states
    pub alike_from_lead : (w v : List ℕ) → LeadAlike (classes_back d) classes w v → SameReversedClassAfter d classes w v
    alike_from_lead w v same u over = reversed_after w u ∙ from (lead d 0 (reverse u)) ∙ sym (reversed_after v u)
      where
        from : (q : ℕ) → class_from d classes q (reverse w) ≡ class_from d classes q (reverse v)
        from q = sym (each_class-at d classes (reverse w) q count)
            ∙ same_classes (each_class d classes (reverse w)) (each_class d classes (reverse v)) (sym (leads_to w) ∙ same ∙ leads_to v) q
            ∙ each_class-at d classes (reverse v) q count

    module _ (firsts : List (List ℕ)) (numbered : IsNumberedByFirsts d firsts) where
      -- the class from a state is that after its first word
      from_first : (q : ℕ) (w : List ℕ) → q < states_of d → class_after d classes (reverse (w ++ reverse (get_or firsts q []))) ≡ class_from d classes q (reverse w)
      from_first q w within =
          ap (class_after d classes) (reverse-append w (reverse (get_or firsts q [])) ∙ ap (λ x. x ++ reverse w) (reverse-reverse (get_or firsts q [])))
          ∙ class_from-append d classes 0 (get_or firsts q []) (reverse w)
          ∙ ap (λ (o : Option ℕ). option_map_or (λ p. class_from d classes p (reverse w)) o 0) (numbered.lead q within)

      first_reversed : (q : ℕ) → q < states_of d → IsWord (letters_of d) (reverse (get_or firsts q []))
      first_reversed q within = IsWord-reverse (letters_of d) (get_or firsts q []) (numbered.over q within)

      -- words after which the same classes follow lead to one key
      pub lead_from_alike : (w v : List ℕ) → SameReversedClassAfter d classes w v → LeadAlike (classes_back d) classes w v
      lead_from_alike w v alike = leads_to w ∙ ap some_nonzero each ∙ sym (leads_to v)
        where
          from : (q : ℕ) → class_from d classes q (reverse w) ≡ class_from d classes q (reverse v)
          from q = by (cases_lt q (states_of d))
            where
              by : (q < states_of d) ⊎ (states_of d ≤ q) → class_from d classes q (reverse w) ≡ class_from d classes q (reverse v)
              by (inl within) = sym (from_first q w within) ∙ alike (reverse (get_or firsts q [])) (first_reversed q within) ∙ from_first q v within
              by (inr past) = class_from-past d classes (reverse w) q count past ∙ sym (class_from-past d classes (reverse v) q count past)

          each : each_class d classes (reverse w) ≡ each_class d classes (reverse v)
          each = map-same (λ q. class_from d classes q (reverse w)) (λ q. class_from d classes q (reverse v)) (range_with_len 0 (states_of d)) from

    -- what was explored
    module _ (e : Automaton) (keys : List (List ℕ)) (explored : IsExplored (letters_of d) classes (classes_back d) has_class keys e) (initial : 0 < states_of e) where
      -- the class of the initial state by each key
      abbrev made : List ℕ
      made = map first_class keys

      made_at : (q : ℕ) → q < states_of e → class_of made q ≡ first_class (key_at keys q)
      made_at q within = get_or-map first_class keys q [] 0 (omega (arith, within, explored.count))

      pub gives_reversed : GivesReversedClasses d classes e made
      gives_reversed w over =
          by (run_of e 0 w) (run_of-explored (letters_of d) classes (classes_back d) has_class keys e explored w 0 initial over)
          ∙ ap (λ key. option_map_or first_class (key_run (classes_back d) key w) 0) explored.start_is
          ∙ ap (λ o. option_map_or first_class o 0) (leads_to w)
          ∙ first_of_key (each_class d classes (reverse w))
          ∙ each_class-at d classes (reverse w) 0 count
        where
          by : (o : Option ℕ) → MatchOption o (key_run (classes_back d) (key_at keys 0) w ≡ None) (λ t. (t < states_of e) × (key_run (classes_back d) (key_at keys 0) w ≡ Some (key_at keys t)))
              → option_map_or (λ p. class_of made p) o 0 ≡ option_map_or first_class (key_run (classes_back d) (key_at keys 0) w) 0
          by None none = ap (λ o. option_map_or first_class o 0) (sym none)
          by (Some t) found = made_at t found.0 ∙ ap (λ o. option_map_or first_class o 0) (sym found.1)

      -- it is canonical, since each state of d has a word that leads to it
      module _ (firsts : List (List ℕ)) (numbered : IsNumberedByFirsts d firsts) (table : IsTable (letters_of e) e.states) (sizes : e.sizes ≡ d.sizes) (words : List (List ℕ)) (ordered : IsNumberedByFirsts e words) where
        letters : letters_of e ≡ letters_of d
        letters = ap product sizes

        word : (w : List ℕ) → IsWord (letters_of e) w → IsWord (letters_of d) w
        word w over = subst (λ n. IsWord n w) letters over

        back : (w : List ℕ) → IsWord (letters_of d) w → IsWord (letters_of e) w
        back w over = subst (λ n. IsWord n w) (sym letters) over

        first_over : (q : ℕ) → q < states_of e → IsWord (letters_of d) (get_or words q [])
        first_over q within = word (get_or words q []) (ordered.over q within)

        -- what follows a word that leads to a state has the class that it has from there
        class_follows : (w u : List ℕ) (q : ℕ) → IsWord (letters_of d) w → IsWord (letters_of d) u → run_of e 0 w ≡ Some q → class_from e made q u ≡ class_after d classes (reverse (w ++ u))
        class_follows w u q over more leads =
            sym (ap (λ (o : Option ℕ). option_map_or (λ p. class_from e made p u) o 0) leads)
            ∙ sym (class_from-append e made 0 w u)
            ∙ gives_reversed (w ++ u) (IsWord-append (letters_of d) w u over more)

        -- the key of a state is that to which each word leads that leads to the state
        key_led : (w : List ℕ) (q : ℕ) → IsWord (letters_of d) w → run_of e 0 w ≡ Some q → some_nonzero (each_class d classes (reverse w)) ≡ Some (key_at keys q)
        key_led w q over leads = sym (leads_to w) ∙ ap (λ key. key_run (classes_back d) key w) (sym explored.start_is)
            ∙ (subst (λ (o : Option ℕ). MatchOption o (key_run (classes_back d) (key_at keys 0) w ≡ None) (λ t. (t < states_of e) × (key_run (classes_back d) (key_at keys 0) w ≡ Some (key_at keys t)))) leads
            (run_of-explored (letters_of d) classes (classes_back d) has_class keys e explored w 0 initial over)).1

        -- different states have different functions
        apart : (p q : ℕ) → p < q → q < states_of e → ((u : List ℕ) → IsWord (letters_of e) u → class_from e made p u ≡ class_from e made q u) → ⊥
        apart p q before within same = explored.apart p q [] before (omega (arith, within, explored.count)) (some_key (
            sym (key_led wp p (first_over p (omega arith)) (ordered.lead p (omega arith)))
            ∙ sym (leads_to wp) ∙ lead_from_alike firsts numbered wp wq alike ∙ leads_to wq
            ∙ key_led wq q (first_over q within) (ordered.lead q within)))
          where
            wp : List ℕ
            wp = get_or words p []

            wq : List ℕ
            wq = get_or words q []

            alike : SameReversedClassAfter d classes wp wq
            alike u over =
                sym (class_follows wp u p (first_over p (omega (arith, before, within))) over (ordered.lead p (omega (arith, before, within))))
                ∙ same u (back u over)
                ∙ class_follows wq u q (first_over q within) over (ordered.lead q within)

        -- from where a letter leads some word has a class
        live : (p a q : ℕ) → p < states_of e → a < letters_of e → step_of e p a ≡ Some q → ((u : List ℕ) → IsWord (letters_of e) u → class_from e made q u ≡ 0) → ⊥
        live p a q within small leads none = missing (key_led w q over there)
          where
            w : List ℕ
            w = get_or words p [] ++ a ∷ []

            over : IsWord (letters_of d) w
            over = word w (IsWord-push (letters_of e) (get_or words p []) a (ordered.over p within) small)

            there : run_of e 0 w ≡ Some q
            there = run_of-push e 0 p (get_or words p []) a (ordered.lead p within) ∙ leads

            zero_from : (s : ℕ) → class_from d classes s (reverse w) ≡ 0
            zero_from s = by (cases_lt s (states_of d))
              where
                by : (s < states_of d) ⊎ (states_of d ≤ s) → class_from d classes s (reverse w) ≡ 0
                by (inl inside) = sym (from_first firsts numbered s w inside)
                    ∙ sym (class_follows w (reverse (get_or firsts s [])) q over (first_reversed firsts numbered s inside) there)
                    ∙ none (reverse (get_or firsts s [])) (back (reverse (get_or firsts s [])) (first_reversed firsts numbered s inside))
                by (inr past) = class_from-past d classes (reverse w) s count past

            zeros : has_some_class (each_class d classes (reverse w)) ≡ false
            zeros = none_of_zeros (each_class d classes (reverse w)) (λ s. each_class-at d classes (reverse w) s count ∙ zero_from s)

            none_key : {k : List ℕ} → None ≡ Some k → ⊥
            none_key {k} same = cc

            missing : some_nonzero (each_class d classes (reverse w)) ≡ Some (key_at keys q) → ⊥
            missing is = none_key (sym (ap (λ b. if b then Some (each_class d classes (reverse w)) else None) zeros) ∙ is)

        pub canonical_reversal : IsCanonicalWithClasses e made
        canonical_reversal = record {
          table = table;
          count = length-map keys first_class ∙ explored.count;
          accepting = λ q within. flag (first_class (key_at keys q)) (class_of made q) (accepting_of e q) (made_at q within) (explored.accepting q within);
          firsts = words;
          numbered = ordered;
          distinct = apart;
          live = live;
        }
          where
            flag : (output class : ℕ) (b : Bool) → class ≡ output → b ≡ not (output == 0) → IsTrue b ↔ (class ≢ 0)
            flag output class b is flagged = by (output == 0) refl
              where
                by : (z : Bool) → (output == 0) ≡ z → IsTrue b ↔ (class ≢ 0)
                by true none = ((λ yes. let no : b ≡ false = flagged ∙ ap not none in absurd (true≢false (sym yes ∙ no))), (λ some. absurd (some (is ∙ eqb-true output 0 none))))
                by false some = ((λ yes none. eqb-false output 0 some (sym is ∙ none)), (λ other. flagged ∙ ap not some))
