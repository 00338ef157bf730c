-- Functions from words to letters.
use Rattle.std.proofs.Common.{◌≡◌, ℕ, ℤ, pos, zero, suc, ◌+◌, ◌-◌, ◌<◌, ◌≤◌, List, [], ◌∷◌, ◌++◌, length, get_or, Option, None, Some, ◌⊎◌, inl, inr, refl, sym, ap, ◌∙◌, subst, arith, if◌then◌else◌}
use Rattle.std.specs.List.{All, Contains}
use Rattle.std.specs.Option.{option_map_or, option_and_then}
use Rattle.std.proofs.lemmas.Bool.{cases_lt, ne_eqb}
use Rattle.std.proofs.lemmas.List.{get_or_default, get_or_past}
use Rattle.std.proofs.lemmas.List.Elements.{All-from_get_or}
use Rattle.digit_tuple.specs.Deterministic.{Automaton, IsTable, letters_of, states_of, run_of}
use Rattle.digit_tuple.specs.FirstWords.{IsNumberedByFirsts}
use Rattle.digit_tuple.specs.Letters.{product, IsWord}
use Rattle.digit_tuple.specs.Sets.{IsAscending}
use Rattle.digit_tuple.proofs.PigeonLemmas.{choose, few_below}
use Rattle.digit_tuple.proofs.SetLemmas.{one_place}
use Rattle.digit_tuple.proofs.WordLemmas.{IsWord-append}
use Rattle.residual_classes.specs.Classes.{class_of}
use Rattle.residual_classes.specs.ClassFunctions.{SameClassFunction, class_after, class_from}
use Rattle.residual_classes.proofs.ClassFromLemmas.{class_from-append}
use Rattle.minimise.specs.Canonical.{IsCanonicalWithClasses}
use Rattle.minimise.proofs.ClassFormLemmas.{class_after_some}
use Rattle.minimise.proofs.RunLemmas.{run_within}
use Rattle.word_output.specs.LetterFunctions.{LetterFunctionValue, IsLetterFunction, letter_after, letter_in}
use Rattle.word_output.specs.StateLetters.{AreLettersOf, letter_at, letter_led}

-- a class that is not 0 has a letter
pub letter_in-class : (letters : List ℤ) (class : ℕ) → 0 < class → letter_in letters class ≡ Some (get_or letters (class - 1) (pos 0))
letter_in-class letters class some = ap (λ b. if b then None else Some (get_or letters (class - 1) (pos 0))) (ne_eqb class 0 (λ none. omega (arith, some, none)))

some_letter : (b c : ℤ) → Some b ≡ Some c → b ≡ c
some_letter b c same = cc

no_letter_state : {q : ℕ} → Some q ≡ None → ⊥
no_letter_state {q} same = cc

no_letter : (b : ℤ) → None ≡ Some b → ⊥
no_letter b same = cc

-- classes with one letter are one
pub one_class : (letters : List ℤ) (class other : ℕ) → IsAscending letters → class ≤ length letters → other ≤ length letters → letter_in letters class ≡ letter_in letters other → class ≡ other
one_class letters zero zero up small low same = refl
one_class letters zero (suc other) up small low same = absurd (no_letter (get_or letters (suc other - 1) (pos 0)) (same ∙ letter_in-class letters (suc other) (omega arith)))
one_class letters (suc class) zero up small low same = absurd (no_letter (get_or letters (suc class - 1) (pos 0)) (sym same ∙ letter_in-class letters (suc class) (omega arith)))
one_class letters (suc class) (suc other) up small low same =
    let is : suc class - 1 ≡ suc other - 1 = one_place letters (suc class - 1) (suc other - 1) up (omega (arith, small)) (omega (arith, low))
    (some_letter (get_or letters (suc class - 1) (pos 0)) (get_or letters (suc other - 1) (pos 0)) (sym (letter_in-class letters (suc class) (omega arith)) ∙ same ∙ letter_in-class letters (suc other) (omega arith))) in
    omega (arith, is)

-- classes have these letters, one class for each state
pub record AreClasses (letters : List (Option ℤ)) (found : List ℤ) (classes : List ℕ) : Type 0 where
  pub count : length classes ≡ length letters
  pub within : All (λ class. class ≤ length found) classes
  pub are : (q : ℕ) → letter_in found (class_of classes q) ≡ letter_at letters q

module _ (d : Automaton) (letters : List (Option ℤ)) (found : List ℤ) (classes : List ℕ) (classed : AreClasses letters found classes) where
  -- the letter of a word is that of its class
  letter-class : (w : List ℕ) → letter_in found (class_after d classes w) ≡ letter_led d letters w
  letter-class w = by (run_of d 0 w)
    where
      by : (o : Option ℕ) → letter_in found (option_map_or (λ p. class_of classes p) o 0) ≡ option_and_then (λ q. letter_at letters q) o
      by None = refl
      by (Some q) = classed.are q

  class_after-within : (w : List ℕ) → length letters ≡ states_of d → class_after d classes w ≤ length found
  class_after-within w count = by (run_of d 0 w)
    where
      at : (q : ℕ) → (q < length classes) ⊎ (length classes ≤ q) → class_of classes q ≤ length found
      at q (inl less) = classed.within q 0 less
      at q (inr past) = omega (arith, get_or_past classes q 0 past)

      by : (o : Option ℕ) → option_map_or (λ p. class_of classes p) o 0 ≤ length found
      by None = omega arith
      by (Some q) = at q (cases_lt q (length classes))

  module _ (are : AreLettersOf letters found) (count : length letters ≡ states_of d) (table : IsTable (letters_of d) d.states) (firsts : List (List ℕ)) (numbered : IsNumberedByFirsts d firsts)
      (made : Automaton) (made_classes : List ℕ) (sizes : made.sizes ≡ d.sizes) (canonical : IsCanonicalWithClasses made made_classes) (same : SameClassFunction d classes made made_classes) where
    made_over : (w : List ℕ) → IsWord (letters_of made) w → IsWord (letters_of d) w
    made_over w over = subst (λ (ss : List ℕ). IsWord (product ss) w) sizes over

    abbrev function : LetterFunctionValue
    function = record { automaton = made; classes = made_classes; letters = found }

    pub letters-led : (w : List ℕ) → IsWord (letters_of d) w → letter_after function w ≡ letter_led d letters w
    letters-led w over = ap (letter_in found) (sym (same w over)) ∙ letter-class w

    -- the class of a state is that of its first word
    first_class : (q : ℕ) → q < states_of made → class_of made_classes q ≡ class_after d classes (get_or canonical.firsts q [])
    first_class q inside =
        sym (ap (λ (o : Option ℕ). option_map_or (λ p. class_of made_classes p) o 0) (canonical.numbered.lead q inside))
        ∙ sym (same (get_or canonical.firsts q []) (made_over (get_or canonical.firsts q []) (canonical.numbered.over q inside)))

    classes_within : All (λ class. class ≤ length found) made_classes
    classes_within = All-from_get_or (λ class. class ≤ length found) made_classes 0 (λ q inside.
        omega (arith, first_class q (omega (arith, inside, canonical.count)), class_after-within (get_or canonical.firsts q []) count))

    -- a class that some word has is that of a state
    class_there : (w : List ℕ) (class : ℕ) → 0 < class → class_after made made_classes w ≡ class → Contains made_classes class
    class_there w class some is = by (run_of made 0 w) refl is
      where
        by : (o : Option ℕ) → run_of made 0 w ≡ o → option_map_or (λ p. class_of made_classes p) o 0 ≡ class → Contains made_classes class
        by None leads none = absurd (omega (arith, some, none))
        by (Some q) leads one =
            let inside : q < length made_classes = omega (arith, run_within made w 0 q canonical.table canonical.table.initial leads, canonical.count) in
            (q, inside, get_or_default made_classes q class 0 inside ∙ one)

    -- each letter is that of some state of the table, to which its first word leads
    all_there : (place : ℕ) → place < length found → Contains made_classes (place + 1)
    all_there place inside =
        let b : ℤ = get_or found place (pos 0) in
        let at = (are.members b).0 (place, inside, get_or_default found place b (pos 0) inside) in
        let q : ℕ = at.0 in
        let low : q < states_of d = omega (arith, at.1, count) in
        let has : letter_at letters q ≡ Some b = get_or_default letters q None (Some b) at.1 ∙ at.2 in
        let class : class_of classes q ≡ place + 1 =
        one_class found (class_of classes q) (place + 1) are.ascending (classed.within q 0 (omega (arith, at.1, classed.count))) (omega (arith, inside))
        (classed.are q ∙ has ∙ sym (letter_in-class found (place + 1) (omega arith) ∙ ap (λ (k : ℕ). Some (get_or found k (pos 0))) (omega arith))) in
        class_there (get_or firsts q []) (place + 1) (omega arith)
        (sym (same (get_or firsts q []) (numbered.over q low)) ∙ ap (λ (o : Option ℕ). option_map_or (λ p. class_of classes p) o 0) (numbered.lead q low) ∙ class)

    pub IsLetterFunction-made : IsLetterFunction function
    IsLetterFunction-made = record { canonical = canonical; ascending = are.ascending; within = classes_within; all = all_there }

    abbrev LeadsTo : ℕ → ℕ → Type 0
    LeadsTo q t = (run_of d 0 (get_or canonical.firsts q []) ≡ Some t) × (t < states_of d)

    -- a first word leads to a state of the table: from none no word has a class
    first_leads : (q : ℕ) (w : List ℕ) → get_or canonical.firsts q [] ≡ w → q < states_of made → (o : Option ℕ) → run_of d 0 w ≡ o → (t : ℕ) × LeadsTo q t
    first_leads q w word inside (Some t) leads = (t, (ap (run_of d 0) word ∙ leads, run_within d w 0 t table table.initial leads))
    first_leads q [] word inside None leads = absurd (no_letter_state leads)
    first_leads q (a ∷ w) word inside None leads = absurd (class_after_some made made_classes canonical w a 0 q canonical.table.initial
        (subst (IsWord (letters_of made)) word (canonical.numbered.over q inside)) (sym (ap (run_of made 0) word) ∙ canonical.numbered.lead q inside) (λ v over. lost v over))
      where
        lost : (v : List ℕ) → IsWord (letters_of made) v → class_from made made_classes q v ≡ 0
        lost v over =
            sym (ap (λ (o : Option ℕ). option_map_or (λ p. class_from made made_classes p v) o 0) (sym (ap (run_of made 0) word) ∙ canonical.numbered.lead q inside))
            ∙ sym (class_from-append made made_classes 0 (a ∷ w) v)
            ∙ sym (same ((a ∷ w) ++ v) (IsWord-append (letters_of d) (a ∷ w) v (made_over (a ∷ w) (subst (IsWord (letters_of made)) word (canonical.numbered.over q inside))) (made_over v over)))
            ∙ class_from-append d classes 0 (a ∷ w) v
            ∙ ap (λ (o : Option ℕ). option_map_or (λ p. class_from d classes p v) o 0) leads

    -- there are no more states than the table has
    pub few_states : states_of made ≤ states_of d
    few_states =
        let found = choose LeadsTo (states_of made) (λ q inside. first_leads q (get_or canonical.firsts q []) refl inside (run_of d 0 (get_or canonical.firsts q [])) refl) in
        let few : length found.0 ≤ states_of d = few_below (states_of d) found.0 (λ i inside. (found.2 i (omega (arith, inside, found.1))).1) (λ i j before inside one. apart i j before (omega (arith, inside, found.1)) (found.2 i (omega (arith, before, inside, found.1))).0 (found.2 j (omega (arith, inside, found.1))).0 one) in
        omega (arith, few, found.1)
      where
        follows : (q t : ℕ) → q < states_of made → run_of d 0 (get_or canonical.firsts q []) ≡ Some t → (u : List ℕ) → IsWord (letters_of made) u → class_from made made_classes q u ≡ class_from d classes t u
        follows q t inside leads u over =
            sym (ap (λ (o : Option ℕ). option_map_or (λ p. class_from made made_classes p u) o 0) (canonical.numbered.lead q inside))
            ∙ sym (class_from-append made made_classes 0 (get_or canonical.firsts q []) u)
            ∙ sym (same (get_or canonical.firsts q [] ++ u) (IsWord-append (letters_of d) (get_or canonical.firsts q []) u (made_over (get_or canonical.firsts q []) (canonical.numbered.over q inside)) (made_over u over)))
            ∙ class_from-append d classes 0 (get_or canonical.firsts q []) u
            ∙ ap (λ (o : Option ℕ). option_map_or (λ p. class_from d classes p u) o 0) leads

        apart : (i j : ℕ) → i < j → j < states_of made → {s t : ℕ} → run_of d 0 (get_or canonical.firsts i []) ≡ Some s → run_of d 0 (get_or canonical.firsts j []) ≡ Some t → s ≡ t → ⊥
        apart i j before inside {s} {t} first second one = canonical.distinct i j before inside (λ u over.
            follows i s (omega (arith, before, inside)) first u over ∙ ap (λ q. class_from d classes q u) one ∙ sym (follows j t inside second u over))
