-- The word whose letters are those at one place of the images.
use Rattle.std.proofs.Common.{Bor, ◌≡◌, ℕ, zero, suc, ◌<◌, ◌≤◌, List, [], ◌∷◌, ◌++◌, length, get_or, ℤ, Option, None, Some, ◌⊎◌, inl, inr, refl, sym, ap, ◌∙◌, subst, arith}
use Rattle.std.specs.Prelude.{IfSome, IsSome, MatchOption, slice_get}
use Rattle.std.specs.List.{HoldsAt}
use Rattle.std.specs.Option.{option_and_then, option_copied, option_map_or}
use Rattle.std.proofs.lemmas.Bool.{cases_lt}
use Rattle.std.proofs.lemmas.List.{get_or_append_left, get_or_past, get_or_push, length_push}
use Rattle.std.proofs.lemmas.Option.{none-some, slice_get_past, slice_get_read}
use Rattle.digit_tuple.specs.Deterministic.{Automaton, letters_of, run_of, states_of}
use Rattle.digit_tuple.specs.Letters.{IsWord, product}
use Rattle.numeration.specs.Representation.{letters_in}
use Rattle.num_system.specs.Sealed.{SystemValue}
use Rattle.num_system.specs.Tracks.{systems_of}
use Rattle.residual_classes.specs.Classes.{class_of}
use Rattle.morph_words.specs.Rules.{Rules}
use Rattle.morph_words.specs.Images.{image}
use Rattle.word_output.specs.LetterFunctions.{IsLetterFunction, LetterFunctionValue, letter_after, letter_in}
use Rattle.word_output.specs.StateLetters.{letter_at, letter_led, letter_of_state}
use Rattle.word_output.specs.Words.{IsWordValue, RepresentsPlace, WordValue}
use Rattle.word_output.proofs.OptionLemmas.{some_value}
use Rattle.word_images.specs.Recoded.{IsRecoded}
use Rattle.word_images.specs.RecodedLetters.{first_recoded, recoded_letter, recoded_letters}

-- what is looked up at a place, copied
pub copied_at : (o : Option (Bor ℤ)) (xs : List ℤ) (n : ℕ) → IfSome o (λ x. x.now ≡ get_or xs n x.now) → MatchOption o (length xs ≤ n) (λ x. (n < length xs) × HoldsAt (λ y. x.now ≡ y) xs n) → option_copied o ≡ slice_get xs n
copied_at None xs n is past = sym (slice_get_past xs n past)
copied_at (Some x) xs n is within = sym (slice_get_read xs (length xs) n x.now refl within.0 is)

module _ (rules : Rules) (r : ℕ) (f : LetterFunctionValue) where
  count : (n : ℕ) → length (first_recoded rules r f n) ≡ n
  count zero = refl
  count (suc n) = length_push (first_recoded rules r f n) (recoded_letter rules r (letter_of_state f n)) ∙ omega (arith, count n)

  -- the letter of each state
  at_state : (n q : ℕ) → q < n → get_or (first_recoded rules r f n) q None ≡ recoded_letter rules r (letter_of_state f q)
  at_state zero q less = absurd (omega (arith, less))
  at_state (suc n) q less = by (λ early. at_state n q early) (cases_lt q n)
    where
      by : (q < n → get_or (first_recoded rules r f n) q None ≡ recoded_letter rules r (letter_of_state f q)) → (q < n) ⊎ (n ≤ q) → get_or (first_recoded rules r f n ++ recoded_letter rules r (letter_of_state f n) ∷ []) q None ≡ recoded_letter rules r (letter_of_state f q)
      by rest (inl early) = get_or_append_left (first_recoded rules r f n) (recoded_letter rules r (letter_of_state f n) ∷ []) None q (omega (arith, count n, early)) ∙ rest early
      by rest (inr late) =
          let same : n ≡ q = omega (arith, less, late) in
          get_or_push (first_recoded rules r f n) (recoded_letter rules r (letter_of_state f n)) None q (count n ∙ same) ∙ ap (λ m. recoded_letter rules r (letter_of_state f m)) same

  pub count_is : length (recoded_letters rules r f) ≡ states_of f.automaton
  count_is = count (states_of f.automaton)

  -- the letter that a word leads to
  pub led_is : IsLetterFunction f → (w : List ℕ) → letter_led f.automaton (recoded_letters rules r f) w ≡ recoded_letter rules r (letter_after f w)
  led_is is w = by (run_of f.automaton 0 w)
    where
      past : (q : ℕ) → states_of f.automaton ≤ q → recoded_letter rules r (letter_of_state f q) ≡ None
      past q late = ap (λ class. recoded_letter rules r (letter_in f.letters class)) (get_or_past f.classes q 0 (omega (arith, late, is.canonical.count)))

      at : (q : ℕ) → (q < states_of f.automaton) ⊎ (states_of f.automaton ≤ q) → letter_at (recoded_letters rules r f) q ≡ recoded_letter rules r (letter_of_state f q)
      at q (inl less) = at_state (states_of f.automaton) q less
      at q (inr late) = get_or_past (recoded_letters rules r f) q None (omega (arith, late, count_is)) ∙ sym (past q late)

      by : (o : Option ℕ) → option_and_then (λ q. letter_at (recoded_letters rules r f) q) o ≡ recoded_letter rules r (letter_in f.letters (option_map_or (λ p. class_of f.classes p) o 0))
      by None = refl
      by (Some q) = at q (cases_lt q (states_of f.automaton))

module _ (rules : Rules) (r : ℕ) (word : WordValue) (is : IsWordValue word) (g : LetterFunctionValue) (function : IsLetterFunction g) (sizes : g.automaton.sizes ≡ word.function.automaton.sizes)
    (letters : (w : List ℕ) → IsWord (letters_of word.function.automaton) w → letter_after g w ≡ letter_led word.function.automaton (recoded_letters rules r word.function) w) where
  abbrev made : WordValue
  made = record { systems = word.systems; function = g }

  letter_is : (w : List ℕ) → IsWord (letters_in (systems_of word.systems)) w → letter_after g w ≡ recoded_letter rules r (letter_after word.function w)
  letter_is w over = letters w (subst (λ (ss : List ℕ). IsWord (product ss) w) (sym is.sizes) over) ∙ led_is rules r word.function is.function w

  represented_by : (w : List ℕ) → IsWord (letters_in (systems_of word.systems)) w → IsSome (letter_after g w) → (ns : List ℕ) × RepresentsPlace word.systems ns w
  represented_by w over has = is.represents w over (by (letter_after word.function w) refl)
    where
      by : (o : Option ℤ) → letter_after word.function w ≡ o → IsSome o
      by None e = let b = some_value (letter_after g w) has in absurd (none-some b.0 (sym (letter_is w over ∙ ap (recoded_letter rules r) e) ∙ b.1))
      by (Some a) e = refl

  from : (w : List ℕ) (b : ℤ) → (o : Option ℤ) → letter_after word.function w ≡ o → recoded_letter rules r o ≡ Some b → (a : ℤ) × (letter_after word.function w ≡ Some a) × (slice_get (image rules a) r ≡ Some b)
  from w b None e h = absurd (none-some b h)
  from w b (Some a) e h = (a, e, h)

  pub made_is : IsWordValue made
  made_is = record {
    function = function;
    some = is.some;
    sealed = is.sealed;
    shared_direction = is.shared_direction;
    sizes = sizes ∙ is.sizes;
    represents = represented_by;
    one = λ ns w u first second. letter_is w first.over ∙ ap (recoded_letter rules r) (is.one ns w u first second) ∙ sym (letter_is u second.over);
  }

  pub recoded_is : IsRecoded rules word r made
  recoded_is = record {
    word_is = made_is;
    systems = refl;
    letters = λ ns b. (
      (λ has. let a = from has.0 b (letter_after word.function has.0) refl (sym (letter_is has.0 has.1.over) ∙ has.2) in (a.0, (has.0, has.1, a.1), a.2)),
      (λ has. (has.1.0, has.1.1, letter_is has.1.0 has.1.1.over ∙ ap (recoded_letter rules r) has.1.2 ∙ has.2)),
    );
  }

-- of what is found in the code
module _ (rules : Rules) (r : ℕ) (word : WordValue) (is : IsWordValue word) (g f : LetterFunctionValue) (table : Automaton) (ls : List (Option ℤ)) (ss : List SystemValue) (f_is : f ≡ word.function) (table_is : table ≡ f.automaton)
    (ls_are : ls ≡ recoded_letters rules r f) (ss_are : ss ≡ word.systems) (function : IsLetterFunction g) (sizes : g.automaton.sizes ≡ table.sizes) (letters : (w : List ℕ) → IsWord (letters_of table) w → letter_after g w ≡ letter_led table ls w) where
  tables : table ≡ word.function.automaton
  tables = table_is ∙ ap (λ (h : LetterFunctionValue). h.automaton) f_is

  all_letters : ls ≡ recoded_letters rules r word.function
  all_letters = ls_are ∙ ap (recoded_letters rules r) f_is

  all_sizes : g.automaton.sizes ≡ word.function.automaton.sizes
  all_sizes = sizes ∙ ap (λ (e : Automaton). e.sizes) tables

  leads : (w : List ℕ) → IsWord (letters_of word.function.automaton) w → letter_after g w ≡ letter_led word.function.automaton (recoded_letters rules r word.function) w
  leads w over = letters w (subst (λ (e : Automaton). IsWord (letters_of e) w) (sym tables) over) ∙ (λ i. letter_led (tables i) (all_letters i) w)

  pub word_made : IsWordValue (record { systems = ss; function = g })
  word_made = subst (λ (ts : List SystemValue). IsWordValue (record { systems = ts; function = g })) (sym ss_are) (made_is rules r word is g function all_sizes leads)

  pub recoded_made : (v : WordValue) → v ≡ record { systems = ss; function = g } → IsRecoded rules word r v
  recoded_made v v_is =
      subst (IsRecoded rules word r) (sym (v_is ∙ ap (λ (ts : List SystemValue). record { systems = ts; function = g }) ss_are)) (recoded_is rules r word is g function all_sizes leads)
