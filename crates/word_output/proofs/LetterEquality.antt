-- Letter functions that give words the same letters are equal.
use Rattle.std.proofs.Common.{◌≡◌, ℕ, zero, suc, ℤ, pos, ◌+◌, ◌-◌, ◌<◌, ◌≤◌, ◌<ℤ◌, List, [], length, get_or, Option, None, Some, ◌⊎◌, inl, inr, sym, ap, ◌∙◌, subst, arith}
use Rattle.std.specs.List.{Contains}
use Rattle.std.specs.Option.{option_map_or}
use Rattle.std.proofs.lemmas.Bool.{cases_lt}
use Rattle.std.proofs.lemmas.Int.{ints}
use Rattle.std.proofs.lemmas.List.{get_or_default, get_or_past}
use Rattle.std.proofs.lemmas.Option.{none-some, same_Some}
use Rattle.digit_tuple.specs.Deterministic.{letters_of, run_of, states_of}
use Rattle.digit_tuple.specs.Letters.{IsWord, product}
use Rattle.residual_classes.specs.Classes.{class_of}
use Rattle.residual_classes.specs.ClassFunctions.{class_after}
use Rattle.minimise.proofs.ClassFormLemmas.{canonical_classes_are_equal}
use Rattle.minimise.proofs.OrderLemmas.{same_in_order}
use Rattle.word_output.specs.LetterFunctions.{IsLetterFunction, LetterFunctionValue, LetterFunctionsAreEqual, SameLetterFunction, letter_after, letter_in}
use Rattle.word_output.proofs.LetterFunctionLemmas.{letter_in-class, one_class}

module _ (f : LetterFunctionValue) (is : IsLetterFunction f) where
  -- a class is that of a letter, or of none
  class_within : (w : List ℕ) → class_after f.automaton f.classes w ≤ length f.letters
  class_within w = by (run_of f.automaton 0 w)
    where
      at : (q : ℕ) → (q < length f.classes) ⊎ (length f.classes ≤ q) → class_of f.classes q ≤ length f.letters
      at q (inl less) = is.within q 0 less
      at q (inr past) = omega (arith, get_or_past f.classes q 0 past)

      by : (o : Option ℕ) → option_map_or (λ p. class_of f.classes p) o 0 ≤ length f.letters
      by None = omega arith
      by (Some q) = at q (cases_lt q (length f.classes))

  -- each letter is that of a word
  letter_worded : (b : ℤ) → Contains f.letters b → (w : List ℕ) × IsWord (letters_of f.automaton) w × (letter_after f w ≡ Some b)
  letter_worded b (place, within, at) =
      let state = is.all place within in
      let q : ℕ = state.0 in
      let inside : q < states_of f.automaton = omega (arith, state.1, is.canonical.count) in
      let w : List ℕ = get_or is.canonical.firsts q [] in
      let class : class_of f.classes q ≡ place + 1 = get_or_default f.classes q 0 (place + 1) state.1 ∙ state.2 in
      let led : class_after f.automaton f.classes w ≡ place + 1 = ap (λ (o : Option ℕ). option_map_or (λ p. class_of f.classes p) o 0) (is.canonical.numbered.lead q inside) ∙ class in (
        w,
        is.canonical.numbered.over q inside,
        ap (letter_in f.letters) led
            ∙ letter_in-class f.letters (place + 1) (omega arith)
            ∙ ap (λ (k : ℕ). Some (get_or f.letters k (pos 0))) (let back : (place + 1) - 1 ≡ place = omega arith in back)
            ∙ ap Some (get_or_default f.letters place (pos 0) b within ∙ at),
      )

  -- and each letter of a word is one of the letters
  word_lettered : (w : List ℕ) (b : ℤ) → letter_after f w ≡ Some b → Contains f.letters b
  word_lettered w b has = by (class_after f.automaton f.classes w) (class_within w) has
    where
      by : (class : ℕ) → class ≤ length f.letters → letter_in f.letters class ≡ Some b → Contains f.letters b
      by zero small none = absurd (none-some b none)
      by (suc class) small some =
          let within : class < length f.letters = omega (arith, small) in
          let here : get_or f.letters class (pos 0) ≡ b = same_Some (get_or f.letters class (pos 0)) b (ap (λ (k : ℕ). Some (get_or f.letters k (pos 0))) (let back : class ≡ suc class - 1 = omega arith in back) ∙ sym (letter_in-class f.letters (suc class) (omega arith)) ∙ some) in
          (class, within, get_or_default f.letters class b (pos 0) within ∙ here)

module _ (f g : LetterFunctionValue) (is_f : IsLetterFunction f) (is_g : IsLetterFunction g) (sizes : f.automaton.sizes ≡ g.automaton.sizes) (same : SameLetterFunction f g) where
  to_f : (w : List ℕ) → IsWord (letters_of g.automaton) w → IsWord (letters_of f.automaton) w
  to_f w over = subst (λ (ss : List ℕ). IsWord (product ss) w) (sym sizes) over

  there : (b : ℤ) → Contains f.letters b → Contains g.letters b
  there b found =
      let word = letter_worded f is_f b found in
      word_lettered g is_g word.0 b (sym (same word.0 word.1) ∙ word.2)

  back : (b : ℤ) → Contains g.letters b → Contains f.letters b
  back b found =
      let word = letter_worded g is_g b found in
      word_lettered f is_f word.0 b (same word.0 (to_f word.0 word.1) ∙ word.2)

  letters : f.letters ≡ g.letters
  letters = same_in_order (λ b c. b <ℤ c) (λ b c less more. omega (arith, ints, less, more)) f.letters g.letters is_f.ascending is_g.ascending there back

  same_classes : (w : List ℕ) → IsWord (letters_of f.automaton) w → class_after f.automaton f.classes w ≡ class_after g.automaton g.classes w
  same_classes w over =
      let class : ℕ = class_after f.automaton f.classes w in
      let other : ℕ = class_after g.automaton g.classes w in
      let low : other ≤ length f.letters = omega (arith, class_within g is_g w, ap length letters) in
      one_class f.letters class other is_f.ascending (class_within f is_f w) low (same w over ∙ ap (λ (ls : List ℤ). letter_in ls other) (sym letters))

  pub one_function : f ≡ g
  one_function =
      let both = canonical_classes_are_equal f.automaton g.automaton f.classes g.classes is_f.canonical is_g.canonical sizes same_classes in
      λ i. record { automaton = both.0 i; classes = both.1 i; letters = letters i }

pub letter_functions : LetterFunctionsAreEqual
letter_functions f g is_f is_g sizes same = one_function f g is_f is_g sizes same
