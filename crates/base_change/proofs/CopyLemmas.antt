-- A letter function made of the states and the letters of another is the same.
use Rattle.std.proofs.Common.{◌≡◌, ℕ, ◌<◌, ◌≤◌, ℤ, List, length, Option, None, Some, Result, Ok, Err, ◌⊎◌, inl, inr, refl, sym, ap, ◌∙◌, subst, arith}
use Rattle.std.specs.Option.{option_and_then, option_map_or}
use Rattle.std.specs.Prelude.{IfOk}
use Rattle.std.proofs.lemmas.Bool.{cases_lt}
use Rattle.std.proofs.lemmas.List.{get_or-map, get_or_past, length-map}
use Rattle.digit_tuple.specs.Deterministic.{Automaton, letters_of, run_of}
use Rattle.digit_tuple.specs.Letters.{IsWord, product}
use Rattle.residual_classes.specs.Classes.{class_of}
use Rattle.word_output.specs.LetterFunctions.{IsLetterFunction, LetterFunctionValue, letter_after, letter_in, outputs_of}
use Rattle.word_output.specs.StateLetters.{letter_at, letter_led}
use Rattle.word_output.proofs.LetterEquality.{letter_functions}

pub letters_of_outputs : (f : LetterFunctionValue) (w : List ℕ) → letter_led f.automaton (outputs_of f) w ≡ letter_after f w
letters_of_outputs f w = by (run_of f.automaton 0 w)
  where
    at : (q : ℕ) → (q < length f.classes) ⊎ (length f.classes ≤ q) → letter_at (outputs_of f) q ≡ letter_in f.letters (class_of f.classes q)
    at q (inl inside) = get_or-map (letter_in f.letters) f.classes q 0 None inside
    at q (inr past) = get_or_past (outputs_of f) q None (omega (arith, past, length-map f.classes (letter_in f.letters))) ∙ sym (ap (letter_in f.letters) (get_or_past f.classes q 0 past))

    by : (o : Option ℕ) → option_and_then (λ q. letter_at (outputs_of f) q) o ≡ letter_in f.letters (option_map_or (λ q. class_of f.classes q) o 0)
    by None = refl
    by (Some q) = at q (cases_lt q (length f.classes))

-- what is made of the automaton and the letters of the states is the function
pub copy_is : {E : Type 0} (f : LetterFunctionValue) (d : Automaton) (letters : List (Option ℤ)) (result : Result LetterFunctionValue E) → IsLetterFunction f → d ≡ f.automaton → letters ≡ outputs_of f
    → IfOk result IsLetterFunction → IfOk result (λ g. g.automaton.sizes ≡ d.sizes) → IfOk result (λ g. (w : List ℕ) → IsWord (letters_of d) w → letter_after g w ≡ letter_led d letters w)
    → IfOk result (λ g. g ≡ f)
copy_is f d letters (Err e) is same outputs function sizes led = tt
copy_is f d letters (Ok g) is same outputs function sizes led =
    letter_functions g f function is (sizes ∙ ap (λ (x : Automaton). x.sizes) same)
    (λ w over.
    led w (subst (λ (ss : List ℕ). IsWord (product ss) w) sizes over)
    ∙ ap (λ (x : Automaton). letter_led x letters w) same
    ∙ ap (λ (ls : List (Option ℤ)). letter_led f.automaton ls w) outputs
    ∙ letters_of_outputs f w)
