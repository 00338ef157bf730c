-- Blocks of letters, as blocks of one digit less one after another.
use Rattle.std.proofs.Common.{◌≡◌, ℕ, ℤ, suc, ◌+◌, ◌*◌, ◌%◌, ◌^◌, ◌<◌, ◌≤◌, List, [], ◌∷◌, ◌++◌, length, reverse, Option, None, Some, ap, ◌∙◌, subst, arith}
use Rattle.std.specs.Option.{option_map_or}
use Rattle.std.proofs.Math.Nat.{pow-zero, pow-suc}
use Rattle.std.proofs.lemmas.List.{length_push, length-reverse, reverse-append}
use Rattle.std.proofs.lemmas.Nat.{div-mul-add, mod-mul-add}
use Rattle.digit_tuple.specs.Deterministic.{run_of, states_of}
use Rattle.digit_tuple.specs.Letters.{IsWord}
use Rattle.digit_tuple.proofs.PaddingLemmas.{IsWord-reverse}
use Rattle.residual_classes.specs.Classes.{next_of}
use Rattle.residual_classes.specs.ClassFunctions.{class_from}
use Rattle.residual_classes.proofs.ClassFromLemmas.{class_from-append, class_from-next}
use Rattle.class_reversal.proofs.StateClasses.{class_from-past}
use Rattle.base_k.specs.Positional.{value}
use Rattle.word_output.specs.LetterFunctions.{IsLetterFunction, LetterFunctionValue, letter_in}
use Rattle.word_transduce.specs.Blocks.{base_of, block, numeral, place_of}

-- the number of a digit and of those after it
pub numeral-split : (k j d x : ℕ) → x < k ^ j → numeral k (suc j) (d * k ^ j + x) ≡ d ∷ numeral k j x
numeral-split k j d x small =
    ap (λ n. n ∷ numeral k j ((d * k ^ j + x) % k ^ j)) (div-mul-add d (k ^ j) x small) ∙ ap (λ n. d ∷ numeral k j n) (mod-mul-add d (k ^ j) x small)

scaled : (a b p : ℕ) → a ≤ b → a * p ≤ b * p
scaled a b p le = grind arith

-- the number that a word represents is below the number of words of its length
pub value_below : (k : ℕ) (w : List ℕ) → IsWord k w → value k w < k ^ length w
value_below k [] over = omega (arith, pow-zero k)
value_below k (a ∷ w) over =
    let rest = value_below k w over.1 in
    let here : a + 1 ≤ k = omega (arith, over.0) in
    omega (arith, pow-suc k (length w), rest, scaled (a + 1) k (k ^ length w) here)

pub place_below : (k : ℕ) (w : List ℕ) → IsWord k w → place_of k w < k ^ length w
place_below k w over = subst (λ n. place_of k w < k ^ n) (length-reverse w) (value_below k (reverse w) (IsWord-reverse k w over))

-- one digit more, the most significant one
pub place_push : (k : ℕ) (w : List ℕ) (d : ℕ) → place_of k (w ++ d ∷ []) ≡ d * k ^ length w + place_of k w
place_push k w d = ap (value k) (reverse-append w (d ∷ [])) ∙ ap (λ n. d * k ^ n + value k (reverse w)) (length-reverse w)

pub length_next : (w : List ℕ) (d : ℕ) → length (w ++ d ∷ []) ≡ suc (length w)
length_next w d = omega (arith, length_push w d)

module _ (f : LetterFunctionValue) (is : IsLetterFunction f) where
  -- the block after a state
  abbrev pub block_from : ℕ → ℕ → ℕ → Option ℤ
  block_from digits q place = letter_in f.letters (class_from f.automaton f.classes q (numeral (base_of f) digits place))

  -- the block of the place after a digit
  pub block_from-split : (j q d x : ℕ) → x < base_of f ^ j → block_from (suc j) q (d * base_of f ^ j + x) ≡ block_from j (next_of f.automaton q d) x
  block_from-split j q d x small = ap (letter_in f.letters) (
      ap (class_from f.automaton f.classes q) (numeral-split (base_of f) j d x small)
      ∙ class_from-next f.automaton f.classes is.canonical.count q d (numeral (base_of f) j x))

  -- the sink has no letters
  pub block_from-sink : (j q x : ℕ) → states_of f.automaton ≤ q → block_from j q x ≡ None
  block_from-sink j q x past = ap (letter_in f.letters) (class_from-past f.automaton f.classes (numeral (base_of f) j x) q is.canonical.count past)

  -- the block after a word is that after the state to which it leads
  pub block_led : (u : List ℕ) (q j x : ℕ) → run_of f.automaton 0 u ≡ Some q → block f j u x ≡ block_from j q x
  block_led u q j x leads = ap (letter_in f.letters) (class_from-append f.automaton f.classes 0 u (numeral (base_of f) j x) ∙ ap (λ (o : Option ℕ). option_map_or (λ p. class_from f.automaton f.classes p (numeral (base_of f) j x)) o 0) leads)

  pub block_lost : (u : List ℕ) (j x : ℕ) → run_of f.automaton 0 u ≡ None → block f j u x ≡ None
  block_lost u j x leads = ap (letter_in f.letters) (class_from-append f.automaton f.classes 0 u (numeral (base_of f) j x) ∙ ap (λ (o : Option ℕ). option_map_or (λ p. class_from f.automaton f.classes p (numeral (base_of f) j x)) o 0) leads)
