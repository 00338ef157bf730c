-- Words on one track, and their tuples of digits, also from the last one on.
use Rattle.std.proofs.Common.{◌≡◌, ℕ, List, [], ◌∷◌, ◌++◌, map, reverse, sym, ap, ◌∙◌, subst, arith}
use Rattle.std.specs.List.{AllZip, AllByRecursion}
use Rattle.std.proofs.lemmas.List.{reverse-append, map_push}
use Rattle.digit_tuple.specs.Automaton.{Branching, Accepts}
use Rattle.digit_tuple.specs.Letters.{AreDigits, IsWord}
use Rattle.digit_tuple.proofs.ZipLemmas.{AllZip-append}
use Rattle.dfa_reading.specs.Branching.{IsBranching, IsLetterOfDigits}
use Rattle.dfa_reading.specs.Listed.{Listed, MovesAlong, ListedAccepts}
use Rattle.dfa_reading.proofs.Letters.{takes_digits}
use Rattle.dfa_reading.proofs.Words.{accepts_listed}

-- lists that are related place by place are related from the last place on
pub AllZip-reverse : {A B : Type 0} (R : A → B → Type 0) (xs : List A) (ys : List B) → AllZip R xs ys → AllZip R (reverse xs) (reverse ys)
AllZip-reverse R [] [] zipped = tt
AllZip-reverse R [] (y ∷ ys) zipped = absurd zipped
AllZip-reverse R (x ∷ xs) [] zipped = absurd zipped
AllZip-reverse R (x ∷ xs) (y ∷ ys) zipped =
    let turned = AllZip-append R (reverse xs) (x ∷ []) (reverse ys) (y ∷ []) (AllZip-reverse R xs ys zipped.1) (zipped.0, tt) in
    subst (AllZip R (reverse (x ∷ xs))) (sym (reverse-append (y ∷ []) ys)) (subst (λ us. AllZip R us (reverse ys ++ y ∷ [])) (sym (reverse-append (x ∷ []) xs)) turned)

pub singles_reverse : (w : List ℕ) → reverse (map (λ (digit : ℕ). digit ∷ []) w) ≡ map (λ (digit : ℕ). digit ∷ []) (reverse w)
singles_reverse [] = λ i. []
singles_reverse (a ∷ w) =
    let f : ℕ → List ℕ = λ digit. digit ∷ [] in
    reverse-append (f a ∷ []) (map f w) ∙ ap (λ (u : List (List ℕ)). u ++ f a ∷ []) (singles_reverse w) ∙ sym (map_push f (reverse w) a) ∙ ap (map f) (sym (reverse-append (a ∷ []) w))

-- on one track a digit is its letter
pub single_letters : (digits : ℕ) (w : List ℕ) → IsWord digits w → AllZip (IsLetterOfDigits (digits ∷ [])) (map (λ (digit : ℕ). digit ∷ []) w) w
single_letters digits [] over = tt
single_letters digits (a ∷ w) over = (record { fit = (over.0, tt); letter_is = omega arith }, single_letters digits w over.1)

-- listed transitions lead by tuples of digits
pub along_fits : (sizes : List ℕ) (listed : Listed) (word : List (List ℕ)) (p q : ℕ) → MovesAlong sizes listed p word q → AllByRecursion (AreDigits sizes) word
along_fits sizes listed [] p q along = tt
along_fits sizes listed (tuple ∷ word) p q (r, (line, among, from, takes, to), along) = (takes_digits sizes line.digits tuple takes, along_fits sizes listed word r q along)

pub word_of_singles : (digits : ℕ) (w : List ℕ) → AllByRecursion (AreDigits (digits ∷ [])) (map (λ (digit : ℕ). digit ∷ []) w) → IsWord digits w
word_of_singles digits [] fit = tt
word_of_singles digits (a ∷ w) fit = (fit.0.0, word_of_singles digits w fit.1)

-- on one track the file accepts the digits of a word where the automaton accepts the word
module _ (digits : ℕ) (listed : Listed) (n : Branching) (is : IsBranching (digits ∷ []) listed n) where
  pub singles_accepted : (w : List ℕ) → IsWord digits w → Accepts n w → ListedAccepts (digits ∷ []) listed (map (λ (digit : ℕ). digit ∷ []) w)
  singles_accepted w over accepts = (accepts_listed (digits ∷ []) listed n is (map (λ (digit : ℕ). digit ∷ []) w) w (single_letters digits w over)).0 accepts

  pub accepted_singles : (w : List ℕ) → ListedAccepts (digits ∷ []) listed (map (λ (digit : ℕ). digit ∷ []) w) → IsWord digits w × Accepts n w
  accepted_singles w listed_accepts =
      let over = word_of_singles digits w (along_fits (digits ∷ []) listed (map (λ (digit : ℕ). digit ∷ []) w) 0 listed_accepts.0 listed_accepts.1) in
      (over, (accepts_listed (digits ∷ []) listed n is (map (λ (digit : ℕ). digit ∷ []) w) w (single_letters digits w over)).1 listed_accepts)
