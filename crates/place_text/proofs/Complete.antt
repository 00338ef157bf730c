-- What the grammar derives, stage after stage reads.
use Rattle.std.proofs.Common.{◌≡◌, List, [], ◌∷◌, ◌++◌, Some, refl, sym, ◌∙◌, ap, ℤ, append_assoc, append-nil}
use Rattle.std.specs.Prelude.{◌≢◌}
use Rattle.std.specs.List.{AllByRecursion, flat_map}
use Rattle.place_text.specs.declared.lexeme.Lexeme.{Lexeme}
use Rattle.place_text.specs.declared.lexeme.Lexeme.TheVariants.{Close, Comma, Number}
use Rattle.place_text.specs.Grammar.{letter_lexemes, place_lexemes, Derives}
use Rattle.place_text.specs.Stages.{AtStart, AfterDigit, AfterLetter, ended}
use Rattle.place_text.proofs.Walks.{from, reach}

-- digits, each after a comma
abbrev pub further_digits : List ℤ → List Lexeme
further_digits digits = flat_map (λ digit. Comma ∷ Number digit ∷ []) digits

digits_on : (more : List ℤ) (letters : List (List ℤ)) (digits : List ℤ) (rest : List Lexeme) → reach (further_digits more ++ rest) (AfterDigit letters digits) ≡ reach rest (AfterDigit letters (digits ++ more))
digits_on [] letters digits rest = ap (λ (ds : List ℤ). reach rest (AfterDigit letters ds)) (sym (append-nil digits))
digits_on (d ∷ more) letters digits rest = digits_on more letters (digits ++ d ∷ []) rest ∙ ap (λ (ds : List ℤ). reach rest (AfterDigit letters ds)) (append_assoc digits (d ∷ []) more)

-- the digits of a letter after the first, and its end
closes_on : (d : ℤ) (more : List ℤ) (letters : List (List ℤ)) (rest : List Lexeme) → reach ((further_digits more ++ Close ∷ []) ++ rest) (AfterDigit letters (d ∷ [])) ≡ reach rest (AfterLetter (letters ++ (d ∷ more) ∷ []))
closes_on d more letters rest =
    ap (λ (ts : List Lexeme). reach ts (AfterDigit letters (d ∷ []))) (append_assoc (further_digits more) (Close ∷ []) rest)
    ∙ digits_on more letters (d ∷ []) (Close ∷ rest)

letter_on : (letter : List ℤ) → letter ≢ [] → (letters : List (List ℤ)) (rest : List Lexeme) → reach (letter_lexemes letter ++ rest) (AfterLetter letters) ≡ reach rest (AfterLetter (letters ++ letter ∷ []))
letter_on [] some letters rest = absurd (some refl)
letter_on (d ∷ more) some letters rest = closes_on d more letters rest

first_on : (letter : List ℤ) → letter ≢ [] → (rest : List Lexeme) → reach (letter_lexemes letter ++ rest) AtStart ≡ reach rest (AfterLetter (letter ∷ []))
first_on [] some rest = absurd (some refl)
first_on (d ∷ more) some rest = closes_on d more [] rest

letters_on : (more letters : List (List ℤ)) → AllByRecursion (λ letter. letter ≢ []) more → reach (flat_map letter_lexemes more) (AfterLetter letters) ≡ Some (AfterLetter (letters ++ more))
letters_on [] letters some = ap (λ (ls : List (List ℤ)). Some (AfterLetter ls)) (sym (append-nil letters))
letters_on (letter ∷ more) letters some =
    letter_on letter some.0 letters (flat_map letter_lexemes more)
    ∙ (letters_on more (letters ++ letter ∷ []) some.1
    ∙ ap (λ (ls : List (List ℤ)). Some (AfterLetter ls)) (append_assoc letters (letter ∷ []) more))

place_on : (letters : List (List ℤ)) → AllByRecursion (λ letter. letter ≢ []) letters → from (reach (place_lexemes letters) AtStart) ended ≡ Some letters
place_on [] some = refl
place_on (letter ∷ letters) some = ap (λ o. from o ended) (first_on letter some.0 (flat_map letter_lexemes letters) ∙ letters_on letters (letter ∷ []) some.1)

pub derived_read : (ts : List Lexeme) (letters : List (List ℤ)) → Derives ts letters → from (reach ts AtStart) ended ≡ Some letters
derived_read ts letters h = ap (λ (l : List Lexeme). from (reach l AtStart) ended) (sym h.derives) ∙ place_on letters h.some
