-- Texts distinguish languages.
use Rattle.std.proofs.Common.{◌≡◌, ℕ, Bool, true, false, List, [], ℤ, Result, Ok, Err, refl, sym, ap, ◌∙◌, subst}
use Rattle.digit_tuple.specs.Deterministic.{accepts_of}
use Rattle.digit_tuple.specs.Letters.{product, IsWord}
use Rattle.digit_tuple.specs.Tuples.{Codes}
use Rattle.digit_tuple.proofs.TupleLemmas.{tuples_from_word}
use Rattle.minimise.proofs.CanonicalLemmas.{canonical_forms}
use Rattle.dfa_reading.specs.Headers.{Header, Truth, Systems, Sets}
use Rattle.dfa_reading.specs.Listed.{Listed}
use Rattle.dfa_reading.specs.Reading.{relation_of}
use Rattle.dfa_text.specs.Meaning.{FileAccepts}
use Rattle.dfa_text.specs.RelationText.{relation_text}
use Rattle.dfa_text.specs.RelationLaws.{EqualLanguagesHaveEqualTexts, EqualTextsHaveEqualLanguages}
use Rattle.dfa_text.proofs.RelationPaths.{lists, text_accepts_words}

pub equal_texts : EqualLanguagesHaveEqualTexts
equal_texts header d e canonical other sizes same = ap (relation_text header) (canonical_forms d e canonical other sizes same)

sets_in : Header → List (List ℤ)
sets_in (Truth value) = []
sets_in (Systems names) = []
sets_in (Sets sets) = sets

sets_read : Result Listed ℕ → List (List ℤ)
sets_read (Ok listed) = sets_in listed.header
sets_read (Err at) = []

same_test : (a b : Bool) → (a ≡ true → b ≡ true) → (b ≡ true → a ≡ true) → a ≡ b
same_test true b over back = sym (over refl)
same_test false true over back = back refl
same_test false false over back = refl

pub equal_languages : EqualTextsHaveEqualLanguages
unfolding sets_read sets_in
equal_languages sets others d e one two same = (
  sets_same,
  λ w over.
      let word = tuples_from_word sets w (subst (λ (s : List ℕ). IsWord (product s) w) one.sizes over) in
      let codes : Codes others word.0 w = subst (λ (s : List (List ℤ)). Codes s word.0 w) sets_same word.1 in
      let here = text_accepts_words sets d one word.0 w word.1 in
      let there = text_accepts_words others e two word.0 w codes in
      same_test (accepts_of d w) (accepts_of e w)
      (λ h. there.0 (subst (λ (t : List ℕ). FileAccepts t word.0) same (here.1 h)))
      (λ h. here.0 (subst (λ (t : List ℕ). FileAccepts t word.0) (sym same) (there.1 h))),
)
  where
    sets_same : sets ≡ others
    sets_same = ap sets_read (sym (lists sets d one) ∙ ap relation_of same ∙ lists others e two)
