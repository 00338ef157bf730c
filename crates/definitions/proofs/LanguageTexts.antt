-- The text of a language over sets.
use Rattle.std.proofs.Common.{◌≡◌, ◌↔◌, ℕ, List, [], ◌∷◌, ℤ, IsTrue, sym, ap, ◌∙◌, subst}
use Rattle.std.specs.List.{AllByRecursion}
use Rattle.digit_tuple.specs.Deterministic.{Automaton, letters_of, accepts_of}
use Rattle.digit_tuple.specs.Letters.{IsWord, product}
use Rattle.digit_tuple.specs.Sets.{sizes_of}
use Rattle.digit_tuple.specs.Tuples.{Codes}
use Rattle.digit_tuple.specs.declared.header.Header.TheVariants as headers
use Rattle.digit_tuple.proofs.TupleLemmas.{letter_from_members, members_from_letter, tuples_from_word}
use Rattle.minimise.specs.Canonical.{IsCanonical}
use Rattle.minimise.proofs.CanonicalLemmas.{canonical_forms}
use Rattle.regex_build.specs.Patterns.{AreMembers}
use Rattle.reg_steps.proofs.OneRegex.{same_truth}
use Rattle.dfa_text.specs.Meaning.{FileAccepts, AreTrackSets}
use Rattle.dfa_text.specs.RelationText.{relation_text}
use Rattle.dfa_text.specs.RelationLaws.{IsAutomatonOver}
use Rattle.dfa_text.proofs.RelationPaths.{text_accepts_words, text_accepts_only_codes}
use Rattle.definitions.specs.Texts.{IsLanguageText}

-- each word over the sets has a word of letters
pub coded_letters : (sets : List (List ℤ)) (tuples : List (List ℤ)) → AllByRecursion (AreMembers sets) tuples → (word : List ℕ) × Codes sets tuples word
coded_letters sets [] are = ([], tt)
coded_letters sets (tuple ∷ tuples) are =
    let first = letter_from_members sets tuple are.0 in
    let rest : (word : List ℕ) × Codes sets tuples word = coded_letters sets tuples are.1 in
    (first.0 ∷ rest.0, (first.1, rest.1))

-- and what has one is over the sets
pub members_of_coded : (sets : List (List ℤ)) (tuples : List (List ℤ)) (word : List ℕ) → Codes sets tuples word → AllByRecursion (AreMembers sets) tuples
members_of_coded sets [] [] codes = tt
members_of_coded sets [] (letter ∷ word) codes = absurd codes
members_of_coded sets (tuple ∷ tuples) [] codes = absurd codes
members_of_coded sets (tuple ∷ tuples) (letter ∷ word) codes = (members_from_letter sets tuple letter codes.0, members_of_coded sets tuples word codes.1)

-- the automaton accepts the words of the language
abbrev pub AcceptsLanguage : (sets : List (List ℤ)) (InLanguage : List (List ℤ) → Type 0) (d : Automaton) → Type 0
AcceptsLanguage sets InLanguage d = (tuples : List (List ℤ)) (word : List ℕ) → Codes sets tuples word → IsTrue (accepts_of d word) ↔ InLanguage tuples

module _ (sets : List (List ℤ)) (InLanguage : List (List ℤ) → Type 0) where
  -- the text of the automaton
  pub language_text : (d : Automaton) → AreTrackSets sets → d.sizes ≡ sizes_of sets → IsCanonical d → AcceptsLanguage sets InLanguage d
      → ((tuples : List (List ℤ)) → InLanguage tuples → AllByRecursion (AreMembers sets) tuples) → IsLanguageText sets InLanguage (relation_text (headers.Sets sets) d)
  language_text d tracks sizes canonical language inside = record { tracks = tracks; accepts = λ word. (accepted word, accepts word); automaton = d; sizes = sizes; canonical = canonical; text_is = λ i. relation_text (headers.Sets sets) d }
    where
      over : IsAutomatonOver sets d
      over = record { tracks = tracks; sizes = sizes; table = canonical.table }

      accepted : (word : List (List ℤ)) → FileAccepts (relation_text (headers.Sets sets) d) word → InLanguage word
      accepted word file =
          let coded : (letters : List ℕ) × Codes sets word letters = text_accepts_only_codes sets d over word file in
          (language word coded.0 coded.1).0 ((text_accepts_words sets d over word coded.0 coded.1).0 file)

      accepts : (word : List (List ℤ)) → InLanguage word → FileAccepts (relation_text (headers.Sets sets) d) word
      accepts word is =
          let coded : (letters : List ℕ) × Codes sets word letters = coded_letters sets word (inside word is) in
          (text_accepts_words sets d over word coded.0 coded.1).1 ((language word coded.0 coded.1).1 is)

  -- the automaton of the text accepts the words of the language
  text_accepts : (text : List ℕ) (is : IsLanguageText sets InLanguage text) → AcceptsLanguage sets InLanguage is.automaton
  text_accepts text is tuples word codes =
      let over : IsAutomatonOver sets is.automaton = record { tracks = is.tracks; sizes = is.sizes; table = is.canonical.table } in
      let both = text_accepts_words sets is.automaton over tuples word codes in
      let file : FileAccepts (relation_text (headers.Sets sets) is.automaton) tuples ↔ InLanguage tuples = subst (λ (t : List ℕ). FileAccepts t tuples ↔ InLanguage tuples) is.text_is (is.accepts tuples) in
      (λ yes. file.0 (both.1 yes), λ is_in. both.0 (file.1 is_in))

  one_language : (d e : Automaton) → d.sizes ≡ sizes_of sets → e.sizes ≡ sizes_of sets → IsCanonical d → IsCanonical e → AcceptsLanguage sets InLanguage d → AcceptsLanguage sets InLanguage e → d ≡ e
  one_language d e sizes sizes' canonical canonical' language language' = canonical_forms d e canonical canonical' (sizes ∙ sym sizes') same
    where
      same : (word : List ℕ) → IsWord (letters_of d) word → accepts_of d word ≡ accepts_of e word
      same word is =
          let P : List ℕ → Type 0 = λ numbers. IsWord (product numbers) word in
          let coded : (tuples : List (List ℤ)) × Codes sets tuples word = tuples_from_word sets word (subst P sizes is) in
          same_truth (accepts_of d word) (accepts_of e word) (InLanguage coded.0) (language coded.0 word coded.1) (language' coded.0 word coded.1)

  -- a language over sets has one text
  pub one_language_text : (text other : List ℕ) → IsLanguageText sets InLanguage text → IsLanguageText sets InLanguage other → text ≡ other
  one_language_text text other a b =
      let same : a.automaton ≡ b.automaton = one_language a.automaton b.automaton a.sizes b.sizes a.canonical b.canonical (text_accepts text a) (text_accepts other b) in
      a.text_is ∙ (ap (λ (d : Automaton). relation_text (headers.Sets sets) d) same ∙ sym b.text_is)
