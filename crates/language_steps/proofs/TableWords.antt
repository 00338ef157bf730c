-- The automaton that is read of a table over sets accepts the words that the file accepts.
use Rattle.std.proofs.Common.{◌≡◌, ℕ, ℤ, List, [], ◌∷◌, map, Ok, inl, inr, refl, sym, ap, ◌∙◌, subst, IsTrue}
use Rattle.std.specs.List.{AllByRecursion, AllZip}
use Rattle.digit_tuple.specs.Automaton.{Branching}
use Rattle.digit_tuple.specs.Deterministic.{Automaton, accepts_of}
use Rattle.digit_tuple.specs.Letters.{AreDigits, IsWord, code_of, product}
use Rattle.digit_tuple.specs.Sets.{sizes_of}
use Rattle.digit_tuple.specs.Steps.{StepLog}
use Rattle.digit_tuple.specs.Tuples.{Codes}
use Rattle.digit_tuple.specs.declared.step_fault.StepFault.TheVariants.{Memory}
use Rattle.digit_tuple.proofs.TupleLemmas.{IsWord-codes}
use Rattle.automaton_steps.specs.ReadSteps.{IsRead}
use Rattle.automaton_steps.proofs.ThenAnswers.{no_fault}
use Rattle.dfa_reading.specs.Branching.{IsLetterOfDigits, sizes_in}
use Rattle.dfa_reading.specs.Headers as file
use Rattle.dfa_reading.specs.Listed.{Listed, ListedAccepts}
use Rattle.dfa_reading.specs.Reading.{relation_of}
use Rattle.dfa_reading.proofs.Words.{accepts_listed}
use Rattle.dfa_text.specs.Meaning.{FileAccepts, IsTupleAt}
use Rattle.language_steps.specs.LanguageSteps as language
use Rattle.language_steps.specs.LanguageSteps.{DoesPlainTable, IsTableOverSets}
use Rattle.language_steps.proofs.Coded.{Accepted, IsOf}
use Rattle.language_steps.proofs.HeaderLemmas.{same_sets}

-- digits have letters
letters_of_digits : (sizes : List ℕ) (word : List (List ℕ)) → AllByRecursion (AreDigits sizes) word → AllZip (IsLetterOfDigits sizes) word (map (code_of sizes) word)
letters_of_digits sizes [] fit = tt
letters_of_digits sizes (digits ∷ word) fit = (record { fit = fit.0; letter_is = refl }, letters_of_digits sizes word fit.1)

module _ (sets : List (List ℤ)) where
  tuples_fit : (word : List (List ℤ)) (digits : List (List ℕ)) → AllZip (IsTupleAt sets) word digits → AllByRecursion (AreDigits (sizes_of sets)) digits
  tuples_fit [] [] h = tt
  tuples_fit [] (d ∷ digits) h = absurd h
  tuples_fit (t ∷ word) [] h = absurd h
  tuples_fit (t ∷ word) (d ∷ digits) h = (h.0.fit, tuples_fit word digits h.1)

  codes_from_tuples : (word : List (List ℤ)) (digits : List (List ℕ)) → AllZip (IsTupleAt sets) word digits → Codes sets word (map (code_of (sizes_of sets)) digits)
  codes_from_tuples [] [] h = tt
  codes_from_tuples [] (d ∷ digits) h = absurd h
  codes_from_tuples (t ∷ word) [] h = absurd h
  codes_from_tuples (t ∷ word) (d ∷ digits) h = (record { digits = d; fit = h.0.fit; tuple_is = h.0.tuple_is; letter_is = refl }, codes_from_tuples word digits h.1)

  -- the digits of a word of letters
  record HasDigits (word : List (List ℤ)) (letters : List ℕ) : Type 0 where
    digits : List (List ℕ)
    tuples : AllZip (IsTupleAt sets) word digits
    codes : AllZip (IsLetterOfDigits (sizes_of sets)) digits letters

  digits_from_codes : (word : List (List ℤ)) (letters : List ℕ) → Codes sets word letters → HasDigits word letters
  digits_from_codes [] [] h = record { digits = []; tuples = tt; codes = tt }
  digits_from_codes [] (a ∷ letters) h = absurd h
  digits_from_codes (t ∷ word) [] h = absurd h
  digits_from_codes (t ∷ word) (a ∷ letters) h =
      let rest = digits_from_codes word letters h.1 in
      let first = h.0 in
      record {
        digits = first.digits ∷ rest.digits;
        tuples = (record { fit = first.fit; tuple_is = first.tuple_is }, rest.tuples);
        codes = (record { fit = first.fit; letter_is = first.letter_is }, rest.codes);
      }

  module _ (text : List ℕ) (listed : Listed) (lists : relation_of text ≡ Ok listed) (header : listed.header ≡ file.Sets sets) where
    sizes_are : language.sizes_of listed ≡ sizes_of sets
    sizes_are = ap (λ (h : file.Header). sizes_in h []) header

    module _ (n : Branching) (over : IsTableOverSets listed n) (d : Automaton) (read : IsRead n d) where
      sizes : d.sizes ≡ sizes_of sets
      sizes = read.sizes ∙ (over.is_branching.sizes_are ∙ sizes_are)

      is_over : (letters : List ℕ) → IsWord (product (sizes_of sets)) letters → IsWord (product n.sizes) letters
      is_over letters over_sets = subst (λ (s : List ℕ). IsWord (product s) letters) (sym (over.is_branching.sizes_are ∙ sizes_are)) over_sets

      -- it accepts letters as the file accepts their digits
      accepts_same : (digits : List (List ℕ)) (letters : List ℕ) → AllZip (IsLetterOfDigits (sizes_of sets)) digits letters → IsWord (product (sizes_of sets)) letters
          → (ListedAccepts (sizes_of sets) listed digits → IsTrue (accepts_of d letters)) × (IsTrue (accepts_of d letters) → ListedAccepts (sizes_of sets) listed digits)
      accepts_same digits letters codes word =
          let own : AllZip (IsLetterOfDigits (language.sizes_of listed)) digits letters = subst (λ (s : List ℕ). AllZip (IsLetterOfDigits s) digits letters) (sym sizes_are) codes in
          let listed_so = accepts_listed (language.sizes_of listed) listed n over.is_branching digits letters own in
          let read_so = read.language letters (is_over letters word) in (
            (λ accepts. read_so.1 (listed_so.1 (subst (λ (s : List ℕ). ListedAccepts s listed digits) (sym sizes_are) accepts))),
            (λ accepts. subst (λ (s : List ℕ). ListedAccepts s listed digits) sizes_are (listed_so.0 (read_so.0 accepts))),
          )

      accepted : (tuples : List (List ℤ)) → FileAccepts text tuples → Accepted sets d tuples
      accepted tuples h =
          let same : h.listed ≡ listed = let e : Ok h.listed ≡ Ok listed = sym h.read ∙ lists in cc in
          let own : h.sets ≡ sets = same_sets h.sets sets (sym h.header ∙ (ap (λ (l : Listed). l.header) same ∙ header)) in
          let at : AllZip (IsTupleAt sets) tuples h.digits = subst (λ (s : List (List ℤ)). AllZip (IsTupleAt s) tuples h.digits) own h.tuples in
          let there : ListedAccepts (sizes_of h.sets) listed h.digits = subst (λ (l : Listed). ListedAccepts (sizes_of h.sets) l h.digits) same h.accepts in
          let here : ListedAccepts (sizes_of sets) listed h.digits = subst (λ (s : List (List ℤ)). ListedAccepts (sizes_of s) listed h.digits) own there in
          let letters : List ℕ = map (code_of (sizes_of sets)) h.digits in
          let codes : Codes sets tuples letters = codes_from_tuples tuples h.digits at in
          (letters, codes, (accepts_same h.digits letters (letters_of_digits (sizes_of sets) h.digits (tuples_fit tuples h.digits at)) (IsWord-codes sets tuples letters codes)).0 here)

      accepts : (tuples : List (List ℤ)) → Accepted sets d tuples → FileAccepts text tuples
      accepts tuples (letters, codes, is) =
          let found = digits_from_codes tuples letters codes in
          record {
            sets = sets;
            listed = listed;
            digits = found.digits;
            read = lists;
            header = header;
            tuples = found.tuples;
            accepts = (accepts_same found.digits letters found.codes (IsWord-codes sets tuples letters codes)).1 is;
          }

      read_words : IsOf sets (λ tuples. FileAccepts text tuples) d
      read_words = record { sizes = sizes; canonical = read.canonical; fits = accepted; has = accepts }

    pub table_words : (d : Automaton) (old new : StepLog) → DoesPlainTable listed old (Ok d) new → IsOf sets (λ tuples. FileAccepts text tuples) d
    table_words d old new (inl large) = absurd (no_fault d _ large.refused)
    table_words d old new (inr (inl out)) = absurd (no_fault d Memory out)
    table_words d old new (inr (inr (n, over, done))) = read_words n over d done.step.made_is
