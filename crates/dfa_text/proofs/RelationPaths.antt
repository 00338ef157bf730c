-- The words that the text of an automaton accepts are those of the automaton.
use Rattle.std.proofs.Common.{◌≡◌, ℕ, true, List, [], ◌∷◌, map, ℤ, Ok, refl, sym, ap, ◌∙◌, subst}
use Rattle.std.specs.List.{AllByRecursion, AllZip}
use Rattle.digit_tuple.specs.Deterministic.{Automaton, accepts_of}
use Rattle.digit_tuple.specs.Letters.{code_of, AreDigits}
use Rattle.digit_tuple.specs.Sets.{sizes_of}
use Rattle.digit_tuple.specs.Tuples.{Codes}
use Rattle.digit_tuple.specs.declared.header.Header.TheVariants.{Sets}
use Rattle.digit_tuple.proofs.TupleLemmas.{one_word}
use Rattle.dfa_reading.specs.Branching.{IsLetterOfDigits}
use Rattle.dfa_reading.specs.Headers as file
use Rattle.dfa_reading.specs.Listed.{Listed, ListedAccepts}
use Rattle.dfa_reading.specs.Reading.{relation_of}
use Rattle.dfa_text.specs.Lists.{automaton_listed}
use Rattle.dfa_text.specs.Meaning.{IsTupleAt, FileAccepts}
use Rattle.dfa_text.specs.RelationText.{relation_text}
use Rattle.dfa_text.specs.RelationLaws.{IsAutomatonOver, TextAcceptsWords, TextAcceptsOnlyCodes}
use Rattle.dfa_text.proofs.ListedParts.{all_ascending}
use Rattle.dfa_text.proofs.ListedPaths.{accepts_listed}
use Rattle.dfa_text.proofs.PrintedRelations.{text_lists}

-- the text of an automaton over sets lists the automaton
pub lists : (sets : List (List ℤ)) (d : Automaton) → IsAutomatonOver sets d → relation_of (relation_text (Sets sets) d) ≡ Ok (automaton_listed (Sets sets) d)
lists sets d over = text_lists (Sets sets) d (record { tracks = over.tracks; sizes = over.sizes; table = over.table })

-- digits have letters
letters_of_digits : (sizes : List ℕ) (word : List (List ℕ)) → AllByRecursion (AreDigits sizes) word → AllZip (IsLetterOfDigits sizes) word (map (code_of sizes) word)
letters_of_digits sizes [] fit = tt
letters_of_digits sizes (digits ∷ word) fit = (record { fit = fit.0; letter_is = refl }, letters_of_digits sizes word fit.1)

tuples_fit : (sets : List (List ℤ)) (word : List (List ℤ)) (digits : List (List ℕ)) → AllZip (IsTupleAt sets) word digits → AllByRecursion (AreDigits (sizes_of sets)) digits
tuples_fit sets [] [] h = tt
tuples_fit sets [] (d ∷ digits) h = absurd h
tuples_fit sets (t ∷ word) [] h = absurd h
tuples_fit sets (t ∷ word) (d ∷ digits) h = (h.0.fit, tuples_fit sets word digits h.1)

-- digits of words, and their letters
codes_from_tuples : (sets : List (List ℤ)) (word : List (List ℤ)) (digits : List (List ℕ)) → AllZip (IsTupleAt sets) word digits → Codes sets word (map (code_of (sizes_of sets)) digits)
codes_from_tuples sets [] [] h = tt
codes_from_tuples sets [] (d ∷ digits) h = absurd h
codes_from_tuples sets (t ∷ word) [] h = absurd h
codes_from_tuples sets (t ∷ word) (d ∷ digits) h = (record { digits = d; fit = h.0.fit; tuple_is = h.0.tuple_is; letter_is = refl }, codes_from_tuples sets word digits h.1)

tuples_from_codes : (sets : List (List ℤ)) (word : List (List ℤ)) (letters : List ℕ) → Codes sets word letters → (digits : List (List ℕ)) × AllZip (IsTupleAt sets) word digits × (letters ≡ map (code_of (sizes_of sets)) digits) × AllByRecursion (AreDigits (sizes_of sets)) digits
tuples_from_codes sets [] [] h = ([], tt, refl, tt)
tuples_from_codes sets [] (a ∷ letters) h = absurd h
tuples_from_codes sets (t ∷ word) [] h = absurd h
tuples_from_codes sets (t ∷ word) (a ∷ letters) h =
    let rest = tuples_from_codes sets word letters h.1 in
    let first = h.0 in
    (first.digits ∷ rest.0, (record { fit = first.fit; tuple_is = first.tuple_is }, rest.1), ap (λ x. x ∷ letters) first.letter_is ∙ ap (λ ls. code_of (sizes_of sets) first.digits ∷ ls) rest.2, (first.fit, rest.3))

same_sets : (sets others : List (List ℤ)) → file.Sets sets ≡ file.Sets others → sets ≡ others
same_sets sets others h = cc

accepted_codes : (sets : List (List ℤ)) (d : Automaton) → IsAutomatonOver sets d → (word : List (List ℤ)) → FileAccepts (relation_text (Sets sets) d) word → (letters : List ℕ) × Codes sets word letters × (accepts_of d letters ≡ true)
accepted_codes sets d over word h =
    let same : h.listed ≡ automaton_listed (Sets sets) d = let e : Ok h.listed ≡ Ok (automaton_listed (Sets sets) d) = sym h.read ∙ lists sets d over in cc in
    let own : h.sets ≡ sets = same_sets h.sets sets (sym h.header ∙ ap (λ (l : Listed). l.header) same) in
    let tuples : AllZip (IsTupleAt sets) word h.digits = subst (λ (s : List (List ℤ)). AllZip (IsTupleAt s) word h.digits) own h.tuples in
    let sizes : sizes_of h.sets ≡ d.sizes = ap sizes_of own ∙ sym over.sizes in
    let listed : ListedAccepts (sizes_of h.sets) (automaton_listed (Sets sets) d) h.digits = subst (λ (l : Listed). ListedAccepts (sizes_of h.sets) l h.digits) same h.accepts in
    let accepts : ListedAccepts d.sizes (automaton_listed (Sets sets) d) h.digits = subst (λ (s : List ℕ). ListedAccepts s (automaton_listed (Sets sets) d) h.digits) sizes listed in
    let letters : AllZip (IsLetterOfDigits (sizes_of sets)) h.digits (map (code_of (sizes_of sets)) h.digits) = letters_of_digits (sizes_of sets) h.digits (tuples_fit sets word h.digits tuples) in
    let codes : AllZip (IsLetterOfDigits d.sizes) h.digits (map (code_of (sizes_of sets)) h.digits) = subst (λ (s : List ℕ). AllZip (IsLetterOfDigits s) h.digits (map (code_of (sizes_of sets)) h.digits)) (sym over.sizes) letters in
    (map (code_of (sizes_of sets)) h.digits, codes_from_tuples sets word h.digits tuples, (accepts_listed (Sets sets) d over.table h.digits (map (code_of (sizes_of sets)) h.digits) codes).0 accepts)

pub text_accepts_only_codes : TextAcceptsOnlyCodes
text_accepts_only_codes sets d over word h = let found = accepted_codes sets d over word h in (found.0, found.1)

accepts_codes : (sets : List (List ℤ)) (d : Automaton) → IsAutomatonOver sets d → (word : List (List ℤ)) (letters : List ℕ) → Codes sets word letters → accepts_of d letters ≡ true → FileAccepts (relation_text (Sets sets) d) word
accepts_codes sets d over word letters codes h =
    let (digits, tuples, is, fit) = tuples_from_codes sets word letters codes in
    let own : AllZip (IsLetterOfDigits (sizes_of sets)) digits letters = subst (λ (w : List ℕ). AllZip (IsLetterOfDigits (sizes_of sets)) digits w) (sym is) (letters_of_digits (sizes_of sets) digits fit) in
    let spelled : AllZip (IsLetterOfDigits d.sizes) digits letters = subst (λ (s : List ℕ). AllZip (IsLetterOfDigits s) digits letters) (sym over.sizes) own in
    let accepts : ListedAccepts d.sizes (automaton_listed (Sets sets) d) digits = (accepts_listed (Sets sets) d over.table digits letters spelled).1 h in
    record {
      sets = sets;
      listed = automaton_listed (Sets sets) d;
      digits = digits;
      read = lists sets d over;
      header = refl;
      tuples = tuples;
      accepts = subst (λ (s : List ℕ). ListedAccepts s (automaton_listed (Sets sets) d) digits) over.sizes accepts;
    }

pub text_accepts_words : TextAcceptsWords
text_accepts_words sets d over word letters codes = (
  (λ h. let found = accepted_codes sets d over word h in subst (λ (w : List ℕ). accepts_of d w ≡ true) (one_word sets word found.0 letters (all_ascending sets over.tracks) found.1 codes) found.2),
  (λ h. accepts_codes sets d over word letters codes h),
)
