-- What holds of the automata of a system's files holds of the files.
use Rattle.std.proofs.Common.{◌≡◌, ◌↔◌, ℕ, ◌*◌, Bool, true, false, List, [], ◌∷◌, get_or, reverse, IsTrue, refl, sym, ap, ◌∙◌, subst, arith}
use Rattle.std.specs.List.{AllZip}
use Rattle.std.proofs.lemmas.List.{reverse-reverse}
use Rattle.digit_tuple.specs.Automaton.{Branching, Accepts, letters_of}
use Rattle.digit_tuple.specs.Deterministic.{Automaton}
use Rattle.digit_tuple.specs.Letters.{IsWord, product}
use Rattle.digit_tuple.specs.Paddings.{in_order}
use Rattle.digit_tuple.specs.declared.direction.Direction.{Direction}
use Rattle.digit_tuple.proofs.PaddingLemmas.{IsWord-reverse}
use Rattle.dfa_reading.specs.Branching.{IsBranching, IsLetterOfDigits}
use Rattle.dfa_reading.specs.Listed.{Listed, ListedAccepts}
use Rattle.dfa_reading.proofs.Words.{accepts_listed}
use Rattle.dfa_reading.proofs.TupleWords.{tuples_of, word_of_tuples}
use Rattle.numeration.specs.Representation.{sizes_of}
use Rattle.numeration.specs.Systems.{System}
use Rattle.adder_check.specs.AdderRelation.{adds_in_file, three_of}
use Rattle.adder_check.specs.Admission.{IsSystemOfFile, IsFirstFault, IsFirstFaultOfFiles, IsAdmitted, user_system}
use Rattle.adder_check.specs.LanguageSteps.{IsFirstLanguageFault, IsOfFile, in_file as word_in_file}
use Rattle.adder_check.specs.declared.admit_fault.AdmitFault.{AdmitFault}
use Rattle.adder_check.specs.declared.admit_fault.AdmitFault.TheVariants as faults
use Rattle.adder_check.specs.declared.admit_fault.Law.TheVariants as laws
use Rattle.adder_check.specs.declared.user_system.UserSystem.{UserSystem}
use Rattle.adder_check.proofs.FileAdders.{zero_law_same, successor_law_same}
use Rattle.adder_check.proofs.FileSystems.{language_fault}
use Rattle.system_files.specs.SystemFiles.{SystemFiles}
use Rattle.system_files.specs.UserSystems.{AreWordsOf, AddsInFile, in_file, singles}
use Rattle.system_admission.specs.Admissions.{IsFirstFaultIn, IsSystemIn}
use Rattle.system_admission.proofs.TupleWords.{AllZip-reverse, accepted_singles, singles_accepted, singles_reverse}

-- words that may be of the other direction
singles_in_file : (reversed : Bool) (w : List ℕ) → in_file reversed (singles w) ≡ singles (word_in_file reversed w)
singles_in_file true w = singles_reverse w
singles_in_file false w = refl

zip_in_file : (reversed : Bool) (sizes : List ℕ) (tuples : List (List ℕ)) (word : List ℕ) → AllZip (IsLetterOfDigits sizes) tuples word
    → AllZip (IsLetterOfDigits sizes) (in_file reversed tuples) (word_in_file reversed word)
zip_in_file true sizes tuples word letters = AllZip-reverse (IsLetterOfDigits sizes) tuples word letters
zip_in_file false sizes tuples word letters = letters

over_in_file : (reversed : Bool) (letters : ℕ) (w : List ℕ) → IsWord letters w → IsWord letters (word_in_file reversed w)
over_in_file true letters w over = IsWord-reverse letters w over
over_in_file false letters w over = over

over_from_file : (reversed : Bool) (letters : ℕ) (w : List ℕ) → IsWord letters (word_in_file reversed w) → IsWord letters w
over_from_file true letters w over = subst (IsWord letters) (reverse-reverse w) (IsWord-reverse letters (reverse w) over)
over_from_file false letters w over = over

first_size : (a b : ℕ) (ns : List ℕ) → ns ≡ a ∷ [] → ns ≡ b ∷ [] → a ≡ b
first_size a b ns one other = let same : a ∷ [] ≡ b ∷ [] = sym one ∙ other in ap (λ (ms : List ℕ). get_or ms 0 0) same

-- the words of a language's file
module _ (digits : ℕ) (listed : Listed) (n : Branching) (is : IsBranching (digits ∷ []) listed n) (reversed : Bool) where
  letters_are : letters_of n ≡ digits
  letters_are = let count : product n.sizes ≡ digits * 1 = ap product is.sizes_are in omega (arith, count)

  word_listed : (v : List ℕ) → IsWord (letters_of n) v × Accepts n (word_in_file reversed v) → ListedAccepts (digits ∷ []) listed (in_file reversed (singles v))
  word_listed v (over, accepts) =
      let turned = over_in_file reversed digits v (subst (λ (k : ℕ). IsWord k v) letters_are over) in
      subst (ListedAccepts (digits ∷ []) listed) (sym (singles_in_file reversed v)) (singles_accepted digits listed n is (word_in_file reversed v) turned accepts)

  listed_word : (v : List ℕ) → ListedAccepts (digits ∷ []) listed (in_file reversed (singles v)) → IsWord (letters_of n) v × Accepts n (word_in_file reversed v)
  listed_word v accepts =
      let found = accepted_singles digits listed n is (word_in_file reversed v) (subst (ListedAccepts (digits ∷ []) listed) (singles_in_file reversed v) accepts) in
      (subst (λ (k : ℕ). IsWord k v) (sym letters_are) (over_from_file reversed digits v found.0), found.1)

-- the same relation has the same first law that does not hold
module _ (s : System) (adds other : ℕ → ℕ → ℕ → Type 0) (same : (x y z : ℕ) → adds x y z ↔ other x y z) where
  back : (x y z : ℕ) → other x y z ↔ adds x y z
  back x y z = ((same x y z).1, (same x y z).0)

  first_fault_same : (fault : AdmitFault) → IsFirstFault s adds fault → IsFirstFault s other fault
  first_fault_same (faults.NotAdmitted laws.NoZero) wrong = wrong
  first_fault_same (faults.NotAdmitted laws.Endless) wrong = wrong
  first_fault_same (faults.NotAdmitted laws.ZeroLaw) wrong = (wrong.0, λ law. wrong.1 (zero_law_same other adds back law))
  first_fault_same (faults.NotAdmitted laws.SuccessorLaw) wrong = (wrong.0, zero_law_same adds other same wrong.1, λ law. wrong.2 (successor_law_same other adds back law))
  first_fault_same (faults.Letters step) wrong = tt
  first_fault_same (faults.States step) wrong = tt
  first_fault_same faults.Memory wrong = tt

module _ (direction : Direction) (files : SystemFiles) (language : Branching) (words : IsBranching (files.digits ∷ []) files.language language) where
  -- the systems of the automaton are those of the file
  pub words_in_file : (s : System) → IsSystemOfFile direction language files.reversed s → AreWordsOf direction files s
  words_in_file s is = record { digits = digits; language = λ w. (there w, back w) }
    where
      digits : s.digits ≡ files.digits
      digits = first_size s.digits files.digits language.sizes is.sizes words.sizes_are

      there : (w : List ℕ) → IsTrue (s.test w) → ListedAccepts (s.digits ∷ []) files.language (in_file files.reversed (singles (in_order direction w)))
      there w t =
          let accepts = word_listed files.digits files.language language words files.reversed (in_order direction w) ((is.language w).0 t) in
          subst (λ (k : ℕ). ListedAccepts (k ∷ []) files.language (in_file files.reversed (singles (in_order direction w)))) (sym digits) accepts

      back : (w : List ℕ) → ListedAccepts (s.digits ∷ []) files.language (in_file files.reversed (singles (in_order direction w))) → IsTrue (s.test w)
      back w accepts =
          let here = subst (λ (k : ℕ). ListedAccepts (k ∷ []) files.language (in_file files.reversed (singles (in_order direction w)))) digits accepts in
          (is.language w).1 (listed_word files.digits files.language language words files.reversed (in_order direction w) here)

  pub words_of_file : (s : System) → AreWordsOf direction files s → IsSystemOfFile direction language files.reversed s
  words_of_file s are = record { sizes = words.sizes_are ∙ ap (λ (k : ℕ). k ∷ []) (sym are.digits); language = λ w. (there w, back w) }
    where
      there : (w : List ℕ) → IsTrue (s.test w) → IsWord (letters_of language) (in_order direction w) × Accepts language (word_in_file files.reversed (in_order direction w))
      there w t =
          let here = subst (λ (k : ℕ). ListedAccepts (k ∷ []) files.language (in_file files.reversed (singles (in_order direction w)))) are.digits ((are.language w).0 t) in
          listed_word files.digits files.language language words files.reversed (in_order direction w) here

      back : (w : List ℕ) → IsWord (letters_of language) (in_order direction w) × Accepts language (word_in_file files.reversed (in_order direction w)) → IsTrue (s.test w)
      back w both =
          let accepts = word_listed files.digits files.language language words files.reversed (in_order direction w) both in
          (are.language w).1 (subst (λ (k : ℕ). ListedAccepts (k ∷ []) files.language (in_file files.reversed (singles (in_order direction w)))) (sym are.digits) accepts)

  -- what is wrong with the automaton's language is wrong with the files
  pub language_first : (d : Automaton) → IsOfFile language files.reversed d → (fault : AdmitFault) → IsFirstLanguageFault direction d fault → IsFirstFaultIn direction files fault
  language_first d file (faults.NotAdmitted laws.NoZero) wrong s are =
      language_fault direction language files.reversed d file files.digits words.sizes_are (faults.NotAdmitted laws.NoZero) wrong language s (words_of_file s are)
  language_first d file (faults.NotAdmitted laws.Endless) wrong s are =
      language_fault direction language files.reversed d file files.digits words.sizes_are (faults.NotAdmitted laws.Endless) wrong language s (words_of_file s are)
  language_first d file (faults.NotAdmitted laws.ZeroLaw) wrong s are = absurd wrong
  language_first d file (faults.NotAdmitted laws.SuccessorLaw) wrong s are = absurd wrong
  language_first d file (faults.Letters step) wrong s are = tt
  language_first d file (faults.States step) wrong s are = tt
  language_first d file faults.Memory wrong s are = tt

  module _ (adder : Branching) (sums : IsBranching (files.digits ∷ files.digits ∷ files.digits ∷ []) files.adder adder) where
    -- the sums of the adder's automaton are those of its file
    sums_same : (s : System) → s.digits ≡ files.digits → (x y z : ℕ) → adds_in_file direction s adder files.reversed x y z ↔ AddsInFile direction files s x y z
    sums_same s digits x y z = (there, back)
      where
        over : IsBranching (sizes_of (three_of s)) files.adder adder
        over = subst (λ (k : ℕ). IsBranching (k ∷ k ∷ k ∷ []) files.adder adder) (sym digits) sums

        letters : letters_of adder ≡ product (sizes_of (three_of s))
        letters = ap product over.sizes_are

        there : adds_in_file direction s adder files.reversed x y z → AddsInFile direction files s x y z
        there (v, word, represents, accepts) =
            let tuples = tuples_of (sizes_of (three_of s)) v (subst (λ (k : ℕ). IsWord k v) letters word) in
            record {
              tuples = tuples.0;
              word = v;
              letters = tuples.1;
              represents = represents;
              accepts = (accepts_listed (sizes_of (three_of s)) files.adder adder over (in_file files.reversed tuples.0) (word_in_file files.reversed v) (zip_in_file files.reversed (sizes_of (three_of s)) tuples.0 v tuples.1)).0 accepts;
            }

        back : AddsInFile direction files s x y z → adds_in_file direction s adder files.reversed x y z
        back adds =
            let word = subst (λ (k : ℕ). IsWord k adds.word) (sym letters) (word_of_tuples (sizes_of (three_of s)) adds.tuples adds.word adds.letters) in
            let zipped = zip_in_file files.reversed (sizes_of (three_of s)) adds.tuples adds.word adds.letters in
            (adds.word, word, adds.represents, (accepts_listed (sizes_of (three_of s)) files.adder adder over (in_file files.reversed adds.tuples) (word_in_file files.reversed adds.word) zipped).1 adds.accepts)

    -- the system that is admitted is the one that the files define
    pub defined : (user : UserSystem) → IsAdmitted direction language adder files.reversed user → IsSystemIn direction files user
    defined user is =
        let words = words_in_file (user_system user) is.words in
        let same = sums_same (user_system user) words.digits in
        record {
          direction = is.direction;
          defined = record {
            words = words;
            system = is.system;
            sums = λ x y z. ((λ adds. (is.sums x y z).0 ((same x y z).1 adds)), (λ equal. (same x y z).0 ((is.sums x y z).1 equal)));
          };
        }

    -- and what is wrong with the automata is wrong with the files
    pub first_in_files : (fault : AdmitFault) → IsFirstFaultOfFiles direction language adder files.reversed fault → IsFirstFaultIn direction files fault
    first_in_files fault wrong s are =
        first_fault_same s (adds_in_file direction s adder files.reversed) (AddsInFile direction files s) (sums_same s are.digits) fault (wrong s (words_of_file s are))
