-- The system of a language's file, and its first law that does not hold.
use Rattle.std.proofs.Common.{◌≡◌, ℕ, zero, suc, ◌<◌, Bool, List, [], ◌∷◌, get_or, ◌↔◌, IsTrue, refl, sym, ap, ◌∙◌, subst, arith, Result, Err, MatchResult}
use Rattle.std.specs.Prelude.{⊤, slice_index_or}
use Rattle.digit_tuple.specs.Automaton.{Branching, Accepts}
use Rattle.digit_tuple.specs.Automaton as branching
use Rattle.digit_tuple.specs.Deterministic.{Automaton, letters_of}
use Rattle.digit_tuple.specs.Letters.{IsWord, product}
use Rattle.digit_tuple.specs.Paddings.{in_order}
use Rattle.digit_tuple.specs.declared.direction.Direction.{Direction}
use Rattle.digit_tuple.proofs.AcceptedLemmas.{accepted_over}
use Rattle.minimise.specs.Canonical.{IsCanonical}
use Rattle.numeration.specs.Systems.{System, IsSystem}
use Rattle.numeration.specs.Relations.{IsLanguageOf, IsZeroOf, IsEqualityOf}
use Rattle.numeration.specs.SomeTracks.{system_at}
use Rattle.numeration.specs.Representation.{sizes_of}
use Rattle.num_system.specs.Joined.{AreLanguagesOf}
use Rattle.product_op.specs.Validity.{AreLanguages, language_at}
use Rattle.digit_tuple.proofs.PaddingLemmas.{in_order-twice}
use Rattle.adder_check.specs.declared.admit_fault.AdmitFault.{AdmitFault}
use Rattle.adder_check.specs.declared.admit_fault.AdmitFault.TheVariants as faults
use Rattle.adder_check.specs.declared.admit_fault.Law.TheVariants as laws
use Rattle.adder_check.specs.AdderRelation.{three_of}
use Rattle.adder_check.specs.Admission.{IsSystemOfFile, IsFirstFaultOfFiles}
use Rattle.endless.specs.LanguageLaws.{KeepsZeros, IsEndless, language_in, system_of}
use Rattle.adder_check.specs.LanguageSteps.{IsOfFile, IsFirstLanguageFault, in_file}
use Rattle.adder_check.specs.ZeroSums.{AreZeroAndEquality}
use Rattle.adder_check.proofs.SystemLemmas.{laws_determine_system}
use mathlib.Core.Path.{fun_ext}
use Rattle.digit_tuple.specs.Deterministic.{accepts_of}
use Rattle.digit_tuple.proofs.TruthLemmas.{same_tests}

-- the size of the one track
pub own_size : (ns : List ℕ) (k : ℕ) → ns ≡ k ∷ [] → ns ≡ get_or ns 0 0 ∷ []
own_size ns k same = same ∙ ap (λ (n : ℕ). n ∷ []) (sym (ap (λ (ms : List ℕ). get_or ms 0 0) same))

-- the automaton is that of its system's language
pub own_language : (direction : Direction) (d : Automaton) (k : ℕ) → d.sizes ≡ k ∷ [] → IsLanguageOf direction (system_of direction d) d
own_language direction d k same = record { sizes = own_size d.sizes k same; accepts = λ w. sym (ap (λ (v : List ℕ). accepts_of d v) (in_order-twice direction w)) }

module _ (direction : Direction) (listed : Branching) (reversed : Bool) (d : Automaton) (file : IsOfFile listed reversed d) (k : ℕ) (one : listed.sizes ≡ k ∷ []) where
  letters : letters_of d ≡ branching.letters_of listed
  letters = ap product file.sizes

  same_words : (w : List ℕ) → IsTrue (language_in direction d w) ↔ (IsWord (branching.letters_of listed) (in_order direction w) × Accepts listed (in_file reversed (in_order direction w)))
  same_words w = (there, λ both. (file.language (in_order direction w) both.0).1 both.1)
    where
      there : IsTrue (language_in direction d w) → IsWord (branching.letters_of listed) (in_order direction w) × Accepts listed (in_file reversed (in_order direction w))
      there t =
          let over = subst (λ n. IsWord n (in_order direction w)) letters (accepted_over d (in_order direction w) file.canonical.table t) in
          (over, (file.language (in_order direction w) over).0 t)

  pub sizes_of_one : d.sizes ≡ k ∷ []
  sizes_of_one = file.sizes ∙ one

  -- the automaton's system is that of the file
  pub is_of_file : IsSystemOfFile direction listed reversed (system_of direction d)
  is_of_file = record { sizes = sym file.sizes ∙ own_size d.sizes k sizes_of_one; language = same_words }

  -- and no other is
  pub is_only : (s : System) → IsSystemOfFile direction listed reversed s → s ≡ system_of direction d
  is_only s is = λ i. record { digits = digits i; test = tests i }
    where
      digits : s.digits ≡ get_or d.sizes 0 0
      digits = ap (λ (ns : List ℕ). get_or ns 0 0) (sym is.sizes ∙ sym file.sizes)

      tests : s.test ≡ language_in direction d
      tests = fun_ext (λ w. same_tests (s.test w) (language_in direction d w) ((λ t. (same_words w).1 ((is.language w).0 t)), (λ t. (is.language w).1 ((same_words w).0 t))))

  pub system_from_laws : KeepsZeros (language_in direction d) → IsEndless (language_in direction d) → IsSystem (system_of direction d)
  system_from_laws keeps endless = (laws_determine_system direction (get_or d.sizes 0 0) d (own_size d.sizes k sizes_of_one) file.canonical.table).0 (keeps, endless)

  -- what is wrong with the automaton's language is wrong with the file's system
  pub language_fault : (fault : AdmitFault) → IsFirstLanguageFault direction d fault → (adder : Branching) → IsFirstFaultOfFiles direction listed adder reversed fault
  language_fault (faults.NotAdmitted laws.NoZero) wrong adder s of = λ keeps. wrong (subst (λ (t : System). KeepsZeros t.test) (is_only s of) keeps)
  language_fault (faults.NotAdmitted laws.Endless) wrong adder s of =
      let same = is_only s of in
      (subst (λ (t : System). KeepsZeros t.test) (sym same) wrong.0, λ endless. wrong.1 (subst (λ (t : System). IsEndless t.test) same endless))
  language_fault (faults.NotAdmitted laws.ZeroLaw) wrong adder s of = absurd wrong
  language_fault (faults.NotAdmitted laws.SuccessorLaw) wrong adder s of = absurd wrong
  language_fault (faults.Letters step) wrong adder s of = tt
  language_fault (faults.States step) wrong adder s of = tt
  language_fault faults.Memory wrong adder s of = tt

-- automata that are those of 0 and of equal numbers in each system of the language
pub zero_and_equality : (direction : Direction) (d nothing equal : Automaton) (k : ℕ) → d.sizes ≡ k ∷ [] → IsSystem (system_of direction d)
    → ((turn : Direction) (s : System) → IsSystem s → d.sizes ≡ s.digits ∷ [] → IsZeroOf turn s nothing) → IsCanonical nothing
    → ((s : System) → IsSystem s → IsLanguageOf direction s d → IsEqualityOf direction s equal) → IsCanonical equal → AreZeroAndEquality direction (system_of direction d) nothing equal
zero_and_equality direction d nothing equal k one system zeros zero_canonical equals equal_canonical = record {
  zero_is = zeros direction (system_of direction d) system (own_size d.sizes k one);
  zero_canonical = zero_canonical;
  equal_is = equals (system_of direction d) system (own_language direction d k one);
  equal_canonical = equal_canonical;
}

-- what holds of a fault holds of the answer with it
pub refused_by : {A : Type 0} (Q : AdmitFault → Type 0) (r : Result A AdmitFault) (fault : AdmitFault) → r ≡ Err fault → Q fault → MatchResult r (λ a. ⊤) Q
refused_by {A = A} Q r fault is holds = let P : Result A AdmitFault → Type 0 = λ x. MatchResult x (λ a. ⊤) Q in subst P (sym is) holds

-- three tracks over the language
pub three_sizes : (direction : Direction) (d : Automaton) (k : ℕ) (ns : List ℕ) → d.sizes ≡ k ∷ [] → ns ≡ k ∷ k ∷ k ∷ [] → ns ≡ sizes_of (three_of (system_of direction d))
three_sizes direction d k ns one three = three ∙ ap (λ (n : ℕ). n ∷ n ∷ n ∷ []) (sym (ap (λ (ms : List ℕ). get_or ms 0 0) one))

pub three_languages : (direction : Direction) (d : Automaton) (k : ℕ) → d.sizes ≡ k ∷ [] → AreLanguagesOf direction (three_of (system_of direction d)) (d ∷ d ∷ d ∷ [])
three_languages direction d k one = record { count = refl; each = each }
  where
    each : (i : ℕ) → i < 3 → IsLanguageOf direction (system_at (three_of (system_of direction d)) i) (language_at (d ∷ d ∷ d ∷ []) i)
    each zero within = own_language direction d k one
    each (suc zero) within = own_language direction d k one
    each (suc (suc zero)) within = own_language direction d k one
    each (suc (suc (suc i))) within = absurd (omega (arith, within))

pub three_canonical : (d : Automaton) (k : ℕ) (ns : List ℕ) → IsCanonical d → d.sizes ≡ k ∷ [] → ns ≡ k ∷ k ∷ k ∷ [] → AreLanguages ns (d ∷ d ∷ d ∷ [])
three_canonical d k ns canonical one three = subst (λ (ms : List ℕ). AreLanguages ms (d ∷ d ∷ d ∷ [])) (sym three) (record { count = refl; each = each })
  where
    each : (i : ℕ) → i < 3 → IsCanonical (language_at (d ∷ d ∷ d ∷ []) i) × ((language_at (d ∷ d ∷ d ∷ []) i).sizes ≡ slice_index_or (k ∷ k ∷ k ∷ []) i 0 ∷ [])
    each zero within = (canonical, one)
    each (suc zero) within = (canonical, one)
    each (suc (suc zero)) within = (canonical, one)
    each (suc (suc (suc i))) within = absurd (omega (arith, within))

pub three_same : (a b c d : Automaton) → a ≡ d → b ≡ d → c ≡ d → a ∷ b ∷ c ∷ [] ≡ d ∷ d ∷ d ∷ []
three_same a b c d first second third = λ i. first i ∷ second i ∷ third i ∷ []
