-- What the automata of two files make.
use Rattle.std.proofs.Common.{◌≡◌, ℕ, ◌*◌, Bool, true, false, List, [], ◌∷◌, get_or, IsTrue, sym, ap, ◌∙◌, subst, arith, Result, Ok, Err, MatchResult}
use Rattle.digit_tuple.specs.Automaton.{Branching}
use Rattle.digit_tuple.specs.Deterministic.{Automaton}
use Rattle.digit_tuple.specs.Letters.{product}
use Rattle.digit_tuple.specs.Steps.{StepLog}
use Rattle.digit_tuple.specs.declared.direction.Direction.{Direction}
use Rattle.digit_tuple.specs.declared.step_fault.StepFault.{StepFault}
use Rattle.digit_tuple.specs.declared.step_fault.StepFault.TheVariants as steps
use Rattle.numeration.specs.Systems.{System, IsSystem}
use Rattle.numeration.specs.Relations.{HoldsOf, IsAdderOf}
use Rattle.num_system.specs.Links.{Passes}
use Rattle.adder_check.specs.declared.admit_fault.AdmitFault.{AdmitFault}
use Rattle.adder_check.specs.declared.admit_fault.AdmitFault.TheVariants as faults
use Rattle.adder_check.specs.declared.admit_fault.Law.{Law}
use Rattle.adder_check.specs.AdderLaws.{ZeroLaw, SuccessorLaw, IsAddition}
use Rattle.adder_check.specs.AdderRelation.{HoldsInFile, adds_in_file, three_of}
use Rattle.adder_check.specs.Admission.{Where, IsSystemOfFile, IsFirstAdderFault, IsFirstFault, IsFirstFaultOfFiles}
use Rattle.adder_check.specs.Faults.{fault_of}
use Rattle.endless.specs.LanguageLaws.{system_in, system_of}
use Rattle.adder_check.specs.LanguageSteps.{IsOfFile}
use Rattle.adder_check.proofs.AdditionLemmas.{laws_are_addition}
use Rattle.adder_check.proofs.FileAdders.{adder_found, adder_is, first_fault}
use Rattle.adder_check.proofs.FileSystems.{own_size, is_of_file, is_only, sizes_of_one}

-- where a law holds the next is done, and where it does not it is the answer
pub where_holds : {B : Type 0} (b : Bool) (law : Law) (next : StepLog → Result B AdmitFault → StepLog → Type 0) (old new : StepLog) (r : Result B AdmitFault) → b ≡ true → next old r new → Where b law next old r new
where_holds {B = B} b law next old new r is does = subst (λ (c : Bool). Where {B = B} c law next old r new) (sym is) does

pub where_fails : {B : Type 0} (b : Bool) (law : Law) (next : StepLog → Result B AdmitFault → StepLog → Type 0) (old new : StepLog) (r : Result B AdmitFault) → b ≡ false → r ≡ Err (faults.NotAdmitted law) → new ≡ old
    → Where b law next old r new
where_fails {B = B} b law next old new r is answer same = subst (λ (c : Bool). Where {B = B} c law next old r new) (sym is) (answer, same)

-- a fault of a step says nothing of the laws
silent : (adds : ℕ → ℕ → ℕ → Type 0) (fault : StepFault) → IsFirstAdderFault adds (fault_of fault)
silent adds (steps.Letters step) = tt
silent adds (steps.States step) = tt
silent adds steps.Memory = tt

pub step_refused : {A : Type 0} (P : A → Type 0) (adds : ℕ → ℕ → ℕ → Type 0) (r : Result A AdmitFault) (fault : StepFault) → r ≡ Err (fault_of fault) → MatchResult r P (IsFirstAdderFault adds)
step_refused {A = A} P adds r fault is = subst (λ (x : Result A AdmitFault). MatchResult x P (IsFirstAdderFault adds)) (sym is) (silent adds fault)

pub silent_of_files : (direction : Direction) (listed adder : Branching) (reversed : Bool) (fault : StepFault) → IsFirstFaultOfFiles direction listed adder reversed (fault_of fault)
silent_of_files direction listed adder reversed (steps.Letters step) = λ s of. tt
silent_of_files direction listed adder reversed (steps.States step) = λ s of. tt
silent_of_files direction listed adder reversed steps.Memory = λ s of. tt

-- automata over two and over three tracks of the language's size
pub two_tracks : (language next : Automaton) (k : ℕ) → language.sizes ≡ k ∷ [] → next.sizes ≡ get_or language.sizes 0 0 ∷ get_or language.sizes 0 0 ∷ [] → next.sizes ≡ k ∷ k ∷ []
two_tracks language next k one two = two ∙ ap (λ (ns : List ℕ). get_or ns 0 0 ∷ get_or ns 0 0 ∷ []) one

pub three_tracks : (language adder : Automaton) (k : ℕ) → language.sizes ≡ k ∷ [] → adder.sizes ≡ get_or language.sizes 0 0 ∷ get_or language.sizes 0 0 ∷ get_or language.sizes 0 0 ∷ [] → adder.sizes ≡ k ∷ k ∷ k ∷ []
three_tracks language adder k one three = three ∙ ap (λ (ns : List ℕ). get_or ns 0 0 ∷ get_or ns 0 0 ∷ get_or ns 0 0 ∷ []) one

-- the number of letters of one track
pub letters_are : (d : Automaton) (k n : ℕ) (ns : List ℕ) → d.sizes ≡ k ∷ [] → ns ≡ d.sizes → n ≡ product ns → n ≡ get_or d.sizes 0 0
letters_are d k n ns one same count =
    let letters : product ns ≡ k * 1 = ap product (same ∙ one) in
    let first : get_or d.sizes 0 0 ≡ k = ap (λ (ms : List ℕ). get_or ms 0 0) one in
    omega (arith, count, letters, first)

-- so many digits, a language and an adder are a numeration system and its addition, those of the files
pub record AreParts (direction : Direction) (listed adder : Branching) (reversed : Bool) (n : ℕ) (d e : Automaton) : Type 0 where
  pub sizes : d.sizes ≡ n ∷ []
  pub words : IsSystemOfFile direction listed reversed (system_in direction n d)
  pub system : IsSystem (system_in direction n d)
  pub sums : IsAddition (adds_in_file direction (system_in direction n d) adder reversed)
  pub adder_is : IsAdderOf direction (system_in direction n d) e

module _ (direction : Direction) (listed adder : Branching) (reversed : Bool) (d a : Automaton) (file : IsOfFile listed reversed d) (k : ℕ) (one : listed.sizes ≡ k ∷ []) (system : IsSystem (system_of direction d))
    (holds : HoldsOf direction (three_of (system_of direction d)) (HoldsInFile direction (system_of direction d) adder reversed) a) where
  abbrev adds : ℕ → ℕ → ℕ → Type 0
  adds = adds_in_file direction (system_of direction d) adder reversed

  abbrev adds_by : (List ℕ → Bool) → ℕ → ℕ → ℕ → Type 0
  adds_by test x y z = IsTrue (test (x ∷ y ∷ z ∷ []))

  -- what is wrong with the adder is wrong with the files
  pub adder_fault : (fault : AdmitFault) → ((test : List ℕ → Bool) → HoldsOf direction (three_of (system_of direction d)) (Passes test) a → IsFirstAdderFault (adds_by test) fault) → IsFirstFaultOfFiles direction listed adder reversed fault
  adder_fault fault wrong = λ s of.
      subst (λ (t : System). IsFirstFault t (adds_in_file direction t adder reversed) fault) (sym (is_only direction listed reversed d file k one s of))
      (first_fault (system_of direction d) adds system fault (adder_found direction (system_of direction d) system (HoldsInFile direction (system_of direction d) adder reversed) a holds {A = Unit {0}} (Err fault) wrong))

  pub are_parts : (n : ℕ) (e : Automaton) → n ≡ get_or d.sizes 0 0 → e ≡ a
      → ((test : List ℕ → Bool) → HoldsOf direction (three_of (system_of direction d)) (Passes test) a → ZeroLaw (adds_by test) × SuccessorLaw (adds_by test)) → AreParts direction listed adder reversed n d e
  are_parts n e digits same laws =
      subst (λ (m : ℕ). AreParts direction listed adder reversed m d e) (sym digits)
      (subst (λ (x : Automaton). AreParts direction listed adder reversed (get_or d.sizes 0 0) d x) (sym same) record {
        sizes = own_size d.sizes k (sizes_of_one direction listed reversed d file k one);
        words = is_of_file direction listed reversed d file k one;
        system = system;
        sums = law;
        adder_is = adder_is direction (system_of direction d) system (HoldsInFile direction (system_of direction d) adder reversed) a holds law;
      })
    where
      law : IsAddition adds
      law = (laws_are_addition adds).0 (adder_found direction (system_of direction d) system (HoldsInFile direction (system_of direction d) adder reversed) a holds {A = Unit {0}} (Ok tt) laws)
