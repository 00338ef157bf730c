-- The relation of an adder's file, and its first law that does not hold.
use Rattle.std.proofs.Common.{◌≡◌, ℕ, suc, ◌+◌, Bool, false, List, [], ◌∷◌, length, get_or, ◌↔◌, IsTrue, refl, sym, ap, subst, arith, Result, Ok, Err, MatchResult}
use Rattle.digit_tuple.specs.Deterministic.{Automaton, accepts_of}
use Rattle.digit_tuple.specs.Letters.{IsWord}
use Rattle.digit_tuple.specs.Paddings.{in_order}
use Rattle.digit_tuple.specs.declared.direction.Direction.{Direction}
use Rattle.digit_tuple.proofs.PaddingLemmas.{in_order-twice, IsWord-in_order}
use Rattle.numeration.specs.Systems.{System, IsSystem, AreSystems}
use Rattle.numeration.specs.Representation.{Represents, letters_in}
use Rattle.numeration.specs.Relations.{HoldsOf, IsSum, IsAdderOf}
use Rattle.numeration.proofs.RepresentLemmas.{representation}
use Rattle.numeration.proofs.TrackLemmas.{tracks_represent}
use Rattle.numeration.proofs.PartRepresentation.{represented_only}
use Rattle.num_system.specs.Links.{Passes}
use Rattle.num_system.proofs.SuccessorLemmas.{holds_same}
use Rattle.adder_check.specs.declared.admit_fault.AdmitFault.{AdmitFault}
use Rattle.adder_check.specs.declared.admit_fault.AdmitFault.TheVariants as faults
use Rattle.adder_check.specs.declared.admit_fault.Law.{Law}
use Rattle.adder_check.specs.declared.admit_fault.Law.TheVariants as laws
use Rattle.adder_check.specs.AdderLaws.{ZeroLaw, SuccessorLaw, IsAddition}
use Rattle.adder_check.specs.AdderRelation.{adds_in_file, three_of}
use Rattle.adder_check.specs.Admission.{IsFirstAdderFault, IsFirstFault, FaultsExclude}
use Rattle.adder_check.proofs.AdditionLemmas.{laws_are_addition}

-- laws of relations that are the same
module _ (adds other : ℕ → ℕ → ℕ → Type 0) (same : (x y z : ℕ) → adds x y z ↔ other x y z) where
  pub zero_law_same : ZeroLaw adds → ZeroLaw other
  zero_law_same law x z = ((λ holds. (law x z).0 ((same x 0 z).1 holds)), (λ is. (same x 0 z).0 ((law x z).1 is)))

  pub successor_law_same : SuccessorLaw adds → SuccessorLaw other
  successor_law_same law x y z = (
    (λ holds. let found = (law x y z).0 ((same x (suc y) z).1 holds) in (found.0, (same x y found.0).0 found.1, found.2)),
    (λ found. (same x (suc y) z).0 ((law x y z).1 (found.0, (same x y found.0).1 found.1, found.2))),
  )

turned : {A B : Type 0} → A ↔ B → B ↔ A
turned both = (both.1, both.0)

adder_fault_same : (adds other : ℕ → ℕ → ℕ → Type 0) → ((x y z : ℕ) → adds x y z ↔ other x y z) → (fault : AdmitFault) → IsFirstAdderFault adds fault → IsFirstAdderFault other fault
adder_fault_same adds other same (faults.NotAdmitted laws.NoZero) wrong = wrong
adder_fault_same adds other same (faults.NotAdmitted laws.Endless) wrong = wrong
adder_fault_same adds other same (faults.NotAdmitted laws.ZeroLaw) wrong = λ law. wrong (zero_law_same other adds (λ x y z. turned (same x y z)) law)
adder_fault_same adds other same (faults.NotAdmitted laws.SuccessorLaw) wrong = (zero_law_same adds other same wrong.0, λ law. wrong.1 (successor_law_same other adds (λ x y z. turned (same x y z)) law))
adder_fault_same adds other same (faults.Letters step) wrong = tt
adder_fault_same adds other same (faults.States step) wrong = tt
adder_fault_same adds other same faults.Memory wrong = tt

-- what is wrong with the adder of a system
pub first_fault : (s : System) (adds : ℕ → ℕ → ℕ → Type 0) → IsSystem s → (fault : AdmitFault) → IsFirstAdderFault adds fault → IsFirstFault s adds fault
first_fault s adds system (faults.NotAdmitted laws.NoZero) wrong = absurd wrong
first_fault s adds system (faults.NotAdmitted laws.Endless) wrong = absurd wrong
first_fault s adds system (faults.NotAdmitted laws.ZeroLaw) wrong = (system, wrong)
first_fault s adds system (faults.NotAdmitted laws.SuccessorLaw) wrong = (system, wrong.0, wrong.1)
first_fault s adds system (faults.Letters step) wrong = tt
first_fault s adds system (faults.States step) wrong = tt
first_fault s adds system faults.Memory wrong = tt

-- excludes that it is addition
excludes : (s : System) (adds : ℕ → ℕ → ℕ → Type 0) (law : Law) → IsFirstFault s adds (faults.NotAdmitted law) → IsSystem s → IsAddition adds → ⊥
excludes s adds laws.NoZero wrong system is = wrong (record { empty = system.empty; zeros = system.zeros })
excludes s adds laws.Endless wrong system is = wrong.1 system.endless
excludes s adds laws.ZeroLaw wrong system is = wrong.1 ((laws_are_addition adds).1 is).0
excludes s adds laws.SuccessorLaw wrong system is = wrong.2 ((laws_are_addition adds).1 is).1

pub faults_exclude : FaultsExclude
faults_exclude direction s adder reversed law wrong both = excludes s (adds_in_file direction s adder reversed) law wrong both.0 both.1

-- a relation of three numbers that an automaton holds of is decided by it
module _ (direction : Direction) (s : System) (system : IsSystem s) (holds : List ℕ → Type 0) (d : Automaton) (is : HoldsOf direction (three_of s) holds d) where
  three : AreSystems (three_of s)
  three = (system, (system, (system, tt)))

  represented : (x y z : ℕ) → (w : List ℕ) × IsWord (letters_in (three_of s)) w × Represents (three_of s) w (x ∷ y ∷ z ∷ [])
  represented x y z = representation (three_of s) (x ∷ y ∷ z ∷ []) three refl

  decides : List ℕ → Bool
  decides [] = false
  decides (x ∷ []) = false
  decides (x ∷ y ∷ []) = false
  decides (x ∷ y ∷ z ∷ []) = accepts_of d (in_order direction (represented x y z).0)
  decides (x ∷ y ∷ z ∷ w ∷ ns) = false

  accepted_if : (x y z : ℕ) → holds (x ∷ y ∷ z ∷ []) ↔ IsTrue (accepts_of d (in_order direction (represented x y z).0))
  accepted_if x y z = ((λ h. (is.accepts w over).1 (x ∷ y ∷ z ∷ [], represents, h)), back)
    where
      w : List ℕ
      w = in_order direction (represented x y z).0

      over : IsWord (letters_in (three_of s)) w
      over = IsWord-in_order direction (letters_in (three_of s)) (represented x y z).0 (represented x y z).1

      represents : Represents (three_of s) (in_order direction w) (x ∷ y ∷ z ∷ [])
      represents = subst (λ u. Represents (three_of s) u (x ∷ y ∷ z ∷ [])) (sym (in_order-twice direction (represented x y z).0)) (represented x y z).2

      back : IsTrue (accepts_of d w) → holds (x ∷ y ∷ z ∷ [])
      back t =
          let found = (is.accepts w over).0 t in
          subst holds
          (represented_only (three_of s) (in_order direction w) found.0 (x ∷ y ∷ z ∷ []) (tracks_represent (three_of s) (in_order direction w) found.0 found.1) (tracks_represent (three_of s) (in_order direction w) (x ∷ y ∷ z ∷ []) represents)) found.2

  decided : (ns : List ℕ) → length ns ≡ 3 → holds ns ↔ IsTrue (decides ns)
  unfolding decides
  decided [] long = absurd (omega (arith, long))
  decided (x ∷ []) long = absurd (omega (arith, long))
  decided (x ∷ y ∷ []) long = absurd (omega (arith, long))
  decided (x ∷ y ∷ z ∷ []) long = accepted_if x y z
  decided (x ∷ y ∷ z ∷ w ∷ ns) long = absurd (omega (arith, long))

  abbrev adds : ℕ → ℕ → ℕ → Type 0
  adds x y z = holds (x ∷ y ∷ z ∷ [])

  abbrev adds_by : (List ℕ → Bool) → ℕ → ℕ → ℕ → Type 0
  adds_by test x y z = IsTrue (test (x ∷ y ∷ z ∷ []))

  -- what the laws of its test are is what its own are
  pub adder_found : {A : Type 0} (r : Result A AdmitFault)
      → ((test : List ℕ → Bool) → HoldsOf direction (three_of s) (Passes test) d → MatchResult r (λ a. ZeroLaw (adds_by test) × SuccessorLaw (adds_by test)) (IsFirstAdderFault (adds_by test)))
      → MatchResult r (λ a. ZeroLaw adds × SuccessorLaw adds) (IsFirstAdderFault adds)
  adder_found r found = by r (found decides (holds_same direction (three_of s) holds (Passes decides) d decided is))
    where
      same : (x y z : ℕ) → adds_by decides x y z ↔ adds x y z
      same x y z = turned (decided (x ∷ y ∷ z ∷ []) refl)

      by : {A : Type 0} (r : Result A AdmitFault) → MatchResult r (λ a. ZeroLaw (adds_by decides) × SuccessorLaw (adds_by decides)) (IsFirstAdderFault (adds_by decides))
          → MatchResult r (λ a. ZeroLaw adds × SuccessorLaw adds) (IsFirstAdderFault adds)
      by (Ok a) both = (zero_law_same (adds_by decides) adds same both.0, successor_law_same (adds_by decides) adds same both.1)
      by (Err fault) wrong = adder_fault_same (adds_by decides) adds same fault wrong

  -- where it is addition, the automaton is the adder
  pub adder_is : IsAddition adds → IsAdderOf direction s d
  adder_is law = holds_same direction (three_of s) holds IsSum d sums is
    where
      from_sum : (x y z : ℕ) → IsSum (x ∷ y ∷ z ∷ []) → x + y ≡ z
      from_sum x y z (a, b, equal) =
          let first : x ≡ a = ap (λ (ns : List ℕ). get_or ns 0 0) equal in
          let second : y ≡ b = ap (λ (ns : List ℕ). get_or ns 1 0) equal in
          let third : z ≡ a + b = ap (λ (ns : List ℕ). get_or ns 2 0) equal in
          omega (arith, first, second, third)

      sums : (ns : List ℕ) → length ns ≡ 3 → holds ns ↔ IsSum ns
      sums [] long = absurd (omega (arith, long))
      sums (x ∷ []) long = absurd (omega (arith, long))
      sums (x ∷ y ∷ []) long = absurd (omega (arith, long))
      sums (x ∷ y ∷ z ∷ []) long = (
        (λ h. (x, y, ap (λ (n : ℕ). x ∷ y ∷ n ∷ []) (sym ((law x y z).0 h)))),
        (λ sum. (law x y z).1 (from_sum x y z sum)),
      )
      sums (x ∷ y ∷ z ∷ w ∷ ns) long = absurd (omega (arith, long))
