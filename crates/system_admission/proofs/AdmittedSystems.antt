-- What the steps and laws of admission make is the system of the files' automata.
use Rattle.std.proofs.Common.{◌≡◌, ℕ, ◌+◌, Bool, true, false, List, [], ◌∷◌, get_or, Ok, refl, sym, ap, ◌∙◌, subst, arith, inl, inr}
use Rattle.digit_tuple.specs.Automaton.{Branching}
use Rattle.digit_tuple.specs.Deterministic.{Automaton}
use Rattle.digit_tuple.specs.Steps.{StepLog}
use Rattle.digit_tuple.specs.declared.direction.Direction.{Direction}
use Rattle.minimise.specs.Tracked.{NamedAutomaton}
use Rattle.num_system.specs.Joined.{AreLanguagesOf}
use Rattle.numeration.specs.Relations.{HoldsOf, IsAdderOf, IsSum}
use Rattle.numeration.specs.Representation.{sizes_of}
use Rattle.numeration.specs.Systems.{System, IsSystem}
use Rattle.automaton_steps.specs.ReadSteps.{IsRead}
use Rattle.automaton_steps.proofs.ThenAnswers.{equal_value, no_fault}
use Rattle.adder_check.specs.AdderLaws.{IsAddition}
use Rattle.adder_check.specs.AdderRelation.{DoesAdder, HoldsInFile, adds_in_file, three_of}
use Rattle.adder_check.specs.Admission.{DoesAdmission, DoesLanguage, IsAdmitted, IsSystemOfFile, user_system}
use Rattle.endless.specs.LanguageLaws.{system_in, system_of}
use Rattle.adder_check.specs.LanguageSteps.{DoesFile, DoesReversal, IsOfFile}
use Rattle.adder_check.specs.SureSystems.{surely_system}
use Rattle.adder_check.specs.declared.user_system.UserSystem.{UserSystem}
use Rattle.adder_check.proofs.AdderLemmas.{adder_holds}
use Rattle.adder_check.proofs.FileLemmas.{reversed_file}
use Rattle.adder_check.proofs.FileSystems.{is_of_file, sizes_of_one, three_languages, three_sizes}
use Rattle.adder_check.proofs.SameHolds.{same_holds}
use Rattle.adder_check.proofs.SureAdders.{surely_adder}

-- what the steps of a file make is the automaton of its words
read_file : (listed : Branching) (read : Automaton) → IsRead listed read → IsOfFile listed false read
read_file listed read is = record { sizes = is.sizes; canonical = is.canonical; language = is.language }

pub file_made : (listed : Branching) (reversed : Bool) (old new : StepLog) (d : Automaton) → DoesFile listed reversed old (Ok d) new → IsOfFile listed reversed d
file_made listed reversed old new d (inr (f, does, none)) = absurd (no_fault d f none)
file_made listed reversed old new d (inl (read, mid, does, turns)) = by reversed turns
  where
    by : (b : Bool) → DoesReversal b read mid (Ok d) new → IsOfFile listed b d
    by true turn = reversed_file listed read mid new (Ok d) does.step.made_is turn
    by false turn = subst (IsOfFile listed false) (sym (equal_value d read turn.0)) (read_file listed read does.step.made_is)

pub language_made : (read_direction : Direction) (listed : Branching) (reversed : Bool) (old new : StepLog) (d : Automaton) → DoesLanguage read_direction listed reversed old (Ok d) new → IsOfFile listed reversed d
language_made read_direction listed reversed old new d (inr (f, does, none)) = absurd (no_fault d f none)
language_made read_direction listed reversed old new d (inl (made, mid, does, kept)) = subst (IsOfFile listed reversed) (sym kept.1.0) (file_made listed reversed old mid made does)

-- and those of an adder's file the automaton of its relation
adder_made : (read_direction : Direction) (s : System) (listed : Branching) (reversed : Bool) (languages : List Automaton) (old new : StepLog) (sums : NamedAutomaton) → IsSystem s → listed.sizes ≡ sizes_of (three_of s)
    → AreLanguagesOf read_direction (three_of s) languages → DoesAdder read_direction listed reversed languages old (Ok sums) new → HoldsOf read_direction (three_of s) (HoldsInFile read_direction s listed reversed) sums.automaton
adder_made read_direction s listed reversed languages old new sums system sizes are (inr (f, does, none)) = absurd (no_fault sums f none)
adder_made read_direction s listed reversed languages old new sums system sizes are (inl (read, mid, file, inr (f, does, none))) = absurd (no_fault sums f none)
adder_made read_direction s listed reversed languages old new sums system sizes are (inl (read, mid, file, inl (closed, after, pad, valid))) =
    adder_holds read_direction s system listed reversed read closed sums languages sizes (file_made listed reversed old mid read file) pad.step.made_is valid.step.made_is are

-- three numbers of which the third is the sum
is_sum : (x y z : ℕ) → x + y ≡ z → IsSum (x ∷ y ∷ z ∷ [])
is_sum x y z same = (x, y, ap (λ (n : ℕ). x ∷ y ∷ n ∷ []) (sym same))

from_sum : (x y z : ℕ) → IsSum (x ∷ y ∷ z ∷ []) → x + y ≡ z
from_sum x y z (a, b, same) =
    let first : x ≡ a = ap (λ (ns : List ℕ). get_or ns 0 0) same in
    let second : y ≡ b = ap (λ (ns : List ℕ). get_or ns 1 0) same in
    let third : z ≡ a + b = ap (λ (ns : List ℕ). get_or ns 2 0) same in
    omega (arith, first, second, third)

-- the relation of an adder is addition
adds : (read_direction : Direction) (s : System) (listed : Branching) (reversed : Bool) (d : Automaton) → IsSystem s → HoldsOf read_direction (three_of s) (HoldsInFile read_direction s listed reversed) d → IsAdderOf read_direction s d
    → IsAddition (adds_in_file read_direction s listed reversed)
adds read_direction s listed reversed d system holds is x y z =
    let same = (same_holds read_direction (three_of s) (system, (system, (system, tt))) (HoldsInFile read_direction s listed reversed) IsSum d d holds is).0 (λ w over. refl) (x ∷ y ∷ z ∷ []) refl in
    ((λ h. from_sum x y z (same.0 h)), (λ equal. same.1 (is_sum x y z equal)))

module _ (read_direction : Direction) (language adder : Branching) (reversed : Bool) (digits : ℕ) (one : language.sizes ≡ digits ∷ []) (three : adder.sizes ≡ digits ∷ digits ∷ digits ∷ []) where
  -- a user's system that is made of the automata of files
  made_of : (user : UserSystem) (d : Automaton) (sums : NamedAutomaton) → IsOfFile language reversed d → user.direction ≡ read_direction → user.language ≡ d → user.adder ≡ sums.automaton
      → (IsSystem (system_of read_direction d) → HoldsOf read_direction (three_of (system_of read_direction d)) (HoldsInFile read_direction (system_of read_direction d) adder reversed) sums.automaton) → IsAdmitted read_direction language adder reversed user
  made_of user d sums file direction words adds_by holds = record { direction = direction; words = of_file; system = system; sums = law; adder_is = is_adder }
    where
      digits_are : user.digits ≡ get_or d.sizes 0 0
      digits_are = ap (λ (ns : List ℕ). get_or ns 0 0) (sym user.sizes ∙ ap (λ (e : Automaton). e.sizes) words)

      same : user_system user ≡ system_of read_direction d
      same = λ i. system_in (direction i) (digits_are i) (words i)

      of_file : IsSystemOfFile read_direction language reversed (user_system user)
      of_file = subst (IsSystemOfFile read_direction language reversed) (sym same) (is_of_file read_direction language reversed d file digits one)

      system : IsSystem (user_system user)
      system = surely_system (user_system user) user.is_system

      is_adder : IsAdderOf read_direction (user_system user) user.adder
      is_adder = subst (λ (turn : Direction). IsAdderOf turn (user_system user) user.adder) direction (surely_adder user.direction (user_system user) user.adder user.adds)

      relation : HoldsOf read_direction (three_of (user_system user)) (HoldsInFile read_direction (user_system user) adder reversed) user.adder
      relation =
          subst (λ (s : System). HoldsOf read_direction (three_of s) (HoldsInFile read_direction s adder reversed) user.adder) (sym same)
          (subst (λ (e : Automaton). HoldsOf read_direction (three_of (system_of read_direction d)) (HoldsInFile read_direction (system_of read_direction d) adder reversed) e) (sym adds_by) (holds (subst IsSystem same system)))

      law : IsAddition (adds_in_file read_direction (user_system user) adder reversed)
      law = adds read_direction (user_system user) adder reversed user.adder system relation is_adder

  pub admitted : (old new : StepLog) (user : UserSystem) → DoesAdmission read_direction language adder reversed old (Ok user) new → IsAdmitted read_direction language adder reversed user
  admitted old new user (inr (f, does, none)) = absurd (no_fault user f none)
  admitted old new user (inl (d, mid, words, inr (f, does, none))) = absurd (no_fault user f none)
  admitted old new user (inl (d, mid, words, inl (next, after, successor, inr (f, does, none)))) = absurd (no_fault user f none)
  admitted old new user (inl (d, mid, words, inl (next, after, successor, inl (sums, later, adds_up, inr (f, does, none))))) = absurd (no_fault user f none)
  admitted old new user (inl (d, mid, words, inl (next, after, successor, inl (sums, later, adds_up, inl (done, last, laws, made))))) =
      let file = language_made read_direction language reversed old mid d words in
      let size = sizes_of_one read_direction language reversed d file digits one in
      made_of user d sums file made.1.0 made.1.1 made.1.2
      (λ system.
      adder_made read_direction (system_of read_direction d) adder reversed (d ∷ d ∷ d ∷ []) after later sums system (three_sizes read_direction d digits adder.sizes size three) (three_languages read_direction d digits size) adds_up)
