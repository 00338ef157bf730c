-- The valid part of the closure of a file's automaton holds of the file's relation.
use Rattle.std.proofs.Common.{◌≡◌, ℕ, Bool, List, reverse, Result, Ok, Err, IfOk, inl, inr, refl, sym, ap, ◌∙◌, subst}
use Rattle.std.proofs.lemmas.List.{reverse-reverse}
use Rattle.digit_tuple.specs.Automaton.{Branching}
use Rattle.digit_tuple.specs.Automaton as branching
use Rattle.digit_tuple.specs.Deterministic.{Automaton, letters_of, accepts_of}
use Rattle.digit_tuple.specs.Letters.{IsWord, product}
use Rattle.digit_tuple.specs.Paddings.{in_order, without_zeros, strip}
use Rattle.digit_tuple.specs.Steps.{StepLog}
use Rattle.digit_tuple.specs.declared.step_fault.StepFault.{StepFault}
use Rattle.digit_tuple.specs.declared.step_fault.StepFault.TheVariants.{Memory}
use Rattle.digit_tuple.specs.declared.direction.Direction.{Direction}
use Rattle.digit_tuple.specs.declared.direction.Direction.TheVariants.{Msd, Lsd}
use Rattle.digit_tuple.proofs.PaddingLemmas.{IsWord-in_order}
use Rattle.digit_tuple.proofs.TruthLemmas.{same_tests}
use Rattle.minimise.specs.Tracked.{NamedAutomaton}
use Rattle.numeration.specs.Systems.{System, IsSystem, AreSystems}
use Rattle.numeration.specs.Representation.{sizes_of, letters_in}
use Rattle.numeration.specs.Relations.{HoldsOf}
use Rattle.numeration.proofs.RepresentLemmas.{representations}
use Rattle.num_system.specs.Joined.{AreLanguagesOf}
use Rattle.num_system.specs.Representations.{HasRepresentation, IgnoresZeros}
use Rattle.num_system.proofs.SuccessorLemmas.{holds_same}
use Rattle.num_system.proofs.ValidityLinks.{valid_part_represents}
use Rattle.pad_rename.specs.Padding.{IsPadded}
use Rattle.automaton_steps.specs.Makings.{Making, DoesStep}
use Rattle.automaton_steps.specs.PadSteps.{IsClosure, pad_step}
use Rattle.automaton_steps.specs.ValiditySteps.{IsValidPart, valid_step}
use Rattle.adder_check.specs.LanguageSteps.{IsOfFile, DoesFile}
use Rattle.adder_check.specs.AdderRelation.{DoesAdder, HoldsInFile, three_of, adder_names}

-- words are the same but for zeros where they are without these
same_without_zeros : (direction : Direction) (w v : List ℕ) → strip direction v ≡ strip direction w → without_zeros (in_order direction v) ≡ without_zeros (in_order direction w)
same_without_zeros Msd w v same = same
same_without_zeros Lsd w v same = sym (reverse-reverse (without_zeros (reverse v))) ∙ ap reverse same ∙ reverse-reverse (without_zeros (reverse w))

same_strip : (direction : Direction) (w v : List ℕ) → without_zeros (in_order direction v) ≡ without_zeros (in_order direction w) → strip direction v ≡ strip direction w
same_strip Msd w v same = same
same_strip Lsd w v same = ap reverse same

module _ (direction : Direction) (s : System) (system : IsSystem s) (listed : Branching) (reversed : Bool) (read closed : Automaton) (part : NamedAutomaton) (languages : List Automaton)
    (sizes : listed.sizes ≡ sizes_of (three_of s)) (is : IsOfFile listed reversed read) (closure : IsClosure direction read closed)
    (valid : IsValidPart languages (record { names = adder_names; automaton = closed }) part) (are : AreLanguagesOf direction (three_of s) languages) where
  systems : AreSystems (three_of s)
  systems = (system, (system, (system, tt)))

  read_letters : letters_of read ≡ letters_in (three_of s)
  read_letters = ap product (is.sizes ∙ sizes)

  closed_letters : letters_of closed ≡ letters_in (three_of s)
  closed_letters = ap product (closure.sizes ∙ is.sizes ∙ sizes)

  listed_letters : branching.letters_of listed ≡ letters_in (three_of s)
  listed_letters = ap product sizes

  over : {m n : ℕ} → m ≡ n → (w : List ℕ) → IsWord m w → IsWord n w
  over same w word = subst (λ k. IsWord k w) same word

  -- the closure does not look at leading zeros
  padded_same : (v w : List ℕ) → without_zeros (in_order direction v) ≡ without_zeros (in_order direction w) → IsPadded direction read v → IsPadded direction read w
  padded_same v w same found = (found.0, found.1, found.2 ∙ same_strip direction w v same, found.3)

  ignores : IgnoresZeros direction closed
  ignores v w first second same = same_tests (accepts_of closed v) (accepts_of closed w) (
    (λ t. (closure.language w (word w second)).1 (padded_same v w same ((closure.language v (word v first)).0 t))),
    (λ t. (closure.language v (word v first)).1 (padded_same w v (sym same) ((closure.language w (word w second)).0 t))),
  )
    where
      word : (u : List ℕ) → IsWord (letters_of closed) u → IsWord (letters_of read) u
      word u inside = over (closed_letters ∙ sym read_letters) u inside

  -- a representation that is accepted with other zeros is one that the file lists with these
  from_closed : (ns : List ℕ) → HasRepresentation direction (three_of s) closed ns → HoldsInFile direction s listed reversed ns
  from_closed ns found =
      let padded = (closure.language found.0 (over (sym read_letters) found.0 found.1)).0 found.3 in
      let word = over read_letters padded.0 padded.1 in (
        padded.0,
        over (sym listed_letters) padded.0 word,
        (representations (three_of s) (in_order direction found.0) (in_order direction padded.0) ns systems (IsWord-in_order direction (letters_in (three_of s)) found.0 found.1) (IsWord-in_order direction (letters_in (three_of s)) padded.0 word) found.2).1
            (same_without_zeros direction found.0 padded.0 padded.2),
        (is.language padded.0 (over (sym listed_letters) padded.0 word)).0 padded.3,
      )

  to_closed : (ns : List ℕ) → HoldsInFile direction s listed reversed ns → HasRepresentation direction (three_of s) closed ns
  to_closed ns found =
      let word = over listed_letters found.0 found.1 in
      let inside = over (sym read_letters) found.0 word in
      (found.0, word, found.2, (closure.language found.0 inside).1 (found.0, inside, refl, (is.language found.0 found.1).1 found.3))

  pub adder_holds : HoldsOf direction (three_of s) (HoldsInFile direction s listed reversed) part.automaton
  adder_holds =
      holds_same direction (three_of s) (HasRepresentation direction (three_of s) closed) (HoldsInFile direction s listed reversed) part.automaton (λ ns long. (from_closed ns, to_closed ns))
      (valid_part_represents direction (three_of s) languages are (record { names = adder_names; automaton = closed }) part.automaton valid.sizes valid.language systems (closure.sizes ∙ is.sizes ∙ sizes) ignores)

-- the step valid on an automaton under these names makes such a part
pub valid_made : (old new : StepLog) (languages : List Automaton) (a b : NamedAutomaton) (r : Result NamedAutomaton StepFault) → a ≡ b → DoesStep (valid_step languages a) old r new → IfOk r (IsValidPart languages b)
valid_made old new languages a b (Ok part) same done = subst (λ (n : NamedAutomaton). IsValidPart languages n part) same done.step.made_is
valid_made old new languages a b (Err e) same done = tt

-- a step before which memory runs out
pub runs_out : {Made : Type 0} (making : Making Made) (old : StepLog) (r : Result Made StepFault) → r ≡ Err Memory → DoesStep making old r old
runs_out {Made = Made} making old r is = subst (λ (x : Result Made StepFault). DoesStep making old x old) (sym is) (tt, refl)

-- the steps of an adder's file: those that read it, then `pad`, then `valid`
pub adder_done : (direction : Direction) (listed : Branching) (reversed : Bool) (languages : List Automaton) (old mid last new : StepLog) (read closed : Automaton) (r : Result NamedAutomaton StepFault)
    → DoesFile listed reversed old (Ok read) mid → DoesStep (pad_step direction read) mid (Ok closed) last → DoesStep (valid_step languages (record { names = adder_names; automaton = closed })) last r new
    → DoesAdder direction listed reversed languages old r new
adder_done direction listed reversed languages old mid last new read closed r first second third = inl (read, mid, first, inl (closed, last, second, third))

-- memory runs out before the first of them
pub adder_out : (direction : Direction) (listed : Branching) (reversed : Bool) (languages : List Automaton) (old : StepLog) (r : Result NamedAutomaton StepFault) → r ≡ Err Memory → DoesAdder direction listed reversed languages old r old
adder_out direction listed reversed languages old r is = inr (Memory, inr (Memory, (tt, refl), refl), is)
