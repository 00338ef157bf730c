use Rattle.std.proofs.Common.{ℕ, [], ◌∷◌, IsTrue, inl, inr, refl, sym, ap, ◌∙◌, subst, Ok, Err}
use Rattle.std.proofs.lemmas.Bool.{false≢true}
use Rattle.digit_tuple.specs.Deterministic.{Automaton}
use Rattle.minimise.specs.Canonical.{IsCanonical}
use Rattle.numeration.specs.Relations.{HoldsOf}
use Rattle.num_system.specs.Links.{Passes}
use Rattle.adder_check.specs.declared.admit_fault.Law.TheVariants as laws
use Rattle.adder_check.specs.AdderLaws.{ZeroLaw, SuccessorLaw}
use Rattle.adder_check.specs.AdderRelation.{three_of}
use Rattle.adder_check.specs.Faults.{fault_of}
use Rattle.endless.specs.LanguageLaws.{system_of}
use Rattle.adder_check.specs.NextSums.{DoesNextSums}
use Rattle.adder_check.proofs.FileUsers.{step_refused, two_tracks, where_holds, where_fails}
use Rattle.adder_check.proofs.HandedOn.{handed_on}
use Rattle.adder_check.proofs.admit.check_adder.Goals as goal

pub returns-in_err-zero_law-clause-steps : goal.returns-in_err-zero_law-clause-steps
returns-in_err-zero_law-clause-steps c =
    inr (fault_of c.in_err-zero_law.field-0.0, (c.in_err-zero_law.field-0.0, c.in_err-zero_law.ensures.steps, refl), (handed_on _ c.from_residual.result c.from_residual.ensures.1))

pub returns-then-not-branch-clause-steps : goal.returns-then-not-branch-clause-steps
returns-then-not-branch-clause-steps c =
    inl (c.in_ok-zero_law.field-0, c.zero_law.new.steps, c.in_ok-zero_law.ensures.steps, where_fails c.in_ok-zero_law.field-0 laws.ZeroLaw _ c.zero_law.new.steps c.zero_law.new.steps _ c.if-not-branch.true refl refl)

pub returns-then-not-branch-clause-laws : goal.returns-then-not-branch-clause-laws
returns-then-not-branch-clause-laws c = λ test adds law. false≢true (sym c.if-not-branch.true ∙ (c.in_ok-zero_law.ensures.law test adds).1 law)

pub returns-in_err-next_sums-clause-steps : goal.returns-in_err-next_sums-clause-steps
returns-in_err-next_sums-clause-steps c =
    let does = subst (λ (d : Automaton). DoesNextSums c.args.direction d c.args.parts.next.now c.zero_law.new.steps (Err c.in_err-next_sums.field-0.0) c.next_sums.new.steps) c.dfa.ensures.value c.in_err-next_sums.ensures.steps in
    inl (
      c.in_ok-zero_law.field-0,
      c.zero_law.new.steps,
      c.in_ok-zero_law.ensures.steps,
      where_holds c.in_ok-zero_law.field-0 laws.ZeroLaw _ c.zero_law.new.steps c.next_sums.new.steps _ c.if-not-branch.false
          (inr (fault_of c.in_err-next_sums.field-0.0, (c.in_err-next_sums.field-0.0, does, refl), (handed_on _ c.from_residual-in_err-next_sums.result c.from_residual-in_err-next_sums.ensures.1))),
    )

pub returns-then-not-branch-2-clause-steps : goal.returns-then-not-branch-2-clause-steps
returns-then-not-branch-2-clause-steps c =
    let does = subst (λ (d : Automaton). DoesNextSums c.args.direction d c.args.parts.next.now c.zero_law.new.steps (Ok c.in_ok-next_sums.field-0) c.next_sums.new.steps) c.dfa.ensures.value c.in_ok-next_sums.ensures.steps in
    inl (
      c.in_ok-zero_law.field-0,
      c.zero_law.new.steps,
      c.in_ok-zero_law.ensures.steps,
      where_holds c.in_ok-zero_law.field-0 laws.ZeroLaw _ c.zero_law.new.steps c.next_sums.new.steps _ c.if-not-branch.false
          (inl (c.in_ok-next_sums.field-0, c.next_sums.new.steps, does, where_fails c.in_ok-next_sums.field-0 laws.SuccessorLaw _ c.next_sums.new.steps c.next_sums.new.steps _ c.if-not-branch-2.true refl refl)),
    )

pub returns-then-not-branch-2-clause-laws : goal.returns-then-not-branch-2-clause-laws
returns-then-not-branch-2-clause-laws c = λ test adds.
    let s = system_of c.args.direction c.args.parts.language.now in
    let here = subst (λ (d : Automaton). HoldsOf c.args.direction (three_of s) (Passes test) d) (sym c.dfa.ensures.value) adds in (
      (c.in_ok-zero_law.ensures.law test adds).0 c.if-not-branch.false,
      λ law. false≢true (sym c.if-not-branch-2.true ∙ (c.in_ok-next_sums.ensures.law s test c.requires.system here c.requires.successor).1 law),
    )

pub returns-clause-steps : goal.returns-clause-steps
returns-clause-steps c =
    let does = subst (λ (d : Automaton). DoesNextSums c.args.direction d c.args.parts.next.now c.zero_law.new.steps (Ok c.in_ok-next_sums.field-0) c.next_sums.new.steps) c.dfa.ensures.value c.in_ok-next_sums.ensures.steps in
    inl (
      c.in_ok-zero_law.field-0,
      c.zero_law.new.steps,
      c.in_ok-zero_law.ensures.steps,
      where_holds c.in_ok-zero_law.field-0 laws.ZeroLaw _ c.zero_law.new.steps c.next_sums.new.steps _ c.if-not-branch.false
          (inl (c.in_ok-next_sums.field-0, c.next_sums.new.steps, does, where_holds c.in_ok-next_sums.field-0 laws.SuccessorLaw _ c.next_sums.new.steps c.next_sums.new.steps _ c.if-not-branch-2.false (refl, refl))),
    )

pub returns-clause-laws : goal.returns-clause-laws
returns-clause-laws c = λ test adds.
    let s = system_of c.args.direction c.args.parts.language.now in
    let here = subst (λ (d : Automaton). HoldsOf c.args.direction (three_of s) (Passes test) d) (sym c.dfa.ensures.value) adds in
    ((c.in_ok-zero_law.ensures.law test adds).0 c.if-not-branch.false, (c.in_ok-next_sums.ensures.law s test c.requires.system here c.requires.successor).0 c.if-not-branch-2.false)

pub returns-in_err-zero_law-clause-laws : goal.returns-in_err-zero_law-clause-laws
returns-in_err-zero_law-clause-laws c = λ test adds.
    let sums : ℕ → ℕ → ℕ → Type 0 = λ x y z. IsTrue (test (x ∷ y ∷ z ∷ [])) in
    step_refused (λ _. ZeroLaw sums × SuccessorLaw sums) sums c.from_residual.result c.in_err-zero_law.field-0.0 (handed_on _ c.from_residual.result c.from_residual.ensures.1)

pub returns-in_err-next_sums-clause-laws : goal.returns-in_err-next_sums-clause-laws
returns-in_err-next_sums-clause-laws c = λ test adds.
    let sums : ℕ → ℕ → ℕ → Type 0 = λ x y z. IsTrue (test (x ∷ y ∷ z ∷ [])) in
    step_refused (λ _. ZeroLaw sums × SuccessorLaw sums) sums c.from_residual-in_err-next_sums.result c.in_err-next_sums.field-0.0 (handed_on _ c.from_residual-in_err-next_sums.result c.from_residual-in_err-next_sums.ensures.1)

pub zero_law-requires-clause-tracks : goal.zero_law-requires-clause-tracks
zero_law-requires-clause-tracks c = c.requires.tracks

pub zero_law-requires-clause-system : goal.zero_law-requires-clause-system
zero_law-requires-clause-system c = c.requires.system

pub next_sums-requires-clause-adder : goal.next_sums-requires-clause-adder
next_sums-requires-clause-adder c = subst IsCanonical (sym c.dfa.ensures.value) c.dfa.ensures.tracked.canonical

pub next_sums-requires-clause-tracks : goal.next_sums-requires-clause-tracks
next_sums-requires-clause-tracks c = (
  c.requires.tracks.0,
  ap (λ (d : Automaton). d.sizes) c.dfa.ensures.value ∙ c.requires.tracks.1,
  two_tracks c.args.parts.language.now c.args.parts.next.now c.requires.tracks.0 c.requires.tracks.2 c.requires.successor.sizes,
)
