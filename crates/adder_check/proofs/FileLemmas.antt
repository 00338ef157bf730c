-- The automaton of a file's words, reversed.
use Rattle.std.proofs.Common.{◌≡◌, ℕ, true, List, reverse, Result, Ok, Err, ◌↔◌, IsTrue, IfOk, sym, ap, ◌∙◌, subst}
use Rattle.digit_tuple.specs.Automaton.{Branching, Accepts, letters_of}
use Rattle.digit_tuple.specs.Deterministic.{Automaton, accepts_of}
use Rattle.digit_tuple.specs.Letters.{IsWord, product}
use Rattle.digit_tuple.specs.Steps.{StepLog}
use Rattle.digit_tuple.specs.declared.step_fault.StepFault.{StepFault}
use Rattle.digit_tuple.proofs.PaddingLemmas.{IsWord-reverse}
use Rattle.automaton_steps.specs.Makings.{DoesStep}
use Rattle.automaton_steps.specs.ReadSteps.{IsRead}
use Rattle.automaton_steps.specs.ReverseSteps.{IsReversed, reverse_step}
use Rattle.adder_check.specs.LanguageSteps.{IsOfFile}

pub reversed_file : (listed : Branching) (read : Automaton) (old new : StepLog) (r : Result Automaton StepFault) → IsRead listed read → DoesStep (reverse_step read) old r new → IfOk r (IsOfFile listed true)
reversed_file listed read old new (Ok d) is done = record { sizes = turned.sizes ∙ is.sizes; canonical = turned.canonical; language = language }
  where
    turned : IsReversed read d
    turned = done.step.made_is

    language : (w : List ℕ) → IsWord (letters_of listed) w → IsTrue (accepts_of d w) ↔ Accepts listed (reverse w)
    language w over =
        let same : accepts_of d w ≡ accepts_of read (reverse w) = turned.language w (subst (λ n. IsWord n w) (sym (ap product is.sizes)) over) in
        let says = is.language (reverse w) (IsWord-reverse (letters_of listed) w over) in
        ((λ t. says.0 (sym same ∙ t)), (λ a. same ∙ says.1 a))
reversed_file listed read old new (Err e) is done = tt
