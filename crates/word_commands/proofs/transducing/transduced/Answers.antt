use Rattle.std.proofs.Common.{◌≡◌, inl, inr, List, Ok, Err, map, refl, sym, ap, ◌∙◌, subst}
use Rattle.std.specs.Rc.{rc_value}
use Rattle.std.proofs.lemmas.Result.{err_from_is_err_and}
use Rattle.automaton_steps.specs.Makings.{DoesStep}
use Rattle.num_system.specs.Sealed.{SystemValue}
use Rattle.word_output.specs.LetterFunctions.{LetterFunctionValue}
use Rattle.word_output.specs.Words.{IsWordValue, WordValue}
use Rattle.word_transduce.specs.TransducedWords.{IsTransduced}
use Rattle.word_transduce.specs.Transductions.{transduce_step}
use Rattle.word_commands.proofs.TransduceSteps.{is_transduced}
use Rattle.word_commands.proofs.transducing.transduced.Goals as goal

pub returns-in_err-systems-clause-steps : goal.returns-in_err-systems-clause-steps
returns-in_err-systems-clause-steps c =
    let p = err_from_is_err_and c.from_residual.result c.from_residual.ensures.1 in
    rw (p.1, p.2) (inl refl)

pub returns-in_err-outputs-clause-steps : goal.returns-in_err-outputs-clause-steps
returns-in_err-outputs-clause-steps c =
    let p = err_from_is_err_and c.from_residual-in_err-outputs.result c.from_residual-in_err-outputs.ensures.1 in
    let t = c.args.transducer.now in
    let fault = c.in_err-outputs.field-0.0 in
    let first = subst (λ (f : LetterFunctionValue). DoesStep (transduce_step t f) c.args.steps.now (Err fault) c.transduce.new.steps) c.function.ensures.value c.in_err-outputs.ensures in
    rw (p.1, p.2) (inr (inr (fault, first, refl)))

pub returns-in_err-made-clause-steps : goal.returns-in_err-made-clause-steps
returns-in_err-made-clause-steps c =
    let p = err_from_is_err_and c.from_residual-in_err-made.result c.from_residual-in_err-made.ensures.1 in
    let t = c.args.transducer.now in
    let fault = c.in_err-made.field-0.0 in
    let outputs = c.in_ok-outputs.outputs in
    let first = subst (λ (f : LetterFunctionValue). DoesStep (transduce_step t f) c.args.steps.now (Ok outputs) c.transduce.new.steps) c.function.ensures.value c.in_ok-outputs.ensures in
    rw (p.1, p.2) (inr (inl (outputs, c.transduce.new.steps, first, inr (fault, c.in_err-made.ensures, refl))))

pub from_parts-requires : goal.from_parts-requires
from_parts-requires c =
    let t = c.args.transducer.now in
    let word = c.args.word.now in
    let outputs = c.in_ok-outputs.outputs in
    let made = c.in_ok-made.made in
    let first = subst (λ (f : LetterFunctionValue). DoesStep (transduce_step t f) c.args.steps.now (Ok outputs) c.transduce.new.steps) c.function.ensures.value c.in_ok-outputs.ensures in
    let is = is_transduced c.transductions_make_words.ensures t word c.systems.ensures.word c.requires outputs made c.args.steps.now c.transduce.new.steps c.reverse_letters.new.steps first c.in_ok-made.ensures in
    let systems : map rc_value c.in_ok-systems.systems.items ≡ word.systems = c.in_ok-systems.ensures ∙ c.systems.ensures.value in
    subst (λ (ss : List SystemValue). IsWordValue (record { systems = ss; function = made })) (sym systems) is.word_is

pub returns-clause-steps : goal.returns-clause-steps
returns-clause-steps c =
    let t = c.args.transducer.now in
    let word = c.args.word.now in
    let outputs = c.in_ok-outputs.outputs in
    let made = c.in_ok-made.made in
    let first = subst (λ (f : LetterFunctionValue). DoesStep (transduce_step t f) c.args.steps.now (Ok outputs) c.transduce.new.steps) c.function.ensures.value c.in_ok-outputs.ensures in
    let systems : map rc_value c.in_ok-systems.systems.items ≡ word.systems = c.in_ok-systems.ensures ∙ c.systems.ensures.value in
    let result : c.from_parts.result ≡ record { systems = word.systems; function = made } = c.from_parts.ensures ∙ (λ i. record { systems = systems i; function = made }) in
    inr (inl (outputs, c.transduce.new.steps, first, inl (made, c.reverse_letters.new.steps, c.in_ok-made.ensures, (ap Ok result, refl))))

pub returns-clause-letters : goal.returns-clause-letters
returns-clause-letters c =
    let t = c.args.transducer.now in
    let word = c.args.word.now in
    let outputs = c.in_ok-outputs.outputs in
    let made = c.in_ok-made.made in
    let first = subst (λ (f : LetterFunctionValue). DoesStep (transduce_step t f) c.args.steps.now (Ok outputs) c.transduce.new.steps) c.function.ensures.value c.in_ok-outputs.ensures in
    let systems : map rc_value c.in_ok-systems.systems.items ≡ word.systems = c.in_ok-systems.ensures ∙ c.systems.ensures.value in
    let result : c.from_parts.result ≡ record { systems = word.systems; function = made } = c.from_parts.ensures ∙ (λ i. record { systems = systems i; function = made }) in
    subst (λ (w : WordValue). IsTransduced t word w) (sym result)
    (is_transduced c.transductions_make_words.ensures t word c.systems.ensures.word c.requires outputs made c.args.steps.now c.transduce.new.steps c.reverse_letters.new.steps first c.in_ok-made.ensures)
