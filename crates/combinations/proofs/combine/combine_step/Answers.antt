use Rattle.std.proofs.Common.{◌≡◌, List, Err, map, refl, sym, ap, ◌∙◌, subst, arith}
use Rattle.std.specs.Rc.{rc_value}
use Rattle.std.specs.Result.{IsErrOf}
use Rattle.digit_tuple.specs.Deterministic.{states_of}
use Rattle.digit_tuple.specs.StepResults.{ExceedsWidth}
use Rattle.digit_tuple.specs.declared.faults.OpFault.TheVariants.{Letters, States}
use Rattle.num_system.specs.Sealed.{SystemValue}
use Rattle.word_output.specs.Words.{IsWordValue, WordValue}
use Rattle.combinations.specs.Combined.{IsCombination}
use Rattle.combinations.specs.CombineSteps.{combine_step}
use Rattle.combinations.proofs.combine.combine_step.Goals as goal

pub from_parts-requires : goal.from_parts-requires
from_parts-requires c =
    subst (λ (ss : List SystemValue). IsWordValue (record { systems = ss; function = c.in-Ok.field-0.result })) (sym c.in_ok-kept.ensures) c.in-Ok.ensures.combination.word_is

pub returns-in-Ok : goal.returns-in-Ok
returns-in-Ok c =
    let systems : List SystemValue = map rc_value c.args.systems.now in
    let f = c.in-Ok.field-0.result in
    let word : record { systems = systems; function = f } ≡ c.from_parts.result =
    ap (λ (ss : List SystemValue). record { systems = ss; function = f }) (sym c.in_ok-kept.ensures) ∙ sym c.from_parts.ensures in
    let size = c.states.ensures.value ∙ ap states_of c.dfa.ensures.value ∙ ap (λ (v : WordValue). states_of v.function.automaton) word in
    record {
      line = _;
      step = record {
        made_is = subst (IsCombination c.args.rest c.args.parts.now systems) word c.in-Ok.ensures.combination;
        line_is = record {
          alphabet = c.in-Ok.ensures.alphabet;
          kind_is = refl;
          width = c.in-Ok.ensures.width;
          size_is = size;
          small = omega (arith, c.states.ensures.value ∙ ap states_of c.dfa.ensures.value, c.in-Ok.ensures.size);
          within = omega (arith, c.in-Ok.ensures.within, c.begin.ensures);
        };
      };
      new_is = c.in_ok-done-in-Ok.ensures.ok;
    }

pub returns-in-Err-Letters : goal.returns-in-Err-Letters
returns-in-Err-Letters c =
    let is_letters : c.in-Err-Letters.field-0 ≡ Letters = c.in-Err-Letters.field-0-is in
    let fault : IsErrOf c.combined.result Letters = c.in-Err-Letters.is ∙ ap Err is_letters in
    ((c.next_number.ensures, c.combined.ensures.letters fault), refl)

pub returns-in-Err-States : goal.returns-in-Err-States
returns-in-Err-States c =
    let is_states : c.in-Err-States.field-0 ≡ States = c.in-Err-States.field-0-is in
    let fault : IsErrOf c.combined.result States = c.in-Err-States.is ∙ ap Err is_states in
    ((c.next_number-in-Err-States.ensures, subst (λ n. ExceedsWidth n (combine_step c.args.rest c.args.parts.now (map rc_value c.args.systems.now)).step) c.begin.ensures (c.combined.ensures.states fault)), refl)
