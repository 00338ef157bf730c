use Rattle.std.proofs.Common.{◌≡◌, List, ℕ, ◌+◌, [], ◌∷◌, map, length, Err, refl, sym, ap, ◌∙◌, subst, arith}
use Rattle.std.specs.Rc.{rc_value}
use Rattle.std.specs.Result.{IsErrOf}
use Rattle.digit_tuple.specs.Letters.{IsAlphabet}
use Rattle.digit_tuple.specs.Width.{HasApart}
use Rattle.digit_tuple.specs.declared.direction.Direction.{Direction}
use Rattle.digit_tuple.specs.declared.faults.OpFault.TheVariants.{States}
use Rattle.minimise.specs.Tracked.{NamedAutomaton}
use Rattle.constants.specs.Constants.{ConstantAlike, IsConstantOf}
use Rattle.num_system.specs.Sealed.{SystemValue, system_of, IsSealed}
use Rattle.number_relations.specs.Relations.{RelationValue, IsRelation, relation_over}
use Rattle.number_relations.proofs.ConstantRelations.{constant_is}
use Rattle.number_relations.proofs.ConstantSteps.{constant_exceeds, constant_language, constant_line}
use Rattle.number_relations.proofs.constant.constant_step.Goals as goal

pub of_canonical-requires-clause-count : goal.of_canonical-requires-clause-count
of_canonical-requires-clause-count c =
    let system = c.args.system.now.value in
    let sealed : IsSealed system = subst IsSealed c.as_ref-sealed.ensures c.is_sealed.ensures in
    let language = constant_language system c.as_ref-sealed.result.now c.direction-direction.result c.as_ref-language.result.now sealed c.as_ref-sealed.ensures c.direction-direction.ensures.value (c.as_ref-language.ensures ∙ c.language.ensures.value) in
    ap length c.in_ok-names.ensures.items ∙ sym (ap length (c.in-Ok.ensures.constant (system_of system) sealed.laws language).sizes)

pub from_parts-requires : goal.from_parts-requires
from_parts-requires c =
    let system = c.args.system.now.value in
    let name = c.args.name.now in
    let sealed : IsSealed system = subst IsSealed c.as_ref-sealed.ensures c.is_sealed.ensures in
    let language = constant_language system c.as_ref-sealed.result.now c.direction-direction.result c.as_ref-language.result.now sealed c.as_ref-sealed.ensures c.direction-direction.ensures.value (c.as_ref-language.ensures ∙ c.language.ensures.value) in
    let direction = c.direction-direction.ensures.value ∙ ap (λ (v : SystemValue). v.direction) c.as_ref-sealed.ensures in
    let names = c.in_ok-names.names.items in
    let systems = map rc_value c.in_ok-systems.systems.items in
    let named : names ≡ name ∷ [] = c.in_ok-names.ensures.items ∙ ap (λ (n : List ℕ). n ∷ []) c.in_ok-copy.ensures in
    let same : systems ≡ system ∷ [] = ap (map rc_value) c.in_ok-systems.ensures.items ∙ ap (λ (s : SystemValue). s ∷ []) c.in_ok-clone.ensures.cases in
    let made : RelationValue = record { names = names; systems = systems; automaton = c.in-Ok.field-0.result } in
    subst (λ (t : NamedAutomaton). IsRelation (relation_over t systems)) (sym c.of_canonical.ensures)
    (constant_is system c.args.number name made sealed
    (record {
      names = named;
      systems = same;
      constant = subst (λ (w : Direction). IsConstantOf w (system_of system) c.args.number c.in-Ok.field-0.result) direction (c.in-Ok.ensures.constant (system_of system) sealed.laws language);
      canonical = c.in-Ok.ensures.canonical;
    }))

pub returns-in-Ok : goal.returns-in-Ok
returns-in-Ok c =
    let system = c.args.system.now.value in
    let number = c.args.number in
    let name = c.args.name.now in
    let sealed : IsSealed system = subst IsSealed c.as_ref-sealed.ensures c.is_sealed.ensures in
    let language = constant_language system c.as_ref-sealed.result.now c.direction-direction.result c.as_ref-language.result.now sealed c.as_ref-sealed.ensures c.direction-direction.ensures.value (c.as_ref-language.ensures ∙ c.language.ensures.value) in
    let direction = c.direction-direction.ensures.value ∙ ap (λ (v : SystemValue). v.direction) c.as_ref-sealed.ensures in
    let alphabet : IsAlphabet (system.digits ∷ []) = subst IsAlphabet (c.alphabet.ensures.sizes ∙ language.sizes) c.tracks.ensures.alphabet in
    let names = c.in_ok-names.names.items in
    let systems = map rc_value c.in_ok-systems.systems.items in
    let named : names ≡ name ∷ [] = c.in_ok-names.ensures.items ∙ ap (λ (n : List ℕ). n ∷ []) c.in_ok-copy.ensures in
    let same : systems ≡ system ∷ [] = ap (map rc_value) c.in_ok-systems.ensures.items ∙ ap (λ (s : SystemValue). s ∷ []) c.in_ok-clone.ensures.cases in
    rw (c.from_parts.ensures, c.of_canonical.ensures)
    (record {
      line = _;
      step = record {
        made_is = record {
          names = named;
          systems = same;
          constant = subst (λ (w : Direction). IsConstantOf w (system_of system) number c.in-Ok.field-0.result) direction (c.in-Ok.ensures.constant (system_of system) sealed.laws language);
          canonical = c.in-Ok.ensures.canonical;
        };
        line_is = constant_line system number name c.direction-direction.result direction alphabet c.args.steps.now.limit c.in-Ok.field-0.width c.states.result _ (c.in-Ok.ensures.width (system_of system) sealed.laws language) c.in-Ok.ensures.size
            (omega (arith, c.in-Ok.ensures.within, c.begin.ensures)) c.states.ensures.value;
      };
      new_is = c.in_ok-done-in-Ok.ensures.ok;
    })

pub returns-in-Err-States : goal.returns-in-Err-States
returns-in-Err-States c =
    let system = c.args.system.now.value in
    let sealed : IsSealed system = subst IsSealed c.as_ref-sealed.ensures c.is_sealed.ensures in
    let language = constant_language system c.as_ref-sealed.result.now c.direction-direction.result c.as_ref-language.result.now sealed c.as_ref-sealed.ensures c.direction-direction.ensures.value (c.as_ref-language.ensures ∙ c.language.ensures.value) in
    let direction = c.direction-direction.ensures.value ∙ ap (λ (v : SystemValue). v.direction) c.as_ref-sealed.ensures in
    let alphabet : IsAlphabet (system.digits ∷ []) = subst IsAlphabet (c.alphabet.ensures.sizes ∙ language.sizes) c.tracks.ensures.alphabet in
    let is_states : c.in-Err-States.field-0 ≡ States = c.in-Err-States.field-0-is in
    let fault : IsErrOf c.constant.result States = c.in-Err-States.is ∙ ap Err is_states in
    let apart = c.constant.ensures.states fault (system_of system) sealed.laws language in
    let most : HasApart (ConstantAlike c.direction-direction.result (system_of system) c.args.number) system.digits (c.args.steps.now.limit + 1) =
    subst (λ (n : ℕ). HasApart (ConstantAlike c.direction-direction.result (system_of system) c.args.number) system.digits (n + 1)) c.begin.ensures apart in
    ((c.next_number.ensures, constant_exceeds system c.args.number c.args.name.now c.direction-direction.result direction alphabet c.args.steps.now.limit most), refl)
