use Rattle.std.proofs.Common.{sym, ap, ◌∙◌, subst}
use Rattle.digit_tuple.specs.Deterministic.{Automaton}
use Rattle.digit_tuple.specs.declared.direction.Direction.{Direction}
use Rattle.num_system.specs.Sealed.{system_of, sealed_of}
use Rattle.num_system.specs.Sealing.{IsMinimalLanguage}
use Rattle.num_system.proofs.SealLemmas.{same_system, sealed_from}
use Rattle.num_system.proofs.seal.system_from.Goals as goal

pub from_parts-requires : goal.from_parts-requires
from_parts-requires g c =
    let s = g.N.NumSystem.system c.args.system.now in
    let direction = g.N.NumSystem.first_digit c.args.system.now in
    let v = sealed_of c.digits-digits.result c.direction-direction.result c.in_ok-valid.valid.value c.args.adder c.args.relations in
    let language : IsMinimalLanguage direction s c.in_ok-valid.valid.value = subst (λ (d : Automaton). IsMinimalLanguage direction s d) (sym c.in_ok-valid.ensures.ok) c.requires.language in
    sealed_from s direction v c.direction-direction.ensures c.digits-digits.ensures (g.met.N.NumSystem.laws c.args.system.now) language c.requires.adder c.requires.canonical c.requires.relations

pub returns-clause-system : goal.returns-clause-system
returns-clause-system g c =
    let s = g.N.NumSystem.system c.args.system.now in
    let v = sealed_of c.digits-digits.result c.direction-direction.result c.in_ok-valid.valid.value c.args.adder c.args.relations in
    let minimal : IsMinimalLanguage v.direction s c.args.language = subst (λ (m : Direction). IsMinimalLanguage m s c.args.language) (sym c.direction-direction.ensures) c.requires.language in
    let language : IsMinimalLanguage v.direction s v.language = subst (λ (d : Automaton). IsMinimalLanguage v.direction s d) (sym c.in_ok-valid.ensures.ok) minimal in
    ap system_of c.from_parts.ensures ∙ same_system s v c.digits-digits.ensures language.accepts

pub returns-clause-parts : goal.returns-clause-parts
returns-clause-parts g c =
    c.from_parts.ensures ∙ (λ i. sealed_of (c.digits-digits.ensures i) (c.direction-direction.ensures i) (c.in_ok-valid.ensures.ok i) c.args.adder c.args.relations)
