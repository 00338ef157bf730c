use Rattle.std.proofs.Common.{sym, ap, subst}
use Rattle.std.proofs.lemmas.Result.{err_from_is_err_and}
use Rattle.digit_tuple.specs.declared.direction.Direction.{Direction}
use Rattle.digit_tuple.specs.declared.faults.OpFault.TheVariants.{Letters, States}
use Rattle.num_system.specs.Sealed.{SystemValue, AreRelationsOf}
use Rattle.num_system.specs.Sealing.{IsMinimalLanguage, IsSealedWithin, ExceedsByLetters, ExceedsByStates}
use Rattle.num_system.proofs.SealingLemmas.{same_fault}
use Rattle.num_system.proofs.seal.seal.Goals as goal

pub relations_of-requires : goal.relations_of-requires
relations_of-requires g c =
    let s = g.N.NumSystem.system c.args.system.now in
    (s, g.met.N.NumSystem.laws c.args.system.now, subst (λ (m : Direction). IsMinimalLanguage m s c.in_ok-language.language) (sym c.direction-direction.ensures) c.in_ok-language.ensures)

pub returns-in_err-relations-clause-letters : goal.returns-in_err-relations-clause-letters
returns-in_err-relations-clause-letters g c refused =
    let s = g.N.NumSystem.system c.args.system.now in
    let direction = c.direction-direction.ensures in
    let minimal = subst (λ (m : Direction). IsMinimalLanguage m s c.in_ok-language.language) (sym direction) c.in_ok-language.ensures in
    let p = err_from_is_err_and c.from_residual-in_err-relations.result c.from_residual-in_err-relations.ensures.1 in
    subst (λ (m : Direction). ExceedsByLetters m s c.args.limit.most) direction
    (c.in_err-relations.ensures.letters (same_fault c.in_err-relations.field-0.0 Letters (rw (p.1, p.2) at refused)) s (g.met.N.NumSystem.laws c.args.system.now) minimal)

pub returns-in_err-relations-clause-states : goal.returns-in_err-relations-clause-states
returns-in_err-relations-clause-states g c refused =
    let s = g.N.NumSystem.system c.args.system.now in
    let direction = c.direction-direction.ensures in
    let minimal = subst (λ (m : Direction). IsMinimalLanguage m s c.in_ok-language.language) (sym direction) c.in_ok-language.ensures in
    let p = err_from_is_err_and c.from_residual-in_err-relations.result c.from_residual-in_err-relations.ensures.1 in
    subst (λ (m : Direction). ExceedsByStates m s c.args.limit.most) direction
    (c.in_err-relations.ensures.states (same_fault c.in_err-relations.field-0.0 States (rw (p.1, p.2) at refused)) s (g.met.N.NumSystem.laws c.args.system.now) minimal)

pub system_from-requires-clause-relations : goal.system_from-requires-clause-relations
system_from-requires-clause-relations g c =
    let s = g.N.NumSystem.system c.args.system.now in
    let r = c.in_ok-relations.relations in
    let direction = c.direction-direction.ensures in
    let minimal = subst (λ (m : Direction). IsMinimalLanguage m s c.in_ok-language.language) (sym direction) c.in_ok-language.ensures in
    subst (λ (m : Direction). AreRelationsOf m s r.equal r.less r.successor r.zero) direction (c.in_ok-relations.ensures.relations s (g.met.N.NumSystem.laws c.args.system.now) minimal.accepts)

pub returns-clause-direction : goal.returns-clause-direction
returns-clause-direction g c = ap (λ (v : SystemValue). v.direction) c.in_ok-sealed.ensures.parts

pub returns-clause-within : goal.returns-clause-within
returns-clause-within g c =
    let r = c.in_ok-relations.relations in
    rw c.in_ok-sealed.ensures.parts
    (subst (λ (m : Direction). IsSealedWithin m c.in_ok-language.language r.less c.args.limit.most) c.direction-direction.ensures c.in_ok-relations.ensures.within)
