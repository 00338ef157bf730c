use Rattle.std.proofs.Common.{sym, ap, ◌∙◌, subst}
use Rattle.named_systems.specs.NamedSystems.{with_system}
use Rattle.num_system.specs.Sealed.{SystemValue, system_of}
use Rattle.named_systems.specs.BuiltIn.{IsBuiltInSystem}
use Rattle.named_systems.specs.SealedSystems.{AreBuiltIn}
use Rattle.named_systems.proofs.SealedLemmas.{system_fits, sealed_built_in, built_in_push, built_in_found}
use Rattle.named_systems.proofs.sealed_systems.SealedSystems.sealed.Goals as goal

pub returns-in-Some : goal.returns-in-Some
returns-in-Some c =
    subst (λ (s : SystemValue). IsBuiltInSystem c.args.name.now s.direction (system_of s)) (sym c.in_ok-clone.ensures.cases)
    (built_in_found c.self.inside.systems c.args.name.now c.in-Some.system.now.value c.self.invariant c.in-Some.ensures.found)

pub seal_built_in-requires : goal.seal_built_in-requires
seal_built_in-requires c = system_fits c.in-Some-system_named.system

pub invariant_of-self-in-Some-system_named : goal.invariant_of-self-in-Some-system_named
invariant_of-self-in-Some-system_named c =
    let name = c.args.name.now in
    let s = c.in_ok-sealed-in-Some-system_named.sealed in
    let is = sealed_built_in c.in-Some-system_named.system name s c.in-Some-system_named.ensures c.in_ok-sealed-in-Some-system_named.ensures.system c.in_ok-sealed-in-Some-system_named.ensures.direction in
    let added = c.in_ok-add-in-Some-system_named.ensures.ok ∙ ap (with_system c.self.inside.systems name) (c.in_ok-clone-in-Some-system_named.ensures.cases ∙ c.in_ok-shared-in-Some-system_named.ensures.ok) in
    subst AreBuiltIn (sym added) (built_in_push c.self.inside.systems name s c.self.invariant is)

pub returns-in_ok-add-in-Some-system_named : goal.returns-in_ok-add-in-Some-system_named
returns-in_ok-add-in-Some-system_named c =
    let name = c.args.name.now in
    let s = c.in_ok-sealed-in-Some-system_named.sealed in
    let is = sealed_built_in c.in-Some-system_named.system name s c.in-Some-system_named.ensures c.in_ok-sealed-in-Some-system_named.ensures.system c.in_ok-sealed-in-Some-system_named.ensures.direction in
    subst (λ (t : SystemValue). IsBuiltInSystem name t.direction (system_of t)) (sym c.in_ok-shared-in-Some-system_named.ensures.ok) is
