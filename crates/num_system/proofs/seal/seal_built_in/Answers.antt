use Rattle.std.proofs.Common.{sym, ap, subst}
use Rattle.std.proofs.lemmas.Result.{IfOk-weaker}
use Rattle.digit_tuple.specs.Letters.{IsAlphabet}
use Rattle.digit_tuple.specs.declared.direction.Direction.{Direction}
use Rattle.numeration.specs.Relations.{IsAdderOf}
use Rattle.num_system.specs.Sealed.{SystemValue, AreRelationsOf}
use Rattle.num_system.specs.Sealing.{IsMinimalLanguage}
use Rattle.num_system.proofs.seal.seal_built_in.Goals as goal

pub relations_without_limit-requires : goal.relations_without_limit-requires
relations_without_limit-requires g c =
    let s = g.N.NumSystem.system c.args.system.now in
    let direction = sym c.direction-direction.ensures in
    record {
      system = (
        s,
        g.met.N.NumSystem.laws c.args.system.now,
        subst (λ (m : Direction). IsMinimalLanguage m s c.in_ok-language.language) direction c.in_ok-language.ensures,
        subst (λ (m : Direction). IsAdderOf m s c.in_ok-adder.adder) direction c.in_ok-adder.ensures.adder,
      );
      canonical = c.in_ok-adder.ensures.canonical;
      fits = subst IsAlphabet (sym c.in_ok-adder.ensures.adder.sizes) c.requires;
    }

pub system_from-requires-clause-relations : goal.system_from-requires-clause-relations
system_from-requires-clause-relations g c =
    let s = g.N.NumSystem.system c.args.system.now in
    let r = c.in_ok-relations.relations in
    let direction = sym c.direction-direction.ensures in
    let minimal = subst (λ (m : Direction). IsMinimalLanguage m s c.in_ok-language.language) direction c.in_ok-language.ensures in
    let adds = subst (λ (m : Direction). IsAdderOf m s c.in_ok-adder.adder) direction c.in_ok-adder.ensures.adder in
    subst (λ (m : Direction). AreRelationsOf m s r.equal r.less r.successor r.zero) c.direction-direction.ensures
    (c.in_ok-relations.ensures s (g.met.N.NumSystem.laws c.args.system.now) minimal.accepts adds)

pub returns-clause-direction : goal.returns-clause-direction
returns-clause-direction g c = IfOk-weaker c.system_from.result _ _ (λ sealed parts. ap (λ (v : SystemValue). v.direction) parts) c.system_from.ensures.parts
