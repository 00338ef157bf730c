use Rattle.std.proofs.Common.{ℕ, List, map, sym, ap, ◌∙◌, subst}
use Rattle.std.specs.Rc.{rc_value}
use Rattle.num_system.specs.Tracks.{AgreeUnder}
use Rattle.number_relations.specs.Placed.{changed_names}
use Rattle.number_relations.proofs.RenamedLemmas.{changed_agree}
use Rattle.number_relations.proofs.relation.Relation.renamed.Goals as goal

pub placed-requires-clause-agree : goal.placed-requires-clause-agree
placed-requires-clause-agree c =
    let r = c.args.self.now in
    let from : List ℕ = c.args.from.now in
    let to : List ℕ = c.args.to.now in
    subst (λ (ns : List (List ℕ)). AgreeUnder ns (map rc_value c.systems.result.now)) (sym (c.deref.ensures.value ∙ c.in_ok-under.ensures ∙ ap (changed_names from to) c.names.ensures.value))
    (subst (AgreeUnder (changed_names from to r.names)) (sym c.systems.ensures.value) (changed_agree r.names r.systems from to c.names.ensures.relation.tracked.distinct c.requires))
