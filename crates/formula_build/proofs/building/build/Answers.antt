use Rattle.std.proofs.Common.{List, sym, subst, arith}
use Rattle.plan_relations.specs.Libraries.{IsLibrary}
use Rattle.term_plans.specs.Plans.{Plan}
use Rattle.plan_relations.specs.Makings.{IsReady, Makes}
use Rattle.formula_build.specs.VariableTracks.{IsOverVariables}
use Rattle.formula_resolve.specs.declared.variable.Variable.{Variable}
use Rattle.formula_build.specs.ResolvedViews.{formula_of, headers_in, library_of}
use Rattle.formula_build.proofs.SolutionLemmas.{listed_parts, made_solution, plan_ready}
use Rattle.formula_build.proofs.VariableTrackLemmas.{made_tracks}
use Rattle.plan_relations.proofs.BuiltLemmas.{built_makes}
use Rattle.formula_build.proofs.building.build.Goals as goal

pub make_plans-requires-clause-parts : goal.make_plans-requires-clause-parts
make_plans-requires-clause-parts c =
    let r = c.args.resolved.now in
    listed_parts r.plan.plans r.plan.last (headers_in r) (formula_of r) c.requires.planned.plan

pub make_plans-requires-clause-ready : goal.make_plans-requires-clause-ready
make_plans-requires-clause-ready c =
    let r = c.args.resolved.now in
    let l = library_of r c.args.read.now in
    let library : IsLibrary l = record { relations = c.is_read.ensures.relations; words = c.is_read.ensures.words; systems = c.are_sealed.ensures } in
    let p = c.requires.planned in
    subst (IsReady l) (sym p.plan.last_is) (plan_ready l (headers_in r) (formula_of r) library p.formed p.directions p.resolved (omega (arith, p.few)) c.requires.fits c.requires.known)

pub returns-clause-solution : goal.returns-clause-solution
returns-clause-solution c =
    let r = c.args.resolved.now in
    let l = library_of r c.args.read.now in
    let library : IsLibrary l = record { relations = c.is_read.ensures.relations; words = c.is_read.ensures.words; systems = c.are_sealed.ensures } in
    let p = c.requires.planned in
    made_solution l (headers_in r) (formula_of r) library p.formed p.directions p.resolved (omega (arith, p.few)) c.requires.fits c.requires.known c.in_ok-made.made c.in_ok-in_order.field-0
    (subst (λ (q : Plan). Makes l q c.in_ok-made.made) p.plan.last_is (built_makes l _ c.in_ok-made.made _ _ _ c.in_ok-made.ensures)) c.in_ok-in_order.ensures

pub returns-clause-tracks : goal.returns-clause-tracks
returns-clause-tracks c =
    let r = c.args.resolved.now in
    let l = library_of r c.args.read.now in
    let library : IsLibrary l = record { relations = c.is_read.ensures.relations; words = c.is_read.ensures.words; systems = c.are_sealed.ensures } in
    let p = c.requires.planned in
    subst (λ (vs : List Variable). IsOverVariables l vs c.in_ok-in_order.field-0) (sym p.variables)
    (made_tracks l (headers_in r) (formula_of r) library p.formed p.directions p.resolved (omega (arith, p.few)) c.requires.fits c.requires.known c.in_ok-made.made c.in_ok-in_order.field-0
    (subst (λ (q : Plan). Makes l q c.in_ok-made.made) p.plan.last_is (built_makes l _ c.in_ok-made.made _ _ _ c.in_ok-made.ensures)) c.in_ok-in_order.ensures)
