use Rattle.std.proofs.Common.{List, ℕ, ◌++◌, sym, ap, subst}
use Rattle.std.proofs.lemmas.Result.{IfOk-at_ok}
use Rattle.digit_tuple.specs.Deterministic.{Automaton}
use Rattle.digit_tuple.specs.Letters.{IsAlphabet}
use Rattle.digit_tuple.specs.declared.direction.Direction.{Direction}
use Rattle.numeration.specs.Systems.{System, IsSystem}
use Rattle.numeration.specs.Relations.{IsLanguageOf}
use Rattle.number_order.specs.Orders.{pair_sizes}
use Rattle.num_system.specs.Sealed.{AreOrderRelationsOf, AreRelationsOf}
use Rattle.num_system.specs.declared.relations.OrderRelations.{OrderRelations}
use Rattle.num_system.specs.declared.relations.Relations.{Relations}
use Rattle.num_system.proofs.SealLemmas.{with_next}
use Rattle.num_system.proofs.StepLemmas.{not_too_large, two_fit}
use Rattle.num_system.proofs.relations.relations_without_limit.Goals as goal

-- the relations are those of each system whose language the automaton accepts
abbrev AreRelations : Direction → Automaton → OrderRelations → Type 0
AreRelations direction language r = (s : System) → IsSystem s → IsLanguageOf direction s language → AreOrderRelationsOf direction s r.equal r.less r.zero

pub without_limit-requires : goal.without_limit-requires
without_limit-requires c letters =
    let s = c.requires.system.0 in
    let fits = two_fit s.digits (subst IsAlphabet c.requires.system.3.sizes c.requires.fits) in
    not_too_large (pair_sizes c.args.language.now) (subst IsAlphabet (sym (ap (λ (ss : List ℕ). ss ++ ss) c.requires.system.2.accepts.sizes)) fits) (c.order_relations.ensures.letters letters)

pub successor_without_limit-requires : goal.successor_without_limit-requires
successor_without_limit-requires c =
    let are_relations = IfOk-at_ok (AreRelations c.args.direction c.args.language.now) c.in_ok-relations.ensures c.order_relations.ensures.relations in
    let so_far = are_relations c.requires.system.0 c.requires.system.1 c.requires.system.2.accepts in
    record {
      less = so_far.order_canonical;
      zero = so_far.zeros_canonical;
      adder = c.requires.canonical;
      tracks = (c.requires.system.0.digits, so_far.order.sizes, so_far.zeros.sizes, c.requires.system.3.sizes);
      fits = c.requires.fits;
    }

pub returns : goal.returns
returns c s is language adds =
    let r = c.in_ok-relations.relations in
    let so_far = IfOk-at_ok (AreRelations c.args.direction c.args.language.now) c.in_ok-relations.ensures c.order_relations.ensures.relations s is language in
    subst (λ (all : Relations). AreRelationsOf c.args.direction s all.equal all.less all.successor all.zero) (sym c.with_successor.ensures)
    (with_next c.args.direction s r.equal r.less c.in_ok-successor.successor r.zero so_far (c.in_ok-successor.ensures.successor s is so_far.order so_far.zeros adds) c.in_ok-successor.ensures.canonical)
