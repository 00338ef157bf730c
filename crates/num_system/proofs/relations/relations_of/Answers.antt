use Rattle.std.proofs.Common.{rules, ◌+◌, sym, subst}
use Rattle.std.proofs.lemmas.Result.{err_from_is_err_and}
use Rattle.digit_tuple.specs.Letters.{IsAlphabet, IsTooLarge}
use Rattle.digit_tuple.specs.Width.{HasApart}
use Rattle.digit_tuple.specs.declared.faults.OpFault.TheVariants.{States}
use Rattle.number_order.specs.Orders.{OrderAlike, pair_sizes, pair_letters}
use Rattle.num_system.specs.Sealed.{AreRelationsOf}
use Rattle.num_system.specs.Sealing.{IsMinimalOrder, letters_at_order, letters_at_successor, states_at_order, states_at_successor}
use Rattle.num_system.specs.SuccessorSteps.{Exceeds, chain_sizes}
use Rattle.num_system.specs.declared.relations.Relations.{Relations}
use Rattle.num_system.proofs.SealLemmas.{with_next}
use Rattle.num_system.proofs.SealingLemmas.{same_fault}
use Rattle.num_system.proofs.relations.relations_of.Goals as goal

pub returns-in_err-relations-clause-letters : goal.returns-in_err-relations-clause-letters
returns-in_err-relations-clause-letters c refused s is minimal =
    let e = c.from_residual.ensures in
    let k = c.in_err-relations.ensures.letters in
    let large : IsTooLarge (pair_sizes c.args.language.now) = search rules in
    letters_at_order c.args.language.now minimal large

pub returns-in_err-relations-clause-states : goal.returns-in_err-relations-clause-states
returns-in_err-relations-clause-states c refused s is minimal =
    let e = c.from_residual.ensures in
    let k = c.in_err-relations.ensures.states in
    let f = c.in_err-relations.ensures.letters_first in
    let fits : IsAlphabet (pair_sizes c.args.language.now) = search rules in
    let apart : HasApart (OrderAlike c.args.direction c.args.language.now) (pair_letters c.args.language.now) (c.args.limit.most + 1) = search rules in
    states_at_order c.args.language.now minimal fits apart

pub successor_of-requires-clause-canonical : goal.successor_of-requires-clause-canonical
successor_of-requires-clause-canonical c = (c.in_ok-relations.ensures.relations c.requires.0 c.requires.1 c.requires.2.accepts).order_canonical

pub successor_of-requires-clause-tracks : goal.successor_of-requires-clause-tracks
successor_of-requires-clause-tracks c = (c.requires.0.digits, (c.in_ok-relations.ensures.relations c.requires.0 c.requires.1 c.requires.2.accepts).order.sizes)

pub returns-in_err-successor-clause-letters : goal.returns-in_err-successor-clause-letters
returns-in_err-successor-clause-letters c refused s is minimal =
    let less = c.in_ok-relations.relations.less in
    let so_far = c.in_ok-relations.ensures.relations s is minimal.accepts in
    let order : IsMinimalOrder c.args.direction s less = record { holds = so_far.order; canonical = so_far.order_canonical } in
    let e = c.from_residual-in_err-successor.ensures in
    let k = c.in_err-successor.ensures.letters in
    let large : IsTooLarge (chain_sizes c.in_ok-relations.relations.less) = search rules in
    letters_at_successor c.args.language.now less minimal c.in_ok-relations.ensures.within order large

pub returns-in_err-successor-clause-states : goal.returns-in_err-successor-clause-states
returns-in_err-successor-clause-states c refused s is minimal =
    let less = c.in_ok-relations.relations.less in
    let so_far = c.in_ok-relations.ensures.relations s is minimal.accepts in
    let order : IsMinimalOrder c.args.direction s less = record { holds = so_far.order; canonical = so_far.order_canonical } in
    let p = err_from_is_err_and c.from_residual-in_err-successor.result c.from_residual-in_err-successor.ensures.1 in
    let exceeds : Exceeds c.args.direction less c.args.limit.most = c.in_err-successor.ensures.states (same_fault c.in_err-successor.field-0.0 States (rw (p.1, p.2) at refused)) in
    let fits : IsAlphabet (chain_sizes less) = c.in_err-successor.ensures.letters_first (same_fault c.in_err-successor.field-0.0 States (rw (p.1, p.2) at refused)) in
    states_at_successor c.args.language.now less minimal c.in_ok-relations.ensures.within order fits exceeds

pub returns-clause-relations : goal.returns-clause-relations
returns-clause-relations c s is language =
    let r = c.in_ok-relations.relations in
    let so_far = c.in_ok-relations.ensures.relations s is language in
    subst (λ (all : Relations). AreRelationsOf c.args.direction s all.equal all.less all.successor all.zero) (sym c.with_successor.ensures)
    (with_next c.args.direction s r.equal r.less c.in_ok-successor.successor r.zero so_far (c.in_ok-successor.ensures.successor s is so_far.order) c.in_ok-successor.ensures.canonical)
