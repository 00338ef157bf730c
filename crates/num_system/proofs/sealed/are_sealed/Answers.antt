use Rattle.std.proofs.Common.{map, sym, ap, ◌∙◌, subst, arith}
use Rattle.std.specs.List.{All}
use Rattle.std.specs.Rc.{rc_value}
use Rattle.std.proofs.lemmas.List.{get_or-map, length-map, take_all}
use Rattle.std.proofs.lemmas.List.Elements.{All-more, recursion_from_All}
use Rattle.num_system.specs.Sealed.{IsSealed}
use Rattle.num_system.specs.Tracks.{absent_system}
use Rattle.num_system.proofs.sealed.are_sealed.Goals as goal

pub loop-system-preserved : goal.loop-system-preserved
loop-system-preserved c =
    let systems = c.args.systems.now in
    let i = c.loop-system.system-index in
    let x = c.system-item.result in
    All-more IsSealed (map rc_value systems) i absent_system (omega (arith, c.loop-system-test.true, length-map systems rc_value)) c.loop-system.invariant
    (subst IsSealed (c.as_ref.ensures ∙ sym (get_or-map rc_value systems i x absent_system c.loop-system-test.true ∙ ap rc_value (sym c.system-item.is))) c.is_sealed.ensures)

pub returns : goal.returns
returns c =
    let systems = c.args.systems.now in
    recursion_from_All IsSealed (map rc_value systems)
    (subst (All IsSealed) (take_all c.loop-system.system-index (map rc_value systems) (omega (arith, c.loop-system-test.false, length-map systems rc_value))) c.loop-system.invariant)
