use Rattle.std.proofs.Common.{map, sym, ap, ◌∙◌}
use Rattle.std.specs.Rc.{rc_value}
use Rattle.dfa_reading.specs.HeaderViews.{header_view}
use Rattle.dfa_reading.specs.Headers.{Systems}
use Rattle.command_parts.proofs.TableReads.{pushed, under_more, none_missing}
use Rattle.command_parts.proofs.table_reading.tracks_under.Goals as goal
use Rattle.command_parts.proofs.table_reading.tracks_under.Goals.{in-Some+in_ok-clone+in_ok-push, in_default-get}

pub loop-name-preserved : goal.loop-name-preserved
loop-name-preserved c = elim c.match-get.branch [
  | in-Some+in_ok-clone+in_ok-push w ↦
      under_more c.args.systems.now c.deref-name-items.result.now c.loop-name.name-index c.name-item.result c.name.result.now (map rc_value c.loop-name.tracks.items) (map rc_value c.match-get.tracks.items)
      (rc_value w.in-Some.system.now) (rc_value w.in_ok-clone.field-0) c.loop-name-test.true c.name-item.is c.loop-name.invariant c.name.ensures w.in-Some.ensures.found w.in_ok-clone.ensures.cases
      (pushed rc_value c.match-get.tracks w.push.new.self c.loop-name.tracks.items w.in_ok-clone.field-0 w.tracks-is w.in_ok-push.ensures.items)
  | in_default-get w ↦
      absurd (none_missing c.args.systems.now (header_view c.args.header.now) c.deref-name-items.result.now c.requires.0 c.loop-name.name-index c.name-item.result c.name.result.now
      (ap header_view c.in-Systems.is ∙ ap Systems (sym c.deref-name-items.ensures.value)) c.requires.1 c.loop-name-test.true c.name-item.is c.name.ensures w.in_default-get.ensures.found)
]
