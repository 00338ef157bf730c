use Rattle.std.proofs.Common.{◌≡◌, List, Ok, map, sym, subst}
use Rattle.std.specs.Rc.{rc_value}
use Rattle.dfa_loading.specs.Places.{lists_of}
use Rattle.dfa_reading.specs.HeaderViews.{header_view}
use Rattle.formula_resolve.specs.declared.file.File.{File}
use Rattle.num_system.specs.Sealed.{SystemValue}
use Rattle.command_parts.specs.TableReads.{AreSystemsUnder}
use Rattle.command_parts.proofs.TableReads.{readable_tracks, relation_read, relation_stopped}
use Rattle.command_parts.proofs.table_reading.read_relation.Goals as goal

pub relation-requires-clause-text : goal.relation-requires-clause-text
relation-requires-clause-text c = let table = c.args.over.table.now in subst (λ (file : File). lists_of file table.text ≡ Ok table.listed) c.requires.automaton.1 c.requires.table.lists

pub relation-requires-clause-systems : goal.relation-requires-clause-systems
relation-requires-clause-systems c =
    let systems = c.args.over.systems.now in
    let under = subst (λ xs. AreSystemsUnder systems (header_view c.header.result.now) (map rc_value xs)) (sym c.deref.ensures.value) c.in_ok-tracks.ensures in
    readable_tracks systems c.args.over.table.now (map rc_value c.deref.result.now) c.requires.table (subst (λ h. AreSystemsUnder systems h (map rc_value c.deref.result.now)) c.header.ensures under)

pub returns : goal.returns
returns c =
    let systems = c.args.over.systems.now in
    let old = c.args.steps.now in
    let new = c.relation.new.steps in
    let table = c.args.over.table.now in
    let tracks : List SystemValue = map rc_value c.deref.result.now in
    let under = subst (λ xs. AreSystemsUnder systems (header_view c.header.result.now) (map rc_value xs)) (sym c.deref.ensures.value) c.in_ok-tracks.ensures in
    let here = subst (λ h. AreSystemsUnder systems h tracks) c.header.ensures under in
    record {
      made = relation_read systems old new table tracks here rc_value c.relation.result c.relation.ensures.made;
      refused = relation_stopped systems old new table tracks here c.requires.automaton.0 c.relation.result c.requires.automaton.1 c.relation.ensures.refused;
    }
