use Rattle.std.proofs.Common.{◌≡◌, List, Ok, map, sym, subst, ◌∙◌}
use Rattle.std.specs.Rc.{rc_value}
use Rattle.std.proofs.lemmas.List.{length-map}
use Rattle.dfa_loading.specs.Places.{lists_of}
use Rattle.dfa_reading.specs.HeaderViews.{header_view}
use Rattle.formula_resolve.specs.declared.file.File.{File}
use Rattle.num_system.specs.Sealed.{SystemValue}
use Rattle.command_parts.specs.TableReads.{AreSystemsUnder}
use Rattle.command_parts.proofs.TableReads.{may_read_word, word_read, word_stopped}
use Rattle.command_parts.proofs.table_reading.read_word.Goals as goal

pub word-requires : goal.word-requires
word-requires c =
    let systems = c.args.over.systems.now in
    let table = c.args.over.table.now in
    let under = subst (λ xs. AreSystemsUnder systems (header_view c.header.result.now) (map rc_value xs)) (sym c.deref.ensures.value) c.in_ok-tracks.ensures in
    let may = may_read_word systems table c.requires.word.0 (map rc_value c.deref.result.now) c.requires.word.1 c.requires.table (subst (λ h. AreSystemsUnder systems h (map rc_value c.deref.result.now)) c.header.ensures under) in
    record {
      text = subst (λ (file : File). lists_of file table.text ≡ Ok table.listed) c.requires.word.1 c.requires.table.lists;
      states = may.states;
      word = may.word;
      tracks = sym (length-map c.deref.result.now rc_value) ∙ may.count;
      direction = may.shared_direction;
    }

pub returns : goal.returns
returns c =
    let systems = c.args.over.systems.now in
    let old = c.args.steps.now in
    let new = c.word.new.steps in
    let table = c.args.over.table.now in
    let tracks : List SystemValue = map rc_value c.deref.result.now in
    let under = subst (λ xs. AreSystemsUnder systems (header_view c.header.result.now) (map rc_value xs)) (sym c.deref.ensures.value) c.in_ok-tracks.ensures in
    let here = subst (λ h. AreSystemsUnder systems h tracks) c.header.ensures under in
    record {
      made = word_read systems old new table tracks here rc_value c.word.result c.word.ensures.made;
      refused = word_stopped systems old new table tracks here c.requires.word.0 c.word.result c.requires.word.1 c.word.ensures.refused;
    }
