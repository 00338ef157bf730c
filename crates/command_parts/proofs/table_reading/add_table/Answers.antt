use Rattle.command_parts.proofs.TableReads.{relation_added, word_added}
use Rattle.command_parts.proofs.table_reading.add_table.Goals as goal

pub returns-in_ok-add_relation-in-Automaton : goal.returns-in_ok-add_relation-in-Automaton
returns-in_ok-add_relation-in-Automaton c =
    relation_added c.args.over.systems.now c.args.steps.now c.read_relation.new.steps c.args.over.table.now c.in-Automaton.name c.in_ok-relation-in-Automaton.relation.value c.args.library.now c.add_relation.new.self
    (c.in_ok-relation-in-Automaton.ensures.made c.in-Automaton.name c.in-Automaton.is) c.in_ok-add_relation-in-Automaton.ensures.ok

pub returns-in_ok-add_word-in-Word : goal.returns-in_ok-add_word-in-Word
returns-in_ok-add_word-in-Word c =
    word_added c.args.over.systems.now c.args.steps.now c.read_word.new.steps c.args.over.table.now c.in-Word.name c.in_ok-word-in-Word.word.value c.args.library.now c.add_word.new.self
    (c.in_ok-word-in-Word.ensures.made c.in-Word.name c.in-Word.is) c.in_ok-add_word-in-Word.ensures.ok
