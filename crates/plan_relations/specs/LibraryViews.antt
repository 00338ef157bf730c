-- How a library is seen. Nobody has to believe this: it serves the type's model.
use Rattle.std.specs.Prelude.{List, map}
use Rattle.std.specs.Rc.{rc_value}
use Rattle.plan_relations.specs.Libraries.{NamedRelation, NamedWord, ReadValue}
use Rattle.plan_relations.specs.declared.library.RelationEntry.{RelationEntry}
use Rattle.plan_relations.specs.declared.library.WordEntry.{WordEntry}

abbrev pub relation_entry : RelationEntry → NamedRelation
relation_entry e = record { name = e.name; relation = rc_value e.relation }

abbrev pub relation_entries : List RelationEntry → List NamedRelation
relation_entries es = map relation_entry es

abbrev pub word_entry : WordEntry → NamedWord
word_entry e = record { name = e.name; word = rc_value e.word }

abbrev pub word_entries : List WordEntry → List NamedWord
word_entries es = map word_entry es

abbrev pub read_entries : List RelationEntry → List WordEntry → ReadValue
read_entries relations words = record { relations = relation_entries relations; words = word_entries words }
