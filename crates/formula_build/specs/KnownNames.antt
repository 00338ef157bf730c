-- Formulas in which the systems of comparisons, the automata that are called and the words are known.
use Rattle.std.specs.Prelude.{⊤}
use Rattle.formula_parse.specs.Tokens.{Name}
use Rattle.formula_parse.specs.Trees.{Fact, compare, words, word_letter, letter_word, call, Formula, atom, negated, chain, quantified, marked, Operands, no_operands, operands}
use Rattle.formula_resolve.specs.declared.file.File.{File}
use Rattle.formula_resolve.specs.declared.file.File.TheVariants.{Automaton, Word}
use Rattle.num_system.specs.Sealed.{SystemValue}
use Rattle.number_relations.specs.Relations.{RelationValue}
use Rattle.word_output.specs.Words.{WordValue}
use Rattle.plan_relations.specs.Libraries.{LibraryValue, IsRelationIn, IsWordIn, IsSystemIn}

-- the name means a word
abbrev pub HasWord : LibraryValue → Name → Type 0
HasWord l n = (w : WordValue) × IsWordIn l n w

-- the file is an automaton whose name means a relation, or a word
abbrev pub IsFileIn : LibraryValue → File → Type 0
IsFileIn l (Automaton n) = (r : RelationValue) × IsRelationIn l n r
IsFileIn l (Word n) = HasWord l n

-- the name means a system
abbrev pub HasSystem : LibraryValue → Name → Type 0
HasSystem l y = (s : SystemValue) × IsSystemIn l y s

-- what an atom of a system says
abbrev pub IsKnownFact : LibraryValue → Name → Fact → Type 0
IsKnownFact l s (compare t r u) = (system : SystemValue) × IsSystemIn l s system
IsKnownFact l s (words x r y) = HasWord l x.word × HasWord l y.word
IsKnownFact l s (word_letter x r b) = HasWord l x.word
IsKnownFact l s (letter_word b r x) = HasWord l x.word
IsKnownFact l s (call n ts) = (r : RelationValue) × IsRelationIn l n r

abbrev mutual
  pub AreKnownIn : LibraryValue → Formula → Type 0
  AreKnownIn l (atom x) = IsKnownFact l x.system x.fact
  AreKnownIn l (negated f) = AreKnownIn l f
  AreKnownIn l (chain os f) = AreKnownAmong l os × AreKnownIn l f
  AreKnownIn l (quantified q ns f) = AreKnownIn l f
  AreKnownIn l (marked ms f) = AreKnownIn l f

  pub AreKnownAmong : LibraryValue → Operands → Type 0
  AreKnownAmong l no_operands = ⊤
  AreKnownAmong l (operands os f j) = AreKnownAmong l os × AreKnownIn l f
