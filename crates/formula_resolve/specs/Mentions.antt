-- What a formula mentions, from left to right.
use Rattle.std.specs.Prelude.{ℕ, ◌+◌, List, [], ◌∷◌, ◌++◌}
use Rattle.formula_parse.specs.Trees.{Names, no_names, names, Terms, no_terms, terms, Index, Fact, compare, words, word_letter, letter_word, call, Formula, atom, negated, chain, quantified, marked, Operands, no_operands, operands}
use Rattle.formula_resolve.specs.declared.mention.Mention.{Mention}
use Rattle.formula_resolve.specs.declared.mention.Mention.TheVariants.{Marked, Called, Indexed}

-- how many terms there are
abbrev pub count : Terms → ℕ
count no_terms = 0
count (terms ts t) = count ts + 1

-- the systems of `?` marks
abbrev pub marks : Names → List Mention
marks no_names = []
marks (names ns n) = marks ns ++ Marked n ∷ []

abbrev pub index_mention : Index → Mention
index_mention x = Indexed x.word (count x.places)

abbrev pub fact_mentions : Fact → List Mention
fact_mentions (compare t r u) = []
fact_mentions (words x r y) = index_mention x ∷ index_mention y ∷ []
fact_mentions (word_letter x r l) = index_mention x ∷ []
fact_mentions (letter_word l r x) = index_mention x ∷ []
fact_mentions (call n ts) = Called n (count ts) ∷ []

abbrev mutual
  pub mentions : Formula → List Mention
  mentions (atom x) = fact_mentions x.fact
  mentions (negated f) = mentions f
  mentions (chain os f) = mentions_among os ++ mentions f
  mentions (quantified q ns f) = mentions f
  -- a mark comes before its operand
  mentions (marked ms f) = marks ms ++ mentions f

  pub mentions_among : Operands → List Mention
  mentions_among no_operands = []
  mentions_among (operands os f j) = mentions_among os ++ mentions f
