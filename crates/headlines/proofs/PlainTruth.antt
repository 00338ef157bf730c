-- The truth of a formula that names nothing is the same whatever names mean.
use Rattle.formula_parse.specs.Tokens.{some, every, infinite}
use Rattle.formula_parse.specs.Trees.{Fact, compare, words, word_letter, letter_word, call, Formula, atom, negated, chain, quantified, marked, Operands, no_operands, operands}
use Rattle.formula_truth.specs.Assignments.{Assignment}
use Rattle.formula_truth.specs.Truth.{Meanings, FactHolds, Holds, ChainHolds}
use Rattle.formula_truth.proofs.MeaningLemmas.{joined_same, some_moved, every_moved, infinitely_moved}
use Rattle.headlines.proofs.PlainTrees.{IsPlainFact, IsPlainFormula, ArePlainOperands}

fact_moved : (m n : Meanings) (x : Fact) → IsPlainFact x → (a : Assignment) → FactHolds m x a → FactHolds n x a
fact_moved m n (compare t r u) plain a holds = holds
fact_moved m n (words x r y) plain a holds = absurd plain
fact_moved m n (word_letter x r l) plain a holds = absurd plain
fact_moved m n (letter_word l r x) plain a holds = absurd plain
fact_moved m n (call f ts) plain a holds = absurd plain

mutual
  pub plain_moved : (m n : Meanings) (f : Formula) → IsPlainFormula f → (a : Assignment) → Holds m f a → Holds n f a
  plain_moved m n (atom x) plain a holds = fact_moved m n x.fact plain a holds
  plain_moved m n (negated f) plain a holds = λ held. holds (plain_moved n m f plain a held)
  plain_moved m n (chain os f) plain a holds = operands_moved m n os plain.0 a (Holds m f a) (Holds n f a) (plain_moved m n f plain.1 a) (plain_moved n m f plain.1 a) holds
  plain_moved m n (quantified some ns f) plain a holds = some_moved ns (Holds m f) (Holds n f) (plain_moved m n f plain) a holds
  plain_moved m n (quantified every ns f) plain a holds = every_moved ns (Holds m f) (Holds n f) (plain_moved m n f plain) a holds
  plain_moved m n (quantified infinite ns f) plain a holds = infinitely_moved ns (Holds m f) (Holds n f) (plain_moved m n f plain) a holds
  plain_moved m n (marked ms f) plain a holds = plain_moved m n f plain a holds

  operands_moved : (m n : Meanings) (os : Operands) → ArePlainOperands os → (a : Assignment) (P Q : Type 0) → (P → Q) → (Q → P) → ChainHolds m os a P → ChainHolds n os a Q
  operands_moved m n no_operands plain a P Q there back holds = there holds
  operands_moved m n (operands os f j) plain a P Q there back holds =
      joined_same j (ChainHolds m os a (Holds m f a)) P (ChainHolds n os a (Holds n f a)) Q
      (operands_moved m n os plain.0 a (Holds m f a) (Holds n f a) (plain_moved m n f plain.1 a) (plain_moved n m f plain.1 a))
      (operands_moved n m os plain.0 a (Holds n f a) (Holds m f a) (plain_moved n m f plain.1 a) (plain_moved m n f plain.1 a))
      there back holds
