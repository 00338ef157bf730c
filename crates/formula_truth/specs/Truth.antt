-- The truth of formulas over the natural numbers.
use Rattle.std.specs.Prelude.{◌≡◌, ◌≢◌, ◌↔◌, ◌⊎◌, ℕ, ◌<◌, ◌≤◌, ℤ, ◌<ℤ◌, ◌≤ℤ◌, List, Some}
use Rattle.formula_parse.specs.Tokens.{Name, Relation, equal, unequal, less, greater, at_most, at_least, some, every, infinite}
use Rattle.formula_parse.specs.Trees.{Names, no_names, names, Index, Fact, compare, words, word_letter, letter_word, call, Joint, and, or, xor, implies, iff, Formula, atom, negated, chain, quantified, marked, Operands, no_operands, operands}
use Rattle.formula_truth.specs.Assignments.{Assignment, with_value}
use Rattle.formula_truth.specs.Values.{value, values}

-- What names mean: of which numbers an automaton holds, and which letter a word has at a place, where it has one.
pub record Meanings : Type 1 where
  pub holds_of : Name → List ℕ → Type 0
  pub has_letter : Name → List ℕ → ℤ → Type 0

-- the numbers compare so
abbrev pub Compares : Relation → ℕ → ℕ → Type 0
Compares equal x y = x ≡ y
Compares unequal x y = x ≢ y
Compares less x y = x < y
Compares greater x y = y < x
Compares at_most x y = x ≤ y
Compares at_least x y = y ≤ x

-- the letters compare so
abbrev pub ComparesLetters : Relation → ℤ → ℤ → Type 0
ComparesLetters equal b c = b ≡ c
ComparesLetters unequal b c = b ≢ c
ComparesLetters less b c = b <ℤ c
ComparesLetters greater b c = c <ℤ b
ComparesLetters at_most b c = b ≤ℤ c
ComparesLetters at_least b c = c ≤ℤ b

-- the indices have values, and the word has this letter there
abbrev pub HasLetterAt : Meanings → Index → Assignment → ℤ → Type 0
HasLetterAt m x a b = (ns : List ℕ) × (values x.places a ≡ Some ns) × m.has_letter x.word ns b

-- what an atom says is true where its terms have values, and its words letters, that are so
abbrev pub FactHolds : Meanings → Fact → Assignment → Type 0
FactHolds m (compare t r u) a = (x : ℕ) × (y : ℕ) × (value t a ≡ Some x) × (value u a ≡ Some y) × Compares r x y
FactHolds m (call n ts) a = (ns : List ℕ) × (values ts a ≡ Some ns) × m.holds_of n ns
FactHolds m (word_letter x r l) a = (b : ℤ) × HasLetterAt m x a b × ComparesLetters r b l
FactHolds m (letter_word l r x) a = (b : ℤ) × HasLetterAt m x a b × ComparesLetters r l b
FactHolds m (words x r y) a = (b : ℤ) × (c : ℤ) × HasLetterAt m x a b × HasLetterAt m y a c × ComparesLetters r b c

-- what a connective says of two statements
abbrev pub Joins : Joint → Type 0 → Type 0 → Type 0
Joins and P Q = P × Q
Joins or P Q = P ⊎ Q
Joins xor P Q = (P × ¬ Q) ⊎ (¬ P × Q)
Joins implies P Q = P → Q
Joins iff P Q = P ↔ Q

-- for some numbers, one for each variable of a list, for all, and for infinitely many
abbrev pub ForSome : Names → (Assignment → Type 0) → Assignment → Type 0
ForSome no_names P a = P a
ForSome (names ns n) P a = ForSome ns (λ b. (k : ℕ) × P (with_value n k b)) a

abbrev pub ForEvery : Names → (Assignment → Type 0) → Assignment → Type 0
ForEvery no_names P a = P a
ForEvery (names ns n) P a = ForEvery ns (λ b. (k : ℕ) → P (with_value n k b)) a

-- above every number there is one
abbrev pub ForInfinitely : Names → (Assignment → Type 0) → Assignment → Type 0
ForInfinitely no_names P a = P a
ForInfinitely (names ns n) P a = ForInfinitely ns (λ b. (m : ℕ) → (k : ℕ) × (m < k) × P (with_value n k b)) a

abbrev mutual
  pub Holds : Meanings → Formula → Assignment → Type 0
  Holds m (atom x) a = FactHolds m x.fact a
  Holds m (negated f) a = ¬ Holds m f a
  Holds m (chain os f) a = ChainHolds m os a (Holds m f a)
  Holds m (quantified some ns f) a = ForSome ns (Holds m f) a
  Holds m (quantified every ns f) a = ForEvery ns (Holds m f) a
  Holds m (quantified infinite ns f) a = ForInfinitely ns (Holds m f) a
  Holds m (marked ms f) a = Holds m f a

  -- the operands, read from the left, and then the last one, which says this
  pub ChainHolds : Meanings → Operands → Assignment → Type 0 → Type 0
  ChainHolds m no_operands a P = P
  ChainHolds m (operands os f j) a P = Joins j (ChainHolds m os a (Holds m f a)) P
