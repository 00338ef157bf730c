-- Truth depends on what names mean.
use Rattle.std.proofs.Common.{◌↔◌, ℕ, ◌<◌, ℤ, List, sym, ◌∙◌, inl, inr}
use Rattle.formula_parse.specs.Tokens.{Name, some, every, infinite}
use Rattle.formula_parse.specs.Trees.{Names, no_names, names, Index, Fact, compare, words, word_letter, letter_word, call, Joint, and, or, xor, implies, iff, Formula, atom, negated, chain, quantified, marked, Operands, no_operands, operands}
use Rattle.formula_truth.specs.Assignments.{Assignment, with_value}
use Rattle.formula_truth.specs.Truth.{Meanings, HasLetterAt, FactHolds, Joins, ForSome, ForEvery, ForInfinitely, Holds, ChainHolds}
use Rattle.formula_truth.specs.Tests.{tested}
use Rattle.formula_truth.specs.Laws.{MeaningsMatter}

-- names mean the same
pub record MeanTheSame (m n : Meanings) : Type 0 where
  pub holds_there : (name : Name) (ns : List ℕ) → m.holds_of name ns → n.holds_of name ns
  pub holds_back : (name : Name) (ns : List ℕ) → n.holds_of name ns → m.holds_of name ns
  pub letter_there : (name : Name) (ns : List ℕ) (b : ℤ) → m.has_letter name ns b → n.has_letter name ns b
  pub letter_back : (name : Name) (ns : List ℕ) (b : ℤ) → n.has_letter name ns b → m.has_letter name ns b

pub other_direction : (m n : Meanings) → MeanTheSame m n → MeanTheSame n m
other_direction m n same = record {
  holds_there = same.holds_back;
  holds_back = same.holds_there;
  letter_there = same.letter_back;
  letter_back = same.letter_there;
}

-- a connective says the same of equivalent statements
pub joined_same : (j : Joint) (P Q R S : Type 0) → (P → R) → (R → P) → (Q → S) → (S → Q) → Joins j P Q → Joins j R S
joined_same and P Q R S pr rp qs sq h = (pr h.0, qs h.1)
joined_same or P Q R S pr rp qs sq h = elim h [ inl p ↦ inl (pr p) | inr q ↦ inr (qs q) ]
joined_same xor P Q R S pr rp qs sq h = elim h [ inl p ↦ inl (pr p.0, λ s. p.1 (sq s)) | inr q ↦ inr (λ r. q.0 (rp r), qs q.1) ]
joined_same implies P Q R S pr rp qs sq h = λ r. qs (h (rp r))
joined_same iff P Q R S pr rp qs sq h = (λ r. qs (h.0 (rp r)), λ s. pr (h.1 (sq s)))

pub some_moved : (ns : Names) (P Q : Assignment → Type 0) → ((b : Assignment) → P b → Q b) → (a : Assignment) → ForSome ns P a → ForSome ns Q a
some_moved no_names P Q move a h = move a h
some_moved (names ns n) P Q move a h = some_moved ns (λ b. (k : ℕ) × P (with_value n k b)) (λ b. (k : ℕ) × Q (with_value n k b)) (λ b x. (x.0, move (with_value n x.0 b) x.1)) a h

pub every_moved : (ns : Names) (P Q : Assignment → Type 0) → ((b : Assignment) → P b → Q b) → (a : Assignment) → ForEvery ns P a → ForEvery ns Q a
every_moved no_names P Q move a h = move a h
every_moved (names ns n) P Q move a h = every_moved ns (λ b. (k : ℕ) → P (with_value n k b)) (λ b. (k : ℕ) → Q (with_value n k b)) (λ b x k. move (with_value n k b) (x k)) a h

pub infinitely_moved : (ns : Names) (P Q : Assignment → Type 0) → ((b : Assignment) → P b → Q b) → (a : Assignment) → ForInfinitely ns P a → ForInfinitely ns Q a
infinitely_moved no_names P Q move a h = move a h
infinitely_moved (names ns n) P Q move a h =
    infinitely_moved ns (λ b. (m : ℕ) → (k : ℕ) × (m < k) × P (with_value n k b)) (λ b. (m : ℕ) → (k : ℕ) × (m < k) × Q (with_value n k b))
    (λ b x m. let found = x m in (found.0, found.1, move (with_value n found.0 b) found.2)) a h

letter_moved : (m n : Meanings) → MeanTheSame m n → (x : Index) (a : Assignment) (b : ℤ) → HasLetterAt m x a b → HasLetterAt n x a b
letter_moved m n same x a b h = (h.0, h.1, same.letter_there x.word h.0 b h.2)

fact_moved : (x : Fact) (m n : Meanings) → MeanTheSame m n → (a : Assignment) → FactHolds m x a → FactHolds n x a
fact_moved (compare t r u) m n same a h = h
fact_moved (call f ts) m n same a h = (h.0, h.1, same.holds_there f h.0 h.2)
fact_moved (word_letter x r l) m n same a h = (h.0, letter_moved m n same x a h.0 h.1, h.2)
fact_moved (letter_word l r x) m n same a h = (h.0, letter_moved m n same x a h.0 h.1, h.2)
fact_moved (words x r y) m n same a h = (h.0, h.1, letter_moved m n same x a h.0 h.2, letter_moved m n same y a h.1 h.3, h.4)

mutual
  pub moved : (f : Formula) (m n : Meanings) → MeanTheSame m n → (a : Assignment) → Holds m f a → Holds n f a
  moved (atom x) m n same a h = fact_moved x.fact m n same a h
  moved (negated f) m n same a h = λ held. h (moved f n m (other_direction m n same) a held)
  moved (chain os f) m n same a h = chain_moved os m n same a (Holds m f a) (Holds n f a) (moved f m n same a) (moved f n m (other_direction m n same) a) h
  moved (quantified some ns f) m n same a h = some_moved ns (Holds m f) (Holds n f) (moved f m n same) a h
  moved (quantified every ns f) m n same a h = every_moved ns (Holds m f) (Holds n f) (moved f m n same) a h
  moved (quantified infinite ns f) m n same a h = infinitely_moved ns (Holds m f) (Holds n f) (moved f m n same) a h
  moved (marked ms f) m n same a h = moved f m n same a h

  chain_moved : (os : Operands) (m n : Meanings) → MeanTheSame m n → (a : Assignment) (P Q : Type 0) → (P → Q) → (Q → P) → ChainHolds m os a P → ChainHolds n os a Q
  chain_moved no_operands m n same a P Q there back h = there h
  chain_moved (operands os f j) m n same a P Q there back h =
      joined_same j (ChainHolds m os a (Holds m f a)) P (ChainHolds n os a (Holds n f a)) Q
      (chain_moved os m n same a (Holds m f a) (Holds n f a) (moved f m n same a) (moved f n m (other_direction m n same) a))
      (chain_moved os n m (other_direction m n same) a (Holds n f a) (Holds m f a) (moved f n m (other_direction m n same) a) (moved f m n same a))
      there back h

-- equivalent meanings give equivalent truth
pub meanings_matter : (m n : Meanings) → MeanTheSame m n → (f : Formula) (a : Assignment) → Holds m f a ↔ Holds n f a
meanings_matter m n same f a = (moved f m n same a, moved f n m (other_direction m n same) a)

pub tests_matter : MeaningsMatter
tests_matter t u f a same = meanings_matter (tested t) (tested u) same_meanings f a
  where
    same_meanings : MeanTheSame (tested t) (tested u)
    same_meanings = record {
      holds_there = λ n ns h. sym (same.passes n ns) ∙ h;
      holds_back = λ n ns h. same.passes n ns ∙ h;
      letter_there = λ n ns b h. sym (same.letter n ns) ∙ h;
      letter_back = λ n ns b h. same.letter n ns ∙ h;
    }
