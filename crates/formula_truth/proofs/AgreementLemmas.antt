-- Truth depends on the numbers of the free variables alone.
use Rattle.std.proofs.Common.{◌≡◌, ℕ, ◌<◌, ℤ, Bool, true, false, not, ◌||◌, ◌&&◌, IsTrue, if◌then◌else◌, refl, sym, ◌∙◌, bytes_eq}
use Rattle.formula_parse.specs.Tokens.{Name, some, every, infinite}
use Rattle.formula_parse.specs.Trees.{Names, no_names, names, Index, Fact, compare, words, word_letter, letter_word, call, Formula, atom, negated, chain, quantified, marked, Operands, no_operands, operands}
use Rattle.formula_truth.specs.Assignments.{Assignment, with_value}
use Rattle.formula_truth.specs.Truth.{Meanings, HasLetterAt, FactHolds, ForSome, ForEvery, ForInfinitely, Holds, ChainHolds}
use Rattle.formula_truth.specs.FreeVariables.{is_listed, occurs_in, occurs_among, occurs_there, is_free, is_free_among}
use Rattle.formula_truth.specs.Tests.{tested}
use Rattle.formula_truth.specs.Laws.{FreeVariablesMatter}
use Rattle.formula_truth.proofs.MeaningLemmas.{joined_same}
use Rattle.formula_truth.proofs.ValueLemmas.{Agree, agree_left, agree_right, agree_back, value_agrees, values_agree}

-- of those of which the test is true, the variables that are not the one
abbrev apart_from : Name → (Name → Bool) → Name → Bool
apart_from n test m = not (bytes_eq n m) && test m

-- and those that are not in the list
abbrev pub outside : Names → (Name → Bool) → Name → Bool
outside ns test m = not (is_listed m ns) && test m

chosen : (here : Bool) (test : Bool) (k x y : ℕ) → (IsTrue (not here && test) → x ≡ y) → IsTrue test → (if here then k else x) ≡ (if here then k else y)
chosen true test k x y agree is = refl
chosen false test k x y agree is = agree is

-- assignments that agree but for one variable agree once that has one number
with_value_agrees : (n : Name) (k : ℕ) (test : Name → Bool) (a b : Assignment) → Agree (apart_from n test) a b → Agree test (with_value n k a) (with_value n k b)
with_value_agrees n k test a b agree m is = chosen (bytes_eq n m) (test m) k (a m) (b m) (agree m) is

parted : (listed here test : Bool) → IsTrue (not listed && (not here && test)) → IsTrue (not (listed || here) && test)
parted true here test is = is
parted false here test is = is

-- the variables outside a longer list are outside the shorter one
outside_more : (ns : Names) (n : Name) (test : Name → Bool) (a b : Assignment) → Agree (outside (names ns n) test) a b → Agree (outside ns (apart_from n test)) a b
outside_more ns n test a b agree m is = agree m (parted (is_listed m ns) (bytes_eq n m) (test m) is)

-- what moves between assignments that agree
abbrev Moves : (Name → Bool) → (Assignment → Type 0) → Type 0
Moves test P = (a b : Assignment) → Agree test a b → P a → P b

some_moves : (ns : Names) (test : Name → Bool) (P : Assignment → Type 0) → Moves test P → Moves (outside ns test) (ForSome ns P)
some_moves no_names test P moves a b agree h = moves a b agree h
some_moves (names ns n) test P moves a b agree h =
    some_moves ns (apart_from n test) (λ c. (k : ℕ) × P (with_value n k c))
    (λ c d same held. (held.0, moves (with_value n held.0 c) (with_value n held.0 d) (with_value_agrees n held.0 test c d same) held.1))
    a b (outside_more ns n test a b agree) h

every_moves : (ns : Names) (test : Name → Bool) (P : Assignment → Type 0) → Moves test P → Moves (outside ns test) (ForEvery ns P)
every_moves no_names test P moves a b agree h = moves a b agree h
every_moves (names ns n) test P moves a b agree h =
    every_moves ns (apart_from n test) (λ c. (k : ℕ) → P (with_value n k c))
    (λ c d same held k. moves (with_value n k c) (with_value n k d) (with_value_agrees n k test c d same) (held k))
    a b (outside_more ns n test a b agree) h

infinitely_moves : (ns : Names) (test : Name → Bool) (P : Assignment → Type 0) → Moves test P → Moves (outside ns test) (ForInfinitely ns P)
infinitely_moves no_names test P moves a b agree h = moves a b agree h
infinitely_moves (names ns n) test P moves a b agree h =
    infinitely_moves ns (apart_from n test) (λ c. (m : ℕ) → (k : ℕ) × (m < k) × P (with_value n k c))
    (λ c d same held m. let found = held m in
    (found.0, found.1, moves (with_value n found.0 c) (with_value n found.0 d) (with_value_agrees n found.0 test c d same) found.2))
    a b (outside_more ns n test a b agree) h

letter_moves : (m : Meanings) (x : Index) (l : ℤ) → Moves (λ n. occurs_among n x.places) (λ a. HasLetterAt m x a l)
letter_moves m x l a b agree h = (h.0, sym (values_agree x.places a b agree) ∙ h.1, h.2)

fact_moves : (m : Meanings) (x : Fact) → Moves (λ n. occurs_there n x) (FactHolds m x)
fact_moves m (compare t r u) a b agree h = (
  h.0,
  h.1,
  sym (value_agrees t a b (agree_left (λ n. occurs_in n t) (λ n. occurs_in n u) a b agree)) ∙ h.2,
  sym (value_agrees u a b (agree_right (λ n. occurs_in n t) (λ n. occurs_in n u) a b agree)) ∙ h.3,
  h.4,
)
fact_moves m (call f ts) a b agree h = (h.0, sym (values_agree ts a b agree) ∙ h.1, h.2)
fact_moves m (word_letter x r l) a b agree h = (h.0, letter_moves m x h.0 a b agree h.1, h.2)
fact_moves m (letter_word l r x) a b agree h = (h.0, letter_moves m x h.0 a b agree h.1, h.2)
fact_moves m (words x r y) a b agree h = (
  h.0,
  h.1,
  letter_moves m x h.0 a b (agree_left (λ n. occurs_among n x.places) (λ n. occurs_among n y.places) a b agree) h.2,
  letter_moves m y h.1 a b (agree_right (λ n. occurs_among n x.places) (λ n. occurs_among n y.places) a b agree) h.3,
  h.4,
)

mutual
  pub truth_moves : (f : Formula) (m : Meanings) → Moves (λ n. is_free n f) (Holds m f)
  truth_moves (atom x) m a b agree h = fact_moves m x.fact a b agree h
  truth_moves (negated f) m a b agree h = λ held. h (truth_moves f m b a (agree_back (λ n. is_free n f) a b agree) held)
  truth_moves (chain os f) m a b agree h =
      chain_moves os m a b (Holds m f a) (Holds m f b)
      (agree_left (λ n. is_free_among n os) (λ n. is_free n f) a b agree)
      (truth_moves f m a b (agree_right (λ n. is_free_among n os) (λ n. is_free n f) a b agree))
      (truth_moves f m b a (agree_back (λ n. is_free n f) a b (agree_right (λ n. is_free_among n os) (λ n. is_free n f) a b agree)))
      h
  truth_moves (quantified some ns f) m a b agree h = some_moves ns (λ n. is_free n f) (Holds m f) (truth_moves f m) a b agree h
  truth_moves (quantified every ns f) m a b agree h = every_moves ns (λ n. is_free n f) (Holds m f) (truth_moves f m) a b agree h
  truth_moves (quantified infinite ns f) m a b agree h = infinitely_moves ns (λ n. is_free n f) (Holds m f) (truth_moves f m) a b agree h
  truth_moves (marked ms f) m a b agree h = truth_moves f m a b agree h

  chain_moves : (os : Operands) (m : Meanings) (a b : Assignment) (P Q : Type 0) → Agree (λ n. is_free_among n os) a b → (P → Q) → (Q → P) → ChainHolds m os a P → ChainHolds m os b Q
  chain_moves no_operands m a b P Q agree there back h = there h
  chain_moves (operands os f j) m a b P Q agree there back h =
      joined_same j (ChainHolds m os a (Holds m f a)) P (ChainHolds m os b (Holds m f b)) Q
      (chain_moves os m a b (Holds m f a) (Holds m f b) before (truth_moves f m a b there_free) (truth_moves f m b a back_free))
      (chain_moves os m b a (Holds m f b) (Holds m f a) (agree_back (λ n. is_free_among n os) a b before) (truth_moves f m b a back_free) (truth_moves f m a b there_free))
      there back h
    where
      before : Agree (λ n. is_free_among n os) a b
      before = agree_left (λ n. is_free_among n os) (λ n. is_free n f) a b agree

      there_free : Agree (λ n. is_free n f) a b
      there_free = agree_right (λ n. is_free_among n os) (λ n. is_free n f) a b agree

      back_free : Agree (λ n. is_free n f) b a
      back_free = agree_back (λ n. is_free n f) a b there_free

pub free_variables_matter : FreeVariablesMatter
free_variables_matter t f a b agree = (truth_moves f (tested t) a b agree, truth_moves f (tested t) b a (agree_back (λ n. is_free n f) a b agree))
