-- The truth of chains, read from the left.
use Rattle.std.proofs.Common.{◌↔◌, Bool, true, false, not, IsTrue, Option, refl}
use Rattle.std.proofs.lemmas.Bool.{false≢true}
use Rattle.digit_tuple.proofs.TruthLemmas.{iff_trans, iff_sym}
use Rattle.formula_parse.specs.Trees.{Joint, Formula, Operands, no_operands, operands}
use Rattle.formula_truth.specs.Assignments.{Assignment}
use Rattle.formula_truth.specs.Truth.{Meanings, Joins, Holds, ChainHolds}
use Rattle.formula_truth.specs.Bounded.{AfterChain}
use Rattle.formula_truth.specs.declared.deciding.Prefix.{Prefix}
use Rattle.formula_truth.proofs.MeaningLemmas.{joined_same}

-- equivalent last statements give equivalent chains
pub chain_last : (m : Meanings) (os : Operands) (a : Assignment) (P Q : Type 0) → P ↔ Q → ChainHolds m os a P ↔ ChainHolds m os a Q
chain_last m no_operands a P Q same = same
chain_last m (operands os f j) a P Q same = (
  joined_same j (ChainHolds m os a (Holds m f a)) P (ChainHolds m os a (Holds m f a)) Q (λ h. h) (λ h. h) same.0 same.1,
  joined_same j (ChainHolds m os a (Holds m f a)) Q (ChainHolds m os a (Holds m f a)) P (λ h. h) (λ h. h) same.1 same.0,
)

-- one operand more: its truth after those before it is the truth of the chain so far
pub chain_more : (m : Meanings) (os : Operands) (f : Formula) (j : Joint) (a : Assignment) (prefix : Option Prefix) (is holds : Bool)
    → ((p : Bool) → ChainHolds m os a (IsTrue p) ↔ AfterChain prefix (IsTrue p)) → IsTrue is ↔ Holds m f a → IsTrue holds ↔ AfterChain prefix (IsTrue is)
    → (p : Bool) → ChainHolds m (operands os f j) a (IsTrue p) ↔ Joins j (IsTrue holds) (IsTrue p)
chain_more m os f j a prefix is holds so_far here now p = (
  joined_same j (ChainHolds m os a (Holds m f a)) (IsTrue p) (IsTrue holds) (IsTrue p) chain_is.0 chain_is.1 (λ h. h) (λ h. h),
  joined_same j (IsTrue holds) (IsTrue p) (ChainHolds m os a (Holds m f a)) (IsTrue p) chain_is.1 chain_is.0 (λ h. h) (λ h. h),
)
  where
    chain_is : ChainHolds m os a (Holds m f a) ↔ IsTrue holds
    chain_is = iff_trans (ChainHolds m os a (Holds m f a)) (ChainHolds m os a (IsTrue is)) (IsTrue holds)
        (chain_last m os a (Holds m f a) (IsTrue is) (iff_sym (IsTrue is) (Holds m f a) here))
        (iff_trans (ChainHolds m os a (IsTrue is)) (AfterChain prefix (IsTrue is)) (IsTrue holds) (so_far is) (iff_sym (IsTrue holds) (AfterChain prefix (IsTrue is)) now))

-- the last operand
pub chain_end : (m : Meanings) (os : Operands) (f : Formula) (a : Assignment) (prefix : Option Prefix) (is holds : Bool)
    → ((p : Bool) → ChainHolds m os a (IsTrue p) ↔ AfterChain prefix (IsTrue p)) → IsTrue is ↔ Holds m f a → IsTrue holds ↔ AfterChain prefix (IsTrue is)
    → IsTrue holds ↔ ChainHolds m os a (Holds m f a)
chain_end m os f a prefix is holds so_far here now =
    iff_trans (IsTrue holds) (AfterChain prefix (IsTrue is)) (ChainHolds m os a (Holds m f a)) now
    (iff_trans (AfterChain prefix (IsTrue is)) (ChainHolds m os a (IsTrue is)) (ChainHolds m os a (Holds m f a))
    (iff_sym (ChainHolds m os a (IsTrue is)) (AfterChain prefix (IsTrue is)) (so_far is))
    (chain_last m os a (IsTrue is) (Holds m f a) here))

pub none_true : (p : Bool) → IsTrue (not p) ↔ (¬ IsTrue p)
none_true true = (λ h. absurd (false≢true h), λ h. absurd (h refl))
none_true false = (λ h is. false≢true is, λ h. refl)
