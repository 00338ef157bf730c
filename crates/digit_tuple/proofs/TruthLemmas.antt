-- Answers that are true if and only if a fact holds.
use Rattle.std.proofs.Common.{◌≡◌, Bool, true, false, IsTrue, ◌↔◌, refl, sym, subst}

-- an equal answer
pub true_by : (a b : Bool) (P : Type 0) → a ≡ b → IsTrue b ↔ P → IsTrue a ↔ P
true_by a b P same when = subst (λ (c : Bool). IsTrue c ↔ P) (sym same) when

-- an answer that is false, and a fact that fails
pub never_true : (a : Bool) (P : Type 0) → a ≡ false → ¬ P → IsTrue a ↔ P
never_true a P same fails = true_by a false P same (λ t. absurd (let none : false ≡ true = t in cc), λ p. absurd (fails p))

-- an answer that is true, and a fact that holds
pub ever_true : (a : Bool) (P : Type 0) → a ≡ true → P → IsTrue a ↔ P
ever_true a P same holds = true_by a true P same (λ t. holds, λ p. refl)

-- two answers that are true together
pub same_tests : (b c : Bool) → IsTrue b ↔ IsTrue c → b ≡ c
same_tests true c both = sym (both.0 refl)
same_tests false true both = both.1 refl
same_tests false false both = refl

-- one fact after the other
pub iff_trans : (P Q R : Type 0) → P ↔ Q → Q ↔ R → P ↔ R
iff_trans P Q R first second = (λ p. second.0 (first.0 p), λ r. first.1 (second.1 r))

pub iff_sym : (P Q : Type 0) → P ↔ Q → Q ↔ P
iff_sym P Q both = (both.1, both.0)
