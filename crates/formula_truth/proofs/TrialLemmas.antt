-- Numbers that are tried for a variable.
use Rattle.std.proofs.Common.{◌≡◌, ◌↔◌, ℕ, ◌<◌, Bool, true, false, IsTrue, if◌then◌else◌, Option, None, Some, refl, sym, ◌∙◌, ap}
use Rattle.std.proofs.lemmas.Bool.{false≢true}
use Rattle.std.proofs.lemmas.Option.{none-some, same_Some}
use Rattle.std.proofs.lemmas.Slice.Eq.{bytes_eq-Decides}
use Rattle.formula_parse.specs.Tokens.{Name, Quantifier, some, every, infinite, less}
use Rattle.formula_parse.specs.Trees.{variable, numeral, compare, Formula}
use Rattle.formula_truth.specs.Assignments.{Assignment, with_value}
use Rattle.formula_truth.specs.Truth.{FactHolds, Holds}
use Rattle.formula_truth.specs.Bounded.{nothing, one_below}

-- whether one number that makes the formula true decides, or one that makes it false; no number decides `I`
abbrev pub wants : Quantifier → Option Bool
wants some = Some true
wants every = Some false
wants infinite = None

-- the statement is not what decides
abbrev pub Misses : Bool → Type 0 → Type 0
Misses true P = ¬ P
Misses false P = P

pub value_here : (n : Name) (k : ℕ) (a : Assignment) → with_value n k a n ≡ k
value_here n k a = ap (λ b. if b then k else a n) ((bytes_eq-Decides n n).1 refl)

guard_back : (n : Name) (k bound : ℕ) (a : Assignment) → k < bound → FactHolds nothing (compare (variable n) less (numeral bound)) (with_value n k a)
guard_back n k bound a within = (k, bound, ap Some (value_here n k a), refl, within)

-- one number decides
pub found_says : (q : Quantifier) (n : Name) (bound : ℕ) (f : Formula) (a : Assignment) (k : ℕ) (is wanted : Bool) → k < bound → IsTrue is ↔ Holds nothing f (with_value n k a)
    → Some wanted ≡ wants q → is ≡ wanted → IsTrue wanted ↔ Holds nothing (one_below q n bound f) a
found_says some n bound f a k is wanted within says kind same = (λ h. (k, (guard_back n k bound a within, says.0 (same ∙ h))), λ h. same_Some wanted true kind)
found_says every n bound f a k is wanted within says kind same =
    let denied : wanted ≡ false = same_Some wanted false kind in
    (λ h. absurd (false≢true (sym denied ∙ h)), λ all. absurd (false≢true (sym (same ∙ denied) ∙ says.1 (all k (guard_back n k bound a within)))))
found_says infinite n bound f a k is wanted within says kind same = absurd (none-some wanted (sym kind))
