-- How an expression over sets is stored: a list that gives it back, each sign after what it is about.
use Rattle.std.specs.Prelude.{◌≡◌, ℕ, zero, suc, ℤ, List, [], ◌∷◌, ◌++◌, refl}
use Rattle.std.specs.Coded.{Coded, code_by, coded×, coded_ℕ, coded_ℤ, coded_list}
use Rattle.std.proofs.Common.{ap, ◌∙◌, append_assoc, append-nil, sym}
use Rattle.regex_build.specs.Expression.{Expression, empty, letter, any, either, follow, star, plus, optional}
use Rattle.regex_build.specs.Patterns.{Pattern}

-- signs as numbers, each with the letter that it needs
abbrev pub signs_of : Expression (List ℤ) → List (ℕ × List ℤ)
signs_of empty = (0, []) ∷ []
signs_of (letter x) = (1, x) ∷ []
signs_of any = (2, []) ∷ []
signs_of (either e f) = signs_of e ++ (signs_of f ++ (3, []) ∷ [])
signs_of (follow e f) = signs_of e ++ (signs_of f ++ (4, []) ∷ [])
signs_of (star e) = signs_of e ++ (5, []) ∷ []
signs_of (plus e) = signs_of e ++ (6, []) ∷ []
signs_of (optional e) = signs_of e ++ (7, []) ∷ []

-- the expressions after one more sign
abbrev pub signed : ℕ → List ℤ → List (Expression (List ℤ)) → List (Expression (List ℤ))
signed zero x stack = empty ∷ stack
signed (suc zero) x stack = letter x ∷ stack
signed (suc (suc zero)) x stack = any ∷ stack
signed (suc (suc (suc zero))) x (f ∷ e ∷ stack) = either e f ∷ stack
signed (suc (suc (suc (suc zero)))) x (f ∷ e ∷ stack) = follow e f ∷ stack
signed (suc (suc (suc (suc (suc zero))))) x (e ∷ stack) = star e ∷ stack
signed (suc (suc (suc (suc (suc (suc zero)))))) x (e ∷ stack) = plus e ∷ stack
signed (suc (suc (suc (suc (suc (suc (suc zero))))))) x (e ∷ stack) = optional e ∷ stack
signed _ x stack = stack

abbrev pub all_signed : List (Expression (List ℤ)) → List (ℕ × List ℤ) → List (Expression (List ℤ))
all_signed stack [] = stack
all_signed stack (sign ∷ signs) = all_signed (signed sign.0 sign.1 stack) signs

abbrev pub first_of : List (Expression (List ℤ)) → Expression (List ℤ)
first_of [] = empty
first_of (e ∷ stack) = e

pub all_signed-signs_of : (e : Expression (List ℤ)) (stack : List (Expression (List ℤ))) (signs : List (ℕ × List ℤ)) → all_signed stack (signs_of e ++ signs) ≡ all_signed (e ∷ stack) signs
all_signed-signs_of empty stack signs = refl
all_signed-signs_of (letter x) stack signs = refl
all_signed-signs_of any stack signs = refl
all_signed-signs_of (either e f) stack signs =
    ap (all_signed stack) (append_assoc (signs_of e) (signs_of f ++ (3, []) ∷ []) signs) ∙ all_signed-signs_of e stack ((signs_of f ++ (3, []) ∷ []) ++ signs)
    ∙ ap (all_signed (e ∷ stack)) (append_assoc (signs_of f) ((3, []) ∷ []) signs) ∙ all_signed-signs_of f (e ∷ stack) ((3, []) ∷ signs)
all_signed-signs_of (follow e f) stack signs =
    ap (all_signed stack) (append_assoc (signs_of e) (signs_of f ++ (4, []) ∷ []) signs) ∙ all_signed-signs_of e stack ((signs_of f ++ (4, []) ∷ []) ++ signs)
    ∙ ap (all_signed (e ∷ stack)) (append_assoc (signs_of f) ((4, []) ∷ []) signs) ∙ all_signed-signs_of f (e ∷ stack) ((4, []) ∷ signs)
all_signed-signs_of (star e) stack signs = ap (all_signed stack) (append_assoc (signs_of e) ((5, []) ∷ []) signs) ∙ all_signed-signs_of e stack ((5, []) ∷ signs)
all_signed-signs_of (plus e) stack signs = ap (all_signed stack) (append_assoc (signs_of e) ((6, []) ∷ []) signs) ∙ all_signed-signs_of e stack ((6, []) ∷ signs)
all_signed-signs_of (optional e) stack signs = ap (all_signed stack) (append_assoc (signs_of e) ((7, []) ∷ []) signs) ∙ all_signed-signs_of e stack ((7, []) ∷ signs)

pub tree_again : (e : Expression (List ℤ)) → first_of (all_signed [] (signs_of e)) ≡ e
tree_again e = ap (λ signs. first_of (all_signed [] signs)) (sym (append-nil (signs_of e))) ∙ ap first_of (all_signed-signs_of e [] [])

abbrev pub pattern_code : Coded Pattern
pattern_code =
    code_by (List (List ℤ) × List (ℕ × List ℤ)) (coded× (coded_list (coded_list coded_ℤ)) (coded_list (coded× coded_ℕ (coded_list coded_ℤ))))
    (λ p. (p.sets, signs_of p.tree)) (λ q. record { sets = q.0; tree = first_of (all_signed [] q.1) }) (λ p. ap (λ e. let pattern : Pattern = record { sets = p.sets; tree = e } in pattern) (tree_again p.tree))
