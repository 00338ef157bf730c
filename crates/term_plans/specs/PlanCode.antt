-- How a plan is stored: a list that gives it back, each sign after the plans that it takes.
use Rattle.std.specs.Prelude.{◌≡◌, ℕ, ℤ, List, [], ◌∷◌, ◌++◌, refl}
use Rattle.std.specs.Coded.{Coded, code_by, coded_list}
use Rattle.std.proofs.Common.{ap, ◌∙◌, append_assoc, append-nil, sym}
use Rattle.formula_parse.specs.Tokens.{Name, Relation}
use Rattle.formula_parse.specs.Trees.{Joint}
use Rattle.term_plans.specs.Tracks.{Track, fresh}
use Rattle.term_plans.specs.Plans.{Plan, compared, added, number, called, lettered, renamed, constant, joined, paired, complement, projected}

-- what a plan is, but for the plans that it is made of
pub data Sign : Type 0 where
  a_compared : Name → Relation → Track → Track → Sign
  an_added : Name → Track → Track → Track → Sign
  a_number : Name → Track → Sign
  a_called : Name → List Track → Sign
  a_lettered : Name → List Track → Relation → ℤ → Sign
  a_renamed : Track → Track → Sign
  a_constant : Name → ℕ → Track → Sign
  a_joined : Joint → Sign
  a_paired : Name → List Track → Relation → Name → List Track → Sign
  a_complement : Sign
  a_projected : Track → Sign

abbrev pub signs_of : Plan → List Sign
signs_of (compared y r s t) = a_compared y r s t ∷ []
signs_of (added y s t u) = an_added y s t u ∷ []
signs_of (number y t) = a_number y t ∷ []
signs_of (called n ts) = a_called n ts ∷ []
signs_of (lettered n ts r l) = a_lettered n ts r l ∷ []
signs_of (renamed s t p) = signs_of p ++ a_renamed s t ∷ []
signs_of (constant y c t) = a_constant y c t ∷ []
signs_of (joined j p q) = signs_of p ++ (signs_of q ++ a_joined j ∷ [])
signs_of (paired n ts r w us) = a_paired n ts r w us ∷ []
signs_of (complement p) = signs_of p ++ a_complement ∷ []
signs_of (projected t p) = signs_of p ++ a_projected t ∷ []

-- the plans after one more sign
abbrev pub signed : Sign → List Plan → List Plan
signed (a_compared y r s t) stack = compared y r s t ∷ stack
signed (an_added y s t u) stack = added y s t u ∷ stack
signed (a_number y t) stack = number y t ∷ stack
signed (a_called n ts) stack = called n ts ∷ stack
signed (a_lettered n ts r l) stack = lettered n ts r l ∷ stack
signed (a_renamed s t) (p ∷ stack) = renamed s t p ∷ stack
signed (a_constant y c t) stack = constant y c t ∷ stack
signed (a_joined j) (q ∷ p ∷ stack) = joined j p q ∷ stack
signed (a_paired n ts r w us) stack = paired n ts r w us ∷ stack
signed a_complement (p ∷ stack) = complement p ∷ stack
signed (a_projected t) (p ∷ stack) = projected t p ∷ stack
signed _ stack = stack

abbrev pub all_signed : List Plan → List Sign → List Plan
all_signed stack [] = stack
all_signed stack (sign ∷ signs) = all_signed (signed sign stack) signs

abbrev pub first_of : List Plan → Plan
first_of [] = number [] (fresh 0)
first_of (p ∷ stack) = p

pub all_signed-signs_of : (p : Plan) (stack : List Plan) (signs : List Sign) → all_signed stack (signs_of p ++ signs) ≡ all_signed (p ∷ stack) signs
all_signed-signs_of (compared y r s t) stack signs = refl
all_signed-signs_of (added y s t u) stack signs = refl
all_signed-signs_of (number y t) stack signs = refl
all_signed-signs_of (called n ts) stack signs = refl
all_signed-signs_of (lettered n ts r l) stack signs = refl
all_signed-signs_of (renamed s t p) stack signs = ap (all_signed stack) (append_assoc (signs_of p) (a_renamed s t ∷ []) signs) ∙ all_signed-signs_of p stack (a_renamed s t ∷ signs)
all_signed-signs_of (constant y c t) stack signs = refl
all_signed-signs_of (joined j p q) stack signs =
    ap (all_signed stack) (append_assoc (signs_of p) (signs_of q ++ a_joined j ∷ []) signs) ∙ all_signed-signs_of p stack ((signs_of q ++ a_joined j ∷ []) ++ signs)
    ∙ ap (all_signed (p ∷ stack)) (append_assoc (signs_of q) (a_joined j ∷ []) signs) ∙ all_signed-signs_of q (p ∷ stack) (a_joined j ∷ signs)
all_signed-signs_of (paired n ts r w us) stack signs = refl
all_signed-signs_of (complement p) stack signs = ap (all_signed stack) (append_assoc (signs_of p) (a_complement ∷ []) signs) ∙ all_signed-signs_of p stack (a_complement ∷ signs)
all_signed-signs_of (projected t p) stack signs = ap (all_signed stack) (append_assoc (signs_of p) (a_projected t ∷ []) signs) ∙ all_signed-signs_of p stack (a_projected t ∷ signs)

pub plan_again : (p : Plan) → first_of (all_signed [] (signs_of p)) ≡ p
plan_again p = ap (λ signs. first_of (all_signed [] signs)) (sym (append-nil (signs_of p))) ∙ ap first_of (all_signed-signs_of p [] [])

-- the code of plans, by that of signs
abbrev pub plan_code : Coded Sign → Coded Plan
plan_code sign = code_by (List Sign) (coded_list sign) signs_of (λ signs. first_of (all_signed [] signs)) plan_again
