-- Stages after lexemes, one after another.
use Rattle.std.proofs.Common.{◌≡◌, List, [], ◌∷◌, ◌++◌, Option, None, Some, refl, ◌∙◌, ap}
use Rattle.place_text.specs.declared.lexeme.Lexeme.{Lexeme}
use Rattle.place_text.specs.Stages.{Stage, step}

-- what follows, if there is a stage
abbrev pub from : {X : Type 0} → Option Stage → (Stage → Option X) → Option X
from None f = None
from (Some stage) f = f stage

-- the stage after lexemes, or none where no place goes on with one of them
abbrev pub reach : List Lexeme → Stage → Option Stage
reach [] stage = Some stage
reach (t ∷ ts) stage = from (step stage t) (λ next. reach ts next)

pub reach-append : (xs ys : List Lexeme) (stage : Stage) → reach (xs ++ ys) stage ≡ from (reach xs stage) (λ next. reach ys next)
reach-append [] ys stage = refl
reach-append (x ∷ xs) ys stage = by_step (λ next. reach-append xs ys next) (step stage x)
  where
    by_step : ((next : Stage) → reach (xs ++ ys) next ≡ from (reach xs next) (λ n. reach ys n)) → (o : Option Stage) → from o (λ n. reach (xs ++ ys) n) ≡ from (from o (λ n. reach xs n)) (λ n. reach ys n)
    by_step rest None = refl
    by_step rest (Some next) = rest next

-- one lexeme more
pub reach-push : (xs : List Lexeme) (t : Lexeme) (start stage : Stage) → reach xs start ≡ Some stage → reach (xs ++ t ∷ []) start ≡ step stage t
reach-push xs t start stage h = reach-append xs (t ∷ []) start ∙ (ap (λ o. from o (λ n. reach (t ∷ []) n)) h ∙ last (step stage t))
  where
    last : (o : Option Stage) → from o (λ n. Some n) ≡ o
    last None = refl
    last (Some n) = refl
