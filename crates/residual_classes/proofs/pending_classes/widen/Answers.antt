use Rattle.std.proofs.Common.{◌≡◌, ℕ, zero, suc, Bool, false, List, [], ◌∷◌, ◌++◌, length, get_or, refl, ap, ◌∙◌, arith}
use Rattle.std.proofs.lemmas.List.{length_push}
use Rattle.residual_classes.proofs.pending_classes.widen.Goals as goal

-- a flag that is not set reads as one that is not there
push_false : (flags : List Bool) (class : ℕ) → get_or (flags ++ false ∷ []) class false ≡ get_or flags class false
push_false [] zero = refl
push_false [] (suc class) = refl
push_false (flag ∷ flags) zero = refl
push_false (flag ∷ flags) (suc class) = push_false flags class

pub loop-preserved : goal.loop-preserved
loop-preserved c =
    let flags = c.loop.flags.items in
    record {
      same = λ class. ap (λ (fs : List Bool). get_or fs class false) c.in_ok-push.ensures.items ∙ push_false flags class ∙ c.loop.invariant.same class;
      room = omega (arith, ap length c.in_ok-push.ensures.items, length_push flags false, c.loop.invariant.room);
    }
