-- What the automaton of a number's word says of the number.
use Rattle.std.proofs.Common.{◌≡◌, ℕ, ◌+◌, ◌<◌, List, [], ◌∷◌, arith, ◌↔◌, IsTrue}
use Rattle.digit_tuple.specs.Deterministic.{Automaton, accepts_of}
use Rattle.digit_tuple.specs.Paddings.{without_zeros, in_order}
use Rattle.digit_tuple.specs.Width.{HasApart}
use Rattle.digit_tuple.specs.declared.direction.Direction.{Direction}
use Rattle.minimise.specs.Residuals.{SameLanguage}
use Rattle.numeration.specs.Systems.{System, IsSystem, IsRep}
use Rattle.numeration.proofs.RankLemmas.{rep_exists}
use Rattle.numeration.proofs.ConstantLemmas.{constant_holds}
use Rattle.number_order.proofs.KeptLemmas.{relation_kept}
use Rattle.constants.specs.Constants.{IsConstantOf, ConstantAlike}
use Rattle.constants.proofs.ConstantKinds.{constant_apart}

-- an automaton with the language of the paddings of a number's word holds of the number alone
pub constant_is : (direction : Direction) (s : System) (n : ℕ) (r : List ℕ) (d e : Automaton) → IsSystem s → IsRep s.digits s.test n r → d.sizes ≡ s.digits ∷ []
    → ((w : List ℕ) → IsTrue (accepts_of d w) ↔ (without_zeros (in_order direction w) ≡ r)) → e.sizes ≡ d.sizes → SameLanguage d e → IsConstantOf direction s n e
constant_is direction s n r d e is rep sizes paddings tracks same = relation_kept direction (s ∷ []) (λ ns. ns ≡ n ∷ []) d e (constant_holds direction s n r d is rep sizes paddings) tracks same

-- each number distinguishes two kinds of words
pub two_apart : (direction : Direction) (s : System) (n limit : ℕ) → IsSystem s → limit < 2 → HasApart (ConstantAlike direction s n) s.digits (limit + 1)
two_apart direction s n limit is few =
    let word = rep_exists s.digits s.test n is in
    constant_apart direction s n word.0 is word.1 (limit + 1) (omega (arith, few))
