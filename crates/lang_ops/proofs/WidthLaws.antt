-- Words that are alike to concatenations, stars and connectives: these are equivalences.
use Rattle.std.proofs.Common.{ℕ, List, refl, sym, ◌∙◌}
use Rattle.digit_tuple.specs.Deterministic.{Automaton}
use Rattle.digit_tuple.specs.Width.{IsEquivalence}
use Rattle.lang_ops.specs.Concatenation.{ConcatAlike}
use Rattle.lang_ops.specs.Pairs.{PairAlike}
use Rattle.lang_ops.specs.Rests.{HaveRests, SameRests}
use Rattle.lang_ops.specs.Star.{StarAlike}

module _ (d : Automaton) (P : List ℕ → Type 0) where
  HaveRests-trans : (w v u : List ℕ) → HaveRests d P w v → HaveRests d P v u → HaveRests d P w u
  HaveRests-trans w v u one two x rest some =
      let y = one x rest some in
      let z = two y.0 y.1 (λ empty. some (λ t more. y.2 t more ∙ empty t more)) in
      (z.0, z.1, λ t more. y.2 t more ∙ z.2 t more)

  pub IsEquivalence-rests : IsEquivalence (SameRests d P)
  IsEquivalence-rests = record {
    reflexive = λ w. record { forth = λ x rest some. (x, rest, λ t more. refl); back = λ x rest some. (x, rest, λ t more. refl) };
    symmetric = λ w v same. record { forth = same.back; back = same.forth };
    transitive = λ u v w one two. record { forth = HaveRests-trans u v w one.forth two.forth; back = HaveRests-trans w v u two.back one.back };
  }

pub IsEquivalence-pair : (a b : Automaton) → IsEquivalence (PairAlike a b)
IsEquivalence-pair a b = record {
  reflexive = λ w. record { first = λ t more. refl; second = λ t more. refl };
  symmetric = λ w v alike. record { first = λ t more. sym (alike.first t more); second = λ t more. sym (alike.second t more) };
  transitive = λ u v w one two. record { first = λ t more. one.first t more ∙ two.first t more; second = λ t more. one.second t more ∙ two.second t more };
}

pub IsEquivalence-concat : (a b : Automaton) → IsEquivalence (ConcatAlike a b)
IsEquivalence-concat a b = record {
  reflexive = λ w. record { first = λ t more. refl; second = (IsEquivalence-rests b _).reflexive w };
  symmetric = λ w v alike. record { first = λ t more. sym (alike.first t more); second = (IsEquivalence-rests b _).symmetric w v alike.second };
  transitive = λ u v w one two. record { first = λ t more. one.first t more ∙ two.first t more; second = (IsEquivalence-rests b _).transitive u v w one.second two.second };
}

pub IsEquivalence-star : (a : Automaton) → IsEquivalence (StarAlike a)
IsEquivalence-star a = record {
  reflexive = λ w. record { inside = ((λ is. is), (λ is. is)); rests = (IsEquivalence-rests a _).reflexive w };
  symmetric = λ w v alike. record { inside = (alike.inside.1, alike.inside.0); rests = (IsEquivalence-rests a _).symmetric w v alike.rests };
  transitive = λ u v w one two. record {
    inside = ((λ is. two.inside.0 (one.inside.0 is)), (λ is. one.inside.1 (two.inside.1 is)));
    rests = (IsEquivalence-rests a _).transitive u v w one.rests two.rests;
  };
}
