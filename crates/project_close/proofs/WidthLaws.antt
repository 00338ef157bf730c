-- Words that are alike to projections: these are equivalences.
use Rattle.std.proofs.Common.{ℕ, List, sym, ◌∙◌, refl}
use Rattle.digit_tuple.specs.Deterministic.{Automaton}
use Rattle.digit_tuple.specs.Width.{IsEquivalence}
use Rattle.digit_tuple.specs.declared.direction.Direction.{Direction}
use Rattle.project_close.specs.Projection.{HaveResiduals, ProjectionAlike}

module _ (d : Automaton) where
  HaveResiduals-trans : (places : List ℕ) (direction : Direction) (w v u : List ℕ) → HaveResiduals d places direction w v → HaveResiduals d places direction v u → HaveResiduals d places direction w u
  HaveResiduals-trans places direction w v u one two x over has_part some =
      let y = one x over has_part some in
      let z = two y.0 y.1 y.2 (λ empty. some (λ t more. y.3 t more ∙ empty t more)) in
      (z.0, z.1, z.2, λ t more. y.3 t more ∙ z.3 t more)

  pub IsEquivalence-projection : (places : List ℕ) (direction : Direction) → IsEquivalence (ProjectionAlike d places direction)
  IsEquivalence-projection places direction = record {
    reflexive = λ w. record { forth = itself w; back = itself w };
    symmetric = λ w v alike. record { forth = alike.back; back = alike.forth };
    transitive = λ u v w one two. record {
      forth = HaveResiduals-trans places direction u v w one.forth two.forth;
      back = HaveResiduals-trans places direction w v u two.back one.back;
    };
  }
    where
      itself : (w : List ℕ) → HaveResiduals d places direction w w
      itself w x over has_part some = (x, over, has_part, λ t more. refl)
