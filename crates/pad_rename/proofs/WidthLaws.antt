-- Words that are alike to closures under padding: these are equivalences.
use Rattle.std.proofs.Common.{ℕ, List, sym, ◌∙◌, refl}
use Rattle.digit_tuple.specs.Deterministic.{Automaton}
use Rattle.digit_tuple.specs.Width.{IsEquivalence}
use Rattle.digit_tuple.specs.declared.direction.Direction.{Direction}
use Rattle.digit_tuple.specs.declared.direction.Direction.TheVariants.{Msd, Lsd}
use Rattle.pad_rename.specs.Padding.{HasResidualsOf, PaddedAlike}

module _ (d : Automaton) where
  HasResidualsOf-trans : (w v u : List ℕ) → HasResidualsOf d w v → HasResidualsOf d v u → HasResidualsOf d w u
  HasResidualsOf-trans w v u one two k some =
      let l = one k some in
      let m = two l.0 (λ empty. some (λ t more. l.1 t more ∙ empty t more)) in
      (m.0, λ t more. l.1 t more ∙ m.1 t more)

  pub IsEquivalence-padded : (direction : Direction) → IsEquivalence (PaddedAlike direction d)
  IsEquivalence-padded Msd = record {
    reflexive = λ w. record { zeros = ((λ are. are), (λ are. are)); to = λ k some. (k, λ t more. refl); back = λ k some. (k, λ t more. refl) };
    symmetric = λ w v alike. record { zeros = (alike.zeros.1, alike.zeros.0); to = alike.back; back = alike.to };
    transitive = λ u v w one two. record {
      zeros = ((λ are. two.zeros.0 (one.zeros.0 are)), (λ are. one.zeros.1 (two.zeros.1 are)));
      to = HasResidualsOf-trans _ _ _ one.to two.to;
      back = HasResidualsOf-trans _ _ _ two.back one.back;
    };
  }
  IsEquivalence-padded Lsd = record {
    reflexive = λ w. record { stripped = λ t more. refl; whole = λ t more. refl };
    symmetric = λ w v alike. record { stripped = λ t more. sym (alike.stripped t more); whole = λ t more. sym (alike.whole t more) };
    transitive = λ u v w one two. record {
      stripped = λ t more. one.stripped t more ∙ two.stripped t more;
      whole = λ t more. one.whole t more ∙ two.whole t more;
    };
  }
