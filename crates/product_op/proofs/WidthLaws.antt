-- Words that are alike to products: this is an equivalence.
use Rattle.std.proofs.Common.{List, sym, ◌∙◌, refl}
use Rattle.digit_tuple.specs.Deterministic.{Automaton}
use Rattle.digit_tuple.specs.Width.{IsEquivalence}
use Rattle.minimise.specs.Tracked.{NamedAutomaton}
use Rattle.product_op.specs.declared.op.Op.{Op}
use Rattle.product_op.specs.Products.{ProductAlike}

pub IsEquivalence-product : (op : Op) (a b : NamedAutomaton) (languages : List Automaton) → IsEquivalence (ProductAlike op a b languages)
IsEquivalence-product op a b languages = record {
  reflexive = λ w. record { first = λ t more. refl; second = λ t more. refl; tracks = λ counts track less t more. refl };
  symmetric = λ w v alike. record {
    first = λ t more. sym (alike.first t more);
    second = λ t more. sym (alike.second t more);
    tracks = λ counts track less t more. sym (alike.tracks counts track less t more);
  };
  transitive = λ u v w one two. record {
    first = λ t more. one.first t more ∙ two.first t more;
    second = λ t more. one.second t more ∙ two.second t more;
    tracks = λ counts track less t more. one.tracks counts track less t more ∙ two.tracks counts track less t more;
  };
}
