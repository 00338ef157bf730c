-- Relations without tracks.
use Rattle.std.proofs.Common.{◌≡◌, ℕ, Bool, true, not, ◌&&◌, List, [], length, refl, sym, ap, ◌∙◌, subst, IsTrue, arith}
use Rattle.digit_tuple.specs.Deterministic.{accepts_of}
use Rattle.digit_tuple.specs.Letters.{IsWord}
use Rattle.digit_tuple.specs.Names.{AreDistinct}
use Rattle.digit_tuple.specs.NoWords.{bare_automaton}
use Rattle.digit_tuple.proofs.NoWordLemmas.{bare_refuses}
use Rattle.digit_tuple.specs.declared.direction.Direction.TheVariants.{Msd}
use Rattle.minimise.specs.Canonical.{IsCanonical}
use Rattle.minimise.specs.Tracked.{NamedAutomaton}
use Rattle.numeration.specs.Relations.{HoldsOf}
use Rattle.validity.specs.ValidParts.{in_complement}
use Rattle.product_op.specs.Validity.{is_valid}
use Rattle.number_relations.specs.Relations.{IsRelation, relation_over}
use Rattle.number_relations.specs.Comparisons.{IsTruth}
use Rattle.num_system.proofs.HoldLemmas.{closed_from, holds_representation, representation_holds}

-- an automaton of all words or of none, over no tracks
module _ (holds : Bool) (t : NamedAutomaton) (names : t.names ≡ []) (sizes : t.automaton.sizes ≡ []) (canonical : IsCanonical t.automaton)
    (language : (w : List ℕ) → IsWord 1 w → accepts_of t.automaton w ≡ holds) where
  truth_holds : HoldsOf Msd [] (λ ns. IsTrue holds) t.automaton
  truth_holds = record { sizes = sizes; accepts = λ w over. (λ accepted. ([], tt, sym (language w over) ∙ accepted), λ found. language w over ∙ found.2) }

  pub truth_relation : IsRelation (relation_over t [])
  truth_relation = record {
    tracked = record {
      count = ap length names ∙ sym (ap length sizes);
      distinct = subst AreDistinct (sym names) (λ i j d before within. absurd (omega (arith, within)));
      canonical = canonical;
    };
    count = sym (ap length names);
    sealed = tt;
    shared_direction = tt;
    closed = closed_from Msd [] (λ ns. IsTrue holds) t.automaton truth_holds;
  }

  pub truth_decided : IsTruth holds (relation_over t [])
  truth_decided = record {
    relation = truth_relation;
    names_are = names;
    systems_are = refl;
    holds_of = λ number_of. (
      representation_holds Msd [] (λ ns. IsTrue holds) t.automaton truth_holds [],
      holds_representation Msd [] (λ ns. IsTrue holds) t.automaton truth_holds tt [] refl,
    );
  }

-- the complement of no words over no tracks has all words
pub complement_all : (t : NamedAutomaton) (w : List ℕ) → t ≡ record { names = []; automaton = bare_automaton [] } → in_complement t [] w ≡ true
complement_all t w same = ap (λ (u : NamedAutomaton). in_complement u [] w) same ∙ ap (λ (b : Bool). not b && is_valid [] [] w) (bare_refuses [] w)
