use Rattle.std.proofs.Common.{ℕ, List, sym, ◌∙◌, subst}
use Rattle.digit_tuple.specs.Letters.{IsWord, product}
use Rattle.minimise.proofs.ClassFormLemmas.{canonical_classes_are_equal}
use Rattle.class_reversal.proofs.laws.reversal_has_one_result.Goals as goal

pub returns : goal.returns
returns c d e f classes ones others first second sizes too one two =
    canonical_classes_are_equal e f ones others first second (sizes ∙ sym too) (λ w over.
    let word = subst (λ (ss : List ℕ). IsWord (product ss) w) sizes over in one w word ∙ sym (two w word))
