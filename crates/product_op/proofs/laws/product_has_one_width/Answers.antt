use Rattle.digit_tuple.proofs.WidthLemmas.{IsOneWidth-equivalence}
use Rattle.product_op.specs.Products.{ProductAlike}
use Rattle.product_op.proofs.WidthLaws.{IsEquivalence-product}
use Rattle.product_op.proofs.laws.product_has_one_width.Goals as goal

pub returns : goal.returns
returns c op a b languages letters = IsOneWidth-equivalence (ProductAlike op a b languages) letters (IsEquivalence-product op a b languages)
