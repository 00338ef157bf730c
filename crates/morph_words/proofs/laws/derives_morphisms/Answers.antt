use Rattle.morph_words.proofs.MorphismShape.{derives_morphisms}
use Rattle.morph_words.proofs.laws.derives_morphisms.Goals as goal

pub returns : goal.returns
returns c = derives_morphisms
