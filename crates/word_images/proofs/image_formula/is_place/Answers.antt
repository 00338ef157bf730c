use Rattle.word_images.proofs.TreeLemmas.{place_made}
use Rattle.word_images.proofs.image_formula.is_place.Goals as goal

pub returns : goal.returns
returns c = place_made c.in_ok-copy.field-0 c.args.system.now c.in_ok-new.field-0 c.in_ok-reached.reached c.args.length c.args.place c.in_ok-copy.ensures c.in_ok-new.ensures c.in_ok-reached.ensures
