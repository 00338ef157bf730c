use Rattle.word_images.proofs.TreeLemmas.{pushed_first, pushed_second, term_made}
use Rattle.word_images.proofs.image_formula.place_term.Goals as goal

pub returns : goal.returns
returns c =
    term_made c.push-2.new.self c.push-3.new.self c.in_ok-last.last c.in_ok-new.field-0 c.args.length c.args.place
    (pushed_second c.new-factors.result.items c.push.new.self.items c.push-2.new.self.items _ _ c.new-factors.ensures.items c.in_ok-push.ensures.items c.in_ok-push-2.ensures.items)
    (pushed_first c.new-addends.result.items c.push-3.new.self.items _ c.new-addends.ensures.items c.in_ok-push-3.ensures.items) c.in_ok-last.ensures.ok c.in_ok-new.ensures
