use Rattle.std.proofs.Common.{map}
use Rattle.std.specs.Rc.{rc_value}
use Rattle.product_op.proofs.LanguageLemmas.{AreLanguagesTo}
use Rattle.product_op.proofs.languages.are_languages.Given as goal

abbrev pub invariant-loop-track : goal.invariant-loop-track
invariant-loop-track l = AreLanguagesTo l.sizes (map rc_value l.valid) l.track
