use Rattle.std.proofs.Common.{IfOk, IsTrue, ◌↔◌, sym, subst}
use Rattle.digit_tuple.specs.declared.direction.Direction.{Direction}
use Rattle.endless.specs.LanguageLaws.{IsEndless, language_in}
use Rattle.endless.proofs.endless.is_endless.Goals as goal

pub returns-in-Msd : goal.returns-in-Msd
returns-in-Msd c = subst (λ (direction : Direction). IfOk c.has_round_first.result (λ is. IsTrue is ↔ IsEndless (language_in direction c.args.language.now))) (sym c.in-Msd.is) c.has_round_first.ensures

pub returns-in-Lsd : goal.returns-in-Lsd
returns-in-Lsd c = subst (λ (direction : Direction). IfOk c.has_round_last.result (λ is. IsTrue is ↔ IsEndless (language_in direction c.args.language.now))) (sym c.in-Lsd.is) c.has_round_last.ensures
