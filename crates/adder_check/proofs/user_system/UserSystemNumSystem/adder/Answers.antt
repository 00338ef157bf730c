use Rattle.std.proofs.Common.{sym, subst}
use Rattle.std.proofs.lemmas.Result.{IfOk-weaker}
use Rattle.digit_tuple.specs.Deterministic.{Automaton}
use Rattle.numeration.specs.Relations.{IsAdderOf}
use Rattle.endless.specs.LanguageLaws.{system_in}
use Rattle.adder_check.proofs.SureAdders.{surely_adder}
use Rattle.adder_check.proofs.user_system.UserSystemNumSystem.adder.Goals as goal

pub returns : goal.returns
returns c =
    let user = c.args.self.now in
    let s = system_in user.direction user.digits user.language in
    IfOk-weaker c.copy.result _ _ (λ dfa same. subst (λ (d : Automaton). IsAdderOf user.direction s d) (sym same) (surely_adder user.direction s user.adder user.adds)) c.copy.ensures
