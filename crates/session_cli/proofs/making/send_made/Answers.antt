use Rattle.std.proofs.Common.{ℕ, List, codes}
use Rattle.std.proofs.lemmas.Result.{err_from_is_err_and}
use Rattle.script_runs.specs.declared.counts.Counts.{Counts}
use Rattle.session_cli.specs.Made.{two_numbers}
use Rattle.session_cli.proofs.MadeSteps.{first_cut, second_cut, third_cut, four_sent}
use Rattle.session_cli.proofs.making.send_made.Goals as goal

-- the parts of the line
abbrev of_all : ℕ → Counts → List ℕ
of_all seed counts = two_numbers (codes "made ") seed (codes " commands ") counts.commands

abbrev of_verdicts : Counts → List ℕ
of_verdicts counts = two_numbers (codes " true ") counts.yes (codes " false ") counts.no

abbrev of_rest : Counts → List ℕ
of_rest counts = two_numbers (codes " other ") counts.other (codes " refused ") counts.refused

pub returns-in_err-send_numbers : goal.returns-in_err-send_numbers
returns-in_err-send_numbers g c =
    let p = err_from_is_err_and c.from_residual.result c.from_residual.ensures.1 in
    rw (p.1, p.2) (first_cut _ _ (of_all c.args.seed c.args.counts.now) (of_verdicts c.args.counts.now) (of_rest c.args.counts.now) (codes "\n") _ c.in_err-send_numbers.ensures)

pub returns-in_err-send_numbers-2 : goal.returns-in_err-send_numbers-2
returns-in_err-send_numbers-2 g c =
    let p = err_from_is_err_and c.from_residual-in_err-send_numbers-2.result c.from_residual-in_err-send_numbers-2.ensures.1 in
    rw (p.1, p.2) (second_cut _ _ _ (of_all c.args.seed c.args.counts.now) (of_verdicts c.args.counts.now) (of_rest c.args.counts.now) (codes "\n") _ c.in_ok-send_numbers.ensures c.in_err-send_numbers-2.ensures)

pub returns-in_err-send_numbers-3 : goal.returns-in_err-send_numbers-3
returns-in_err-send_numbers-3 g c =
    let p = err_from_is_err_and c.from_residual-in_err-send_numbers-3.result c.from_residual-in_err-send_numbers-3.ensures.1 in
    rw (p.1, p.2) (third_cut _ _ _ _ (of_all c.args.seed c.args.counts.now) (of_verdicts c.args.counts.now) (of_rest c.args.counts.now) (codes "\n") _ c.in_ok-send_numbers.ensures c.in_ok-send_numbers-2.ensures c.in_err-send_numbers-3.ensures)

pub returns : goal.returns
returns g c = four_sent _ _ _ _ _ (of_all c.args.seed c.args.counts.now) (of_verdicts c.args.counts.now) (of_rest c.args.counts.now) (codes "\n") c.send.result c.in_ok-send_numbers.ensures c.in_ok-send_numbers-2.ensures c.in_ok-send_numbers-3.ensures c.send.ensures.sent
