use Rattle.std.proofs.Common.{◌-◌, length, take, drop, arith, ◌∙◌}
use Rattle.std.proofs.lemmas.List.{take_rest}
use Rattle.dfa_reading.proofs.ReadHeaders.{alike_first}
use Rattle.dfa_reading.proofs.read_header.direct_alike.Goals as goal

pub returns-in-len1-up : goal.returns-in-len1-up
returns-in-len1-up c =
    let systems = c.args.systems.now in
    c.all_direct_as.ensures ∙ alike_first systems (take (length systems - 1) (drop 1 systems)) c.first-item.result (omega arith) c.first-item.is (take_rest systems 1)
