use Rattle.std.proofs.Common.{ℕ, List, ◌++◌, ◌∙◌, codes, subst}
use Rattle.wal_outside.specs.Sending.{Sends}
use Rattle.command_parts.proofs.lines.send_law.Goals as goal

pub returns : goal.returns
returns g c =
    let P : List ℕ → List ℕ → Type 0 = λ name law. Sends (g.K.Sink.view c.args.out.now) ((codes ": F15 NotAdmitted " ++ name) ++ (codes " " ++ law)) c.send_four.result (g.K.Sink.view c.send_four.new.out) in
    subst (P c.args.name.now) (c.as_bytes-2.ensures.value ∙ c.law_name.ensures) (subst (λ name. P name c.as_bytes-2.result.now) c.as_bytes.ensures c.send_four.ensures)
