use Rattle.command_parts.proofs.lines.send_step_refusal.Goals as goal

pub returns-in-States : goal.returns-in-States
returns-in-States g c = rw c.in-States.is c.send_number-in-States.ensures
