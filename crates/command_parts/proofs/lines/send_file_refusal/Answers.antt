use Rattle.command_parts.proofs.lines.send_file_refusal.Goals as goal

pub returns-in-Unknown : goal.returns-in-Unknown
returns-in-Unknown g c = rw c.in-Unknown.is c.send_file.ensures

pub returns-in-File : goal.returns-in-File
returns-in-File g c = rw c.in-File.is c.send_flawed.ensures

pub returns-in-LoadDepth : goal.returns-in-LoadDepth
returns-in-LoadDepth g c = rw c.in-LoadDepth.is (rw c.as_bytes.ensures at c.send_two.ensures)

pub returns-in-ScriptLimit : goal.returns-in-ScriptLimit
returns-in-ScriptLimit g c = rw c.in-ScriptLimit.is c.send.ensures.sent
