use Rattle.command_parts.proofs.lines.send_detail.Goals as goal

pub returns-in-Refused : goal.returns-in-Refused
returns-in-Refused g c = rw c.in-Refused.is c.send_refusal.ensures

pub returns-in-Store : goal.returns-in-Store
returns-in-Store g c = rw c.in-Store.is c.send_file.ensures

pub returns-in-Memory : goal.returns-in-Memory
returns-in-Memory g c = rw c.in-Memory.is c.send.ensures.sent
