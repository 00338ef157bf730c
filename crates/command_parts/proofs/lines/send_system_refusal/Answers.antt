use Rattle.command_parts.proofs.lines.send_system_refusal.Goals as goal

pub returns-in-SystemUnknown : goal.returns-in-SystemUnknown
returns-in-SystemUnknown g c = rw (c.in-SystemUnknown.is) (rw c.as_bytes.ensures at c.send_two.ensures)

pub returns-in-NotAdmitted : goal.returns-in-NotAdmitted
returns-in-NotAdmitted g c = rw c.in-NotAdmitted.is c.send_law.ensures

pub returns-in-Direction : goal.returns-in-Direction
returns-in-Direction g c = rw c.in-Direction.is (rw (c.as_bytes-in-Direction.ensures, c.as_bytes-in-Direction-2.ensures) at c.send_four.ensures)
