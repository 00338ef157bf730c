use Rattle.command_parts.proofs.lines.send_file.Goals as goal

pub returns : goal.returns
returns g c = rw (c.as_bytes.ensures.value, c.name.ensures, c.as_bytes-2.ensures) at c.send_four.ensures
