use Rattle.digit_tuple.specs.Headers.{sets_of}
use Rattle.language_commands.proofs.RegexWrites.{unparsed}
use Rattle.language_commands.proofs.reg.parsed.Goals as goal

pub returns-in-Err : goal.returns-in-Err
returns-in-Err c = rw c.from.ensures (unparsed (sets_of c.args.header.now) c.args.body.now c.in-Err.fault c.in-Err.ensures)
