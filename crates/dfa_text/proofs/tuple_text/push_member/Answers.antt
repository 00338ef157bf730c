use Rattle.dfa_text.proofs.SystemDigits.{digit_in}
use Rattle.dfa_text.proofs.tuple_text.push_member.Goals as goal

pub returns-in-Systems : goal.returns-in-Systems
returns-in-Systems c = rw (digit_in c.args.header.now c.in-Systems.field-0 c.args.track c.args.place c.in-Systems.is c.requires.track c.requires.place) c.push_number.ensures
