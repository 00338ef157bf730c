use Rattle.command_parts.proofs.lines.send_shape_refusal.Goals as goal

pub returns-in-Plain : goal.returns-in-Plain
returns-in-Plain g c = rw c.in-Plain.is (rw c.as_bytes.ensures at c.send_two.ensures)

pub returns-in-CombineShape : goal.returns-in-CombineShape
returns-in-CombineShape g c = rw c.in-CombineShape.is (rw (c.as_bytes-in-CombineShape.ensures, c.as_bytes-in-CombineShape-2.ensures) at c.send_four.ensures)

pub returns-in-NotPlain : goal.returns-in-NotPlain
returns-in-NotPlain g c = rw c.in-NotPlain.is (rw c.as_bytes-in-NotPlain.ensures at c.send_two-in-NotPlain.ensures)

pub returns-in-LangShape : goal.returns-in-LangShape
returns-in-LangShape g c = rw c.in-LangShape.is (rw (c.as_bytes-in-LangShape.ensures, c.as_bytes-in-LangShape-2.ensures) at c.send_four-in-LangShape.ensures)

pub returns-in-Place : goal.returns-in-Place
returns-in-Place g c = rw c.in-Place.is (rw c.as_bytes-in-Place.ensures at c.send_two-in-Place.ensures)

pub returns-in-BaseNeeded : goal.returns-in-BaseNeeded
returns-in-BaseNeeded g c = rw c.in-BaseNeeded.is c.send_base.ensures

pub returns-in-NotRelated : goal.returns-in-NotRelated
returns-in-NotRelated g c = rw c.in-NotRelated.is (rw (c.as_bytes-in-NotRelated.ensures, c.as_bytes-in-NotRelated-2.ensures) at c.send_four-in-NotRelated.ensures)
