use Rattle.command_parts.proofs.lines.send_text_refusal.Goals as goal

pub returns-in-Command : goal.returns-in-Command
returns-in-Command g c = rw c.in-Command.is c.send.ensures.sent

pub returns-in-Syntax : goal.returns-in-Syntax
returns-in-Syntax g c = rw c.in-Syntax.is c.send_place.ensures

pub returns-in-MixedChain : goal.returns-in-MixedChain
returns-in-MixedChain g c = rw c.in-MixedChain.is c.send_number.ensures

pub returns-in-Number : goal.returns-in-Number
returns-in-Number g c = rw c.in-Number.is c.send_place-in-Number.ensures

pub returns-in-NotLinear : goal.returns-in-NotLinear
returns-in-NotLinear g c = rw c.in-NotLinear.is c.send_number-in-NotLinear.ensures

pub returns-in-Depth : goal.returns-in-Depth
returns-in-Depth g c = rw c.in-Depth.is c.send_place-in-Depth.ensures

pub returns-in-MacroArgs : goal.returns-in-MacroArgs
returns-in-MacroArgs g c = rw c.in-MacroArgs.is c.send_arguments.ensures

pub returns-in-MacroDepth : goal.returns-in-MacroDepth
returns-in-MacroDepth g c = rw c.in-MacroDepth.is (rw c.as_bytes.ensures at c.send_two.ensures)

pub returns-in-MacroLong : goal.returns-in-MacroLong
returns-in-MacroLong g c = rw c.in-MacroLong.is c.send-in-MacroLong.ensures.sent
