use Rattle.command_parts.proofs.lines.send_refusal.Goals as goal

pub returns-in-Text : goal.returns-in-Text
returns-in-Text g c = rw c.in-Text.is c.send_text_refusal.ensures

pub returns-in-File : goal.returns-in-File
returns-in-File g c = rw c.in-File.is c.send_file_refusal.ensures

pub returns-in-System : goal.returns-in-System
returns-in-System g c = rw c.in-System.is c.send_system_refusal.ensures

pub returns-in-Step : goal.returns-in-Step
returns-in-Step g c = rw c.in-Step.is c.send_step_refusal.ensures

pub returns-in-Shape : goal.returns-in-Shape
returns-in-Shape g c = rw c.in-Shape.is c.send_shape_refusal.ensures

pub returns-in-Word : goal.returns-in-Word
returns-in-Word g c = rw c.in-Word.is c.send_word_refusal.ensures
