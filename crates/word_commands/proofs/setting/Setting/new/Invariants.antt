use Rattle.std.proofs.Common.{◌≡◌, []}
use Rattle.word_commands.specs.RecodedWords.{AreRecoded, image_headers}
use Rattle.word_commands.proofs.setting.Setting.new.Given as goal

-- the words of the places so far, and their headers
abbrev pub invariant-loop-place : goal.invariant-loop-place
invariant-loop-place l = record { headers : l.headers ≡ image_headers l.system l.place; relations : l.words.relations ≡ []; words : AreRecoded l.morphism l.word l.place l.words.words }
