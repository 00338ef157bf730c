use Rattle.std.proofs.Common.{◌≡◌, take, fold, bytes_eq}
use Rattle.formula_resolve.specs.FirstMentions.{with_new}
use Rattle.formula_resolve.proofs.first_mentions.FirstNames.with_all.Given as goal

abbrev pub invariant-loop-name : goal.invariant-loop-name
invariant-loop-name l = l.firsts ≡ fold (with_new bytes_eq) l.initial.firsts (take l.name-index l.names)
