use Rattle.std.proofs.Common.{◌≡◌, ◌++◌, take, codes}
use Rattle.std.specs.List.{flat_map}
use Rattle.dfa_text.proofs.header_text.push_names.Given as goal

abbrev pub invariant-loop-system : goal.invariant-loop-system
invariant-loop-system l = l.out.items ≡ l.initial.out.items ++ flat_map (λ system. codes " " ++ system.name) (take l.system-index l.others)
