use Rattle.std.proofs.Common.{◌≡◌, ◌++◌, take, codes}
use Rattle.std.specs.List.{flat_map}
use Rattle.dfa_text.specs.Parts.{set_text}
use Rattle.dfa_text.proofs.header_text.push_sets.Given as goal

abbrev pub invariant-loop-set : goal.invariant-loop-set
invariant-loop-set l = l.out.items ≡ l.initial.out.items ++ flat_map (λ set. codes " " ++ set_text set) (take l.set-index l.others)
