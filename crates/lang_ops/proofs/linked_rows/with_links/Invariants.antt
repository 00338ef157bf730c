use Rattle.std.proofs.Common.{◌≡◌, take}
use Rattle.std.specs.List.{flat_map}
use Rattle.lang_ops.proofs.LinkedRowLemmas.{with_link}
use Rattle.lang_ops.proofs.linked_rows.with_links.Given as goal

abbrev pub invariant-loop-transition : goal.invariant-loop-transition
invariant-loop-transition l = l.new.items ≡ flat_map (with_link l.d l.link) (take l.transition-index l.transitions)
