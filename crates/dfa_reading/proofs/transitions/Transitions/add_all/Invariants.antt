use Rattle.std.proofs.Common.{◌≡◌, ◌++◌, take, drop}
use Rattle.dfa_reading.specs.Transitions.{AreIndexed, agree_all, to_each, transitions_in}
use Rattle.dfa_reading.proofs.transitions.Transitions.add_all.Given as goal

abbrev pub invariant-loop-target : goal.invariant-loop-target
invariant-loop-target l = record {
  agree : agree_all (transitions_in l.self.list.items) l.digits (drop l.target-index l.targets) ≡ agree_all (transitions_in l.initial.self.list.items) l.digits l.targets;
  list : transitions_in l.self.list.items ≡ transitions_in l.initial.self.list.items ++ to_each l.digits (take l.target-index l.targets);
  indexed : AreIndexed (transitions_in l.self.list.items) l.self.tables.items;
}
