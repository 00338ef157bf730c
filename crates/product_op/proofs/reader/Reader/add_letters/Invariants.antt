use Rattle.std.proofs.Common.{◌≡◌, ◌++◌, take}
use Rattle.std.specs.List.{flat_map}
use Rattle.digit_tuple.specs.declared.transitions.Transition.{Transition}
use Rattle.digit_tuple.specs.PartIndex.{letters_with}
use Rattle.product_op.proofs.reader.Reader.add_letters.Given as goal

abbrev pub invariant-loop-transition : goal.invariant-loop-transition
invariant-loop-transition l = l.letters.items ≡ l.fn.letters.items ++ flat_map (λ (e : Transition). letters_with l.self.parts e.letter) (take l.transition-index l.transition-items)
