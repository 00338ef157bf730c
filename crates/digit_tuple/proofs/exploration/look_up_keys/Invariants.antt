use Rattle.std.proofs.Common.{◌≡◌, map, take}
use Rattle.digit_tuple.specs.KeyHashes.{hash_of}
use Rattle.digit_tuple.specs.Keys.{KeyTransition}
use Rattle.digit_tuple.specs.declared.numbering.Lookup.{Lookup}
use Rattle.digit_tuple.proofs.exploration.look_up_keys.Given as goal

abbrev pub invariant-loop-place : goal.invariant-loop-place
invariant-loop-place l = map (λ (lookup : Lookup). lookup.hash) l.lookups.items ≡ map (λ (transition : KeyTransition). hash_of transition.key) (take l.place l.key_transitions)
