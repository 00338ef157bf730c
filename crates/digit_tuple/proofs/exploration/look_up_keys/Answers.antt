use Rattle.std.proofs.Common.{ℕ, List, [], ◌∷◌, ◌++◌, map, take, sym, ap, ◌∙◌, arith}
use Rattle.std.proofs.lemmas.List.{map_more, map-append, take_all}
use Rattle.digit_tuple.specs.declared.numbering.Lookup.{Lookup}
use Rattle.digit_tuple.specs.KeyHashes.{hash_of}
use Rattle.digit_tuple.specs.Keys.{KeyTransition, no_transition}
use Rattle.digit_tuple.proofs.exploration.look_up_keys.Goals as goal

pub key-requires : goal.key-requires
key-requires c = omega (arith, c.loop-place-test.true, c.len-place-end.ensures)

pub loop-place-preserved : goal.loop-place-preserved
loop-place-preserved c =
    let hash = λ (lookup : Lookup). lookup.hash in
    let key_hash = λ (transition : KeyTransition). hash_of transition.key in
    let from = c.args.key_transitions.now in
    let place = c.loop-place.place in
    ap (map hash) c.in_ok-push.ensures.items ∙ map-append hash c.loop-place.lookups.items (c.look_up.result ∷ [])
    ∙ ap (λ (hashes : List ℕ). hashes ++ c.look_up.result.hash ∷ []) c.loop-place.invariant
    ∙ ap (λ (n : ℕ). map key_hash (take place from) ++ n ∷ []) (c.look_up.ensures ∙ ap hash_of c.key.ensures)
    ∙ sym (map_more key_hash from place no_transition (omega (arith, c.loop-place-test.true, c.len-place-end.ensures)))

pub returns : goal.returns
returns c = c.loop-place.invariant ∙ ap (map (λ (transition : KeyTransition). hash_of transition.key)) (take_all c.loop-place.place c.args.key_transitions.now (omega (arith, c.loop-place-test.false, c.len-place-end.ensures)))
