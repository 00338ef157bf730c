use Rattle.std.proofs.Common.{◌≡◌, ◌+◌, ◌<◌, ◌≤◌, List, ℕ, length, map, take, get_or, sym, ap, ◌∙◌, subst, arith}
use Rattle.std.proofs.lemmas.List.{get_or-map, length-map, take_all}
use Rattle.digit_tuple.specs.declared.transitions.Transition.{Transition}
use Rattle.digit_tuple.specs.declared.numbering.Lookup.{Lookup}
use Rattle.digit_tuple.specs.Explored.{AreNumbered, IsNumbered}
use Rattle.digit_tuple.specs.KeyHashes.{hash_of}
use Rattle.digit_tuple.specs.Keys.{KeyTransition, no_transition, transition_at}
use Rattle.digit_tuple.proofs.KeyTransitionLemmas.{AreNumbered-next, NumbersSome-at, length-numbered, number-within}
use Rattle.digit_tuple.proofs.exploration.number_transitions.Goals as goal

-- there is a lookup for each key
has_lookup : (lookups : List Lookup) (transitions : List KeyTransition) (place : ℕ) → map (λ (lookup : Lookup). lookup.hash) lookups ≡ map (λ (transition : KeyTransition). hash_of transition.key) transitions
    → place < length transitions → place < length lookups
has_lookup lookups transitions place same within = omega (arith, within, ap length same, length-map lookups (λ (lookup : Lookup). lookup.hash), length-map transitions (λ (transition : KeyTransition). hash_of transition.key))

pub key-requires : goal.key-requires
key-requires c = omega (arith, c.loop-place-test.true, c.len-place-end.ensures)

pub index-requires : goal.index-requires
index-requires c =
    let within : c.loop-place.place < length c.look_up_keys.new.lookups.items =
    has_lookup c.look_up_keys.new.lookups.items c.args.key_transitions.now c.loop-place.place c.in_ok-look_up_keys.ensures (omega (arith, c.loop-place-test.true, c.len-place-end.ensures)) in
    omega (arith, within, c.look_up_keys.new.lookups.ok)

pub number_by-requires : goal.number_by-requires
number_by-requires c =
    let lookups = c.look_up_keys.new.lookups.items in
    let key_transitions = c.args.key_transitions.now in
    let place = c.loop-place.place in
    let hash = λ (lookup : Lookup). lookup.hash in
    let key_hash = λ (transition : KeyTransition). hash_of transition.key in
    let same : map hash lookups ≡ map key_hash key_transitions = c.in_ok-look_up_keys.ensures in
    let within : place < length key_transitions = omega (arith, c.loop-place-test.true, c.len-place-end.ensures) in
    ap hash c.index.ensures ∙ sym (get_or-map hash lookups place c.index.result.now 0 (has_lookup lookups key_transitions place same within)) ∙ ap (λ (hashes : List ℕ). get_or hashes place 0) same
    ∙ get_or-map key_hash key_transitions place no_transition 0 within ∙ ap hash_of (sym c.key.ensures)

pub letter-requires : goal.letter-requires
letter-requires c = omega (arith, c.loop-place-test.true, c.len-place-end.ensures)

pub overflow_cast-target : goal.overflow_cast-target
overflow_cast-target c =
    let few : length c.number_by.new.self ≤ c.args.limit.most = omega (arith, c.if-len-limit.false, c.len.ensures.len) in
    omega (arith, number-within c.loop-place.keys c.number_by.new.self c.key.result.now c.in_ok-target.target c.in_ok-target.ensures.number, few)

pub returns-then-len-limit-clause-states : goal.returns-then-len-limit-clause-states
returns-then-len-limit-clause-states c _ =
    let numbered : IsNumbered c.loop-place.keys c.number_by.new.self (transition_at c.args.key_transitions.now c.loop-place.place).key c.in_ok-target.target =
    subst (λ (key : List ℕ). IsNumbered c.loop-place.keys c.number_by.new.self key c.in_ok-target.target) c.key.ensures c.in_ok-target.ensures.number in
    let size = length-numbered c.loop-place.keys c.number_by.new.self _ c.in_ok-target.target numbered in
    NumbersSome-at c.args.key_transitions.now c.loop-place.place c.loop-place.transitions.items c.args.keys.now c.loop-place.keys c.number_by.new.self no_transition c.in_ok-target.target (c.args.limit.most + 1)
    (omega (arith, c.loop-place-test.true, c.len-place-end.ensures)) c.loop-place.invariant.numbered numbered (omega (arith, size, c.loop-place.invariant.few, c.if-len-limit.true, c.len.ensures.len))

pub loop-place-preserved : goal.loop-place-preserved
loop-place-preserved c =
    let transition : Transition = record { letter = c.letter.result; target = c.in_ok-target.target } in
    let numbered : IsNumbered c.loop-place.keys c.number_by.new.self (transition_at c.args.key_transitions.now c.loop-place.place).key c.in_ok-target.target =
    subst (λ (key : List ℕ). IsNumbered c.loop-place.keys c.number_by.new.self key c.in_ok-target.target) c.key.ensures c.in_ok-target.ensures.number in
    record {
      numbered = subst (λ transitions. AreNumbered (take (c.loop-place.place + 1) c.args.key_transitions.now) transitions c.args.keys.now c.number_by.new.self) (sym {A = List Transition} c.in_ok-push.ensures.items)
          (AreNumbered-next c.args.key_transitions.now c.loop-place.place c.loop-place.transitions.items c.args.keys.now c.loop-place.keys c.number_by.new.self no_transition transition (omega (arith, c.loop-place-test.true, c.len-place-end.ensures)) c.loop-place.invariant.numbered c.letter.ensures numbered);
      few = omega (arith, c.if-len-limit.false, c.len.ensures.len);
    }

pub returns-clause-transitions : goal.returns-clause-transitions
returns-clause-transitions c =
    subst (λ from. AreNumbered from c.loop-place.transitions.items c.args.keys.now c.loop-place.keys) (take_all c.loop-place.place c.args.key_transitions.now (omega (arith, c.loop-place-test.false, c.len-place-end.ensures))) c.loop-place.invariant.numbered

pub returns-clause-few : goal.returns-clause-few
returns-clause-few c = c.loop-place.invariant.few
