use Rattle.std.proofs.Common.{◌≡◌, ◌++◌, ◌∷◌, [], ℕ, List, map, inl, refl, sym, subst, ap, ◌∙◌, arith}
use Rattle.std.proofs.lemmas.Grind.{common_steps}
use Rattle.std.proofs.lemmas.List.{length-map, map-append}
use Rattle.std.specs.List.{Contains}
use Rattle.digit_tuple.specs.Explored.{AreApart, IsNumbered}
use Rattle.digit_tuple.specs.KeyHashes.{hash_of}
use Rattle.digit_tuple.specs.Slots.{AreSlotted}
use Rattle.digit_tuple.proofs.NumberingLemmas.{IsNumbered-new}
use Rattle.digit_tuple.proofs.numbering.Numbering.number_by.Goals as goal

pub invariant_of-self-in-Err : goal.invariant_of-self-in-Err
invariant_of-self-in-Err c =
    let keys = c.self.inside.keys in
    let key = c.args.key.now in
    let pushed : c.push.new.self ≡ keys ++ key ∷ [] = c.in_ok-push.ensures.ok in
    let popped : c.pop.new.self ≡ keys = grind (arith, common_steps, pushed, c.pop.ensures) in (
      subst AreApart (sym popped) c.self.invariant.0,
      subst (λ (ks : List (List ℕ)). AreSlotted c.put.new.self (map hash_of ks)) (sym popped) (c.in-Err.ensures.err (map hash_of keys) c.make_room.ensures),
    )

pub invariant_of-self-in_default-put : goal.invariant_of-self-in_default-put
invariant_of-self-in_default-put c =
    let keys = c.self.inside.keys in
    let key = c.args.key.now in
    let hash = c.args.lookup.hash in
    let pushed : c.push.new.self ≡ keys ++ key ∷ [] = c.in_ok-push.ensures.ok in
    let slotted : AreSlotted c.put.new.self (map hash_of keys ++ hash ∷ []) = c.in_default-put.ensures.ok (map hash_of keys) (omega (arith, c.len-number.ensures.len, length-map keys hash_of)) c.make_room.ensures in (
      subst AreApart (sym pushed) (IsNumbered-new keys key c.len-number.result c.self.invariant.0 c.in_default.ensures (c.len-number.ensures.len)).apart,
      subst (λ (hs : List ℕ). AreSlotted c.put.new.self hs)
          (ap (λ (h : ℕ). map hash_of keys ++ h ∷ []) c.requires ∙ sym (map-append hash_of keys (key ∷ [])) ∙ ap (map hash_of) (sym pushed)) slotted,
    )

pub returns-clause-number : goal.returns-clause-number
returns-clause-number c =
    let keys = c.self.inside.keys in
    let key = c.args.key.now in
    let pushed : c.push.new.self ≡ keys ++ key ∷ [] = c.in_ok-push.ensures.ok in
    subst (λ (old : List (List ℕ)). IsNumbered old c.push.new.self key c.len-number.result) c.self.view_is
    (subst (λ (new : List (List ℕ)). IsNumbered keys new key c.len-number.result) (sym pushed) (IsNumbered-new keys key c.len-number.result c.self.invariant.0 c.in_default.ensures c.len-number.ensures.len))

pub known_number-requires-clause-slots : goal.known_number-requires-clause-slots
known_number-requires-clause-slots c = c.self.invariant.1

pub returns-in-Some-clause-number : goal.returns-in-Some-clause-number
returns-in-Some-clause-number c =
    subst (λ (old : List (List ℕ)). IsNumbered old old c.args.key.now c.in-Some.number) c.self.view_is
    (record { apart = c.self.invariant.0; key_is = c.in-Some.ensures.1; old_or_new = inl (refl, c.in-Some.ensures.0) })

pub make_room-requires : goal.make_room-requires
make_room-requires c = c.self.invariant.1

pub invariant_of-self : goal.invariant_of-self
invariant_of-self c = (c.self.invariant.0, c.make_room.ensures)

pub returns-in_err-make_room-clause-seen : goal.returns-in_err-make_room-clause-seen
returns-in_err-make_room-clause-seen c there = absurd (c.in_default.ensures (subst (λ (ks : List (List ℕ)). Contains ks c.args.key.now) (sym c.self.view_is) there))

pub invariant_of-self-in_err-push : goal.invariant_of-self-in_err-push
invariant_of-self-in_err-push c = (
  subst AreApart (sym c.in_err-push.ensures.err) c.self.invariant.0,
  subst (λ (ks : List (List ℕ)). AreSlotted c.make_room.new.table (map hash_of ks)) (sym c.in_err-push.ensures.err) c.make_room.ensures,
)

pub returns-in_err-push-clause-seen : goal.returns-in_err-push-clause-seen
returns-in_err-push-clause-seen c there = absurd (c.in_default.ensures (subst (λ (ks : List (List ℕ)). Contains ks c.args.key.now) (sym c.self.view_is) there))

pub put-requires : goal.put-requires
put-requires c = c.make_room.ensures.homes

pub returns-in-Err-clause-seen : goal.returns-in-Err-clause-seen
returns-in-Err-clause-seen c there = absurd (c.in_default.ensures (subst (λ (ks : List (List ℕ)). Contains ks c.args.key.now) (sym c.self.view_is) there))
