use Rattle.std.proofs.Common.{◌≡◌, ◌+◌, ◌++◌, ◌∷◌, [], ℕ, List, length, sym, ap, rules}
use Rattle.digit_tuple.specs.Slots.{AreSlotted, IsPut}
use Rattle.digit_tuple.proofs.SlotLemmas.{AreSlotted-put}
use Rattle.digit_tuple.proofs.slots.SlotTable.put.Goals as goal

pub returns-clause-ok : goal.returns-clause-ok
returns-clause-ok c =
    let old = c.args.self.now in
    let new = c.put_slot.new.self in
    let next : IsPut old new (record { hash = c.args.hash; link = c.args.number + 1 }) → (hashes : List ℕ) → length hashes ≡ c.args.number → AreSlotted old hashes → AreSlotted new (hashes ++ c.args.hash ∷ [])
    = λ put hashes count are. AreSlotted-put old new (record { hash = c.args.hash; link = c.args.number + 1 }) put hashes (ap (λ n. n + 1) (sym count)) are in
    search (rules, next)
