use Rattle.std.proofs.Common.{◌≡◌, ℕ, ◌*◌, ◌≤◌, ◌++◌, Bool, false, true, List, length, map, take, drop, length-take-le, get_or-take, sym, ap, ◌∙◌, true≢false, arith}
use Rattle.std.specs.List.{range_with_len}
use Rattle.std.proofs.lemmas.List.{take_at}
use Rattle.std.proofs.lemmas.List.FromFn.{fill_by_all, get_or-map-range_with_len, length-map-range_with_len}
use Rattle.word_transduce.specs.PackedOutputs.{key_output, packed_len, unpacked}
use Rattle.word_transduce.proofs.packed_outputs.unpacked.Goals as goal

-- the first numbers of a key
first_numbers : (is_packed : Bool) (count : ℕ) (key found : List ℕ) → is_packed ≡ false → packed_len is_packed count ≤ length key → found ≡ take count key → found ≡ unpacked is_packed count key
first_numbers true count key found form long is = absurd (true≢false form)
first_numbers false count key found form long is =
    is ∙ fill_by_all (key_output false key) (take count key) count 0 (length-take-le count key long) (λ place within. get_or-take count key place 0 within)

-- the first of more values
first_values : (f : ℕ → ℕ) (count more : ℕ) → count ≤ more → take count (map f (range_with_len 0 more)) ≡ map f (range_with_len 0 count)
first_values f count more least =
    fill_by_all f (take count (map f (range_with_len 0 more))) count 0 (length-take-le count (map f (range_with_len 0 more)) (omega (arith, least, length-map-range_with_len f 0 more)))
    (λ place within. get_or-take count (map f (range_with_len 0 more)) place 0 within ∙ get_or-map-range_with_len f 0 more place place 0 (omega (arith, within, least)) (omega arith))

pub returns-then-not-is_packed : goal.returns-then-not-is_packed
returns-then-not-is_packed c =
    first_numbers c.args.is_packed c.args.count c.args.key.now c.extend_from_slice.new.self.items c.if-not-is_packed.true c.requires
    (c.in_ok-extend_from_slice.ensures.items ∙ ap (λ (xs : List ℕ). xs ++ take c.args.count c.args.key.now) c.new-outputs.ensures.items)

pub returns : goal.returns
returns c =
    let count = c.args.count in
    let key = c.args.key.now in
    let more = c.resize.new.self in
    let found = c.unpack_groups.new.outputs in
    let size : length found ≡ more.len = omega (arith, c.unpack_groups.auto.outputs, c.deref_mut.ensures.len, more.ok) in
    let taken : take more.len (found ++ drop (length found) more.items) ≡ found = take_at found (drop (length found) more.items) more.len size in
    let least : count ≤ 4 * c.div_ceil-groups.result = omega (arith, c.div_ceil-groups.ensures) in
    c.truncate.ensures.items ∙ ap (take count) (taken ∙ c.unpack_groups.ensures)
    ∙ first_values (key_output true key) count (4 * c.div_ceil-groups.result) least
    ∙ ap (λ (b : Bool). unpacked b count key) (sym c.if-not-is_packed.false)
