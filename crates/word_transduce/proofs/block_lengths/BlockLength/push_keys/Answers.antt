use Rattle.std.proofs.Common.{◌≡◌, ◌+◌, ◌<◌, ◌∷◌, ◌++◌, [], drop, take, length, map, get_or, slice_index, Some, ℕ, List, ap, ◌∙◌, sym, subst, arith}
use Rattle.std.specs.Prelude.{Vec, slice_index_or}
use Rattle.std.specs.declared.alloc.Global.{Global}
use Rattle.std.proofs.lemmas.List.{get_or-map, length-map, take_at}
use Rattle.digit_tuple.specs.Keys.{AreKeyTransitions, KeyTransition}
use Rattle.digit_tuple.proofs.LetterKeyTransitions.{AreKeyTransitions-more}
use Rattle.word_transduce.specs.BlockLengths.{gathered, rows_of}
use Rattle.word_transduce.specs.PackedOutputs.{packed, packed_len}
use Rattle.word_transduce.specs.declared.block_lengths.BlockLength.{BlockLength}
use Rattle.word_transduce.proofs.block_lengths.BlockLength.push_keys.Goals as goal

-- the places of a digit
row_at : (l : BlockLength) (digit : ℕ) (row : Vec ℕ Global) → digit < length (rows_of l) → row ≡ get_or l.places.items digit row → slice_index_or (rows_of l) digit [] ≡ row.items
row_at l digit row within is =
    get_or-map (λ (r : Vec ℕ Global). r.items) l.places.items digit row [] (omega (arith, within, length-map l.places.items (λ (r : Vec ℕ Global). r.items)))
    ∙ ap (λ (r : Vec ℕ Global). r.items) (sym is)

pub index-places-requires : goal.index-places-requires
index-places-requires c = omega (arith, c.requires.letters, length-map c.args.self.now.places.items (λ (row : Vec ℕ Global). row.items), c.loop-digit-test.true)

pub gather-requires : goal.gather-requires
gather-requires c =
    let l = c.args.self.now in
    let digit = c.loop-digit.digit in
    let within : digit < length (rows_of l) = omega (arith, c.requires.letters, c.loop-digit-test.true) in
    let row : slice_index_or (rows_of l) digit [] ≡ c.index-places.result.now.items = row_at l digit c.index-places.result.now within c.index-places.ensures in
    ap length c.deref_mut.ensures.value ∙ c.loop-digit.invariant.count
    ∙ ap (packed_len l.is_packed) (sym (ap length (c.deref.ensures.value ∙ sym row) ∙ c.requires.rows digit [] within))

pub loop-digit-preserved : goal.loop-digit-preserved
loop-digit-preserved c =
    let l = c.args.self.now in
    let outputs = c.args.outputs.now in
    let digit = c.loop-digit.digit in
    let new = c.gather.new.found in
    let found = c.loop-digit.found in
    let within : digit < length (rows_of l) = omega (arith, c.requires.letters, c.loop-digit-test.true) in
    let row : slice_index_or (rows_of l) digit [] ≡ c.index-places.result.now.items = row_at l digit c.index-places.result.now within c.index-places.ensures in
    let size : length new ≡ found.len = omega (arith, c.gather.auto.found, c.deref_mut.ensures.len, found.ok) in
    let taken : take found.len (new ++ drop (length new) found.items) ≡ new = take_at new (drop (length new) found.items) found.len size in
    let key : c.deref-in-loop-digit-3.result.now ≡ gathered outputs l digit =
    c.deref-in-loop-digit-3.ensures.value ∙ c.in_ok-write_key.ensures
    ∙ ap (λ (xs : List ℕ). xs ++ c.deref-in-loop-digit-2.result.now)
    (c.deref-in-loop-digit.ensures.value ∙ taken ∙ c.gather.ensures ∙ ap (λ (places : List ℕ). packed l.is_packed (map (λ place. slice_index outputs place) places)) (c.deref.ensures.value ∙ sym row))
    ∙ ap (λ (xs : List ℕ). packed l.is_packed (map (λ place. slice_index outputs place) (slice_index_or (rows_of l) digit [])) ++ xs) c.deref-in-loop-digit-2.ensures.value in
    record {
      count = ap length taken ∙ omega (arith, size, found.ok, c.loop-digit.invariant.count);
      transitions =
          subst (λ (ts : List KeyTransition). AreKeyTransitions (digit + 1) (λ d. Some (gathered outputs l d)) ts)
          (sym (c.in_ok-push.ensures.ok ∙ ap (λ (k : List ℕ). c.loop-digit.out ++ (let e : KeyTransition = record { letter = digit; key = k } in e) ∷ []) key))
          (AreKeyTransitions-more digit (λ d. Some (gathered outputs l d)) c.loop-digit.out c.loop-digit.invariant.transitions);
    }
