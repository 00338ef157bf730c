use Rattle.std.proofs.Common.{◌≡◌, ◌+◌, ◌<◌, ◌≤◌, ℕ, Bool, List, ◌-◌, length, take, drop, slice_index, length-drop, take_all, ap, ◌∙◌, sym, subst, arith}
use Rattle.std.proofs.lemmas.List.FromFn.{length-map-range_with_len}
use Rattle.std.proofs.lemmas.Result.{on_ok_weaker}
use Rattle.digit_tuple.specs.Deterministic.{Automaton, letters_of}
use Rattle.digit_tuple.specs.Explored.{key_at}
use Rattle.digit_tuple.specs.Letters.{product}
use Rattle.transducer_reading.specs.Transducers.{Transducer}
use Rattle.word_output.specs.LetterFunctions.{LetterFunctionValue}
use Rattle.word_transduce.specs.BlockMaps.{pairs_of}
use Rattle.word_transduce.specs.BlockLengths.{IsBlockLength, ends_of, key_ends, key_outputs, number_place}
use Rattle.word_transduce.specs.PackedOutputs.{are_packed, key_output, packed_len, unpacked}
use Rattle.word_transduce.proofs.GatheredKeys.{ends_of-listed, ends_of-past, keys_lead, length-rows, listed_length, rows_fit}
use Rattle.word_transduce.proofs.block_graph.BlockGraphKeyGraph.transitions.Goals as goal

-- the outputs of a key
length_unpacked : (is_packed : Bool) (count : ℕ) (key outputs : List ℕ) → outputs ≡ unpacked is_packed count key → length outputs ≡ count
length_unpacked is_packed count key outputs is = ap length is ∙ length-map-range_with_len (key_output is_packed key) 0 count

module _ (t : Transducer) (f : LetterFunctionValue) (is_packed : Bool) (count : ℕ) where
  outputs_are : (key outputs : List ℕ) → outputs ≡ unpacked is_packed count key → is_packed ≡ are_packed t → count ≡ pairs_of t f → outputs ≡ key_outputs t f key
  outputs_are key outputs is form all = is ∙ ap (λ b. unpacked b count key) form ∙ ap (λ n. unpacked (are_packed t) n key) all

  number_place_is : (place : ℕ) → place ≡ packed_len is_packed count → is_packed ≡ are_packed t → count ≡ pairs_of t f → place ≡ number_place t f
  number_place_is place is form all = is ∙ ap (λ b. packed_len b count) form ∙ ap (packed_len (are_packed t)) all

-- the numbers from a place to the end
cut : (key : List ℕ) (place : ℕ) → take (length key - place) (drop place key) ≡ drop place key
cut key place = take_all (length key - place) (drop place key) (omega (arith, length-drop place key))

pub push_keys-requires-clause-letters : goal.push_keys-requires-clause-letters
push_keys-requires-clause-letters c =
    let t = c.args.self.now.maps.transducer.now in
    let f = c.args.self.now.maps.function.now in
    let lengths = c.args.self.now.lengths.now in
    let list = lengths.ends in
    let key = c.args.key.now in
    let outputs : List ℕ = c.deref.result.now in
    let number : ℕ = slice_index key c.packed_len-place.result in
    let within : number < length list = omega (arith, c.if-number-len.true, c.len.ensures, lengths.lengths.ok, c.requires.graph.1.listed.count) in
    let is : IsBlockLength t f list (key_at list number) c.index.result.now = listed_length t f list lengths.lengths.items number c.index.result.now c.requires.graph.1.listed within c.index.ensures in
    let long : length outputs ≡ pairs_of t f = length_unpacked _ _ key outputs (c.deref.ensures.value ∙ c.in_ok-outputs.ensures) ∙ c.pairs-pairs.ensures in
    let letters : c.letters-letters.result ≡ letters_of f.automaton = c.letters-letters.ensures.value ∙ ap product (c.alphabet.ensures.sizes ∙ ap (λ (x : Automaton). x.sizes) c.dfa.ensures.value) in
    length-rows t f (key_at list number) list c.index.result.now is outputs long ∙ sym letters

pub push_keys-requires-clause-rows : goal.push_keys-requires-clause-rows
push_keys-requires-clause-rows c =
    let t = c.args.self.now.maps.transducer.now in
    let f = c.args.self.now.maps.function.now in
    let lengths = c.args.self.now.lengths.now in
    let list = lengths.ends in
    let key = c.args.key.now in
    let outputs : List ℕ = c.deref.result.now in
    let number : ℕ = slice_index key c.packed_len-place.result in
    let within : number < length list = omega (arith, c.if-number-len.true, c.len.ensures, lengths.lengths.ok, c.requires.graph.1.listed.count) in
    let is : IsBlockLength t f list (key_at list number) c.index.result.now = listed_length t f list lengths.lengths.items number c.index.result.now c.requires.graph.1.listed within c.index.ensures in
    let long : length outputs ≡ pairs_of t f = length_unpacked _ _ key outputs (c.deref.ensures.value ∙ c.in_ok-outputs.ensures) ∙ c.pairs-pairs.ensures in
    let letters : c.letters-letters.result ≡ letters_of f.automaton = c.letters-letters.ensures.value ∙ ap product (c.alphabet.ensures.sizes ∙ ap (λ (x : Automaton). x.sizes) c.dfa.ensures.value) in
    rows_fit t f (key_at list number) list c.index.result.now is outputs long

pub returns-then-number-len : goal.returns-then-number-len
returns-then-number-len c =
    let t = c.args.self.now.maps.transducer.now in
    let f = c.args.self.now.maps.function.now in
    let lengths = c.args.self.now.lengths.now in
    let list = lengths.ends in
    let key = c.args.key.now in
    let outputs : List ℕ = c.deref.result.now in
    let number : ℕ = slice_index key c.packed_len-place.result in
    let within : number < length list = omega (arith, c.if-number-len.true, c.len.ensures, lengths.lengths.ok, c.requires.graph.1.listed.count) in
    let is : IsBlockLength t f list (key_at list number) c.index.result.now = listed_length t f list lengths.lengths.items number c.index.result.now c.requires.graph.1.listed within c.index.ensures in
    let long : length outputs ≡ pairs_of t f = length_unpacked _ _ key outputs (c.deref.ensures.value ∙ c.in_ok-outputs.ensures) ∙ c.pairs-pairs.ensures in
    let letters : c.letters-letters.result ≡ letters_of f.automaton = c.letters-letters.ensures.value ∙ ap product (c.alphabet.ensures.sizes ∙ ap (λ (x : Automaton). x.sizes) c.dfa.ensures.value) in
    let second : key_at list number ≡ key_ends t f list key =
    sym (ap (λ n. ends_of list n (drop (number_place t f + 1) key)) (ap (slice_index key) (sym (number_place_is t f _ _ _ c.packed_len-place.ensures c.are_packed-is_packed.ensures c.pairs-pairs.ensures))) ∙ ends_of-listed list number (drop (number_place t f + 1) key) within) in
    on_ok_weaker c.push_keys.result (keys_lead t f (key_at list number) list c.index.result.now is outputs long key c.letters-letters.result c.push_keys.new.out (outputs_are t f _ _ key outputs (c.deref.ensures.value ∙ c.in_ok-outputs.ensures) c.are_packed-is_packed.ensures c.pairs-pairs.ensures) second letters) c.push_keys.ensures

pub push_keys-requires-2-clause-letters : goal.push_keys-requires-2-clause-letters
push_keys-requires-2-clause-letters c =
    let t = c.args.self.now.maps.transducer.now in
    let f = c.args.self.now.maps.function.now in
    let lengths = c.args.self.now.lengths.now in
    let list = lengths.ends in
    let key = c.args.key.now in
    let outputs : List ℕ = c.deref-2.result.now in
    let ends : List ℕ = drop (c.packed_len-place.result + 1) key in
    let is : IsBlockLength t f list ends c.in_ok-length.length = subst (λ (xs : List ℕ). IsBlockLength t f list xs c.in_ok-length.length) (cut key (c.packed_len-place.result + 1)) c.in_ok-length.ensures in
    let long : length outputs ≡ pairs_of t f = length_unpacked _ _ key outputs (c.deref-2.ensures.value ∙ c.in_ok-outputs.ensures) ∙ c.pairs-pairs.ensures in
    let letters : c.letters-letters.result ≡ letters_of f.automaton = c.letters-letters.ensures.value ∙ ap product (c.alphabet.ensures.sizes ∙ ap (λ (x : Automaton). x.sizes) c.dfa.ensures.value) in
    length-rows t f ends list c.in_ok-length.length is outputs long ∙ sym letters

pub push_keys-requires-2-clause-rows : goal.push_keys-requires-2-clause-rows
push_keys-requires-2-clause-rows c =
    let t = c.args.self.now.maps.transducer.now in
    let f = c.args.self.now.maps.function.now in
    let lengths = c.args.self.now.lengths.now in
    let list = lengths.ends in
    let key = c.args.key.now in
    let outputs : List ℕ = c.deref-2.result.now in
    let ends : List ℕ = drop (c.packed_len-place.result + 1) key in
    let is : IsBlockLength t f list ends c.in_ok-length.length = subst (λ (xs : List ℕ). IsBlockLength t f list xs c.in_ok-length.length) (cut key (c.packed_len-place.result + 1)) c.in_ok-length.ensures in
    let long : length outputs ≡ pairs_of t f = length_unpacked _ _ key outputs (c.deref-2.ensures.value ∙ c.in_ok-outputs.ensures) ∙ c.pairs-pairs.ensures in
    let letters : c.letters-letters.result ≡ letters_of f.automaton = c.letters-letters.ensures.value ∙ ap product (c.alphabet.ensures.sizes ∙ ap (λ (x : Automaton). x.sizes) c.dfa.ensures.value) in
    rows_fit t f ends list c.in_ok-length.length is outputs long

pub returns : goal.returns
returns c =
    let t = c.args.self.now.maps.transducer.now in
    let f = c.args.self.now.maps.function.now in
    let lengths = c.args.self.now.lengths.now in
    let list = lengths.ends in
    let key = c.args.key.now in
    let outputs : List ℕ = c.deref-2.result.now in
    let ends : List ℕ = drop (c.packed_len-place.result + 1) key in
    let is : IsBlockLength t f list ends c.in_ok-length.length = subst (λ (xs : List ℕ). IsBlockLength t f list xs c.in_ok-length.length) (cut key (c.packed_len-place.result + 1)) c.in_ok-length.ensures in
    let long : length outputs ≡ pairs_of t f = length_unpacked _ _ key outputs (c.deref-2.ensures.value ∙ c.in_ok-outputs.ensures) ∙ c.pairs-pairs.ensures in
    let letters : c.letters-letters.result ≡ letters_of f.automaton = c.letters-letters.ensures.value ∙ ap product (c.alphabet.ensures.sizes ∙ ap (λ (x : Automaton). x.sizes) c.dfa.ensures.value) in
    let past : length list ≤ slice_index key c.packed_len-place.result = omega (arith, c.if-number-len.false, c.len.ensures, lengths.lengths.ok, c.requires.graph.1.listed.count) in
    let second : ends ≡ key_ends t f list key =
    ap (λ n. drop (n + 1) key) (number_place_is t f _ _ _ c.packed_len-place.ensures c.are_packed-is_packed.ensures c.pairs-pairs.ensures)
    ∙ sym (ap (λ n. ends_of list n (drop (number_place t f + 1) key)) (ap (slice_index key) (sym (number_place_is t f _ _ _ c.packed_len-place.ensures c.are_packed-is_packed.ensures c.pairs-pairs.ensures))) ∙ ends_of-past list (slice_index key c.packed_len-place.result) (drop (number_place t f + 1) key) past) in
    on_ok_weaker c.push_keys-2.result (keys_lead t f ends list c.in_ok-length.length is outputs long key c.letters-letters.result c.push_keys-2.new.out (outputs_are t f _ _ key outputs (c.deref-2.ensures.value ∙ c.in_ok-outputs.ensures) c.are_packed-is_packed.ensures c.pairs-pairs.ensures) second letters) c.push_keys-2.ensures
