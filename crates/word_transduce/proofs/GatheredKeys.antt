-- Keys that are gathered from places.
use Rattle.std.proofs.Common.{◌≡◌, ℕ, zero, suc, ◌+◌, ◌/◌, ◌<◌, ◌≤◌, List, [], ◌∷◌, ◌++◌, length, map, get_or, slice_index, Option, Some, Bool, cond, refl, sym, ap, ◌∙◌, subst, arith}
use Rattle.std.specs.List.{All, range_with_len}
use Rattle.std.specs.Prelude.{Vec, slice_index_or}
use Rattle.std.specs.declared.alloc.Global.{Global}
use Rattle.std.proofs.lemmas.Bool.{le-ltb, lt-ltb}
use Rattle.std.proofs.lemmas.List.{get_or_past, map-append}
use Rattle.std.proofs.lemmas.List.Elements.{All-map}
use Rattle.std.proofs.lemmas.List.FromFn.{get_or-map-range_with_len, length-map-range_with_len, map-range_with_len_more}
use Rattle.std.proofs.lemmas.Simd.{map-map}
use Rattle.digit_tuple.specs.Deterministic.{letters_of}
use Rattle.digit_tuple.specs.Explored.{key_at}
use Rattle.digit_tuple.specs.Keys.{AreKeyTransitions, KeyTransition}
use Rattle.residual_classes.specs.Classes.{next_of}
use Rattle.transducer_reading.specs.Transducers.{Transducer}
use Rattle.word_output.specs.LetterFunctions.{LetterFunctionValue}
use Rattle.word_transduce.specs.BlockLaws.{length-pairs}
use Rattle.word_transduce.specs.BlockMaps.{at_pairs, map_at, output_in, pairs_of, state_before}
use Rattle.word_transduce.specs.BlockLengths.{AreListedLengths, IsBlockLength, ends_of, gathered, key_after, key_by, key_ends, key_outputs, place_at, place_in, rows_of}
use Rattle.word_transduce.specs.PackedOutputs.{are_packed, packed}
use Rattle.word_transduce.specs.declared.block_lengths.BlockLength.{BlockLength}
use Rattle.word_transduce.proofs.PairLemmas.{at_pairs-at, same_pairs}

-- one list more
pub lists_more : (f : ℕ → List ℕ) (now new : List (Vec ℕ Global)) (k : ℕ) (x : Vec ℕ Global) → map (λ (row : Vec ℕ Global). row.items) now ≡ map f (range_with_len 0 k) → new ≡ now ++ x ∷ [] → x.items ≡ f k
    → map (λ (row : Vec ℕ Global). row.items) new ≡ map f (range_with_len 0 (k + 1))
lists_more f now new k x so_far pushed is =
    ap (map (λ (row : Vec ℕ Global). row.items)) pushed ∙ map-append (λ (row : Vec ℕ Global). row.items) now (x ∷ [])
    ∙ ap (λ (rows : List (List ℕ)). rows ++ x.items ∷ []) so_far
    ∙ ap (λ (row : List ℕ). map f (range_with_len 0 k) ++ row ∷ []) is
    ∙ sym (map-range_with_len_more f 0 k k (omega arith))

-- the transitions that lead as another function says
pub AreKeyTransitions-same : (letters : ℕ) (f g : ℕ → Option (List ℕ)) (transitions : List KeyTransition) → ((letter : ℕ) → letter < letters → f letter ≡ g letter) → AreKeyTransitions letters f transitions → AreKeyTransitions letters g transitions
AreKeyTransitions-same letters f g transitions same are = record { in_range = are.in_range; ascending = are.ascending; lead = λ letter small. are.lead letter small ∙ same letter small }

-- the ends of a number
pub ends_of-listed : (list : List (List ℕ)) (number : ℕ) (others : List ℕ) → number < length list → ends_of list number others ≡ key_at list number
ends_of-listed list number others listed = ap (λ b. cond b (key_at list number) others) (lt-ltb number (length list) listed)

pub ends_of-past : (list : List (List ℕ)) (number : ℕ) (others : List ℕ) → length list ≤ number → ends_of list number others ≡ others
ends_of-past list number others past = ap (λ b. cond b (key_at list number) others) (le-ltb number (length list) past)

-- what blocks of a listed length lead to
pub listed_length : (t : Transducer) (f : LetterFunctionValue) (list : List (List ℕ)) (lengths : List BlockLength) (number : ℕ) (l : BlockLength) → AreListedLengths t f list lengths → number < length list → l ≡ get_or lengths number l
    → IsBlockLength t f list (key_at list number) l
listed_length t f list lengths number l are listed is = subst (IsBlockLength t f list (key_at list number)) (sym is) (are.lengths_are number l listed)

-- what a map has is at the place where it has it
value_at_place : (values : List ℕ) (past states q number : ℕ) → length values ≤ past → slice_index values (place_at past states q number) ≡ map_at values states q number
value_at_place values past states q zero long = get_or_past values past 0 long
value_at_place values past states q (suc state) long = refl

module _ (t : Transducer) (f : LetterFunctionValue) (ends : List ℕ) where
  -- the places of runs that begin a block where others end
  pub places_are : (old new : List ℕ) (digit : ℕ) → old ≡ at_pairs t f (state_before t f ends digit)
      → new ≡ at_pairs t f (λ pair. place_at (pairs_of t f) t.states (next_of f.automaton (pair / t.states) digit) (slice_index old pair)) → new ≡ at_pairs t f (place_in t f ends digit)
  places_are old new digit before is =
      is ∙ same_pairs t f (λ pair. place_at (pairs_of t f) t.states (next_of f.automaton (pair / t.states) digit) (slice_index old pair)) (place_in t f ends digit)
      (λ pair within. ap (place_at (pairs_of t f) t.states (next_of f.automaton (pair / t.states) digit)) (ap (λ (xs : List ℕ). slice_index xs pair) before ∙ at_pairs-at t f (state_before t f ends digit) pair within))

  module _ (list : List (List ℕ)) (l : BlockLength) (is : IsBlockLength t f list ends l) (outputs : List ℕ) (long : length outputs ≡ pairs_of t f) where
    pub length-rows : length (rows_of l) ≡ letters_of f.automaton
    length-rows = ap length is.rows ∙ length-map-range_with_len (λ digit. at_pairs t f (place_in t f ends digit)) 0 (letters_of f.automaton)

    pub rows_fit : All (λ (row : List ℕ). length row ≡ length outputs) (rows_of l)
    rows_fit = subst (All (λ (row : List ℕ). length row ≡ length outputs)) (sym is.rows)
        (All-map (λ (row : List ℕ). length row ≡ length outputs) (λ digit. at_pairs t f (place_in t f ends digit)) (range_with_len 0 (letters_of f.automaton))
        (λ k d within. length-pairs t f (place_in t f ends (get_or (range_with_len 0 (letters_of f.automaton)) k d)) ∙ sym long))

    -- the key of a digit
    pub gathered_is : (digit : ℕ) → digit < letters_of f.automaton → gathered outputs l digit ≡ key_by t f list outputs ends digit
    gathered_is digit small =
        ap (λ (is_packed : Bool). packed is_packed (map (λ place. slice_index outputs place) (slice_index_or (rows_of l) digit [])) ++ l.ends.items) is.form
        ∙ ap (λ (row : List ℕ). packed (are_packed t) (map (λ place. slice_index outputs place) row) ++ l.ends.items) row
        ∙ ap (λ (found : List ℕ). packed (are_packed t) found ++ l.ends.items) (
        map-map (λ place. slice_index outputs place) (place_in t f ends digit) (range_with_len 0 (pairs_of t f))
        ∙ same_pairs t f (λ pair. slice_index outputs (place_in t f ends digit pair)) (output_in t f outputs ends digit)
        (λ pair within. value_at_place outputs (pairs_of t f) t.states (next_of f.automaton (pair / t.states) digit) (state_before t f ends digit pair) (omega (arith, long))))
        ∙ ap (λ (part : List ℕ). packed (are_packed t) (at_pairs t f (output_in t f outputs ends digit)) ++ part) is.ends_are
      where
        row : slice_index_or (rows_of l) digit [] ≡ at_pairs t f (place_in t f ends digit)
        row = ap (λ (rows : List (List ℕ)). slice_index_or rows digit []) is.rows ∙ get_or-map-range_with_len (λ d. at_pairs t f (place_in t f ends d)) 0 (letters_of f.automaton) digit digit [] small (omega arith)

    -- where the digits lead from a key with these maps
    pub keys_lead : (key : List ℕ) (letters : ℕ) (transitions : List KeyTransition) → outputs ≡ key_outputs t f key → ends ≡ key_ends t f list key → letters ≡ letters_of f.automaton
        → AreKeyTransitions letters (λ digit. Some (gathered outputs l digit)) transitions → AreKeyTransitions (letters_of f.automaton) (key_after t f list key) transitions
    keys_lead key letters transitions first second all are =
        AreKeyTransitions-same (letters_of f.automaton) (λ digit. Some (gathered outputs l digit)) (key_after t f list key) transitions
        (λ digit small. ap Some (gathered_is digit small)
        ∙ ap (λ (xs : List ℕ). Some (key_by t f list xs ends digit)) first
        ∙ ap (λ (xs : List ℕ). Some (key_by t f list (key_outputs t f key) xs digit)) second)
        (subst (λ n. AreKeyTransitions n (λ digit. Some (gathered outputs l digit)) transitions) all are)
