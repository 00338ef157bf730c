-- Sets of states as bits.
use Rattle.std.proofs.Common.{◌≡◌, ℕ, ◌+◌, ◌*◌, ◌/◌, ◌%◌, ◌<◌, ◌≤◌, Bool, true, filter, map, List, length, get_or, IsTrue, ◌↔◌, sym, ap, ◌∙◌, subst, arith}
use Rattle.std.specs.Int.{bit_at}
use Rattle.std.specs.List.{All, AllPairs, Contains, range_with_len}
use Rattle.std.specs.Option.{option_map}
use Rattle.std.proofs.lemmas.List.Edits.{get_or-between, length-between}
use Rattle.std.proofs.lemmas.List.Kept.{AllPairs-filter}
use Rattle.std.proofs.lemmas.List.Elements.{All-contains, All-filter, All-weaker}
use Rattle.std.proofs.lemmas.Nat.{div_below, row_fits, same_from_place}
use Rattle.digit_tuple.specs.declared.transitions.Transition.{Transition}
use Rattle.digit_tuple.specs.Automaton.{Branching, IsBranchTable, Leads, accepting_of, transitions_of, letters_of, states_of}
use Rattle.digit_tuple.specs.Groups.{some_set}
use Rattle.digit_tuple.specs.Keys.{KeyTransition, AreKeyTransitions, part_of, some_nonzero}
use Rattle.digit_tuple.proofs.MemberLemmas.{Contains-map, Contains-from_map, Contains-filter, Contains-from_filter, list_any-contains, contains_from_list_any}
use Rattle.digit_tuple.proofs.TableLemmas.{Leads-in_range}
use Rattle.determinise.specs.declared.bit_words.BitWord.{BitWord}
use Rattle.determinise.specs.declared.bit_rows.BitRows.{BitRows}
use Rattle.determinise.specs.Bits.{HasBit, HasMember, RowHas, AreGathered, AreUnited, members_in, row_at, rows_in}
use Rattle.determinise.specs.BitRows.{AreBitRows, word_of, words_of}
use Rattle.determinise.specs.BitSubsets.{IsStateBits, state_bits, states_in, bits_after, bits_accept}
use Rattle.determinise.specs.SubsetLaws.{All-range, AllPairs-range}
use Rattle.determinise.specs.Subsets.{IsStateSet, leads_to, targets_of, set_after}
use Rattle.determinise.proofs.BitLemmas.{HasBit-within}
use Rattle.determinise.proofs.BitSetLemmas.{IsBitAt, only_bit, length-bits_of, HasBit-bits_of, HasMember-bits_of, members_of-bits_of, members_of-iff, same_bits, some_nonzero-bits_of}
use Rattle.determinise.proofs.ReversalLemmas.{same_bool}
use Rattle.determinise.proofs.SubsetLemmas.{Contains-range, targets_of-iff}

pub wide_enough : (states : ℕ) → states ≤ 32 * words_of states
wide_enough states = omega arith

-- the bits of a row of transitions are those of their targets
pub RowHas-transitions : (width : ℕ) (transitions : List Transition) (place bit : ℕ)
    → RowHas (map (word_of width) transitions) place bit ↔ ((transition : Transition) × Contains transitions transition × (transition.letter * width + transition.target / 32 ≡ place) × (transition.target % 32 ≡ bit))
RowHas-transitions width transitions place bit = (forth, back)
  where
    forth : RowHas (map (word_of width) transitions) place bit → (transition : Transition) × Contains transitions transition × (transition.letter * width + transition.target / 32 ≡ place) × (transition.target % 32 ≡ bit)
    forth there =
        let from = Contains-from_map (word_of width) transitions there.0 there.1 in
        (from.0, from.1, ap (λ (w : BitWord). w.place) from.2 ∙ there.2, (only_bit (from.0.target % 32) bit).0 (ap (λ (w : BitWord). bit_at w.bits bit) from.2 ∙ there.3))

    back : (transition : Transition) × Contains transitions transition × (transition.letter * width + transition.target / 32 ≡ place) × (transition.target % 32 ≡ bit) → RowHas (map (word_of width) transitions) place bit
    back there = (word_of width there.0, Contains-map (word_of width) transitions there.0 there.1, there.2, (only_bit (there.0.target % 32) bit).1 there.3)

-- the bits of a letter's part
module _ (words : List ℕ) (letters width letter : ℕ) (room : length words ≡ letters * width) (small : letter < letters) where
  pub length-part_of : length (part_of words width letter) ≡ width
  length-part_of =
      let fits = row_fits letter width letters width small (omega arith) in
      length-between words (letter * width) (letter * width + width) (omega (arith, fits, room)) ∙ omega arith

  pub HasBit-part_of : (place bit : ℕ) → HasBit (part_of words width letter) place bit ↔ ((place < width) × HasBit words (letter * width + place) bit)
  HasBit-part_of place bit = (forth, back)
    where
      read : place < width → get_or (part_of words width letter) place 0 ≡ get_or words (letter * width + place) 0
      read within = get_or-between words (letter * width) (letter * width + width) place 0 (omega (arith, within))

      forth : HasBit (part_of words width letter) place bit → (place < width) × HasBit words (letter * width + place) bit
      forth is =
          let within : place < width = omega (arith, HasBit-within (part_of words width letter) place bit is, length-part_of) in
          (within, sym (ap (λ w. bit_at w bit) (read within)) ∙ is)

      back : (place < width) × HasBit words (letter * width + place) bit → HasBit (part_of words width letter) place bit
      back both = ap (λ w. bit_at w bit) (read both.0) ∙ both.1

module _ (n : Branching) (table : IsBranchTable (letters_of n) n.states) where
  pub small_set : (set : List ℕ) → All (λ q. q < states_of n) set → All (λ q. q < 32 * words_of (states_of n)) set
  small_set set inside = All-weaker (λ q. q < states_of n) (λ q. q < 32 * words_of (states_of n)) (λ q below. omega (arith, below, wide_enough (states_of n))) set inside

  -- the states whose bits are set are those of the set
  pub states_in-bits : (set : List ℕ) → IsStateSet n set → states_in n (state_bits n set) ≡ set
  states_in-bits set is = members_of-bits_of (words_of (states_of n)) set (small_set set is.in_range) (states_of n) is.in_range is.ascending

  targets_in_range : (set : List ℕ) (a : ℕ) → All (λ q. q < states_of n) (targets_of n set a)
  targets_in_range set a = All-filter _ (λ q. q < states_of n) (range_with_len 0 (states_of n)) (All-range (states_of n))

  -- the members of a set as bits are those of the set
  AreGathered-united : (rows : List (List BitWord)) (set : List ℕ) → IsStateSet n set → (words : List ℕ) → AreUnited rows (state_bits n set) words → AreGathered rows set words
  AreGathered-united rows set is words united place bit =
      let inside = small_set set is.in_range in (
        (λ has. let there = (united place bit).0 has in (there.0, (HasMember-bits_of (words_of (states_of n)) set inside there.0).0 there.1, there.2)),
        (λ there. (united place bit).1 (there.0, (HasMember-bits_of (words_of (states_of n)) set inside there.0).1 there.1, there.2)),
      )

  module _ (rows : List (List BitWord)) (are : (q : ℕ) → q < states_of n → row_at rows q ≡ map (word_of (words_of (states_of n))) (transitions_of n q))
      (set : List ℕ) (is : IsStateSet n set) (words : List ℕ) (room : length words ≡ letters_of n * words_of (states_of n)) (gathered : AreGathered rows set words) where
    -- the part of a letter has the bits of the states that it leads to
    pub part_of-targets : (a : ℕ) → a < letters_of n → part_of words (words_of (states_of n)) a ≡ state_bits n (targets_of n set a)
    part_of-targets a small = same_bits (part_of words (words_of (states_of n)) a) (state_bits n (targets_of n set a))
        (length-part_of words (letters_of n) (words_of (states_of n)) a room small ∙ sym (length-bits_of (words_of (states_of n)) (targets_of n set a)))
        (λ place bit. ((λ has. forth place bit ((HasBit-part_of words (letters_of n) (words_of (states_of n)) a room small place bit).0 has)), (λ has. back place bit ((HasBit-bits_of (words_of (states_of n)) (targets_of n set a) (small_set (targets_of n set a) (targets_in_range set a)) place bit).0 has))))
      where
        forth : (place bit : ℕ) → (place < words_of (states_of n)) × HasBit words (a * words_of (states_of n) + place) bit → HasBit (state_bits n (targets_of n set a)) place bit
        forth place bit both =
            let w = words_of (states_of n) in
            let there = (gathered (a * w + place) bit).0 both.1 in
            let member : Contains set there.0 = there.1 in
            let within : there.0 < states_of n = All-contains (λ q. q < states_of n) set there.0 is.in_range member in
            let transition = (RowHas-transitions w (transitions_of n there.0) (a * w + place) bit).0 (subst (λ row. RowHas row (a * w + place) bit) (are there.0 within) there.2) in
            let target = Leads-in_range n there.0 transition.0.letter transition.0.target table transition.1 in
            let column : transition.0.target / 32 < w = div_below transition.0.target 32 w (omega arith) (omega (arith, target.1, wide_enough (states_of n))) in
            let same = same_from_place transition.0.letter (transition.0.target / 32) a place w column both.0 transition.2 in
            (HasBit-bits_of w (targets_of n set a) (small_set (targets_of n set a) (targets_in_range set a)) place bit).1
            (transition.0.target, (targets_of-iff n table set a transition.0.target).1 (there.0, member, subst (λ l. Leads n there.0 l transition.0.target) same.0 transition.1), (same.1, transition.3))

        back : (place bit : ℕ) → (x : ℕ) × Contains (targets_of n set a) x × IsBitAt x place bit → HasBit (part_of words (words_of (states_of n)) a) place bit
        back place bit there =
            let w = words_of (states_of n) in
            let from = (targets_of-iff n table set a there.0).0 there.1 in
            let within : from.0 < states_of n = All-contains (λ q. q < states_of n) set from.0 is.in_range from.1 in
            let target = Leads-in_range n from.0 a there.0 table from.2 in
            let column : there.0 / 32 < w = div_below there.0 32 w (omega arith) (omega (arith, target.1, wide_enough (states_of n))) in
            let transition : Transition = record { letter = a; target = there.0 } in
            let row = (RowHas-transitions w (transitions_of n from.0) (a * w + place) bit).1 (transition, from.2, ap (λ p. a * w + p) there.2.0, there.2.1) in
            (HasBit-part_of words (letters_of n) w a room small place bit).1
            (subst (λ p. p < w) there.2.0 column, (gathered (a * w + place) bit).1 (from.0, from.1, subst (λ row. RowHas row (a * w + place) bit) (sym (are from.0 within)) row))

    -- the parts of the letters are the transitions from the set
    pub AreKeyTransitions-parts : (transitions : List KeyTransition) → AreKeyTransitions (letters_of n) (λ letter. some_nonzero (part_of words (words_of (states_of n)) letter)) transitions → AreKeyTransitions (letters_of n) (bits_after n (state_bits n set)) transitions
    AreKeyTransitions-parts transitions parts = record {
      in_range = parts.in_range;
      ascending = parts.ascending;
      lead = λ a small. parts.lead a small ∙ ap some_nonzero (part_of-targets a small)
          ∙ some_nonzero-bits_of (words_of (states_of n)) (targets_of n set a) (small_set (targets_of n set a) (targets_in_range set a))
          ∙ ap (λ s. option_map (state_bits n) (set_after n s a)) (sym (states_in-bits set is));
    }

    -- their members are the transitions from the set as lists
    pub AreKeyTransitions-lists : (transitions : List KeyTransition) → AreKeyTransitions (letters_of n) (λ letter. some_set (members_in (part_of words (words_of (states_of n)) letter))) transitions → AreKeyTransitions (letters_of n) (set_after n set) transitions
    AreKeyTransitions-lists transitions parts = record {
      in_range = parts.in_range;
      ascending = parts.ascending;
      lead = λ a small. parts.lead a small ∙ ap (λ ws. some_set (members_in ws)) (part_of-targets a small) ∙ ap some_set (listed (targets_of n set a) (targets_in_range set a) (AllPairs-filter (λ p q. p < q) (leads_to n set a) (range_with_len 0 (states_of n)) (AllPairs-range (states_of n))));
    }
      where
        listed : (targets : List ℕ) → All (λ q. q < states_of n) targets → AllPairs (λ p q. p < q) targets → members_in (state_bits n targets) ≡ targets
        listed targets inside ascending =
            members_of-bits_of (words_of (states_of n)) targets (small_set targets inside) (32 * length (state_bits n targets))
            (subst (λ w. All (λ q. q < 32 * w) targets) (sym (length-bits_of (words_of (states_of n)) targets)) (small_set targets inside)) ascending

  -- a set accepts where it has an accepting state's bit
  pub bits_accept-meet : (key : List ℕ) (met : Bool)
      → IsTrue met ↔ ((place : ℕ) × (bit : ℕ) × HasBit key place bit × HasBit (state_bits n (filter (accepting_of n) (range_with_len 0 (states_of n)))) place bit) → met ≡ bits_accept n key
  bits_accept-meet key met iff = same_bool met (bits_accept n key) (λ is. forth (iff.0 is)) (λ is. iff.1 (back is))
    where
      small : All (λ q. q < 32 * words_of (states_of n)) (filter (accepting_of n) (range_with_len 0 (states_of n)))
      small = small_set (filter (accepting_of n) (range_with_len 0 (states_of n))) (All-filter (accepting_of n) (λ q. q < states_of n) (range_with_len 0 (states_of n)) (All-range (states_of n)))

      forth : (place : ℕ) × (bit : ℕ) × HasBit key place bit × HasBit (state_bits n (filter (accepting_of n) (range_with_len 0 (states_of n)))) place bit → bits_accept n key ≡ true
      forth there =
          let one = (HasBit-bits_of (words_of (states_of n)) (filter (accepting_of n) (range_with_len 0 (states_of n))) small there.0 there.1).0 there.3 in
          let both = Contains-from_filter (accepting_of n) (range_with_len 0 (states_of n)) one.0 one.1 in
          let within : one.0 < states_of n = All-contains (λ q. q < states_of n) (range_with_len 0 (states_of n)) one.0 (All-range (states_of n)) both.0 in
          let has : HasMember key one.0 = subst (λ b. HasBit key (one.0 / 32) b) (sym one.2.1) (subst (λ p. HasBit key p there.1) (sym one.2.0) there.2) in
          list_any-contains (accepting_of n) (states_in n key) one.0 ((members_of-iff (states_of n) key one.0).1 (within, has)) both.1

      back : bits_accept n key ≡ true → (place : ℕ) × (bit : ℕ) × HasBit key place bit × HasBit (state_bits n (filter (accepting_of n) (range_with_len 0 (states_of n)))) place bit
      back is =
          let found = contains_from_list_any (accepting_of n) (states_in n key) is in
          let both = (members_of-iff (states_of n) key found.0).0 found.1 in (
            found.0 / 32,
            found.0 % 32,
            both.1,
            (HasMember-bits_of (words_of (states_of n)) (filter (accepting_of n) (range_with_len 0 (states_of n))) small found.0).1
                (Contains-filter (accepting_of n) (range_with_len 0 (states_of n)) found.0 (Contains-range (states_of n) found.0 both.0) found.2),
          )

pub few_words : (states : ℕ) → states ≤ 512 → words_of states ≤ 16
few_words states few = omega arith

-- what the rows write for a set are the transitions from it
pub AreKeyTransitions-rows : (n : Branching) (table : IsBranchTable (letters_of n) n.states) (r : BitRows) → AreBitRows n r → (key : List ℕ) → IsStateBits n key
    → (rows : List (List BitWord)) → rows ≡ rows_in r.rows.items → (words : List ℕ) → length words ≡ r.letters * r.width → AreUnited rows key words
    → (transitions : List KeyTransition) → AreKeyTransitions r.letters (λ letter. some_nonzero (part_of words r.width letter)) transitions → AreKeyTransitions (letters_of n) (bits_after n key) transitions
AreKeyTransitions-rows n table r are key is rows same words size united transitions parts =
    subst (λ k. AreKeyTransitions (letters_of n) (bits_after n k) transitions) (sym is.bits)
    (AreKeyTransitions-parts n table rows (λ q within. ap (λ rs. row_at rs q) same ∙ are.rows q within) is.set is.is_set words
    (size ∙ ap (λ l. l * r.width) are.letters ∙ ap (λ w. letters_of n * w) are.width)
    (AreGathered-united n table rows is.set is.is_set words (subst (λ k. AreUnited rows k words) is.bits united)) transitions
    (subst (λ w. AreKeyTransitions (letters_of n) (λ letter. some_nonzero (part_of words w letter)) transitions) are.width
    (subst (λ l. AreKeyTransitions l (λ letter. some_nonzero (part_of words r.width letter)) transitions) are.letters parts)))

-- what the rows write for a list are the transitions from it
pub AreKeyTransitions-row_lists : (n : Branching) (r : BitRows) → AreBitRows n r → (set : List ℕ) → IsStateSet n set
    → (rows : List (List BitWord)) → rows ≡ rows_in r.rows.items → (words items : List ℕ) → words ≡ items → length items ≡ r.letters * r.width → AreGathered rows set items
    → (transitions : List KeyTransition) → AreKeyTransitions r.letters (λ letter. some_set (members_in (part_of words r.width letter))) transitions → AreKeyTransitions (letters_of n) (set_after n set) transitions
AreKeyTransitions-row_lists n r are set is rows same words items read size gathered transitions lists =
    AreKeyTransitions-lists n are.table rows (λ q within. ap (λ rs. row_at rs q) same ∙ are.rows q within) set is words
    (ap length read ∙ size ∙ ap (λ l. l * r.width) are.letters ∙ ap (λ w. letters_of n * w) are.width)
    (subst (λ ws. AreGathered rows set ws) (sym read) gathered) transitions
    (subst (λ w. AreKeyTransitions (letters_of n) (λ letter. some_set (members_in (part_of words w letter))) transitions) are.width
    (subst (λ l. AreKeyTransitions l (λ letter. some_set (members_in (part_of words r.width letter))) transitions) are.letters lists))
