-- The automata of the code, and what they say.
use Rattle.std.proofs.Common.{◌≡◌, ℕ, ◌+◌, ◌<◌, ◌≤◌, Bool, true, false, ◌&&◌, List, length, drop, get_or, set, sym, ap, ◌∙◌, arith, below_more, get_or-set_same, get_or-set_other}
use Rattle.std.proofs.lemmas.List.{get_or-map, length-map, at_drop_more, at_drop_all}
use Rattle.std.proofs.lemmas.List.FromFn.{fill_by_all, length-map-range_with_len, get_or-map-range_with_len}
use Rattle.digit_tuple.specs.Deterministic.{accepting_of}
use Rattle.residual_classes.specs.Classes.{next_of}
use Rattle.product_op.specs.declared.reader.Reader.{Reader}
use Rattle.product_op.specs.Readings.{Reading, no_reading, reading_in, readings_in, reading_at, part_read, state_at, next_key, flags_at, flag_at, all_true}

pub reading_at-reader : (readers : List Reader) (i : ℕ) (r : Reader) → i < length readers → r ≡ get_or readers i r → reading_at (readings_in readers) i ≡ reading_in r
reading_at-reader readers i r within is = get_or-map reading_in readers i r no_reading within ∙ ap reading_in (sym is)

pub length-readings : (readers : List Reader) → length (readings_in readers) ≡ length readers
length-readings readers = length-map readers reading_in

-- where the letter leads from the states of the first so many
abbrev pub LeadTo : List Reading → List ℕ → ℕ → List ℕ → ℕ → Type 0
LeadTo rs key letter next count = (i : ℕ) → i < count → state_at next i ≡ next_of (reading_at rs i).automaton (state_at key i) (part_read (reading_at rs i) letter)

pub LeadTo-more : (rs : List Reading) (key : List ℕ) (letter : ℕ) (next : List ℕ) (place v : ℕ) → place < length next → v ≡ next_of (reading_at rs place).automaton (state_at key place) (part_read (reading_at rs place) letter)
    → LeadTo rs key letter next place → LeadTo rs key letter (set next place v) (place + 1)
LeadTo-more rs key letter next place v within leads before =
    below_more (λ i. state_at (set next place v) i ≡ next_of (reading_at rs i).automaton (state_at key i) (part_read (reading_at rs i) letter)) place
    (λ i less. get_or-set_other next place i v 0 (λ same. omega (arith, less, same)) ∙ before i less)
    (get_or-set_same next place v 0 within ∙ leads)

-- those of all
pub LeadTo-all : (rs : List Reading) (key : List ℕ) (letter : ℕ) (next : List ℕ) (place : ℕ) → length next ≡ length rs → length rs ≤ place → LeadTo rs key letter next place → next ≡ next_key rs key letter
LeadTo-all rs key letter next place room all leads =
    fill_by_all (λ i. next_of (reading_at rs i).automaton (state_at key i) (part_read (reading_at rs i) letter)) next (length rs) 0 room (λ k less. leads k (omega (arith, less, all)))

module _ (rs : List Reading) (key : List ℕ) where
  -- whether one accepts
  pub flag_at-is : (i : ℕ) → i < length rs → flag_at (flags_at rs key) i ≡ accepting_of (reading_at rs i).automaton (state_at key i)
  flag_at-is i within = get_or-map-range_with_len (λ j. accepting_of (reading_at rs j).automaton (state_at key j)) 0 (length rs) i i false within (omega arith)

  length-flags : length (flags_at rs key) ≡ length rs
  length-flags = length-map-range_with_len (λ j. accepting_of (reading_at rs j).automaton (state_at key j)) 0 (length rs)

  -- all of them from one on
  pub all_true_more : (i : ℕ) → i < length rs → all_true (drop i (flags_at rs key)) ≡ (accepting_of (reading_at rs i).automaton (state_at key i) && all_true (drop (i + 1) (flags_at rs key)))
  all_true_more i within =
      at_drop_more all_true (flags_at rs key) i false (omega (arith, length-flags, within))
      ∙ ap (λ b. b && all_true (drop (i + 1) (flags_at rs key))) (flag_at-is i within)

  pub all_true_none : (i : ℕ) → length rs ≤ i → all_true (drop i (flags_at rs key)) ≡ true
  all_true_none i past = at_drop_all all_true (flags_at rs key) i (omega (arith, length-flags, past))

-- one more of the automata in the code
pub all_true_step : (readers : List Reader) (key : List ℕ) (place : ℕ) (r : Reader) (answer : Bool) → place < length readers → r ≡ get_or readers place r → answer ≡ accepting_of r.dfa.now (state_at key place)
    → all_true (drop place (flags_at (readings_in readers) key)) ≡ (answer && all_true (drop (place + 1) (flags_at (readings_in readers) key)))
all_true_step readers key place r answer within is says =
    all_true_more (readings_in readers) key place (omega (arith, length-readings readers, within))
    ∙ ap (λ (x : Reading). accepting_of x.automaton (state_at key place) && all_true (drop (place + 1) (flags_at (readings_in readers) key))) (reading_at-reader readers place r within is)
    ∙ ap (λ b. b && all_true (drop (place + 1) (flags_at (readings_in readers) key))) (sym says)
