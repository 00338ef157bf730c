-- Sets of numbers as bits.
use Rattle.std.specs.Prelude.{◌≡◌, ◌==◌, ℕ, ◌+◌, ◌*◌, ◌/◌, ◌%◌, ◌^◌, ◌<◌, ◌↔◌, ◌⊎◌, List, [], ◌∷◌, map, replicate, filter, slice_index, slice_index_or, slice_set, length, Vec, bit_or}
use Rattle.std.specs.Int.{bit_at}
use Rattle.std.specs.declared.alloc.Global.{Global}
use Rattle.std.specs.List.{AllPairs, Contains, range_with_len}
use Rattle.determinise.specs.declared.bit_words.BitWord.{BitWord}

-- the word at the place has the bit
abbrev pub HasBit : List ℕ → ℕ → ℕ → Type 0
HasBit words place bit = bit_at (slice_index words place) bit ≡ 1

-- the words have the bit of the number
abbrev pub HasMember : List ℕ → ℕ → Type 0
HasMember words number = HasBit words (number / 32) (number % 32)

-- some word of the row is at the place and has the bit
abbrev pub RowHas : List BitWord → ℕ → ℕ → Type 0
RowHas row place bit = (word : BitWord) × Contains row word × (word.place ≡ place) × (bit_at word.bits bit ≡ 1)

-- the new words are the old ones with the bits of the row set
abbrev pub AreSet : List ℕ → List BitWord → List ℕ → Type 0
AreSet old row new = (place bit : ℕ) → HasBit new place bit ↔ (HasBit old place bit ⊎ RowHas row place bit)

-- the rows
abbrev pub rows_in : List (Vec BitWord Global) → List (List BitWord)
rows_in rows = map (λ row. row.items) rows

abbrev pub row_at : List (List BitWord) → ℕ → List BitWord
row_at rows number = slice_index_or rows number []

-- the new words are the old ones with the bits set of the rows whose numbers, from the first one on, are the bits of the members
abbrev pub AreRowsSet : List ℕ → List (List BitWord) → ℕ → ℕ → List ℕ → Type 0
AreRowsSet old rows first members new = (place bit : ℕ)
    → HasBit new place bit ↔ (HasBit old place bit ⊎ ((k : ℕ) × (bit_at members k ≡ 1) × RowHas (row_at rows (first + k)) place bit))

-- the words have the bits of the rows of the set's members, and no others
abbrev pub AreUnited : List (List BitWord) → List ℕ → List ℕ → Type 0
AreUnited rows set words = (place bit : ℕ) → HasBit words place bit ↔ ((q : ℕ) × HasMember set q × RowHas (row_at rows q) place bit)

-- the words have the bits of the rows of the list's members, and no others
abbrev pub AreGathered : List (List BitWord) → List ℕ → List ℕ → Type 0
AreGathered rows set words = (place bit : ℕ) → HasBit words place bit ↔ ((q : ℕ) × Contains set q × RowHas (row_at rows q) place bit)

-- the words with the bit of the number set: bit number mod 32 of word number / 32
abbrev pub with_bit : List ℕ → ℕ → List ℕ
with_bit words number = slice_set words (number / 32) (bit_or (slice_index words (number / 32)) (2 ^ (number % 32)))

-- with the bits of the numbers set
abbrev pub with_bits : List ℕ → List ℕ → List ℕ
with_bits words [] = words
with_bits words (number ∷ numbers) = with_bits (with_bit words number) numbers

-- so many words, whose bits say which numbers are in the list
abbrev pub bits_of : ℕ → List ℕ → List ℕ
bits_of width numbers = with_bits (replicate width 0) numbers

-- the numbers below n whose bits are set
abbrev pub members_of : ℕ → List ℕ → List ℕ
members_of n words = filter (λ number. bit_at (slice_index words (number / 32)) (number % 32) == 1) (range_with_len 0 n)

-- the numbers whose bits are set, in order
abbrev pub members_in : List ℕ → List ℕ
members_in words = members_of (32 * length words) words

-- the new list has beside the old numbers those, from the first one on, whose bits the word has, and is in order
pub record AddsMembers (old : List ℕ) (first word : ℕ) (new : List ℕ) : Type 0 where
  pub members : (q : ℕ) → Contains new q ↔ (Contains old q ⊎ ((k : ℕ) × (bit_at word k ≡ 1) × (first + k ≡ q)))
  pub ascending : AllPairs (λ p q. p < q) new
