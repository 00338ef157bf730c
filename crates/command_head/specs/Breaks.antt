-- Where a text first breaks a grammar of heads, by its parts.
use Rattle.std.specs.Prelude.{◌≡◌, ◌≢◌, ℕ, ◌+◌, ◌<◌, ◌^◌, true, false, List, [], ◌∷◌, ◌++◌, length, take, drop, map, slice_index_or, ◌↔◌, Result, Ok, Err, ⊤}
use Rattle.text_grammar.specs.Faults.{Begins, BreaksAt}
use Rattle.command_head.specs.declared.fault.HeadFault.{HeadFault}
use Rattle.command_head.specs.declared.fault.HeadFault.TheVariants.{Syntax, Number, Memory}
use Rattle.text_grammar.specs.Numbers.{begins_with, is_number, is_short, number_of}
use Rattle.command_head.specs.Parts.{Part, parts_of, texts_of, number_place}
use Rattle.command_head.specs.Heads.{reg_at}
use Rattle.command_head.specs.Grammar.{DerivesReg}

-- the byte at which a part of a text begins, the parts counted from 0; after the last it is the text's length
abbrev pub place_of : List ℕ → ℕ → ℕ
place_of text count = slice_index_or (map (λ (p : Part). p.at) (parts_of text)) count (length text)

-- the part that is at a place in a list of parts
abbrev pub part_at : List (List ℕ) → ℕ → List ℕ
part_at parts count = slice_index_or parts count []

-- This part is a number, or ends with one after a name and `=`, and the number does not fit 32 bits, signed; with another number of the
-- same sign in its place the part goes on after those before it.
pub record ExceedsAt {H : Type 0} (grammar : List (List ℕ) → H → Type 0) (parts : List (List ℕ)) (count : ℕ) : Type 0 where
  pub within : count < length parts
  pub number : is_number (drop (number_place (part_at parts count)) (part_at parts count)) ≡ true
  pub long : is_short (2 ^ 31) (number_of (drop (number_place (part_at parts count)) (part_at parts count))) ≡ false
  pub other : List ℕ
  pub other_number : is_number other ≡ true
  pub sign : begins_with 45 other ≡ begins_with 45 (drop (number_place (part_at parts count)) (part_at parts count))
  pub allowed : Begins grammar (take count parts ++ (take (number_place (part_at parts count)) (part_at parts count) ++ other) ∷ [])

-- The first part with which no head of the grammar goes on begins at this byte. Where all parts of the text begin a head and are
-- none, the byte is the text's length.
pub record BreaksIn {H : Type 0} (grammar : List (List ℕ) → H → Type 0) (text : List ℕ) (at : ℕ) : Type 0 where
  pub count : ℕ
  pub breaks : BreaksAt grammar (texts_of (parts_of text)) count
  pub place : place_of text count ≡ at

-- The text breaks the grammar at this byte, and not by a number that does not fit.
pub record IsSyntaxAt {H : Type 0} (grammar : List (List ℕ) → H → Type 0) (text : List ℕ) (at : ℕ) : Type 0 where
  pub first : BreaksIn grammar text at
  pub form : ExceedsAt grammar (texts_of (parts_of text)) first.count → ⊥

-- The text breaks the grammar at a part whose number does not fit, and the number begins at this byte.
pub record IsNumberAt {H : Type 0} (grammar : List (List ℕ) → H → Type 0) (text : List ℕ) (at : ℕ) : Type 0 where
  pub begin : ℕ
  pub first : BreaksIn grammar text begin
  pub exceeds : ExceedsAt grammar (texts_of (parts_of text)) first.count
  pub place : begin + number_place (part_at (texts_of (parts_of text)) first.count) ≡ at

-- what a text has by a grammar of heads: a head, seen by view, that derives its parts, or where they first break the grammar
abbrev pub HasHead : {X H : Type 0} → (List (List ℕ) → H → Type 0) → (X → H) → List ℕ → Result X HeadFault → Type 0
HasHead grammar view text (Ok head) = grammar (texts_of (parts_of text)) (view head)
HasHead grammar view text (Err (Syntax at)) = IsSyntaxAt grammar text at
HasHead grammar view text (Err (Number at)) = IsNumberAt grammar text at
HasHead grammar view text (Err Memory) = ⊤

-- a text has one head or one fault by a grammar, apart from out of memory
abbrev pub HasOneHead : {H : Type 0} → (List (List ℕ) → H → Type 0) → Type 0
HasOneHead {H} grammar = (text : List ℕ) (result other : Result H HeadFault) → HasHead grammar (λ head. head) text result → HasHead grammar (λ head. head) text other
    → result ≢ Err Memory → other ≢ Err Memory → result ≡ other

-- the fault that is read of a text shorter than 2 ^ 32 bytes is where its parts first break the grammar, and no other
abbrev pub BreaksGrammar : Type 0
BreaksGrammar = (text : List ℕ) (at : ℕ) → length text < 2 ^ 32 → ((reg_at text ≡ Err (Syntax at)) ↔ IsSyntaxAt DerivesReg text at) × ((reg_at text ≡ Err (Number at)) ↔ IsNumberAt DerivesReg text at)
