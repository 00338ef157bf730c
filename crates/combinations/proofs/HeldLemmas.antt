-- The value of the first relation whose flag is set.
use Rattle.std.proofs.Common.{◌≡◌, ℕ, zero, suc, ◌<◌, ℤ, Bool, true, false, List, [], ◌∷◌, ◌++◌, length, map, get_or, Option, Some, refl, sym, ap, ◌∙◌, true≢false, arith, if◌then◌else◌}
use Rattle.digit_tuple.specs.Deterministic.{accepting_of}
use Rattle.product_op.specs.declared.reader.Reader.{Reader}
use Rattle.product_op.specs.Readings.{Reading, flag_at, flags_at, readings_in, state_at}
use Rattle.product_op.proofs.ReaderLemmas.{flag_at-is, length-readings, reading_at-reader}
use Rattle.combinations.specs.Parts.{PartValue}
use Rattle.combinations.specs.HeldLetters.{first_held}

if_true : (b : Bool) (x y : Option ℤ) → b ≡ true → (if b then x else y) ≡ x
if_true true x y is = refl
if_true false x y is = absurd (true≢false (sym is))

if_false : (b : Bool) (x y : Option ℤ) → b ≡ false → (if b then x else y) ≡ y
if_false true x y is = absurd (true≢false is)
if_false false x y is = refl

-- it is that of the first flag that is set
pub first_held-at : (rest : Option ℤ) (parts : List PartValue) (flags : List Bool) (place : ℕ) (default : PartValue) → place < length parts → ((k : ℕ) → k < place → flag_at flags k ≡ false) → flag_at flags place ≡ true
    → first_held rest parts flags ≡ Some (get_or parts place default).value
first_held-at rest [] flags place default inside none set = absurd (omega (arith, inside))
first_held-at rest (part ∷ parts) [] place default inside none set = absurd (true≢false (sym set))
first_held-at rest (part ∷ parts) (flag ∷ flags) zero default inside none set = if_true flag (Some part.value) (first_held rest parts flags) set
first_held-at rest (part ∷ parts) (flag ∷ flags) (suc place) default inside none set =
    if_false flag (Some part.value) (first_held rest parts flags) (none 0 (omega arith))
    ∙ first_held-at rest parts flags place default (omega (arith, inside)) (λ k less. none (suc k) (omega (arith, less))) set

-- and the rest where none is
pub first_held-none : (rest : Option ℤ) (parts : List PartValue) (flags : List Bool) → ((k : ℕ) → k < length parts → flag_at flags k ≡ false) → first_held rest parts flags ≡ rest
first_held-none rest [] flags none = refl
first_held-none rest (part ∷ parts) [] none = refl
first_held-none rest (part ∷ parts) (flag ∷ flags) none =
    if_false flag (Some part.value) (first_held rest parts flags) (none 0 (omega arith)) ∙ first_held-none rest parts flags (λ k less. none (suc k) (omega (arith, less)))

-- flags after those of the relations do not count
pub first_held-append : (rest : Option ℤ) (parts : List PartValue) (test : PartValue → Bool) (flags : List Bool) → first_held rest parts (map test parts ++ flags) ≡ first_held rest parts (map test parts)
first_held-append rest [] test flags = refl
first_held-append rest (part ∷ parts) test flags = ap (λ (letter : Option ℤ). if test part then Some part.value else letter) (first_held-append rest parts test flags)

-- the flag of one automaton of the code
pub flag_of_reader : (readers : List Reader) (key : List ℕ) (place : ℕ) (r : Reader) (answer : Bool) → place < length readers → r ≡ get_or readers place r → answer ≡ accepting_of r.dfa.now (state_at key place)
    → flag_at (flags_at (readings_in readers) key) place ≡ answer
flag_of_reader readers key place r answer within is says =
    flag_at-is (readings_in readers) key place (omega (arith, length-readings readers, within))
    ∙ ap (λ (x : Reading). accepting_of x.automaton (state_at key place)) (reading_at-reader readers place r within is)
    ∙ sym says
