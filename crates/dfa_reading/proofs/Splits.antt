-- How lines are divided into parts.
use Rattle.std.proofs.Common.{◌≡◌, ℕ, ◌<◌, Bool, true, false, cond, List, [], ◌∷◌, ◌++◌, length, refl, ap, ◌∙◌, arith}
use Rattle.std.specs.List.{slice_split, onto_first, filter}
use Rattle.std.proofs.lemmas.List.Elements.{filter-append}
use Rattle.std.proofs.lemmas.List.Splits.{length-slice_split}
use Rattle.text_grammar.specs.Bytes.{is_blank}
use Rattle.dfa_reading.specs.Lines.{has_bytes, parts_of}

-- how a list is split where an element passes
pub split_some : (p : ℕ → Bool) (xs : List ℕ) → 0 < length (slice_split p xs)
split_some p xs = omega (arith, length-slice_split p xs)

onto_first-append : (x : ℕ) (parts more : List (List ℕ)) → 0 < length parts → onto_first x (parts ++ more) ≡ onto_first x parts ++ more
onto_first-append x [] more h = absurd (omega arith)
onto_first-append x (part ∷ parts) more h = refl

pub split-append : (p : ℕ → Bool) (xs : List ℕ) (c : ℕ) (ys : List ℕ) → p c ≡ true → slice_split p (xs ++ c ∷ ys) ≡ slice_split p xs ++ slice_split p ys
split-append p [] c ys h = rw h refl
split-append p (x ∷ xs) c ys h =
    elim (p x) as (λ b. cond b ([] ∷ slice_split p (xs ++ c ∷ ys)) (onto_first x (slice_split p (xs ++ c ∷ ys))) ≡ cond b ([] ∷ slice_split p xs) (onto_first x (slice_split p xs)) ++ slice_split p ys) [
      | true ↦ ap (λ t. [] ∷ t) (split-append p xs c ys h)
      | false ↦ ap (onto_first x) (split-append p xs c ys h) ∙ onto_first-append x (slice_split p xs) (slice_split p ys) (split_some p xs)
    ]

-- the parts of two texts with a blank between them
pub parts_of-append : (xs : List ℕ) (c : ℕ) (ys : List ℕ) → is_blank c ≡ true → parts_of (xs ++ c ∷ ys) ≡ parts_of xs ++ parts_of ys
parts_of-append xs c ys h = ap (filter has_bytes) (split-append is_blank xs c ys h) ∙ filter-append has_bytes (slice_split is_blank xs) (slice_split is_blank ys)
