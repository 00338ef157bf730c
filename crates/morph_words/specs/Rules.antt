-- Rules: letters with their images. By ascending letter, they are a finite map.
use Rattle.std.specs.Prelude.{◌≡◌, ◌<◌, ◌^◌, Bool, true, List, length, ℤ, Option, is_some}
use Rattle.std.specs.List.{AllByRecursion}
use Rattle.std.specs.List.Sorted.{IsStrictlySortedBy}
use Rattle.std.specs.Ordering.{int_cmp}
use Rattle.std.specs.Map.{keys_of, lookup}
use Rattle.std.specs.BTreeMap.{insert_entry, is_at}
use Rattle.text_grammar.specs.Numbers.{is_short}

-- letters, each with its image
abbrev pub Rules : Type 0
Rules = List (ℤ × List ℤ)

-- the image of a letter by the first rule for it, if there is one
abbrev pub image_of : Rules → ℤ → Option (List ℤ)
image_of rules letter = lookup (is_at (int_cmp letter)) rules

-- whether there is a rule for a letter
abbrev pub has : Rules → ℤ → Bool
has rules letter = is_some (image_of rules letter)

-- rules by ascending letter, and one for a further letter at its place
abbrev pub put : Rules → ℤ → List ℤ → Rules
put rules letter image = insert_entry int_cmp rules letter image

-- a rule: letters have 32 bits, signed, and the image is not empty
pub record IsRule (rule : ℤ × List ℤ) : Type 0 where
  pub letter : is_short (2 ^ 31) rule.0 ≡ true
  pub some : 0 < length rule.1
  pub image : AllByRecursion (λ letter. is_short (2 ^ 31) letter ≡ true) rule.1

-- the rules of a morphism: one at least, by ascending letter
pub record IsMorphism (rules : Rules) : Type 0 where
  pub some : 0 < length rules
  pub ascending : IsStrictlySortedBy int_cmp (keys_of rules)
  pub each : AllByRecursion IsRule rules
