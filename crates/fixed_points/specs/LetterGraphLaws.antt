-- Digits lead from letters with rules to letters with rules.
use Rattle.std.specs.Prelude.{◌≡◌, ℕ, ◌<◌, ℤ, pos, List, MatchOption, ⊤}
use Rattle.std.proofs.Common.{length, refl, sym, ap, ◌∙◌, subst, arith}
use Rattle.std.specs.Prelude.{is_some}
use Rattle.std.proofs.lemmas.List.{get_or_default}
use Rattle.morph_words.specs.Rules.{Rules}
use Rattle.morph_words.specs.Images.{image}
use Rattle.morph_words.specs.Uniform.{HasRule}
use Rattle.fixed_points.specs.LetterGraph.{IsLetterGraph, IsLetterKey, key_after, key_of, letter_by, letter_of}
use Rattle.morph_words.specs.MorphismKinds.{HasFixedPoint}

pub zero_ruled : (rules : Rules) (k : ℕ) → HasFixedPoint rules k → HasRule rules (pos 0)
zero_ruled rules k has = ap is_some has.begins.1

pub digit_ruled : (rules : Rules) (k : ℕ) (letter : ℤ) (digit : ℕ) → HasFixedPoint rules k → HasRule rules letter → digit < k → HasRule rules (letter_by rules letter digit)
digit_ruled rules k letter digit has ruled small =
    let within : digit < length (image rules letter) = omega (arith, has.uniform letter ruled, small) in
    has.closed letter (letter_by rules letter digit) ruled (digit, within, get_or_default (image rules letter) digit (letter_by rules letter digit) (pos 0) within)

pub start_is_letter_key : (rules : Rules) (k : ℕ) → IsLetterGraph rules k → IsLetterKey rules (key_of (pos 0))
start_is_letter_key rules k graph = record { letter = pos 0; has_rule = zero_ruled rules k graph.has; key_is = refl }

pub after_is_letter_key : (rules : Rules) (k : ℕ) (key : List ℕ) (digit : ℕ) → IsLetterGraph rules k → IsLetterKey rules key → digit < k → MatchOption (key_after rules key digit) ⊤ (IsLetterKey rules)
after_is_letter_key rules k key digit graph is small = record {
  letter = letter_by rules (letter_of key) digit;
  has_rule = digit_ruled rules k (letter_of key) digit graph.has (subst (HasRule rules) letter_is is.has_rule) small;
  key_is = refl;
}
  where
    letter_is : is.letter ≡ letter_of key
    letter_is = sym (ap letter_of is.key_is ∙ graph.letter_back is.letter is.has_rule)
