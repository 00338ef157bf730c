-- Keys numbered in the order in which they were first seen.
use Rattle.std.proofs.Common.{◌≡◌, ◌≢◌, ℕ, List, [], ◌∷◌, ◌++◌, length, inr, refl, sym, ◌∙◌}
use Rattle.std.specs.List.{Contains}
use Rattle.std.proofs.lemmas.List.Quantifiers.{all_pairs_push}
use Rattle.std.proofs.lemmas.List.{get_or_default, get_or_push}
use Rattle.digit_tuple.specs.Explored.{AreApart, IsNumbered}

-- a new key
pub IsNumbered-new : (keys : List (List ℕ)) (key : List ℕ) (n : ℕ) → AreApart keys → ¬ Contains keys key → n ≡ length keys → IsNumbered keys (keys ++ key ∷ []) key n
IsNumbered-new keys key n apart absent all = record {
  apart = all_pairs_push (λ k l. k ≢ l) keys key apart (λ k d within same. absent (k, within, get_or_default keys k key d within ∙ same));
  key_is = get_or_push keys key [] n (sym all);
  old_or_new = inr (all, refl);
}
