-- What is open is seen with the innermost first, and is kept with the innermost last.
use Rattle.std.proofs.Common.{◌≡◌, refl, ap, ◌∙◌, List, [], ◌∷◌, ◌++◌, length, Option, Some}
use Rattle.std.specs.List.{fold}
use Rattle.std.specs.Option.{option_to_list}
use Rattle.std.proofs.lemmas.List.Sums.{fold-append}

module _ {X Y : Type 0} (view : X → Y) where
  abbrev pub innermost_first : List X → List Y
  innermost_first xs = fold (λ (ys : List Y) (x : X). view x ∷ ys) [] xs

  -- where a last item is taken off
  pub innermost_taken : (all rest : List X) (o : Option X) (x : X) → all ≡ rest ++ option_to_list o → o ≡ Some x → innermost_first all ≡ view x ∷ innermost_first rest
  innermost_taken all rest o x items is =
      ap innermost_first (items ∙ ap (λ p. rest ++ option_to_list p) is) ∙ fold-append (λ (ys : List Y) (x : X). view x ∷ ys) [] rest (x ∷ [])

  -- where there is none
  pub innermost_none : (all : List X) → length all ≡ 0 → innermost_first all ≡ []
  innermost_none [] none = refl
  innermost_none (x ∷ xs) none = absurd cc
