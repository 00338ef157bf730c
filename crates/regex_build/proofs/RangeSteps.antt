-- The letters that may be at the occurrences of an expression.
use Rattle.std.proofs.Common.{◌≡◌, ℕ, zero, suc, ◌+◌, ◌<◌, ◌≤◌, ◌↔◌, ℤ, List, [], ◌∷◌, ◌++◌, length, refl, sym, ap, ◌∙◌, subst, arith, get_or, take, append_assoc, append-nil, Option, None, Some}
use Rattle.std.specs.Prelude.{All, slice_get, IsSomeAnd}
use Rattle.std.specs.List.{AllZip, flat_map}
use Rattle.std.proofs.lemmas.List.{take_more, take_all}
use Rattle.std.proofs.lemmas.List.Elements.{All-weaker}
use Rattle.digit_tuple.specs.Letters.{product}
use Rattle.digit_tuple.specs.Sets.{IsAscending, IsLetterSet, sizes_of}
use Rattle.digit_tuple.specs.Tuples.{IsLetterOf}
use Rattle.digit_tuple.proofs.TupleLemmas.{one_letter, tuple_from_letter, letter_below}
use Rattle.regex_build.specs.declared.codes.LetterRange.{LetterRange}
use Rattle.regex_build.specs.declared.postfix_symbol.PostfixSymbol.{PostfixSymbol}
use Rattle.regex_build.specs.declared.postfix_symbol.PostfixSymbol.TheVariants.{Empty, Letter, Any, Either, Follow, Star, Plus, Optional}
use Rattle.regex_build.specs.Expression.{Expression, occurrences_in}
use Rattle.regex_build.specs.Postfix.{after_symbol, stacked, tree_of, IsPostfix}
use Rattle.regex_build.specs.Positions.{IsOf, IsWritten}
use Rattle.regex_build.specs.Codes.{IsInRange, IsRangeOf, occurrence_in, occurrences_of}
use Rattle.regex_build.specs.Rows.{IsLetterAt}
use Rattle.regex_build.proofs.ListSteps.{zip-append}

-- a letter is alone in its range
pub range_of_letter : (sets : List (List ℤ)) (x : List ℤ) (number : ℕ) → All IsLetterSet sets → IsLetterOf sets x number → IsRangeOf sets (Some x) (record { first = number; end = number + 1 })
range_of_letter sets x number are is a =
    let up : All IsAscending sets = All-weaker IsLetterSet IsAscending (λ s h. h.ascending) sets are in
    let P : ℕ → Type 0 = λ b. IsLetterOf sets x b in (
      λ h. let low : number ≤ a = h.0 in let high : a < number + 1 = h.1 in let same : number ≡ a = omega arith in subst P same is,
      λ h. let same : a ≡ number = one_letter sets x a number up h is in (omega arith, omega arith),
    )

-- the range of all letters of the alphabet
pub range_of_any : (sets : List (List ℤ)) (letters : ℕ) → letters ≡ product (sizes_of sets) → IsRangeOf sets None (record { first = 0; end = letters })
range_of_any sets letters e a = (
  λ h. let high : a < letters = h.1 in tuple_from_letter sets a (omega arith),
  λ h. let below : a < product (sizes_of sets) = letter_below sets h.0 a h.1 in (omega arith, omega arith),
)

-- the other symbols are no occurrences
pub no_occurrence : (R : Option (List ℤ) → LetterRange → Type 0) (symbol : PostfixSymbol) → ((x : List ℤ) → symbol ≡ Letter x → ⊥) → (symbol ≡ Any → ⊥) → AllZip R (occurrence_in symbol) []
no_occurrence R Empty f g = tt
no_occurrence R (Letter x) f g = absurd (f x refl)
no_occurrence R Any f g = absurd (g refl)
no_occurrence R Either f g = tt
no_occurrence R Follow f g = tt
no_occurrence R Star f g = tt
no_occurrence R Plus f g = tt
no_occurrence R Optional f g = tt

-- the occurrences of expressions that wait, in the order of the text
waiting_occurrences : List (Expression (List ℤ)) → List (Option (List ℤ))
waiting_occurrences [] = []
waiting_occurrences (e ∷ stack) = waiting_occurrences stack ++ occurrences_in e

nothing_more : (stack : List (Expression (List ℤ))) → waiting_occurrences stack ≡ waiting_occurrences stack ++ []
nothing_more stack = sym (append-nil (waiting_occurrences stack))

occurrences-after_symbol : (stack : List (Expression (List ℤ))) (symbol : PostfixSymbol) → waiting_occurrences (after_symbol stack symbol) ≡ waiting_occurrences stack ++ occurrence_in symbol
unfolding waiting_occurrences
occurrences-after_symbol [] Empty = refl
occurrences-after_symbol (e ∷ []) Empty = refl
occurrences-after_symbol (f ∷ e ∷ stack) Empty = refl
occurrences-after_symbol [] (Letter x) = refl
occurrences-after_symbol (e ∷ []) (Letter x) = refl
occurrences-after_symbol (f ∷ e ∷ stack) (Letter x) = refl
occurrences-after_symbol [] Any = refl
occurrences-after_symbol (e ∷ []) Any = refl
occurrences-after_symbol (f ∷ e ∷ stack) Any = refl
occurrences-after_symbol [] Either = refl
occurrences-after_symbol (e ∷ []) Either = nothing_more (e ∷ [])
occurrences-after_symbol (f ∷ e ∷ stack) Either = sym (append_assoc (waiting_occurrences stack) (occurrences_in e) (occurrences_in f)) ∙ nothing_more (f ∷ e ∷ stack)
occurrences-after_symbol [] Follow = refl
occurrences-after_symbol (e ∷ []) Follow = nothing_more (e ∷ [])
occurrences-after_symbol (f ∷ e ∷ stack) Follow = sym (append_assoc (waiting_occurrences stack) (occurrences_in e) (occurrences_in f)) ∙ nothing_more (f ∷ e ∷ stack)
occurrences-after_symbol [] Star = refl
occurrences-after_symbol (e ∷ []) Star = nothing_more (e ∷ [])
occurrences-after_symbol (f ∷ e ∷ stack) Star = nothing_more (f ∷ e ∷ stack)
occurrences-after_symbol [] Plus = refl
occurrences-after_symbol (e ∷ []) Plus = nothing_more (e ∷ [])
occurrences-after_symbol (f ∷ e ∷ stack) Plus = nothing_more (f ∷ e ∷ stack)
occurrences-after_symbol [] Optional = refl
occurrences-after_symbol (e ∷ []) Optional = nothing_more (e ∷ [])
occurrences-after_symbol (f ∷ e ∷ stack) Optional = nothing_more (f ∷ e ∷ stack)

occurrences-stacked : (stack : List (Expression (List ℤ))) (symbols : List PostfixSymbol) → waiting_occurrences (stacked stack symbols) ≡ waiting_occurrences stack ++ occurrences_of symbols
occurrences-stacked stack [] = nothing_more stack
occurrences-stacked stack (symbol ∷ symbols) =
    occurrences-stacked (after_symbol stack symbol) symbols ∙ ap (λ os. os ++ occurrences_of symbols) (occurrences-after_symbol stack symbol) ∙ append_assoc (waiting_occurrences stack) (occurrence_in symbol) (occurrences_of symbols)

-- the occurrences of the expression of symbols are those of the symbols
pub occurrences_in-tree_of : (symbols : List PostfixSymbol) → IsPostfix symbols → occurrences_in (tree_of symbols) ≡ occurrences_of symbols
unfolding waiting_occurrences
occurrences_in-tree_of symbols postfix = sym (ap waiting_occurrences postfix) ∙ occurrences-stacked [] symbols

-- one symbol more
flat_map-push : {X Y : Type 0} (f : X → List Y) (xs : List X) (x : X) → flat_map f (xs ++ x ∷ []) ≡ flat_map f xs ++ f x
flat_map-push f [] x = append-nil (f x)
flat_map-push f (y ∷ xs) x = ap (λ ys. f y ++ ys) (flat_map-push f xs x) ∙ sym (append_assoc (f y) (flat_map f xs) (f x))

pub ranges_more : (sets : List (List ℤ)) (symbols : List PostfixSymbol) (i : ℕ) (symbol : PostfixSymbol) (old new here : List LetterRange) → i < length symbols → symbol ≡ get_or symbols i symbol → AllZip (IsRangeOf sets) (occurrences_of (take i symbols)) old
    → AllZip (IsRangeOf sets) (occurrence_in symbol) here → new ≡ old ++ here → AllZip (IsRangeOf sets) (occurrences_of (take (i + 1) symbols)) new
ranges_more sets symbols i symbol old new here l e a b f =
    let one : take (i + 1) symbols ≡ take i symbols ++ symbol ∷ [] = take_more symbols i symbol l ∙ ap (λ s. take i symbols ++ s ∷ []) (sym e) in
    let P : List (Option (List ℤ)) → Type 0 = λ os. AllZip (IsRangeOf sets) os new in
    let Q : List LetterRange → Type 0 = λ rs. AllZip (IsRangeOf sets) (occurrences_of (take i symbols) ++ occurrence_in symbol) rs in
    subst P (sym (ap occurrences_of one ∙ flat_map-push occurrence_in (take i symbols) symbol)) (subst Q (sym f) (zip-append (IsRangeOf sets) (occurrences_of (take i symbols)) old (occurrence_in symbol) here a b))

pub ranges_all : (sets : List (List ℤ)) (symbols : List PostfixSymbol) (i : ℕ) (made : List LetterRange) → length symbols ≤ i → AllZip (IsRangeOf sets) (occurrences_of (take i symbols)) made → AllZip (IsRangeOf sets) (occurrences_of symbols) made
ranges_all sets symbols i made l a = let P : List PostfixSymbol → Type 0 = λ xs. AllZip (IsRangeOf sets) (occurrences_of xs) made in subst P (take_all i symbols l) a

-- a letter in the range of a place is one that is written there
at_range : (sets : List (List ℤ)) (os : List (Option (List ℤ))) (ranges : List LetterRange) (k a : ℕ) → AllZip (IsRangeOf sets) os ranges
    → IsSomeAnd (slice_get ranges k) (λ r. IsInRange r a) ↔ IsSomeAnd (slice_get os k) (λ o. IsOf (IsLetterOf sets) o a)
at_range sets [] [] k a z = (λ h. absurd h, λ h. absurd h)
at_range sets [] (r ∷ ranges) k a z = absurd z
at_range sets (o ∷ os) [] k a z = absurd z
at_range sets (o ∷ os) (r ∷ ranges) zero a z = z.0 a
at_range sets (o ∷ os) (r ∷ ranges) (suc k) a z = at_range sets os ranges k a z.1

pub letter_at : (sets : List (List ℤ)) (os : List (Option (List ℤ))) (ranges : List LetterRange) (place a : ℕ) → AllZip (IsRangeOf sets) os ranges → IsLetterAt ranges place a ↔ IsWritten (IsLetterOf sets) os place a
letter_at sets os ranges zero a z = (λ h. h, λ h. h)
letter_at sets os ranges (suc k) a z = at_range sets os ranges k a z

-- a letter that is written somewhere is one of the alphabet
of_below : (sets : List (List ℤ)) (o : Option (List ℤ)) (a : ℕ) → IsOf (IsLetterOf sets) o a → a < product (sizes_of sets)
of_below sets (Some x) a h = letter_below sets x a h
of_below sets None a h = letter_below sets h.0 a h.1

at_below : (sets : List (List ℤ)) (os : List (Option (List ℤ))) (k a : ℕ) → IsSomeAnd (slice_get os k) (λ o. IsOf (IsLetterOf sets) o a) → (k < length os) × (a < product (sizes_of sets))
at_below sets [] k a h = absurd h
at_below sets (o ∷ os) zero a h = (omega arith, of_below sets o a h)
at_below sets (o ∷ os) (suc k) a h = let r = at_below sets os k a h in let l : k < length os = r.0 in (omega arith, r.1)

pub written_below : (sets : List (List ℤ)) (os : List (Option (List ℤ))) (place a : ℕ) → IsWritten (IsLetterOf sets) os place a → (place < length os + 1) × (a < product (sizes_of sets))
written_below sets os zero a h = absurd h
written_below sets os (suc k) a h = let r = at_below sets os k a h in let l : k < length os = r.0 in (omega arith, r.1)

-- the ranges of an expression that is given by its symbols
pub ranges_of_tree : (sets : List (List ℤ)) (symbols : List PostfixSymbol) (ranges given : List LetterRange) → IsPostfix symbols → given ≡ ranges → AllZip (IsRangeOf sets) (occurrences_of symbols) ranges → AllZip (IsRangeOf sets) (occurrences_in (tree_of symbols)) given
ranges_of_tree sets symbols ranges given postfix e z =
    let P : List (Option (List ℤ)) → Type 0 = λ os. AllZip (IsRangeOf sets) os given in
    let Q : List LetterRange → Type 0 = λ rs. AllZip (IsRangeOf sets) (occurrences_of symbols) rs in
    subst P (sym (occurrences_in-tree_of symbols postfix)) (subst Q (sym e) z)
