-- Digits of letters, and where they are in the sets of their tracks.
use Rattle.std.proofs.Common.{◌≡◌, ℕ, zero, suc, ◌+◌, ◌<◌, List, [], ◌∷◌, ◌++◌, length, refl, sym, ap, ◌∙◌, subst, arith, take, get_or, None, Some, Option, false, true}
use Rattle.std.specs.Prelude.{ℤ, pos, ◌↔◌, IfOk, IsSome, MatchOption, Result}
use Rattle.std.proofs.lemmas.Result.{IfOk-weaker}
use Rattle.std.specs.List.{Contains}
use Rattle.std.proofs.lemmas.List.{take_more}
use Rattle.digit_tuple.specs.Letters.{AreDigits, code_of}
use Rattle.digit_tuple.specs.Sets.{sizes_of, members_at}
use Rattle.digit_tuple.specs.Tuples.{Codes, IsLetterOf}
use Rattle.digit_tuple.proofs.TupleLemmas.{members_from_letter}
use Rattle.listings.specs.Tracks.{AreAt, HasDigits, IsOnTracks}

push_at : (sets : List (List ℤ)) (digits : List ℤ) (places : List ℕ) (set : List ℤ) (digit : ℤ) (place : ℕ) → AreAt sets digits places → place < length set → get_or set place (pos 0) ≡ digit → AreAt (sets ++ set ∷ []) (digits ++ digit ∷ []) (places ++ place ∷ [])
push_at [] [] [] set digit place h l e = (l, e, tt)
push_at [] [] (p ∷ ps) set digit place h l e = absurd h
push_at [] (d ∷ ds) ps set digit place h l e = absurd h
push_at (s ∷ ss) [] ps set digit place h l e = absurd h
push_at (s ∷ ss) (d ∷ ds) [] set digit place h l e = absurd h
push_at (s ∷ ss) (d ∷ ds) (p ∷ ps) set digit place h l e = (h.0, h.1, push_at ss ds ps set digit place h.2 l e)

-- one track more
pub more_at : (sets : List (List ℤ)) (digits : List ℤ) (places more : List ℕ) (i : ℕ) (set : List ℤ) (other : ℤ) (place : ℕ) → length sets ≡ length digits → i < length sets → set ≡ get_or sets i set
    → AreAt (take i sets) (take i digits) places → place < length set → get_or set place (pos 0) ≡ get_or digits i other → more ≡ places ++ place ∷ []
    → AreAt (take (i + 1) sets) (take (i + 1) digits) more
more_at sets digits places more i set other place n l e are m f g =
    let s : take (i + 1) sets ≡ take i sets ++ set ∷ [] = take_more sets i set l ∙ ap (λ x. take i sets ++ x ∷ []) (sym e) in
    let t : take (i + 1) digits ≡ take i digits ++ get_or digits i other ∷ [] = take_more digits i other (omega arith) in
    let P : List (List ℤ) → Type 0 = λ x. AreAt x (take (i + 1) digits) more in
    let Q : List ℤ → Type 0 = λ x. AreAt (take i sets ++ set ∷ []) x more in
    let R : List ℕ → Type 0 = λ x. AreAt (take i sets ++ set ∷ []) (take i digits ++ get_or digits i other ∷ []) x in
    subst P (sym s) (subst Q (sym t) (subst R (sym g) (push_at (take i sets) (take i digits) places set (get_or digits i other) place are m f)))

-- the places are digits of a letter, and give back the digits of the tracks
pub digits_at : (sets : List (List ℤ)) (digits : List ℤ) (places : List ℕ) → AreAt sets digits places → AreDigits (sizes_of sets) places
digits_at [] [] [] h = tt
digits_at [] [] (p ∷ ps) h = absurd h
digits_at [] (d ∷ ds) ps h = absurd h
digits_at (s ∷ ss) [] ps h = absurd h
digits_at (s ∷ ss) (d ∷ ds) [] h = absurd h
digits_at (s ∷ ss) (d ∷ ds) (p ∷ ps) h = (h.0, digits_at ss ds ps h.2)

pub members_are : (sets : List (List ℤ)) (digits : List ℤ) (places : List ℕ) → AreAt sets digits places → digits ≡ members_at sets places
members_are [] [] [] h = refl
members_are [] [] (p ∷ ps) h = absurd h
members_are [] (d ∷ ds) ps h = absurd h
members_are (s ∷ ss) [] ps h = absurd h
members_are (s ∷ ss) (d ∷ ds) [] h = absurd h
members_are (s ∷ ss) (d ∷ ds) (p ∷ ps) h =
    let e : get_or s p (pos 0) ≡ d = h.1 in
    let f : ds ≡ members_at ss ps = members_are ss ds ps h.2 in
    ap (λ x. x ∷ ds) (sym e) ∙ ap (λ xs. get_or s p (pos 0) ∷ xs) f

-- the letter whose digits are at these places
pub letter_at : (sets : List (List ℤ)) (digits : List ℤ) (places sizes : List ℕ) (number : ℕ) → sizes ≡ sizes_of sets → AreAt sets digits places → number ≡ code_of sizes places → IsLetterOf sets digits number
letter_at sets digits places sizes number same h e = record {
  digits = places;
  fit = digits_at sets digits places h;
  tuple_is = members_are sets digits places h;
  letter_is = e ∙ ap (λ x. code_of x places) same;
}

-- as many digits as tracks
pub has_length : (sets : List (List ℤ)) (digits : List ℤ) → HasDigits sets digits → length sets ≡ length digits
has_length [] [] h = refl
has_length [] (d ∷ ds) h = absurd h
has_length (s ∷ ss) [] h = absurd h
has_length (s ∷ ss) (d ∷ ds) h = ap suc (has_length ss ds h.1)

-- each in its set
pub has_at : (sets : List (List ℤ)) (digits : List ℤ) (i : ℕ) (set : List ℤ) (other : ℤ) → HasDigits sets digits → i < length sets → set ≡ get_or sets i set → Contains {X = ℤ} set (get_or digits i other)
has_at [] digits i set other h l e = absurd (omega arith)
has_at (s ∷ ss) [] i set other h l e = absurd h
has_at (s ∷ ss) (d ∷ ds) zero set other h l e = let P : List ℤ → Type 0 = λ x. Contains {X = ℤ} x d in subst P (sym e) h.0
has_at (s ∷ ss) (d ∷ ds) (suc i) set other h l e = has_at ss ds i set other h.1 (omega arith) e

-- one letter more
pub codes_push : (sets : List (List ℤ)) (letters : List (List ℤ)) (word : List ℕ) (letter : List ℤ) (number : ℕ) → Codes sets letters word → IsLetterOf sets letter number → Codes sets (letters ++ letter ∷ []) (word ++ number ∷ [])
codes_push sets [] [] letter number h is = (is, tt)
codes_push sets [] (a ∷ w) letter number h is = absurd h
codes_push sets (l ∷ ls) [] letter number h is = absurd h
codes_push sets (l ∷ ls) (a ∷ w) letter number h is = (h.0, codes_push sets ls w letter number h.1 is)

pub codes_more : (sets : List (List ℤ)) (letters : List (List ℤ)) (word more : List ℕ) (i : ℕ) (letter : List ℤ) (number : ℕ) → i < length letters → letter ≡ get_or letters i letter → Codes sets (take i letters) word → IsLetterOf sets letter number → more ≡ word ++ number ∷ [] → Codes sets (take (i + 1) letters) more
codes_more sets letters word more i letter number l e h is m =
    let t : take (i + 1) letters ≡ take i letters ++ letter ∷ [] = take_more letters i letter l ∙ ap (λ x. take i letters ++ x ∷ []) (sym e) in
    let P : List (List ℤ) → Type 0 = λ x. Codes sets x more in
    let Q : List ℕ → Type 0 = λ x. Codes sets (take i letters ++ letter ∷ []) x in
    subst P (sym t) (subst Q (sym m) (codes_push sets (take i letters) word letter number h is))

-- what has a word is on the tracks
pub coded_on_tracks : (sets letters : List (List ℤ)) (word : List ℕ) → Codes sets letters word → IsOnTracks sets letters
coded_on_tracks sets [] [] h = tt
coded_on_tracks sets [] (a ∷ w) h = absurd h
coded_on_tracks sets (l ∷ ls) [] h = absurd h
coded_on_tracks sets (l ∷ ls) (a ∷ w) h = (members_from_letter sets l a h.0, coded_on_tracks sets ls w h.1)

found_on_tracks : {V : Type 0} (P : V → Type 0) (sets letters : List (List ℤ)) (found : Option V) → MatchOption found (¬ IsOnTracks sets letters) P → ((v : V) → P v → IsOnTracks sets letters) → IsSome found ↔ IsOnTracks sets letters
found_on_tracks P sets letters None h on = (λ some. let e : false ≡ true = some in absurd cc, λ k. absurd (h k))
found_on_tracks P sets letters (Some v) h on = (λ some. on v h, λ k. refl)

-- a word is found if and only if the letters are on the tracks
pub found_as : {V E : Type 0} (P : V → Type 0) (sets letters others places : List (List ℤ)) (r : Result (Option V) E) → IfOk r (λ found. MatchOption found (¬ IsOnTracks others places) P) → ((v : V) → P v → IsOnTracks others places) → others ≡ sets → places ≡ letters → IfOk r (λ found. IsSome found ↔ IsOnTracks sets letters)
found_as {V} {E} P sets letters others places r h on first second =
    let A : List (List ℤ) → Type 0 = λ s. IfOk r (λ found. IsSome found ↔ IsOnTracks s letters) in
    let B : List (List ℤ) → Type 0 = λ l. IfOk r (λ found. IsSome found ↔ IsOnTracks others l) in
    subst A first (subst B second (IfOk-weaker r (λ found. MatchOption found (¬ IsOnTracks others places) P) (λ found. IsSome found ↔ IsOnTracks others places) (λ found k. found_on_tracks P others places found k on) h))
