-- Letters on tracks, digit by digit and letter by letter.
use Rattle.std.proofs.Common.{◌≡◌, ℕ, ◌+◌, ◌<◌, List, [], ◌∷◌, ◌++◌, length, take, get_or, sym, ap, ◌∙◌, subst}
use Rattle.std.specs.Prelude.{ℤ}
use Rattle.std.specs.List.{Contains}
use Rattle.std.proofs.lemmas.List.{take_more}
use Rattle.digit_tuple.specs.Tuples.{Codes}
use Rattle.digit_tuple.proofs.TupleLemmas.{letter_from_members, members_from_letter}
use Rattle.listings.specs.Tracks.{HasDigits, IsOnTracks}
use Rattle.table_listings.specs.Laws.{ListedPlacesAreWords}

-- one digit more
push_digit : (sets : List (List ℤ)) (digits : List ℤ) (set : List ℤ) (digit : ℤ) → HasDigits sets digits → Contains {X = ℤ} set digit → HasDigits (sets ++ set ∷ []) (digits ++ digit ∷ [])
push_digit [] [] set digit all one = (one, tt)
push_digit [] (d ∷ digits) set digit all one = absurd all
push_digit (s ∷ sets) [] set digit all one = absurd all
push_digit (s ∷ sets) (d ∷ digits) set digit all one = (all.0, push_digit sets digits set digit all.1 one)

pub digits_more : (sets : List (List ℤ)) (digits : List ℤ) (i : ℕ) (set : List ℤ) (other : ℤ) → i < length sets → i < length digits → set ≡ get_or sets i set → HasDigits (take i sets) (take i digits)
    → Contains {X = ℤ} set (get_or digits i other) → HasDigits (take (i + 1) sets) (take (i + 1) digits)
digits_more sets digits i set other l m e all one =
    let s : take (i + 1) sets ≡ take i sets ++ set ∷ [] = take_more sets i set l ∙ ap (λ (x : List ℤ). take i sets ++ x ∷ []) (sym e) in
    let t : take (i + 1) digits ≡ take i digits ++ get_or digits i other ∷ [] = take_more digits i other m in
    let P : List (List ℤ) → Type 0 = λ x. HasDigits x (take (i + 1) digits) in
    let Q : List ℤ → Type 0 = λ x. HasDigits (take i sets ++ set ∷ []) x in
    subst P (sym s) (subst Q (sym t) (push_digit (take i sets) (take i digits) set (get_or digits i other) all one))

-- what is on the tracks is a word, and the other way round
on_tracks_word : (sets place : List (List ℤ)) → IsOnTracks sets place → (word : List ℕ) × Codes sets place word
on_tracks_word sets [] on = ([], tt)
on_tracks_word sets (letter ∷ place) on =
    let first = letter_from_members sets letter on.0 in
    let rest = on_tracks_word sets place on.1 in
    (first.0 ∷ rest.0, (first.1, rest.1))

word_on_tracks : (sets place : List (List ℤ)) (word : List ℕ) → Codes sets place word → IsOnTracks sets place
word_on_tracks sets [] [] codes = tt
word_on_tracks sets [] (a ∷ word) codes = absurd codes
word_on_tracks sets (letter ∷ place) [] codes = absurd codes
word_on_tracks sets (letter ∷ place) (a ∷ word) codes = (members_from_letter sets letter a codes.0, word_on_tracks sets place word codes.1)

pub places_are_words : ListedPlacesAreWords
places_are_words sets place = (on_tracks_word sets place, λ found. word_on_tracks sets place found.0 found.1)
