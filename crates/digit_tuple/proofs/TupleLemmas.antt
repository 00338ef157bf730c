-- Tuples of members, and their letters.
use Rattle.std.proofs.Common.{◌≡◌, ℕ, ◌<◌, ℤ, pos, List, [], ◌∷◌, get_or, ap, subst, sym, refl, ◌∙◌}
use Rattle.std.specs.List.{All, AllZip, Contains}
use Rattle.std.proofs.lemmas.List.{get_or_default}
use Rattle.std.proofs.lemmas.List.Elements.{All-head, All-tail}
use Rattle.digit_tuple.specs.Letters.{product, code_of, AreDigits, IsWord}
use Rattle.digit_tuple.specs.Sets.{IsAscending, sizes_of, members_at}
use Rattle.digit_tuple.specs.Tuples.{IsLetterOf, Codes, TuplesDetermineLetters, LettersDetermineTuples, LettersHaveTuples}
use Rattle.digit_tuple.proofs.SetLemmas.{one_place}
use Rattle.digit_tuple.proofs.LetterLemmas.{code_of-injective, code_of-below, digits_from_letter}

-- a tuple of members has one list of places
pub one_list_of_places : (sets : List (List ℤ)) (ds es : List ℕ) → All IsAscending sets → AreDigits (sizes_of sets) ds → AreDigits (sizes_of sets) es → members_at sets ds ≡ members_at sets es → ds ≡ es
one_list_of_places [] [] [] up fd fe e = refl
one_list_of_places [] [] (x ∷ es) up fd fe e = absurd fe
one_list_of_places [] (d ∷ ds) es up fd fe e = absurd fd
one_list_of_places (s ∷ ss) [] es up fd fe e = absurd fd
one_list_of_places (s ∷ ss) (d ∷ ds) [] up fd fe e = absurd fe
one_list_of_places (s ∷ ss) (d ∷ ds) (x ∷ es) up fd fe e =
    let heads : get_or s d (pos 0) ≡ get_or s x (pos 0) = cc in
    let tails : members_at ss ds ≡ members_at ss es = cc in
    let same : d ≡ x = one_place s d x (All-head IsAscending s ss up) fd.0 fe.0 heads in
    let rest : ds ≡ es = one_list_of_places ss ds es (All-tail IsAscending s ss up) fd.1 fe.1 tails in
    ap (λ n. n ∷ ds) same ∙ ap (λ ns. x ∷ ns) rest

pub one_letter : TuplesDetermineLetters
one_letter sets tuple a b up p q =
    let same : p.digits ≡ q.digits = one_list_of_places sets p.digits q.digits up p.fit q.fit (sym p.tuple_is ∙ q.tuple_is) in
    p.letter_is ∙ ap (code_of (sizes_of sets)) same ∙ sym q.letter_is

pub one_tuple : LettersDetermineTuples
one_tuple sets t u letter p q =
    let same : p.digits ≡ q.digits = code_of-injective (sizes_of sets) p.digits q.digits p.fit q.fit (sym p.letter_is ∙ q.letter_is) in
    p.tuple_is ∙ ap (members_at sets) same ∙ sym q.tuple_is

pub tuple_from_letter : LettersHaveTuples
tuple_from_letter sets letter below =
    let d = digits_from_letter (sizes_of sets) letter below in
    (members_at sets d.0, record { digits = d.0; fit = d.1; tuple_is = refl; letter_is = sym d.2 })

-- the letter of a tuple is a letter of the alphabet
pub letter_below : (sets : List (List ℤ)) (tuple : List ℤ) (letter : ℕ) → IsLetterOf sets tuple letter → letter < product (sizes_of sets)
letter_below sets tuple letter p = subst (λ n. n < product (sizes_of sets)) (sym p.letter_is) (code_of-below (sizes_of sets) p.digits p.fit)

-- places of members
pub places_from_members : (sets : List (List ℤ)) (tuple : List ℤ) → AllZip Contains sets tuple → (ds : List ℕ) × AreDigits (sizes_of sets) ds × (tuple ≡ members_at sets ds)
places_from_members [] [] in' = ([], tt, refl)
places_from_members [] (m ∷ ms) in' = absurd in'
places_from_members (s ∷ ss) [] in' = absurd in'
places_from_members (s ∷ ss) (m ∷ ms) in' =
    let rest = places_from_members ss ms in'.1 in
    let found = in'.0 in
    let at : m ≡ get_or s found.0 (pos 0) = sym found.2 ∙ get_or_default s found.0 m (pos 0) found.1 in
    (found.0 ∷ rest.0, (found.1, rest.1), ap (λ n. n ∷ ms) at ∙ ap (λ ns. get_or s found.0 (pos 0) ∷ ns) rest.2)

-- a tuple of members has a letter
pub letter_from_members : (sets : List (List ℤ)) (tuple : List ℤ) → AllZip Contains sets tuple → (letter : ℕ) × IsLetterOf sets tuple letter
letter_from_members sets tuple in' =
    let d = places_from_members sets tuple in' in
    (code_of (sizes_of sets) d.0, record { digits = d.0; fit = d.1; tuple_is = d.2; letter_is = refl })

members_at-members : (sets : List (List ℤ)) (ds : List ℕ) → AreDigits (sizes_of sets) ds → AllZip Contains sets (members_at sets ds)
members_at-members [] [] fit = tt
members_at-members [] (d ∷ ds) fit = absurd fit
members_at-members (s ∷ ss) [] fit = absurd fit
members_at-members (s ∷ ss) (d ∷ ds) fit = ((d, fit.0, get_or_default s d (get_or s d (pos 0)) (pos 0) fit.0), members_at-members ss ds fit.1)

-- what has a letter is a tuple of members
pub members_from_letter : (sets : List (List ℤ)) (tuple : List ℤ) (letter : ℕ) → IsLetterOf sets tuple letter → AllZip Contains sets tuple
members_from_letter sets tuple letter p = subst (λ t. AllZip Contains sets t) (sym p.tuple_is) (members_at-members sets p.digits p.fit)

-- a word of tuples that is written in letters is a word over the alphabet
pub IsWord-codes : (sets : List (List ℤ)) (tuples : List (List ℤ)) (word : List ℕ) → Codes sets tuples word → IsWord (product (sizes_of sets)) word
IsWord-codes sets [] [] codes = tt
IsWord-codes sets [] (a ∷ w) codes = absurd codes
IsWord-codes sets (t ∷ ts) [] codes = absurd codes
IsWord-codes sets (t ∷ ts) (a ∷ w) codes = (letter_below sets t a codes.0, IsWord-codes sets ts w codes.1)

-- a word of tuples has one word of letters
pub one_word : (sets : List (List ℤ)) (tuples : List (List ℤ)) (u v : List ℕ) → All IsAscending sets → Codes sets tuples u → Codes sets tuples v → u ≡ v
one_word sets [] [] [] up cu cv = refl
one_word sets [] [] (b ∷ v) up cu cv = absurd cv
one_word sets [] (a ∷ u) v up cu cv = absurd cu
one_word sets (t ∷ ts) [] v up cu cv = absurd cu
one_word sets (t ∷ ts) (a ∷ u) [] up cu cv = absurd cv
one_word sets (t ∷ ts) (a ∷ u) (b ∷ v) up cu cv =
    ap (λ n. n ∷ u) (one_letter sets t a b up cu.0 cv.0) ∙ ap (λ ns. b ∷ ns) (one_word sets ts u v up cu.1 cv.1)

-- each word over the alphabet writes a word of tuples
pub tuples_from_word : (sets : List (List ℤ)) (word : List ℕ) → IsWord (product (sizes_of sets)) word → (tuples : List (List ℤ)) × Codes sets tuples word
tuples_from_word sets [] over = ([], tt)
tuples_from_word sets (a ∷ w) over =
    let first = tuple_from_letter sets a over.0 in
    let rest = tuples_from_word sets w over.1 in
    (first.0 ∷ rest.0, (first.1, rest.1))
