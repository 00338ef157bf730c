-- The automaton of an expression's letters accepts exactly the words that the expression matches.
use Rattle.std.proofs.Common.{◌≡◌, ℕ, zero, suc, ◌+◌, List, [], ◌∷◌, length, inl, inr, refl, sym, subst, arith, Option, None, Some}
use Rattle.std.specs.Prelude.{slice_get, IsSomeAnd, IsTrue}
use Rattle.std.specs.List.{AllZip}
use Rattle.digit_tuple.specs.Automaton.{Branching, accepting_of, Path, Accepts}
use Rattle.regex_build.specs.Expression.{Expression, occurrences_in, placed}
use Rattle.regex_build.specs.Matches.{Matches}
use Rattle.regex_build.specs.Positions.{IsOf, IsWritten, IsPositionTable, PositionsAcceptMatches}
use Rattle.digit_tuple.specs.Tuples.{IsLetterOf}
use Rattle.digit_tuple.proofs.TupleLemmas.{one_tuple}
use Rattle.regex_build.proofs.ListSteps.{zip-through, zip-compose}
use Rattle.regex_build.proofs.PlaceWords.{Allows, OccursAt, IsWithin, place_within, places_of, word_written}
use Rattle.regex_build.proofs.Merging.{IsChain, matches_from_chain, chain_from_matches}

-- what is said of the occurrence at a place
abbrev pub IsAt : {L : Type 0} → (Option L → Type 0) → List (Option L) → ℕ → Type 0
IsAt P os k = IsSomeAnd (slice_get os k) P

get_from_occurs : {L : Type 0} (n : ℕ) (os : List (Option L)) (place : ℕ) (x : L) → OccursAt n os place x → (k : ℕ) × (place ≡ n + k) × IsAt (λ o. Allows o x) os k
get_from_occurs n [] place x h = absurd h
get_from_occurs n (o ∷ os) place x h =
    elim h [
      | inl p ↦ (0, (let e : place ≡ n = p.0 in omega arith), p.1)
      | inr q ↦
          let r = get_from_occurs (n + 1) os place x q in
          (suc r.0, (let e : place ≡ n + 1 + r.0 = r.1 in omega arith), r.2)
    ]

of_from_allows : {L : Type 0} (code : L → ℕ → Type 0) (o : Option L) (x : L) (a : ℕ) → Allows o x → code x a → IsOf code o a
of_from_allows {L} code (Some y) x a h c = let P : L → Type 0 = λ z. code z a in subst P (sym h) c
of_from_allows code None x a h c = (x, c)

of_at : {L : Type 0} (code : L → ℕ → Type 0) (os : List (Option L)) (k : ℕ) (x : L) (a : ℕ) → IsAt (λ o. Allows o x) os k → code x a → IsAt (λ o. IsOf code o a) os k
of_at code [] k x a h c = absurd h
of_at code (o ∷ os) zero x a h c = of_from_allows code o x a h c
of_at code (o ∷ os) (suc k) x a h c = of_at code os k x a h c

-- a letter at a place is written as it is
pub written_from_occurs : {L : Type 0} (code : L → ℕ → Type 0) (os : List (Option L)) (place : ℕ) (x : L) (a : ℕ) → OccursAt 1 os place x → code x a → IsWritten code os place a
written_from_occurs {L} code os place x a h c =
    let r = get_from_occurs 1 os place x h in
    let e : suc r.0 ≡ place = let e1 : place ≡ 1 + r.0 = r.1 in omega arith in
    let P : ℕ → Type 0 = λ p. IsWritten code os p a in
    subst P e (of_at code os r.0 x a r.2 c)

-- a letter at a place, and how it is written
record HasLetter {L : Type 0} (code : L → ℕ → Type 0) (n : ℕ) (os : List (Option L)) (place a : ℕ) : Type 0 where
  pub one : L
  pub occurs : OccursAt n os place one
  pub written : code one a

letter_here : {L : Type 0} (code : L → ℕ → Type 0) (n : ℕ) (o : Option L) (os : List (Option L)) (a : ℕ) → IsOf code o a → HasLetter code n (o ∷ os) (n + 0) a
letter_here code n (Some y) os a h = record { one = y; occurs = inl ((omega arith), refl); written = h }
letter_here code n None os a h = record { one = h.0; occurs = inl ((omega arith), tt); written = h.1 }

letter_from_get : {L : Type 0} (code : L → ℕ → Type 0) (n : ℕ) (os : List (Option L)) (k a : ℕ) → IsAt (λ o. IsOf code o a) os k → HasLetter code n os (n + k) a
letter_from_get code n [] k a h = absurd h
letter_from_get code n (o ∷ os) zero a h = letter_here code n o os a h
letter_from_get code n (o ∷ os) (suc k) a h =
    let r = letter_from_get code (n + 1) os k a h in
    let e : n + 1 + k ≡ n + suc k = omega arith in
    let P : ℕ → Type 0 = λ p. OccursAt (n + 1) os p r.one in
    record { one = r.one; occurs = inr (subst P e r.occurs); written = r.written }

letter_from_written : {L : Type 0} (code : L → ℕ → Type 0) (xs : List (Option L)) (place a : ℕ) → IsWritten code xs place a → HasLetter code 1 xs place a
letter_from_written code xs zero a h = absurd h
letter_from_written code xs (suc k) a h =
    let e : 1 + k ≡ suc k = omega arith in
    let P : ℕ → Type 0 = λ p. HasLetter code 1 xs p a in
    subst P e (letter_from_get code 1 xs k a h)

-- a word over the places, as a way through the states
pub chain_of_word : {L : Type 0} (e : Expression L) (places : List ℕ) → Matches (placed 1 e) places → IsChain (placed 1 e) 0 places
chain_of_word e [] m = m
chain_of_word e (zero ∷ places) m = let w : IsWithin 1 (1 + length (occurrences_in e)) 0 = place_within 1 e [] 0 places m in absurd (omega arith)
chain_of_word e (suc i ∷ places) m = ((places, m), chain_from_matches e i [] places m)

pub word_of_chain : {L : Type 0} (e : Expression L) (places : List ℕ) → IsChain (placed 1 e) 0 places → Matches (placed 1 e) places
word_of_chain e [] c = c
word_of_chain e (zero ∷ places) c = let w : IsWithin 1 (1 + length (occurrences_in e)) 0 = place_within 1 e [] 0 c.0.0 c.0.1 in absurd (omega arith)
word_of_chain e (suc i ∷ places) c = matches_from_chain e i [] c.0.0 places c.0.1 c.1

module _ {L : Type 0} (code : L → ℕ → Type 0) (e : Expression L) (n : Branching) (table : IsPositionTable code e n) where
  -- the ways through the states, and the paths of the table
  path_of_chain : (q : ℕ) (places word : List ℕ) → IsChain (placed 1 e) q places → AllZip (IsWritten code (occurrences_in e)) places word → (r : ℕ) × Path n q word r × IsTrue (accepting_of n r)
  path_of_chain q [] [] c z = (q, refl, (table.accepts q).1 c)
  path_of_chain q [] (a ∷ word) c z = absurd z
  path_of_chain q (place ∷ places) [] c z = absurd z
  path_of_chain q (place ∷ places) (a ∷ word) c z =
      let rest = path_of_chain place places word c.1 z.1 in
      (rest.0, (place, (table.leads q a place).1 (c.0, z.0), rest.1), rest.2)

  chain_of_path : (q : ℕ) (word : List ℕ) (r : ℕ) → Path n q word r → IsTrue (accepting_of n r) → (places : List ℕ) × IsChain (placed 1 e) q places × AllZip (IsWritten code (occurrences_in e)) places word
  chain_of_path q [] r p h = ([], (table.accepts q).0 (let P : ℕ → Type 0 = λ s. IsTrue (accepting_of n s) in subst P (sym p) h), tt)
  chain_of_path q (a ∷ word) r p h =
      let rest = chain_of_path p.0 word r p.2 h in
      let step = (table.leads q a p.0).0 p.1 in
      (p.0 ∷ rest.0, (step.0, rest.1), (step.1, rest.2))

  pub accepts_from_matches : (word : List L) (letters : List ℕ) → AllZip code word letters → Matches e word → Accepts n letters
  accepts_from_matches word letters z m =
      let a = places_of 1 e word m in
      path_of_chain 0 a.places letters (chain_of_word e a.places a.matched)
      (zip-compose (OccursAt 1 (occurrences_in e)) code (IsWritten code (occurrences_in e)) (λ place x b h c. written_from_occurs code (occurrences_in e) place x b h c) a.places word letters a.written z)

  pub matches_from_accepts : ((x y : L) (a : ℕ) → code x a → code y a → x ≡ y) → (word : List L) (letters : List ℕ) → AllZip code word letters → Accepts n letters → Matches e word
  matches_from_accepts once word letters z accepted =
      let direction = chain_of_path 0 letters accepted.0 accepted.1 accepted.2 in
      let written : AllZip (OccursAt 1 (occurrences_in e)) direction.0 word =
      zip-through (IsWritten code (occurrences_in e)) code (OccursAt 1 (occurrences_in e)) occurs direction.0 letters word direction.2 z in
      word_written 1 e direction.0 word (word_of_chain e direction.0 direction.1) written
    where
      occurs : (place a : ℕ) (x : L) → IsWritten code (occurrences_in e) place a → code x a → OccursAt 1 (occurrences_in e) place x
      occurs place a x h c =
          let r = letter_from_written code (occurrences_in e) place a h in
          let P : L → Type 0 = λ y. OccursAt 1 (occurrences_in e) place y in
          subst P (once r.one x a r.written c) r.occurs

-- the table of an expression's letters accepts its matches
pub accepts_the_matches : PositionsAcceptMatches
accepts_the_matches sets e n table tuples word codes =
    (matches_from_accepts (IsLetterOf sets) e n table (λ x y a h k. one_tuple sets x y a h k) tuples word codes, accepts_from_matches (IsLetterOf sets) e n table tuples word codes)
