-- Words over the places of an expression, and the words of their letters.
use Rattle.std.proofs.Common.{◌≡◌, ◌≢◌, ℕ, ◌+◌, ◌<◌, ◌≤◌, List, [], ◌∷◌, ◌++◌, length, ◌⊎◌, inl, inr, refl, sym, ap, ◌∙◌, subst, arith, Option, None, Some}
use Rattle.std.specs.List.{AllByRecursion, AllZip}
use Rattle.std.proofs.lemmas.List.{length-append}
use Rattle.digit_tuple.proofs.AllLemmas.{all_append, all_weaker}
use Rattle.regex_build.specs.Expression.{Expression, empty, letter, any, either, follow, star, plus, optional, occurrences_in, placed}
use Rattle.regex_build.specs.Matches.{Matches, joined}
use Rattle.regex_build.proofs.ListSteps.{zip-append, zip-weaker, zip_parts, zip_weaker_where}

-- the letter may be at the occurrence
abbrev pub Allows : {L : Type 0} → Option L → L → Type 0
Allows (Some y) x = y ≡ x
Allows {L} None x = Unit {0}

-- the letter may be at a place of a list of occurrences whose first place is n
abbrev pub OccursAt : {L : Type 0} → ℕ → List (Option L) → ℕ → L → Type 0
OccursAt n [] place x = ⊥
OccursAt n (o ∷ os) place x = ((place ≡ n) × Allows o x) ⊎ OccursAt (n + 1) os place x

pub record IsWithin (low high place : ℕ) : Type 0 where
  pub low_le : low ≤ place
  pub below : place < high

within_wider : (low high less more : ℕ) → less ≤ low → high ≤ more → (place : ℕ) → IsWithin low high place → IsWithin less more place
within_wider low high less more h k place w = let a : low ≤ place = w.low_le in let b : place < high = w.below in record { low_le = omega arith; below = omega arith }

occurs_within : {L : Type 0} (n : ℕ) (os : List (Option L)) (place : ℕ) (x : L) → OccursAt n os place x → IsWithin n (n + length os) place
occurs_within n [] place x h = absurd h
occurs_within n (o ∷ os) place x h =
    elim h [
      | inl p ↦ let e : place ≡ n = p.0 in record { low_le = omega arith; below = omega arith }
      | inr q ↦ let w : IsWithin (n + 1) (n + 1 + length os) place = occurs_within (n + 1) os place x q in record { low_le = omega arith; below = omega arith }
    ]

-- of two lists of occurrences one after the other
pub occurs_left : {L : Type 0} (n : ℕ) (os ps : List (Option L)) (place : ℕ) (x : L) → OccursAt n os place x → OccursAt n (os ++ ps) place x
occurs_left n [] ps place x h = absurd h
occurs_left n (o ∷ os) ps place x h =
    elim h [ inl p ↦ inl p | inr q ↦ inr (occurs_left (n + 1) os ps place x q) ]

pub occurs_right : {L : Type 0} (n : ℕ) (os ps : List (Option L)) (place : ℕ) (x : L) → OccursAt (n + length os) ps place x → OccursAt n (os ++ ps) place x
occurs_right n [] ps place x h =
    let e : n + 0 ≡ n = omega arith in
    let P : ℕ → Type 0 = λ m. OccursAt m ps place x in
    subst P e h
occurs_right n (o ∷ os) ps place x h =
    let e : n + length (o ∷ os) ≡ n + 1 + length os = omega arith in
    let P : ℕ → Type 0 = λ m. OccursAt m ps place x in
    inr (occurs_right (n + 1) os ps place x (subst P e h))

occurs_cases : {L : Type 0} (n : ℕ) (os ps : List (Option L)) (place : ℕ) (x : L) → OccursAt n (os ++ ps) place x → OccursAt n os place x ⊎ OccursAt (n + length os) ps place x
occurs_cases n [] ps place x h =
    let e : n ≡ n + 0 = omega arith in
    let P : ℕ → Type 0 = λ m. OccursAt m ps place x in
    inr (subst P e h)
occurs_cases n (o ∷ os) ps place x h =
    elim h [
      | inl p ↦ inl (inl p)
      | inr q ↦ elim (occurs_cases (n + 1) os ps place x q) [
        | inl l ↦ inl (inr l)
        | inr r ↦
            let e : n + 1 + length os ≡ n + length (o ∷ os) = omega arith in
            let P : ℕ → Type 0 = λ m. OccursAt m ps place x in
            inr (subst P e r)
      ]
    ]

pub occurs_in_left : {L : Type 0} (n : ℕ) (os ps : List (Option L)) (place : ℕ) (x : L) → IsWithin n (n + length os) place → OccursAt n (os ++ ps) place x → OccursAt n os place x
occurs_in_left n os ps place x w h =
    elim (occurs_cases n os ps place x h) [
      | inl l ↦ l
      | inr r ↦ let v : IsWithin (n + length os) (n + length os + length ps) place = occurs_within (n + length os) ps place x r in absurd (omega arith)
    ]

pub occurs_in_right : {L : Type 0} (n : ℕ) (os ps : List (Option L)) (place high : ℕ) (x : L) → IsWithin (n + length os) high place → OccursAt n (os ++ ps) place x → OccursAt (n + length os) ps place x
occurs_in_right n os ps place high x w h =
    elim (occurs_cases n os ps place x h) [
      | inl l ↦ let v : IsWithin n (n + length os) place = occurs_within n os place x l in absurd (omega arith)
      | inr r ↦ r
    ]

-- the places of a word that is matched are those of the expression
abbrev pub AreWithin : ℕ → ℕ → List ℕ → Type 0
AreWithin low high places = AllByRecursion (IsWithin low high) places

within_of_pieces : (low high : ℕ) (pieces : List (List ℕ)) → AllByRecursion (AreWithin low high) pieces → AreWithin low high (joined pieces)
within_of_pieces low high [] h = tt
within_of_pieces low high (piece ∷ pieces) h = all_append (IsWithin low high) piece (joined pieces) h.0 (within_of_pieces low high pieces h.1)

pub places_within : {L : Type 0} (n : ℕ) (e : Expression L) (w : List ℕ) → Matches (placed n e) w → AreWithin n (n + length (occurrences_in e)) w
places_within n empty w m = let P : List ℕ → Type 0 = λ v. AreWithin n (n + 0) v in subst P (sym m) tt
places_within n (letter x) w m = let P : List ℕ → Type 0 = λ v. AreWithin n (n + 1) v in subst P (sym m) (record { low_le = omega arith; below = omega arith }, tt)
places_within n any w m = let P : List ℕ → Type 0 = λ v. AreWithin n (n + 1) v in subst P (sym m) (record { low_le = omega arith; below = omega arith }, tt)
places_within n (either e f) w m =
    let l : length (occurrences_in e ++ occurrences_in f) ≡ length (occurrences_in e) + length (occurrences_in f) = length-append (occurrences_in e) (occurrences_in f) in
    let high : ℕ = n + length (occurrences_in e ++ occurrences_in f) in
    elim m [
      | inl h ↦ all_weaker (IsWithin n (n + length (occurrences_in e))) (IsWithin n high) (within_wider n (n + length (occurrences_in e)) n high (omega arith) (omega arith)) w (places_within n e w h)
      | inr h ↦ all_weaker (IsWithin (n + length (occurrences_in e)) (n + length (occurrences_in e) + length (occurrences_in f))) (IsWithin n high)
          (within_wider (n + length (occurrences_in e)) (n + length (occurrences_in e) + length (occurrences_in f)) n high (omega arith) (omega arith)) w (places_within (n + length (occurrences_in e)) f w h)
    ]
places_within n (follow e f) w m =
    let l : length (occurrences_in e ++ occurrences_in f) ≡ length (occurrences_in e) + length (occurrences_in f) = length-append (occurrences_in e) (occurrences_in f) in
    let high : ℕ = n + length (occurrences_in e ++ occurrences_in f) in
    let P : List ℕ → Type 0 = λ v. AreWithin n high v in
    subst P (sym m.2) (all_append (IsWithin n high) m.0 m.1
    (all_weaker (IsWithin n (n + length (occurrences_in e))) (IsWithin n high) (within_wider n (n + length (occurrences_in e)) n high (omega arith) (omega arith)) m.0 (places_within n e m.0 m.3))
    (all_weaker (IsWithin (n + length (occurrences_in e)) (n + length (occurrences_in e) + length (occurrences_in f))) (IsWithin n high)
    (within_wider (n + length (occurrences_in e)) (n + length (occurrences_in e) + length (occurrences_in f)) n high (omega arith) (omega arith)) m.1 (places_within (n + length (occurrences_in e)) f m.1 m.4)))
places_within n (star e) w m =
    let P : List ℕ → Type 0 = λ v. AreWithin n (n + length (occurrences_in e)) v in
    subst P (sym m.1) (within_of_pieces n (n + length (occurrences_in e)) m.0 (all_weaker (Matches (placed n e)) (AreWithin n (n + length (occurrences_in e))) (places_within n e) m.0 m.2))
places_within n (plus e) w m =
    let P : List ℕ → Type 0 = λ v. AreWithin n (n + length (occurrences_in e)) v in
    subst P (sym m.2) (within_of_pieces n (n + length (occurrences_in e)) m.0 (all_weaker (Matches (placed n e)) (AreWithin n (n + length (occurrences_in e))) (places_within n e) m.0 m.3))
places_within n (optional e) w m =
    elim m [
      | inl h ↦ let P : List ℕ → Type 0 = λ v. AreWithin n (n + length (occurrences_in e)) v in subst P (sym h) tt
      | inr h ↦ places_within n e w h
    ]

within_in_middle : (low high : ℕ) (u : List ℕ) (place : ℕ) (v : List ℕ) → AreWithin low high (u ++ place ∷ v) → IsWithin low high place
within_in_middle low high [] place v h = h.0
within_in_middle low high (x ∷ u) place v h = within_in_middle low high u place v h.1

pub place_within : {L : Type 0} (n : ℕ) (e : Expression L) (u : List ℕ) (place : ℕ) (v : List ℕ) → Matches (placed n e) (u ++ place ∷ v) → IsWithin n (n + length (occurrences_in e)) place
place_within n e u place v m = within_in_middle n (n + length (occurrences_in e)) u place v (places_within n e (u ++ place ∷ v) m)

-- a word over the places whose letters are a word
pub record HasPlaces {L : Type 0} (n : ℕ) (e : Expression L) (word : List L) : Type 0 where
  pub places : List ℕ
  pub matched : Matches (placed n e) places
  pub written : AllZip (OccursAt n (occurrences_in e)) places word

-- words over the places whose letters are the pieces of a word
record HasPieces {L : Type 0} (n : ℕ) (e : Expression L) (pieces : List (List L)) : Type 0 where
  pub words : List (List ℕ)
  pub matched : AllByRecursion (Matches (placed n e)) words
  pub written : AllZip (OccursAt n (occurrences_in e)) (joined words) (joined pieces)
  pub some : pieces ≢ [] → words ≢ []

places_of_pieces : {L : Type 0} (n : ℕ) (e : Expression L) → ((word : List L) → Matches e word → HasPlaces n e word)
    → (pieces : List (List L)) → AllByRecursion (Matches e) pieces → HasPieces n e pieces
places_of_pieces n e each [] all = record { words = []; matched = tt; written = tt; some = λ h k. h refl }
places_of_pieces n e each (piece ∷ pieces) all =
    let a = each piece all.0 in
    let b = places_of_pieces n e each pieces all.1 in
    record {
      words = a.places ∷ b.words;
      matched = (a.matched, b.matched);
      written = zip-append (OccursAt n (occurrences_in e)) a.places piece (joined b.words) (joined pieces) a.written b.written;
      some = λ h k. cc;
    }

written_left : {L : Type 0} (n : ℕ) (e f : Expression L) (places : List ℕ) (word : List L) → AllZip (OccursAt n (occurrences_in e)) places word → AllZip (OccursAt n (occurrences_in e ++ occurrences_in f)) places word
written_left n e f places word z =
    zip-weaker (OccursAt n (occurrences_in e)) (OccursAt n (occurrences_in e ++ occurrences_in f)) (λ place x h. occurs_left n (occurrences_in e) (occurrences_in f) place x h) places word z

written_right : {L : Type 0} (n : ℕ) (e f : Expression L) (places : List ℕ) (word : List L) → AllZip (OccursAt (n + length (occurrences_in e)) (occurrences_in f)) places word → AllZip (OccursAt n (occurrences_in e ++ occurrences_in f)) places word
written_right n e f places word z =
    zip-weaker (OccursAt (n + length (occurrences_in e)) (occurrences_in f)) (OccursAt n (occurrences_in e ++ occurrences_in f)) (λ place x h. occurs_right n (occurrences_in e) (occurrences_in f) place x h) places word z

-- a word that is matched has a word over the places
pub places_of : {L : Type 0} (n : ℕ) (e : Expression L) (word : List L) → Matches e word → HasPlaces n e word
places_of {L} n empty word m = let P : List L → Type 0 = λ w. HasPlaces n empty w in subst P (sym m) (record { places = []; matched = refl; written = tt })
places_of {L} n (letter x) word m =
    let P : List L → Type 0 = λ w. HasPlaces n (letter x) w in
    subst P (sym m) (record { places = n ∷ []; matched = refl; written = (inl (refl, refl), tt) })
places_of {L} n any word m =
    let P : List L → Type 0 = λ w. HasPlaces n any w in
    subst P (sym m.1) (record { places = n ∷ []; matched = refl; written = (inl (refl, tt), tt) })
places_of {L} n (either e f) word m =
    elim m [
      | inl h ↦ let a = places_of n e word h in record { places = a.places; matched = inl a.matched; written = written_left n e f a.places word a.written }
      | inr h ↦ let a = places_of (n + length (occurrences_in e)) f word h in record { places = a.places; matched = inr a.matched; written = written_right n e f a.places word a.written }
    ]
places_of {L} n (follow e f) word m =
    let P : List L → Type 0 = λ w. HasPlaces n (follow e f) w in
    let a = places_of n e m.0 m.3 in
    let b = places_of (n + length (occurrences_in e)) f m.1 m.4 in
    subst P (sym m.2) (record {
      places = a.places ++ b.places;
      matched = (a.places, b.places, refl, a.matched, b.matched);
      written = zip-append (OccursAt n (occurrences_in e ++ occurrences_in f)) a.places m.0 b.places m.1 (written_left n e f a.places m.0 a.written) (written_right n e f b.places m.1 b.written);
    })
places_of {L} n (star e) word m =
    let P : List L → Type 0 = λ w. HasPlaces n (star e) w in
    let a = places_of_pieces n e (places_of n e) m.0 m.2 in
    subst P (sym m.1) (record { places = joined a.words; matched = (a.words, refl, a.matched); written = a.written })
places_of {L} n (plus e) word m =
    let P : List L → Type 0 = λ w. HasPlaces n (plus e) w in
    let a = places_of_pieces n e (places_of n e) m.0 m.3 in
    subst P (sym m.2) (record { places = joined a.words; matched = (a.words, a.some m.1, refl, a.matched); written = a.written })
places_of {L} n (optional e) word m =
    elim m [
      | inl h ↦ let P : List L → Type 0 = λ w. HasPlaces n (optional e) w in subst P (sym h) (record { places = []; matched = inl refl; written = tt })
      | inr h ↦ let a = places_of n e word h in record { places = a.places; matched = inr a.matched; written = a.written }
    ]

-- the pieces that are the letters of pieces over the places
record WritesPieces {L : Type 0} (e : Expression L) (words : List (List ℕ)) (word : List L) : Type 0 where
  pub pieces : List (List L)
  pub split : word ≡ joined pieces
  pub matched : AllByRecursion (Matches e) pieces
  pub some : words ≢ [] → pieces ≢ []

pieces_written : {L : Type 0} (n : ℕ) (e : Expression L) → ((places : List ℕ) (word : List L) → Matches (placed n e) places → AllZip (OccursAt n (occurrences_in e)) places word → Matches e word)
    → (words : List (List ℕ)) (word : List L) → AllByRecursion (Matches (placed n e)) words → AllZip (OccursAt n (occurrences_in e)) (joined words) word → WritesPieces e words word
pieces_written n e each [] [] all z = record { pieces = []; split = refl; matched = tt; some = λ h k. h refl }
pieces_written n e each [] (x ∷ word) all z = absurd z
pieces_written n e each (places ∷ words) word all z =
    let p = zip_parts (OccursAt n (occurrences_in e)) places (joined words) word z in
    let b = pieces_written n e each words p.second all.1 p.seconds in
    record {
      pieces = p.first ∷ b.pieces;
      split = p.split ∙ ap (λ v. p.first ++ v) b.split;
      matched = (each places p.first all.0 p.firsts, b.matched);
      some = λ h k. cc;
    }

-- the letters of a word over the places are matched
pub word_written : {L : Type 0} (n : ℕ) (e : Expression L) (places : List ℕ) (word : List L) → Matches (placed n e) places → AllZip (OccursAt n (occurrences_in e)) places word → Matches e word
word_written {L} n empty places word m z =
    let P : List ℕ → Type 0 = λ w. AllZip (OccursAt {L = L} n []) w word in
    nothing word (subst P m z)
  where
    nothing : (word : List L) → AllZip (OccursAt {L = L} n []) [] word → word ≡ []
    nothing [] z = refl
    nothing (x ∷ word) z = absurd z
word_written {L} n (letter x) places word m z =
    let P : List ℕ → Type 0 = λ w. AllZip (OccursAt n (Some x ∷ [])) w word in
    one word (subst P m z)
  where
    one : (word : List L) → AllZip (OccursAt n (Some x ∷ [])) (n ∷ []) word → word ≡ x ∷ []
    one [] z = absurd z
    one (y ∷ []) z = elim z.0 [ inl p ↦ ap (λ t. t ∷ []) (sym p.1) | inr q ↦ absurd q ]
    one (y ∷ t ∷ word) z = absurd z.1
word_written {L} n any places word m z =
    let P : List ℕ → Type 0 = λ w. AllZip (OccursAt {L = L} n (None ∷ [])) w word in
    one word (subst P m z)
  where
    one : (word : List L) → AllZip (OccursAt {L = L} n (None ∷ [])) (n ∷ []) word → (x : L) × (word ≡ x ∷ [])
    one [] z = absurd z
    one (y ∷ []) z = (y, refl)
    one (y ∷ t ∷ word) z = absurd z.1
word_written {L} n (either e f) places word m z =
    elim m [
      | inl h ↦ inl (word_written n e places word h (zip_weaker_where (IsWithin n (n + length (occurrences_in e))) (OccursAt n (occurrences_in e ++ occurrences_in f)) (OccursAt n (occurrences_in e))
          (λ place x w s. occurs_in_left n (occurrences_in e) (occurrences_in f) place x w s) places word (places_within n e places h) z))
      | inr h ↦ inr (word_written (n + length (occurrences_in e)) f places word h (zip_weaker_where (IsWithin (n + length (occurrences_in e)) (n + length (occurrences_in e) + length (occurrences_in f)))
          (OccursAt n (occurrences_in e ++ occurrences_in f)) (OccursAt (n + length (occurrences_in e)) (occurrences_in f))
          (λ place x w s. occurs_in_right n (occurrences_in e) (occurrences_in f) place (n + length (occurrences_in e) + length (occurrences_in f)) x w s) places word (places_within (n + length (occurrences_in e)) f places h) z))
    ]
word_written {L} n (follow e f) places word m z =
    let P : List ℕ → Type 0 = λ w. AllZip (OccursAt n (occurrences_in e ++ occurrences_in f)) w word in
    let p = zip_parts (OccursAt n (occurrences_in e ++ occurrences_in f)) m.0 m.1 word (subst P m.2 z) in (
      p.first,
      p.second,
      p.split,
      word_written n e m.0 p.first m.3 (zip_weaker_where (IsWithin n (n + length (occurrences_in e))) (OccursAt n (occurrences_in e ++ occurrences_in f)) (OccursAt n (occurrences_in e))
          (λ place x w s. occurs_in_left n (occurrences_in e) (occurrences_in f) place x w s) m.0 p.first (places_within n e m.0 m.3) p.firsts),
      word_written (n + length (occurrences_in e)) f m.1 p.second m.4 (zip_weaker_where (IsWithin (n + length (occurrences_in e)) (n + length (occurrences_in e) + length (occurrences_in f)))
          (OccursAt n (occurrences_in e ++ occurrences_in f)) (OccursAt (n + length (occurrences_in e)) (occurrences_in f))
          (λ place x w s. occurs_in_right n (occurrences_in e) (occurrences_in f) place (n + length (occurrences_in e) + length (occurrences_in f)) x w s) m.1 p.second (places_within (n + length (occurrences_in e)) f m.1 m.4) p.seconds),
    )
word_written {L} n (star e) places word m z =
    let P : List ℕ → Type 0 = λ w. AllZip (OccursAt n (occurrences_in e)) w word in
    let s = pieces_written n e (word_written n e) m.0 word m.2 (subst P m.1 z) in
    (s.pieces, s.split, s.matched)
word_written {L} n (plus e) places word m z =
    let P : List ℕ → Type 0 = λ w. AllZip (OccursAt n (occurrences_in e)) w word in
    let s = pieces_written n e (word_written n e) m.0 word m.3 (subst P m.2 z) in
    (s.pieces, s.some m.1, s.split, s.matched)
word_written {L} n (optional e) places word m z =
    elim m [
      | inl h ↦ let P : List ℕ → Type 0 = λ w. AllZip (OccursAt n (occurrences_in e)) w word in inl (nothing word (subst P h z))
      | inr h ↦ inr (word_written n e places word h z)
    ]
  where
    nothing : (word : List L) → AllZip (OccursAt n (occurrences_in e)) [] word → word ≡ []
    nothing [] z = refl
    nothing (x ∷ word) z = absurd z
