-- Words over the places that pass through one place may be crossed there, so such a word is determined by its pairs of neighbours.
use Rattle.std.proofs.Common.{◌≡◌, ℕ, zero, suc, ◌+◌, List, [], ◌∷◌, ◌++◌, length, inl, inr, refl, sym, ap, ◌∙◌, subst, arith, append_assoc}
use Rattle.std.specs.List.{AllByRecursion}
use Rattle.digit_tuple.proofs.AllLemmas.{all_append}
use Rattle.regex_build.specs.Expression.{Expression, empty, letter, any, either, follow, star, plus, optional, occurrences_in, placed}
use Rattle.regex_build.specs.Matches.{Matches, joined}
use Rattle.regex_build.specs.Positions.{ComesNext, MayEnd}
use Rattle.regex_build.proofs.ListSteps.{middle_is_some, middle_of_one, middle-append, joined-append}
use Rattle.regex_build.proofs.PlaceWords.{IsWithin, place_within}

-- the piece in which an element is, and the pieces round it
pub record InPiece (P : List ℕ → Type 0) (u : List ℕ) (place : ℕ) (v : List ℕ) : Type 0 where
  pub pieces : List (List ℕ)
  pub first : List ℕ
  pub last : List ℕ
  pub more : List (List ℕ)
  pub before : u ≡ joined pieces ++ first
  pub after : v ≡ last ++ joined more
  pub all_before : AllByRecursion P pieces
  pub here : P (first ++ place ∷ last)
  pub all_after : AllByRecursion P more

pub in_piece : (P : List ℕ → Type 0) (pieces : List (List ℕ)) (u : List ℕ) (place : ℕ) (v : List ℕ) → AllByRecursion P pieces → u ++ place ∷ v ≡ joined pieces → InPiece P u place v
in_piece P [] u place v all h = absurd (middle_is_some u place v h)
in_piece P (piece ∷ pieces) u place v all h =
    elim (middle-append u place v piece (joined pieces) h) [
      | inl p ↦ record { pieces = []; first = u; last = p.rest; more = pieces; before = refl; after = p.after; all_before = tt; here = subst P p.first all.0; all_after = all.1 }
      | inr p ↦
          let q = in_piece P pieces p.rest place v all.1 (sym p.second) in
          record {
            pieces = piece ∷ q.pieces;
            first = q.first;
            last = q.last;
            more = q.more;
            before = p.before ∙ (ap (λ w. piece ++ w) q.before ∙ sym (append_assoc piece (joined q.pieces) q.first));
            after = q.after;
            all_before = (all.0, q.all_before);
            here = q.here;
            all_after = q.all_after;
          }
    ]

-- the pieces before an element and its piece's prefix, then the rest of another piece and the pieces after it
crossed : (pieces : List (List ℕ)) (first : List ℕ) (place : ℕ) (last : List ℕ) (more : List (List ℕ))
    → (joined pieces ++ first) ++ place ∷ (last ++ joined more) ≡ joined (pieces ++ (first ++ place ∷ last) ∷ more)
crossed pieces first place last more =
    append_assoc (joined pieces) first (place ∷ (last ++ joined more))
    ∙ (ap (λ w. joined pieces ++ w) (sym (append_assoc first (place ∷ last) (joined more))) ∙ sym (joined-append pieces ((first ++ place ∷ last) ∷ more)))

-- no place is one of two expressions one after the other
pub places_apart : {L : Type 0} (n : ℕ) (e f : Expression L) (u : List ℕ) (place : ℕ) (v s t : List ℕ) → Matches (placed n e) (u ++ place ∷ v) → Matches (placed (n + length (occurrences_in e)) f) (s ++ place ∷ t) → ⊥
places_apart n e f u place v s t a b =
    let w : IsWithin n (n + length (occurrences_in e)) place = place_within n e u place v a in
    let x : IsWithin (n + length (occurrences_in e)) (n + length (occurrences_in e) + length (occurrences_in f)) place = place_within (n + length (occurrences_in e)) f s place t b in
    omega arith

-- two words through one place: the prefix of the one and the rest of the other
pub merged : {L : Type 0} (n : ℕ) (e : Expression L) (place : ℕ) (u v s t : List ℕ) → Matches (placed n e) (u ++ place ∷ v) → Matches (placed n e) (s ++ place ∷ t) → Matches (placed n e) (u ++ place ∷ t)
merged n empty place u v s t a b = absurd (middle_is_some u place v a)
merged n (letter x) place u v s t a b =
    let p = middle_of_one u place v n a in
    let q = middle_of_one s place t n b in
    let e1 : u ≡ [] = p.before in
    let e2 : place ≡ n = p.same in
    let e3 : t ≡ [] = q.after in
    rw (e1, e2, e3) refl
merged n any place u v s t a b =
    let p = middle_of_one u place v n a in
    let q = middle_of_one s place t n b in
    let e1 : u ≡ [] = p.before in
    let e2 : place ≡ n = p.same in
    let e3 : t ≡ [] = q.after in
    rw (e1, e2, e3) refl
merged {L} n (either e f) place u v s t a b =
    elim a [
      | inl p ↦ elim b [
        | inl q ↦ inl (merged n e place u v s t p q)
        | inr q ↦ absurd (places_apart n e f u place v s t p q)
      ]
      | inr p ↦ elim b [
        | inl q ↦ absurd (places_apart n e f s place t u v q p)
        | inr q ↦ inr (merged (n + length (occurrences_in e)) f place u v s t p q)
      ]
    ]
merged {L} n (follow e f) place u v s t a b =
    elim (middle-append u place v a.0 a.1 a.2) [
      | inl p ↦ elim (middle-append s place t b.0 b.1 b.2) [
        | inl q ↦
            let P : List ℕ → Type 0 = λ w. Matches (placed n e) w in (
              u ++ place ∷ q.rest,
              b.1,
              ap (λ w. u ++ place ∷ w) q.after ∙ sym (append_assoc u (place ∷ q.rest) b.1),
              merged n e place u p.rest s q.rest (subst P p.first a.3) (subst P q.first b.3),
              b.4,
            )
        | inr q ↦ absurd (places_apart n e f u place p.rest q.rest t (let P : List ℕ → Type 0 = λ w. Matches (placed n e) w in subst P p.first a.3) (let Q : List ℕ → Type 0 = λ w. Matches (placed (n + length (occurrences_in e)) f) w in subst Q q.second b.4))
      ]
      | inr p ↦ elim (middle-append s place t b.0 b.1 b.2) [
        | inl q ↦ absurd (places_apart n e f s place q.rest p.rest v (let P : List ℕ → Type 0 = λ w. Matches (placed n e) w in subst P q.first b.3) (let Q : List ℕ → Type 0 = λ w. Matches (placed (n + length (occurrences_in e)) f) w in subst Q p.second a.4))
        | inr q ↦
            let Q : List ℕ → Type 0 = λ w. Matches (placed (n + length (occurrences_in e)) f) w in (
              a.0,
              p.rest ++ place ∷ t,
              ap (λ w. w ++ place ∷ t) p.before ∙ append_assoc a.0 p.rest (place ∷ t),
              a.3,
              merged (n + length (occurrences_in e)) f place p.rest v q.rest t (subst Q p.second a.4) (subst Q q.second b.4),
            )
      ]
    ]
merged {L} n (star e) place u v s t a b =
    let p = in_piece (Matches (placed n e)) a.0 u place v a.2 a.1 in
    let q = in_piece (Matches (placed n e)) b.0 s place t b.2 b.1 in (
      p.pieces ++ (p.first ++ place ∷ q.last) ∷ q.more,
      ap (λ w. w ++ place ∷ t) p.before ∙ (ap (λ w. (joined p.pieces ++ p.first) ++ place ∷ w) q.after ∙ crossed p.pieces p.first place q.last q.more),
      all_append (Matches (placed n e)) p.pieces ((p.first ++ place ∷ q.last) ∷ q.more) p.all_before (merged n e place p.first p.last q.first q.last p.here q.here, q.all_after),
    )
merged {L} n (plus e) place u v s t a b =
    let p = in_piece (Matches (placed n e)) a.0 u place v a.3 a.2 in
    let q = in_piece (Matches (placed n e)) b.0 s place t b.3 b.2 in (
      p.pieces ++ (p.first ++ place ∷ q.last) ∷ q.more,
      middle_is_some p.pieces (p.first ++ place ∷ q.last) q.more,
      ap (λ w. w ++ place ∷ t) p.before ∙ (ap (λ w. (joined p.pieces ++ p.first) ++ place ∷ w) q.after ∙ crossed p.pieces p.first place q.last q.more),
      all_append (Matches (placed n e)) p.pieces ((p.first ++ place ∷ q.last) ∷ q.more) p.all_before (merged n e place p.first p.last q.first q.last p.here q.here, q.all_after),
    )
merged {L} n (optional e) place u v s t a b =
    elim a [
      | inl p ↦ absurd (middle_is_some u place v p)
      | inr p ↦ elim b [
        | inl q ↦ absurd (middle_is_some s place t q)
        | inr q ↦ inr (merged n e place u v s t p q)
      ]
    ]

-- from state to state, each place coming next, to one where a word may end
abbrev pub IsChain : Expression ℕ → ℕ → List ℕ → Type 0
IsChain e state [] = MayEnd e state
IsChain e state (place ∷ places) = ComesNext e state place × IsChain e place places

pub matches_from_chain : {L : Type 0} (e : Expression L) (i : ℕ) (u v w : List ℕ) → Matches (placed 1 e) (u ++ suc i ∷ v) → IsChain (placed 1 e) (suc i) w → Matches (placed 1 e) (u ++ suc i ∷ w)
matches_from_chain e i u v [] m c = merged 1 e (suc i) u v c.0 [] m c.1
matches_from_chain e i u v (zero ∷ w) m c =
    let p : IsWithin 1 (1 + length (occurrences_in e)) 0 = place_within 1 e (c.0.0 ++ suc i ∷ []) 0 c.0.1 (let P : List ℕ → Type 0 = λ z. Matches (placed 1 e) z in subst P (sym (append_assoc c.0.0 (suc i ∷ []) (0 ∷ c.0.1))) c.0.2) in
    absurd (omega arith)
matches_from_chain e i u v (suc k ∷ w) m c =
    let P : List ℕ → Type 0 = λ z. Matches (placed 1 e) z in
    let one : Matches (placed 1 e) (u ++ suc i ∷ suc k ∷ c.0.1) = merged 1 e (suc i) u v c.0.0 (suc k ∷ c.0.1) m c.0.2 in
    let two : Matches (placed 1 e) ((u ++ suc i ∷ []) ++ suc k ∷ w) = matches_from_chain e k (u ++ suc i ∷ []) c.0.1 w (subst P (sym (append_assoc u (suc i ∷ []) (suc k ∷ c.0.1))) one) c.1 in
    subst P (append_assoc u (suc i ∷ []) (suc k ∷ w)) two

pub chain_from_matches : {L : Type 0} (e : Expression L) (i : ℕ) (u w : List ℕ) → Matches (placed 1 e) (u ++ suc i ∷ w) → IsChain (placed 1 e) (suc i) w
chain_from_matches e i u [] m = (u, m)
chain_from_matches e i u (zero ∷ w) m =
    let p : IsWithin 1 (1 + length (occurrences_in e)) 0 = place_within 1 e (u ++ suc i ∷ []) 0 w (let P : List ℕ → Type 0 = λ z. Matches (placed 1 e) z in subst P (sym (append_assoc u (suc i ∷ []) (0 ∷ w))) m) in
    absurd (omega arith)
chain_from_matches e i u (suc k ∷ w) m =
    let P : List ℕ → Type 0 = λ z. Matches (placed 1 e) z in
    ((u, w, m), chain_from_matches e k (u ++ suc i ∷ []) w (subst P (sym (append_assoc u (suc i ∷ []) (suc k ∷ w))) m))
