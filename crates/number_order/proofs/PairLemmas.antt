-- Two words that are read side by side: where they lead, and what that says of the numbers.
use Rattle.std.proofs.Common.{◌≡◌, ℕ, ◌*◌, ◌/◌, ◌%◌, ◌<◌, Bool, ◌&&◌, slice_index, Result, Ok, Err, IfOk, List, [], ◌∷◌, ◌++◌, map, get_or, length, Option, Some, refl, ap, sym, ◌∙◌, subst, arith, ◌↔◌, IsTrue, Ordering, Equal, nat_cmp, ◌==◌, div-one, mul-one}
use Rattle.std.specs.Ordering.{ordering_index}
use Rattle.std.specs.Cmp.Lexicographic.{slice_cmp}
use Rattle.std.proofs.lemmas.Bool.{and_parts, and_from}
use Rattle.std.proofs.lemmas.List.{length-map}
use Rattle.std.proofs.lemmas.List.FromFn.{length-map-range_with_len, get_or-map-range_with_len}
use Rattle.std.proofs.lemmas.Nat.{div_below, mod_below}
use Rattle.digit_tuple.specs.Letters.{IsWord, product}
use Rattle.digit_tuple.specs.Paddings.{in_order}
use Rattle.digit_tuple.specs.Parts.{part, letter_part}
use Rattle.digit_tuple.specs.Deterministic.{Automaton, letters_of, accepting_of, accepts_of}
use Rattle.digit_tuple.specs.Keys.{key_run, key_accepts, LeadAlike}
use Rattle.digit_tuple.specs.declared.direction.Direction.{Direction}
use Rattle.digit_tuple.proofs.LetterLemmas.{positive_right}
use Rattle.residual_classes.specs.Classes.{next_of, first_of}
use Rattle.minimise.specs.Residuals.{SameAfter}
use Rattle.minimise.specs.Canonical.{IsCanonical}
use Rattle.minimise.proofs.LeadLemmas.{lead, accepting_of-lead, accepts_of-first, SameAfter-lead, one_lead}
use Rattle.numeration.specs.Words.{rank}
use Rattle.numeration.specs.Systems.{System, IsSystem}
use Rattle.numeration.specs.Representation.{Represents, first_track, other_tracks, letters_in}
use Rattle.numeration.specs.Relations.{IsLanguageOf, HoldsOf, IsPairOf, IsCompared}
use Rattle.number_order.specs.Orders.{pair_letters, pair_track, comparison, OrderAlike}
use Rattle.number_order.specs.PairKeys.{ordering_at, compared_more, at, first_pair, next_states_of, next_pair, is_compared_pair}
use Rattle.digit_tuple.proofs.PaddingLemmas.{length-in_order, in_order-map}
use Rattle.digit_tuple.proofs.ExploredLemmas.{some_value}
use Rattle.numeration.proofs.ConstantLemmas.{one_track}
use Rattle.number_order.proofs.OrderLemmas.{ordering_at-index, comparison-ranks, wanted_is, joined, joined-nil, joined-step, joined-all}

-- in the list of where each digit leads a digit has a place, which holds where it leads
pub at-next_states : (d : Automaton) (q digits digit : ℕ) (states : List ℕ) → states ≡ next_states_of d q digits → digit < digits → (digit < length states) × (at states digit ≡ next_of d q digit)
at-next_states d q digits digit states are small = subst (λ (s : List ℕ). (digit < length s) × (at s digit ≡ next_of d q digit)) (sym are) (within, get_or-map-range_with_len (next_of d q) 0 digits digit digit 0 small (omega arith))
  where
    within : digit < length (next_states_of d q digits)
    within = omega (arith, small, length-map-range_with_len (next_of d q) 0 digits)

-- the digits of a letter of two tracks
pub letter_digits : (n a : ℕ) → a < n * n → (a / n < n) × (a % n < n)
letter_digits n a small =
    let some : 0 < n = positive_right n n (omega (arith, small)) in
    (div_below a n n some small, mod_below a n some)

-- the digits on the first and on the second of two tracks
abbrev pub firsts : ℕ → List ℕ → List ℕ
firsts n w = map (λ a. a / n) w

abbrev pub seconds : ℕ → List ℕ → List ℕ
seconds n w = map (λ a. a % n) w

same_length : (n : ℕ) (w : List ℕ) → length (firsts n w) ≡ length (seconds n w)
same_length n w = length-map w (λ a. a / n) ∙ sym (length-map w (λ a. a % n))

module _ (direction : Direction) (d : Automaton) (n : ℕ) where
  -- the key that a word leads to from a key of states and a comparison
  abbrev pub pair_key : ℕ → ℕ → Ordering → List ℕ → List ℕ
  pair_key p q o w = lead d p (firsts n w) ∷ lead d q (seconds n w) ∷ ordering_index (joined direction o (firsts n w) (seconds n w)) ∷ []

  abbrev pub pair_after : List ℕ → ℕ → Option (List ℕ)
  pair_after key a = Some (next_pair direction d n key a)

  pair_key-nil : (p q : ℕ) (o : Ordering) → p ∷ q ∷ ordering_index o ∷ [] ≡ pair_key p q o []
  pair_key-nil p q o = ap (λ (c : Ordering). p ∷ q ∷ ordering_index c ∷ []) (sym (joined-nil direction o))

  -- the key after a letter
  abbrev moved : ℕ → ℕ → Ordering → ℕ → List ℕ
  moved p q o a = next_of d p (a / n) ∷ next_of d q (a % n) ∷ ordering_index (compared_more direction o (a / n) (a % n)) ∷ []

  next_pair-moved : (p q : ℕ) (o : Ordering) (a : ℕ) → next_pair direction d n (p ∷ q ∷ ordering_index o ∷ []) a ≡ moved p q o a
  next_pair-moved p q o a = ap (λ (c : Ordering). next_of d p (a / n) ∷ next_of d q (a % n) ∷ ordering_index (compared_more direction c (a / n) (a % n)) ∷ []) (ordering_at-index o)

  pair_key-step : (p q : ℕ) (o : Ordering) (a : ℕ) (w : List ℕ) → pair_key (next_of d p (a / n)) (next_of d q (a % n)) (compared_more direction o (a / n) (a % n)) w ≡ pair_key p q o (a ∷ w)
  pair_key-step p q o a w =
      ap (λ (c : Ordering). lead d (next_of d p (a / n)) (firsts n w) ∷ lead d (next_of d q (a % n)) (seconds n w) ∷ ordering_index c ∷ [])
      (joined-step direction o (a / n) (a % n) (firsts n w) (seconds n w) (same_length n w))

  key_run-pair : (w : List ℕ) (p q : ℕ) (o : Ordering) → key_run pair_after (p ∷ q ∷ ordering_index o ∷ []) w ≡ Some (pair_key p q o w)
  key_run-pair [] p q o = ap Some (pair_key-nil p q o)
  key_run-pair (a ∷ w) p q o =
      ap (λ (key : List ℕ). key_run pair_after key w) (next_pair-moved p q o a)
      ∙ key_run-pair w (next_of d p (a / n)) (next_of d q (a % n)) (compared_more direction o (a / n) (a % n))
      ∙ ap Some (pair_key-step p q o a w)

  key_accepts-pair : (wanted : Ordering) (w : List ℕ) (p q : ℕ) (o : Ordering) → key_accepts pair_after (is_compared_pair wanted d) (p ∷ q ∷ ordering_index o ∷ []) w ≡ is_compared_pair wanted d (pair_key p q o w)
  key_accepts-pair wanted [] p q o = ap (is_compared_pair wanted d) (pair_key-nil p q o)
  key_accepts-pair wanted (a ∷ w) p q o =
      ap (λ (key : List ℕ). key_accepts pair_after (is_compared_pair wanted d) key w) (next_pair-moved p q o a)
      ∙ key_accepts-pair wanted w (next_of d p (a / n)) (next_of d q (a % n)) (compared_more direction o (a / n) (a % n))
      ∙ ap (is_compared_pair wanted d) (pair_key-step p q o a w)

  -- the key that a word leads to from the start
  abbrev pub whole_key : List ℕ → List ℕ
  whole_key w = pair_key (first_of d) (first_of d) Equal w

  -- a word is accepted where both its tracks are in the language and compare as wanted
  pub pair_accepts : (wanted : Ordering) (w : List ℕ) → key_accepts pair_after (is_compared_pair wanted d) (first_pair d) w
      ≡ (accepts_of d (firsts n w) && (accepts_of d (seconds n w) && (ordering_index (slice_cmp nat_cmp (in_order direction (firsts n w)) (in_order direction (seconds n w))) == ordering_index wanted)))
  pair_accepts wanted w =
      key_accepts-pair wanted w (first_of d) (first_of d) Equal
      ∙ ap (λ (b : Bool). b && (accepting_of d (lead d (first_of d) (seconds n w)) && (ordering_index (joined direction Equal (firsts n w) (seconds n w)) == ordering_index wanted))) (valid (firsts n w))
      ∙ ap (λ (b : Bool). accepts_of d (firsts n w) && (b && (ordering_index (joined direction Equal (firsts n w) (seconds n w)) == ordering_index wanted))) (valid (seconds n w))
      ∙ ap (λ (o : Ordering). accepts_of d (firsts n w) && (accepts_of d (seconds n w) && (ordering_index o == ordering_index wanted))) (joined-all direction (firsts n w) (seconds n w))
    where
      valid : (x : List ℕ) → accepting_of d (lead d (first_of d) x) ≡ accepts_of d x
      valid x = sym (accepting_of-lead d x (first_of d)) ∙ accepts_of-first d x

  module _ (sizes : d.sizes ≡ n ∷ []) where
    letters_are : n ≡ letters_of d
    letters_are = sym (mul-one n) ∙ ap product (sym sizes)

    pub pair_letters-are : n * n ≡ pair_letters d
    pair_letters-are = (let one : n * n ≡ n * (n * 1) = ap (λ m. n * m) (sym (mul-one n)) in one) ∙ ap (λ ss. product (ss ++ ss)) (sym sizes)

    pair_track-first : (w : List ℕ) → pair_track d 0 w ≡ firsts n w
    pair_track-first w = ap (λ ss. part (ss ++ ss) (0 ∷ []) w) sizes ∙ each w
      where
        each : (v : List ℕ) → part (n ∷ n ∷ []) (0 ∷ []) v ≡ firsts n v
        each [] = refl
        each (a ∷ v) =
            let one : letter_part (n ∷ n ∷ []) (0 ∷ []) a ≡ a / (n * 1) = omega arith in
            ap (λ m. m ∷ part (n ∷ n ∷ []) (0 ∷ []) v) (one ∙ ap (λ m. a / m) (mul-one n)) ∙ ap (λ u. (a / n) ∷ u) (each v)

    pair_track-second : (w : List ℕ) → pair_track d 1 w ≡ seconds n w
    pair_track-second w = ap (λ ss. part (ss ++ ss) (1 ∷ []) w) sizes ∙ each w
      where
        each : (v : List ℕ) → part (n ∷ n ∷ []) (1 ∷ []) v ≡ seconds n v
        each [] = refl
        each (a ∷ v) =
            let one : letter_part (n ∷ n ∷ []) (1 ∷ []) a ≡ (a % (n * 1)) / 1 = omega arith in
            ap (λ m. m ∷ part (n ∷ n ∷ []) (1 ∷ []) v) (one ∙ div-one (a % (n * 1)) ∙ ap (λ m. a % m) (mul-one n)) ∙ ap (λ u. (a % n) ∷ u) (each v)

    comparison-joined : (w : List ℕ) → comparison direction d w ≡ joined direction Equal (firsts n w) (seconds n w)
    comparison-joined w =
        ap (λ x. slice_cmp nat_cmp (in_order direction x) (in_order direction (pair_track d 1 w))) (pair_track-first w)
        ∙ ap (λ y. slice_cmp nat_cmp (in_order direction (firsts n w)) (in_order direction y)) (pair_track-second w)
        ∙ sym (joined-all direction (firsts n w) (seconds n w))

    -- words that lead to one key are alike
    pub alike_from_keys : (w v : List ℕ) → LeadAlike pair_after (first_pair d) w v → OrderAlike direction d w v
    alike_from_keys w v same = record {
      first = subst (λ x. SameAfter d x (pair_track d 0 v)) (sym (pair_track-first w)) (subst (SameAfter d (firsts n w)) (sym (pair_track-first v)) (SameAfter-lead d (firsts n w) (firsts n v) (ap (λ key. at key 0) keys)));
      second = subst (λ x. SameAfter d x (pair_track d 1 v)) (sym (pair_track-second w)) (subst (SameAfter d (seconds n w)) (sym (pair_track-second v)) (SameAfter-lead d (seconds n w) (seconds n v) (ap (λ key. at key 1) keys)));
      compared = comparison-joined w ∙ orderings ∙ sym (comparison-joined v);
    }
      where
        keys : whole_key w ≡ whole_key v
        keys = some_value (whole_key w) (whole_key v) (sym (key_run-pair w (first_of d) (first_of d) Equal) ∙ same ∙ key_run-pair v (first_of d) (first_of d) Equal)

        orderings : joined direction Equal (firsts n w) (seconds n w) ≡ joined direction Equal (firsts n v) (seconds n v)
        orderings =
            sym (ordering_at-index (joined direction Equal (firsts n w) (seconds n w)))
            ∙ ap (λ key. ordering_at (at key 2)) keys
            ∙ ordering_at-index (joined direction Equal (firsts n v) (seconds n v))

    IsWord-firsts : (w : List ℕ) → IsWord (n * n) w → IsWord (letters_of d) (firsts n w)
    IsWord-firsts [] over = tt
    IsWord-firsts (a ∷ w) over = (subst (λ m. a / n < m) (letters_are) (letter_digits n a over.0).0, IsWord-firsts w over.1)

    IsWord-seconds : (w : List ℕ) → IsWord (n * n) w → IsWord (letters_of d) (seconds n w)
    IsWord-seconds [] over = tt
    IsWord-seconds (a ∷ w) over = (subst (λ m. a % n < m) (letters_are) (letter_digits n a over.0).1, IsWord-seconds w over.1)

    -- and words that are alike lead to one key
    pub keys_from_alike : (w v : List ℕ) → IsCanonical d → IsWord (n * n) w → IsWord (n * n) v → OrderAlike direction d w v → LeadAlike pair_after (first_pair d) w v
    keys_from_alike w v canonical over there alike =
        key_run-pair w (first_of d) (first_of d) Equal
        ∙ ap (λ p. Some (p ∷ lead d (first_of d) (seconds n w) ∷ ordering_index (joined direction Equal (firsts n w) (seconds n w)) ∷ [])) first
        ∙ ap (λ q. Some (lead d (first_of d) (firsts n v) ∷ q ∷ ordering_index (joined direction Equal (firsts n w) (seconds n w)) ∷ [])) second
        ∙ ap (λ (o : Ordering). Some (lead d (first_of d) (firsts n v) ∷ lead d (first_of d) (seconds n v) ∷ ordering_index o ∷ [])) orderings
        ∙ sym (key_run-pair v (first_of d) (first_of d) Equal)
      where
        first : lead d (first_of d) (firsts n w) ≡ lead d (first_of d) (firsts n v)
        first = one_lead d canonical (firsts n w) (firsts n v) (IsWord-firsts w over) (IsWord-firsts v there)
            (subst (λ x. SameAfter d x (firsts n v)) (pair_track-first w) (subst (SameAfter d (pair_track d 0 w)) (pair_track-first v) alike.first))

        second : lead d (first_of d) (seconds n w) ≡ lead d (first_of d) (seconds n v)
        second = one_lead d canonical (seconds n w) (seconds n v) (IsWord-seconds w over) (IsWord-seconds v there)
            (subst (λ x. SameAfter d x (seconds n v)) (pair_track-second w) (subst (SameAfter d (pair_track d 1 w)) (pair_track-second v) alike.second))

        orderings : joined direction Equal (firsts n w) (seconds n w) ≡ joined direction Equal (firsts n v) (seconds n v)
        orderings = sym (comparison-joined w) ∙ alike.compared ∙ comparison-joined v

-- an automaton that accepts where both tracks are in the language and compare as wanted
pub record IsPairing (direction : Direction) (wanted : Ordering) (d : Automaton) (n : ℕ) (e : Automaton) : Type 0 where
  pub sizes : e.sizes ≡ n ∷ n ∷ []
  pub accepts : (w : List ℕ) → IsWord (n * n) w → accepts_of e w ≡ key_accepts (pair_after direction d n) (is_compared_pair wanted d) (first_pair d) w

-- it holds of the pairs of numbers that compare as wanted
pairing_at : (direction : Direction) (wanted : Ordering) (d : Automaton) (s : System) (e : Automaton) → IsSystem s → IsLanguageOf direction s d → IsPairing direction wanted d s.digits e
    → HoldsOf direction (s ∷ s ∷ []) (IsPairOf (IsCompared wanted)) e
pairing_at direction wanted d s e is language pairing = record { sizes = pairing.sizes; accepts = λ w over. (there w over, back w over) }
  where
    n : ℕ
    n = s.digits

    first_of_pair : List ℕ → List ℕ
    first_of_pair w = in_order direction (firsts n w)

    second_of_pair : List ℕ → List ℕ
    second_of_pair w = in_order direction (seconds n w)

    test : List ℕ → Bool
    test w = ordering_index (slice_cmp nat_cmp (first_of_pair w) (second_of_pair w)) == ordering_index wanted

    small : (w : List ℕ) → IsWord (letters_in (s ∷ s ∷ [])) w → IsWord (n * n) w
    small w over = subst (λ m. IsWord m w) (ap (λ m. n * m) (mul-one n)) over

    accepted : (w : List ℕ) → IsWord (letters_in (s ∷ s ∷ [])) w → accepts_of e w ≡ (accepts_of d (firsts n w) && (accepts_of d (seconds n w) && test w))
    accepted w over = pairing.accepts w (small w over) ∙ pair_accepts direction d n wanted w

    first : (w : List ℕ) → first_track (s ∷ []) (in_order direction w) ≡ first_of_pair w
    first w = ap (λ m. map (λ a. a / m) (in_order direction w)) (mul-one n) ∙ sym (in_order-map direction (λ a. a / n) w)

    second : (w : List ℕ) → first_track [] (other_tracks (s ∷ []) (in_order direction w)) ≡ second_of_pair w
    second w = one_track (other_tracks (s ∷ []) (in_order direction w)) ∙ ap (λ m. map (λ a. a % m) (in_order direction w)) (mul-one n) ∙ sym (in_order-map direction (λ a. a % n) w)

    ranks : (w : List ℕ) → IsTrue (s.test (first_of_pair w)) → IsTrue (s.test (second_of_pair w)) → IsTrue (test w) ↔ IsCompared wanted (rank n s.test (first_of_pair w)) (rank n s.test (second_of_pair w))
    ranks w valid also =
        wanted_is (slice_cmp nat_cmp (first_of_pair w) (second_of_pair w)) wanted (rank n s.test (first_of_pair w)) (rank n s.test (second_of_pair w))
        (comparison-ranks n s.test (first_of_pair w) (second_of_pair w) is valid also
        (length-in_order direction (firsts n w) ∙ same_length n w ∙ sym (length-in_order direction (seconds n w))))

    there : (w : List ℕ) → IsWord (letters_in (s ∷ s ∷ [])) w → IsTrue (accepts_of e w) → (ns : List ℕ) × Represents (s ∷ s ∷ []) (in_order direction w) ns × IsPairOf (IsCompared wanted) ns
    there w over h =
        let x : List ℕ = first_of_pair w in
        let y : List ℕ = second_of_pair w in
        let parts = and_parts (accepts_of d (firsts n w)) (accepts_of d (seconds n w) && test w) (sym (accepted w over) ∙ h) in
        let others = and_parts (accepts_of d (seconds n w)) (test w) parts.1 in
        let valid : IsTrue (s.test x) = sym (language.accepts (firsts n w)) ∙ parts.0 in
        let also : IsTrue (s.test y) = sym (language.accepts (seconds n w)) ∙ others.0 in (
          rank n s.test x ∷ rank n s.test y ∷ [],
          (
            subst (λ z. IsTrue (s.test z) × (rank n s.test z ≡ rank n s.test x)) (sym (first w)) (valid, refl),
            (subst (λ z. IsTrue (s.test z) × (rank n s.test z ≡ rank n s.test y)) (sym (second w)) (also, refl), tt),
          ),
          (rank n s.test x, rank n s.test y, refl, (ranks w valid also).0 others.1),
        )

    back : (w : List ℕ) → IsWord (letters_in (s ∷ s ∷ [])) w → ((ns : List ℕ) × Represents (s ∷ s ∷ []) (in_order direction w) ns × IsPairOf (IsCompared wanted) ns) → IsTrue (accepts_of e w)
    back w over found =
        let x : List ℕ = first_of_pair w in
        let y : List ℕ = second_of_pair w in
        let i : ℕ = found.2.0 in
        let j : ℕ = found.2.1 in
        let represented : Represents (s ∷ s ∷ []) (in_order direction w) (i ∷ j ∷ []) = subst (Represents (s ∷ s ∷ []) (in_order direction w)) found.2.2 found.1 in
        let low = subst (λ z. IsTrue (s.test z) × (rank n s.test z ≡ i)) (first w) represented.0 in
        let high = subst (λ z. IsTrue (s.test z) × (rank n s.test z ≡ j)) (second w) represented.1.0 in
        let compared : IsCompared wanted (rank n s.test x) (rank n s.test y) = subst (λ m. IsCompared wanted m (rank n s.test y)) (sym low.1) (subst (IsCompared wanted i) (sym high.1) found.2.3) in
        accepted w over
        ∙ and_from (accepts_of d (firsts n w)) (accepts_of d (seconds n w) && test w) (language.accepts (firsts n w) ∙ low.0)
        (and_from (accepts_of d (seconds n w)) (test w) (language.accepts (seconds n w) ∙ high.0) ((ranks w low.0 high.0).1 compared))

pub pairing_holds : (direction : Direction) (wanted : Ordering) (d : Automaton) (n : ℕ) (s : System) (e : Automaton) → d.sizes ≡ n ∷ [] → IsSystem s → IsLanguageOf direction s d → IsPairing direction wanted d n e
    → HoldsOf direction (s ∷ s ∷ []) (IsPairOf (IsCompared wanted)) e
pairing_holds direction wanted d n s e sizes is language pairing =
    let same : n ≡ s.digits = ap (λ ss. get_or ss 0 0) (sym sizes ∙ language.sizes) in
    pairing_at direction wanted d s e is language (subst (λ m. IsPairing direction wanted d m e) same pairing)

-- a list of one number
pub one_size : (ss : List ℕ) (m : ℕ) → length ss ≡ 1 → m ≡ slice_index ss 0 → ss ≡ m ∷ []
one_size [] m one is = absurd (omega (arith, one))
one_size (s ∷ []) m one is = ap (λ k. k ∷ []) (sym is)
one_size (s ∷ t ∷ ss) m one is = absurd (omega (arith, one))

-- two clauses on one result
pub both_ok : {X Y : Type 0} (r : Result X Y) (P Q : X → Type 0) → IfOk r P → IfOk r Q → IfOk r (λ x. P x × Q x)
both_ok (Ok x) P Q first second = (first, second)
both_ok (Err e) P Q first second = tt
