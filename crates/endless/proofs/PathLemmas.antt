-- States put in order, as far as they have come.
use Rattle.std.proofs.Common.{◌≡◌, ◌≢◌, ◌==◌, ◌||◌, ℕ, zero, suc, ◌+◌, ◌<◌, ◌≤◌, Bool, true, false, not, List, [], ◌∷◌, ◌++◌, length, get_or, take, if◌then◌else◌, ◌⊎◌, inl, inr, refl, sym, ap, ◌∙◌, subst, arith, eq-eqb}
use Rattle.std.proofs.lemmas.Bool.{cases_lt, cases_eq, eqb-true, false≢true, true≢false, ne_eqb}
use Rattle.std.proofs.lemmas.List.{take_all, take_more, take-append-le, get_or-take, length-take-le}
use Rattle.digit_tuple.specs.declared.transitions.Transition.{Transition}
use Rattle.digit_tuple.specs.Deterministic.{Automaton, IsTable, letters_of, states_of, transitions_of}
use Rattle.digit_tuple.proofs.PigeonLemmas.{few_below}
use Rattle.endless.specs.Links.{IsLink, HasRound}
use Rattle.endless.specs.Counts.{IsNumberIn, Grows, is_in, links, links_from, counted, AreIncoming, AreFree, AreReleased, IsSorted}
use Rattle.endless.proofs.OrderLemmas.{Grows-at}
use Rattle.endless.proofs.LinkCounts.{number_from_is_in, link_counted, counted_link, links_from-done, links_from-least, links_from-some}

-- the number is at an earlier place
abbrev pub IsEarlierNumber : List ℕ → ℕ → ℕ → Type 0
IsEarlierNumber xs j k = (i : ℕ) × (i < j) × (get_or xs i 0 ≡ k)

pub record IsUnderWay (d : Automaton) (z : ℕ) (pending order : List ℕ) (place : ℕ) : Type 0 where
  pub width : length pending ≡ states_of d
  pub free : AreFree pending order (states_of d)
  pub counts : (q : ℕ) → q < states_of d → get_or pending q 0 ≡ links_from d z (take place order) q (states_of d)
  pub before : (j p : ℕ) → j < length order → p < states_of d → 0 < links d z p (get_or order j 0) → IsEarlierNumber order j p

is_in_from_at : (xs : List ℕ) (k i : ℕ) → is_in xs k ≡ false → i < length xs → get_or xs i 0 ≢ k
is_in_from_at [] k i away within same = omega (arith, within)
is_in_from_at (x ∷ xs) k zero away within same = true≢false (sym (ap (λ b. b || is_in xs k) (eq-eqb x k same)) ∙ away)
is_in_from_at (x ∷ xs) k (suc i) away within same = is_in_from_at xs k i (by (x == k) away) (omega (arith, within)) same
  where
    by : (b : Bool) → (b || is_in xs k) ≡ false → is_in xs k ≡ false
    by true is = absurd (true≢false is)
    by false is = is

is_in-cases : (xs : List ℕ) (k : ℕ) → (is_in xs k ≡ true) ⊎ (is_in xs k ≡ false)
is_in-cases xs k = by (is_in xs k) refl
  where
    by : (b : Bool) → is_in xs k ≡ b → (is_in xs k ≡ true) ⊎ (is_in xs k ≡ false)
    by true is = inl is
    by false is = inr is

module _ (d : Automaton) (z : ℕ) where
  pub IsUnderWay-start : (pending order : List ℕ) → AreIncoming d z pending (states_of d) → AreFree pending order (length pending) → IsUnderWay d z pending order 0
  IsUnderWay-start pending order incoming free = record {
    width = incoming.width;
    free = all_free;
    counts = incoming.counts;
    before = λ j p within low some. absurd (omega (arith, some, links_from-least d z [] p (get_or order j 0) (states_of d) low refl, incoming.counts (get_or order j 0) (all_free.within j within), free.none j within));
  }
    where
      all_free : AreFree pending order (states_of d)
      all_free = subst (AreFree pending order) incoming.width free

  module _ (pending order : List ℕ) (place : ℕ) (direction : IsUnderWay d z pending order place) where
    -- past the end of the order nothing is to be done
    pub IsUnderWay-skip : length order ≤ place → IsUnderWay d z pending order (place + 1)
    IsUnderWay-skip past = record {
      width = direction.width;
      free = direction.free;
      counts = λ q within. direction.counts q within ∙ ap (λ (xs : List ℕ). links_from d z xs q (states_of d)) (take_all place order past ∙ sym (take_all (place + 1) order (omega (arith, past))));
      before = direction.before;
    }

    module _ (within : place < length order) where
      abbrev state : ℕ
      state = get_or order place 0

      -- the state is not done with
      away : is_in (take place order) state ≡ false
      away = by (is_in (take place order) state) refl
        where
          by : (b : Bool) → is_in (take place order) state ≡ b → b ≡ false
          by false is = refl
          by true is =
              let at = number_from_is_in (take place order) state is in
              let low : at.0 < place = omega (arith, at.1, length-take-le place order (omega (arith, within))) in
              absurd (direction.free.apart at.0 place low within (sym (get_or-take place order at.0 0 low) ∙ at.2))

      state_links : (q : ℕ) → q < states_of d → links d z state q ≤ get_or pending q 0
      state_links q small = omega (arith, direction.counts q small, links_from-least d z (take place order) state q (states_of d) (direction.free.within place within) away)

      -- its links are all counted still
      pub links_left : (s : ℕ) (row : List Transition) → s ≡ state → row ≡ transitions_of d s → (q : ℕ) → q < length pending → counted (s == z) row q ≤ get_or pending q 0
      links_left s row here is q small =
          let moved : counted (s == z) row q ≡ links d z state q = ap (λ (es : List Transition). counted (s == z) es q) is ∙ ap (λ (p : ℕ). links d z p q) here in
          omega (arith, moved, state_links q (omega (arith, small, direction.width)))

      module _ (new grown : List ℕ) (s : ℕ) (row : List Transition) (here : s ≡ state) (is : row ≡ transitions_of d s) (released : AreReleased (s == z) row pending new) (free : AreFree new grown (length new)) (grows : Grows order grown) where
        done_now : take (place + 1) grown ≡ take place order ++ state ∷ []
        done_now = ap (take (place + 1)) grows.1 ∙ take-append-le (place + 1) order grows.0 (omega (arith, within)) ∙ take_more order place 0 within

        wide : length new ≡ states_of d
        wide = released.width ∙ direction.width

        all_free : AreFree new grown (states_of d)
        all_free = subst (AreFree new grown) wide free

        counts_now : (q : ℕ) → q < states_of d → get_or new q 0 ≡ links_from d z (take (place + 1) grown) q (states_of d)
        counts_now q small = omega (
          arith,
          released.counts q,
          ap (λ (es : List Transition). counted (s == z) es q) is,
          ap (λ (p : ℕ). links d z p q) here,
          direction.counts q small,
          links_from-done d z (take place order) state q (states_of d) (direction.free.within place within) away,
          ap (λ (xs : List ℕ). links_from d z xs q (states_of d)) done_now,
        )

        before_now : (j p : ℕ) → j < length grown → p < states_of d → 0 < links d z p (get_or grown j 0) → IsEarlierNumber grown j p
        before_now j p inside small some = by (cases_lt j (length order))
          where
            moved : IsEarlierNumber order j p → j < length order → IsEarlierNumber grown j p
            moved at low = (at.0, at.1, Grows-at order grown at.0 grows (omega (arith, at.1, low)) ∙ at.2)

            late : length order ≤ j → (is_in (take (place + 1) grown) p ≡ true) ⊎ (is_in (take (place + 1) grown) p ≡ false) → IsEarlierNumber grown j p
            late high (inl is) =
                let at = number_from_is_in (take (place + 1) grown) p is in
                let low : at.0 < place + 1 = omega (arith, at.1, ap length done_now, length-take-le (place + 1) grown (omega (arith, inside, high, within))) in
                (at.0, omega (arith, low, high, within), sym (get_or-take (place + 1) grown at.0 0 low) ∙ at.2)
            late high (inr other) = absurd (omega (
              arith,
              some,
              links_from-least d z (take (place + 1) grown) p (get_or grown j 0) (states_of d) small other,
              counts_now (get_or grown j 0) (all_free.within j inside),
              all_free.none j inside,
            ))

            by : (j < length order) ⊎ (length order ≤ j) → IsEarlierNumber grown j p
            by (inl low) = moved (direction.before j p low small (subst (λ q. 0 < links d z p q) (Grows-at order grown j grows low) some)) low
            by (inr high) = late high (is_in-cases (take (place + 1) grown) p)

        pub IsUnderWay-more : IsUnderWay d z new grown (place + 1)
        IsUnderWay-more = record { width = wide; free = all_free; counts = counts_now; before = before_now }

-- the first place of a number
abbrev place_in : List ℕ → ℕ → ℕ
place_in [] q = 0
place_in (x ∷ xs) q = if x == q then 0 else suc (place_in xs q)

place_in-at : (xs : List ℕ) (q : ℕ) → IsNumberIn xs q → (place_in xs q < length xs) × (get_or xs (place_in xs q) 0 ≡ q)
place_in-at [] q at = absurd (omega (arith, at.1))
place_in-at (x ∷ xs) q at = by (x == q) refl (place_in-at xs q)
  where
    later : (i : ℕ) → x ≢ q → i < length (x ∷ xs) → get_or (x ∷ xs) i 0 ≡ q → IsNumberIn xs q
    later zero other within here = absurd (other here)
    later (suc i) other within here = (i, omega (arith, within), here)

    by : (b : Bool) → (x == q) ≡ b → (IsNumberIn xs q → (place_in xs q < length xs) × (get_or xs (place_in xs q) 0 ≡ q)) → ((if b then 0 else suc (place_in xs q)) < length (x ∷ xs)) × (get_or (x ∷ xs) (if b then 0 else suc (place_in xs q)) 0 ≡ q)
    by true is rest = (omega arith, eqb-true x q is)
    by false is rest = let found = rest (later at.0 (λ same. true≢false (sym (eq-eqb x q same) ∙ is)) at.1 at.2) in (omega (arith, found.0), found.1)

place_in-le : (xs : List ℕ) (q i : ℕ) → get_or xs i 0 ≡ q → i < length xs → place_in xs q ≤ i
place_in-le [] q i at within = absurd (omega (arith, within))
place_in-le (x ∷ xs) q zero at within = subst (λ b. (if b then 0 else suc (place_in xs q)) ≤ 0) (sym (eq-eqb x q at)) (omega arith)
place_in-le (x ∷ xs) q (suc i) at within = by (x == q) (place_in-le xs q i at (omega (arith, within)))
  where
    by : (b : Bool) → place_in xs q ≤ i → (if b then 0 else suc (place_in xs q)) ≤ suc i
    by true rest = omega arith
    by false rest = omega (arith, rest)

-- at the end they are sorted
pub IsSorted-end : (d : Automaton) (z : ℕ) (pending order : List ℕ) → IsTable (letters_of d) d.states → IsUnderWay d z pending order (states_of d) → IsSorted d z pending
IsSorted-end d z pending order table direction = record { width = direction.width; place = place_in order; below = below; rises = rises; from = from }
  where
    few : length order ≤ states_of d
    few = few_below (states_of d) order direction.free.within direction.free.apart

    at : (q : ℕ) → q < states_of d → get_or pending q 0 ≡ 0 → (place_in order q < length order) × (get_or order (place_in order q) 0 ≡ q)
    at q small none = place_in-at order q (direction.free.placed q small none)

    below : (q : ℕ) → q < states_of d → get_or pending q 0 ≡ 0 → place_in order q < states_of d
    below q small none = omega (arith, (at q small none).0, few)

    rises : (p a q : ℕ) → p < states_of d → q < states_of d → get_or pending q 0 ≡ 0 → IsLink d z p a q → place_in order p < place_in order q
    rises p a q low small none link =
        let here = at q small none in
        let earlier = direction.before (place_in order q) p here.0 low (subst (λ k. 0 < links d z p k) (sym here.1) (link_counted d z p a q link)) in
        omega (arith, place_in-le order p earlier.0 earlier.2 (omega (arith, earlier.1, here.0)), earlier.1)

    from : (q : ℕ) → q < states_of d → 0 < get_or pending q 0 → (p : ℕ) × (a : ℕ) × (p < states_of d) × (0 < get_or pending p 0) × IsLink d z p a q
    from q small some =
        let found = links_from-some d z (take (states_of d) order) q (states_of d) (omega (arith, some, direction.counts q small)) in
        let link = counted_link d z found.0 q table found.1 found.3 in
        (found.0, link.0, found.1, left found.0 found.1 found.2 (cases_eq (get_or pending found.0 0) 0), link.1)
      where
        left : (p : ℕ) → p < states_of d → is_in (take (states_of d) order) p ≡ false → (get_or pending p 0 ≡ 0) ⊎ (get_or pending p 0 ≡ 0 → ⊥) → 0 < get_or pending p 0
        left p low away (inr other) = omega (arith, other)
        left p low away (inl none) =
            let here = direction.free.placed p low none in
            absurd (is_in_from_at order p here.0 (subst (λ (xs : List ℕ). is_in xs p ≡ false) (take_all (states_of d) order few) away) here.1 here.2)

-- states that are left over are on a cycle
pub HasRound-left : (d : Automaton) (z : ℕ) (pending : List ℕ) (q : ℕ) → IsSorted d z pending → q < states_of d → 0 < get_or pending q 0 → HasRound d z
HasRound-left d z pending q sorted within some = record { is_on = is_left; some = q; within = within; on = left_from q some; from = from }
  where
    is_left : ℕ → Bool
    is_left p = not (get_or pending p 0 == 0)

    left_from : (p : ℕ) → 0 < get_or pending p 0 → is_left p ≡ true
    left_from p more = ap not (ne_eqb (get_or pending p 0) 0 (λ is. omega (arith, more, is)))

    from_left : (p : ℕ) → is_left p ≡ true → 0 < get_or pending p 0
    from_left p is = by (cases_eq (get_or pending p 0) 0)
      where
        by : (get_or pending p 0 ≡ 0) ⊎ (get_or pending p 0 ≡ 0 → ⊥) → 0 < get_or pending p 0
        by (inl none) = absurd (false≢true (sym (ap not (eq-eqb (get_or pending p 0) 0 none)) ∙ is))
        by (inr other) = omega (arith, other)

    from : (p : ℕ) → p < states_of d → is_left p ≡ true → (r : ℕ) × (a : ℕ) × (r < states_of d) × (is_left r ≡ true) × IsLink d z r a p
    from p low is = let found = sorted.from p low (from_left p is) in (found.0, found.1, found.2, left_from found.0 found.3, found.4)
