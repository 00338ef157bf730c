-- Links to a state, counted over the states that are not done with.
use Rattle.std.proofs.Common.{◌≡◌, ◌≢◌, ◌==◌, ◌&&◌, ◌||◌, not, cond, ℕ, zero, suc, ◌+◌, ◌*◌, ◌<◌, ◌≤◌, Bool, true, false, List, [], ◌∷◌, ◌++◌, ◌^◌, length, Some, ◌⊎◌, inl, inr, refl, sym, ap, ◌∙◌, subst, arith, count_by, eq-eqb}
use Rattle.std.specs.List.{Contains, AllPairs, All}
use Rattle.std.proofs.lemmas.Bool.{ne_eqb, eqb-true, cases_eq, false≢true, true≢false}
use Rattle.std.proofs.lemmas.List.{get_or_default}
use Rattle.std.proofs.lemmas.List.Folds.{list_any-append}
use Rattle.std.proofs.lemmas.List.Sums.{count_by-le-length}
use Rattle.digit_tuple.specs.declared.transitions.Transition.{Transition}
use Rattle.digit_tuple.specs.Deterministic.{Automaton, IsTable, IsByEarlier, letters_of, states_of, transitions_of}
use Rattle.digit_tuple.proofs.DfaLemmas.{row_at}
use Rattle.digit_tuple.proofs.MemberLemmas.{Contains-head, Contains-tail, Contains-cases, Contains-none, AllPairs-tail}
use Rattle.numeration.proofs.CountLemmas.{count_by-cons}
use Rattle.endless.specs.Links.{IsLink}
use Rattle.endless.specs.Counts.{IsNumberIn, is_in, is_kept, counts, links, unless, links_from, AreIncoming}
use Rattle.endless.proofs.LiveLemmas.{step_of_transition, transition_there}

-- a count above 0 is that of an element
counted_some : {X : Type 0} (p : X → Bool) (xs : List X) → 0 < count_by p xs → (x : X) × Contains xs x × (p x ≡ true)
counted_some p [] some = absurd (omega (arith, some))
counted_some p (x ∷ xs) some = by (p x) refl (subst (λ n. 0 < n) (count_by-cons p x xs) some) (counted_some p xs)
  where
    by : (b : Bool) → p x ≡ b → 0 < cond {A = ℕ} b 1 0 + count_by p xs → (0 < count_by p xs → (y : _) × Contains xs y × (p y ≡ true)) → (y : _) × Contains (x ∷ xs) y × (p y ≡ true)
    by true is more rest = (x, Contains-head x xs, is)
    by false is more rest = let found = rest (omega (arith, more)) in (found.0, Contains-tail x xs found.0 found.1, found.2)

some_counted : {X : Type 0} (p : X → Bool) (xs : List X) (x : X) → Contains xs x → p x ≡ true → 0 < count_by p xs
some_counted p [] x there is = absurd (Contains-none x there)
some_counted p (y ∷ ys) x there is = subst (λ n. 0 < n) (sym (count_by-cons p y ys)) (by (p y) refl (Contains-cases y ys x there) (λ later. some_counted p ys x later is))
  where
    by : (b : Bool) → p y ≡ b → (y ≡ x) ⊎ Contains ys x → (Contains ys x → 0 < count_by p ys) → 0 < cond {A = ℕ} b 1 0 + count_by p ys
    by true was cases rest = omega arith
    by false was (inl same) rest = absurd (true≢false (sym (ap p same ∙ is) ∙ was))
    by false was (inr later) rest = omega (arith, rest later)

and_both : (a b : Bool) → (a && b) ≡ true → (a ≡ true) × (b ≡ true)
and_both true true is = (refl, refl)
and_both true false is = absurd (false≢true is)
and_both false b is = absurd (false≢true is)

not_true : (b : Bool) → not b ≡ true → b ≡ false
not_true true is = absurd (false≢true is)
not_true false is = refl

false_by : (b : Bool) → (b ≡ true → ⊥) → b ≡ false
false_by true never = absurd (never refl)
false_by false never = refl

-- a transition that counts is a link, and a link is counted
pub link_counted : (d : Automaton) (z p a q : ℕ) → IsLink d z p a q → 0 < links d z p q
link_counted d z p a q link =
    let found = transition_there (transitions_of d p) a q link.0 in
    let kept : is_kept (p == z) found.0 ≡ true = ap not (false_by ((p == z) && (found.0.letter == 0)) (λ is. let both = and_both (p == z) (found.0.letter == 0) is in link.1 (eqb-true p z both.0, sym found.2 ∙ eqb-true found.0.letter 0 both.1))) in
    some_counted (counts (p == z) q) (transitions_of d p) found.0 found.1 (ap (λ b. b && (found.0.target == q)) kept ∙ eq-eqb found.0.target q found.3)

pub counted_link : (d : Automaton) (z p q : ℕ) → IsTable (letters_of d) d.states → p < states_of d → 0 < links d z p q → (a : ℕ) × IsLink d z p a q
counted_link d z p q table within some =
    let found = counted_some (counts (p == z) q) (transitions_of d p) some in
    let both = and_both (is_kept (p == z) found.0) (found.0.target == q) found.2 in
    let leads = step_of_transition d p table within found.0 found.1 ∙ ap Some (eqb-true found.0.target q both.1) in
    (found.0.letter, (leads, λ zeros. true≢false (sym (ap (λ b. b && (found.0.letter == 0)) (eq-eqb p z zeros.0) ∙ eq-eqb found.0.letter 0 zeros.1) ∙ not_true ((p == z) && (found.0.letter == 0)) both.0)))

-- one state more that is done with
is_in-more : (done : List ℕ) (s n : ℕ) → is_in (done ++ s ∷ []) n ≡ (is_in done n || ((s == n) || false))
is_in-more done s n = list_any-append (λ x. x == n) done (s ∷ [])

or_false : (b : Bool) → (b || (false || false)) ≡ b
or_false true = refl
or_false false = refl

or_true : (b : Bool) → (b || (true || false)) ≡ true
or_true true = refl
or_true false = refl

is_in-other : (done : List ℕ) (s n : ℕ) → s ≢ n → is_in (done ++ s ∷ []) n ≡ is_in done n
is_in-other done s n other = is_in-more done s n ∙ ap (λ b. is_in done n || (b || false)) (ne_eqb s n other) ∙ or_false (is_in done n)

is_in-last : (done : List ℕ) (s n : ℕ) → s ≡ n → is_in (done ++ s ∷ []) n ≡ true
is_in-last done s n same = is_in-more done s n ∙ ap (λ b. is_in done n || (b || false)) (eq-eqb s n same) ∙ or_true (is_in done n)

pub number_from_is_in : (xs : List ℕ) (k : ℕ) → is_in xs k ≡ true → IsNumberIn xs k
number_from_is_in [] k is = absurd (false≢true is)
number_from_is_in (x ∷ xs) k is = by (x == k) refl is (number_from_is_in xs k)
  where
    by : (b : Bool) → (x == k) ≡ b → (b || is_in xs k) ≡ true → (is_in xs k ≡ true → IsNumberIn xs k) → IsNumberIn (x ∷ xs) k
    by true here is rest = (0, omega arith, eqb-true x k here)
    by false other is rest = let later = rest is in (suc later.0, omega (arith, later.1), later.2)

module _ (d : Automaton) (z : ℕ) where
  -- past the state nothing changes
  links_from-apart : (done : List ℕ) (s q n : ℕ) → n ≤ s → links_from d z (done ++ s ∷ []) q n ≡ links_from d z done q n
  links_from-apart done s q zero low = refl
  links_from-apart done s q (suc n) low =
      let here : unless (is_in (done ++ s ∷ []) n) (links d z n q) ≡ unless (is_in done n) (links d z n q) = ap (λ b. unless b (links d z n q)) (is_in-other done s n (λ same. omega (arith, low, same))) in
      omega (arith, here, links_from-apart done s q n (omega (arith, low)))

  -- the links of a state that is done with now
  pub links_from-done : (done : List ℕ) (s q n : ℕ) → s < n → is_in done s ≡ false → links_from d z done q n ≡ links d z s q + links_from d z (done ++ s ∷ []) q n
  links_from-done done s q zero low away = absurd (omega (arith, low))
  links_from-done done s q (suc n) low away = by (cases_eq s n) (λ less. links_from-done done s q n less away)
    where
      by : (s ≡ n) ⊎ (s ≡ n → ⊥) → (s < n → links_from d z done q n ≡ links d z s q + links_from d z (done ++ s ∷ []) q n) → links_from d z done q (suc n) ≡ links d z s q + links_from d z (done ++ s ∷ []) q (suc n)
      by (inl same) rest =
          let old : unless (is_in done n) (links d z n q) ≡ links d z n q = ap (λ b. unless b (links d z n q)) (subst (λ m. is_in done m ≡ false) same away) in
          let new : unless (is_in (done ++ s ∷ []) n) (links d z n q) ≡ 0 = ap (λ b. unless b (links d z n q)) (is_in-last done s n same) in
          omega (arith, old, new, links_from-apart done s q n (omega (arith, same)), ap (λ m. links d z m q) same)
      by (inr other) rest =
          let here : unless (is_in (done ++ s ∷ []) n) (links d z n q) ≡ unless (is_in done n) (links d z n q) = ap (λ b. unless b (links d z n q)) (is_in-other done s n other) in
          omega (arith, here, rest (omega (arith, low, other)))

  -- no fewer than those from one of the states, and none but theirs
  pub links_from-least : (done : List ℕ) (p q n : ℕ) → p < n → is_in done p ≡ false → links d z p q ≤ links_from d z done q n
  links_from-least done p q zero low away = absurd (omega (arith, low))
  links_from-least done p q (suc n) low away = by (cases_eq p n) (λ less. links_from-least done p q n less away)
    where
      by : (p ≡ n) ⊎ (p ≡ n → ⊥) → (p < n → links d z p q ≤ links_from d z done q n) → links d z p q ≤ links_from d z done q (suc n)
      by (inl same) rest =
          let here : unless (is_in done n) (links d z n q) ≡ links d z n q = ap (λ b. unless b (links d z n q)) (subst (λ m. is_in done m ≡ false) same away) in
          omega (arith, here, ap (λ m. links d z m q) same)
      by (inr other) rest = omega (arith, rest (omega (arith, low, other)))

  pub links_from-some : (done : List ℕ) (q n : ℕ) → 0 < links_from d z done q n → (p : ℕ) × (p < n) × (is_in done p ≡ false) × (0 < links d z p q)
  links_from-some done q zero some = absurd (omega (arith, some))
  links_from-some done q (suc n) some = by (is_in done n) refl some (cases_eq (links d z n q) 0) (links_from-some done q n)
    where
      by : (b : Bool) → is_in done n ≡ b → 0 < unless b (links d z n q) + links_from d z done q n → (links d z n q ≡ 0) ⊎ (links d z n q ≡ 0 → ⊥)
          → (0 < links_from d z done q n → (p : ℕ) × (p < n) × (is_in done p ≡ false) × (0 < links d z p q)) → (p : ℕ) × (p < suc n) × (is_in done p ≡ false) × (0 < links d z p q)
      by true is more cases rest = let found = rest (omega (arith, more)) in (found.0, omega (arith, found.1), found.2, found.3)
      by false is more (inl none) rest = let found = rest (omega (arith, more, none)) in (found.0, omega (arith, found.1), found.2, found.3)
      by false is more (inr other) rest = (n, omega arith, is, omega (arith, other))

  -- no more than there may be transitions
  pub links_from-few : (q n bound : ℕ) → ((p : ℕ) → p < n → length (transitions_of d p) ≤ bound) → links_from d z [] q n ≤ n * bound
  links_from-few q zero bound few = omega arith
  links_from-few q (suc n) bound few =
      let here = count_by-le-length (counts (n == z) q) (transitions_of d n) in
      let rest = links_from-few q n bound (λ p low. few p (omega (arith, low))) in
      let widths = few n (omega arith) in
      subst (λ m. links_from d z [] q (suc n) ≤ m) (let e : n * bound + bound ≡ suc n * bound = omega arith in e) (omega (arith, here, rest, widths))

-- transitions by ascending letters are no more than letters
pub few_transitions : (es : List Transition) (from letters : ℕ) → AllPairs IsByEarlier es → All (λ e. e.letter < letters) es → All (λ e. from ≤ e.letter) es → length es + from ≤ letters ⊎ (es ≡ [])
few_transitions [] from letters up below above = inr refl
few_transitions (e ∷ es) from letters up below above = by (few_transitions es (suc e.letter) letters (AllPairs-tail IsByEarlier e es up) (λ k y within. below (suc k) y (omega (arith, within))) (λ k y within. up 0 (suc k) y (omega arith) (omega (arith, within))))
  where
    by : (length es + suc e.letter ≤ letters) ⊎ (es ≡ []) → length (e ∷ es) + from ≤ letters ⊎ (e ∷ es ≡ [])
    by (inl rest) = inl (omega (arith, rest, above 0 e (omega arith)))
    by (inr none) = inl (omega (arith, ap length none, above 0 e (omega arith), below 0 e (omega arith)))

row_few : (d : Automaton) (p : ℕ) → IsTable (letters_of d) d.states → letters_of d ≤ 65536 → p < states_of d → length (transitions_of d p) ≤ 65536
row_few d p table few within = by (few_transitions (transitions_of d p) 0 (letters_of d) (row_at d p table within).ascending (λ k e inside. ((row_at d p table within).in_range k e inside).0) (λ k e inside. omega arith))
  where
    by : (length (transitions_of d p) + 0 ≤ letters_of d) ⊎ (transitions_of d p ≡ []) → length (transitions_of d p) ≤ 65536
    by (inl low) = omega (arith, low, few)
    by (inr none) = omega (arith, ap length none)

module _ (d : Automaton) (z : ℕ) (pending : List ℕ) (n : ℕ) (incoming : AreIncoming d z pending n) (within : n < states_of d) where
  -- there is room for the transitions of one state more
  pub room_for : IsTable (letters_of d) d.states → letters_of d ≤ 65536 → (row : List Transition) → row ≡ transitions_of d n → All (λ count. count + length row < 2 ^ 64) pending
  room_for table few row is k e inside =
      let low : k < states_of d = omega (arith, inside, incoming.width) in
      let wide : length row ≤ 65536 = omega (arith, ap length is, row_few d n table few within) in
      let counts = links_from-few d z k n 65536 (λ p less. row_few d p table few (omega (arith, less, within))) in
      omega (arith, get_or_default pending k e 0 inside, incoming.counts k low, counts, wide, within, table.part.small)
