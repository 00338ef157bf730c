-- Cycles through links, and places that rise along them, say whether a language has an end.
use Rattle.std.proofs.Common.{◌≡◌, ◌≢◌, ℕ, zero, suc, ◌+◌, ◌<◌, Bool, true, List, [], ◌∷◌, ◌++◌, length, get_or, Option, Some, refl, sym, ap, ◌∙◌, arith, IsTrue, length-append}
use Rattle.std.specs.Option.{option_and_then}
use Rattle.std.proofs.lemmas.Bool.{false≢true}
use Rattle.digit_tuple.specs.Deterministic.{Automaton, states_of, step_of, run_of, accepts_from, accepts_of}
use Rattle.digit_tuple.specs.Paddings.{without_zeros}
use Rattle.digit_tuple.specs.declared.direction.Direction.TheVariants.{Msd}
use Rattle.numeration.specs.Words.{is_plain}
use Rattle.numeration.proofs.PlainLemmas.{without_zeros-plain}
use Rattle.minimise.specs.Canonical.{IsCanonical}
use Rattle.endless.specs.LanguageLaws.{KeepsZeros, IsEndless, language_in}
use Rattle.endless.specs.Links.{IsLink, HasPlaces, HasRound}
use Rattle.endless.proofs.ZeroLemmas.{step_within, accepted_step, accepts_from-run_to, kept_first}
use Rattle.endless.proofs.LiveLemmas.{live_after}

-- a word that begins as a plain one
pub plain_append : (w v : List ℕ) → 0 < length w → IsTrue (is_plain w) → IsTrue (is_plain (w ++ v))
plain_append [] v some plain = absurd (omega (arith, some))
plain_append (zero ∷ w) v some plain = plain
plain_append (suc a ∷ w) v some plain = refl

pub run_of-step : (d : Automaton) (q a p : ℕ) (w : List ℕ) → step_of d q a ≡ Some p → run_of d q (a ∷ w) ≡ run_of d p w
run_of-step d q a p w leads = ap (λ (o : Option ℕ). option_and_then (λ r. run_of d r w) o) leads

-- a way of links of each length leads to a state on the round
pub record HasPath (d : Automaton) (z : ℕ) (is_on : ℕ → Bool) (goal n : ℕ) : Type 0 where
  pub start : ℕ
  pub word : List ℕ
  pub within : start < states_of d
  pub on : is_on start ≡ true
  pub size : length word ≡ n
  pub leads : run_of d start word ≡ Some goal
  pub plain : start ≡ z → IsTrue (is_plain word)

pub path_of : (d : Automaton) (z : ℕ) (round : HasRound d z) (goal : ℕ) → goal < states_of d → round.is_on goal ≡ true → (n : ℕ) → HasPath d z round.is_on goal n
path_of d z round goal within on zero = record { start = goal; word = []; within = within; on = on; size = refl; leads = refl; plain = λ is. refl }
path_of d z round goal within on (suc n) = longer (path_of d z round goal within on n)
  where
    longer : HasPath d z round.is_on goal n → HasPath d z round.is_on goal (suc n)
    longer direction =
        let before = round.from direction.start direction.within direction.on in record {
          start = before.0;
          word = before.1 ∷ direction.word;
          within = before.2;
          on = before.3;
          size = omega (arith, direction.size);
          leads = run_of-step d before.0 before.1 direction.start direction.word before.4.0 ∙ direction.leads;
          plain = λ is. plain_link before.1 (λ none. before.4.1 (is, none));
        }
      where
        plain_link : (a : ℕ) → a ≢ 0 → IsTrue (is_plain (a ∷ direction.word))
        plain_link zero some = absurd (some refl)
        plain_link (suc a) some = refl

module _ (d : Automaton) (canonical : IsCanonical d) where
  -- the most significant digit first
  module _ (keeps : KeepsZeros (language_in Msd d)) where
    run_of-without_zeros : (w : List ℕ) → run_of d 0 (without_zeros w) ≡ run_of d 0 w
    run_of-without_zeros [] = refl
    run_of-without_zeros (zero ∷ w) = run_of-without_zeros w ∙ sym (run_of-step d 0 0 0 w (kept_first d canonical keeps).1)
    run_of-without_zeros (suc a ∷ w) = refl

    -- a plain word of each length is accepted where a way leads round
    plain_joined : (u v x : List ℕ) (p : ℕ) → run_of d 0 u ≡ Some p → IsTrue (is_plain u) → 0 < length v → (p ≡ 0 → IsTrue (is_plain v)) → IsTrue (is_plain (u ++ (v ++ x)))
    plain_joined [] v x p leads plain some from = plain_append v x some (from (let same : Some 0 ≡ Some p = leads in cc))
    plain_joined (zero ∷ u) v x p leads plain some from = plain
    plain_joined (suc a ∷ u) v x p leads plain some from = refl

    pub endless_first : HasRound d 0 → IsEndless (language_in Msd d)
    endless_first round n = (u ++ (direction.word ++ tail.0), long, accepted, plain_joined u direction.word tail.0 direction.start reached (without_zeros-plain first) (omega (arith, direction.size)) direction.plain)
      where
        before : (p : ℕ) × (a : ℕ) × (p < states_of d) × (round.is_on p ≡ true) × IsLink d 0 p a round.some
        before = round.from round.some round.within round.on

        tail : (v : List ℕ) × (accepts_from d round.some v ≡ true)
        tail = live_after d canonical before.0 before.1 round.some before.2 before.4.0

        direction : HasPath d 0 round.is_on round.some (suc n)
        direction = path_of d 0 round round.some round.within round.on (suc n)

        first : List ℕ
        first = get_or canonical.firsts direction.start []

        u : List ℕ
        u = without_zeros first

        reached : run_of d 0 u ≡ Some direction.start
        reached = run_of-without_zeros first ∙ canonical.numbered.lead direction.start direction.within

        accepted : accepts_of d (u ++ (direction.word ++ tail.0)) ≡ true
        accepted = accepts_from-run_to d 0 direction.start u (direction.word ++ tail.0) reached ∙ accepts_from-run_to d direction.start round.some direction.word tail.0 direction.leads ∙ tail.1

        long : n < length (u ++ (direction.word ++ tail.0))
        long = omega (arith, length-append u (direction.word ++ tail.0), length-append direction.word tail.0, direction.size)

    -- words after a link from the initial state are as short as places are few
    short_after : (places : HasPlaces d 0) (w : List ℕ) (p : ℕ) → p < states_of d → places.place 0 < places.place p → accepts_from d p w ≡ true → places.place p + length w < states_of d
    short_after places [] p within above accepted = omega (arith, places.below p within)
    short_after places (a ∷ w) p within above accepted =
        let step = accepted_step d p a w accepted in
        let inside = step_within d canonical.table p a step.0 within step.1 in
        let rises = places.rises p a step.0 within inside (step.1, (λ both. omega (arith, above, ap places.place both.0))) in
        omega (arith, rises, short_after places w step.0 inside (omega (arith, above, rises)) step.2)

    pub bounded_first : HasPlaces d 0 → ¬ IsEndless (language_in Msd d)
    bounded_first places endless = let long = endless (states_of d) in by long.0 long.1 long.2 long.3
      where
        by : (w : List ℕ) → states_of d < length w → accepts_of d w ≡ true → IsTrue (is_plain w) → ⊥
        by [] long accepted plain = omega (arith, long)
        by (zero ∷ w) long accepted plain = false≢true plain
        by (suc a ∷ w) long accepted plain =
            let step = accepted_step d 0 (suc a) w accepted in
            let inside = step_within d canonical.table 0 (suc a) step.0 canonical.table.initial step.1 in
            let rises = places.rises 0 (suc a) step.0 canonical.table.initial inside (step.1, (λ both. omega (arith, both.1))) in
            omega (arith, long, rises, short_after places w step.0 inside rises step.2)
