-- Cycles and places of a canonical automaton say whether it accepts infinitely many words.
use Rattle.std.proofs.Common.{◌≡◌, ℕ, suc, ◌+◌, ◌<◌, ◌↔◌, true, List, [], ◌∷◌, ◌++◌, length, get_or, Option, sym, ◌∙◌, arith, length-append}
use Rattle.digit_tuple.specs.Deterministic.{Automaton, states_of, accepts_from, accepts_of}
use Rattle.digit_tuple.specs.declared.direction.Direction.{Direction}
use Rattle.minimise.specs.Canonical.{IsCanonical}
use Rattle.endless.specs.Links.{IsLink, HasPlaces, HasRound}
use Rattle.endless.proofs.LiveLemmas.{live_after}
use Rattle.endless.proofs.RoundLemmas.{HasPath, path_of}
use Rattle.endless.proofs.ZeroLemmas.{accepted_step, accepts_from-run_to, step_within}
use Rattle.word_walk.specs.Infinity.{IsInfinite}
use Rattle.word_walk.specs.Listed.{IsListing, is_listed}

module _ (d : Automaton) (canonical : IsCanonical d) where
  pub IsInfinite-round : (z : ℕ) → HasRound d z → IsInfinite (accepts_of d)
  IsInfinite-round z round n = (u ++ (path.word ++ tail.0), long, accepted)
    where
      before : (p : ℕ) × (a : ℕ) × (p < states_of d) × (round.is_on p ≡ true) × IsLink d z p a round.some
      before = round.from round.some round.within round.on

      tail : (v : List ℕ) × (accepts_from d round.some v ≡ true)
      tail = live_after d canonical before.0 before.1 round.some before.2 before.4.0

      path : HasPath d z round.is_on round.some (suc n)
      path = path_of d z round round.some round.within round.on (suc n)

      u : List ℕ
      u = get_or canonical.firsts path.start []

      accepted : accepts_of d (u ++ (path.word ++ tail.0)) ≡ true
      accepted = accepts_from-run_to d 0 path.start u (path.word ++ tail.0) (canonical.numbered.lead path.start path.within) ∙ accepts_from-run_to d path.start round.some path.word tail.0 path.leads ∙ tail.1

      long : n < length (u ++ (path.word ++ tail.0))
      long = omega (arith, length-append u (path.word ++ tail.0), length-append path.word tail.0, path.size)

  short_from : (places : HasPlaces d (states_of d)) (w : List ℕ) (p : ℕ) → p < states_of d → accepts_from d p w ≡ true → places.place p + length w < states_of d
  short_from places [] p within accepted = omega (arith, places.below p within)
  short_from places (a ∷ w) p within accepted =
      let step = accepted_step d p a w accepted in
      let inside = step_within d canonical.table p a step.0 within step.1 in
      omega (arith, places.rises p a step.0 within inside (step.1, (λ both. omega (arith, both.0, within))), short_from places w step.0 inside step.2)

  pub IsInfinite-places : HasPlaces d (states_of d) → ¬ IsInfinite (accepts_of d)
  IsInfinite-places places infinite = let long = infinite (states_of d) in omega (arith, long.1, short_from places long.0 0 canonical.table.initial long.2)

-- a listing accepts infinitely many words if and only if infinitely many are listed
pub IsInfinite-listing : (d : Automaton) (skip : Option Direction) (listing : Automaton) → IsListing d skip listing → IsInfinite (accepts_of listing) ↔ IsInfinite (is_listed d skip)
IsInfinite-listing d skip listing same = (
  (λ infinite n. let long = infinite n in (long.0, long.1, sym (same long.0) ∙ long.2)),
  (λ infinite n. let long = infinite n in (long.0, long.1, same long.0 ∙ long.2)),
)
