-- The width of a connective that needs its first argument.
use Rattle.std.proofs.Common.{◌≡◌, ℕ, ◌≤◌, Bool, false, List, sym, ◌∙◌, arith}
use Rattle.digit_tuple.specs.Deterministic.{Automaton, letters_of, states_of, accepts_of}
use Rattle.digit_tuple.specs.Keys.{LeadAlike, key_accepts}
use Rattle.digit_tuple.specs.Letters.{IsWord}
use Rattle.digit_tuple.specs.Width.{HasApart, HasWidth}
use Rattle.digit_tuple.proofs.WidthLemmas.{HasApart-same, apart_within_width}
use Rattle.minimise.specs.Canonical.{IsCanonical}
use Rattle.minimise.proofs.KeySizes.{states_within_width}
use Rattle.product_op.specs.declared.op.Op.{Op}
use Rattle.product_op.specs.DeadPairs.{ArePair, is_dead_pair, live_pair_after}
use Rattle.product_op.specs.Readings.{Reading, first_key}
use Rattle.product_op.specs.Tuples.{LeadToOne}
use Rattle.product_op.proofs.DeadPairLemmas.{run_from_lead}
use Rattle.product_op.proofs.TupleLemmas.{tuple_after-lead}

module _ (letters : ℕ) (op : Op) (rs : List Reading) (are : ArePair letters op rs) (live : is_dead_pair op rs (first_key rs) ≡ false) where
  -- words that lead to different live pairs, or not both to a dead one, lead to different pairs
  pub apart_pairs : (k : ℕ) → HasApart (LeadAlike (live_pair_after op rs) (first_key rs)) letters k → HasApart (LeadToOne rs) letters k
  apart_pairs k = HasApart-same (LeadAlike (live_pair_after op rs) (first_key rs)) (LeadToOne rs) letters k (λ w v over there same.
      run_from_lead rs op letters are live w v (tuple_after-lead rs w ∙ same ∙ sym (tuple_after-lead rs v)))

  -- a canonical automaton of what the live pairs accept has no more states than there are pairs
  pub states_within_pairs : (accepts : List ℕ → Bool) (d : Automaton) → IsCanonical d → letters_of d ≡ letters
      → ((w : List ℕ) → IsWord (letters_of d) w → accepts_of d w ≡ key_accepts (live_pair_after op rs) accepts (first_key rs) w)
      → (some all : ℕ) → HasWidth (LeadAlike (live_pair_after op rs) (first_key rs)) (letters_of d) some → HasWidth (LeadAlike (live_pair_after op rs) (first_key rs)) letters some → HasWidth (LeadToOne rs) letters all → states_of d ≤ all
  states_within_pairs accepts d canonical same language some all here width pairs =
      let few : states_of d ≤ some = states_within_width (live_pair_after op rs) accepts (first_key rs) d canonical language some here in
      let more : some ≤ all = apart_within_width (LeadToOne rs) letters some all (λ w v u one two. one ∙ sym two) (apart_pairs some width.some) pairs in
      omega (arith, few, more)
