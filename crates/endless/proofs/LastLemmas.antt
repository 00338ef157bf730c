-- The same where the most significant digit comes last.
use Rattle.std.proofs.Common.{◌≡◌, ℕ, zero, suc, ◌+◌, ◌<◌, ◌≤◌, Bool, true, List, [], ◌∷◌, ◌++◌, length, reverse, get_or, Option, Some, ◌⊎◌, inl, inr, refl, sym, ap, ◌∙◌, subst, arith, IsTrue, length-append}
use Rattle.std.specs.Option.{option_and_then}
use Rattle.std.proofs.lemmas.Bool.{false≢true}
use Rattle.std.proofs.lemmas.List.{reverse-reverse, reverse-append, length-reverse}
use Rattle.digit_tuple.specs.Deterministic.{Automaton, states_of, run_of, accepts_from, accepts_of}
use Rattle.digit_tuple.specs.Paddings.{without_zeros}
use Rattle.digit_tuple.specs.declared.direction.Direction.TheVariants.{Lsd}
use Rattle.digit_tuple.proofs.PaddingLemmas.{reverse-cons}
use Rattle.digit_tuple.proofs.WordLemmas.{run_of-append}
use Rattle.numeration.specs.Words.{is_plain}
use Rattle.numeration.proofs.PlainLemmas.{without_zeros-plain}
use Rattle.minimise.specs.Canonical.{IsCanonical}
use Rattle.endless.specs.LanguageLaws.{KeepsZeros, IsEndless, language_in}
use Rattle.endless.specs.Links.{IsLink, HasPlaces, HasRound, IsEnd}
use Rattle.endless.proofs.ZeroLemmas.{step_within, accepted_step, accepts_from-step, accepts_from-run_to, kept_last}
use Rattle.endless.proofs.LiveLemmas.{Reaches, live_after}
use Rattle.endless.proofs.RoundLemmas.{HasPath, path_of}
use Rattle.endless.proofs.EndLemmas.{has_other, end_other, other_leads, rich_or_end}

-- a word of the language is in it without its leading zeros
kept_without_zeros : (test : List ℕ → Bool) → KeepsZeros test → (w : List ℕ) → test w ≡ true → test (without_zeros w) ≡ true
kept_without_zeros test keeps [] accepted = accepted
kept_without_zeros test keeps (zero ∷ w) accepted = kept_without_zeros test keeps w ((keeps.zeros w).0 accepted)
kept_without_zeros test keeps (suc a ∷ w) accepted = accepted

-- what follows a digit but 0 stays
long_without_zeros : (t : List ℕ) (b : ℕ) (s : List ℕ) → length s < length (without_zeros ((t ++ suc b ∷ []) ++ s))
long_without_zeros [] b s = omega arith
long_without_zeros (zero ∷ t) b s = long_without_zeros t b s
long_without_zeros (suc c ∷ t) b s = omega (arith, length-append (t ++ suc b ∷ []) s)

run_of-run_to : (d : Automaton) (q p : ℕ) (w v : List ℕ) → run_of d q w ≡ Some p → run_of d q (w ++ v) ≡ run_of d p v
run_of-run_to d q p w v leads = run_of-append d q w v ∙ ap (λ (o : Option ℕ). option_and_then (λ r. run_of d r v) o) leads

module _ (d : Automaton) (canonical : IsCanonical d) where
  module _ (keeps : KeepsZeros (language_in Lsd d)) (z : ℕ) (only : (q : ℕ) → q < states_of d → IsEnd d q → q ≡ z) (round : HasRound d z) where
    -- a state on the round from which a letter but 0 is reached
    record IsChosen (q : ℕ) : Type 0 where
      within : q < states_of d
      on : round.is_on q ≡ true
      reached : Reaches d canonical.table (has_other d) q

    links_end : (p a q : ℕ) → p < states_of d → q < states_of d → IsEnd d p → IsEnd d q → IsLink d z p a q → ⊥
    links_end p zero q small low one other link = link.1 (only p small one, refl)
    links_end p (suc a) q small low one other link = one.alone a q link.0

    chosen : (q : ℕ) × IsChosen q
    chosen =
        let p = round.from round.some round.within round.on in
        let q = round.from p.0 p.2 p.3 in
        by p.0 p.1 p.2 p.3 p.4 (rich_or_end d canonical (kept_last d canonical keeps) p.0 p.1 round.some p.2 p.4.0) (rich_or_end d canonical (kept_last d canonical keeps) q.0 q.1 p.0 q.2 q.4.0)
      where
        by : (p a : ℕ) → p < states_of d → round.is_on p ≡ true → IsLink d z p a round.some → Reaches d canonical.table (has_other d) round.some ⊎ IsEnd d round.some → Reaches d canonical.table (has_other d) p ⊎ IsEnd d p → (q : ℕ) × IsChosen q
        by p a small on link (inl rich) other = (round.some, record { within = round.within; on = round.on; reached = rich })
        by p a small on link (inr end) (inl rich) = (p, record { within = small; on = on; reached = rich })
        by p a small on link (inr end) (inr too) = absurd (links_end p a round.some small round.within too end link)

    -- from there a word with such a letter is accepted
    record HasTail (q : ℕ) : Type 0 where
      prefix : List ℕ
      middle : ℕ
      digit : ℕ
      back : List ℕ
      leads : run_of d q prefix ≡ Some middle
      accepted : accepts_from d middle (suc digit ∷ back) ≡ true

    tail_of : (q : ℕ) → IsChosen q → HasTail q
    tail_of q is =
        let reached = is.reached in
        let other = other_leads d canonical reached.1 reached.3 reached.4 in
        let live = live_after d canonical reached.1 (suc other.0) other.1 reached.3 other.2 in record {
          prefix = reached.0;
          middle = reached.1;
          digit = other.0;
          back = live.0;
          leads = reached.2;
          accepted = accepts_from-step d reached.1 (suc other.0) other.1 live.0 other.2 ∙ live.1;
        }

    record IsLong (n : ℕ) : Type 0 where
      word : List ℕ
      long : n < length word
      inside : IsTrue (language_in Lsd d word)
      plain : IsTrue (is_plain word)

    long_word : (n q : ℕ) → HasPath d z round.is_on q n → HasTail q → IsLong n
    long_word n q direction tail = record {
      word = without_zeros (reverse whole);
      long = omega (arith, ap (λ (w : List ℕ). length (without_zeros w)) turned, long_without_zeros (reverse tail.back) tail.digit (reverse prefix), size);
      inside = kept_without_zeros (language_in Lsd d) keeps (reverse whole) (ap (accepts_of d) (reverse-reverse whole) ∙ accepted);
      plain = without_zeros-plain (reverse whole);
    }
      where
        first : List ℕ
        first = get_or canonical.firsts direction.start []

        prefix : List ℕ
        prefix = first ++ (direction.word ++ tail.prefix)

        whole : List ℕ
        whole = prefix ++ suc tail.digit ∷ tail.back

        led : run_of d 0 prefix ≡ Some tail.middle
        led = run_of-run_to d 0 direction.start first (direction.word ++ tail.prefix) (canonical.numbered.lead direction.start direction.within) ∙ run_of-run_to d direction.start q direction.word tail.prefix direction.leads ∙ tail.leads

        accepted : accepts_of d whole ≡ true
        accepted = accepts_from-run_to d 0 tail.middle prefix (suc tail.digit ∷ tail.back) led ∙ tail.accepted

        turned : reverse whole ≡ (reverse tail.back ++ suc tail.digit ∷ []) ++ reverse prefix
        turned = reverse-append prefix (suc tail.digit ∷ tail.back) ∙ ap (λ (w : List ℕ). w ++ reverse prefix) (reverse-cons (suc tail.digit) tail.back)

        size : n ≤ length (reverse prefix)
        size = omega (arith, length-reverse prefix, length-append first (direction.word ++ tail.prefix), length-append direction.word tail.prefix, direction.size)

    pub endless_last : IsEndless (language_in Lsd d)
    endless_last n =
        let long = long_word n chosen.0 (path_of d z round chosen.0 chosen.1.within chosen.1.on n) (tail_of chosen.0 chosen.1) in
        (long.word, long.long, long.inside, long.plain)

  module _ (z : ℕ) (ends : z < states_of d → IsEnd d z) (places : HasPlaces d z) where
    end_refuses : (v : List ℕ) (b : ℕ) → IsEnd d z → accepts_from d z (v ++ suc b ∷ []) ≡ true → ⊥
    end_refuses [] b end accepted = false≢true (sym (end_other d z end b []) ∙ accepted)
    end_refuses (zero ∷ v) b end accepted = end_refuses v b end (sym (accepts_from-step d z 0 z (v ++ suc b ∷ []) end.loop) ∙ accepted)
    end_refuses (suc a ∷ v) b end accepted = false≢true (sym (end_other d z end a (v ++ suc b ∷ [])) ∙ accepted)

    -- words that end in a digit but 0 are as short as places are few
    short_last : (w : List ℕ) (b p : ℕ) → p < states_of d → accepts_from d p (w ++ suc b ∷ []) ≡ true → places.place p + length w < states_of d
    short_last [] b p within accepted = omega (arith, places.below p within)
    short_last (a ∷ w) b p within accepted =
        let step = accepted_step d p a (w ++ suc b ∷ []) accepted in
        let inside = step_within d canonical.table p a step.0 within step.1 in
        let rises = places.rises p a step.0 within inside (step.1, (λ both. end_refuses (a ∷ w) b (ends (omega (arith, both.0, within))) (subst (λ q. accepts_from d q (a ∷ (w ++ suc b ∷ [])) ≡ true) both.0 accepted))) in
        omega (arith, rises, short_last w b step.0 inside step.2)

    pub bounded_last : ¬ IsEndless (language_in Lsd d)
    bounded_last endless = let long = endless (states_of d) in by long.0 long.1 long.2 long.3
      where
        by : (w : List ℕ) → states_of d < length w → accepts_of d (reverse w) ≡ true → IsTrue (is_plain w) → ⊥
        by [] long accepted plain = omega (arith, long)
        by (zero ∷ w) long accepted plain = false≢true plain
        by (suc b ∷ w) long accepted plain = omega (arith, long, length-reverse w, short_last (reverse w) b 0 canonical.table.initial (ap (accepts_of d) (sym (reverse-cons (suc b) w)) ∙ accepted))
