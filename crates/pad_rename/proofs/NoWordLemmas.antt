-- Canonical automata that accept no word.
use Rattle.std.proofs.Common.{◌≡◌, ◌==◌, ◌&&◌, ℕ, Bool, true, false, not, if◌then◌else◌, List, [], ◌∷◌, ◌++◌, length, ◌⊎◌, inl, inr, refl, sym, ap, ◌∙◌, subst, true≢false, arith}
use Rattle.std.specs.Option.{option_map_or}
use Rattle.std.proofs.lemmas.Bool.{eqb-true}
use Rattle.std.proofs.lemmas.List.{nil_from_length}
use Rattle.digit_tuple.specs.Deterministic.{Automaton, accepting_of, transitions_of, target_by, letters_of, states_of, accepts_from}
use Rattle.digit_tuple.specs.Letters.{IsWord}
use Rattle.digit_tuple.specs.Paddings.{strip}
use Rattle.digit_tuple.specs.declared.transitions.Transition.{Transition}
use Rattle.digit_tuple.specs.declared.direction.Direction.{Direction}
use Rattle.digit_tuple.specs.declared.direction.Direction.TheVariants.{Lsd}
use Rattle.digit_tuple.proofs.PaddingLemmas.{IsWord-strip}
use Rattle.digit_tuple.proofs.WordLemmas.{IsWord-append}
use Rattle.minimise.specs.Canonical.{IsCanonical}
use Rattle.residual_classes.specs.Classes.{first_of}
use Rattle.minimise.specs.Residuals.{IsDead, SameAfter}
use Rattle.minimise.proofs.LeadLemmas.{IsPlace, accepts_of-first, first_place}
use Rattle.residual_classes.proofs.SinkLemmas.{sink_refuses}
use Rattle.pad_rename.specs.Padding.{IsPadded, LsdPaddedAlike}
use Rattle.pad_rename.proofs.SinkLeads.{first_cases}

-- an automaton that accepts no word begins at its sink
pub sink_from_dead : (d : Automaton) → IsCanonical d → IsDead d 0 → first_of d ≡ states_of d
sink_from_dead d canonical dead = by (first_cases d)
  where
    alive : (q : ℕ) → q ≡ 0 → ¬ IsPlace d q
    alive q is (inl sink) = omega (arith, is, sink, canonical.table.initial)
    alive q is (inr found) = found.1 (subst (λ p. IsDead d p) (sym is) dead)

    by : (first_of d ≡ states_of d) ⊎ (first_of d ≡ 0) → first_of d ≡ states_of d
    by (inl sink) = sink
    by (inr is) = absurd (alive (first_of d) is (first_place d canonical))

-- and one that begins there accepts no word
pub dead_from_sink : (d : Automaton) → first_of d ≡ states_of d → IsDead d 0
dead_from_sink d sink w over = sym (accepts_of-first d w) ∙ ap (λ q. accepts_from d q w) sink ∙ sink_refuses d w

-- where the initial state refuses and no letter leads on, no word is accepted
pub dead_from_bare : (d : Automaton) → accepting_of d 0 ≡ false → transitions_of d 0 ≡ [] → IsDead d 0
dead_from_bare d none bare [] over = none
dead_from_bare d none bare (a ∷ w) over = ap (λ (es : List Transition). option_map_or (λ p. accepts_from d p w) (target_by es a) false) bare

-- and where no word is accepted no letter leads on from the initial state of a canonical automaton
pub bare_from_dead : (d : Automaton) → IsCanonical d → IsDead d 0 → transitions_of d 0 ≡ []
bare_from_dead d canonical dead = nil_from_length (transitions_of d 0) (eqb-true (length (transitions_of d 0)) 0 (by (length (transitions_of d 0) == 0) refl))
  where
    by : (b : Bool) → (length (transitions_of d 0) == 0) ≡ b → b ≡ true
    by true is = refl
    by false is =
        let begins : first_of d ≡ 0 = ap (λ a. if not a && (length (transitions_of d 0) == 0) then states_of d else 0) (dead [] tt) ∙ ap (λ b. if b then states_of d else 0) is in
        absurd (omega (arith, begins, sink_from_dead d canonical dead, canonical.table.initial))

module _ (d : Automaton) (dead : IsDead d 0) where
  -- no word is in its closure
  pub none_padded : (direction : Direction) (w : List ℕ) → ¬ IsPadded direction d w
  none_padded direction w padded = true≢false (sym padded.3 ∙ dead padded.0 padded.1)

  -- all words have one residual
  same_after : (w v : List ℕ) → IsWord (letters_of d) w → IsWord (letters_of d) v → SameAfter d w v
  same_after w v over there u more = dead (w ++ u) (IsWord-append (letters_of d) w u over more) ∙ sym (dead (v ++ u) (IsWord-append (letters_of d) v u there more))

  -- so all are alike with the least significant digit first
  pub LsdPaddedAlike-none : (w v : List ℕ) → IsWord (letters_of d) w → IsWord (letters_of d) v → LsdPaddedAlike d w v
  LsdPaddedAlike-none w v over there = record {
    stripped = same_after (strip Lsd w) (strip Lsd v) (IsWord-strip (letters_of d) w over) (IsWord-strip (letters_of d) v there);
    whole = same_after w v over there;
  }
