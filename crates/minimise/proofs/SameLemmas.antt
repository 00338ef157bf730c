-- Automata with equal states.
use Rattle.std.proofs.Common.{◌≡◌, ℕ, ◌<◌, List, length, get_or, ◌↔◌, refl, ap, ◌∙◌, subst}
use Rattle.std.proofs.lemmas.List.{ext_get_or}
use Rattle.digit_tuple.specs.Deterministic.{Automaton, State, no_state}
use Rattle.minimise.specs.Residuals.{SameLanguage}
use Rattle.minimise.specs.Canonical.{IsCanonical}
use Rattle.minimise.proofs.CanonicalLemmas.{canonical_forms}

-- tables with equal states are equal
pub same_states : (S T : List State) → length S ≡ length T → ((q : ℕ) → q < length S → get_or S q no_state ≡ get_or T q no_state) → S ≡ T
same_states S T count each = ext_get_or no_state S T count each

-- automata over one alphabet with equal states are equal
pub same_table : (d e : Automaton) → d.sizes ≡ e.sizes → d.states ≡ e.states → d ≡ e
same_table d e sizes states =
    ap (λ (ns : List ℕ). let x : Automaton = record { sizes = ns; states = d.states } in x) sizes
    ∙ ap (λ (ss : List State). let x : Automaton = record { sizes = e.sizes; states = ss } in x) states

-- canonical automata have equal states if and only if they have one language
pub states_determine_language : (d e : Automaton) → IsCanonical d → IsCanonical e → d.sizes ≡ e.sizes → (d.states ≡ e.states) ↔ SameLanguage d e
states_determine_language d e canonical other sizes = (
  (λ states. subst (SameLanguage d) (same_table d e sizes states) (λ w over. refl)),
  (λ same. ap (λ (x : Automaton). x.states) (canonical_forms d e canonical other sizes same)),
)

-- automata over the same tracks with equal states are equal
pub same_automata : (d e : Automaton) → d.sizes ≡ e.sizes → d.states ≡ e.states → d ≡ e
same_automata d e sizes states =
    ap (λ ss. let a : Automaton = record { sizes = ss; states = d.states } in a) sizes ∙ ap (λ qs. let a : Automaton = record { sizes = e.sizes; states = qs } in a) states
