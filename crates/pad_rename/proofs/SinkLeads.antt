-- Where words lead, with the sink, and the runs and paths that lead there.
use Rattle.std.proofs.Common.{◌≡◌, ◌==◌, ℕ, ◌<◌, ◌≤◌, Bool, true, false, not, ◌&&◌, List, [], ◌∷◌, ◌++◌, map, length, get_or, Option, None, Some, unwrap_or, ◌⊎◌, inl, inr, refl, sym, ap, ◌∙◌, subst, true≢false, arith, if◌then◌else◌}
use Rattle.std.specs.List.{All, Contains}
use Rattle.std.specs.Option.{option_and_then}
use Rattle.std.proofs.lemmas.Bool.{cases_lt}
use Rattle.std.proofs.lemmas.Option.{none-some, same_Some}
use Rattle.std.proofs.lemmas.List.{get_or-map, get_or_past, length-map}
use Rattle.std.proofs.lemmas.List.Elements.{All-contains_itself, All-from_get_or}
use Rattle.digit_tuple.specs.declared.transitions.Transition.{Transition}
use Rattle.digit_tuple.specs.AcceptingStates.{AreAccepting}
use Rattle.digit_tuple.specs.Automaton as branching
use Rattle.digit_tuple.specs.Automaton.{Branch, Branching, IsBefore, IsBranchTable, Leads, Path, no_branch}
use Rattle.digit_tuple.specs.Deterministic.{Automaton, IsTable, no_state, state_of, letters_of, states_of, accepting_of, transitions_of, step_of, target_by, run_of, accepts_of}
use Rattle.digit_tuple.proofs.DfaLemmas.{row_at}
use Rattle.digit_tuple.specs.Reversed.{transition_to}
use Rattle.digit_tuple.proofs.ReversedLemmas.{target_by-contains, contains_from_target_by}
use Rattle.residual_classes.specs.Classes.{next_of, first_of}
use Rattle.minimise.proofs.LeadLemmas.{lead, accepting_of-lead, accepts_of-first}
use Rattle.residual_classes.proofs.SinkLemmas.{no_transitions_past, not_accepting_past, row_of, next_within}
use Rattle.pad_rename.specs.SameBranching.{branch_as, branching_as}

module _ (d : Automaton) where
  -- from the sink on no letter leads away
  pub next_past : (q a : ℕ) → states_of d ≤ q → next_of d q a ≡ states_of d
  next_past q a past = ap (λ (es : List Transition). unwrap_or (target_by es a) (states_of d)) (no_transitions_past d q past)

  pub lead-sink : (w : List ℕ) → lead d (states_of d) w ≡ states_of d
  lead-sink [] = refl
  lead-sink (a ∷ w) = ap (λ q. lead d q w) (next_past (states_of d) a (omega arith)) ∙ lead-sink w

  -- a word and then another
  pub lead-append : (w v : List ℕ) (q : ℕ) → lead d q (w ++ v) ≡ lead d (lead d q w) v
  lead-append [] v q = refl
  lead-append (a ∷ w) v q = lead-append w v (next_of d q a)

  -- the initial state or the sink
  pub first_cases : (first_of d ≡ states_of d) ⊎ (first_of d ≡ 0)
  first_cases = by (not (accepting_of d 0) && (length (transitions_of d 0) == 0))
    where
      by : (b : Bool) → ((if b then states_of d else 0) ≡ states_of d) ⊎ ((if b then states_of d else 0) ≡ 0)
      by true = inl refl
      by false = inr refl

  -- a word is accepted where it leads to an accepting state
  pub accepts_of-lead : (w : List ℕ) → accepts_of d w ≡ accepting_of d (lead d (first_of d) w)
  accepts_of-lead w = sym (accepts_of-first d w) ∙ accepting_of-lead d w (first_of d)

  -- the sink does not accept
  pub accepting_within : (q : ℕ) → accepting_of d q ≡ true → q < states_of d
  accepting_within q is = by (cases_lt q (states_of d))
    where
      by : (q < states_of d) ⊎ (states_of d ≤ q) → q < states_of d
      by (inl within) = within
      by (inr past) = absurd (true≢false (sym is ∙ not_accepting_past d q past))

  -- accepting states are states
  pub AreAccepting-in_range : (set : List ℕ) → AreAccepting d set → All (λ q. q < states_of d) set
  AreAccepting-in_range set are k z within = ((are.members (get_or set k z)).0 (All-contains_itself set k z within)).0

  -- what leads to an accepting state is a state
  pub within_from_lead : (w : List ℕ) (q : ℕ) → accepting_of d (lead d q w) ≡ true → q < states_of d
  within_from_lead [] q is = accepting_within q is
  within_from_lead (a ∷ w) q is = by (cases_lt q (states_of d))
    where
      by : (q < states_of d) ⊎ (states_of d ≤ q) → q < states_of d
      by (inl within) = within
      by (inr past) = absurd (true≢false (sym is ∙ ap (λ p. accepting_of d (lead d p w)) (next_past q a past) ∙ ap (accepting_of d) (lead-sink w) ∙ not_accepting_past d (states_of d) (omega arith)))

  -- runs lead where letters lead
  pub run_from_lead : (w : List ℕ) (q r : ℕ) → r < states_of d → lead d q w ≡ r → run_of d q w ≡ Some r
  run_from_lead [] q r within leads = ap Some leads
  run_from_lead (a ∷ w) q r within leads = by (step_of d q a) leads (λ p. run_from_lead w p r within)
    where
      by : (o : Option ℕ) → lead d (unwrap_or o (states_of d)) w ≡ r → ((p : ℕ) → lead d p w ≡ r → run_of d p w ≡ Some r) → option_and_then (λ p. run_of d p w) o ≡ Some r
      by None is rest = absurd (omega (arith, within, is, lead-sink w))
      by (Some p) is rest = rest p is

  pub lead_from_run : (w : List ℕ) (q r : ℕ) → run_of d q w ≡ Some r → lead d q w ≡ r
  lead_from_run [] q r leads = same_Some q r leads
  lead_from_run (a ∷ w) q r leads = by (step_of d q a) leads (λ p. lead_from_run w p r)
    where
      by : (o : Option ℕ) → option_and_then (λ p. run_of d p w) o ≡ Some r → ((p : ℕ) → run_of d p w ≡ Some r → lead d p w ≡ r) → lead d (unwrap_or o (states_of d)) w ≡ r
      by None is rest = absurd (none-some r is)
      by (Some p) is rest = rest p is

  -- the same automaton as a nondeterministic one
  pub branch_is : (q : ℕ) → branching.branch_of (branching_as d) q ≡ branch_as (state_of d q)
  branch_is q = by (cases_lt q (states_of d))
    where
      by : (q < states_of d) ⊎ (states_of d ≤ q) → branching.branch_of (branching_as d) q ≡ branch_as (state_of d q)
      by (inl within) = get_or-map branch_as d.states q no_state no_branch within
      by (inr past) = get_or_past (map branch_as d.states) q no_branch (omega (arith, past, length-map d.states branch_as)) ∙ sym (ap branch_as (get_or_past d.states q no_state past))

  module _ (table : IsTable (letters_of d) d.states) where
    pub lead_within : (w : List ℕ) (q : ℕ) → q ≤ states_of d → lead d q w ≤ states_of d
    lead_within [] q within = within
    lead_within (a ∷ w) q within = lead_within w (next_of d q a) (next_within d table q a)

    pub step_from_leads : (p a q : ℕ) → Leads (branching_as d) p a q → step_of d p a ≡ Some q
    step_from_leads p a q leads = target_by-contains (transitions_of d p) a q (row_of d table p).ascending (subst (λ (b : Branch). Contains b.transitions (transition_to a q)) (branch_is p) leads)

    pub leads_from_step : (p a q : ℕ) → step_of d p a ≡ Some q → Leads (branching_as d) p a q
    leads_from_step p a q is = subst (λ (b : Branch). Contains b.transitions (transition_to a q)) (sym (branch_is p)) (contains_from_target_by (transitions_of d p) a q is)

    pub lead_from_path : (w : List ℕ) (p q : ℕ) → Path (branching_as d) p w q → run_of d p w ≡ Some q
    lead_from_path [] p q path = ap Some path
    lead_from_path (a ∷ w) p q path = ap (λ (o : Option ℕ). option_and_then (λ r. run_of d r w) o) (step_from_leads p a path.0 path.1) ∙ lead_from_path w path.0 q path.2

    pub path_from_run : (w : List ℕ) (p q : ℕ) → run_of d p w ≡ Some q → Path (branching_as d) p w q
    path_from_run [] p q run = same_Some p q run
    path_from_run (a ∷ w) p q run = by (step_of d p a) refl run (λ r. path_from_run w r q)
      where
        by : (o : Option ℕ) → step_of d p a ≡ o → option_and_then (λ r. run_of d r w) o ≡ Some q → ((r : ℕ) → run_of d r w ≡ Some q → Path (branching_as d) r w q) → Path (branching_as d) p (a ∷ w) q
        by None leads is rest = absurd (none-some q is)
        by (Some r) leads is rest = (r, leads_from_step p a r leads, rest r is)

    -- its states are a table
    pub IsBranchTable-as : IsBranchTable (letters_of d) (map branch_as d.states)
    IsBranchTable-as = record {
      initial = omega (arith, size, table.initial);
      small = omega (arith, size, table.part.small);
      rows = All-from_get_or (λ (b : Branch). branching.IsRow (letters_of d) (length (map branch_as d.states)) b.transitions) (map branch_as d.states) no_branch
          (λ q within. subst (λ (b : Branch). branching.IsRow (letters_of d) (length (map branch_as d.states)) b.transitions) (sym (branch_is q)) (row q (omega (arith, size, within))));
    }
      where
        size : length (map branch_as d.states) ≡ length d.states
        size = length-map d.states branch_as

        row : (q : ℕ) → q < states_of d → branching.IsRow (letters_of d) (length (map branch_as d.states)) (transitions_of d q)
        row q within = record {
          in_range = λ k e inside. let both = (row_at d q table within).in_range k e inside in (both.0, omega (arith, both.1, size));
          ascending = λ i j e before inside. inl ((row_at d q table within).ascending i j e before inside);
        }
