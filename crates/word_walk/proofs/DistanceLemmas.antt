-- Numbers of states that fit those of the targets of transitions are their distances from acceptance.
use Rattle.std.proofs.Common.{◌≡◌, ◌==◌, ℕ, zero, suc, ◌-◌, ◌<◌, ◌≤◌, ◌&&◌, ◌||◌, Bool, true, false, not, if◌then◌else◌, nat_lt, List, length, get_or, ◌⊎◌, inl, inr, refl, sym, ap, ◌∙◌, subst, arith}
use Rattle.std.specs.List.{Contains}
use Rattle.std.proofs.lemmas.Bool.{and_parts, cases_lt, lt-ltb, ltb-true, ne_eqb, not-true, true≢false}
use Rattle.std.proofs.lemmas.List.Folds.{list_any_at, list_any_none, Any-from_list_any}
use Rattle.digit_tuple.specs.Deterministic.{Automaton, IsTable, letters_of, states_of, accepting_of, transitions_of}
use Rattle.digit_tuple.specs.declared.transitions.Transition.{Transition}
use Rattle.digit_tuple.proofs.DfaLemmas.{row_at}
use Rattle.word_walk.specs.Distances.{AreDistances, AreSettled, fits, leads_below}
use Rattle.word_walk.specs.Levels.{lives}
use Rattle.word_walk.proofs.LevelLemmas.{target_within}

-- no target has a lesser number
none_below : (ds : List ℕ) (es : List Transition) (k : ℕ) → leads_below ds es k ≡ false → (i : ℕ) (e : Transition) → i < length es → k ≤ get_or ds (get_or es i e).target 0
none_below ds es k none i e inside = by (cases_lt (get_or ds (get_or es i e).target 0) k)
  where
    by : (get_or ds (get_or es i e).target 0 < k) ⊎ (k ≤ get_or ds (get_or es i e).target 0) → k ≤ get_or ds (get_or es i e).target 0
    by (inl less) = absurd (true≢false (sym (list_any_at (λ t. nat_lt (get_or ds t.target 0) k) es i e inside (lt-ltb (get_or ds (get_or es i e).target 0) k less)) ∙ none))
    by (inr enough) = enough

-- what fits says of a number that is not 0
record IsMore (ds : List ℕ) (accepting : Bool) (es : List Transition) (k : ℕ) : Type 0 where
  refused : accepting ≡ false
  no_nearer : leads_below ds es (k - 1) ≡ false
  nearer : k < 4294967295 → leads_below ds es k ≡ true

fits-more : (ds : List ℕ) (accepting : Bool) (es : List Transition) (k : ℕ) → 0 < k → fits ds accepting es k ≡ true → IsMore ds accepting es k
fits-more ds accepting es k some fit = record {
  refused = not-true accepting both.0;
  no_nearer = not-true (leads_below ds es (k - 1)) both.1;
  nearer = λ small. sym (ap (λ b. b || leads_below ds es k) (ne_eqb k 4294967295 (λ far. omega (arith, small, far)))) ∙ parts.1;
}
  where
    rest : Bool
    rest = (not accepting && not (leads_below ds es (k - 1))) && ((k == 4294967295) || leads_below ds es k)

    whole : rest ≡ true
    whole = sym (ap (λ b. if b then accepting else rest) (ne_eqb k 0 (λ none. omega (arith, none, some)))) ∙ fit

    parts : ((not accepting && not (leads_below ds es (k - 1))) ≡ true) × (((k == 4294967295) || leads_below ds es k) ≡ true)
    parts = and_parts (not accepting && not (leads_below ds es (k - 1))) ((k == 4294967295) || leads_below ds es k) whole

    both : (not accepting ≡ true) × (not (leads_below ds es (k - 1)) ≡ true)
    both = and_parts (not accepting) (not (leads_below ds es (k - 1))) parts.0

module _ (d : Automaton) (table : IsTable (letters_of d) d.states) (ds : List ℕ) (fit : AreSettled d ds) where
  more : (q : ℕ) → q < states_of d → 0 < get_or ds q 0 → IsMore ds (accepting_of d q) (transitions_of d q) (get_or ds q 0)
  more q within some = fits-more ds (accepting_of d q) (transitions_of d q) (get_or ds q 0) some (fit q within)

  -- no shorter word is accepted
  none_shorter : (m q : ℕ) → q < states_of d → m < get_or ds q 0 → lives d m q ≡ false
  none_shorter zero q within less = (more q within less).refused
  none_shorter (suc m) q within less =
      let is = more q within (omega (arith, less)) in
      list_any_none (λ e. lives d m e.target) (transitions_of d q)
      (λ i e inside. none_shorter m (get_or (transitions_of d q) i e).target ((row_at d q table within).in_range i e inside).1
      (omega (arith, less, none_below ds (transitions_of d q) (get_or ds q 0 - 1) is.no_nearer i e inside)))

  -- a word of so many letters is
  some_so_long : (k q : ℕ) → q < states_of d → get_or ds q 0 ≡ k → k < 4294967295 → lives d k q ≡ true
  some_so_long zero q within is small = subst (λ n. fits ds (accepting_of d q) (transitions_of d q) n ≡ true) is (fit q within)
  some_so_long (suc k) q within is small =
      let es : List Transition = transitions_of d q in
      let says : IsMore ds (accepting_of d q) es (get_or ds q 0) = more q within (omega (arith, is)) in
      let near : leads_below ds es (get_or ds q 0) ≡ true = says.nearer (omega (arith, is, small)) in
      let at = Any-from_list_any (λ e. nat_lt (get_or ds e.target 0) (get_or ds q 0)) es near in
      let there : Contains es at.1 = (at.0, at.2, at.3) in
      let less : get_or ds at.1.target 0 < get_or ds q 0 = ltb-true (get_or ds at.1.target 0) (get_or ds q 0) at.4 in
      let least : get_or ds q 0 - 1 ≤ get_or ds (get_or es at.0 at.1).target 0 = none_below ds es (get_or ds q 0 - 1) says.no_nearer at.0 at.1 at.2 in
      let one : get_or ds (get_or es at.0 at.1).target 0 ≡ get_or ds at.1.target 0 = ap (λ (t : Transition). get_or ds t.target 0) at.3 in
      let rest : lives d k at.1.target ≡ true = some_so_long k at.1.target (target_within d table q within at.1 there) (omega (arith, is, less, least, one)) (omega (arith, small)) in
      list_any_at (λ e. lives d k e.target) es at.0 at.1 at.2 (ap (λ (t : Transition). lives d k t.target) at.3 ∙ rest)

  pub AreDistances-settled : length ds ≡ states_of d → AreDistances d ds
  AreDistances-settled width q within = record {
    none = λ m less. none_shorter m q (omega (arith, within, width)) less;
    some = λ small. some_so_long (get_or ds q 0) q (omega (arith, within, width)) refl small;
  }
