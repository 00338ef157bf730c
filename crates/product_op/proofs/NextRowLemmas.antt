-- Rows of where the parts of letters lead: as transitions are written into them one by one, and one row after another.
use Rattle.std.proofs.Common.{◌≡◌, ◌≢◌, ◌==◌, ℕ, ◌+◌, ◌<◌, ◌≤◌, suc, List, [], ◌∷◌, ◌++◌, length, take, get_or, set, replicate, Some, unwrap_or, ◌⊎◌, inl, inr, refl, sym, ap, ◌∙◌, subst, arith, if◌then◌else◌, get_or-set_same, get_or-set_other, below_more}
use Rattle.std.proofs.Math.Seq.{get_or-append_seam}
use Rattle.std.specs.List.{All, AllPairs}
use Rattle.std.proofs.lemmas.Bool.{cases_eq}
use Rattle.std.proofs.lemmas.List.{take_more, get_or-take, get_or_default, get_or_append_left, get_or-replicate, length-replicate, length-take-le, length-append}
use Rattle.std.proofs.lemmas.List.FromFn.{fill_by_all, length-map-range_with_len, get_or-map-range_with_len}
use Rattle.digit_tuple.specs.declared.transitions.Transition.{Transition}
use Rattle.digit_tuple.specs.Deterministic.{Automaton, IsByEarlier, letters_of, states_of, transitions_of, target_by}
use Rattle.digit_tuple.proofs.DfaLemmas.{target_by-other, target_by-first}
use Rattle.residual_classes.specs.Classes.{next_of}
use Rattle.residual_classes.proofs.SinkLemmas.{no_transitions_past}
use Rattle.product_op.specs.declared.next_row.NextRow.{NextRow}
use Rattle.product_op.specs.NextRows.{IsNextRow}
use Rattle.product_op.specs.NextTables.{next_list}
use Rattle.product_op.specs.Readings.{state_at}

-- one more transition, by another letter
target_by-more_other : (es : List Transition) (e : Transition) (letter : ℕ) → e.letter ≢ letter → target_by (es ++ e ∷ []) letter ≡ target_by es letter
target_by-more_other [] e letter other = target_by-other e [] letter other
target_by-more_other (f ∷ es) e letter other = ap (λ o. if f.letter == letter then Some f.target else o) (target_by-more_other es e letter other)

-- one more transition, by a letter that no transition before it is by
target_by-more_same : (es : List Transition) (e : Transition) → All (λ f. f.letter ≢ e.letter) es → target_by (es ++ e ∷ []) e.letter ≡ Some e.target
target_by-more_same [] e none = target_by-first e [] e.letter refl
target_by-more_same (f ∷ es) e none =
    target_by-other f (es ++ e ∷ []) e.letter (none 0 f (omega arith)) ∙ target_by-more_same es e (λ k z within. none (suc k) z (omega arith))

-- at the letter of each transition is its target, and elsewhere what was there
abbrev pub AreWritten : List Transition → List ℕ → List ℕ → Type 0
AreWritten es old new = (letter : ℕ) → get_or new letter 0 ≡ unwrap_or (target_by es letter) (get_or old letter 0)

-- one more transition is written
pub AreWritten-more : (es : List Transition) (k : ℕ) (z : Transition) (old new : List ℕ) → AllPairs IsByEarlier es → k < length es → (get_or es k z).letter < length new
    → AreWritten (take k es) old new → AreWritten (take (k + 1) es) old (set new (get_or es k z).letter (get_or es k z).target)
AreWritten-more es k z old new ascending inside within before letter = by (cases_eq e.letter letter)
  where
    e : Transition
    e = get_or es k z

    more : target_by (take (k + 1) es) letter ≡ target_by (take k es ++ e ∷ []) letter
    more = ap (λ fs. target_by fs letter) (take_more es k z inside)

    earlier : All (λ f. f.letter ≢ e.letter) (take k es)
    earlier i w low same =
        let less : i < k = omega (arith, low, length-take-le k es (omega (arith, inside))) in
        absurd (omega (arith, ascending i k w less inside, same, ap (λ (f : Transition). f.letter) (get_or-take k es i w less), ap (λ (f : Transition). f.letter) (get_or_default es k w z inside)))

    by : (e.letter ≡ letter) ⊎ (e.letter ≢ letter) → get_or (set new e.letter e.target) letter 0 ≡ unwrap_or (target_by (take (k + 1) es) letter) (get_or old letter 0)
    by (inl same) =
        ap (λ a. get_or (set new e.letter e.target) a 0) (sym same) ∙ get_or-set_same new e.letter e.target 0 within
        ∙ sym (ap (λ o. unwrap_or o (get_or old letter 0)) (more ∙ ap (target_by (take k es ++ e ∷ [])) (sym same) ∙ target_by-more_same (take k es) e earlier))
    by (inr other) =
        get_or-set_other new e.letter letter e.target 0 (λ same. other (sym same)) ∙ before letter
        ∙ sym (ap (λ o. unwrap_or o (get_or old letter 0)) (more ∙ target_by-more_other (take k es) e letter other))

-- over a row of sinks the transitions of a state make the row of the state
pub next_list-written : (d : Automaton) (state : ℕ) (old new : List ℕ) → old ≡ replicate (letters_of d) (states_of d) → length new ≡ length old
    → AreWritten (transitions_of d state) old new → new ≡ next_list d state
next_list-written d state old new sinks long written =
    fill_by_all (next_of d state) new (letters_of d) 0 (omega (arith, long, ap length sinks, length-replicate (letters_of d) (states_of d)))
    (λ letter less. written letter
    ∙ ap (unwrap_or (target_by (transitions_of d state) letter)) (ap (λ xs. get_or xs letter 0) sinks ∙ get_or-replicate (letters_of d) letter (states_of d) 0 less))

-- the row of the sink
pub next_list-sink : (d : Automaton) (state : ℕ) (old : List ℕ) → old ≡ replicate (letters_of d) (states_of d) → states_of d ≤ state → old ≡ next_list d state
next_list-sink d state old sinks past =
    next_list-written d state old old sinks refl (subst (λ es. AreWritten es old old) (sym (no_transitions_past d state past)) (λ letter. refl))

-- where a letter leads by the row
module _ (d : Automaton) (state : ℕ) (next : List ℕ) (is : next ≡ next_list d state) where
  pub length-next_list : length next ≡ letters_of d
  length-next_list = ap length is ∙ length-map-range_with_len (next_of d state) 0 (letters_of d)

  pub next_list-at : (letter : ℕ) → letter < letters_of d → get_or next letter 0 ≡ next_of d state letter
  next_list-at letter less = ap (λ xs. get_or xs letter 0) is ∙ get_or-map-range_with_len (next_of d state) 0 (letters_of d) letter letter 0 less (omega arith)

-- a row of the state of each of the first so many
pub record AreRowsTo (automata : List Automaton) (key : List ℕ) (rows : List NextRow) (count : ℕ) : Type 0 where
  pub count_is : length rows ≡ count
  pub each : (i : ℕ) → i < count → (d : Automaton) (z : NextRow) → IsNextRow (get_or automata i d) (state_at key i) (get_or rows i z)

-- one more row
pub AreRowsTo-more : (automata : List Automaton) (key : List ℕ) (rows : List NextRow) (count : ℕ) (d : Automaton) (row : NextRow) → count < length automata → d ≡ get_or automata count d
    → IsNextRow d (state_at key count) row → AreRowsTo automata key rows count → AreRowsTo automata key (rows ++ row ∷ []) (count + 1)
AreRowsTo-more automata key rows count d row within here is are = record {
  count_is = omega (arith, length-append rows (row ∷ []), are.count_is);
  each = below_more (λ i. (e : Automaton) (z : NextRow) → IsNextRow (get_or automata i e) (state_at key i) (get_or (rows ++ row ∷ []) i z)) count
      (λ i less e z. subst (IsNextRow (get_or automata i e) (state_at key i)) (sym (get_or_append_left rows (row ∷ []) z i (omega (arith, less, are.count_is)))) (are.each i less e z))
      (λ e z. subst (λ (a : Automaton). IsNextRow a (state_at key count) (get_or (rows ++ row ∷ []) count z)) (here ∙ get_or_default automata count d e within)
      (subst (IsNextRow d (state_at key count)) (sym (ap (λ i. get_or (rows ++ row ∷ []) i z) (sym are.count_is) ∙ get_or-append_seam rows row [] z)) is));
}
