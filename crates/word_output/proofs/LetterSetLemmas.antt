-- The words whose letter compares with a given one.
use Rattle.std.proofs.Common.{◌≡◌, ℕ, ℤ, ◌+◌, ◌<◌, ◌≤◌, ◌↔◌, Bool, false, IsTrue, List, [], ◌∷◌, ◌++◌, length, ◌⊎◌, inl, inr, Option, None, Some, slice_index_or, refl, sym, ap, ◌∙◌, subst, true≢false, arith}
use Rattle.std.specs.Option.{option_and_then, option_map_or}
use Rattle.std.proofs.lemmas.Bool.{cases_lt}
use Rattle.std.proofs.lemmas.List.{get_or_append_left, get_or_push, length_push}
use Rattle.std.proofs.lemmas.Option.{none-some}
use Rattle.digit_tuple.specs.Deterministic.{Automaton, accepting_of, accepts_from, accepts_of, run_of, states_of, step_of, target_by}
use Rattle.digit_tuple.specs.Letters.{product, IsWord}
use Rattle.digit_tuple.specs.Reflagged.{IsReflagged}
use Rattle.digit_tuple.specs.declared.transitions.Transition.{Transition}
use Rattle.residual_classes.specs.Classes.{class_of}
use Rattle.minimise.specs.Canonical.{IsCanonical}
use Rattle.minimise.specs.Residuals.{SameLanguage}
use Rattle.minimise.proofs.RunLemmas.{run_within}
use Rattle.num_system.specs.declared.comparison.Comparison.{Comparison}
use Rattle.word_output.specs.LetterFunctions.{IsLetterFunction, LetterFunctionValue, letter_after, letter_in}
use Rattle.word_output.specs.LetterSets.{ComparesLetters, HasComparedLetter, IsLetterSet}

-- whether a word is accepted is determined by where it leads
pub accepts-run : (d : Automaton) (w : List ℕ) (q : ℕ) → accepts_from d q w ≡ option_map_or (λ p. accepting_of d p) (run_of d q w) false
accepts-run d [] q = refl
accepts-run d (a ∷ w) q = by (step_of d q a) (accepts-run d w)
  where
    by : (o : Option ℕ) → ((p : ℕ) → accepts_from d p w ≡ option_map_or (λ r. accepting_of d r) (run_of d p w) false)
        → option_map_or (λ p. accepts_from d p w) o false ≡ option_map_or (λ p. accepting_of d p) (option_and_then (λ p. run_of d p w) o) false
    by None rest = refl
    by (Some p) rest = rest p

-- other flags lead nowhere else
pub run-reflagged : (flags : List Bool) (old new : Automaton) → IsReflagged flags old new → (w : List ℕ) (q : ℕ) → run_of new q w ≡ run_of old q w
run-reflagged flags old new is [] q = refl
run-reflagged flags old new is (a ∷ w) q =
    ap (λ (es : List Transition). option_and_then (λ p. run_of new p w) (target_by es a)) (is.states.transitions q) ∙ by (step_of old q a) (run-reflagged flags old new is w)
  where
    by : (o : Option ℕ) → ((p : ℕ) → run_of new p w ≡ run_of old p w) → option_and_then (λ p. run_of new p w) o ≡ option_and_then (λ p. run_of old p w) o
    by None rest = refl
    by (Some p) rest = rest p

module _ (comparison : Comparison) (letter : ℤ) (f : LetterFunctionValue) (is : IsLetterFunction f) (flags : List Bool)
    (flagged : (q : ℕ) → q < states_of f.automaton → IsTrue (slice_index_or flags q false) ↔ HasComparedLetter comparison letter f q)
    (table : Automaton) (reflagged : IsReflagged flags f.automaton table) where
  abbrev Has : List ℕ → Type 0
  Has w = (b : ℤ) × (letter_after f w ≡ Some b) × ComparesLetters comparison b letter

  accepts_is : (w : List ℕ) → IsTrue (accepts_of table w) ↔ Has w
  accepts_is w = subst (λ b. IsTrue b ↔ Has w) (sym (accepts-run table w 0 ∙ ap (λ (o : Option ℕ). option_map_or (λ p. accepting_of table p) o false) (run-reflagged flags f.automaton table reflagged w 0)))
      (by (run_of f.automaton 0 w) refl)
    where
      by : (o : Option ℕ) → run_of f.automaton 0 w ≡ o → IsTrue (option_map_or (λ p. accepting_of table p) o false) ↔ Has w
      by None leads = (
        (λ yes. absurd (true≢false (sym yes))),
        (λ has. absurd (none-some has.0 (sym (ap (λ (r : Option ℕ). letter_in f.letters (option_map_or (λ p. class_of f.classes p) r 0)) leads) ∙ has.1))),
      )
      by (Some q) leads =
          let inside : q < states_of f.automaton = run_within f.automaton w 0 q is.canonical.table is.canonical.table.initial leads in
          let flag : accepting_of table q ≡ slice_index_or flags q false = reflagged.states.accepting q inside in
          let at : letter_after f w ≡ letter_in f.letters (class_of f.classes q) = ap (λ (r : Option ℕ). letter_in f.letters (option_map_or (λ p. class_of f.classes p) r 0)) leads in (
            (λ yes. let has = (flagged q inside).0 (sym flag ∙ yes) in (has.0, at ∙ has.1, has.2)),
            (λ has. flag ∙ (flagged q inside).1 (has.0, sym at ∙ has.1, has.2)),
          )

  pub IsLetterSet-least : (d : Automaton) → d.sizes ≡ table.sizes → SameLanguage table d → IsCanonical d → IsLetterSet comparison letter f d
  IsLetterSet-least d sizes same canonical = record {
    sizes = sizes ∙ reflagged.sizes;
    canonical = canonical;
    language = λ w over. subst (λ b. IsTrue b ↔ Has w) (same w (subst (λ (ss : List ℕ). IsWord (product ss) w) (sym reflagged.sizes) over)) (accepts_is w);
  }

-- one flag more
pub flags_more : (P : ℕ → Type 0) (flags new : List Bool) (count : ℕ) (flag : Bool) → length flags ≡ count → ((q : ℕ) → q < count → IsTrue (slice_index_or flags q false) ↔ P q) → new ≡ flags ++ flag ∷ [] → IsTrue flag ↔ P count
    → (length new ≡ count + 1) × ((q : ℕ) → q < count + 1 → IsTrue (slice_index_or new q false) ↔ P q)
flags_more P flags new count flag long before pushed is = (
  ap (λ (bs : List Bool). length bs) pushed ∙ length_push flags flag ∙ ap (λ n. n + 1) long,
  λ q inside. subst (λ (bs : List Bool). IsTrue (slice_index_or bs q false) ↔ P q) (sym pushed) (by q inside (cases_lt q count)),
)
  where
    by : (q : ℕ) → q < count + 1 → (q < count) ⊎ (count ≤ q) → IsTrue (slice_index_or (flags ++ flag ∷ []) q false) ↔ P q
    by q inside (inl less) = subst (λ b. IsTrue b ↔ P q) (sym (get_or_append_left flags (flag ∷ []) false q (omega (arith, long, less)))) (before q less)
    by q inside (inr more) =
        let same : count ≡ q = omega (arith, inside, more) in
        subst (λ b. IsTrue b ↔ P q) (sym (get_or_push flags flag false q (long ∙ same))) (subst (λ n. IsTrue flag ↔ P n) same is)
