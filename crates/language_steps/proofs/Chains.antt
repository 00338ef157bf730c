-- Operations on more than two languages, from the left.
use Rattle.std.proofs.Common.{◌≡◌, ◌≢◌, ℕ, ◌+◌, ◌-◌, ◌<◌, ◌≤◌, List, [], ◌∷◌, length, take, drop, get_or, Bool, true, false, cond, bytes_eq, Option, None, Some, Result, Ok, Err, inl, inr, refl, sym, ap, ◌∙◌, subst, arith, zero, suc}
use Rattle.std.specs.List.{AllByRecursion}
use Rattle.std.proofs.lemmas.List.{drop_all, drop_more, take_all}
use Rattle.digit_tuple.specs.Deterministic.{Automaton}
use Rattle.digit_tuple.specs.Steps.{StepLog}
use Rattle.digit_tuple.specs.declared.step_fault.StepFault.{StepFault}
use Rattle.minimise.specs.Canonical.{IsCanonical}
use Rattle.automaton_steps.specs.Makings.{DoesStep}
use Rattle.language_steps.specs.LanguageSteps.{DoesChain, DoesOperation, language_named, languages_named, pair_step, with_language}
use Rattle.language_steps.specs.Operands.{AreCanonicalOver, HasLanguage, IsCanonicalOver, IsFirst}
use Rattle.language_steps.specs.declared.op.LanguageOp.TheVariants.{Pair}
use Rattle.language_steps.specs.declared.op.PairOp.{PairOp}
use Rattle.language_steps.specs.declared.op.PairOp.TheVariants as pairs
use Rattle.language_steps.specs.declared.reading.NamedLanguage.{NamedLanguage}

-- what an operation on two languages makes is canonical, over their tracks
pub pair_made : (op : PairOp) (sizes : List ℕ) (a b made : Automaton) → IsCanonicalOver sizes a → (pair_step op a b).IsMade made → IsCanonicalOver sizes made
pair_made pairs.Union sizes a b made over is = record { sizes_are = is.sizes ∙ over.sizes_are; canonical = is.canonical }
pair_made pairs.Intersection sizes a b made over is = record { sizes_are = is.sizes ∙ over.sizes_are; canonical = is.canonical }
pair_made pairs.Concatenation sizes a b made over is = record { sizes_are = is.sizes ∙ over.sizes_are; canonical = is.canonical }

pub pair_done : (op : PairOp) (sizes : List ℕ) (a b made : Automaton) (old new : StepLog) → IsCanonicalOver sizes a → DoesStep (pair_step op a b) old (Ok made) new → IsCanonicalOver sizes made
pair_done op sizes a b made old new over done = pair_made op sizes a b made over done.step.made_is

-- a language that is found is canonical
pub found_over : (sizes : List ℕ) (languages : List NamedLanguage) (name : List ℕ) (d : Automaton) → AreCanonicalOver sizes languages → language_named languages name ≡ Some d → IsCanonicalOver sizes d
found_over sizes [] name d all is = let no : None ≡ Some d = is in absurd cc
found_over sizes (l ∷ languages) name d all is = by (bytes_eq l.name name) is (λ later. found_over sizes languages name d all.1 later)
  where
    by : (b : Bool) → cond b (Some l.language) (language_named languages name) ≡ Some d → (language_named languages name ≡ Some d → IsCanonicalOver sizes d) → IsCanonicalOver sizes d
    by true same rest = let e : l.language ≡ d = let f : Some l.language ≡ Some d = same in cc in subst (IsCanonicalOver sizes) e all.0
    by false later rest = rest later

-- a copy over its own sizes
pub same_over : (sizes : List ℕ) (d made : Automaton) → IsCanonicalOver sizes d → made ≡ d → IsCanonicalOver made.sizes made
same_over sizes d made over is = record { sizes_are = refl; canonical = subst IsCanonical (sym is) over.canonical }

-- the languages of names, of which the first is this one
pub first_named : (languages : List NamedLanguage) (name : List ℕ) (names : List (List ℕ)) (d : Automaton) → language_named languages name ≡ Some d → languages_named languages (name ∷ names) ≡ d ∷ languages_named languages names
first_named languages name names d is = ap (λ (o : Option Automaton). with_language o (languages_named languages names)) is

pub first_of_names : (languages : List NamedLanguage) (names : List (List ℕ)) (first : List ℕ) (d : Automaton) → names ≢ [] → first ≡ get_or names 0 first → language_named languages first ≡ Some d → IsFirst d (languages_named languages names)
first_of_names languages [] first d some is found = absurd (some refl)
first_of_names languages (name ∷ names) first d some is found = (languages_named languages names, first_named languages name names d (subst (λ (n : List ℕ). language_named languages n ≡ Some d) is found))

-- the names after the first
pub names_chained : (op : PairOp) (languages : List NamedLanguage) (names : List (List ℕ)) (first : List ℕ) (d : Automaton) → names ≢ [] → first ≡ get_or names 0 first → language_named languages first ≡ Some d → (old new : StepLog) (r : Result Automaton StepFault)
    → DoesChain (pair_step op) d (languages_named languages (take (length names - 1) (drop 1 names))) old r new → DoesOperation (Pair op) (languages_named languages names) old r new
names_chained op languages [] first d some is found old new r does = absurd (some refl)
names_chained op languages (name ∷ names) first d some is found old new r does =
    let others : take (length (name ∷ names) - 1) names ≡ names = take_all (length (name ∷ names) - 1) names (omega arith) in
    let here : language_named languages name ≡ Some d = subst (λ (n : List ℕ). language_named languages n ≡ Some d) is found in
    subst (λ (ds : List Automaton). DoesOperation (Pair op) ds old r new) (sym (first_named languages name names d here)) (subst (λ (ns : List (List ℕ)). DoesChain (pair_step op) d (languages_named languages ns) old r new) others does)

module _ (op : PairOp) (languages : List NamedLanguage) (first : Automaton) (others : List (List ℕ)) (initial : StepLog) where
  -- Whatever the steps on the other languages give, those on all give. What is made so far is canonical.
  pub record IsChained (sizes : List ℕ) (i : ℕ) (made : Automaton) (steps : StepLog) : Type 0 where
    pub over : IsCanonicalOver sizes made
    pub so_far : (r : Result Automaton StepFault) (new : StepLog) → DoesChain (pair_step op) made (languages_named languages (drop i others)) steps r new → DoesChain (pair_step op) first (languages_named languages others) initial r new

  pub not_chained : (sizes : List ℕ) → IsCanonicalOver sizes first → IsChained sizes 0 first initial
  not_chained sizes over = record { over = over; so_far = λ r new does. does }

  module _ (sizes : List ℕ) (i : ℕ) (name : List ℕ) (d made : Automaton) (steps : StepLog) (within : i < length others) (is : name ≡ get_or others i name) (found : language_named languages name ≡ Some d) (chained : IsChained sizes i made steps) where
    next_left : languages_named languages (drop i others) ≡ d ∷ languages_named languages (drop (i + 1) others)
    next_left = ap (languages_named languages) (drop_more others i name within ∙ ap (λ (n : List ℕ). n ∷ drop (i + 1) others) (sym is)) ∙ first_named languages name (drop (i + 1) others) d found

    -- one more step
    pub chain_more : (more : Automaton) (next : StepLog) → DoesStep (pair_step op made d) steps (Ok more) next → IsChained sizes (i + 1) more next
    chain_more more next done = record {
      over = pair_done op sizes made d more steps next chained.over done;
      so_far = λ r new does. chained.so_far r new (subst (λ (ds : List Automaton). DoesChain (pair_step op) made ds steps r new) (sym next_left) (inl (more, next, done, does)));
    }

    -- or it is refused
    pub chain_refused : (fault : StepFault) (new : StepLog) → DoesStep (pair_step op made d) steps (Err fault) new → DoesChain (pair_step op) first (languages_named languages others) initial (Err fault) new
    chain_refused fault new refused = chained.so_far (Err fault) new (subst (λ (ds : List Automaton). DoesChain (pair_step op) made ds steps (Err fault) new) (sym next_left) (inr (fault, refused, refl)))

  -- all steps are done
  pub chain_done : (sizes : List ℕ) (i : ℕ) (made : Automaton) (steps : StepLog) → length others ≤ i → IsChained sizes i made steps → DoesChain (pair_step op) first (languages_named languages others) initial (Ok made) steps
  chain_done sizes i made steps past chained =
      chained.so_far (Ok made) steps (subst (λ (ds : List Automaton). DoesChain (pair_step op) made ds steps (Ok made) steps) (sym (ap (languages_named languages) (drop_all i others past))) (refl, refl))
