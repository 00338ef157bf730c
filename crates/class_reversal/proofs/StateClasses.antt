-- The class that a word has from each state.
use Rattle.std.proofs.Common.{◌≡◌, ◌==◌, not, ℕ, ◌<◌, ◌≤◌, Bool, true, false, List, [], ◌∷◌, ◌++◌, length, map, None, Some, ◌⊎◌, inl, inr, refl, sym, ap, ◌∙◌, true≢false, arith, if◌then◌else◌}
use Rattle.std.specs.List.{range_with_len}
use Rattle.std.specs.Option.{option_map_or, option_and_then}
use Rattle.std.proofs.lemmas.Bool.{cases_lt, eqb-true}
use Rattle.std.proofs.lemmas.List.{get_or_default, get_or_past}
use Rattle.std.proofs.lemmas.List.Folds.{list_any_none, list_any_at}
use Rattle.std.proofs.lemmas.List.FromFn.{length-map-range_with_len, get_or-map-range_with_len, fill_by_all}
use Rattle.digit_tuple.specs.declared.transitions.Transition.{Transition}
use Rattle.digit_tuple.specs.Deterministic.{Automaton, states_of, target_by, run_of}
use Rattle.digit_tuple.specs.Keys.{some_nonzero}
use Rattle.residual_classes.specs.Classes.{class_of}
use Rattle.residual_classes.specs.ClassFunctions.{class_from}
use Rattle.residual_classes.proofs.ClassFromLemmas.{no_class_past}
use Rattle.residual_classes.proofs.SinkLemmas.{no_transitions_past}
use Rattle.minimise.proofs.ClassLeadLemmas.{class_from-lead, class_of-lead}
use Rattle.minimise.proofs.LeadLemmas.{lead}
use Rattle.class_reversal.specs.BackwardClasses.{first_class, has_some_class}

-- functions with the same values make the same list
pub map-same : (f g : ℕ → ℕ) (xs : List ℕ) → ((x : ℕ) → f x ≡ g x) → map f xs ≡ map g xs
map-same f g [] same = refl
map-same f g (x ∷ xs) same = ap (λ y. y ∷ map f xs) (same x) ∙ ap (λ ys. g x ∷ ys) (map-same f g xs same)

pub map-twice : (f g h : ℕ → ℕ) (xs : List ℕ) → ((x : ℕ) → f (g x) ≡ h x) → map f (map g xs) ≡ map h xs
map-twice f g h [] same = refl
map-twice f g h (x ∷ xs) same = ap (λ y. y ∷ map f (map g xs)) (same x) ∙ ap (λ ys. h x ∷ ys) (map-twice f g h xs same)

-- classes of which none is other than 0 are all 0
pub no_class : (key : List ℕ) → has_some_class key ≡ false → (q : ℕ) → class_of key q ≡ 0
no_class key none q = by (cases_lt q (length key)) (class_of key q == 0) refl
  where
    by : (q < length key) ⊎ (length key ≤ q) → (b : Bool) → (class_of key q == 0) ≡ b → class_of key q ≡ 0
    by cases true is = eqb-true (class_of key q) 0 is
    by (inl within) false is = absurd (true≢false (sym (list_any_at (λ class. not (class == 0)) key q 0 within (ap not is)) ∙ none))
    by (inr past) false is = get_or_past key q 0 past

pub none_of_zeros : (key : List ℕ) → ((q : ℕ) → class_of key q ≡ 0) → has_some_class key ≡ false
none_of_zeros key zeros = list_any_none (λ class. not (class == 0)) key (λ q d within. ap (λ class. not (class == 0)) (sym (get_or_default key q 0 d within) ∙ zeros q))

-- lists of which both are a key, or neither, by what they are as keys
pub same_classes : (xs ys : List ℕ) → some_nonzero xs ≡ some_nonzero ys → (q : ℕ) → class_of xs q ≡ class_of ys q
same_classes xs ys same q = by (has_some_class xs) (has_some_class ys) refl refl same
  where
    by : (b z : Bool) → has_some_class xs ≡ b → has_some_class ys ≡ z → (if b then Some xs else None) ≡ (if z then Some ys else None) → class_of xs q ≡ class_of ys q
    by true true one two is = let lists : xs ≡ ys = some_list xs ys is in ap (λ zs. class_of zs q) lists
      where
        some_list : (xs ys : List ℕ) → Some xs ≡ Some ys → xs ≡ ys
        some_list xs ys is = cc
    by true false one two is = absurd (some_none xs is)
      where
        some_none : (xs : List ℕ) → Some xs ≡ None → ⊥
        some_none xs is = cc
    by false true one two is = absurd (none_some ys is)
      where
        none_some : (ys : List ℕ) → None ≡ Some ys → ⊥
        none_some ys is = cc
    by false false one two is = no_class xs one q ∙ sym (no_class ys two q)

-- the class of the initial state, which is 0 where there is no key
pub first_of_key : (xs : List ℕ) → option_map_or first_class (some_nonzero xs) 0 ≡ class_of xs 0
first_of_key xs = by (has_some_class xs) refl
  where
    by : (b : Bool) → has_some_class xs ≡ b → option_map_or first_class (if b then Some xs else None) 0 ≡ class_of xs 0
    by true some = refl
    by false none = sym (no_class xs none 0)

module _ (d : Automaton) where
  -- the class that the word has from each state
  abbrev pub each_class : List ℕ → List ℕ → List ℕ
  each_class classes w = map (λ q. class_from d classes q w) (range_with_len 0 (states_of d))

  pub length-each : (classes w : List ℕ) → length (each_class classes w) ≡ states_of d
  length-each classes w = length-map-range_with_len (λ q. class_from d classes q w) 0 (states_of d)

  pub each_class-empty : (classes : List ℕ) → length classes ≡ states_of d → each_class classes [] ≡ classes
  each_class-empty classes count = sym (fill_by_all (λ q. class_from d classes q []) classes (states_of d) 0 count (λ q within. refl))

  -- no word has a class from the sink
  pub class_from-past : (classes w : List ℕ) (q : ℕ) → length classes ≡ states_of d → states_of d ≤ q → class_from d classes q w ≡ 0
  class_from-past classes [] q count past = no_class_past d classes count q past
  class_from-past classes (a ∷ w) q count past =
      ap (λ (es : List Transition). option_map_or (λ p. class_of classes p) (option_and_then (λ p. run_of d p w) (target_by es a)) 0) (no_transitions_past d q past)

  pub each_class-at : (classes w : List ℕ) (q : ℕ) → length classes ≡ states_of d → class_of (each_class classes w) q ≡ class_from d classes q w
  each_class-at classes w q count = by (cases_lt q (states_of d))
    where
      by : (q < states_of d) ⊎ (states_of d ≤ q) → class_of (each_class classes w) q ≡ class_from d classes q w
      by (inl within) = get_or-map-range_with_len (λ q. class_from d classes q w) 0 (states_of d) q q 0 within (omega arith)
      by (inr past) = get_or_past (each_class classes w) q 0 (omega (arith, past, length-each classes w)) ∙ sym (class_from-past classes w q count past)

  -- the classes of a word after those of another
  pub each_class-each : (classes v w : List ℕ) → length classes ≡ states_of d → each_class (each_class classes v) w ≡ each_class classes (w ++ v)
  each_class-each classes v w count = map-same (λ q. class_from d (each_class classes v) q w) (λ q. class_from d classes q (w ++ v)) (range_with_len 0 (states_of d)) (λ q.
      class_of-lead d (each_class classes v) (length-each classes v) w q
      ∙ each_class-at classes v (lead d q w) count
      ∙ sym (class_from-lead d classes count w v q))

  -- where no state has a class, no word has one from a state
  pub none_from_none : (key w : List ℕ) → length key ≡ states_of d → has_some_class key ≡ false → has_some_class (each_class key w) ≡ false
  none_from_none key w count none = none_of_zeros (each_class key w) (λ q. each_class-at key w q count ∙ class_of-lead d key count w q ∙ no_class key none (lead d q w))
