-- Keys of listed words lead where words are listed.
use Rattle.std.proofs.Common.{◌≡◌, ◌==◌, ◌&&◌, ℕ, zero, suc, ◌<◌, Bool, true, false, not, cond, List, [], ◌∷◌, ◌++◌, reverse, filter, map, length, get_or, Option, None, Some, refl, sym, ap, ◌∙◌, subst, arith, if◌then◌else◌}
use Rattle.std.specs.List.{AllPairs}
use Rattle.std.specs.Option.{option_map, option_map_or}
use Rattle.std.proofs.lemmas.Bool.{eqb-true, ne_eqb, and_parts}
use Rattle.std.proofs.lemmas.List.{get_or-map, length-map}
use Rattle.std.proofs.lemmas.List.Elements.{All-filter, All-map}
use Rattle.std.proofs.lemmas.List.Kept.{AllPairs-filter}
use Rattle.digit_tuple.specs.Deterministic as deterministic
use Rattle.digit_tuple.specs.Deterministic.{Automaton, IsTable, letters_of, states_of, step_of, target_by, transitions_of, accepting_of, accepts_from, accepts_of}
use Rattle.digit_tuple.specs.Keys.{AreKeyTransitions, IsByEarlier, KeyTransition, key_by, key_accepts}
use Rattle.digit_tuple.specs.Letters.{IsWord}
use Rattle.digit_tuple.specs.declared.direction.Direction.{Direction}
use Rattle.digit_tuple.specs.declared.direction.Direction.TheVariants.{Msd, Lsd}
use Rattle.digit_tuple.specs.declared.transitions.Transition.{Transition}
use Rattle.digit_tuple.proofs.AcceptedLemmas.{accepted_over}
use Rattle.digit_tuple.proofs.PaddingLemmas.{reverse-cons}
use Rattle.determinise.proofs.ReversalLemmas.{same_bool}
use Rattle.residual_classes.proofs.SinkLemmas.{row_of}
use Rattle.numeration.specs.Words.{is_plain}
use Rattle.word_walk.specs.Listed.{is_shortest, is_listed, IsListing}
use Rattle.word_walk.specs.ListedKeys.{accepts_key, goes_on, key_after, key_transition, key_transitions, mark_after, mark_in, may_end, state_in}

module _ (skip : Option Direction) where
  transitions-ascending : (es : List Transition) → AllPairs deterministic.IsByEarlier es → AllPairs IsByEarlier (map (key_transition skip) es)
  transitions-ascending es up i j z before within =
      let e : Transition = record { letter = 0; target = 0 } in
      let inside : j < length es = omega (arith, within, length-map es (key_transition skip)) in
      let one : get_or (map (key_transition skip) es) i z ≡ key_transition skip (get_or es i e) = get_or-map (key_transition skip) es i e z (omega (arith, before, inside)) in
      let two : get_or (map (key_transition skip) es) j z ≡ key_transition skip (get_or es j e) = get_or-map (key_transition skip) es j e z inside in
      omega (arith, ap (λ (k : KeyTransition). k.letter) one, ap (λ (k : KeyTransition). k.letter) two, up i j e before inside)

  key_by-transitions : (mark : ℕ) (es : List Transition) (a : ℕ) → key_by (key_transitions skip mark es) a ≡ (if goes_on skip mark a then option_map (λ q. q ∷ mark_after skip a ∷ []) (target_by es a) else None)
  key_by-transitions mark [] a = by (goes_on skip mark a)
    where
      by : (b : Bool) → None ≡ (if b then option_map (λ (q : ℕ). q ∷ mark_after skip a ∷ []) None else None)
      by true = refl
      by false = refl
  key_by-transitions mark (e ∷ es) a = by (goes_on skip mark e.letter) refl (e.letter == a) refl (key_by-transitions mark es a)
    where
      to : Option ℕ → Option (List ℕ)
      to o = option_map (λ q. q ∷ mark_after skip a ∷ []) o

      by : (goes : Bool) → goes_on skip mark e.letter ≡ goes → (b : Bool) → (e.letter == a) ≡ b → key_by (key_transitions skip mark es) a ≡ (if goes_on skip mark a then to (target_by es a) else None)
          → key_by (map (key_transition skip) (cond goes (e ∷ filter (λ f. goes_on skip mark f.letter) es) (filter (λ f. goes_on skip mark f.letter) es))) a ≡ (if goes_on skip mark a then to (if b then Some e.target else target_by es a) else None)
      by true goes true same rest =
          let letter : e.letter ≡ a = eqb-true e.letter a same in
          ap (λ b. if b then Some (e.target ∷ mark_after skip e.letter ∷ []) else key_by (key_transitions skip mark es) a) same
          ∙ ap (λ n. Some (e.target ∷ mark_after skip n ∷ [])) letter
          ∙ sym (ap (λ b. if b then to (Some e.target) else None) (ap (goes_on skip mark) (sym letter) ∙ goes))
      by true goes false other rest = ap (λ b. if b then Some (e.target ∷ mark_after skip e.letter ∷ []) else key_by (key_transitions skip mark es) a) other ∙ rest
      by false stops true same rest =
          let none : goes_on skip mark a ≡ false = ap (goes_on skip mark) (sym (eqb-true e.letter a same)) ∙ stops in
          rest ∙ ap (λ b. if b then to (target_by es a) else None) none ∙ sym (ap (λ b. if b then to (Some e.target) else None) none)
      by false stops false other rest = rest

  pub AreKeyTransitions-key : (d : Automaton) (key : List ℕ) → IsTable (letters_of d) d.states
      → AreKeyTransitions (letters_of d) (key_after d skip key) (key_transitions skip (mark_in key) (transitions_of d (state_in key)))
  AreKeyTransitions-key d key table = record {
    in_range = All-map (λ k. k.letter < letters_of d) (key_transition skip) kept (All-filter goes (λ e. e.letter < letters_of d) es (λ k e within. ((row_of d table (state_in key)).in_range k e within).0));
    ascending = transitions-ascending kept (AllPairs-filter deterministic.IsByEarlier goes es (row_of d table (state_in key)).ascending);
    lead = λ a small. key_by-transitions (mark_in key) es a;
  }
    where
      goes : Transition → Bool
      goes e = goes_on skip (mark_in key) e.letter

      es : List Transition
      es = transitions_of d (state_in key)

      kept : List Transition
      kept = filter goes es

  -- a word with which a word may go on after a mark, and then end
  abbrev ends : ℕ → List ℕ → Bool
  ends mark [] = may_end skip mark
  ends mark (a ∷ w) = goes_on skip mark a && ends (mark_after skip a) w

  key_accepts-ends : (d : Automaton) (w : List ℕ) (q mark : ℕ) → key_accepts (key_after d skip) (accepts_key d skip) (q ∷ mark ∷ []) w ≡ (accepts_from d q w && ends mark w)
  key_accepts-ends d [] q mark = refl
  key_accepts-ends d (a ∷ w) q mark = by (goes_on skip mark a) (step_of d q a) (λ p. key_accepts-ends d w p (mark_after skip a))
    where
      by : (goes : Bool) (o : Option ℕ)
          → ((p : ℕ) → key_accepts (key_after d skip) (accepts_key d skip) (p ∷ mark_after skip a ∷ []) w ≡ (accepts_from d p w && ends (mark_after skip a) w))
          → option_map_or (λ next. key_accepts (key_after d skip) (accepts_key d skip) next w) (if goes then option_map (λ p. p ∷ mark_after skip a ∷ []) o else None) false ≡ (option_map_or (λ p. accepts_from d p w) o false && (goes && ends (mark_after skip a) w))
      by true None rest = refl
      by true (Some p) rest = rest p
      by false None rest = refl
      by false (Some p) rest = none (accepts_from d p w)
        where
          none : (b : Bool) → false ≡ (b && false)
          none true = refl
          none false = refl

ends-all : (w : List ℕ) (mark : ℕ) → ends None mark w ≡ true
ends-all [] mark = refl
ends-all (a ∷ w) mark = ends-all w 0

ends-begun : (w : List ℕ) → ends (Some Msd) 1 w ≡ true
ends-begun [] = refl
ends-begun (a ∷ w) = ends-begun w

-- a zero after the word, if there is one
abbrev marked : ℕ → List ℕ
marked zero = []
marked (suc mark) = 0 ∷ []

ends-last : (w : List ℕ) (mark : ℕ) → ends (Some Lsd) mark w ≡ is_plain (reverse w ++ marked mark)
ends-last [] zero = refl
ends-last [] (suc mark) = ne_eqb (suc mark) 0 (λ is. omega (arith, is))
ends-last (a ∷ w) mark = ends-last w (mark_after (Some Lsd) a) ∙ by (reverse w) a ∙ ap is_plain (ap (λ (u : List ℕ). u ++ marked mark) (sym (reverse-cons a w)))
  where
    by : (u : List ℕ) (a : ℕ) → is_plain (u ++ marked (mark_after (Some Lsd) a)) ≡ is_plain ((u ++ a ∷ []) ++ marked mark)
    by [] zero = refl
    by [] (suc a) = ap (λ (b : Bool). is_plain (marked (if b then 1 else 0))) (ne_eqb (suc a) 0 (λ is. omega (arith, is)))
    by (zero ∷ u) a = refl
    by (suc b ∷ u) a = refl

ends-shortest : (skip : Option Direction) (w : List ℕ) → ends skip 0 w ≡ is_shortest skip w
ends-shortest None w = ends-all w 0
ends-shortest (Some Msd) [] = refl
ends-shortest (Some Msd) (zero ∷ w) = refl
ends-shortest (Some Msd) (suc a ∷ w) = ap (λ (b : Bool). not b && ends (Some Msd) 1 w) (ne_eqb (suc a) 0 (λ is. omega (arith, is))) ∙ ends-begun w
ends-shortest (Some Lsd) w = ends-last w 0 ∙ ap is_plain (by (reverse w))
  where
    by : (u : List ℕ) → u ++ [] ≡ u
    by [] = refl
    by (a ∷ u) = ap (λ (v : List ℕ). a ∷ v) (by u)

pub key_accepts-listed : (d : Automaton) (skip : Option Direction) (w : List ℕ) → key_accepts (key_after d skip) (accepts_key d skip) (0 ∷ 0 ∷ []) w ≡ is_listed d skip w
key_accepts-listed d skip w = key_accepts-ends skip d w 0 0 ∙ ap (λ b. accepts_of d w && b) (ends-shortest skip w)

-- words that are no words over the alphabet are in neither language
pub IsListing-over : (d : Automaton) (skip : Option Direction) (e : Automaton) → IsTable (letters_of d) d.states → IsTable (letters_of e) e.states → letters_of e ≡ letters_of d
    → ((w : List ℕ) → IsWord (letters_of d) w → accepts_of e w ≡ is_listed d skip w) → IsListing d skip e
IsListing-over d skip e table listing_table letters same w = same_bool (accepts_of e w) (is_listed d skip w)
    (λ yes. sym (same w (subst (λ n. IsWord n w) letters (accepted_over e w listing_table yes))) ∙ yes)
    (λ yes. same w (accepted_over d w table (and_parts (accepts_of d w) (is_shortest skip w) yes).0) ∙ yes)
