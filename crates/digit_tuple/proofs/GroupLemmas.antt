-- Transitions gathered by their letters.
use Rattle.std.proofs.Common.{◌≡◌, ◌≢◌, ◌==◌, ℕ, suc, ◌+◌, ◌-◌, ◌<◌, ◌≤◌, Bool, true, false, cond, if◌then◌else◌, List, [], ◌∷◌, ◌++◌, map, filter, take, drop, length, get_or, None, Some, ◌⊎◌, inl, inr, refl, sym, ap, ◌∙◌, subst, eq-eqb, append-nil, arith}
use Rattle.std.specs.List.{All, AllPairs, AllWithin, Contains}
use Rattle.std.proofs.Math.Seq.{take-add}
use Rattle.std.proofs.lemmas.Bool.{ne_eqb}
use Rattle.std.proofs.lemmas.Bool.Decides.{eqb_tells}
use Rattle.std.proofs.lemmas.List.{map-append, length-map, length-take-le, length-drop, get_or-take, get_or-drop}
use Rattle.std.proofs.lemmas.List.Elements.{filter-append, All-push, Contains-append_left, Contains-append_right, All-contains}
use Rattle.std.proofs.lemmas.List.{get_or_default}
use Rattle.std.proofs.lemmas.Bool.{cases_lt}
use Rattle.digit_tuple.specs.Automaton.{IsBefore}
use Rattle.digit_tuple.proofs.MemberLemmas.{Contains-head}
use Rattle.std.proofs.lemmas.List.Quantifiers.{all_pairs_push}
use Rattle.digit_tuple.specs.declared.transitions.Transition.{Transition}
use Rattle.digit_tuple.specs.Keys.{KeyTransition, key_by, IsByEarlier}
use Rattle.digit_tuple.specs.Groups.{some_set, targets_by, AreGroups}

-- transitions by one letter, and by others
pub filter_by-all : (es : List Transition) (letter : ℕ) → All (λ e. e.letter ≡ letter) es → filter (λ e. e.letter == letter) es ≡ es
filter_by-all [] letter same = refl
filter_by-all (e ∷ es) letter same =
    ap (λ b. cond b (e ∷ filter (λ f. f.letter == letter) es) (filter (λ f. f.letter == letter) es)) (eq-eqb e.letter letter (same 0 e (omega arith)))
    ∙ ap (λ fs. e ∷ fs) (filter_by-all es letter (λ k d within. same (suc k) d (omega arith)))

pub filter_by-none : (es : List Transition) (letter : ℕ) → All (λ e. e.letter ≢ letter) es → filter (λ e. e.letter == letter) es ≡ []
filter_by-none [] letter other = refl
filter_by-none (e ∷ es) letter other =
    ap (λ b. cond b (e ∷ filter (λ f. f.letter == letter) es) (filter (λ f. f.letter == letter) es)) (ne_eqb e.letter letter (other 0 e (omega arith)))
    ∙ filter_by-none es letter (λ k d within. other (suc k) d (omega arith))

pub targets_by-append : (es fs : List Transition) (letter : ℕ) → targets_by (es ++ fs) letter ≡ targets_by es letter ++ targets_by fs letter
targets_by-append es fs letter = ap (map (λ e. e.target)) (filter-append (λ (e : Transition). e.letter == letter) es fs) ∙ map-append (λ (e : Transition). e.target) (filter (λ e. e.letter == letter) es) (filter (λ e. e.letter == letter) fs)

pub some_set-some : (xs : List ℕ) → 0 < length xs → some_set xs ≡ Some xs
some_set-some [] some = absurd (omega arith)
some_set-some (x ∷ xs) some = refl

-- one more transition
pub key_by-push : (ss : List KeyTransition) (s : KeyTransition) (letter : ℕ) → key_by ss letter ≡ None → key_by (ss ++ s ∷ []) letter ≡ key_by (s ∷ []) letter
key_by-push [] s letter none = refl
key_by-push (t ∷ ss) s letter none = by (t.letter == letter) none (key_by-push ss s letter)
  where
    by : (b : Bool) → (if b then Some t.key else key_by ss letter) ≡ None → (key_by ss letter ≡ None → key_by (ss ++ s ∷ []) letter ≡ key_by (s ∷ []) letter)
        → (if b then Some t.key else key_by (ss ++ s ∷ []) letter) ≡ key_by (s ∷ []) letter
    by true is rest = let both : Some t.key ≡ None = is in cc
    by false is rest = rest is

pub key_by-push_other : (ss : List KeyTransition) (s : KeyTransition) (letter : ℕ) → s.letter ≢ letter → key_by (ss ++ s ∷ []) letter ≡ key_by ss letter
key_by-push_other [] s letter other = ap (λ b. if b then Some s.key else None) (ne_eqb s.letter letter other)
key_by-push_other (t ∷ ss) s letter other = ap (λ o. if t.letter == letter then Some t.key else o) (key_by-push_other ss s letter other)

module _ (before group : List Transition) (done : List KeyTransition) (letter : ℕ) (groups : AreGroups before done) (lower : All (λ e. e.letter < letter) before) (same : All (λ e. e.letter ≡ letter) group) (some : 0 < length group) where
  abbrev next : KeyTransition
  next = record { letter = letter; key = map (λ (e : Transition). e.target) group }

  -- the next group of transitions
  pub AreGroups-more : AreGroups (before ++ group) (done ++ (record { letter = letter; key = map (λ (e : Transition). e.target) group }) ∷ [])
  AreGroups-more = record {
    letters = All-push (λ (s : KeyTransition). (e : Transition) × Contains (before ++ group) e × (e.letter ≡ s.letter)) done next
        (λ k d within. let old = groups.letters k d within in (old.0, Contains-append_left before group old.0 old.1, old.2)) (head group (λ e there. there) same some);
    ascending = all_pairs_push IsByEarlier done next groups.ascending
        (λ k d within. let old = groups.letters k d within in omega (arith, old.2, All-contains (λ (e : Transition). e.letter < letter) before old.0 lower old.1));
    keys = λ a. by a (eqb_tells letter a);
  }
    where
      head : (g : List Transition) → ((e : Transition) → Contains g e → Contains group e) → All (λ e. e.letter ≡ letter) g → 0 < length g → (e : Transition) × Contains (before ++ group) e × (e.letter ≡ letter)
      head [] inside alike more = absurd (omega arith)
      head (e ∷ es) inside alike more = (e, Contains-append_right before group e (inside e (Contains-head e es)), alike 0 e (omega arith))

      by : (a : ℕ) → (((letter == a) ≡ true) × (letter ≡ a)) ⊎ (((letter == a) ≡ false) × (letter ≢ a)) → key_by (done ++ next ∷ []) a ≡ some_set (targets_by (before ++ group) a)
      by a (inl is) =
          let none : targets_by before a ≡ [] = ap (map (λ e. e.target)) (filter_by-none before a (λ k d within e. omega (arith, e, lower k d within, is.1))) in
          let all : targets_by group a ≡ map (λ (e : Transition). e.target) group = ap (map (λ e. e.target)) (filter_by-all group a (λ k d within. same k d within ∙ is.1)) in
          let targets : targets_by (before ++ group) a ≡ map (λ (e : Transition). e.target) group = targets_by-append before group a ∙ ap (λ ts. ts ++ targets_by group a) none ∙ all in
          key_by-push done next a (groups.keys a ∙ ap some_set none) ∙ ap (λ b. if b then Some next.key else None) is.0
          ∙ sym (ap some_set targets ∙ some_set-some (map (λ (e : Transition). e.target) group) (omega (arith, length-map group (λ (e : Transition). e.target), some)))
      by a (inr other) =
          let none : targets_by group a ≡ [] = ap (map (λ e. e.target)) (filter_by-none group a (λ k d within e. other.1 (sym (same k d within) ∙ e))) in
          let targets : targets_by (before ++ group) a ≡ targets_by before a = targets_by-append before group a ∙ ap (λ ts. targets_by before a ++ ts) none ∙ append-nil (targets_by before a) in
          key_by-push_other done next a other.1 ∙ groups.keys a ∙ sym (ap some_set targets)

-- the letters at the places before one are below those from it on
abbrev pub IsParted : List Transition → ℕ → Type 0
IsParted transitions place = (i j : ℕ) (d : Transition) → i < place → place ≤ j → j < length transitions → (get_or transitions i d).letter < (get_or transitions j d).letter

module _ (transitions : List Transition) (place end letter : ℕ) (z : Transition) (more : place < end) (within : end ≤ length transitions) (parted : IsParted transitions place)
    (at : (get_or transitions place z).letter ≡ letter) (alike : AllWithin (λ e. e.letter ≡ letter) transitions (place + 1) end) where
  at_place : (d : Transition) → (get_or transitions place d).letter ≡ letter
  at_place d = ap (λ (e : Transition). e.letter) (get_or_default transitions place d z (omega arith)) ∙ at

  in_group : (k : ℕ) (d : Transition) → place ≤ k → k < end → (get_or transitions k d).letter ≡ letter
  in_group k d low high = by (cases_lt place k)
    where
      by : (place < k) ⊎ (k ≤ place) → (get_or transitions k d).letter ≡ letter
      by (inl less) = alike k d (omega arith) high
      by (inr same) = let is : place ≡ k = omega arith in subst (λ n. (get_or transitions n d).letter ≡ letter) is (at_place d)

  -- one more group
  pub AreGroups-next : (done : List KeyTransition) → AreGroups (take place transitions) done → AreGroups (take end transitions) (done ++ (record { letter = letter; key = map (λ (e : Transition). e.target) (take (end - place) (drop place transitions)) }) ∷ [])
  AreGroups-next done groups = subst (λ es. AreGroups es (done ++ (record { letter = letter; key = map (λ (e : Transition). e.target) (take (end - place) (drop place transitions)) }) ∷ [])) (sym joined)
      (AreGroups-more (take place transitions) (take (end - place) (drop place transitions)) done letter groups lower same (omega (arith, size)))
    where
      whole : place + (end - place) ≡ end
      whole = omega arith

      joined : take end transitions ≡ take place transitions ++ take (end - place) (drop place transitions)
      joined = ap (λ n. take n transitions) (sym whole) ∙ take-add place (end - place) transitions

      size : length (take (end - place) (drop place transitions)) ≡ end - place
      size = length-take-le (end - place) (drop place transitions) (omega (arith, length-drop place transitions))

      lower : All (λ e. e.letter < letter) (take place transitions)
      lower k d inside =
          let count = length-take-le place transitions (omega arith) in
          let less = parted k place d (omega arith) (omega arith) (omega arith) in
          omega (arith, less, at_place d, ap (λ (e : Transition). e.letter) (get_or-take place transitions k d (omega arith)))

      same : All (λ e. e.letter ≡ letter) (take (end - place) (drop place transitions))
      same k d inside = ap (λ (e : Transition). e.letter) (get_or-take (end - place) (drop place transitions) k d (omega (arith, size)) ∙ get_or-drop place transitions k d) ∙ in_group (place + k) d (omega arith) (omega (arith, size))

  -- where the group ends
  pub IsParted-next : AllPairs IsBefore transitions → ((d : Transition) → end < length transitions → (get_or transitions end d).letter ≢ letter) → IsParted transitions end
  IsParted-next ascending other i j d before from inside = by (cases_lt i place)
    where
      no_less : (e f : Transition) → IsBefore e f → e.letter ≤ f.letter
      no_less e f (inl less) = omega arith
      no_less e f (inr same) = omega (arith, same.0)

      later : letter < (get_or transitions j d).letter
      later = at_end (cases_lt end j)
        where
          next : letter < (get_or transitions end d).letter
          next =
              let order = no_less (get_or transitions place d) (get_or transitions end d) (ascending place end d more (omega arith)) in
              let differs = other d (omega arith) in
              omega (arith, order, at_place d, differs)

          at_end : (end < j) ⊎ (j ≤ end) → letter < (get_or transitions j d).letter
          at_end (inl less) = omega (arith, next, no_less (get_or transitions end d) (get_or transitions j d) (ascending end j d less inside))
          at_end (inr same) = let is : end ≡ j = omega arith in subst (λ n. letter < (get_or transitions n d).letter) is next

      by : (i < place) ⊎ (place ≤ i) → (get_or transitions i d).letter < (get_or transitions j d).letter
      by (inl less) = parted i j d less (omega arith) inside
      by (inr here) = omega (arith, in_group i d here before, later)
