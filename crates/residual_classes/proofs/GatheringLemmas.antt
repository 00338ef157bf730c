-- Transitions gathered by letter.
use Rattle.std.proofs.Common.{◌≡◌, ◌==◌, ℕ, suc, ◌<◌, Bool, true, false, List, [], ◌∷◌, filter, length, get_or, Some, ◌↔◌, if◌then◌else◌, refl, sym, ap, ◌∙◌, subst, eq-eqb, arith}
use Rattle.std.specs.List.{All, Contains}
use Rattle.std.proofs.lemmas.Bool.{eqb-true}
use Rattle.std.proofs.lemmas.Option.{none-some}
use Rattle.digit_tuple.specs.declared.transitions.Transition.{Transition}
use Rattle.digit_tuple.specs.Keys.{KeyTransition, transition_at, key_by}
use Rattle.digit_tuple.proofs.FrontierLemmas.{key_by-at}
use Rattle.digit_tuple.specs.Reversed.{transition_to}
use Rattle.digit_tuple.specs.Groups.{some_set, targets_by, AreGroups}
use Rattle.digit_tuple.proofs.MemberLemmas.{Contains-filter, Contains-from_filter, Contains-map, Contains-from_map, Contains-none}
use Rattle.residual_classes.specs.Gathering.{HaveLetters, IsGathered}

pub transition_to-is : (e : Transition) (letter target : ℕ) → e.letter ≡ letter → e.target ≡ target → e ≡ transition_to letter target
transition_to-is e letter target one two = ap (λ (x : ℕ). transition_to x e.target) one ∙ ap (λ (x : ℕ). transition_to letter x) two

-- the targets of the transitions by a letter
pub Contains-targets_by : (es : List Transition) (letter q : ℕ) → Contains es (transition_to letter q) → Contains (targets_by es letter) q
Contains-targets_by es letter q there =
    Contains-map (λ (e : Transition). e.target) (filter (λ e. e.letter == letter) es) (transition_to letter q) (Contains-filter (λ (e : Transition). e.letter == letter) es (transition_to letter q) there (eq-eqb letter letter refl))

pub Contains-from_targets_by : (es : List Transition) (letter q : ℕ) → Contains (targets_by es letter) q → Contains es (transition_to letter q)
Contains-from_targets_by es letter q there =
    let found = Contains-from_map (λ (e : Transition). e.target) (filter (λ e. e.letter == letter) es) q there in
    let passes = Contains-from_filter (λ (e : Transition). e.letter == letter) es found.0 found.1 in
    subst (Contains es) (transition_to-is found.0 letter q (eqb-true found.0.letter letter passes.1) found.2) passes.0

some_set-is : (xs ys : List ℕ) → Some xs ≡ some_set ys → xs ≡ ys
some_set-is xs [] same = absurd (cc)
some_set-is xs (y ∷ ys) same = cc

-- the first group by a letter
key_by-place : (groups : List KeyTransition) (letter : ℕ) (key : List ℕ) → key_by groups letter ≡ Some key → (place : ℕ) × (place < length groups) × ((transition_at groups place).letter ≡ letter)
key_by-place [] letter key leads = absurd (none-some key leads)
key_by-place (g ∷ groups) letter key leads = by (g.letter == letter) refl leads (key_by-place groups letter key)
  where
    by : (b : Bool) → (g.letter == letter) ≡ b → (if b then Some g.key else key_by groups letter) ≡ Some key
        → (key_by groups letter ≡ Some key → (place : ℕ) × (place < length groups) × ((transition_at groups place).letter ≡ letter)) → (place : ℕ) × (place < length (g ∷ groups)) × ((transition_at (g ∷ groups) place).letter ≡ letter)
    by true is first rest = (0, omega arith, eqb-true g.letter letter is)
    by false is first rest = let found = rest first in (suc found.0, omega (arith, found.1), found.2)

some_set-some : (xs : List ℕ) (x : ℕ) → Contains xs x → some_set xs ≡ Some xs
some_set-some [] x there = absurd (Contains-none x there)
some_set-some (y ∷ ys) x there = refl

module _ (transitions sorted : List Transition) (same : (e : Transition) → Contains sorted e ↔ Contains transitions e) where
  IsGathered-group : (g : KeyTransition) → (e : Transition) × Contains sorted e × (e.letter ≡ g.letter) → Some g.key ≡ some_set (targets_by sorted g.letter) → IsGathered transitions g.letter g.key
  IsGathered-group g from leads = record {
    transition = (from.0.target, (same (transition_to g.letter from.0.target)).0 (subst (Contains sorted) (transition_to-is from.0 g.letter from.0.target from.2 refl) from.1));
    targets = λ q. (
      (λ there. (same (transition_to g.letter q)).0 (Contains-from_targets_by sorted g.letter q (subst (λ xs. Contains xs q) is there))),
      (λ there. subst (λ xs. Contains xs q) (sym is) (Contains-targets_by sorted g.letter q ((same (transition_to g.letter q)).1 there))),
    );
  }
    where
      is : g.key ≡ targets_by sorted g.letter
      is = some_set-is g.key (targets_by sorted g.letter) leads

  -- the groups of the transitions in order
  pub IsGathered-groups : (groups : List KeyTransition) → AreGroups sorted groups → All (λ g. IsGathered transitions g.letter g.key) groups
  IsGathered-groups groups are k z within =
      IsGathered-group (get_or groups k z) (are.letters k z within) (sym (key_by-at groups are.ascending k z within) ∙ are.keys (get_or groups k z).letter)

  -- there is a group for each letter of a transition
  pub HaveLetters-groups : (groups : List KeyTransition) → AreGroups sorted groups → HaveLetters groups transitions
  HaveLetters-groups groups are letter q there =
      key_by-place groups letter (targets_by sorted letter) (are.keys letter ∙ some_set-some (targets_by sorted letter) q (Contains-targets_by sorted letter q ((same (transition_to letter q)).1 there)))
