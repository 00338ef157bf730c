-- What projections of listed variables mean.
use Rattle.std.proofs.Common.{◌≡◌, ◌↔◌, ℕ, suc, ◌<◌, Bool, true, false, if◌then◌else◌, List, [], ◌∷◌, refl, sym, subst, inl, inr, arith}
use Rattle.formula_parse.specs.Tokens.{Name}
use Rattle.formula_parse.specs.Trees.{Names, no_names, names}
use Rattle.formula_truth.specs.Assignments.{Assignment, with_value}
use Rattle.formula_truth.specs.Truth.{Meanings, ForSome, ForEvery, ForInfinitely}
use Rattle.term_plans.specs.Tracks.{own, fresh, Numbers, with_number, of_variables, has_track, without}
use Rattle.term_plans.specs.Plans.{Plan, compared, added, number, called, lettered, renamed, constant, joined, paired, complement, projected, tracks, Made}
use Rattle.formula_plan.specs.FormulaPlans.{kept, projected_all, for_every, above_bound, for_infinitely, for_infinitely_many}
use Rattle.term_plans.specs.Means.{Means, IsDecided, AreDecided}
use Rattle.term_plans.proofs.TrackLemmas.{with_number_here}
use Rattle.term_plans.proofs.AgreementLemmas.{unused}

-- the plan means what is said of the variables, or what is denied of them
abbrev pub Says : Meanings → Plan → (Assignment → Type 0) → Type 0
Says m p P = (a : Numbers) → Means m p a ↔ P (of_variables a)

abbrev pub Denies : Meanings → Plan → (Assignment → Type 0) → Type 0
Denies m p P = (a : Numbers) → (¬ Means m p a) ↔ P (of_variables a)

-- for some number, and for every number, of one variable
abbrev one_some : Name → (Assignment → Type 0) → Assignment → Type 0
one_some n P b = (k : ℕ) × P (with_value n k b)

abbrev one_every : Name → (Assignment → Type 0) → Assignment → Type 0
one_every n P b = (k : ℕ) → P (with_value n k b)

some_once : (m : Meanings) (p : Plan) (n : Name) (P : Assignment → Type 0) → Says m p P → Says m (projected (own n) p) (one_some n P)
some_once m p n P says a = (λ h. (h.0, (says (with_number (own n) h.0 a)).0 h.1), λ h. (h.0, (says (with_number (own n) h.0 a)).1 h.1))

some_unused : (m : Meanings) (p : Plan) (n : Name) (P : Assignment → Type 0) → has_track (tracks p) (own n) ≡ false → Says m p P → Says m p (one_some n P)
some_unused m p n P none says a = (
  λ h. (0, (says (with_number (own n) 0 a)).0 ((unused p m (own n) 0 a none).0 h)),
  λ h. (unused p m (own n) h.0 a none).1 ((says (with_number (own n) h.0 a)).1 h.1),
)

some_step : (ns : Names) (n : Name) (m : Meanings) (p : Plan) (P : Assignment → Type 0) → Says m p P → (b : Bool) → has_track (tracks p) (own n) ≡ b
    → (Says m (projected (own n) p) (one_some n P) → Says m (projected_all (kept ns (without (own n) (tracks p))) (projected (own n) p)) (ForSome ns (one_some n P)))
    → (Says m p (one_some n P) → Says m (projected_all (kept ns (tracks p)) p) (ForSome ns (one_some n P)))
    → Says m (projected_all (if b then n ∷ kept ns (without (own n) (tracks p)) else kept ns (tracks p)) p) (ForSome ns (one_some n P))
some_step ns n m p P says true there first second = first (some_once m p n P says)
some_step ns n m p P says false none first second = second (some_unused m p n P none says)

pub some_says : (ns : Names) (m : Meanings) (p : Plan) (P : Assignment → Type 0) → Says m p P → Says m (projected_all (kept ns (tracks p)) p) (ForSome ns P)
some_says no_names m p P says = says
some_says (names ns n) m p P says =
    some_step ns n m p P says (has_track (tracks p) (own n)) refl (some_says ns m (projected (own n) p) (one_some n P)) (some_says ns m p (one_some n P))

denied_once : (m : Meanings) (p : Plan) (n : Name) (P : Assignment → Type 0) → Denies m p P → Denies m (projected (own n) p) (one_every n P)
denied_once m p n P denies a = (
  λ denied k. (denies (with_number (own n) k a)).0 (λ h. denied (k, h)),
  λ all h. (denies (with_number (own n) h.0 a)).1 (all h.0) h.1,
)

denied_unused : (m : Meanings) (p : Plan) (n : Name) (P : Assignment → Type 0) → has_track (tracks p) (own n) ≡ false → Denies m p P → Denies m p (one_every n P)
denied_unused m p n P none denies a = (
  λ denied k. (denies (with_number (own n) k a)).0 (λ h. denied ((unused p m (own n) k a none).1 h)),
  λ all h. (denies (with_number (own n) 0 a)).1 (all 0) ((unused p m (own n) 0 a none).0 h),
)

denied_step : (ns : Names) (n : Name) (m : Meanings) (p : Plan) (P : Assignment → Type 0) → Denies m p P → (b : Bool) → has_track (tracks p) (own n) ≡ b
    → (Denies m (projected (own n) p) (one_every n P) → Denies m (projected_all (kept ns (without (own n) (tracks p))) (projected (own n) p)) (ForEvery ns (one_every n P)))
    → (Denies m p (one_every n P) → Denies m (projected_all (kept ns (tracks p)) p) (ForEvery ns (one_every n P)))
    → Denies m (projected_all (if b then n ∷ kept ns (without (own n) (tracks p)) else kept ns (tracks p)) p) (ForEvery ns (one_every n P))
denied_step ns n m p P denies true there first second = first (denied_once m p n P denies)
denied_step ns n m p P denies false none first second = second (denied_unused m p n P none denies)

-- where the projections of a plan do not hold, what it denies is true of all numbers
every_denied : (ns : Names) (m : Meanings) (p : Plan) (P : Assignment → Type 0) → Denies m p P → Denies m (projected_all (kept ns (tracks p)) p) (ForEvery ns P)
every_denied no_names m p P denies = denies
every_denied (names ns n) m p P denies =
    denied_step ns n m p P denies (has_track (tracks p) (own n)) refl (every_denied ns m (projected (own n) p) (one_every n P)) (every_denied ns m p (one_every n P))

every_unused : (m : Meanings) (p : Plan) (n : Name) (P : Assignment → Type 0) → has_track (tracks p) (own n) ≡ false → Says m p P → Says m p (one_every n P)
every_unused m p n P none says a = (
  λ h k. (says (with_number (own n) k a)).0 ((unused p m (own n) k a none).0 h),
  λ h. (unused p m (own n) 0 a none).1 ((says (with_number (own n) 0 a)).1 (h 0)),
)

none_step : (ns : Names) (n : Name) (m : Meanings) (p : Plan) (P : Assignment → Type 0) → Says m p P → (b : Bool) → has_track (tracks p) (own n) ≡ b
    → (if b then n ∷ kept ns (without (own n) (tracks p)) else kept ns (tracks p)) ≡ []
    → (kept ns (tracks p) ≡ [] → Says m p (one_every n P) → Says m p (ForEvery ns (one_every n P)))
    → Says m p (ForEvery ns (one_every n P))
none_step ns n m p P says true there none rest = absurd (filled none)
  where
    IsFilled : List Name → Type 0
    IsFilled [] = ⊥
    IsFilled (x ∷ xs) = Unit {0}

    filled : n ∷ kept ns (without (own n) (tracks p)) ≡ [] → ⊥
    filled same = subst IsFilled same tt
none_step ns n m p P says false apart none rest = rest none (every_unused m p n P apart says)

-- where no listed variable is a track, the plan says the same of all numbers
every_none : (ns : Names) (m : Meanings) (p : Plan) (P : Assignment → Type 0) → kept ns (tracks p) ≡ [] → Says m p P → Says m p (ForEvery ns P)
every_none no_names m p P none says = says
every_none (names ns n) m p P none says = none_step ns n m p P says (has_track (tracks p) (own n)) refl none (every_none ns m p (one_every n P))

-- what is decided of a plan is decided of all that it is made of
itself : (m : Meanings) (p : Plan) → AreDecided m p → IsDecided m p
itself m (compared y r s t) decided = decided
itself m (added y s t u) decided = decided
itself m (number y t) decided = decided
itself m (called n ts) decided = decided
itself m (lettered n ts r l) decided = decided
itself m (renamed s t p) decided = decided.0
itself m (constant y c t) decided = decided
itself m (joined j p q) decided = decided.0
itself m (paired n ts r w us) decided = decided
itself m (complement p) decided = decided.0
itself m (projected t p) decided = decided.0

pub inner : (ks : List Name) (m : Meanings) (p : Plan) → AreDecided m (projected_all ks p) → AreDecided m p
inner [] m p decided = decided
inner (k ∷ ks) m p decided = (inner ks m (projected (own k) p) decided).1

stable : (m : Meanings) (p : Plan) → IsDecided m p → (a : Numbers) → ¬ (¬ Means m p a) → Means m p a
stable m p decided a denied = elim (decided a) [ inl h ↦ h | inr h ↦ absurd (denied h) ]

every_by : (ns : Names) (m : Meanings) (made : Made) (P : Assignment → Type 0) (ks : List Name) → kept ns (tracks made.last) ≡ ks
    → AreDecided m (for_every ks made).last → (AreDecided m made.last → Says m made.last P) → Says m (for_every ks made).last (ForEvery ns P)
every_by ns m made P [] none decided says = every_none ns m made.last P none (says decided)
every_by ns m made P (k ∷ ks) kept_are decided says =
    subst (λ l. Denies m (projected_all l (complement made.last)) (ForEvery ns P)) kept_are (every_denied ns m (complement made.last) P denied)
  where
    parts : AreDecided m made.last
    parts = (inner (k ∷ ks) m (complement made.last) decided.1).1

    denied : Denies m (complement made.last) P
    denied a = (λ denied. (says parts a).0 (stable m made.last (itself m made.last parts) a denied), λ h denied. denied ((says parts a).1 h))

pub every_says : (ns : Names) (m : Meanings) (made : Made) (P : Assignment → Type 0) → AreDecided m (for_every (kept ns (tracks made.last)) made).last
    → (AreDecided m made.last → Says m made.last P) → Says m (for_every (kept ns (tracks made.last)) made).last (ForEvery ns P)
every_says ns m made P decided says = every_by ns m made P (kept ns (tracks made.last)) refl decided says

-- for infinitely many numbers of one variable
abbrev one_infinitely : Name → (Assignment → Type 0) → Assignment → Type 0
one_infinitely n P b = (x : ℕ) → (k : ℕ) × (x < k) × P (with_value n k b)

-- some number above a bound
above_says : (m : Meanings) (s n : Name) (made : Made) (P : Assignment → Type 0) → Says m made.last P → (x : ℕ) (a : Numbers)
    → Means m (above_bound s n made).last (with_number (fresh made.next) x a) ↔ ((k : ℕ) × (x < k) × P (with_value n k (of_variables a)))
above_says m s n made P says x a = (
  λ h. (
    h.0,
    subst (λ (l : ℕ). x < l) (with_number_here (own n) h.0 b) (subst (λ (l : ℕ). l < with_number (own n) h.0 b (own n)) (with_number_here (fresh made.next) x a) h.1.1),
    (says (with_number (own n) h.0 b)).0 h.1.0,
  ),
  λ h. (
    h.0,
    (
      (says (with_number (own n) h.0 b)).1 h.2,
      subst (λ (l : ℕ). l < with_number (own n) h.0 b (own n)) (sym (with_number_here (fresh made.next) x a)) (subst (λ (l : ℕ). x < l) (sym (with_number_here (own n) h.0 b)) h.1),
    ),
  ),
)
  where
    b : Numbers
    b = with_number (fresh made.next) x a

infinitely_once : (m : Meanings) (s n : Name) (made : Made) (P : Assignment → Type 0) → Says m made.last P → IsDecided m (above_bound s n made).last → Says m (for_infinitely s n made).last (one_infinitely n P)
infinitely_once m s n made P says decided a = (
  λ h x. (above_says m s n made P says x a).0 (stable m (above_bound s n made).last decided (with_number (fresh made.next) x a) (λ denied. h (x, denied))),
  λ h found. found.1 ((above_says m s n made P says found.0 a).1 (h found.0)),
)

infinitely_unused : (m : Meanings) (p : Plan) (n : Name) (P : Assignment → Type 0) → has_track (tracks p) (own n) ≡ false → Says m p P → Says m p (one_infinitely n P)
infinitely_unused m p n P none says a = (
  λ h x. (suc x, omega arith, (says (with_number (own n) (suc x) a)).0 ((unused p m (own n) (suc x) a none).0 h)),
  λ h. let found = h 0 in (unused p m (own n) found.0 a none).1 ((says (with_number (own n) found.0 a)).1 found.2),
)

infinitely_step : (m : Meanings) (s n : Name) (made : Made) (P : Assignment → Type 0) → (AreDecided m made.last → Says m made.last P) → (b : Bool) → has_track (tracks made.last) (own n) ≡ b
    → AreDecided m (if b then for_infinitely s n made else made).last → Says m (if b then for_infinitely s n made else made).last (one_infinitely n P)
infinitely_step m s n made P says true there decided = infinitely_once m s n made P (says decided.1.1.1.1.1) (itself m (above_bound s n made).last decided.1.1.1)
infinitely_step m s n made P says false none decided = infinitely_unused m made.last n P none (says decided)

pub infinitely_says : (ns : Names) (on : Name → Name) (m : Meanings) (made : Made) (P : Assignment → Type 0) → AreDecided m (for_infinitely_many on ns made).last
    → (AreDecided m made.last → Says m made.last P) → Says m (for_infinitely_many on ns made).last (ForInfinitely ns P)
infinitely_says no_names on m made P decided says = says decided
infinitely_says (names ns n) on m made P decided says =
    infinitely_says ns on m (if has_track (tracks made.last) (own n) then for_infinitely (on n) n made else made) (one_infinitely n P) decided
    (infinitely_step m (on n) n made P says (has_track (tracks made.last) (own n)) refl)
