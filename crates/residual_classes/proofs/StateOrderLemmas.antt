-- States that are moved to the end of a span.
use Rattle.std.proofs.Common.{◌≡◌, ℕ, ◌+◌, ◌<◌, ◌≤◌, List, [], ◌∷◌, ◌++◌, take, length, get_or, ◌⊎◌, inl, inr, refl, sym, ap, ◌∙◌, subst, arith}
use Rattle.std.specs.List.{Contains, swap}
use Rattle.std.proofs.lemmas.Bool.{cases_eq}
use Rattle.std.proofs.lemmas.List.{take_more}
use Rattle.std.proofs.lemmas.List.Edits.{Swapped, swapped_from_swap, length-swap}
use Rattle.std.proofs.lemmas.List.Elements.{Contains-push, Contains-push_cases, Contains-append_left}
use Rattle.digit_tuple.proofs.MemberLemmas.{Contains-none}
use Rattle.residual_classes.specs.StateOrder.{AreAtEnd, AreInverse}

-- none of the set has been moved
pub AreAtEnd-none : (states : List ℕ) (start end : ℕ) → start ≤ end → AreAtEnd states states [] start end end
AreAtEnd-none states start end ordered = record {
  width = refl;
  after_start = ordered;
  before_end = omega arith;
  elsewhere = λ place off. refl;
  inside = λ place from to. (place, from, to, refl);
  moved = λ place from to. absurd (omega arith);
  left = λ place from to there. Contains-none (get_or states place 0) there;
}

-- one more of the set is looked at
module _ (old states places set : List ℕ) (i start middle end : ℕ) (within : i < length set) (order : AreInverse states places) (fits : end ≤ length states)
    (moved : AreAtEnd old states (take i set) start middle end) (inside : get_or set i 0 < length states) where
  -- the state
  abbrev x : ℕ
  x = get_or set i 0

  prefix : take (i + 1) set ≡ take i set ++ x ∷ []
  prefix = take_more set i 0 within

  kept : (q : ℕ) → Contains (take i set) q → Contains (take (i + 1) set) q
  kept q there = subst (λ (xs : List ℕ). Contains xs q) (sym prefix) (Contains-append_left (take i set) (x ∷ []) q there)

  cases : (q : ℕ) → Contains (take (i + 1) set) q → Contains (take i set) q ⊎ (x ≡ q)
  cases q there = Contains-push_cases (take i set) x q (subst (λ (xs : List ℕ). Contains xs q) prefix there)

  -- a state is at one place alone
  at : (place : ℕ) → place < length states → x ≡ get_or states place 0 → get_or places x 0 ≡ place
  at place small is = ap (λ q. get_or places q 0) is ∙ order.placed place small

  -- it is elsewhere, or has been moved
  pub AreAtEnd-stay : (get_or places x 0 < start) ⊎ (middle ≤ get_or places x 0) → AreAtEnd old states (take (i + 1) set) start middle end
  AreAtEnd-stay off = record {
    width = moved.width;
    after_start = moved.after_start;
    before_end = moved.before_end;
    elsewhere = moved.elsewhere;
    inside = moved.inside;
    moved = λ place from to. kept (get_or states place 0) (moved.moved place from to);
    left = λ place from to there. left place from to (cases (get_or states place 0) there) off;
  }
    where
      left : (place : ℕ) → start ≤ place → place < middle → Contains (take i set) (get_or states place 0) ⊎ (x ≡ get_or states place 0) → (get_or places x 0 < start) ⊎ (middle ≤ get_or places x 0) → ⊥
      left place from to (inl before) off = moved.left place from to before
      left place from to (inr is) (inl less) = omega (arith, at place (omega (arith, moved.before_end)) is)
      left place from to (inr is) (inr more) = omega (arith, at place (omega (arith, moved.before_end)) is)

  -- it is moved
  module _ (new : List ℕ) (last : ℕ) (next : last + 1 ≡ middle) (from : start ≤ get_or places x 0) (to : get_or places x 0 < middle) (swapped : new ≡ swap states (get_or places x 0) last) where
    -- where it was
    abbrev p : ℕ
    p = get_or places x 0

    was_there : get_or states p 0 ≡ x
    was_there = order.state_back x inside

    changed : Swapped (λ k. get_or states k 0) (λ k. get_or new k 0) p last
    changed = swapped_from_swap states new p last 0 (omega (arith, moved.before_end)) (omega (arith, moved.before_end)) swapped

    pub AreAtEnd-move : AreAtEnd old new (take (i + 1) set) start last end
    AreAtEnd-move = record {
      width = ap length swapped ∙ length-swap states p last ∙ moved.width;
      after_start = omega arith;
      before_end = omega (arith, moved.before_end);
      elsewhere = λ place off. elsewhere place off;
      inside = λ place low high. from_inside place low high (cases_eq place p) (cases_eq place last);
      moved = λ place low high. at_end place low high (cases_eq place last);
      left = λ place low high there. before place low high (cases_eq place p) (cases (get_or new place 0) there);
    }
      where
        elsewhere : (place : ℕ) → (place < start) ⊎ (end ≤ place) → get_or new place 0 ≡ get_or old place 0
        elsewhere place (inl less) = changed.2 place (λ is. omega (arith, is)) (λ is. omega (arith, is)) ∙ moved.elsewhere place (inl less)
        elsewhere place (inr more) = changed.2 place (λ is. omega (arith, is, moved.before_end)) (λ is. omega (arith, is, moved.before_end)) ∙ moved.elsewhere place (inr more)

        of : (place was : ℕ) → start ≤ was → was < end → get_or new place 0 ≡ get_or states was 0 → (other : ℕ) × (start ≤ other) × (other < end) × (get_or new place 0 ≡ get_or old other 0)
        of place was low high is = let found = moved.inside was low high in (found.0, found.1, found.2, is ∙ found.3)

        from_inside : (place : ℕ) → start ≤ place → place < end → (place ≡ p) ⊎ (place ≡ p → ⊥) → (place ≡ last) ⊎ (place ≡ last → ⊥) → (other : ℕ) × (start ≤ other) × (other < end) × (get_or new place 0 ≡ get_or old other 0)
        from_inside place low high (inl is) at_last = of place last (omega arith) (omega (arith, moved.before_end)) (ap (λ k. get_or new k 0) is ∙ changed.0)
        from_inside place low high (inr other) (inl is) = of place p from (omega (arith, moved.before_end)) (ap (λ k. get_or new k 0) is ∙ changed.1)
        from_inside place low high (inr other) (inr neither) = of place place low high (changed.2 place other neither)

        at_end : (place : ℕ) → last ≤ place → place < end → (place ≡ last) ⊎ (place ≡ last → ⊥) → Contains (take (i + 1) set) (get_or new place 0)
        at_end place low high (inl is) =
            subst (Contains (take (i + 1) set)) (sym (ap (λ k. get_or new k 0) is ∙ changed.1 ∙ was_there)) (subst (λ (xs : List ℕ). Contains xs x) (sym prefix) (Contains-push (take i set) x))
        at_end place low high (inr other) =
            subst (Contains (take (i + 1) set)) (sym (changed.2 place (λ is. omega (arith, is)) other)) (kept (get_or states place 0) (moved.moved place (omega (arith, other)) high))

        before : (place : ℕ) → start ≤ place → place < last → (place ≡ p) ⊎ (place ≡ p → ⊥) → Contains (take i set) (get_or new place 0) ⊎ (x ≡ get_or new place 0) → ⊥
        before place low high (inl is) (inl there) =
            moved.left last (omega arith) (omega arith) (subst (Contains (take i set)) (ap (λ k. get_or new k 0) is ∙ changed.0) there)
        before place low high (inl is) (inr same) =
            omega (arith, is, at last (omega (arith, moved.before_end)) (same ∙ ap (λ k. get_or new k 0) is ∙ changed.0))
        before place low high (inr other) (inl there) =
            moved.left place low (omega arith) (subst (Contains (take i set)) (changed.2 place other (λ is. omega (arith, is))) there)
        before place low high (inr other) (inr same) =
            other (sym (at place (omega (arith, moved.before_end)) (same ∙ changed.2 place other (λ is. omega (arith, is)))))
