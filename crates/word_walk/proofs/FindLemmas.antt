-- The first transition that passes a test, of transitions sorted by letter.
use Rattle.std.proofs.Common.{◌≡◌, suc, ◌<◌, Bool, true, false, cond, List, [], ◌∷◌, None, Some, ◌⊎◌, inl, inr, refl, sym, ap, ◌∙◌, subst, arith}
use Rattle.std.specs.List.{AllPairs, Contains, find}
use Rattle.std.proofs.lemmas.Bool.{false≢true}
use Rattle.digit_tuple.specs.declared.transitions.Transition.{Transition}
use Rattle.digit_tuple.specs.Deterministic.{IsByEarlier}
use Rattle.digit_tuple.proofs.MemberLemmas.{Contains-head, Contains-tail, Contains-cases, Contains-none}

-- it is one of them, and those that pass and are not it come later
pub record IsFound (p : Transition → Bool) (es : List Transition) (e : Transition) : Type 0 where
  pub there : Contains es e
  pub passes : p e ≡ true
  pub first : (f : Transition) → Contains es f → p f ≡ true → (e.letter < f.letter) ⊎ (e ≡ f)

module _ (p : Transition → Bool) where
  pub find_first : (es : List Transition) (e : Transition) → AllPairs IsByEarlier es → find p es ≡ Some e → IsFound p es e
  find_first [] e up found = let no : None ≡ Some e = found in absurd (cc)
  find_first (x ∷ es) e up found = by (p x) refl found (find_first es e (λ i j z before within. up (suc i) (suc j) z (omega arith) (omega arith)))
    where
      by : (b : Bool) → p x ≡ b → cond b (Some x) (find p es) ≡ Some e → (find p es ≡ Some e → IsFound p es e) → IsFound p (x ∷ es) e
      by true is here rest = record {
        there = subst (Contains (x ∷ es)) same (Contains-head x es);
        passes = ap p (sym same) ∙ is;
        first = λ f there passes. at f (Contains-cases x es f there);
      }
        where
          same : x ≡ e
          same = let both : Some x ≡ Some e = here in cc

          at : (f : Transition) → (x ≡ f) ⊎ Contains es f → (e.letter < f.letter) ⊎ (e ≡ f)
          at f (inl is_it) = inr (sym same ∙ is_it)
          at f (inr later) = inl (omega (arith, up 0 (suc later.0) f (omega arith) (omega (arith, later.1)), ap (λ (t : Transition). t.letter) later.2, ap (λ (t : Transition). t.letter) same))
      by false is later rest =
          let found_later = rest later in record {
            there = Contains-tail x es e found_later.there;
            passes = found_later.passes;
            first = λ f there passes. at f passes found_later (Contains-cases x es f there);
          }
        where
          at : (f : Transition) → p f ≡ true → IsFound p es e → (x ≡ f) ⊎ Contains es f → (e.letter < f.letter) ⊎ (e ≡ f)
          at f passes found_later (inl is_it) = absurd (false≢true (sym is ∙ ap p is_it ∙ passes))
          at f passes found_later (inr inside) = found_later.first f inside passes

  pub find_none : (es : List Transition) → find p es ≡ None → (e : Transition) → Contains es e → p e ≡ false
  find_none [] none e there = absurd (Contains-none e there)
  find_none (x ∷ es) none e there = by (p x) refl none (find_none es) (Contains-cases x es e there)
    where
      by : (b : Bool) → p x ≡ b → cond b (Some x) (find p es) ≡ None → (find p es ≡ None → (f : Transition) → Contains es f → p f ≡ false) → (x ≡ e) ⊎ Contains es e → p e ≡ false
      by true is here rest at = let no : Some x ≡ None = here in absurd (cc)
      by false is later rest (inl same) = ap p (sym same) ∙ is
      by false is later rest (inr inside) = rest later e inside
