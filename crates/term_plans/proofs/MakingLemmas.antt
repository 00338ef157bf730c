-- Plans at places of a list, and lists with one plan more.
use Rattle.std.proofs.Common.{◌≡◌, ℕ, ◌+◌, ◌<◌, ◌≤◌, List, [], ◌∷◌, ◌++◌, length, get_or, refl, sym, ◌∙◌, ap, subst, arith, length-append, below_more}
use Rattle.std.proofs.lemmas.List.{get_or_append_left}
use Rattle.std.proofs.Math.Seq.{get_or-append_seam}
use Rattle.std.proofs.lemmas.List.Sums.{fold-append}
use Rattle.formula_parse.specs.Views.{connective_view}
use Rattle.term_plans.specs.Tracks.{fresh}
use Rattle.term_plans.specs.Plans.{Plan, number, renamed, joined, complement, projected}
use Rattle.term_plans.specs.Makings.{track_view, plan_at, plan_by, IsOf, IsMakingAt, AreMakingsOf, unfolded}
use Rattle.term_plans.specs.declared.making.Making.{Making}
use Rattle.term_plans.specs.declared.making.Making.TheVariants.{Compared, Added, Number, Called, Lettered, Renamed, Constant, Joined, Paired, Complement, Projected}

-- a longer list has the same plans at the places of the shorter one
pub at_grown : (xs ys : List Plan) (i : ℕ) → i < length xs → plan_at (xs ++ ys) i ≡ plan_at xs i
at_grown xs ys i within = get_or_append_left xs ys (number [] (fresh 0)) i within

-- the last plan
pub at_end : (xs : List Plan) (p : Plan) → plan_at (xs ++ p ∷ []) (length xs) ≡ p
at_end xs p = get_or-append_seam xs p [] (number [] (fresh 0))

pub length_more : (xs : List Plan) (p : Plan) → length (xs ++ p ∷ []) ≡ length xs + 1
length_more xs p = length-append xs (p ∷ [])

pub by_grown : (xs ys : List Plan) (m : Making) → IsOf (length xs) m → plan_by (xs ++ ys) m ≡ plan_by xs m
by_grown xs ys (Compared y r s t) of = refl
by_grown xs ys (Added y s t u) of = refl
by_grown xs ys (Number y t) of = refl
by_grown xs ys (Called n ts) of = refl
by_grown xs ys (Lettered n ts r l) of = refl
by_grown xs ys (Renamed s t p) of = ap (renamed (track_view s) (track_view t)) (at_grown xs ys p of)
by_grown xs ys (Constant y c t) of = refl
by_grown xs ys (Joined j p q) of = ap (λ x. joined (connective_view j) x (plan_at (xs ++ ys) q)) (at_grown xs ys p of.0) ∙ ap (joined (connective_view j) (plan_at xs p)) (at_grown xs ys q of.1)
by_grown xs ys (Paired n ts r w us) of = refl
by_grown xs ys (Complement p) of = ap complement (at_grown xs ys p of)
by_grown xs ys (Projected t p) of = ap (projected (track_view t)) (at_grown xs ys p of)

pub of_earlier_more : (k l : ℕ) (m : Making) → k ≤ l → IsOf k m → IsOf l m
of_earlier_more k l (Compared y r s t) up of = tt
of_earlier_more k l (Added y s t u) up of = tt
of_earlier_more k l (Number y t) up of = tt
of_earlier_more k l (Called n ts) up of = tt
of_earlier_more k l (Lettered n ts r l') up of = tt
of_earlier_more k l (Renamed s t p) up of = omega (arith, up, of)
of_earlier_more k l (Constant y c t) up of = tt
of_earlier_more k l (Joined j p q) up of = (omega (arith, up, of.0), omega (arith, up, of.1))
of_earlier_more k l (Paired n ts r w us) up of = tt
of_earlier_more k l (Complement p) up of = omega (arith, up, of)
of_earlier_more k l (Projected t p) up of = omega (arith, up, of)

pub unfolded_more : (ms : List Making) (m : Making) → unfolded (ms ++ m ∷ []) ≡ unfolded ms ++ plan_by (unfolded ms) m ∷ []
unfolded_more ms m = fold-append (λ (plans : List Plan) (n : Making). plans ++ plan_by plans n ∷ []) [] ms (m ∷ [])

-- one plan more
pub makings_then : (xs : List Plan) (ms : List Making) (m : Making) → AreMakingsOf xs ms → IsOf (length xs) m → AreMakingsOf (xs ++ plan_by xs m ∷ []) (ms ++ m ∷ [])
makings_then xs ms m are of = record {
  as_many = length-append ms (m ∷ []) ∙ ap (λ n. n + 1) are.as_many ∙ sym (length_more xs (plan_by xs m));
  each = λ i d within. below_more (λ j. (e : Making) → IsMakingAt (xs ++ plan_by xs m ∷ []) j (get_or (ms ++ m ∷ []) j e)) (length ms) before last i (omega (arith, length-append ms (m ∷ []), within)) d;
}
  where
    before : (j : ℕ) → j < length ms → (e : Making) → IsMakingAt (xs ++ plan_by xs m ∷ []) j (get_or (ms ++ m ∷ []) j e)
    before j below e =
        let old = are.each j e below in
        let many = are.as_many in
        subst (λ n. IsMakingAt (xs ++ plan_by xs m ∷ []) j n) (sym (get_or_append_left ms (m ∷ []) e j below)) (record {
          of_earlier = old.of_earlier;
          makes = by_grown xs (plan_by xs m ∷ []) (get_or ms j e) (of_earlier_more j (length xs) (get_or ms j e) (omega (arith, many, below)) old.of_earlier)
              ∙ old.makes ∙ sym (at_grown xs (plan_by xs m ∷ []) j (omega (arith, many, below)));
        })

    last : (e : Making) → IsMakingAt (xs ++ plan_by xs m ∷ []) (length ms) (get_or (ms ++ m ∷ []) (length ms) e)
    last e = subst (λ n. IsMakingAt (xs ++ plan_by xs m ∷ []) (length ms) n) (sym (get_or-append_seam ms m [] e)) (record {
      of_earlier = subst (λ k. IsOf k m) (sym are.as_many) of;
      makes = by_grown xs (plan_by xs m ∷ []) m of ∙ sym (ap (plan_at (xs ++ plan_by xs m ∷ [])) are.as_many ∙ at_end xs (plan_by xs m));
    })

pub makings_pushed : (ms ns : List Making) (m : Making) → ns ≡ ms ++ m ∷ [] → AreMakingsOf (unfolded ms) ms → IsOf (length (unfolded ms)) m → AreMakingsOf (unfolded ns) ns
makings_pushed ms ns m is are of =
    subst (λ l. AreMakingsOf (unfolded l) l) (sym is)
    (subst (λ plans. AreMakingsOf plans (ms ++ m ∷ [])) (sym (unfolded_more ms m)) (makings_then (unfolded ms) ms m are of))
