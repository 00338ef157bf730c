-- What can be made can be made in each part.
use Rattle.std.proofs.Common.{inl, inr, refl, sym, subst}
use Rattle.term_plans.specs.Plans.{Plan, compared, added, number, called, lettered, renamed, constant, joined, paired, complement, projected}
use Rattle.plan_relations.specs.Libraries.{LibraryValue}
use Rattle.plan_relations.specs.Makings.{IsReady}
use Rattle.plan_relations.specs.Parts.{IsPart}

-- a plan is a part of itself
pub whole_part : (p : Plan) → IsPart p p
whole_part (compared y r s t) = refl
whole_part (added y s t u) = refl
whole_part (number y t) = refl
whole_part (called n ts) = refl
whole_part (lettered n ts r l) = refl
whole_part (renamed s t p) = inl refl
whole_part (constant y c t) = refl
whole_part (joined j p q) = inl refl
whole_part (paired n ts r w us) = refl
whole_part (complement p) = inl refl
whole_part (projected t p) = inl refl

-- a part of a part is a part
pub part_of_part : (p q r : Plan) → IsPart p q → IsPart q r → IsPart p r
part_of_part p q (compared y k s t) inner outer = subst (IsPart p) outer inner
part_of_part p q (added y s t u) inner outer = subst (IsPart p) outer inner
part_of_part p q (number y t) inner outer = subst (IsPart p) outer inner
part_of_part p q (called n ts) inner outer = subst (IsPart p) outer inner
part_of_part p q (lettered n ts k l) inner outer = subst (IsPart p) outer inner
part_of_part p q (renamed s t r) inner (inl same) = subst (IsPart p) same inner
part_of_part p q (renamed s t r) inner (inr outer) = inr (part_of_part p q r inner outer)
part_of_part p q (constant y c t) inner outer = subst (IsPart p) outer inner
part_of_part p q (joined j r s) inner (inl same) = subst (IsPart p) same inner
part_of_part p q (joined j r s) inner (inr (inl outer)) = inr (inl (part_of_part p q r inner outer))
part_of_part p q (joined j r s) inner (inr (inr outer)) = inr (inr (part_of_part p q s inner outer))
part_of_part p q (paired n ts k w us) inner outer = subst (IsPart p) outer inner
part_of_part p q (complement r) inner (inl same) = subst (IsPart p) same inner
part_of_part p q (complement r) inner (inr outer) = inr (part_of_part p q r inner outer)
part_of_part p q (projected t r) inner (inl same) = subst (IsPart p) same inner
part_of_part p q (projected t r) inner (inr outer) = inr (part_of_part p q r inner outer)

pub part_ready : (l : LibraryValue) (p q : Plan) → IsPart p q → IsReady l q → IsReady l p
part_ready l p (compared y r s t) part ready = subst (IsReady l) (sym part) ready
part_ready l p (added y s t u) part ready = subst (IsReady l) (sym part) ready
part_ready l p (number y t) part ready = subst (IsReady l) (sym part) ready
part_ready l p (called n ts) part ready = subst (IsReady l) (sym part) ready
part_ready l p (lettered n ts r k) part ready = subst (IsReady l) (sym part) ready
part_ready l p (renamed s t q) (inl same) ready = subst (IsReady l) (sym same) ready
part_ready l p (renamed s t q) (inr part) ready = part_ready l p q part ready.0
part_ready l p (constant y c t) part ready = subst (IsReady l) (sym part) ready
part_ready l p (joined j q r) (inl same) ready = subst (IsReady l) (sym same) ready
part_ready l p (joined j q r) (inr (inl part)) ready = part_ready l p q part ready.0
part_ready l p (joined j q r) (inr (inr part)) ready = part_ready l p r part ready.1
part_ready l p (paired n ts r w vs) part ready = subst (IsReady l) (sym part) ready
part_ready l p (complement q) (inl same) ready = subst (IsReady l) (sym same) ready
part_ready l p (complement q) (inr part) ready = part_ready l p q part ready
part_ready l p (projected t q) (inl same) ready = subst (IsReady l) (sym same) ready
part_ready l p (projected t q) (inr part) ready = part_ready l p q part ready.0
