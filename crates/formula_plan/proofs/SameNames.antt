-- Lists that have the same names.
use Rattle.std.specs.Str.{bytes_eq}
use Rattle.std.proofs.Common.{◌||◌, ◌&&◌, not, List, [], ◌++◌, sym, ◌∙◌, ap, append-nil, append_assoc}
use Rattle.formula_parse.specs.Tokens.{Name}
use Rattle.formula_parse.specs.Trees.{Names, no_names, names}
use Rattle.term_plans.specs.Plans.{Plan}
use Rattle.formula_plan.specs.OwnNames.{without_name, without_all, has_name, HaveSame}
use Rattle.formula_plan.specs.FormulaPlanning.{AgreeOn}
use Rattle.formula_plan.proofs.OwnTracks.{named_both, without_named}

-- with others before or after them
pub same_prefix : (xs ys zs : List Name) → HaveSame xs ys → HaveSame (xs ++ zs) (ys ++ zs)
same_prefix xs ys zs same n = named_both xs zs n ∙ ap (λ b. b || has_name zs n) (same n) ∙ sym (named_both ys zs n)

pub same_after : (xs ys zs : List Name) → HaveSame ys zs → HaveSame (xs ++ ys) (xs ++ zs)
same_after xs ys zs same n = named_both xs ys n ∙ ap (λ b. has_name xs n || b) (same n) ∙ sym (named_both xs zs n)

-- without one of them, and without several
pub same_without : (m : Name) (xs ys : List Name) → HaveSame xs ys → HaveSame (without_name m xs) (without_name m ys)
same_without m xs ys same n = without_named m xs n ∙ ap (λ b. not (bytes_eq m n) && b) (same n) ∙ sym (without_named m ys n)

pub same_without_all : (ms : Names) (xs ys : List Name) → HaveSame xs ys → HaveSame (without_all ms xs) (without_all ms ys)
same_without_all no_names xs ys same = same
same_without_all (names ms m) xs ys same = same_without_all ms (without_name m xs) (without_name m ys) (same_without m xs ys same)

-- nothing is added, and something after something
pub added_none : (old : List Name) → HaveSame old (old ++ [])
added_none old n = ap (λ l. has_name l n) (sym (append-nil old))

pub added_then : (old mid new more again : List Name) → HaveSame mid (old ++ more) → HaveSame new (mid ++ again) → HaveSame new (old ++ (more ++ again))
added_then old mid new more again first second n = second n ∙ same_prefix mid (old ++ more) again first n ∙ ap (λ l. has_name l n) (append_assoc old more again)

-- the own tracks of a plan
pub agrees_same : (p : Plan) (xs ys : List Name) → HaveSame ys xs → AgreeOn p xs → AgreeOn p ys
agrees_same p xs ys same on = record { agree = λ n. on.agree n ∙ sym (same n) }
