use Rattle.std.proofs.Common.{◌≡◌, ap, ◌∙◌, ◌++◌, ℕ, None}
use Rattle.std.specs.Option.{unwrap_or, option_or}
use Rattle.std.specs.Ordering.{nat_cmp}
use Rattle.std.specs.Cmp.Lexicographic.{slice_cmp}
use Rattle.std.specs.FinMap.{empty, get-empty}
use Rattle.formula_parse.specs.Views.{formula_view}
use Rattle.formula_resolve.specs.Headers.{Named}
use Rattle.formula_resolve.specs.Occurrences.{unbound, occurrences}
use Rattle.formula_resolve.specs.Scopes.{binders_of}
use Rattle.formula_resolve.specs.Directions.{conflict_in}
use Rattle.formula_resolve.proofs.resolution.walk_whole.Goals as goal

none_bound : (m : Named ℕ) → m ≡ empty → binders_of m ≡ unbound
none_bound m none = ap binders_of none ∙ (λ i n. unwrap_or (get-empty (slice_cmp nat_cmp) n i) 0)

pub returns-clause-occurrences : goal.returns-clause-occurrences
returns-clause-occurrences c =
    c.in_ok-walk_formula.ensures.found
    ∙ (λ i. c.new-2.ensures.items i ++ (occurrences c.args.headers.now (none_bound c.new.result c.new.ensures i) 1 (formula_view c.args.formula.now)).list)

pub returns-clause-conflict : goal.returns-clause-conflict
returns-clause-conflict c =
    c.in_ok-walk_formula.ensures.conflict
    ∙ ap (λ b. option_or None (conflict_in c.args.headers.now b 1 (formula_view c.args.formula.now))) (none_bound c.new.result c.new.ensures)
