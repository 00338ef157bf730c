use Rattle.std.proofs.Common.{ℕ, ◌<◌, List, length, sym, ap, ◌∙◌, subst}
use Rattle.std.specs.List.{All}
use Rattle.product_op.specs.Readings.{IsReading, reading_in}
use Rattle.product_op.proofs.letter_joins.letter_join.Goals as goal

pub least_letters-requires-clause-reading : goal.least_letters-requires-clause-reading
least_letters-requires-clause-reading c = c.requires.first

pub least_letters-requires-clause-positive : goal.least_letters-requires-clause-positive
least_letters-requires-clause-positive c = c.requires.positive

pub least_letters-requires-2-clause-reading : goal.least_letters-requires-2-clause-reading
least_letters-requires-2-clause-reading c = c.requires.second

pub least_letters-requires-2-clause-positive : goal.least_letters-requires-2-clause-positive
least_letters-requires-2-clause-positive c = c.requires.positive

pub with_shared-requires-clause-reading : goal.with_shared-requires-clause-reading
with_shared-requires-clause-reading c = subst (λ n. IsReading n (reading_in c.args.second.now)) (sym c.requires.second.count) c.requires.second

pub with_shared-requires-clause-letters : goal.with_shared-requires-clause-letters
with_shared-requires-clause-letters c =
    subst (λ (xs : List ℕ). All (λ a. a < length c.args.second.now.parts) xs) (sym c.deref.ensures.value) (subst (λ n. All (λ a. a < n) c.in_ok-least_first.least_first.items) (sym c.requires.second.count) c.in_ok-least_first.ensures.letters)

pub with_shared-requires-clause-count : goal.with_shared-requires-clause-count
with_shared-requires-clause-count c = ap length c.deref-2.ensures.value ∙ c.in_ok-least_second.ensures.count

pub with_shared-requires-2-clause-reading : goal.with_shared-requires-2-clause-reading
with_shared-requires-2-clause-reading c = subst (λ n. IsReading n (reading_in c.args.first.now)) (sym c.requires.first.count) c.requires.first

pub with_shared-requires-2-clause-letters : goal.with_shared-requires-2-clause-letters
with_shared-requires-2-clause-letters c =
    subst (λ (xs : List ℕ). All (λ a. a < length c.args.first.now.parts) xs) (sym c.deref-3.ensures.value) (subst (λ n. All (λ a. a < n) c.in_ok-least_second.least_second.items) (sym c.requires.first.count) c.in_ok-least_second.ensures.letters)

pub with_shared-requires-2-clause-count : goal.with_shared-requires-2-clause-count
with_shared-requires-2-clause-count c = ap length c.deref-4.ensures.value ∙ c.in_ok-least_first.ensures.count

pub checked-requires-clause-first : goal.checked-requires-clause-first
checked-requires-clause-first c = c.requires.first

pub checked-requires-clause-second : goal.checked-requires-clause-second
checked-requires-clause-second c = c.requires.second

pub checked-requires-clause-positive : goal.checked-requires-clause-positive
checked-requires-clause-positive c = c.requires.positive

pub checked-requires-clause-first_count : goal.checked-requires-clause-first_count
checked-requires-clause-first_count c = c.in_ok-with_shared.ensures ∙ ap length c.deref.ensures.value ∙ c.in_ok-least_first.ensures.count

pub checked-requires-clause-second_count : goal.checked-requires-clause-second_count
checked-requires-clause-second_count c = c.in_ok-with_shared-2.ensures ∙ ap length c.deref-3.ensures.value ∙ c.in_ok-least_second.ensures.count
