use Rattle.std.proofs.Common.{◌≡◌, ℤ, List, map, Some, refl, sym, ap, ◌∙◌, subst}
use Rattle.std.specs.Rc.{rc_value}
use Rattle.std.specs.Prelude.{Result}
use Rattle.std.proofs.lemmas.Result.{err_from_is_err_and}
use Rattle.digit_tuple.specs.Deterministic.{Automaton}
use Rattle.digit_tuple.specs.Sets.{sizes_of}
use Rattle.digit_tuple.specs.declared.direction.Direction.{Direction}
use Rattle.digit_tuple.specs.declared.step_fault.StepFault.{StepFault}
use Rattle.dfa_reading.specs.Headers.{Header}
use Rattle.num_system.specs.Sealed.{SystemValue}
use Rattle.num_system.specs.Tracks as tracks
use Rattle.number_relations.specs.Relations.{RelationValue}
use Rattle.word_walk.specs.Listed.{is_listed}
use Rattle.table_listings.specs.Questions.{Answers, IsAskedOn, IsUnanswered}
use Rattle.listing_commands.specs.ListingMakes.{DoesRelation, HaveHeader, IsPlaceFault, sets_below}
use Rattle.listing_commands.proofs.ListingReady.{relation_sizes}
use Rattle.listing_commands.proofs.ListingSteps.{lines_refused, place_refused, step_not_made}
use Rattle.listing_commands.proofs.listing.answered_over.Goals as goal

pub track_sets-requires : goal.track_sets-requires
track_sets-requires c = subst (λ (h : Header). HaveHeader h (map rc_value c.args.tracks.now)) (sym c.header.ensures) c.requires.named

pub returns-in_err-sets : goal.returns-in_err-sets
returns-in_err-sets c =
    let p = err_from_is_err_and c.from_residual.result c.from_residual.ensures.1 in
    rw (p.1, p.2) tt

pub returns-in_err-refuse_place : goal.returns-in_err-refuse_place
returns-in_err-refuse_place c =
    let p = err_from_is_err_and c.from_residual-in_err-refuse_place.result c.from_residual-in_err-refuse_place.ensures.1 in
    let table = c.args.about.table.now in
    let asked = c.args.about.asked.now in
    let found : List SystemValue = map rc_value c.args.tracks.now in
    let own : c.in_ok-sets.sets ≡ sets_below table.listed.header found = c.in_ok-sets.ensures ∙ ap (λ (h : Header). sets_below h found) c.header.ensures in
    let fault = c.in_err-refuse_place.field-0.0 in
    rw (p.1, p.2)
    (place_refused (λ (r : Result Automaton StepFault). DoesRelation found table.listed c.args.steps.now r c.args.steps.now) (Some (tracks.direction_of found)) (sets_below table.listed.header found) asked fault
    (subst (λ (sets : List (List ℤ)). IsPlaceFault sets asked fault) own c.in_err-refuse_place.ensures))

pub returns-in_err-relation : goal.returns-in_err-relation
returns-in_err-relation c =
    let p = err_from_is_err_and c.from_residual-in_err-relation.result c.from_residual-in_err-relation.ensures.1 in
    let table = c.args.about.table.now in
    let asked = c.args.about.asked.now in
    let found : List SystemValue = map rc_value c.args.tracks.now in
    let own : c.in_ok-sets.sets ≡ sets_below table.listed.header found = c.in_ok-sets.ensures ∙ ap (λ (h : Header). sets_below h found) c.header.ensures in
    let on = subst (λ (sets : List (List ℤ)). IsAskedOn sets asked.question) own c.in_ok-refuse_place.ensures in
    let fault = c.in_err-relation.field-0.0 in
    rw (p.1, p.2)
    (step_not_made (λ (r : Result Automaton StepFault). DoesRelation found table.listed c.args.steps.now r c.relation.new.steps) (Some (tracks.direction_of found)) (sets_below table.listed.header found) asked.name asked.question on fault c.in_err-relation.ensures.refused)

pub answer-requires-clause-sizes : goal.answer-requires-clause-sizes
answer-requires-clause-sizes c =
    let table = c.args.about.table.now in
    let found : List SystemValue = map rc_value c.args.tracks.now in
    let own : c.in_ok-sets.sets ≡ sets_below table.listed.header found = c.in_ok-sets.ensures ∙ ap (λ (h : Header). sets_below h found) c.header.ensures in
    let automaton : c.dfa.result.now ≡ c.in_ok-relation.relation.value.automaton = c.dfa.ensures.value ∙ ap (λ (r : RelationValue). r.automaton) c.as_ref.ensures in
    ap (λ (d : Automaton). d.sizes) automaton ∙ (relation_sizes table found c.in_ok-relation.relation.value c.args.steps.now c.relation.new.steps c.requires c.in_ok-relation.ensures.made ∙ sym (ap sizes_of own))

pub returns-in_err-reply : goal.returns-in_err-reply
returns-in_err-reply c =
    let p = err_from_is_err_and c.from_residual-in_err-reply.result c.from_residual-in_err-reply.ensures.1 in
    let table = c.args.about.table.now in
    let asked = c.args.about.asked.now in
    let found : List SystemValue = map rc_value c.args.tracks.now in
    let own : c.in_ok-sets.sets ≡ sets_below table.listed.header found = c.in_ok-sets.ensures ∙ ap (λ (h : Header). sets_below h found) c.header.ensures in
    let on = subst (λ (sets : List (List ℤ)). IsAskedOn sets asked.question) own c.in_ok-refuse_place.ensures in
    let relation = c.in_ok-relation.relation.value in
    let automaton : c.dfa.result.now ≡ relation.automaton = c.dfa.ensures.value ∙ ap (λ (r : RelationValue). r.automaton) c.as_ref.ensures in
    let fault = c.in_err-reply.field-0.0 in
    let direction : c.direction_of.result ≡ tracks.direction_of found = c.direction_of.ensures in
    let moved = subst (λ (sets : List (List ℤ)). IsUnanswered (is_listed c.dfa.result.now (Some c.direction_of.result)) sets asked.question fault) own c.in_err-reply.ensures in
    let turned = subst (λ (w : Direction). IsUnanswered (is_listed c.dfa.result.now (Some w)) (sets_below table.listed.header found) asked.question fault) direction moved in
    let long = subst (λ (d : Automaton). IsUnanswered (is_listed d (Some (tracks.direction_of found))) (sets_below table.listed.header found) asked.question fault) automaton turned in
    rw (p.1, p.2)
    (lines_refused (λ (r : Result Automaton StepFault). DoesRelation found table.listed c.args.steps.now r c.relation.new.steps) (Some (tracks.direction_of found)) (sets_below table.listed.header found) asked.name asked.question on relation.automaton (relation, refl, c.in_ok-relation.ensures.made) fault long)

pub returns : goal.returns
returns c =
    let table = c.args.about.table.now in
    let asked = c.args.about.asked.now in
    let found : List SystemValue = map rc_value c.args.tracks.now in
    let own : c.in_ok-sets.sets ≡ sets_below table.listed.header found = c.in_ok-sets.ensures ∙ ap (λ (h : Header). sets_below h found) c.header.ensures in
    let on = subst (λ (sets : List (List ℤ)). IsAskedOn sets asked.question) own c.in_ok-refuse_place.ensures in
    let relation = c.in_ok-relation.relation.value in
    let automaton : c.dfa.result.now ≡ relation.automaton = c.dfa.ensures.value ∙ ap (λ (r : RelationValue). r.automaton) c.as_ref.ensures in
    let direction : c.direction_of.result ≡ tracks.direction_of found = c.direction_of.ensures in
    let moved = subst (λ (sets : List (List ℤ)). Answers (is_listed c.dfa.result.now (Some c.direction_of.result)) sets asked.question c.in_ok-reply.reply) own c.in_ok-reply.ensures in
    let turned = subst (λ (w : Direction). Answers (is_listed c.dfa.result.now (Some w)) (sets_below table.listed.header found) asked.question c.in_ok-reply.reply) direction moved in
    let answers = subst (λ (d : Automaton). Answers (is_listed d (Some (tracks.direction_of found))) (sets_below table.listed.header found) asked.question c.in_ok-reply.reply) automaton turned in
    record { on = on; read = relation.automaton; does = (relation, refl, c.in_ok-relation.ensures.made); answers = answers }
