use Rattle.std.proofs.Common.{rules, ◌≡◌, ◌<◌, List, ℕ, map, length, get_or, sym, ap, ◌∙◌, subst, arith}
use Rattle.std.specs.List.{Contains}
use Rattle.std.specs.Rc.{rc_value}
use Rattle.std.proofs.lemmas.List.{get_or-map, length-map}
use Rattle.std.proofs.lemmas.Result.{IfOk-weaker}
use Rattle.digit_tuple.proofs.NameLemmas.{place_of-contained}
use Rattle.num_system.specs.Sealed.{SystemValue}
use Rattle.num_system.specs.Tracks.{absent_system, system_under}
use Rattle.num_system.proofs.UnderNames.{under_left, under_missing}
use Rattle.number_relations.proofs.track_systems.joint_system.Goals as goal

pub bounds-systems-place : goal.bounds-systems-place
bounds-systems-place c =
    let found : Contains c.names-names.result.now c.args.name.now = search rules in
    let spot = place_of-contained c.names-names.result.now c.args.name.now found in
    let long : length c.systems-systems.result.now ≡ length c.names-names.result.now =
    sym (length-map c.systems-systems.result.now rc_value) ∙ ap length c.systems-systems.ensures.value ∙ c.names-names.ensures.relation.count ∙ sym (ap length c.names-names.ensures.value) in
    omega (arith, spot.0, c.in-Some.ensures.place, long)

pub offset_bounds-systems-place : goal.offset_bounds-systems-place
offset_bounds-systems-place c =
    let found : Contains c.names-names.result.now c.args.name.now = search rules in
    let spot = place_of-contained c.names-names.result.now c.args.name.now found in
    let long : length c.systems-systems.result.now ≡ length c.names-names.result.now =
    sym (length-map c.systems-systems.result.now rc_value) ∙ ap length c.systems-systems.ensures.value ∙ c.names-names.ensures.relation.count ∙ sym (ap length c.names-names.ensures.value) in
    let within : c.in-Some.place < length c.systems-systems.result.now = omega (arith, spot.0, c.in-Some.ensures.place, long) in
    search rules

pub returns-in_ok-clone-in-Some : goal.returns-in_ok-clone-in-Some
returns-in_ok-clone-in-Some c =
    let a = c.args.a.now in
    let b = c.args.b.now in
    let name = c.args.name.now in
    let systems = c.systems-systems.result.now in
    let there : Contains c.names-names.result.now name = search rules in
    let found : Contains a.names name = subst (λ (ns : List (List ℕ)). Contains ns name) c.names-names.ensures.value there in
    let spot = place_of-contained c.names-names.result.now name there in
    let long : length systems ≡ length c.names-names.result.now =
    sym (length-map systems rc_value) ∙ ap length c.systems-systems.ensures.value ∙ c.names-names.ensures.relation.count ∙ sym (ap length c.names-names.ensures.value) in
    let within : c.in-Some.place < length systems = omega (arith, spot.0, c.in-Some.ensures.place, long) in
    c.in_ok-clone-in-Some.ensures.cases
    ∙ ap rc_value c.index-systems-place.is
    ∙ sym (get_or-map rc_value systems c.in-Some.place c.index-systems-place.result absent_system within)
    ∙ ap (λ p. get_or (map rc_value systems) p absent_system) c.in-Some.ensures.place
    ∙ ap (λ (ss : List SystemValue). system_under c.names-names.result.now ss name) c.systems-systems.ensures.value
    ∙ ap (λ (ns : List (List ℕ)). system_under ns a.systems name) c.names-names.ensures.value
    ∙ sym (under_left a.names b.names a.systems b.systems name c.names-names.ensures.relation.count found)

pub returns-in-None : goal.returns-in-None
returns-in-None c =
    let a = c.args.a.now in
    let b = c.args.b.now in
    let name = c.args.name.now in
    let none : Contains c.names-names.result.now name → ⊥ = search rules in
    let missing : Contains a.names name → ⊥ = λ found. none (subst (λ (ns : List (List ℕ)). Contains ns name) (sym c.names-names.ensures.value) found) in
    IfOk-weaker c.system_for.result _ _ (λ system is.
    is
    ∙ ap (λ (ss : List SystemValue). system_under c.names.result.now ss name) c.systems.ensures.value
    ∙ ap (λ (ns : List (List ℕ)). system_under ns b.systems name) c.names.ensures.value
    ∙ sym (under_missing a.names b.names a.systems b.systems name c.names-names.ensures.relation.count missing))
    c.system_for.ensures
