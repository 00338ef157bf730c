use Rattle.std.proofs.Common.{◌≡◌, ◌∙◌, ◌<◌, length, get_or, ap, sym, subst, arith}
use Rattle.std.specs.List.{All}
use Rattle.std.proofs.lemmas.List.{get_or_default, length-map}
use Rattle.named_systems.specs.TrackSystems.{direction_of, IsIn, IsFirstApart}
use Rattle.named_systems.specs.declared.track_system.TrackSystem.{TrackSystem}
use Rattle.named_systems.proofs.track_systems.TrackSystems.of_names.Goals as goal

pub returns-in_ok-copy-in-Some-2 : goal.returns-in_ok-copy-in-Some-2
returns-in_ok-copy-in-Some-2 c =
    let d = c.direction-direction.result in
    let names = c.args.names.now in
    let items = c.in_ok-systems.systems.items in
    let of = c.in_ok-systems.ensures in
    let some : 0 < length items = omega (arith, c.requires.some, ap length of.names_are, length-map items (λ (s : TrackSystem). s.name)) in
    let first : c.in_ok-copy-in-Some.field-0 ≡ get_or names 0 c.in_ok-copy-in-Some.field-0 = subst (λ n. n ≡ get_or names 0 n) (sym c.in_ok-copy-in-Some.ensures) c.index-names-0.is in
    let other : c.in_ok-copy-in-Some-2.field-0 ≡ get_or names c.in-Some.place c.in_ok-copy-in-Some-2.field-0 = subst (λ n. n ≡ get_or names c.in-Some.place n) (sym c.in_ok-copy-in-Some-2.ensures) c.index-names-place.is in
    record {
      systems = items;
      named = of;
      direction = d;
      first_of = λ x. ap direction_of (get_or_default items 0 x c.index.result.now some ∙ sym c.index.ensures) ∙ sym c.direction-direction.ensures;
      place = c.in-Some.place;
      other_of = subst (λ xs. IsFirstApart d xs c.in-Some.place) c.deref.ensures.value c.in-Some.ensures;
      first_is = first;
      other_is = other;
    }

pub returns-in-None : goal.returns-in-None
returns-in-None c =
    let d = c.direction-direction.result in
    let items = c.in_ok-systems.systems.items in
    let of = c.in_ok-systems.ensures in
    record {
      named = of;
      some = omega (arith, c.requires.some, ap length of.names_are, length-map items (λ (s : TrackSystem). s.name));
      directions = subst (All (IsIn d)) c.deref.ensures.value c.in-None.ensures;
    }
