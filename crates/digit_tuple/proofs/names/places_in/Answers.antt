use Rattle.std.proofs.Common.{ℕ, List, [], ◌∷◌, ◌++◌, map, take, sym, ap, ◌∙◌, subst, arith}
use Rattle.std.specs.List.{Contains}
use Rattle.std.proofs.lemmas.List.{map_more, take_all}
use Rattle.digit_tuple.specs.Names.{place_of, places_of}
use Rattle.digit_tuple.proofs.names.places_in.Goals as goal

pub offset_bounds-some-name-index : goal.offset_bounds-some-name-index
offset_bounds-some-name-index c = omega (arith, c.loop-name-test.true)

pub place_in-requires-clause-there : goal.place_in-requires-clause-there
place_in-requires-clause-there c =
    subst (λ n. Contains c.args.names.now n) (sym c.name-item.is) (c.requires.there c.loop-name.name-index c.name-item.result c.loop-name-test.true)

pub place_in-requires-clause-few : goal.place_in-requires-clause-few
place_in-requires-clause-few c = c.requires.few

pub loop-name-preserved : goal.loop-name-preserved
loop-name-preserved c =
    let place = place_of c.args.names.now in
    let index = c.loop-name.name-index in
    c.in_ok-push.ensures.items ∙ ap (λ (xs : List ℕ). xs ++ c.place_in.result ∷ []) c.loop-name.invariant
    ∙ ap (λ (n : ℕ). map place (take index c.args.some.now) ++ n ∷ []) (c.place_in.ensures ∙ ap place c.name-item.is)
    ∙ sym (map_more place c.args.some.now index c.name-item.result c.loop-name-test.true)

pub returns : goal.returns
returns c = c.loop-name.invariant ∙ ap (places_of c.args.names.now) (take_all c.loop-name.name-index c.args.some.now c.loop-name-test.false)
