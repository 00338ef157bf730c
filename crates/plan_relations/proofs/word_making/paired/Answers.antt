use Rattle.std.proofs.Common.{◌≡◌, map, sym, ◌∙◌, subst}
use Rattle.std.specs.Rc.{rc_value}
use Rattle.number_relations.specs.Relations.{relation_over}
use Rattle.word_output.specs.WordPairs.{PlacedLetters, IsPair, MayPair}
use Rattle.plan_relations.specs.MadeOf.{placed_at}
use Rattle.plan_relations.specs.PlacedWords.{PlacedWord, placed_letters}
use Rattle.plan_relations.proofs.PairRelationLemmas.{may_pair, pair_is}
use Rattle.plan_relations.proofs.word_making.paired.Goals as goal

pub pair_step-requires : goal.pair_step-requires
pair_step-requires c =
    let a : PlacedWord = placed_at c.args.first.word.now c.args.first.tracks.now in
    let b : PlacedWord = placed_at c.args.second.word.now c.args.second.tracks.now in
    let left : PlacedLetters = record { function = c.function.result.now; under = c.deref.result.now } in
    let right : PlacedLetters = record { function = c.function-2.result.now; under = c.deref-2.result.now } in
    let first : left ≡ placed_letters a = λ i. record { function = c.function.ensures.value i; under = (c.deref.ensures.value ∙ c.in_ok-under.ensures) i } in
    let second : right ≡ placed_letters b = λ i. record { function = c.function-2.ensures.value i; under = (c.deref-2.ensures.value ∙ c.in_ok-others.ensures) i } in
    subst (λ (x : PlacedLetters). MayPair x right) (sym first) (subst (MayPair (placed_letters a)) (sym second) (may_pair a b c.function.ensures.word c.function-2.ensures.word c.requires))

pub from_parts-requires : goal.from_parts-requires
from_parts-requires c =
    let a : PlacedWord = placed_at c.args.first.word.now c.args.first.tracks.now in
    let b : PlacedWord = placed_at c.args.second.word.now c.args.second.tracks.now in
    let left : PlacedLetters = record { function = c.function.result.now; under = c.deref.result.now } in
    let right : PlacedLetters = record { function = c.function-2.result.now; under = c.deref-2.result.now } in
    let first : left ≡ placed_letters a = λ i. record { function = c.function.ensures.value i; under = (c.deref.ensures.value ∙ c.in_ok-under.ensures) i } in
    let second : right ≡ placed_letters b = λ i. record { function = c.function-2.ensures.value i; under = (c.deref-2.ensures.value ∙ c.in_ok-others.ensures) i } in
    let tracked = c.in_ok-tracked.tracked in
    let pair : IsPair c.args.comparison (placed_letters a) (placed_letters b) tracked =
    subst (λ (x : PlacedLetters). IsPair c.args.comparison x (placed_letters b) tracked) first (subst (λ (x : PlacedLetters). IsPair c.args.comparison left x tracked) second c.in_ok-tracked.ensures.step.made_is) in
    pair_is c.args.comparison a b c.function.ensures.word c.function-2.ensures.word c.requires (relation_over tracked (map rc_value c.in_ok-systems.systems.items)) (record { systems = c.in_ok-systems.ensures; pair = pair })
