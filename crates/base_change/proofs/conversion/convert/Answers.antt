use Rattle.std.proofs.Common.{◌≡◌, inl, inr, ◌∷◌, [], ◌++◌, List, Result, Ok, Err, map, refl, sym, ap, ◌∙◌, subst, arith}
use Rattle.std.specs.List.{AllByRecursion}
use Rattle.std.specs.Rc.{rc_value}
use Rattle.std.proofs.lemmas.Result.{err_from_is_err_and}
use Rattle.num_system.specs.Sealed.{IsSealed, SystemValue}
use Rattle.num_system.specs.Tracks.{direction_of}
use Rattle.word_output.specs.LetterFunctions.{LetterFunctionValue}
use Rattle.word_output.specs.Words.{IsWordValue, WordValue}
use Rattle.base_change.specs.Conversions.{DoesConversion, DoesLetters}
use Rattle.base_change.proofs.ConversionLemmas.{letters_kept, made_is_word, old_over, powers_of, split_kept, turn_first, turn_is}
use Rattle.base_change.proofs.conversion.convert.Goals as goal

pub join_unless_first-requires-clause-base : goal.join_unless_first-requires-clause-base
join_unless_first-requires-clause-base c =
    let w = c.args.word.now in
    let powers = powers_of c.args.word.now.systems (rc_value c.args.to.now) c.args.common c.requires in
    let from = c.direction_of-from.ensures ∙ ap direction_of c.systems.ensures.value in
    let first = c.in_ok-first.first in
    let steps = c.args.steps.now in
    let mid = c.turned.new.steps in
    let turn = turn_is c.direction_of-from.result (direction_of w.systems) c.in_ok-old.old w.function steps mid (Ok first) from (c.in_ok-old.ensures ∙ c.function.ensures.value) c.in_ok-first.ensures in
    let over = old_over c.rank_is_positional.ensures w c.systems.ensures.word (rc_value c.args.to.now) c.args.common powers in
    (split_kept c.args.common.root powers.root c.args.common.old_power powers.old_power first c.in_ok-split.split mid c.split_unless_first.new.steps
    (turn_first (direction_of w.systems) _ w.function first steps mid over turn).over c.in_ok-split.ensures).over.sizes

pub returns-in_err-joined : goal.returns-in_err-joined
returns-in_err-joined c =
    let w = c.args.word.now in
    let from = c.direction_of-from.ensures ∙ ap direction_of c.systems.ensures.value in
    let first = c.in_ok-first.first in
    let steps = c.args.steps.now in
    let mid = c.turned.new.steps in
    let fault = c.in_err-joined.field-0.0 in
    let p = err_from_is_err_and c.from_residual-in_err-joined.result c.from_residual-in_err-joined.ensures.1 in
    let turn = turn_is c.direction_of-from.result (direction_of w.systems) c.in_ok-old.old w.function steps mid (Ok first) from (c.in_ok-old.ensures ∙ c.function.ensures.value) c.in_ok-first.ensures in
    subst (λ (result : Result WordValue _). DoesConversion w (rc_value c.args.to.now) c.args.common steps result c.join_unless_first.new.steps) (sym (p.1 ∙ ap Err p.2))
    (inr (inl (first, mid, turn, inl (c.in_ok-split.split, c.split_unless_first.new.steps, c.in_ok-split.ensures, inr (fault, c.in_err-joined.ensures, refl)))))

pub returns-in_err-made : goal.returns-in_err-made
returns-in_err-made c =
    let w = c.args.word.now in
    let s = rc_value c.args.to.now in
    let from = c.direction_of-from.ensures ∙ ap direction_of c.systems.ensures.value in
    let to = c.direction-direction.ensures.value ∙ ap (λ (system : SystemValue). system.direction) c.as_ref.ensures in
    let first = c.in_ok-first.first in
    let joined = c.in_ok-joined.joined in
    let steps = c.args.steps.now in
    let mid = c.turned.new.steps in
    let third = c.join_unless_first.new.steps in
    let fault = c.in_err-made.field-0.0 in
    let p = err_from_is_err_and c.from_residual-in_err-made.result c.from_residual-in_err-made.ensures.1 in
    let turn = turn_is c.direction_of-from.result (direction_of w.systems) c.in_ok-old.old w.function steps mid (Ok first) from (c.in_ok-old.ensures ∙ c.function.ensures.value) c.in_ok-first.ensures in
    let last = turn_is c.direction-direction.result s.direction joined joined third c.turned-2.new.steps (Err fault) to refl c.in_err-made.ensures in
    subst (λ (result : Result WordValue _). DoesConversion w s c.args.common steps result c.turned-2.new.steps) (sym (p.1 ∙ ap Err p.2))
    (inr (inl (first, mid, turn, inl (c.in_ok-split.split, c.split_unless_first.new.steps, c.in_ok-split.ensures, inl (joined, third, c.in_ok-joined.ensures, last)))))

pub from_parts-requires : goal.from_parts-requires
from_parts-requires c =
    let w = c.args.word.now in
    let powers = powers_of c.args.word.now.systems (rc_value c.args.to.now) c.args.common c.requires in
    let s = rc_value c.args.to.now in
    let common = c.args.common in
    let from = c.direction_of-from.ensures ∙ ap direction_of c.systems.ensures.value in
    let to = c.direction-direction.ensures.value ∙ ap (λ (system : SystemValue). system.direction) c.as_ref.ensures in
    let first = c.in_ok-first.first in
    let joined = c.in_ok-joined.joined in
    let made = c.in_ok-made.made in
    let steps = c.args.steps.now in
    let mid = c.turned.new.steps in
    let third = c.join_unless_first.new.steps in
    let end = c.turned-2.new.steps in
    let turn = turn_is c.direction_of-from.result (direction_of w.systems) c.in_ok-old.old w.function steps mid (Ok first) from (c.in_ok-old.ensures ∙ c.function.ensures.value) c.in_ok-first.ensures in
    let last = turn_is c.direction-direction.result s.direction joined joined third end (Ok made) to refl c.in_ok-made.ensures in
    let done : DoesLetters (direction_of w.systems) common s.direction w.function steps (Ok made) end =
    inl (first, mid, turn, inl (c.in_ok-split.split, c.split_unless_first.new.steps, c.in_ok-split.ensures, inl (joined, third, c.in_ok-joined.ensures, last))) in
    let over = old_over c.rank_is_positional.ensures w c.systems.ensures.word s common powers in
    let kept = letters_kept (direction_of w.systems) s.direction common powers.root powers.old_power powers.new_power w.function made steps end over done in
    let one : map rc_value c.push.new.self.items ≡ s ∷ [] =
    ap (map rc_value) (c.in_ok-push.ensures.items ∙ ap (λ ys. ys ++ c.in_ok-clone.field-0 ∷ []) c.new-systems.ensures.items) ∙ ap (λ (system : SystemValue). system ∷ []) c.in_ok-clone.ensures.cases in
    let sealed : AllByRecursion IsSealed (s ∷ []) = subst (λ (ss : List SystemValue). AllByRecursion IsSealed ss) (ap (map rc_value) c.deref.ensures.value ∙ one) c.are_sealed.ensures in
    subst (λ (ss : List SystemValue). IsWordValue (record { systems = ss; function = made })) (sym one) (made_is_word c.rank_is_positional.ensures w c.systems.ensures.word s common powers made sealed kept.over)

pub returns : goal.returns
returns c =
    let w = c.args.word.now in
    let s = rc_value c.args.to.now in
    let from = c.direction_of-from.ensures ∙ ap direction_of c.systems.ensures.value in
    let to = c.direction-direction.ensures.value ∙ ap (λ (system : SystemValue). system.direction) c.as_ref.ensures in
    let first = c.in_ok-first.first in
    let joined = c.in_ok-joined.joined in
    let made = c.in_ok-made.made in
    let steps = c.args.steps.now in
    let mid = c.turned.new.steps in
    let third = c.join_unless_first.new.steps in
    let end = c.turned-2.new.steps in
    let turn = turn_is c.direction_of-from.result (direction_of w.systems) c.in_ok-old.old w.function steps mid (Ok first) from (c.in_ok-old.ensures ∙ c.function.ensures.value) c.in_ok-first.ensures in
    let last = turn_is c.direction-direction.result s.direction joined joined third end (Ok made) to refl c.in_ok-made.ensures in
    let done : DoesLetters (direction_of w.systems) c.args.common s.direction w.function steps (Ok made) end =
    inl (first, mid, turn, inl (c.in_ok-split.split, c.split_unless_first.new.steps, c.in_ok-split.ensures, inl (joined, third, c.in_ok-joined.ensures, last))) in
    let one : map rc_value c.push.new.self.items ≡ s ∷ [] =
    ap (map rc_value) (c.in_ok-push.ensures.items ∙ ap (λ ys. ys ++ c.in_ok-clone.field-0 ∷ []) c.new-systems.ensures.items) ∙ ap (λ (system : SystemValue). system ∷ []) c.in_ok-clone.ensures.cases in
    let function : c.from_parts.result.function ≡ made = ap (λ (v : WordValue). v.function) c.from_parts.ensures in (
      subst (λ (g : LetterFunctionValue). DoesLetters (direction_of w.systems) c.args.common s.direction w.function steps (Ok g) end) (sym function) done,
      ap (λ (v : WordValue). v.systems) c.from_parts.ensures ∙ one,
    )

pub split_unless_first-requires : goal.split_unless_first-requires
split_unless_first-requires c =
    let w = c.args.word.now in
    let powers = powers_of c.args.word.now.systems (rc_value c.args.to.now) c.args.common c.requires in
    let from = c.direction_of-from.ensures ∙ ap direction_of c.systems.ensures.value in
    let first = c.in_ok-first.first in
    let steps = c.args.steps.now in
    let mid = c.turned.new.steps in
    let turn = turn_is c.direction_of-from.result (direction_of w.systems) c.in_ok-old.old w.function steps mid (Ok first) from (c.in_ok-old.ensures ∙ c.function.ensures.value) c.in_ok-first.ensures in
    let over = old_over c.rank_is_positional.ensures w c.systems.ensures.word (rc_value c.args.to.now) c.args.common powers in
    record { root = powers.root; power = powers.old_power; base = (turn_first (direction_of w.systems) _ w.function first steps mid over turn).over.sizes }

pub join_unless_first-requires-clause-root : goal.join_unless_first-requires-clause-root
join_unless_first-requires-clause-root c = (powers_of c.args.word.now.systems (rc_value c.args.to.now) c.args.common c.requires).root

pub join_unless_first-requires-clause-power : goal.join_unless_first-requires-clause-power
join_unless_first-requires-clause-power c = (powers_of c.args.word.now.systems (rc_value c.args.to.now) c.args.common c.requires).new_power

pub join_unless_first-requires-clause-few : goal.join_unless_first-requires-clause-few
join_unless_first-requires-clause-few c =
    let powers = powers_of c.args.word.now.systems (rc_value c.args.to.now) c.args.common c.requires in
    omega (arith, powers.new_few)
