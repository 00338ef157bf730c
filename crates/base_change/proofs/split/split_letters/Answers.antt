use Rattle.std.proofs.Common.{◌≡◌, ◌+◌, ◌∷◌, [], Err, refl, ap, ◌∙◌, subst}
use Rattle.std.specs.Result.{IsErrOf}
use Rattle.digit_tuple.specs.Deterministic.{Automaton}
use Rattle.digit_tuple.specs.Letters.{IsAlphabet, product}
use Rattle.digit_tuple.specs.Width.{HasApart}
use Rattle.digit_tuple.specs.declared.faults.OpFault.TheVariants.{States}
use Rattle.base_change.specs.Splits.{SplitAlike}
use Rattle.base_change.proofs.GroupLemmas.{root_alphabet}
use Rattle.base_change.proofs.split.split_letters.Goals as goal

pub returns-in-Err-States : goal.returns-in-Err-States
returns-in-Err-States c =
    let r = c.args.root in
    let b = c.args.digits in
    let is_states : c.in-Err-States.field-0 ≡ States = c.in-Err-States.field-0-is in
    let fault : IsErrOf c.split.result States = c.in-Err-States.is ∙ ap Err is_states in
    let limit : c.begin.result.most + 1 ≡ c.args.steps.now.limit + 1 = ap (λ n. n + 1) c.begin.ensures in
    let alphabet = root_alphabet r b c.requires.root c.requires.digits (subst IsAlphabet (c.alphabet.ensures.sizes ∙ ap (λ (d : Automaton). d.sizes) c.dfa.ensures.value ∙ c.requires.base) c.tracks.ensures.alphabet) in
    ((c.next_number.ensures, record { alphabet = alphabet; apart = subst (HasApart (SplitAlike r b c.args.function.now) (product (r ∷ []))) limit (c.split.ensures.states fault) }), refl)
