use Rattle.std.proofs.Common.{◌≡◌, ◌+◌, ◌*◌, ◌^◌, ◌∷◌, [], ℕ, ℤ, ◌≤◌, get_or, Bool, List, Option, Err, sym, ap, ◌∙◌, subst, arith}
use Rattle.std.specs.Result.{IsErrOf}
use Rattle.std.proofs.lemmas.Result.{err_from_is_err_and}
use Rattle.digit_tuple.specs.Deterministic.{Automaton}
use Rattle.digit_tuple.specs.Explored.{IsExplored}
use Rattle.digit_tuple.specs.Keys.{LeadAlike}
use Rattle.digit_tuple.specs.Letters.{IsAlphabet, product, IsWord}
use Rattle.digit_tuple.specs.Width.{HasApart, HasWidth}
use Rattle.digit_tuple.specs.declared.faults.OpFault.TheVariants.{States}
use Rattle.digit_tuple.proofs.WidthLemmas.{HasApart-same, HasWidth-same}
use Rattle.residual_classes.specs.Classes.{first_of}
use Rattle.word_output.specs.StateLetters.{letter_led}
use Rattle.base_change.specs.GroupKeys.{IsGroupKey, split_after}
use Rattle.base_change.specs.Splits.{SplitAlike}
use Rattle.base_change.proofs.GroupLemmas.{letters_few, root_alphabet}
use Rattle.base_change.proofs.SplitLemmas.{alike_from_leads, leads_from_alike, letters-split}
use Rattle.base_change.proofs.split.split.Goals as goal

pub returns-in_err-result-clause-states : goal.returns-in_err-result-clause-states
returns-in_err-result-clause-states c refused =
    let f = c.args.function.now in
    let r = c.args.root in
    let b = c.args.digits in
    let out = err_from_is_err_and c.from_residual-in_err-result.result c.from_residual-in_err-result.ensures.1 in
    let same : c.from_residual-in_err-result.result ≡ Err c.in_err-result.field-0.0 = out.1 ∙ ap Err out.2 in
    let wrong : c.from_residual-in_err-result.result ≡ Err States = refused in
    let is_states : c.in_err-result.field-0.0 ≡ States = cc in
    let fault : IsErrOf c.explore_keys.result States = c.in_err-result.was ∙ ap Err is_states in
    let base : 1 ≤ r = omega arith in
    HasApart-same (LeadAlike (split_after f.automaton r b) (first_of f.automaton ∷ [])) (SplitAlike r b f) (product (r ∷ [])) (c.args.limit.most + 1)
    (leads_from_alike f c.dfa-dfa.ensures.function r b base c.requires.digits c.requires.base)
    (subst (λ (x : Automaton). HasApart (LeadAlike (split_after x r b) (first_of x ∷ [])) (product (r ∷ [])) (c.args.limit.most + 1)) c.dfa-dfa.ensures.value
    (subst (λ n. HasApart (LeadAlike (split_after c.dfa-dfa.result.now r b) (first_of c.dfa-dfa.result.now ∷ [])) n (c.args.limit.most + 1)) (let unit : r ≡ r * 1 = omega arith in unit) (c.explore_keys.ensures.states fault)))

pub returns-clause-split : goal.returns-clause-split
returns-clause-split c =
    let f = c.args.function.now in
    let r = c.args.root in
    let b = c.args.digits in
    let is = c.dfa-dfa.ensures.function in
    let e = c.in_ok-result.field-0.result.dfa in
    let keys = c.in_ok-result.field-0.result.keys in
    let base : 1 ≤ r = omega arith in
    let sizes : e.sizes ≡ r ∷ [] = c.in_ok-result.ensures.sizes ∙ c.in_ok-alphabet.ensures in
    let at : (accepts : List ℕ → Bool) × IsExplored r (first_of c.dfa-dfa.result.now ∷ []) (split_after c.dfa-dfa.result.now r b) accepts keys e = (_, c.in_ok-result.ensures.explored) in
    let found = subst (λ (x : Automaton). (accepts : List ℕ → Bool) × IsExplored r (first_of x ∷ []) (split_after x r b) accepts keys e) c.dfa-dfa.ensures.value at in
    record {
      sizes = c.in_ok-result-2.ensures.sizes ∙ sizes;
      function = c.in_ok-result-2.ensures.function;
      letters = λ w v more over there padded few.
          c.in_ok-result-2.ensures.letters w (subst (λ (ss : List ℕ). IsWord (product ss) w) (sym sizes) (subst (λ n. IsWord n w) (let unit : r ≡ r * 1 = omega arith in unit) over))
          ∙ ap (λ (ls : List (Option ℤ)). letter_led e ls w) (c.deref.ensures.value ∙ c.in_ok-letters.ensures)
          ∙ letters-split f is r b base c.requires.digits c.requires.base r found.0 keys e found.1 c.in_ok-result.ensures.table.initial w v more over there padded few;
    }

pub returns-clause-width : goal.returns-clause-width
returns-clause-width c =
    let f = c.args.function.now in
    let r = c.args.root in
    let b = c.args.digits in
    let width = c.in_ok-result.field-0.width in
    let base : 1 ≤ r = omega arith in
    HasWidth-same (LeadAlike (split_after f.automaton r b) (first_of f.automaton ∷ [])) (SplitAlike r b f) (product (r ∷ [])) width
    (alike_from_leads f c.dfa-dfa.ensures.function r b base c.requires.digits c.requires.base)
    (leads_from_alike f c.dfa-dfa.ensures.function r b base c.requires.digits c.requires.base)
    (subst (λ (x : Automaton). HasWidth (LeadAlike (split_after x r b) (first_of x ∷ [])) (product (r ∷ [])) width) c.dfa-dfa.ensures.value
    (subst (λ n. HasWidth (LeadAlike (split_after c.dfa-dfa.result.now r b) (first_of c.dfa-dfa.result.now ∷ [])) n width) (let unit : r ≡ r * 1 = omega arith in unit) c.in_ok-result.ensures.width))

pub key_letters-requires : goal.key_letters-requires
key_letters-requires c =
    let base : 1 ≤ c.args.root = omega arith in
    let few = letters_few (c.args.root ^ c.args.digits) (subst IsAlphabet (c.alphabet.ensures.sizes ∙ ap (λ (d : Automaton). d.sizes) c.dfa-dfa.ensures.value ∙ c.requires.base) c.tracks.ensures.alphabet) in
    (c.args.digits, base, few, λ k z within. subst (λ (x : Automaton). IsGroupKey x c.args.root c.args.digits (get_or c.in_ok-result.field-0.result.keys k z)) c.dfa-dfa.ensures.value (c.in_ok-result.ensures.keys k z within))

pub fitting-requires : goal.fitting-requires
fitting-requires c =
    root_alphabet c.args.root c.args.digits c.requires.root c.requires.digits
    (subst IsAlphabet (c.alphabet.ensures.sizes ∙ ap (λ (d : Automaton). d.sizes) c.dfa-dfa.ensures.value ∙ c.requires.base) c.tracks.ensures.alphabet)
