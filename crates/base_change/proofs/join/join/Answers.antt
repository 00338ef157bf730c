use Rattle.std.proofs.Common.{◌≡◌, ◌+◌, ◌*◌, ◌^◌, ◌∷◌, [], ℕ, ℤ, ◌≤◌, get_or, Bool, List, Option, Err, sym, ap, ◌∙◌, subst, arith}
use Rattle.std.specs.Result.{IsErrOf}
use Rattle.std.proofs.lemmas.Result.{err_from_is_err_and}
use Rattle.digit_tuple.specs.Deterministic.{Automaton}
use Rattle.digit_tuple.specs.Explored.{IsExplored}
use Rattle.digit_tuple.specs.Keys.{LeadAlike}
use Rattle.digit_tuple.specs.Letters.{IsAlphabet, product, IsWord}
use Rattle.digit_tuple.specs.Width.{HasApart, HasWidth}
use Rattle.digit_tuple.specs.declared.faults.OpFault.TheVariants.{States}
use Rattle.digit_tuple.proofs.WidthLemmas.{HasApart-same, HasWidth-same}
use Rattle.residual_classes.specs.Classes.{first_of}
use Rattle.word_output.specs.StateLetters.{letter_led}
use Rattle.base_change.specs.GroupKeys.{IsGroupKey, join_after}
use Rattle.base_change.specs.Joins.{JoinAlike}
use Rattle.base_change.proofs.GroupLemmas.{letters_few}
use Rattle.base_change.proofs.JoinLemmas.{alike_from_leads, leads_from_alike, letters-join}
use Rattle.base_change.proofs.RootLemmas.{first_power}
use Rattle.base_change.proofs.join.join.Goals as goal

pub returns-in_err-result-clause-states : goal.returns-in_err-result-clause-states
returns-in_err-result-clause-states c refused =
    let f = c.args.function.now in
    let r = c.args.root in
    let b = c.args.digits in
    let out = err_from_is_err_and c.from_residual-in_err-result.result c.from_residual-in_err-result.ensures.1 in
    let same : c.from_residual-in_err-result.result ≡ Err c.in_err-result.field-0.0 = out.1 ∙ ap Err out.2 in
    let wrong : c.from_residual-in_err-result.result ≡ Err States = refused in
    let is_states : c.in_err-result.field-0.0 ≡ States = cc in
    let fault : IsErrOf c.explore_keys.result States = c.in_err-result.was ∙ ap Err is_states in
    let base : 1 ≤ r = omega arith in
    HasApart-same (LeadAlike (join_after f.automaton r b) (first_of f.automaton ∷ [])) (JoinAlike r b f) (product (r ^ b ∷ [])) (c.args.limit.most + 1)
    (λ w v over there. leads_from_alike f c.dfa-dfa.ensures.function r b base c.requires.base w v)
    (subst (λ (x : Automaton). HasApart (LeadAlike (join_after x r b) (first_of x ∷ [])) (product (r ^ b ∷ [])) (c.args.limit.most + 1)) c.dfa-dfa.ensures.value
    (subst (λ n. HasApart (LeadAlike (join_after c.dfa-dfa.result.now r b) (first_of c.dfa-dfa.result.now ∷ [])) n (c.args.limit.most + 1)) (c.power_of-letters.ensures ∙ (let unit : r ^ b ≡ r ^ b * 1 = omega arith in unit)) (c.explore_keys.ensures.states fault)))

pub returns-clause-join : goal.returns-clause-join
returns-clause-join c =
    let f = c.args.function.now in
    let r = c.args.root in
    let b = c.args.digits in
    let is = c.dfa-dfa.ensures.function in
    let e = c.in_ok-result.field-0.result.dfa in
    let keys = c.in_ok-result.field-0.result.keys in
    let base : 1 ≤ r = omega arith in
    let sizes : e.sizes ≡ r ^ b ∷ [] = c.in_ok-result.ensures.sizes ∙ c.in_ok-alphabet.ensures ∙ ap (λ n. n ∷ []) c.power_of-letters.ensures in
    let at : (accepts : List ℕ → Bool) × IsExplored c.power_of-letters.result (first_of c.dfa-dfa.result.now ∷ []) (join_after c.dfa-dfa.result.now r b) accepts keys e = (_, c.in_ok-result.ensures.explored) in
    let found = subst (λ (x : Automaton). (accepts : List ℕ → Bool) × IsExplored c.power_of-letters.result (first_of x ∷ []) (join_after x r b) accepts keys e) c.dfa-dfa.ensures.value at in
    record {
      sizes = c.in_ok-result-2.ensures.sizes ∙ sizes;
      function = c.in_ok-result-2.ensures.function;
      letters = λ w over.
          c.in_ok-result-2.ensures.letters w (subst (λ (ss : List ℕ). IsWord (product ss) w) (sym sizes) (subst (λ n. IsWord n w) (let unit : r ^ b ≡ r ^ b * 1 = omega arith in unit) over))
          ∙ ap (λ (ls : List (Option ℤ)). letter_led e ls w) (c.deref.ensures.value ∙ c.in_ok-letters.ensures)
          ∙ letters-join f is r b base c.requires.base c.power_of-letters.result found.0 keys e found.1 c.in_ok-result.ensures.table.initial w (subst (λ n. IsWord n w) (sym c.power_of-letters.ensures) over);
    }

pub returns-clause-width : goal.returns-clause-width
returns-clause-width c =
    let f = c.args.function.now in
    let r = c.args.root in
    let b = c.args.digits in
    let width = c.in_ok-result.field-0.width in
    let base : 1 ≤ r = omega arith in
    HasWidth-same (LeadAlike (join_after f.automaton r b) (first_of f.automaton ∷ [])) (JoinAlike r b f) (product (r ^ b ∷ [])) width
    (λ w v over there. alike_from_leads f c.dfa-dfa.ensures.function r b base c.requires.base w v)
    (λ w v over there. leads_from_alike f c.dfa-dfa.ensures.function r b base c.requires.base w v)
    (subst (λ (x : Automaton). HasWidth (LeadAlike (join_after x r b) (first_of x ∷ [])) (product (r ^ b ∷ [])) width) c.dfa-dfa.ensures.value
    (subst (λ n. HasWidth (LeadAlike (join_after c.dfa-dfa.result.now r b) (first_of c.dfa-dfa.result.now ∷ [])) n width) (c.power_of-letters.ensures ∙ (let unit : r ^ b ≡ r ^ b * 1 = omega arith in unit)) c.in_ok-result.ensures.width))

pub key_letters-requires : goal.key_letters-requires
key_letters-requires c =
    let base : 1 ≤ c.args.root = omega arith in
    let small = letters_few c.args.root (subst IsAlphabet (c.alphabet.ensures.sizes ∙ ap (λ (d : Automaton). d.sizes) c.dfa-dfa.ensures.value ∙ c.requires.base) c.tracks.ensures.alphabet) in
    let few : c.args.root ^ 1 ≤ 65536 = omega (arith, small, first_power c.args.root) in
    (1, base, few, λ k z within. subst (λ (x : Automaton). IsGroupKey x c.args.root 1 (get_or c.in_ok-result.field-0.result.keys k z)) c.dfa-dfa.ensures.value (c.in_ok-result.ensures.keys k z within))
