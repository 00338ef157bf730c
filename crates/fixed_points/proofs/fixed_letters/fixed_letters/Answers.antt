use Rattle.std.proofs.Common.{◌≡◌, ◌+◌, ◌*◌, ◌<◌, ℕ, ℤ, [], ◌∷◌, List, length, Option, Err, sym, ap, ◌∙◌, subst, arith}
use Rattle.std.specs.Result.{IsErrOf}
use Rattle.std.proofs.lemmas.Result.{err_from_is_err_and}
use Rattle.digit_tuple.specs.Deterministic.{letters_of}
use Rattle.digit_tuple.specs.Letters.{IsWord, product}
use Rattle.digit_tuple.specs.declared.faults.OpFault.TheVariants.{States}
use Rattle.word_output.specs.StateLetters.{letter_led}
use Rattle.morph_words.specs.Rules.{IsMorphism, Rules}
use Rattle.fixed_points.specs.LetterGraph.{IsLetterGraph, accepts_all}
use Rattle.morph_words.specs.MorphismKinds.{HasFixedPoint}
use Rattle.fixed_points.proofs.ReachedLemmas.{place_apart, place_width}
use Rattle.morph_words.proofs.RuleLemmas.{bits_back}
use Rattle.base_k.proofs.BaseAlphabets.{one_fits}
use Rattle.fixed_points.proofs.WordLemmas.{letter_reached, one_alphabet}
use Rattle.fixed_points.proofs.fixed_letters.fixed_letters.Goals as goal

graph_of : (rules : Rules) (k : ℕ) → IsMorphism rules → HasFixedPoint rules k → IsLetterGraph rules k
graph_of rules k is has = record { has = has; letter_back = λ letter ruled. bits_back rules letter is ruled }

one_times : (k : ℕ) → k * 1 ≡ k
one_times k = omega arith

pub fitting-requires : goal.fitting-requires
fitting-requires c = one_fits c.args.base c.requires.base.1

pub explore_keys-requires-clause-graph : goal.explore_keys-requires-clause-graph
explore_keys-requires-clause-graph c = graph_of c.args.morphism.now c.args.base c.image-image.ensures.morphism c.requires

pub explore_keys-requires-clause-letters : goal.explore_keys-requires-clause-letters
explore_keys-requires-clause-letters c = sym (ap product c.in_ok-alphabet.ensures ∙ one_times c.args.base)

pub letters_at-requires : goal.letters_at-requires
letters_at-requires c = λ i d within.
    let is = c.in_ok-result.ensures.keys i d within in
    subst (λ (key : List ℕ). 0 < length key) (sym is.key_is) (omega arith)

pub returns-in_err-result-clause-states : goal.returns-in_err-result-clause-states
returns-in_err-result-clause-states c refused =
    let out = err_from_is_err_and c.from_residual-in_err-result.result c.from_residual-in_err-result.ensures.1 in
    let same : c.from_residual-in_err-result.result ≡ Err c.in_err-result.field-0.0 = out.1 ∙ ap Err out.2 in
    let wrong : c.from_residual-in_err-result.result ≡ Err States = refused in
    let is_states : c.in_err-result.field-0.0 ≡ States = cc in
    let fault : IsErrOf c.explore_keys.result States = c.in_err-result.was ∙ ap Err is_states in
    record {
      alphabet = one_alphabet c.args.base c.requires.base.1;
      apart = place_apart c.args.morphism.now c.args.base (graph_of c.args.morphism.now c.args.base c.image-image.ensures.morphism c.requires) (c.args.limit.most + 1) (c.explore_keys.ensures.states fault);
    }

pub returns-clause-sizes : goal.returns-clause-sizes
returns-clause-sizes c = c.in_ok-function.ensures.sizes ∙ c.in_ok-result.ensures.sizes ∙ c.in_ok-alphabet.ensures

pub returns-clause-letters : goal.returns-clause-letters
returns-clause-letters c = λ w over.
    let dfa = c.in_ok-result.field-0.result.dfa in
    let sizes : dfa.sizes ≡ c.args.base ∷ [] = c.in_ok-result.ensures.sizes ∙ c.in_ok-alphabet.ensures in
    let letters : letters_of dfa ≡ c.args.base = ap product sizes ∙ one_times c.args.base in
    c.in_ok-function.ensures.letters w (subst (λ n. IsWord n w) (sym letters) over)
    ∙ ap (λ (ls : List (Option ℤ)). letter_led dfa ls w) (c.deref.ensures.value ∙ c.in_ok-letters.ensures)
    ∙ letter_reached c.args.morphism.now c.args.base (graph_of c.args.morphism.now c.args.base c.image-image.ensures.morphism c.requires) accepts_all c.in_ok-result.field-0.result.keys dfa
    c.in_ok-result.ensures.explored c.in_ok-result.ensures.table.initial w over

pub returns-clause-width : goal.returns-clause-width
returns-clause-width c =
    place_width c.args.morphism.now c.args.base (graph_of c.args.morphism.now c.args.base c.image-image.ensures.morphism c.requires) c.in_ok-result.field-0.width c.in_ok-result.ensures.width
