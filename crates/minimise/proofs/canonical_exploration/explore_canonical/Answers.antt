use Rattle.std.proofs.Common.{◌≡◌, sym, ap, ◌∙◌, subst}
use Rattle.digit_tuple.specs.Keys.{LeadAlike}
use Rattle.digit_tuple.specs.Letters.{product, IsWord}
use Rattle.digit_tuple.specs.Deterministic.{letters_of}
use Rattle.digit_tuple.specs.Width.{HasWidth}
use Rattle.minimise.proofs.KeySizes.{states_within_width}
use Rattle.std.proofs.lemmas.Result.{IfOk-from_err}
use Rattle.minimise.proofs.canonical_exploration.explore_canonical.Goals as goal

pub returns-clause-size : goal.returns-clause-size
returns-clause-size g c =
    let graph = c.args.graph.now in
    let after = g.G.KeyGraph.after graph in
    let start = g.G.KeyGraph.start graph in
    let d = c.in_ok-result.result in
    let e = c.in_ok-explored.explored.result in
    let same : letters_of d ≡ letters_of e = ap product c.in_ok-result.ensures.sizes in
    let letters : letters_of e ≡ g.G.KeyGraph.letters graph = ap product c.in_ok-explored.ensures.sizes ∙ sym c.requires.letters in
    states_within_width after (g.G.KeyGraph.accepts graph) start d c.in_ok-result.ensures.canonical
    (λ w over. let there = subst (λ n. IsWord n w) same over in sym (c.in_ok-result.ensures.language w there) ∙ c.in_ok-explored.ensures.language w (subst (λ n. IsWord n w) letters there))
    c.in_ok-explored.explored.width (subst (λ n. HasWidth (LeadAlike after start) n c.in_ok-explored.explored.width) (sym (same ∙ letters)) c.in_ok-explored.ensures.width)

pub explore-requires-clause-graph : goal.explore-requires-clause-graph
explore-requires-clause-graph g c = c.requires.graph

pub explore-requires-clause-letters : goal.explore-requires-clause-letters
explore-requires-clause-letters g c = c.requires.letters

pub returns-in_err-explored-clause-sizes : goal.returns-in_err-explored-clause-sizes
returns-in_err-explored-clause-sizes g c = IfOk-from_err c.from_residual.result _ c.from_residual.ensures.0

pub returns-in_err-explored-clause-canonical : goal.returns-in_err-explored-clause-canonical
returns-in_err-explored-clause-canonical g c = IfOk-from_err c.from_residual.result _ c.from_residual.ensures.0

pub returns-in_err-explored-clause-language : goal.returns-in_err-explored-clause-language
returns-in_err-explored-clause-language g c = IfOk-from_err c.from_residual.result _ c.from_residual.ensures.0

pub returns-in_err-explored-clause-width : goal.returns-in_err-explored-clause-width
returns-in_err-explored-clause-width g c = IfOk-from_err c.from_residual.result _ c.from_residual.ensures.0

pub returns-in_err-explored-clause-size : goal.returns-in_err-explored-clause-size
returns-in_err-explored-clause-size g c = IfOk-from_err c.from_residual.result _ c.from_residual.ensures.0

pub returns-in_err-explored-clause-within : goal.returns-in_err-explored-clause-within
returns-in_err-explored-clause-within g c = IfOk-from_err c.from_residual.result _ c.from_residual.ensures.0

pub returns-in_err-result-clause-sizes : goal.returns-in_err-result-clause-sizes
returns-in_err-result-clause-sizes g c = IfOk-from_err c.from_residual-in_err-result.result _ c.from_residual-in_err-result.ensures.0

pub returns-in_err-result-clause-canonical : goal.returns-in_err-result-clause-canonical
returns-in_err-result-clause-canonical g c = IfOk-from_err c.from_residual-in_err-result.result _ c.from_residual-in_err-result.ensures.0

pub returns-in_err-result-clause-language : goal.returns-in_err-result-clause-language
returns-in_err-result-clause-language g c = IfOk-from_err c.from_residual-in_err-result.result _ c.from_residual-in_err-result.ensures.0

pub returns-in_err-result-clause-width : goal.returns-in_err-result-clause-width
returns-in_err-result-clause-width g c = IfOk-from_err c.from_residual-in_err-result.result _ c.from_residual-in_err-result.ensures.0

pub returns-in_err-result-clause-size : goal.returns-in_err-result-clause-size
returns-in_err-result-clause-size g c = IfOk-from_err c.from_residual-in_err-result.result _ c.from_residual-in_err-result.ensures.0

pub returns-in_err-result-clause-within : goal.returns-in_err-result-clause-within
returns-in_err-result-clause-within g c = IfOk-from_err c.from_residual-in_err-result.result _ c.from_residual-in_err-result.ensures.0

pub canonical_of_numbered-requires : goal.canonical_of_numbered-requires
canonical_of_numbered-requires g c = c.in_ok-explored.ensures.numbered

pub returns-clause-sizes : goal.returns-clause-sizes
returns-clause-sizes g c = c.in_ok-result.ensures.sizes ∙ c.in_ok-explored.ensures.sizes

pub returns-clause-canonical : goal.returns-clause-canonical
returns-clause-canonical g c = c.in_ok-result.ensures.canonical

pub returns-clause-language : goal.returns-clause-language
returns-clause-language g c w over =
    sym (c.in_ok-result.ensures.language w (subst (λ n. IsWord n w) (sym (ap product c.in_ok-explored.ensures.sizes)) over))
    ∙ c.in_ok-explored.ensures.language w (subst (λ n. IsWord n w) (sym c.requires.letters) over)

pub returns-clause-width : goal.returns-clause-width
returns-clause-width g c =
    let graph = c.args.graph.now in
    subst (λ n. HasWidth (LeadAlike (g.G.KeyGraph.after graph) (g.G.KeyGraph.start graph)) n c.in_ok-explored.explored.width) c.requires.letters c.in_ok-explored.ensures.width

pub returns-clause-within : goal.returns-clause-within
returns-clause-within g c = c.in_ok-explored.ensures.within
