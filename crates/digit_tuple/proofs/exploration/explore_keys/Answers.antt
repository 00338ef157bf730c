use Rattle.std.proofs.Common.{rules, ◌≡◌, ◌+◌, ◌<◌, ◌^◌, ℕ, Bool, Option, List, [], ◌∷◌, length, if◌then◌else◌, sym, ap, ◌∙◌, subst, arith}
use Rattle.digit_tuple.specs.Deterministic.{Automaton, IsTable, accepts_of}
use Rattle.digit_tuple.specs.FirstWords.{IsNumberedByFirsts}
use Rattle.digit_tuple.specs.Letters.{product, IsWord}
use Rattle.digit_tuple.specs.Width.{HasApart, HasWidth}
use Rattle.digit_tuple.specs.Keys.{LeadAlike, key_accepts}
use Rattle.digit_tuple.specs.Explored.{IsExplored}
use Rattle.digit_tuple.specs.Exploring.{IsExploring}
use Rattle.digit_tuple.proofs.FrontierLemmas.{IsFrontier-start}
use Rattle.digit_tuple.proofs.ExploredLemmas.{HasApart-firsts, IsTable-explored, IsExplored-done, IsNumberedByFirsts-done, HasWidth-done, accepts_of-explored}
use Rattle.digit_tuple.proofs.exploration.explore_keys.Goals as goal

pub returns-then-limit-eq0-clause-states : goal.returns-then-limit-eq0-clause-states
returns-then-limit-eq0-clause-states g c h =
    let s = c.args.graph.now in
    let one : HasApart (LeadAlike (g.G.KeyGraph.after s) (g.G.KeyGraph.start s)) (g.G.KeyGraph.letters s) 1 =
    HasApart-firsts (g.G.KeyGraph.letters s) (g.G.KeyGraph.start s) (g.G.KeyGraph.after s) (g.G.KeyGraph.start s ∷ []) ([] ∷ []) 0 0 (IsFrontier-start (g.G.KeyGraph.letters s) (g.G.KeyGraph.start s) (g.G.KeyGraph.after s)) in
    let count : 1 ≡ c.args.limit.most + 1 = omega arith in
    subst (HasApart (LeadAlike (g.G.KeyGraph.after s) (g.G.KeyGraph.start s)) (g.G.KeyGraph.letters s)) count one

pub add_states-requires-clause-letters : goal.add_states-requires-clause-letters
add_states-requires-clause-letters g c = omega (arith, c.letters-letters.ensures.value, c.requires.letters)

pub add_states-requires-clause-alphabet : goal.add_states-requires-clause-alphabet
add_states-requires-clause-alphabet g c = ap (λ (d : Automaton). product d.sizes) c.in_ok-states.ensures ∙ sym c.requires.letters

pub add_states-requires-clause-states : goal.add_states-requires-clause-states
add_states-requires-clause-states g c = ap (λ (d : Automaton). d.states) c.in_ok-states.ensures

pub add_states-requires-clause-graph : goal.add_states-requires-clause-graph
add_states-requires-clause-graph g c = c.requires.graph

pub add_states-requires-clause-some : goal.add_states-requires-clause-some
add_states-requires-clause-some g c = omega (arith, c.if-limit-eq0.false)

pub add_states-requires-clause-keys : goal.add_states-requires-clause-keys
add_states-requires-clause-keys g c = c.in_ok-keys.ensures

-- the table is whole, over the letters of its alphabet
whole : (letters : ℕ) (start : List ℕ) (after : List ℕ → ℕ → Option (List ℕ)) (accepts : List ℕ → Bool) (keys : List (List ℕ)) (d : Automaton) (gap : Bool)
    → letters ≡ product d.sizes → IsExploring letters start after accepts keys d.states gap → length d.states ≡ length keys → length keys < 2 ^ 32 → IsTable (product d.sizes) d.states
whole letters start after accepts keys d gap same exploring done small = subst (λ n. IsTable n d.states) same (IsTable-explored letters start after accepts keys d gap exploring done (omega (arith, done, small)))

pub finish-dfa-requires : goal.finish-dfa-requires
finish-dfa-requires g c =
    let s = c.args.graph.now in
    let e = c.in_ok-gap.ensures in
    whole (g.G.KeyGraph.letters s) (g.G.KeyGraph.start s) (g.G.KeyGraph.after s) (g.G.KeyGraph.accepts s) c.add_states.new.keys c.add_states.new.states c.in_ok-gap.gap
    (c.requires.letters ∙ sym (ap product (e.sizes ∙ ap (λ (a : Automaton). a.sizes) c.in_ok-states.ensures))) e.exploring e.done (omega (arith, e.within))

pub overflow_cast-width : goal.overflow_cast-width
overflow_cast-width g c = omega (arith, c.len.ensures.len, c.in_ok-gap.ensures.within)

pub overflow_add-width : goal.overflow_add-width
overflow_add-width g c =
    let one : c.from.result ≡ (if c.in_ok-gap.gap then 1 else 0) = search rules in
    omega (arith, one, c.len.ensures.len, c.in_ok-gap.ensures.within)

pub returns-in_err-gap-clause-states : goal.returns-in_err-gap-clause-states
returns-in_err-gap-clause-states g c h = search rules

pub returns-clause-table : goal.returns-clause-table
returns-clause-table g c =
    let s = c.args.graph.now in
    let e = c.in_ok-gap.ensures in
    subst (λ (d : Automaton). IsTable (product d.sizes) d.states) (sym c.finish-dfa.ensures)
    (whole (g.G.KeyGraph.letters s) (g.G.KeyGraph.start s) (g.G.KeyGraph.after s) (g.G.KeyGraph.accepts s) c.add_states.new.keys c.add_states.new.states c.in_ok-gap.gap
    (c.requires.letters ∙ sym (ap product (e.sizes ∙ ap (λ (a : Automaton). a.sizes) c.in_ok-states.ensures))) e.exploring e.done (omega (arith, e.within)))

pub returns-clause-size : goal.returns-clause-size
returns-clause-size g c = omega (arith, ap (λ (d : Automaton). length d.states) c.finish-dfa.ensures, c.in_ok-gap.ensures.done, c.len.ensures.len)

pub returns-clause-within : goal.returns-clause-within
returns-clause-within g c =
    let one : c.from.result ≡ (if c.in_ok-gap.gap then 1 else 0) = search rules in
    omega (arith, one, c.len.ensures.len, c.in_ok-gap.ensures.within)

pub returns-clause-sizes : goal.returns-clause-sizes
returns-clause-sizes g c = ap (λ (d : Automaton). d.sizes) c.finish-dfa.ensures ∙ c.in_ok-gap.ensures.sizes ∙ ap (λ (d : Automaton). d.sizes) c.in_ok-states.ensures

pub returns-clause-explored : goal.returns-clause-explored
returns-clause-explored g c =
    let s = c.args.graph.now in
    let d : Automaton = c.add_states.new.states in
    let e = c.in_ok-gap.ensures in
    subst (IsExplored (g.G.KeyGraph.letters s) (g.G.KeyGraph.start s) (g.G.KeyGraph.after s) (g.G.KeyGraph.accepts s) c.add_states.new.keys) (sym c.finish-dfa.ensures)
    (IsExplored-done (g.G.KeyGraph.letters s) (g.G.KeyGraph.start s) (g.G.KeyGraph.after s) (g.G.KeyGraph.accepts s) c.add_states.new.keys d c.in_ok-gap.gap e.exploring e.done)

pub returns-clause-keys : goal.returns-clause-keys
returns-clause-keys g c = c.in_ok-gap.ensures.keys

pub returns-clause-numbered : goal.returns-clause-numbered
returns-clause-numbered g c =
    let s = c.args.graph.now in
    let d : Automaton = c.add_states.new.states in
    let e = c.in_ok-gap.ensures in
    let sizes = e.sizes ∙ ap (λ (a : Automaton). a.sizes) c.in_ok-states.ensures in (
      e.exploring.firsts,
      subst (λ (d : Automaton). IsNumberedByFirsts d e.exploring.firsts) (sym c.finish-dfa.ensures)
          (IsNumberedByFirsts-done (g.G.KeyGraph.letters s) (g.G.KeyGraph.start s) (g.G.KeyGraph.after s) (g.G.KeyGraph.accepts s) c.add_states.new.keys d c.in_ok-gap.gap e.exploring e.done (c.requires.letters ∙ sym (ap product sizes))),
    )

pub returns-clause-language : goal.returns-clause-language
returns-clause-language g c =
    let s = c.args.graph.now in
    let d : Automaton = c.add_states.new.states in
    let e = c.in_ok-gap.ensures in
    let explored = IsExplored-done (g.G.KeyGraph.letters s) (g.G.KeyGraph.start s) (g.G.KeyGraph.after s) (g.G.KeyGraph.accepts s) c.add_states.new.keys d c.in_ok-gap.gap e.exploring e.done in
    subst (λ (d : Automaton). (word : List ℕ) → IsWord (g.G.KeyGraph.letters s) word → accepts_of d word ≡ key_accepts (g.G.KeyGraph.after s) (g.G.KeyGraph.accepts s) (g.G.KeyGraph.start s) word) (sym c.finish-dfa.ensures)
    (accepts_of-explored (g.G.KeyGraph.letters s) (g.G.KeyGraph.start s) (g.G.KeyGraph.after s) (g.G.KeyGraph.accepts s) c.add_states.new.keys d explored (omega (arith, e.exploring.frontier.positive, e.done)))

pub returns-clause-width : goal.returns-clause-width
returns-clause-width g c =
    let s = c.args.graph.now in
    let d : Automaton = c.add_states.new.states in
    let e = c.in_ok-gap.ensures in
    let wide = HasWidth-done (g.G.KeyGraph.letters s) (g.G.KeyGraph.start s) (g.G.KeyGraph.after s) (g.G.KeyGraph.accepts s) c.add_states.new.keys d c.in_ok-gap.gap e.exploring e.done in
    let one : c.from.result ≡ (if c.in_ok-gap.gap then 1 else 0) = search rules in
    let width : length c.add_states.new.keys + (if c.in_ok-gap.gap then 1 else 0) ≡ c.len.result + c.from.result = omega (arith, one, c.len.ensures.len) in
    subst (HasWidth (LeadAlike (g.G.KeyGraph.after s) (g.G.KeyGraph.start s)) (g.G.KeyGraph.letters s)) width wide
