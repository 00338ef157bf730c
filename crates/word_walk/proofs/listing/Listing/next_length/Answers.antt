use Rattle.std.proofs.Common.{◌≡◌, ◌+◌, ◌<◌, ◌≤◌, ℕ, false, sym, ◌∙◌, subst, arith}
use Rattle.digit_tuple.specs.Deterministic.{Automaton}
use Rattle.word_walk.specs.Lengths.{HasNoLength}
use Rattle.word_walk.specs.Levels.{lives}
use Rattle.word_walk.proofs.LengthLemmas.{HasNoLength-empty, HasNoLength-states}
use Rattle.word_walk.proofs.listing.Listing.next_length.Goals as goal

pub returns-then-is_empty-clause-size : goal.returns-then-is_empty-clause-size
returns-then-is_empty-clause-size c =
    let d : Automaton = c.lives.new.self.dfa in
    let least : ℕ = c.args.least in
    let m : ℕ = least + c.loop-more.more in
    let same = c.in_ok-lives.ensures.same in
    let before : (k : ℕ) → least ≤ k → k < m → lives d k 0 ≡ false = λ k enough less. subst (λ (x : Automaton). lives x k 0 ≡ false) (sym same) (c.loop-more.invariant.none k enough less) in
    subst (λ (x : Automaton). HasNoLength x least) (same ∙ c.loop-more.invariant.same) (HasNoLength-empty d c.lives.new.self.is_table least m before (c.is_empty.ensures c.if-is_empty.true))

pub returns-clause-size : goal.returns-clause-size
returns-clause-size c =
    let d : Automaton = c.args.self.now.dfa in
    let least : ℕ = c.args.least in
    HasNoLength-states d c.args.self.now.is_table least
    (λ k enough less. subst (λ (x : Automaton). lives x k 0 ≡ false) c.loop-more.invariant.same
    (c.loop-more.invariant.none k enough (omega (arith, less, c.loop-more-test.false, c.loop-more.auto.more-end, c.states-more-end.ensures.value))))
