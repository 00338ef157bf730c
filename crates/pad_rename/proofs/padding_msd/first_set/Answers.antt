use Rattle.std.proofs.Common.{◌≡◌, ℕ, List, ◌⊎◌, inl, inr, sym, ◌∙◌, subst, true≢false}
use Rattle.std.proofs.lemmas.Result.{IfOk-weaker}
use Rattle.digit_tuple.specs.Automaton.{Branching}
use Rattle.digit_tuple.specs.Deterministic.{states_of}
use Rattle.residual_classes.specs.Classes.{first_of}
use Rattle.pad_rename.specs.PaddedSets.{AreFirst}
use Rattle.pad_rename.specs.ZeroClosure.{AreAfterZeros}
use Rattle.pad_rename.proofs.NoWordLemmas.{dead_from_sink, sink_from_dead}
use Rattle.pad_rename.proofs.PaddedSetLemmas.{AreFirst-closure, AreFirst-none}
use Rattle.pad_rename.proofs.SinkLeads.{first_cases}
use Rattle.pad_rename.proofs.padding_msd.first_set.Goals as goal

pub returns-then-accepts_nothing : goal.returns-then-accepts_nothing
returns-then-accepts_nothing c =
    let d = c.args.a.now in
    let sink : first_of d ≡ states_of d = sink_from_dead d c.requires.canonical (c.accepts_nothing.ensures.0 c.if-accepts_nothing.true) in
    subst (λ (set : List ℕ). AreFirst d set) (sym c.new.ensures.items) (AreFirst-none d c.requires.canonical sink)

pub returns : goal.returns
returns c =
    let d = c.args.a.now in
    IfOk-weaker c.zero_closure.result _ _
    (λ set are. AreFirst-closure d c.requires.canonical set.items (by (first_cases d)) (subst (λ (n : Branching). AreAfterZeros n set.items) c.requires.same are))
    c.zero_closure.ensures
  where
    by : (first_of c.args.a.now ≡ states_of c.args.a.now) ⊎ (first_of c.args.a.now ≡ 0) → first_of c.args.a.now ≡ 0
    by (inl sink) = absurd (true≢false (sym (c.accepts_nothing.ensures.1 (dead_from_sink c.args.a.now sink)) ∙ c.if-accepts_nothing.false))
    by (inr is) = is
