use Rattle.std.proofs.Common.{◌≡◌, ℕ, List, [], ◌∷◌, ◌++◌, get_or, take, refl, sym, ap, ◌∙◌}
use Rattle.std.proofs.lemmas.List.{take_all, take_more}
use Rattle.residual_classes.specs.Classes.{first_of}
use Rattle.product_op.specs.declared.reader.Reader.{Reader}
use Rattle.product_op.specs.Readings.{first_key, readings_in}
use Rattle.product_op.proofs.reader_states.initial_states.Goals as goal

-- one reader more
first_key-more : (readers : List Reader) (r : Reader) → first_key (readings_in (readers ++ r ∷ [])) ≡ first_key (readings_in readers) ++ first_of r.dfa.now ∷ []
first_key-more [] r = refl
first_key-more (x ∷ readers) r = ap (λ key. first_of x.dfa.now ∷ key) (first_key-more readers r)

pub loop-reader-preserved : goal.loop-reader-preserved
loop-reader-preserved c =
    let readers = c.args.readers.now in
    let place = c.loop-reader.reader-index in
    let other = c.reader-item.result in
    c.in_ok-push.ensures.items ∙ ap (λ (key : List ℕ). key ++ c.first.result ∷ []) c.loop-reader.invariant
    ∙ ap (λ (state : ℕ). first_key (readings_in (take place readers)) ++ state ∷ []) c.first.ensures
    ∙ ap (λ (r : Reader). first_key (readings_in (take place readers)) ++ first_of r.dfa.now ∷ []) c.reader-item.is
    ∙ sym (ap (λ (some : List Reader). first_key (readings_in some)) (take_more readers place other c.loop-reader-test.true) ∙ first_key-more (take place readers) (get_or readers place other))

pub returns : goal.returns
returns c = c.loop-reader.invariant ∙ ap (λ (some : List Reader). first_key (readings_in some)) (take_all c.loop-reader.reader-index c.args.readers.now c.loop-reader-test.false)
