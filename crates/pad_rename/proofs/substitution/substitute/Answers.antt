use Rattle.std.proofs.Common.{◌≡◌, ◌<◌, length, sym, ap, ◌∙◌, subst}
use Rattle.std.specs.List.{All}
use Rattle.std.proofs.lemmas.Result.{IfOk-weaker}
use Rattle.digit_tuple.specs.Deterministic.{accepts_of}
use Rattle.digit_tuple.specs.Names.{places_of}
use Rattle.digit_tuple.specs.Letters.{product, IsWord}
use Rattle.digit_tuple.specs.Parts.{part, picked}
use Rattle.pad_rename.specs.Substitution.{sizes_under}
use Rattle.pad_rename.proofs.SubstitutionLemmas.{IsReadUnder-word, places_under, picked_under, word_under-only}
use Rattle.pad_rename.proofs.substitution.substitute.Goals as goal

pub read_parts-requires-clause-places : goal.read_parts-requires-clause-places
read_parts-requires-clause-places c =
    let made : c.in_ok-alphabet.alphabet ≡ sizes_under c.args.dfa.now.sizes c.args.under.now c.args.names.now = c.in_ok-alphabet.ensures.sizes ∙ ap (λ ss. sizes_under ss c.args.under.now c.args.names.now) c.alphabet.ensures.sizes in
    subst (λ ps. All (λ place. place < length c.in_ok-alphabet.alphabet) ps) (sym (c.deref.ensures.value ∙ c.in_ok-places.ensures))
    (subst (λ ss. All (λ place. place < length ss) (places_of c.args.names.now c.args.under.now)) (sym made) (places_under c.args.dfa.now.sizes c.args.under.now c.args.names.now c.requires))

pub read_parts-requires-clause-sizes : goal.read_parts-requires-clause-sizes
read_parts-requires-clause-sizes c =
    let made : c.in_ok-alphabet.alphabet ≡ sizes_under c.args.dfa.now.sizes c.args.under.now c.args.names.now = c.in_ok-alphabet.ensures.sizes ∙ ap (λ ss. sizes_under ss c.args.under.now c.args.names.now) c.alphabet.ensures.sizes in
    ap (λ ps. picked ps c.in_ok-alphabet.alphabet) (c.deref.ensures.value ∙ c.in_ok-places.ensures)
    ∙ ap (picked (places_of c.args.names.now c.args.under.now)) made
    ∙ picked_under c.args.dfa.now.sizes c.args.under.now c.args.names.now c.requires

pub returns-clause-language : goal.returns-clause-language
returns-clause-language c =
    let d = c.args.dfa.now in
    let under = c.args.under.now in
    let names = c.args.names.now in
    let made : c.in_ok-alphabet.alphabet ≡ sizes_under d.sizes under names = c.in_ok-alphabet.ensures.sizes ∙ ap (λ ss. sizes_under ss under names) c.alphabet.ensures.sizes in
    let places : c.deref.result.now ≡ places_of names under = c.deref.ensures.value ∙ c.in_ok-places.ensures in
    IfOk-weaker c.new.result _ _
    (λ tracked same w over.
    let inside : IsWord (product c.in_ok-alphabet.alphabet) w = subst (λ ss. IsWord (product ss) w) (sym made) over in
    sym (same w (subst (λ ss. IsWord (product ss) w) (sym c.in_ok-reader.ensures.sizes) inside))
    ∙ c.in_ok-reader.ensures.language w inside
    ∙ ap (λ ps. accepts_of d (part c.in_ok-alphabet.alphabet ps w)) places
    ∙ ap (λ ss. accepts_of d (part ss (places_of names under) w)) made)
    c.new.ensures.language

pub returns-clause-read : goal.returns-clause-read
returns-clause-read c =
    let d = c.args.dfa.now in
    let under = c.args.under.now in
    let names = c.args.names.now in
    let made : c.in_ok-alphabet.alphabet ≡ sizes_under d.sizes under names = c.in_ok-alphabet.ensures.sizes ∙ ap (λ ss. sizes_under ss under names) c.alphabet.ensures.sizes in
    let places : c.deref.result.now ≡ places_of names under = c.deref.ensures.value ∙ c.in_ok-places.ensures in
    IfOk-weaker c.new.result _ _
    (λ tracked same w x read.
    let inside : IsWord (product c.in_ok-alphabet.alphabet) w = subst (λ ss. IsWord (product ss) w) (sym made) read.of_names in
    sym (same w (subst (λ ss. IsWord (product ss) w) (sym c.in_ok-reader.ensures.sizes) inside))
    ∙ c.in_ok-reader.ensures.language w inside
    ∙ ap (λ ps. accepts_of d (part c.in_ok-alphabet.alphabet ps w)) places
    ∙ ap (λ ss. accepts_of d (part ss (places_of names under) w)) made
    ∙ ap (accepts_of d) (word_under-only d.sizes under names c.requires w x read))
    c.new.ensures.language

pub returns-clause-each_word : goal.returns-clause-each_word
returns-clause-each_word c =
    IfOk-weaker c.new.result _ _ (λ tracked any. IsReadUnder-word c.args.dfa.now.sizes c.args.under.now c.args.names.now c.requires) c.new.ensures.canonical
