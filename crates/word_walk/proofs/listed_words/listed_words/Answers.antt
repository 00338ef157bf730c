use Rattle.word_walk.proofs.listed_words.listed_words.Goals as goal
use Rattle.std.proofs.Common.{ℕ, List, ap, ◌∙◌, sym, subst}
use Rattle.digit_tuple.specs.Letters.{IsWord, product}
use Rattle.word_walk.proofs.ListedKeyLemmas.{IsListing-over, key_accepts-listed}

pub returns-in-Ok-clause-words : goal.returns-in-Ok-clause-words
returns-in-Ok-clause-words c =
    let d = c.args.d.now in
    let skip = c.args.skip in
    let e = c.in-Ok.stepped.result in
    let sizes = c.in_ok-alphabet.ensures ∙ c.alphabet.ensures.sizes in
    IsListing-over d skip e c.alphabet.ensures.table c.in-Ok.ensures.canonical.table (ap product (c.in-Ok.ensures.sizes ∙ sizes))
    (λ w over. c.in-Ok.ensures.language w (subst (λ (ss : List ℕ). IsWord (product ss) w) (sym sizes) over) ∙ key_accepts-listed d skip w)
