use Rattle.std.proofs.Common.{ℤ, length, sym, ap, ◌∙◌, subst}
use Rattle.morph_words.specs.Images.{image}
use Rattle.morph_words.specs.Uniform.{IsLeast, IsOdd}
use Rattle.morph_words.proofs.RuleLemmas.{bits_back}
use Rattle.morph_words.proofs.UniformLemmas.{odd_least}
use Rattle.morph_words.proofs.uniform.uniform_length.Goals as goal

pub returns-in-Some-clause-kind : goal.returns-in-Some-clause-kind
returns-in-Some-clause-kind c =
    let rules = c.args.morphism.now in
    let least = c.in-Some.ensures.other in
    let first = c.least_letter-first.ensures.least in
    let long = sym (c.length_of-length.ensures ∙ ap (λ (z : ℤ). length (image c.args.morphism.now z)) (bits_back rules c.least_letter-first.result c.least_letter-first.ensures.morphism first.holds)) in
    subst (IsLeast (IsOdd rules)) (sym (bits_back rules c.in-Some.letter c.in-Some.ensures.morphism least.holds.has_rule))
    (odd_least rules c.least_letter-first.result first c.length_of-length.result long c.in-Some.letter least)
