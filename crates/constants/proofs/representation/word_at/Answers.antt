use Rattle.std.proofs.Common.{◌≡◌, ℕ, suc, ◌+◌, ◌<◌, List, [], ◌∷◌, ◌++◌, Vec, Global, length, sym, ap, ◌∙◌, subst, arith, add-one}
use Rattle.std.proofs.lemmas.List.{length_push}
use Rattle.digit_tuple.specs.Deterministic.{letters_of}
use Rattle.constants.specs.Continuations.{read, continuations}
use Rattle.constants.specs.WordCounts.{AreCounts, AreRows}
use Rattle.constants.specs.Prefixes.{IsPrefix}
use Rattle.constants.specs.Choices.{IsChoice}
use Rattle.constants.proofs.PlaceLemmas.{IsPart, part-first, part-more, part-last}
use Rattle.constants.proofs.RowLemmas.{rows-prefix, rows-last}
use Rattle.constants.proofs.representation.word_at.Goals as goal

pub loop-row-init : goal.loop-row-init
loop-row-init c =
    let a = c.args.language.now in
    let direction = c.args.direction in
    let none : c.new-word.result.items ≡ [] = c.new-word.ensures.items in
    record {
      prefix = subst (λ w. IsPrefix direction a w c.in_ok-prefix.prefix) (sym none) c.in_ok-prefix.ensures.prefix;
      fits = c.in_ok-prefix.ensures.fits;
      counts = c.requires.counts;
      part = subst (λ w. IsPart (letters_of a) (read direction a) c.args.number w (length c.args.rows.items) c.args.number) (sym none) (part-first (letters_of a) (read direction a) c.args.number (length c.args.rows.items) c.requires.past);
      long = omega (arith, ap length none);
    }

pub choose-requires-clause-long : goal.choose-requires-clause-long
choose-requires-clause-long c =
    let a = c.args.language.now in
    let direction = c.args.direction in
    let shorter = c.pop.new.self.items in
    let row = c.in-Some.row in
    let counts : AreRows direction a (shorter ++ row ∷ []) = subst (λ (rows : List (Vec ℕ Global)). AreRows direction a rows) c.in-Some.ensures.items c.loop-row.invariant.counts in
    ap length c.deref.ensures.value ∙ (rows-last direction a shorter row counts).long

pub choose-requires-clause-some : goal.choose-requires-clause-some
choose-requires-clause-some c =
    let a = c.args.language.now in
    let direction = c.args.direction in
    let shorter = c.pop.new.self.items in
    let row = c.in-Some.row in
    let w = c.loop-row.word.items in
    let counts : AreRows direction a (shorter ++ row ∷ []) = subst (λ (rows : List (Vec ℕ Global)). AreRows direction a rows) c.in-Some.ensures.items c.loop-row.invariant.counts in
    let last : AreCounts direction a (length shorter) row.items = rows-last direction a shorter row counts in
    let long : length c.loop-row.lesser.items ≡ suc (length shorter) = ap length c.in-Some.ensures.items ∙ length_push shorter row ∙ add-one (length shorter) in (
      direction,
      w,
      length shorter,
      c.loop-row.invariant.prefix,
      subst (λ (xs : List ℕ). AreCounts direction a (length shorter) xs) (sym c.deref.ensures.value) last,
      subst (λ k. c.loop-row.rest < continuations (letters_of a) (read direction a) w k) long c.loop-row.invariant.part.within,
    )

pub loop-row-preserved : goal.loop-row-preserved
loop-row-preserved c =
    let a = c.args.language.now in
    let direction = c.args.direction in
    let d = letters_of a in
    let test = read direction a in
    let shorter = c.pop.new.self.items in
    let row = c.in-Some.row in
    let w = c.loop-row.word.items in
    let choice = c.in_ok-choice.choice in
    let counts : AreRows direction a (shorter ++ row ∷ []) = subst (λ (rows : List (Vec ℕ Global)). AreRows direction a rows) c.in-Some.ensures.items c.loop-row.invariant.counts in
    let last : AreCounts direction a (length shorter) row.items = rows-last direction a shorter row counts in
    let long : length c.loop-row.lesser.items ≡ suc (length shorter) = ap length c.in-Some.ensures.items ∙ length_push shorter row ∙ add-one (length shorter) in
    let pushed : c.push.new.self.items ≡ w ++ choice.digit ∷ [] = c.in_ok-push.ensures.items in
    let longer : length c.push.new.self.items ≡ length w + 1 = ap length pushed ∙ length_push w choice.digit in
    let chosen : IsChoice direction a w (length shorter) c.loop-row.rest choice =
    c.in_ok-choice.ensures.choice direction w (length shorter) c.loop-row.invariant.prefix (subst (λ (xs : List ℕ). AreCounts direction a (length shorter) xs) (sym c.deref.ensures.value) last) in
    let part : IsPart d test c.args.number w (suc (length shorter)) c.loop-row.rest = subst (λ k. IsPart d test c.args.number w k c.loop-row.rest) long c.loop-row.invariant.part in
    record {
      prefix = subst (λ v. IsPrefix direction a v choice.prefix) (sym pushed) chosen.prefix;
      fits = c.in_ok-choice.ensures.fits;
      counts = rows-prefix direction a shorter row counts;
      part = subst (λ v. IsPart d test c.args.number v (length shorter) choice.rest) (sym pushed)
          (part-more d test c.args.number (length shorter) choice.digit c.loop-row.rest choice.rest w part chosen.digit chosen.before chosen.within);
      long = omega (arith, c.loop-row.invariant.long, longer, long);
    }

pub returns : goal.returns
returns c =
    let a = c.args.language.now in
    let direction = c.args.direction in
    let none : length c.loop-row.lesser.items ≡ 0 = omega (arith, c.in_default.ensures.cases.0, c.loop-row.lesser.ok) in
    part-last (letters_of a) (read direction a) c.args.number c.loop-row.rest (length c.args.rows.items) c.loop-row.word.items (omega (arith, none, c.loop-row.invariant.long))
    (subst (λ k. IsPart (letters_of a) (read direction a) c.args.number c.loop-row.word.items k c.loop-row.rest) none c.loop-row.invariant.part)
