use Rattle.std.proofs.Common.{inl, inr, refl}
use Rattle.endless.specs.LanguageLaws.{system_of}
use Rattle.adder_check.proofs.FileSystems.{zero_and_equality}
use Rattle.adder_check.proofs.HandedOn.{handed_on}
use Rattle.adder_check.proofs.zero_law.zero_law.Goals as goal

pub returns-in_err-sums-clause-steps : goal.returns-in_err-sums-clause-steps
returns-in_err-sums-clause-steps c =
    inr (
      c.in_ok-zero.zero,
      c.in_ok-equal.equal,
      zero_and_equality c.args.direction c.args.language.now c.in_ok-zero.zero c.in_ok-equal.equal c.requires.tracks.0 c.requires.tracks.2 c.requires.system c.in_ok-zero.ensures.zero c.in_ok-zero.ensures.canonical c.in_ok-equal.ensures.equality
          c.in_ok-equal.ensures.canonical,
      inr (c.in_err-sums.field-0.0, c.in_err-sums.ensures.steps, (handed_on _ c.from_residual-in_err-sums.result c.from_residual-in_err-sums.ensures.1)),
    )

pub returns-clause-steps : goal.returns-clause-steps
returns-clause-steps c =
    inr (
      c.in_ok-zero.zero,
      c.in_ok-equal.equal,
      zero_and_equality c.args.direction c.args.language.now c.in_ok-zero.zero c.in_ok-equal.equal c.requires.tracks.0 c.requires.tracks.2 c.requires.system c.in_ok-zero.ensures.zero c.in_ok-zero.ensures.canonical c.in_ok-equal.ensures.equality
          c.in_ok-equal.ensures.canonical,
      inl (c.in_ok-sums.sums, c.zero_sums.new.steps, c.in_ok-sums.ensures.steps, (c.keeps_zero_law.ensures.same, refl)),
    )

pub returns-clause-law : goal.returns-clause-law
returns-clause-law c = λ test adds.
    let are =
    zero_and_equality c.args.direction c.args.language.now c.in_ok-zero.zero c.in_ok-equal.equal c.requires.tracks.0 c.requires.tracks.2 c.requires.system c.in_ok-zero.ensures.zero c.in_ok-zero.ensures.canonical c.in_ok-equal.ensures.equality
    c.in_ok-equal.ensures.canonical in
    let s = system_of c.args.direction c.args.language.now in
    c.keeps_zero_law.ensures.law c.args.direction s test c.requires.system (c.in_ok-sums.ensures.sums s test c.requires.system adds are.zero_is) are.equal_is
