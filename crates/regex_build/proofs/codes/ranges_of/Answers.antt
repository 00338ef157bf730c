-- The range of one symbol more, if it has one.
use Rattle.std.proofs.Common.{[], ◌∷◌, sym, subst, ◌∙◌, ap, append-nil, Option}
use Rattle.std.specs.Prelude.{Vec}
use Rattle.std.specs.declared.alloc.Global.{Global}
use Rattle.std.specs.List.{AllZip}
use Rattle.std.specs.Option.{option_to_list}
use Rattle.regex_build.specs.declared.codes.LetterRange.{LetterRange}
use Rattle.regex_build.specs.declared.postfix_symbol.PostfixSymbol.{PostfixSymbol}
use Rattle.regex_build.specs.Codes.{IsRangeOf, occurrence_in}
use Rattle.regex_build.specs.Patterns.{IsOver}
use Rattle.regex_build.proofs.RangeSteps.{ranges_more, ranges_all}
use Rattle.regex_build.proofs.codes.ranges_of.Goals as goal
use Rattle.regex_build.proofs.codes.ranges_of.Goals.{in-Some+in_ok-push, in_default}

pub range_of-requires : goal.range_of-requires
range_of-requires c =
    let P : PostfixSymbol → Type 0 = λ s. IsOver c.args.sets.now s in
    record {
      sets = c.requires.sets;
      sizes = c.requires.sizes;
      member = subst P (sym c.symbol-item.is) (c.requires.members c.loop-symbol.symbol-index c.symbol-item.result c.loop-symbol-test.true);
    }

pub loop-symbol-preserved : goal.loop-symbol-preserved
loop-symbol-preserved c =
    let P : Option LetterRange → Type 0 = λ o. AllZip (IsRangeOf c.args.sets.now) (occurrence_in c.symbol-item.result) (option_to_list o) in
    elim c.match-branch-2.branch [
      | in-Some+in_ok-push w ↦
          ranges_more c.args.sets.now c.args.symbols.now c.loop-symbol.symbol-index c.symbol-item.result c.loop-symbol.made.items c.match-branch-2.made.items (w.in-Some.range ∷ [])
          c.loop-symbol-test.true c.symbol-item.is c.loop-symbol.invariant (subst P w.in-Some.is c.in_ok-range.ensures) (ap (λ (v : Vec LetterRange Global). v.items) w.made-is ∙ w.in_ok-push.ensures.items)
      | in_default w ↦
          ranges_more c.args.sets.now c.args.symbols.now c.loop-symbol.symbol-index c.symbol-item.result c.loop-symbol.made.items c.match-branch-2.made.items []
          c.loop-symbol-test.true c.symbol-item.is c.loop-symbol.invariant (subst P w.in_default.is c.in_ok-range.ensures) (ap (λ (v : Vec LetterRange Global). v.items) w.made-is ∙ sym (append-nil c.loop-symbol.made.items))
    ]

pub returns : goal.returns
returns c = ranges_all c.args.sets.now c.args.symbols.now c.loop-symbol.symbol-index c.loop-symbol.made.items c.loop-symbol-test.false c.loop-symbol.invariant
