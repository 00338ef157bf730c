use Rattle.std.proofs.Common.{◌+◌, ◌<◌, length, sym, ap, ◌∙◌, arith}
use Rattle.std.proofs.lemmas.List.{get_or_read}
use Rattle.digit_tuple.specs.PartIndex.{letters_with}
use Rattle.digit_tuple.proofs.PartIndexLemmas.{letters_with-none}
use Rattle.digit_tuple.proofs.part_index.PartIndex.letters.Goals as goal

pub returns-else-place-len : goal.returns-else-place-len
returns-else-place-len c =
    let index = c.self.inside in
    sym (ap (λ parts. letters_with parts c.args.part) (sym c.self.view_is)
    ∙ letters_with-none index.parts.items c.args.part (length index.starts.items) c.self.invariant.within (omega (arith, c.if-place-len.false, c.len.ensures, index.starts.ok)))

pub slice_bounds-result-start : goal.slice_bounds-result-start
slice_bounds-result-start c =
    let index = c.self.inside in
    let part = c.args.part in
    let more : part + 1 < length index.starts.items = omega (arith, c.if-place-len.true, c.len.ensures, index.starts.ok) in
    omega (
      arith,
      (c.self.invariant.blocks part more).begins,
      get_or_read index.starts.items part c.index.result.now (omega (arith, more)) c.index.ensures 0,
      get_or_read index.starts.items (part + 1) c.index-then-place-len.result.now more c.index-then-place-len.ensures 0,
    )

pub slice_bounds-result-end : goal.slice_bounds-result-end
slice_bounds-result-end c =
    let index = c.self.inside in
    let part = c.args.part in
    let more : part + 1 < length index.starts.items = omega (arith, c.if-place-len.true, c.len.ensures, index.starts.ok) in
    omega (arith, (c.self.invariant.blocks part more).ends, get_or_read index.starts.items (part + 1) c.index-then-place-len.result.now more c.index-then-place-len.ensures 0, ap length c.deref.ensures.value, index.letters.ok)
