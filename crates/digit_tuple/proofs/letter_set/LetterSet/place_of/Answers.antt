use Rattle.std.proofs.Common.{◌≡◌, subst, ◌∙◌}
use Rattle.std.specs.List.{Contains}
use Rattle.std.proofs.lemmas.Int.{to_z-of_z}
use Rattle.std.proofs.lemmas.Bool.{false≢true}
use Rattle.digit_tuple.specs.Sets.{IsAscending}
use Rattle.digit_tuple.proofs.SetLemmas.{searchable, none_between}
use Rattle.digit_tuple.proofs.letter_set.LetterSet.place_of.Goals as goal

pub returns-in-Err-clause-member : goal.returns-in-Err-clause-member
returns-in-Err-clause-member c =
    let same : c.deref.result.now ≡ c.args.self.now = c.deref.ensures.value ∙ c.self.view_is in
    let up : IsAscending c.args.self.now = subst IsAscending c.self.view_is c.self.invariant.ascending in
    let fits = c.ranges.member in
    let parted = simp to_z-of_z at c.in-Err.ensures.position in (
      λ h. absurd (false≢true h),
      λ found.
          absurd (none_between c.deref.result.now c.args.member c.in-Err.field-0
          (parted (searchable c.deref.result.now c.args.member (let back : IsAscending c.deref.result.now = rw same up in back)))
          (let back : Contains c.deref.result.now c.args.member = rw same found in back)),
    )
