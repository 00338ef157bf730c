-- Either of the two matches the empty word, or none.
use Rattle.std.proofs.Common.{◌≡◌, ◌||◌, false, refl}
use Rattle.regex_build.proofs.FragmentSteps.{either_fragment, or_is_then, or_is_else}
use Rattle.regex_build.proofs.fragment.Fragment.either.Goals as goal
use Rattle.regex_build.proofs.fragment.Fragment.either.Goals.{then-self, else-self}

pub returns : goal.returns
returns c =
    let null : c.if-self.result ≡ (c.args.self.nullable || c.args.other.nullable) = elim c.if-self.branch [
      | then-self w ↦ or_is_then c.args.self.nullable c.args.other.nullable c.if-self.result w.if-self.true w.result-is
      | else-self w ↦ or_is_else c.args.self.nullable c.args.other.nullable c.if-self.result w.if-self.false w.result-is
    ] in
    either_fragment c.args.self c.args.other (record { nullable = c.if-self.result; repeats = false; firsts = c.in_ok-merged.field-0; lasts = c.in_ok-merged-2.field-0; owed = c.in_ok-merged-3.field-0 })
    null refl c.in_ok-merged.ensures c.in_ok-merged-2.ensures c.in_ok-merged-3.ensures
