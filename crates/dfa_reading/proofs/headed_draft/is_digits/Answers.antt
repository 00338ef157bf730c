use Rattle.std.proofs.Common.{◌≡◌, ◌<◌, ℤ, pos, List, length, get_or, true≢false, SFits, w32, rules, sym, ap, ◌∙◌, arith}
use Rattle.std.proofs.lemmas.Int.{to_z-of_z}
use Rattle.digit_tuple.specs.Systems.{digit_set}
use Rattle.digit_tuple.proofs.SystemLemmas.{length-digit_set}
use Rattle.dfa_reading.proofs.SystemHeaders.{apart_sets, same_sets, are_digits, no_digit}
use Rattle.dfa_reading.proofs.headed_draft.is_digits.Goals as goal

pub returns-then-len-digits : goal.returns-then-len-digits
returns-then-len-digits c =
    sym (apart_sets c.args.set.now (digit_set c.args.digits) (λ same. c.if-len-digits.true (c.len.ensures.value ∙ ap length same ∙ length-digit_set c.args.digits)))

pub returns-then-not-is_number : goal.returns-then-not-is_number
returns-then-not-is_number c =
    let m = get_or c.members-members.result.now c.loop-place.place (pos 0) in
    let fits : SFits w32 m = search rules in
    let read : m ≡ pos c.loop-place.place → ⊥ = λ same. true≢false (sym (c.is_number.ensures.1 (to_z-of_z w32 m fits ∙ same)) ∙ c.if-not-is_number.true) in
    let within : c.loop-place.place < length c.args.set.now = rw c.loop-place.invariant.members at c.loop-place-test.true in
    sym (apart_sets c.args.set.now (digit_set c.args.digits)
    (no_digit c.args.set.now c.args.digits c.loop-place.place c.loop-place.invariant.count within
    (λ same. read (ap (λ (l : List ℤ). get_or l c.loop-place.place (pos 0)) c.loop-place.invariant.members ∙ same))))

pub returns : goal.returns
returns c =
    sym (same_sets c.args.set.now (digit_set c.args.digits) (are_digits c.args.set.now c.args.digits c.loop-place.invariant.count
    (λ k within.
    let inside : k < c.loop-place.place = omega (arith, within, ap length c.loop-place.invariant.members, c.loop-place-test.false) in
    sym (ap (λ (l : List ℤ). get_or l k (pos 0)) c.loop-place.invariant.members) ∙ c.loop-place.invariant.prefix k inside)))
