use Rattle.std.proofs.Common.{◌≡◌, ℕ, List, length, ap, sym, subst, ◌∙◌, arith}
use Rattle.digit_tuple.specs.Letters.{AreDigits, code_of}
use Rattle.digit_tuple.specs.Sets.{sizes_of}
use Rattle.listings.proofs.TrackLemmas.{digits_at, has_length, letter_at}
use Rattle.listings.proofs.tracks.number_of.Goals as goal

pub returns-then-sets-digits : goal.returns-then-sets-digits
returns-then-sets-digits c = λ h. let e : length c.args.sets.now ≡ length c.args.digits.now = has_length c.args.sets.now c.args.digits.now h in omega arith

pub letter_of-requires : goal.letter_of-requires
letter_of-requires c =
    let P : List ℕ → Type 0 = λ sizes. AreDigits sizes c.deref.result.now in
    let Q : List ℕ → Type 0 = λ places. AreDigits (sizes_of c.args.sets.now) places in
    subst P (sym c.requires) (subst Q (sym c.deref.ensures.value) (digits_at c.args.sets.now c.args.digits.now c.in-Some.places.items (rw c.in-Some.is at c.in_ok-places.ensures)))

pub returns-in-Some : goal.returns-in-Some
returns-in-Some c =
    letter_at c.args.sets.now c.args.digits.now c.in-Some.places.items c.args.alphabet.now c.letter_of.result c.requires (rw c.in-Some.is at c.in_ok-places.ensures)
    (c.letter_of.ensures.letter ∙ ap (code_of c.args.alphabet.now) c.deref.ensures.value)
