use Rattle.std.proofs.Common.{◌≡◌, ◌+◌, ◌-◌, ◌<◌, [], ◌∷◌, ◌++◌, drop, length, sym, ap, ◌∙◌, subst, arith, List, ℕ}
use Rattle.std.specs.List.{All}
use Rattle.std.proofs.lemmas.List.{drop_all}
use Rattle.digit_tuple.specs.Letters.{product}
use Rattle.dfa_reading.specs.LineLetters.{letters_taken}
use Rattle.dfa_reading.proofs.Letters.{last_product, letters_below, letters_more, with_track-weight}
use Rattle.dfa_reading.proofs.line_letters.letters_from_last.Goals as goal

pub with_track-requires-clause-small : goal.with_track-requires-clause-small
with_track-requires-clause-small c =
    let sizes = c.args.sizes.now in
    let i = c.tracks.track - 1 in
    let next : i + 1 ≡ c.tracks.track = omega arith in
    let heavy : c.tracks.weight ≡ product (drop (i + 1) sizes) = c.tracks.invariant.weight ∙ ap (λ (k : ℕ). product (drop k sizes)) (sym next) in
    let more = with_track-weight sizes i c.tracks.weight (omega (arith, c.tracks.invariant.within)) heavy in
    let less = last_product sizes i c.requires.some in
    omega (arith, more, less.0, c.requires.few)

pub with_track-requires-clause-letters : goal.with_track-requires-clause-letters
with_track-requires-clause-letters c =
    let sizes = c.args.sizes.now in
    let P : ℕ → List ℕ → Type 0 = λ weight letters. All (λ letter. letter < weight) letters in
    subst (λ (letters : List ℕ). P c.tracks.weight letters) (sym (c.deref.ensures.value ∙ c.tracks.invariant.letters))
    (subst (λ (weight : ℕ). P weight (letters_taken (drop c.tracks.track sizes) (drop c.tracks.track c.args.digits.now))) (sym c.tracks.invariant.weight) (letters_below (drop c.tracks.track sizes) (drop c.tracks.track c.args.digits.now)))

pub overflow_mul-weight : goal.overflow_mul-weight
overflow_mul-weight c =
    let sizes = c.args.sizes.now in
    let i = c.tracks.track - 1 in
    let next : i + 1 ≡ c.tracks.track = omega arith in
    let heavy : c.tracks.weight ≡ product (drop (i + 1) sizes) = c.tracks.invariant.weight ∙ ap (λ (k : ℕ). product (drop k sizes)) (sym next) in
    let more = with_track-weight sizes i c.tracks.weight (omega (arith, c.tracks.invariant.within)) heavy in
    let less = last_product sizes i c.requires.some in
    record { fits = omega (arith, more, less.0, c.requires.few) }

pub bounds-sizes-track : goal.bounds-sizes-track
bounds-sizes-track c = omega (arith, c.tracks.invariant.within, c.tracks-test.true)

pub bounds-digits-track : goal.bounds-digits-track
bounds-digits-track c = omega (arith, c.tracks.invariant.within, c.tracks-test.true, c.requires.tracks)

pub tracks-init : goal.tracks-init
tracks-init c =
    let sizes = c.args.sizes.now in
    let digits = c.args.digits.now in
    let none : drop (length sizes) sizes ≡ [] = drop_all (length sizes) sizes (omega arith) in
    let no_digits : drop (length sizes) digits ≡ [] = drop_all (length sizes) digits (omega (arith, c.requires.tracks)) in
    record {
      within = omega arith;
      letters = c.in_ok-push.ensures.items ∙ ap (λ (ns : List ℕ). ns ++ 0 ∷ []) c.new-letters.ensures.items
          ∙ sym (ap (λ (ss : List ℕ). letters_taken ss (drop (length sizes) digits)) none ∙ ap (letters_taken []) no_digits);
      weight = sym (ap product none);
    }

pub tracks-preserved : goal.tracks-preserved
tracks-preserved c =
    let sizes = c.args.sizes.now in
    let digits = c.args.digits.now in
    let i = c.tracks.track - 1 in
    let next : i + 1 ≡ c.tracks.track = omega (arith, c.tracks-test.true) in
    let within : i < length sizes = omega (arith, c.tracks-test.true, c.tracks.invariant.within) in
    let heavy : c.tracks.weight ≡ product (drop (i + 1) sizes) = c.tracks.invariant.weight ∙ ap (λ (k : ℕ). product (drop k sizes)) (sym next) in
    let letters : c.deref.result.now ≡ letters_taken (drop (i + 1) sizes) (drop (i + 1) digits) = c.deref.ensures.value ∙ c.tracks.invariant.letters ∙ ap (λ (k : ℕ). letters_taken (drop k sizes) (drop k digits)) (sym next) in
    record {
      within = omega (arith, within);
      letters = letters_more sizes digits i c.tracks.weight c.deref.result.now c.in_ok-letters.letters.items within (omega (arith, within, c.requires.tracks)) heavy letters c.in_ok-letters.ensures;
      weight = with_track-weight sizes i c.tracks.weight within heavy;
    }

pub returns : goal.returns
returns c =
    let none : c.tracks.track ≡ 0 = omega (arith, c.tracks-test.false) in
    c.tracks.invariant.letters ∙ ap (λ (k : ℕ). letters_taken (drop k c.args.sizes.now) (drop k c.args.digits.now)) none
