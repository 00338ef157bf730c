use Rattle.std.proofs.Common.{◌≡◌, ℕ, suc, ◌≤◌, List, [], Vec, Global, length, inl, inr, sym, ap, ◌∙◌, subst, arith, add-one}
use Rattle.std.proofs.lemmas.Bool.{cases_lt}
use Rattle.std.proofs.lemmas.List.{length_push}
use Rattle.digit_tuple.specs.Deterministic.{letters_of}
use Rattle.constants.specs.Continuations.{read, continuations}
use Rattle.constants.specs.WordCounts.{capped, AreCounts, AreRows}
use Rattle.constants.proofs.CappedLemmas.{capped-less, capped-most}
use Rattle.constants.proofs.PrefixLemmas.{fits-same}
use Rattle.constants.proofs.RowLemmas.{rows-push}
use Rattle.constants.proofs.representation.rows_past.Goals as goal

pub count-requires : goal.count-requires
count-requires c = fits-same _ _ _ (ap length c.deref.ensures.value ∙ c.loop-alloc.invariant.row.long) c.loop-alloc.invariant.fits

pub returns-then-len-longest-clause-states : goal.returns-then-len-longest-clause-states
returns-then-len-longest-clause-states c = λ fault n within.
    let a = c.args.language.now in
    let direction = c.args.direction in
    let rows = c.loop-alloc.rows.items in
    let count : c.count.result ≡ capped (continuations (letters_of a) (read direction a) [] (length rows)) =
    c.count.ensures direction a [] (length rows) c.first_row.ensures.table c.loop-alloc.invariant.prefix (subst (λ (row : List ℕ). AreCounts direction a (length rows) row) (sym c.deref.ensures.value) c.loop-alloc.invariant.row) in
    let last : continuations (letters_of a) (read direction a) [] (length rows) ≤ c.args.number = capped-most c.count.result c.args.number (continuations (letters_of a) (read direction a) [] (length rows)) count (omega (arith, c.loop-alloc-test.true, c.from.ensures)) c.ranges.number.fits in
    elim (cases_lt n (length rows)) [
      | inl less ↦ c.loop-alloc.invariant.least n less
      | inr past ↦ subst (λ k. continuations (letters_of a) (read direction a) [] k ≤ c.args.number) (let e : length rows ≡ n = omega (arith, past, within, c.if-len-longest.true, c.len.ensures) in e) last
    ]

pub loop-alloc-preserved : goal.loop-alloc-preserved
loop-alloc-preserved c =
    let a = c.args.language.now in
    let direction = c.args.direction in
    let rows = c.loop-alloc.rows.items in
    let row = c.loop-alloc.row in
    let count : c.count.result ≡ capped (continuations (letters_of a) (read direction a) [] (length rows)) =
    c.count.ensures direction a [] (length rows) c.first_row.ensures.table c.loop-alloc.invariant.prefix (subst (λ (xs : List ℕ). AreCounts direction a (length rows) xs) (sym c.deref.ensures.value) c.loop-alloc.invariant.row) in
    let last : continuations (letters_of a) (read direction a) [] (length rows) ≤ c.args.number = capped-most c.count.result c.args.number (continuations (letters_of a) (read direction a) [] (length rows)) count (omega (arith, c.loop-alloc-test.true, c.from.ensures)) c.ranges.number.fits in
    let long : length c.push.new.self.items ≡ suc (length rows) = ap length c.in_ok-push.ensures.items ∙ length_push rows row ∙ add-one (length rows) in
    record {
      prefix = c.loop-alloc.invariant.prefix;
      fits = c.loop-alloc.invariant.fits;
      counts = subst (λ (xs : List (Vec ℕ Global)). AreRows direction a xs) (sym c.in_ok-push.ensures.items) (rows-push direction a rows row c.loop-alloc.invariant.counts c.loop-alloc.invariant.row);
      row = subst (λ k. AreCounts direction a k c.in_ok-next.next.items) (sym long) (c.in_ok-next.ensures (length rows) (subst (λ (xs : List ℕ). AreCounts direction a (length rows) xs) (sym c.deref-in-loop-alloc.ensures.value) c.loop-alloc.invariant.row));
      least = λ n within. elim (cases_lt n (length rows)) [
        | inl less ↦ c.loop-alloc.invariant.least n less
        | inr past ↦ subst (λ k. continuations (letters_of a) (read direction a) [] k ≤ c.args.number) (let e : length rows ≡ n = omega (arith, past, within, long) in e) last
      ];
      within = omega (arith, long, c.if-len-longest.false, c.len.ensures);
    }

pub returns-clause-past : goal.returns-clause-past
returns-clause-past c =
    let a = c.args.language.now in
    let direction = c.args.direction in
    let rows = c.loop-alloc.rows.items in
    let count : c.count.result ≡ capped (continuations (letters_of a) (read direction a) [] (length rows)) =
    c.count.ensures direction a [] (length rows) c.first_row.ensures.table c.loop-alloc.invariant.prefix (subst (λ (xs : List ℕ). AreCounts direction a (length rows) xs) (sym c.deref.ensures.value) c.loop-alloc.invariant.row) in
    capped-less c.count.result c.args.number (continuations (letters_of a) (read direction a) [] (length rows)) count (omega (arith, c.loop-alloc-test.false, c.from.ensures))
