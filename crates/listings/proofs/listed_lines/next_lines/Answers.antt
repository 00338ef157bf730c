-- The lines of each next word, until there are enough, or too many bytes.
use Rattle.std.proofs.Common.{◌∙◌, ◌++◌, ◌≤◌, ◌<◌, List, ℕ, ap, refl, sym, subst, length, drop, length-append, length-drop, arith, rules}
use Rattle.std.proofs.lemmas.List.{length-take}
use Rattle.digit_tuple.specs.Letters.{product, IsWord}
use Rattle.digit_tuple.specs.Deterministic.{accepts_of}
use Rattle.word_walk.specs.Walks.{WalkValue, IsWalked}
use Rattle.listings.proofs.NextLemmas.{AreSoFar, none_so_far, all_so_far, step_last, step_listing, step_over, step_more, step_passes, word_pushed}
use Rattle.listings.proofs.listed_lines.next_lines.Goals as goal

pub loop-left-init : goal.loop-left-init
loop-left-init c = record {
  same = refl;
  room = first_of (omega (arith, c.in_ok-places.ensures.len, c.tracks.ensures.value, c.in_ok-places.places.ok), search rules);
  far = subst (λ (text : List ℕ). AreSoFar (accepts_of c.args.walk.listing) c.args.sets.now c.args.walk.place c.args.bounds c.args.walk.place c.args.bounds.words text) (sym c.new-lines.ensures.items) (none_so_far (accepts_of c.args.walk.listing) c.args.sets.now c.args.walk.place c.args.bounds);
}

pub push_line-requires-clause-word : goal.push_line-requires-clause-word
push_line-requires-clause-word c =
    let walked : IsWalked c.loop-left.walk c.next.new.self c.next.new.out.items = c.in_ok-next.ensures.walked c.if-not-branch.false in
    subst (λ (w : List ℕ). IsWord (product c.args.alphabet.now) w) (sym c.deref.ensures.value)
    (step_over c.args.walk c.loop-left.walk c.args.sets.now c.args.bounds c.loop-left.left c.loop-left.lines.items c.loop-left.invariant.same c.loop-left.invariant.far c.next.new.self c.next.new.out.items walked c.args.alphabet.now c.requires.words)

pub push_line-requires-clause-tracks : goal.push_line-requires-clause-tracks
push_line-requires-clause-tracks c = ap length c.deref_mut.ensures.value ∙ c.loop-left.invariant.room

pub loop-left-preserved : goal.loop-left-preserved
loop-left-preserved c =
    let sets = c.args.sets.now in
    let first : WalkValue = c.args.walk in
    let old : WalkValue = c.loop-left.walk in
    let new : WalkValue = c.next.new.self in
    let w = c.next.new.out.items in
    let lines = c.loop-left.lines.items in
    let after = c.push_line.new.out.items in
    let walked : IsWalked old new w = c.in_ok-next.ensures.walked c.if-not-branch.false in
    let is = word_pushed lines after sets c.as_slice.result.now w c.deref.result.now c.as_slice.ensures.value c.deref.ensures.value c.in_ok-push_line.ensures in
    let few : length after ≤ c.args.bounds.bytes = omega (arith, c.len.ensures, c.if-len-bounds.false, c.push_line.new.out.ok) in
    record {
      same = step_listing first old sets c.args.bounds c.loop-left.left lines c.loop-left.invariant.same c.loop-left.invariant.far new w walked;
      room = omega (arith, length-take c.loop-left.places.len (c.push_line.new.places ++ drop (length c.push_line.new.places) c.loop-left.places.items), length-append c.push_line.new.places (drop (length c.push_line.new.places) c.loop-left.places.items), length-drop (length c.push_line.new.places) c.loop-left.places.items, c.loop-left.places.ok, c.loop-left.invariant.room);
      far = step_more first old sets c.args.bounds c.loop-left.left lines c.loop-left.invariant.same c.loop-left.invariant.far new w walked after is c.loop-left-test.true few;
    }

pub returns-then-not-branch : goal.returns-then-not-branch
returns-then-not-branch c = step_last c.args.walk c.loop-left.walk c.args.sets.now c.args.bounds c.loop-left.left c.loop-left.lines.items c.loop-left.invariant.same c.loop-left.invariant.far (c.in_ok-next.ensures.last c.if-not-branch.true)

pub returns-then-len-bounds : goal.returns-then-len-bounds
returns-then-len-bounds c =
    let after = c.push_line.new.out.items in
    let walked : IsWalked c.loop-left.walk c.next.new.self c.next.new.out.items = c.in_ok-next.ensures.walked c.if-not-branch.false in
    let is = word_pushed c.loop-left.lines.items after c.args.sets.now c.as_slice.result.now c.next.new.out.items c.deref.result.now c.as_slice.ensures.value c.deref.ensures.value c.in_ok-push_line.ensures in
    let long : c.args.bounds.bytes < length after = omega (arith, c.len.ensures, c.if-len-bounds.true, c.push_line.new.out.ok) in
    step_passes c.args.walk c.loop-left.walk c.args.sets.now c.args.bounds c.loop-left.left c.loop-left.lines.items c.loop-left.invariant.same c.loop-left.invariant.far c.next.new.self c.next.new.out.items walked after is c.loop-left-test.true long

pub returns : goal.returns
returns c = all_so_far (accepts_of c.args.walk.listing) c.args.sets.now c.args.walk.place c.args.bounds c.loop-left.walk.place c.loop-left.left c.loop-left.lines.items c.loop-left.invariant.far (omega (arith, c.loop-left-test.false))
