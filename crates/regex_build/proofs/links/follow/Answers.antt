-- Pairs are owed where both together may be repeated, and listed otherwise.
use Rattle.std.proofs.Common.{◌≡◌, ◌&&◌, ◌<◌, ℕ, Bool, List, length, false, subst, refl, arith}
use Rattle.std.specs.Prelude.{Contains}
use Rattle.regex_build.specs.Fragments.{rows_in, AreSettled}
use Rattle.regex_build.proofs.FragmentSteps.{follow_fragment, and_is_then, and_is_else, three_lists}
use Rattle.regex_build.proofs.LinkSteps.{length-rows_in}
use Rattle.regex_build.proofs.links.follow.Goals as goal
use Rattle.regex_build.proofs.links.follow.Goals.{then-left, else-left}

pub crossed-requires : goal.crossed-requires
crossed-requires c p h = let P : List ℕ → Type 0 = λ xs. Contains xs p in c.requires.left.lasts p (subst P c.deref.ensures.value h)

pub settled-requires : goal.settled-requires
settled-requires c p q h =
    let below : p < length c.args.next.now.items = c.requires.left.owed p q h in
    let count : length (rows_in c.crossed.new.next.items) ≡ length (rows_in c.args.next.now.items) = c.in_ok-between.ensures.count in
    let old : length (rows_in c.args.next.now.items) ≡ length c.args.next.now.items = length-rows_in c.args.next.now.items in
    let now : length (rows_in c.crossed.new.next.items) ≡ length c.crossed.new.next.items = length-rows_in c.crossed.new.next.items in
    omega arith

pub settled-requires-2 : goal.settled-requires-2
settled-requires-2 c p q h =
    let below : p < length c.args.next.now.items = c.requires.right.owed p q h in
    let count : length (rows_in c.crossed.new.next.items) ≡ length (rows_in c.args.next.now.items) = c.in_ok-between.ensures.count in
    let more : length (rows_in c.settled.new.next.items) ≡ length (rows_in c.crossed.new.next.items) = c.in_ok-before.ensures.count in
    let old : length (rows_in c.args.next.now.items) ≡ length c.args.next.now.items = length-rows_in c.args.next.now.items in
    let now : length (rows_in c.settled.new.next.items) ≡ length c.settled.new.next.items = length-rows_in c.settled.new.next.items in
    omega arith

pub returns : goal.returns
returns c =
    let null : c.if-left.nullable ≡ (c.args.left.nullable && c.args.right.nullable) = elim c.if-left.branch [
      | then-left w ↦ and_is_then c.args.left.nullable c.args.right.nullable c.if-left.nullable w.if-left.true w.nullable-is
      | else-left w ↦ and_is_else c.args.left.nullable c.args.right.nullable c.if-left.nullable w.if-left.false w.nullable-is
    ] in
    let old = rows_in c.args.next.now.items in
    let one = rows_in c.crossed.new.next.items in
    let P : List ℕ → Type 0 = λ xs. AreSettled (λ p q. Contains xs p × Contains c.deref-2.result.now q) c.if-left.nullable c.in_ok-between.between.items old one in
    let Q : List ℕ → Type 0 = λ xs. AreSettled (λ p q. Contains c.args.left.lasts.items p × Contains xs q) c.if-left.nullable c.in_ok-between.between.items old one in
    let R = λ (b : Bool). AreSettled (λ p q. Contains c.args.left.lasts.items p × Contains c.args.right.firsts.items q) b c.in_ok-between.between.items old one in
    follow_fragment c.args.left c.args.right
    (record { nullable = c.if-left.nullable; repeats = false; firsts = c.in_ok-merged_if.field-0; lasts = c.in_ok-merged_if-2.field-0; owed = c.in_ok-merged-2.field-0 })
    c.in_ok-between.between.items c.in_ok-before.before.items c.in_ok-after_token.after_token.items old one (rows_in c.settled.new.next.items) (rows_in c.settled-2.new.next.items)
    (record {
      nullable = null;
      repeats = refl;
      firsts = c.in_ok-merged_if.ensures;
      lasts = c.in_ok-merged_if-2.ensures;
      owed = three_lists c.in_ok-merged-2.field-0.items c.in_ok-between.between.items c.in_ok-merged.field-0.items c.in_ok-before.before.items c.in_ok-after_token.after_token.items c.in_ok-merged-2.ensures c.in_ok-merged.ensures;
      crossed = subst R null (subst Q c.deref-2.ensures.value (subst P c.deref.ensures.value c.in_ok-between.ensures));
      settles_left = c.in_ok-before.ensures;
      settles_right = c.in_ok-after_token.ensures;
    })
