use Rattle.std.proofs.Common.{◌++◌, drop, length, length-append, length-drop, arith, refl}
use Rattle.std.proofs.lemmas.List.{length-take}
use Rattle.digit_tuple.specs.Headers.{sets_of}
use Rattle.dfa_text.specs.LinePrefixes.{letter_prefix}
use Rattle.dfa_text.proofs.LinePrefixLemmas.{prefixes_more}
use Rattle.dfa_text.proofs.line_prefixes.LinePrefixes.new.Goals as goal

pub loop-letter-preserved : goal.loop-letter-preserved
loop-letter-preserved c =
    let sets = sets_of c.args.header.now in
    let letter = c.loop-letter.letter in
    let are =
    prefixes_more sets c.loop-letter.bytes.items c.loop-letter.ends (letter_prefix sets letter) c.push_front.new.out.items c.push.new.self letter c.len.result c.loop-letter.invariant.are refl
    c.in_ok-push_front.ensures (omega (arith, c.len.ensures, c.push_front.new.out.ok)) c.in_ok-push.ensures.ok in
    record {
      are = are;
      tracks = omega (arith, length-take c.loop-letter.places.len (c.push_front.new.places ++ drop (length c.push_front.new.places) c.loop-letter.places.items), length-append c.push_front.new.places (drop (length c.push_front.new.places) c.loop-letter.places.items), length-drop (length c.push_front.new.places) c.loop-letter.places.items, c.loop-letter.places.ok, c.loop-letter.invariant.tracks);
    }

pub invariant_of-result : goal.invariant_of-result
invariant_of-result c = c.loop-letter.invariant.are.are
