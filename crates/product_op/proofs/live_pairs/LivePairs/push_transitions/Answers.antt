use Rattle.std.proofs.Common.{◌++◌, get_or, take, sym, ap, ◌∙◌, subst, length}
use Rattle.std.specs.Option.{option_map, option_to_list}
use Rattle.std.proofs.lemmas.List.{take_all}
use Rattle.digit_tuple.specs.Keys.{AreKeyTransitions}
use Rattle.product_op.specs.Readings.{readings_in}
use Rattle.product_op.specs.DeadPairs.{live_pair, live_pair_after}
use Rattle.product_op.specs.LeadingLetters.{key_transition}
use Rattle.product_op.proofs.LeadingLemmas.{transitions_by, transitions_by_more, AreKeyTransitions-leading}
use Rattle.product_op.proofs.PairReaders.{length-automata, length-pair}
use Rattle.product_op.proofs.ReaderLemmas.{length-readings}
use Rattle.product_op.proofs.KeyLemmas.{length-next_key}
use Rattle.product_op.proofs.live_pairs.LivePairs.push_transitions.Goals as goal

pub next_states_by-requires-clause-readers : goal.next_states_by-requires-clause-readers
next_states_by-requires-clause-readers c = (c.args.self.now.letters, c.requires.pair.readings_are, c.requires.letters.in_range c.loop-letter.letter-index 0 c.loop-letter-test.true)

pub loop-letter-preserved : goal.loop-letter-preserved
loop-letter-preserved c =
    let s = c.args.self.now in
    let rs = readings_in s.readers.now in
    let after = live_pair_after s.op rs c.args.key.now in
    let letters = c.args.letters.now in
    let place = c.loop-letter.letter-index in
    let letter = get_or letters place 0 in
    record {
      transitions = c.in_ok-push_live.ensures
          ∙ ap (λ es. es ++ option_to_list (option_map (key_transition letter) (live_pair s.op rs c.next_states_by.new.next))) c.loop-letter.invariant.transitions
          ∙ ap (λ key. transitions_by after (take place letters) ++ option_to_list (option_map (key_transition letter) (live_pair s.op rs key))) c.next_states_by.ensures
          ∙ sym (transitions_by_more after letters place c.loop-letter-test.true);
      rows = c.loop-letter.invariant.rows;
    }

pub returns : goal.returns
returns c =
    let s = c.args.self.now in
    let after = live_pair_after s.op (readings_in s.readers.now) c.args.key.now in
    let letters = c.args.letters.now in
    let all = c.give_spare.ensures ∙ c.loop-letter.invariant.transitions ∙ ap (transitions_by after) (take_all c.loop-letter.letter-index letters c.loop-letter-test.false) in
    subst (AreKeyTransitions s.letters after) (sym all) (AreKeyTransitions-leading s.letters after letters c.requires.letters)

pub next_rows-requires : goal.next_rows-requires
next_rows-requires c =
    let g = c.args.self.now in
    c.requires.key.count ∙ sym (ap length c.requires.tables ∙ length-automata (readings_in g.readers.now))

pub next_states_by-requires-clause-key : goal.next_states_by-requires-clause-key
next_states_by-requires-clause-key c = c.requires.key.count ∙ length-readings c.args.self.now.readers.now

pub next_states_by-requires-clause-rows : goal.next_states_by-requires-clause-rows
next_states_by-requires-clause-rows c = c.loop-letter.invariant.rows

pub push_live-requires-clause-count : goal.push_live-requires-clause-count
push_live-requires-clause-count c =
    let g = c.args.self.now in
    length-pair g.letters g.op g.readers.now c.requires.pair

pub push_live-requires-clause-key : goal.push_live-requires-clause-key
push_live-requires-clause-key c =
    let g = c.args.self.now in
    ap length c.next_states_by.ensures ∙ length-next_key (readings_in g.readers.now) c.args.key.now (get_or c.args.letters.now c.loop-letter.letter-index 0) ∙ c.requires.pair.count
