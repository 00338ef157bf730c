use Rattle.std.proofs.Common.{◌≡◌, ℕ, ◌+◌, ◌-◌, ◌<◌, List, Option, None, Some, length, get_or, sym, ap, ◌∙◌, arith, rules, below_more}
use Rattle.std.specs.Option.{IfSome}
use Rattle.std.proofs.lemmas.List.{get_or_default}
use Rattle.digit_tuple.specs.Deterministic.{states_of}
use Rattle.residual_classes.specs.Classes.{class_of}
use Rattle.residual_classes.specs.TransitionLetters.{letter_at, listed}
use Rattle.residual_classes.proofs.FlatTransitionLemmas.{HasPlace-read, start_read, AreAlike-flat}
use Rattle.residual_classes.proofs.stability.lead_alike.Goals as goal

-- what is read a few places after a start
read_at : (xs : List ℕ) (start first k x : ℕ) → start ≡ first → x ≡ get_or xs (start + k) x → start + k < length xs → class_of xs (first + k) ≡ x
read_at xs start first k x is read within = ap (λ n. class_of xs (n + k)) (sym is) ∙ sym (read ∙ get_or_default xs (start + k) x 0 within)

-- a place of the table is one of the letters, where these are listed
letter_within : (letters : Option (List ℕ)) (targets : List ℕ) (place : ℕ) → IfSome letters (λ list. length list ≡ length targets) → place < length targets → IfSome letters (λ list. place < length list)
letter_within None targets place same within = search rules
letter_within (Some list) targets place same within = omega (arith, same, within)

pub index-requires : goal.index-requires
index-requires c = omega (arith, c.if-p-states.false, c.states-states.ensures.value, c.requires.flat.width, c.args.flat.now.starts.ok)

pub index-requires-2 : goal.index-requires-2
index-requires-2 c = omega (arith, c.if-q-states.false, c.states-states.ensures.value, c.requires.flat.width, c.args.flat.now.starts.ok)

pub index-requires-3 : goal.index-requires-3
index-requires-3 c = omega (arith, c.if-p-states.false, c.states-states.ensures.value, c.requires.flat.width, c.args.flat.now.starts.ok)

pub index-requires-4 : goal.index-requires-4
index-requires-4 c = omega (arith, c.if-q-states.false, c.states-states.ensures.value, c.requires.flat.width, c.args.flat.now.starts.ok)

pub overflow_sub-count : goal.overflow_sub-count
overflow_sub-count c =
    let flat = c.args.flat.now in
    let less : c.args.p < states_of c.args.dfa.now = omega (arith, c.if-p-states.false, c.states-states.ensures.value) in
    let read = start_read c.args.dfa.now flat.starts.items (listed flat.letters) flat.targets.items c.requires.flat c.states-states.ensures.table in
    omega (arith, read c.args.p c.index.result.now (omega (arith, less)) c.index.ensures, read (c.args.p + 1) c.index-3.result.now (omega (arith, less)) c.index-3.ensures, c.requires.flat.ends c.args.p less)

pub overflow_sub-index : goal.overflow_sub-index
overflow_sub-index c =
    let flat = c.args.flat.now in
    let less : c.args.q < states_of c.args.dfa.now = omega (arith, c.if-q-states.false, c.states-states.ensures.value) in
    let read = start_read c.args.dfa.now flat.starts.items (listed flat.letters) flat.targets.items c.requires.flat c.states-states.ensures.table in
    omega (arith, read c.args.q c.index-2.result.now (omega (arith, less)) c.index-2.ensures, read (c.args.q + 1) c.index-4.result.now (omega (arith, less)) c.index-4.ensures, c.requires.flat.ends c.args.q less)

pub overflow_add-start : goal.overflow_add-start
overflow_add-start c =
    let flat = c.args.flat.now in
    let there = HasPlace-read c.args.dfa.now flat.starts.items (listed flat.letters) flat.targets.items c.requires.flat c.states-states.ensures.table c.args.p (c.index.result.now + c.loop-place.place) c.index.result.now c.index-3.result.now (omega (arith, c.if-p-states.false, c.states-states.ensures.value))
    c.index.ensures c.index-3.ensures (omega arith) (omega (arith, c.loop-place-test.true)) in
    omega (arith, there.within, c.requires.flat.few)

pub letter-letter-requires-clause-small : goal.letter-letter-requires-clause-small
letter-letter-requires-clause-small c =
    let flat = c.args.flat.now in
    let there = HasPlace-read c.args.dfa.now flat.starts.items (listed flat.letters) flat.targets.items c.requires.flat c.states-states.ensures.table c.args.p (c.index.result.now + c.loop-place.place) c.index.result.now c.index-3.result.now (omega (arith, c.if-p-states.false, c.states-states.ensures.value))
    c.index.ensures c.index-3.ensures (omega arith) (omega (arith, c.loop-place-test.true)) in
    omega (arith, there.within, c.requires.flat.few)

pub letter-letter-requires-clause-within : goal.letter-letter-requires-clause-within
letter-letter-requires-clause-within c =
    let flat = c.args.flat.now in
    let there = HasPlace-read c.args.dfa.now flat.starts.items (listed flat.letters) flat.targets.items c.requires.flat c.states-states.ensures.table c.args.p (c.index.result.now + c.loop-place.place) c.index.result.now c.index-3.result.now (omega (arith, c.if-p-states.false, c.states-states.ensures.value))
    c.index.ensures c.index-3.ensures (omega arith) (omega (arith, c.loop-place-test.true)) in
    letter_within (listed flat.letters) flat.targets.items (c.index.result.now + c.loop-place.place) c.requires.flat.same there.within

pub overflow_add-other : goal.overflow_add-other
overflow_add-other c =
    let flat = c.args.flat.now in
    let there = HasPlace-read c.args.dfa.now flat.starts.items (listed flat.letters) flat.targets.items c.requires.flat c.states-states.ensures.table c.args.q (c.index-2.result.now + c.loop-place.place) c.index-2.result.now c.index-4.result.now (omega (arith, c.if-q-states.false, c.states-states.ensures.value))
    c.index-2.ensures c.index-4.ensures (omega arith) (omega (arith, c.loop-place-test.true, c.if-index-other.false)) in
    omega (arith, there.within, c.requires.flat.few)

pub letter-requires-clause-small : goal.letter-requires-clause-small
letter-requires-clause-small c =
    let flat = c.args.flat.now in
    let there = HasPlace-read c.args.dfa.now flat.starts.items (listed flat.letters) flat.targets.items c.requires.flat c.states-states.ensures.table c.args.q (c.index-2.result.now + c.loop-place.place) c.index-2.result.now c.index-4.result.now (omega (arith, c.if-q-states.false, c.states-states.ensures.value))
    c.index-2.ensures c.index-4.ensures (omega arith) (omega (arith, c.loop-place-test.true, c.if-index-other.false)) in
    omega (arith, there.within, c.requires.flat.few)

pub letter-requires-clause-within : goal.letter-requires-clause-within
letter-requires-clause-within c =
    let flat = c.args.flat.now in
    let there = HasPlace-read c.args.dfa.now flat.starts.items (listed flat.letters) flat.targets.items c.requires.flat c.states-states.ensures.table c.args.q (c.index-2.result.now + c.loop-place.place) c.index-2.result.now c.index-4.result.now (omega (arith, c.if-q-states.false, c.states-states.ensures.value))
    c.index-2.ensures c.index-4.ensures (omega arith) (omega (arith, c.loop-place-test.true, c.if-index-other.false)) in
    letter_within (listed flat.letters) flat.targets.items (c.index-2.result.now + c.loop-place.place) c.requires.flat.same there.within

pub overflow_add-start-in-loop-place : goal.overflow_add-start-in-loop-place
overflow_add-start-in-loop-place c =
    let flat = c.args.flat.now in
    let there = HasPlace-read c.args.dfa.now flat.starts.items (listed flat.letters) flat.targets.items c.requires.flat c.states-states.ensures.table c.args.p (c.index.result.now + c.loop-place.place) c.index.result.now c.index-3.result.now (omega (arith, c.if-p-states.false, c.states-states.ensures.value))
    c.index.ensures c.index-3.ensures (omega arith) (omega (arith, c.loop-place-test.true)) in
    omega (arith, there.within, c.requires.flat.few)

pub index-requires-in-loop-place : goal.index-requires-in-loop-place
index-requires-in-loop-place c =
    let flat = c.args.flat.now in
    let there = HasPlace-read c.args.dfa.now flat.starts.items (listed flat.letters) flat.targets.items c.requires.flat c.states-states.ensures.table c.args.p (c.index.result.now + c.loop-place.place) c.index.result.now c.index-3.result.now (omega (arith, c.if-p-states.false, c.states-states.ensures.value))
    c.index.ensures c.index-3.ensures (omega arith) (omega (arith, c.loop-place-test.true)) in
    omega (arith, there.within, flat.targets.ok)

pub overflow_add-other-in-loop-place : goal.overflow_add-other-in-loop-place
overflow_add-other-in-loop-place c =
    let flat = c.args.flat.now in
    let there = HasPlace-read c.args.dfa.now flat.starts.items (listed flat.letters) flat.targets.items c.requires.flat c.states-states.ensures.table c.args.q (c.index-2.result.now + c.loop-place.place) c.index-2.result.now c.index-4.result.now (omega (arith, c.if-q-states.false, c.states-states.ensures.value))
    c.index-2.ensures c.index-4.ensures (omega arith) (omega (arith, c.loop-place-test.true, c.if-index-other.false)) in
    omega (arith, there.within, c.requires.flat.few)

pub index-requires-in-loop-place-2 : goal.index-requires-in-loop-place-2
index-requires-in-loop-place-2 c =
    let flat = c.args.flat.now in
    let there = HasPlace-read c.args.dfa.now flat.starts.items (listed flat.letters) flat.targets.items c.requires.flat c.states-states.ensures.table c.args.q (c.index-2.result.now + c.loop-place.place) c.index-2.result.now c.index-4.result.now (omega (arith, c.if-q-states.false, c.states-states.ensures.value))
    c.index-2.ensures c.index-4.ensures (omega arith) (omega (arith, c.loop-place-test.true, c.if-index-other.false)) in
    omega (arith, there.within, flat.targets.ok)

pub bounds-classes-index : goal.bounds-classes-index
bounds-classes-index c =
    let flat = c.args.flat.now in
    let start = c.index.result.now in
    let place = c.loop-place.place in
    let there = HasPlace-read c.args.dfa.now flat.starts.items (listed flat.letters) flat.targets.items c.requires.flat c.states-states.ensures.table c.args.p (start + place) start c.index-3.result.now (omega (arith, c.if-p-states.false, c.states-states.ensures.value))
    c.index.ensures c.index-3.ensures (omega arith) (omega (arith, c.loop-place-test.true)) in
    omega (arith, c.index-in-loop-place.ensures ∙ get_or_default flat.targets.items (start + place) c.index-in-loop-place.result.now 0 there.within, there.target, c.requires.width)

pub bounds-classes-index-in-loop-place : goal.bounds-classes-index-in-loop-place
bounds-classes-index-in-loop-place c =
    let flat = c.args.flat.now in
    let start = c.index-2.result.now in
    let place = c.loop-place.place in
    let there = HasPlace-read c.args.dfa.now flat.starts.items (listed flat.letters) flat.targets.items c.requires.flat c.states-states.ensures.table c.args.q (start + place) start c.index-4.result.now (omega (arith, c.if-q-states.false, c.states-states.ensures.value))
    c.index-2.ensures c.index-4.ensures (omega arith) (omega (arith, c.loop-place-test.true, c.if-index-other.false)) in
    omega (arith, c.index-in-loop-place-2.ensures ∙ get_or_default flat.targets.items (start + place) c.index-in-loop-place-2.result.now 0 there.within, there.target, c.requires.width)

pub loop-place-preserved : goal.loop-place-preserved
loop-place-preserved c =
    let d = c.args.dfa.now in
    let flat = c.args.flat.now in
    let starts = flat.starts.items in
    let letters = listed flat.letters in
    let targets = flat.targets.items in
    let p = c.args.p in
    let q = c.args.q in
    let start = c.index.result.now in
    let other = c.index-2.result.now in
    let place = c.loop-place.place in
    let less : p < states_of d = omega (arith, c.if-p-states.false, c.states-states.ensures.value) in
    let low : q < states_of d = omega (arith, c.if-q-states.false, c.states-states.ensures.value) in
    let first = start_read d starts letters targets c.requires.flat c.states-states.ensures.table p start (omega (arith, less)) c.index.ensures in
    let second = start_read d starts letters targets c.requires.flat c.states-states.ensures.table q other (omega (arith, low)) c.index-2.ensures in
    let one = HasPlace-read d starts letters targets c.requires.flat c.states-states.ensures.table p (start + place) start c.index-3.result.now less c.index.ensures c.index-3.ensures (omega arith) (omega (arith, c.loop-place-test.true)) in
    let two = HasPlace-read d starts letters targets c.requires.flat c.states-states.ensures.table q (other + place) other c.index-4.result.now low c.index-2.ensures c.index-4.ensures (omega arith) (omega (arith, c.loop-place-test.true, c.if-index-other.false)) in
    record {
      letters = below_more _ _ c.loop-place.invariant.letters
          (ap (λ s. letter_at letters s (s + place)) (sym first) ∙ sym c.letter-letter.ensures ∙ c.if-letter.false ∙ c.letter.ensures ∙ ap (λ s. letter_at letters s (s + place)) second);
      targets = below_more _ _ c.loop-place.invariant.targets
          (ap (class_of c.args.classes.now) (read_at targets start (class_of starts p) place c.index-in-loop-place.result.now first c.index-in-loop-place.ensures one.within) ∙ c.if-class-classes.false
          ∙ ap (class_of c.args.classes.now) (sym (read_at targets other (class_of starts q) place c.index-in-loop-place-2.result.now second c.index-in-loop-place-2.ensures two.within)));
    }

pub returns : goal.returns
returns c _ =
    let d = c.args.dfa.now in
    let flat = c.args.flat.now in
    let starts = flat.starts.items in
    let p = c.args.p in
    let q = c.args.q in
    let count = c.index-3.result.now - c.index.result.now in
    let less : p < states_of d = omega (arith, c.if-p-states.false, c.states-states.ensures.value) in
    let low : q < states_of d = omega (arith, c.if-q-states.false, c.states-states.ensures.value) in
    let read = start_read d starts (listed flat.letters) flat.targets.items c.requires.flat c.states-states.ensures.table in
    let first = read p c.index.result.now (omega (arith, less)) c.index.ensures in
    let second = read q c.index-2.result.now (omega (arith, low)) c.index-2.ensures in
    let third = read (p + 1) c.index-3.result.now (omega (arith, less)) c.index-3.ensures in
    let fourth = read (q + 1) c.index-4.result.now (omega (arith, low)) c.index-4.ensures in
    AreAlike-flat d starts (listed flat.letters) flat.targets.items c.requires.flat c.states-states.ensures.table c.args.classes.now p q count less low c.requires.own
    (omega (arith, first, third, c.requires.flat.ends p less)) (omega (arith, second, fourth, c.requires.flat.ends q low, c.if-index-other.false))
    (λ k inside. c.loop-place.invariant.letters k (omega (arith, inside, c.loop-place-test.false))) (λ k inside. c.loop-place.invariant.targets k (omega (arith, inside, c.loop-place-test.false)))
