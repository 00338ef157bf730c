use Rattle.std.proofs.Common.{◌≡◌, ℕ, ◌-◌, true, false, List, [], ◌∷◌, ◌++◌, length, take, drop, Some, ap, ◌∙◌, sym, subst, arith, rules, true≢false}
use Rattle.std.specs.List.{list_any}
use Rattle.std.proofs.lemmas.Int.{to_z-of_z}
use Rattle.std.proofs.lemmas.List.{take_rest}
use mir.Val.{SFits}
use mir.Syntax.{w32}
use Rattle.transducer_reading.specs.declared.transducer.TransducerLine.{TransducerLine}
use Rattle.transducer_reading.specs.Reading.{Draft, last_line, has_conflict}
use Rattle.transducer_reading.specs.LastResults.{clashes, AreResults}
use Rattle.transducer_reading.specs.Drafts.{draft_view, IsLast}
use Rattle.transducer_reading.proofs.LastLemmas.{last-line, last-conflict, add-conflict, add-alone}
use Rattle.transducer_reading.proofs.draft.Draft.add_last.Goals as goal

pub returns-then-clash-clause-added : goal.returns-then-clash-clause-added
returns-then-clash-clause-added c =
    let old = c.args.self.now in
    let numbers = old.numbers.keys in
    let lines = old.lines.items in
    let fits : SFits w32 c.args.output = search rules in
    let some : length numbers ≡ 0 → ⊥ = λ none. absurd (true≢false (sym (c.is_empty.ensures.1 none) ∙ c.if-is_empty.false)) in
    let line : TransducerLine = last_line numbers c.args.letter (c.args.target, c.args.output) in
    let made : TransducerLine = record { state = c.len.result - 1; letter = c.args.letter; target = c.args.target; output = c.args.output } in
    let same : made ≡ line = ap (λ (n : ℕ). let l : TransducerLine = record { state = n - 1; letter = c.args.letter; target = c.args.target; output = c.args.output } in l) c.len.ensures.len in
    let clash : c.clash.result ≡ list_any (clashes made) (take (length c.deref.result.now - old.first) (drop old.first c.deref.result.now)) = simp to_z-of_z at c.clash.ensures in
    let own : take (length c.deref.result.now - old.first) (drop old.first c.deref.result.now) ≡ drop old.first lines = take_rest c.deref.result.now old.first ∙ ap (drop old.first) c.deref.ensures.value in
    let conflict : has_conflict lines line ≡ true =
    last-conflict numbers lines old.first old.results c.requires.last line (omega (arith, some))
    ∙ sym (ap (list_any (clashes made)) own ∙ ap (λ (l : TransducerLine). list_any (clashes l) (drop old.first lines)) same) ∙ sym clash ∙ c.if-clash.true in
    add-conflict c.args.at (draft_view old) line some conflict

pub returns-clause-added : goal.returns-clause-added
returns-clause-added c =
    let old = c.args.self.now in
    let numbers = old.numbers.keys in
    let lines = old.lines.items in
    let fits : SFits w32 c.args.output = search rules in
    let some : length numbers ≡ 0 → ⊥ = λ none. absurd (true≢false (sym (c.is_empty.ensures.1 none) ∙ c.if-is_empty.false)) in
    let line : TransducerLine = last_line numbers c.args.letter (c.args.target, c.args.output) in
    let made : TransducerLine = record { state = c.len.result - 1; letter = c.args.letter; target = c.args.target; output = c.args.output } in
    let same : made ≡ line = ap (λ (n : ℕ). let l : TransducerLine = record { state = n - 1; letter = c.args.letter; target = c.args.target; output = c.args.output } in l) c.len.ensures.len in
    let clash : c.clash.result ≡ list_any (clashes made) (take (length c.deref.result.now - old.first) (drop old.first c.deref.result.now)) = simp to_z-of_z at c.clash.ensures in
    let own : take (length c.deref.result.now - old.first) (drop old.first c.deref.result.now) ≡ drop old.first lines = take_rest c.deref.result.now old.first ∙ ap (drop old.first) c.deref.ensures.value in
    let alone : has_conflict lines line ≡ false =
    last-conflict numbers lines old.first old.results c.requires.last line (omega (arith, some))
    ∙ sym (ap (list_any (clashes made)) own ∙ ap (λ (l : TransducerLine). list_any (clashes l) (drop old.first lines)) same) ∙ sym clash ∙ c.if-clash.false in
    let items : c.push.new.self.items ≡ lines ++ (c.args.at, made) ∷ [] = simp to_z-of_z at c.in_ok-push.ensures.items in
    ap (λ (ls : List (ℕ × TransducerLine)). let d : Draft = record { set = old.set; numbers = numbers; lines = ls } in Some d) (items ∙ ap (λ (l : TransducerLine). lines ++ (c.args.at, l) ∷ []) same)
    ∙ add-alone c.args.at (draft_view old) line some alone

pub returns-clause-last : goal.returns-clause-last
returns-clause-last c added =
    let old = c.args.self.now in
    let numbers = old.numbers.keys in
    let lines = old.lines.items in
    let fits : SFits w32 c.args.output = search rules in
    let some : length numbers ≡ 0 → ⊥ = λ none. absurd (true≢false (sym (c.is_empty.ensures.1 none) ∙ c.if-is_empty.false)) in
    let made : TransducerLine = record { state = c.len.result - 1; letter = c.args.letter; target = c.args.target; output = c.args.output } in
    let clash : c.clash.result ≡ list_any (clashes made) (take (length c.deref.result.now - old.first) (drop old.first c.deref.result.now)) = simp to_z-of_z at c.clash.ensures in
    let own : take (length c.deref.result.now - old.first) (drop old.first c.deref.result.now) ≡ drop old.first lines = take_rest c.deref.result.now old.first ∙ ap (drop old.first) c.deref.ensures.value in
    let none : list_any (clashes made) (drop old.first lines) ≡ false = sym (ap (list_any (clashes made)) own) ∙ sym clash ∙ c.if-clash.false in
    let add : (ls : List (ℕ × TransducerLine)) (at : ℕ) → AreResults ls old.results → list_any (clashes made) ls ≡ false → AreResults (ls ++ (at, made) ∷ []) c.add.new.self = λ ls at. simp to_z-of_z at (c.in_ok-add.ensures ls at) in
    let items : c.push.new.self.items ≡ lines ++ (c.args.at, made) ∷ [] = simp to_z-of_z at c.in_ok-push.ensures.items in
    subst (λ (ls : List (ℕ × TransducerLine)). IsLast numbers ls old.first c.add.new.self) (sym items)
    (last-line numbers lines old.first old.results c.requires.last c.args.at made c.add.new.self (omega (arith, some, c.len.ensures.len)) (add (drop old.first lines) c.args.at c.requires.last.results_are none))
