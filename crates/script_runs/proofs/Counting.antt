-- What is printed and counted of replies, and of more.
use Rattle.std.proofs.Common.{◌≡◌, ℕ, ◌+◌, ◌^◌, ◌<◌, Bool, true, false, not, ◌||◌, List, [], ◌∷◌, ◌++◌, length, Result, Ok, Err, refl, sym, ◌∙◌, ap, subst, append_assoc, length-append, arith}
use Rattle.std.specs.Str.{bytes_eq}
use Rattle.wal_outside.specs.Sending.{HasSent}
use Rattle.wal_outside.specs.Views.{SinkView}
use Rattle.wal_outside.proofs.SendingSteps.{sends_then}
use Rattle.wal_outside.specs.declared.sink.WriteFault.{WriteFault}
use Rattle.script_runs.specs.declared.deed.Deed.{Deed}
use Rattle.script_runs.specs.declared.deed.Deed.TheVariants as deeds
use Rattle.script_runs.specs.declared.counts.Counts.{Counts as Numbers}
use Rattle.script_runs.specs.declared.flow.Flow.{Flow}
use Rattle.script_runs.specs.declared.flow.Flow.TheVariants as flows
use Rattle.script_runs.specs.declared.tally.Tally.{Tally}
use Rattle.script_runs.specs.Languages.{CommandLanguage, Enters, Loads, Ends, Deed as Made, Reply, is_store_fault}
use Rattle.script_runs.specs.Replies.{Answered, is_refusal, is_by_store, is_by_memory, Gives}
use Rattle.script_runs.specs.Printed.{is_shown, line_of, printed, some_of, status_by, status_of}
use Rattle.script_runs.specs.Counted.{true_line, false_line, is_refused, prints_only, prints_other, no_counts, AreCounted}
use Rattle.script_runs.specs.Tallies.{nothing, AddsFault, AddsKind, handed, AddsCount, AddsResult, one_more_if, Adds, AddsCounts, Counts, tally_status}
use Rattle.wal_outside.specs.Causes.{one_more}
use Rattle.script_cut.specs.Cuts.{Item}
use Rattle.script_runs.proofs.CountSums.{adds_none, adds_then, adds_one, adds_all}
use Rattle.script_runs.specs.Ends.{PrintsPart}
use Rattle.script_runs.specs.Flows.{Prints}

pub or-assoc : (u v w : Bool) → ((u || v) || w) ≡ (u || (v || w))
or-assoc true v w = refl
or-assoc false v w = refl

or_false : (v : Bool) → v ≡ (v || false)
or_false true = refl
or_false false = refl

or_true : (v : Bool) → true ≡ (v || (true || false))
or_true true = refl
or_true false = refl

or_one : (v w : Bool) → (v || w) ≡ (v || (w || false))
or_one true w = refl
or_one false w = or_false w

pub printed-append : {F : Type 0} (l : CommandLanguage F) (prefix more : List (Answered l)) → printed l (prefix ++ more) ≡ printed l prefix ++ printed l more
printed-append l [] more = refl
printed-append l (a ∷ prefix) more = ap (λ (text : List ℕ). line_of l a.item a.reply ++ text) (printed-append l prefix more) ∙ sym (append_assoc (line_of l a.item a.reply) (printed l prefix) (printed l more))

pub some_of-append : {F : Type 0} (l : CommandLanguage F) (p : Reply l → Bool) (prefix more : List (Answered l)) → some_of l p (prefix ++ more) ≡ (some_of l p prefix || some_of l p more)
some_of-append l p [] more = refl
some_of-append l p (a ∷ prefix) more = ap (λ (v : Bool). p a.reply || v) (some_of-append l p prefix more) ∙ sym (or-assoc (p a.reply) (some_of l p prefix) (some_of l p more))

counted_then : (u v w x y z : Bool) → v ≡ (u || x) → w ≡ (v || y) → z ≡ (x || y) → w ≡ (u || z)
counted_then u v w x y z a b c = b ∙ (ap (λ (t : Bool). t || y) a ∙ (or-assoc u x y ∙ ap (λ (t : Bool). u || t) (sym c)))

-- how many more
long_then : {X : Type 0} (old mid new : ℕ) (prefix more : List X) → Adds old (length prefix) mid → Adds mid (length more) new → Adds old (length (prefix ++ more)) new
long_then old mid new prefix more a b few =
    let all : length (prefix ++ more) ≡ length prefix + length more = length-append prefix more in
    let first : mid ≡ old + length prefix = a (omega (arith, few, all)) in
    let second : new ≡ mid + length more = b (omega (arith, few, all, first)) in
    omega (arith, all, first, second)

-- an accepted command more, of which this is printed
record AddsPrinted (old new : Numbers) (text : List ℕ) : Type 0 where
  commands : new.commands ≡ one_more old.commands
  yes : new.yes ≡ one_more_if (bytes_eq text true_line) old.yes
  no : new.no ≡ one_more_if (bytes_eq text false_line) old.no
  other : new.other ≡ one_more_if (not (bytes_eq text true_line || bytes_eq text false_line)) old.other
  refused : new.refused ≡ old.refused

numbers_then : {F : Type 0} (l : CommandLanguage F) (old mid new : Numbers) (prefix more : List (Answered l)) → AddsCounts l old prefix mid → AddsCounts l mid more new → AddsCounts l old (prefix ++ more) new
numbers_then l old mid new prefix more a b = record {
  commands = long_then old.commands mid.commands new.commands prefix more a.commands b.commands;
  yes = adds_then (prints_only l true_line) old.yes mid.yes new.yes prefix more a.yes b.yes;
  no = adds_then (prints_only l false_line) old.no mid.no new.no prefix more a.no b.no;
  other = adds_then (prints_other l) old.other mid.other new.other prefix more a.other b.other;
  refused = adds_then (is_refused l) old.refused mid.refused new.refused prefix more a.refused b.refused;
}

-- what is handed over of an accepted command is what is printed of it
handed_line : {F : Type 0} (l : CommandLanguage F) (item : Item) (deed : Made l.Success) (done : Deed) → Gives {F = F} l (is_shown item.ended) (Ok done) (Ok deed) → line_of {F = F} l item (Ok deed) ≡ handed done
handed_line l item (Enters success) (deeds.Enters printed) gives = sym gives
handed_line l item (Loads loaded) (deeds.Enters printed) gives = absurd gives
handed_line l item Ends (deeds.Enters printed) gives = absurd gives
handed_line l item (Enters success) (deeds.Loads text) gives = absurd gives
handed_line l item (Loads loaded) (deeds.Loads text) gives = refl
handed_line l item Ends (deeds.Loads text) gives = absurd gives
handed_line l item (Enters success) deeds.Ends gives = absurd gives
handed_line l item (Loads loaded) deeds.Ends gives = absurd gives
handed_line l item Ends deeds.Ends gives = refl

-- one result more
numbers_one : {F : Type 0} (l : CommandLanguage F) (old new : Numbers) (item : Item) (reply : Reply l) (result : Result Deed F) → Gives l (is_shown item.ended) result reply → AddsCount old result new → AddsCounts l old (record { item = item; reply = reply } ∷ []) new
numbers_one {F} l old new item (Ok deed) (Ok done) gives adds =
    let first : Answered l = record { item = item; reply = Ok deed } in
    let P : List ℕ → Type 0 = λ text. AddsPrinted old new text in
    let a : P (line_of {F = F} l item (Ok deed)) = subst P (sym (handed_line l item deed done gives)) (record { commands = adds.commands; yes = adds.yes; no = adds.no; other = adds.other; refused = adds.refused }) in
    record {
      commands = λ few. omega (arith, a.commands, few);
      yes = adds_one (prints_only l true_line) old.yes new.yes first a.yes;
      no = adds_one (prints_only l false_line) old.no new.no first a.no;
      other = adds_one (prints_other l) old.other new.other first a.other;
      refused = adds_one (is_refused l) old.refused new.refused first a.refused;
    }
numbers_one l old new item (Ok deed) (Err fault) gives adds = absurd gives
numbers_one l old new item (Err refusal) (Ok done) gives adds = absurd gives
numbers_one {F} l old new item (Err refusal) (Err fault) gives adds =
    let first : Answered l = record { item = item; reply = Err refusal } in
    record {
      commands = λ few. omega (arith, adds.commands, few);
      yes = adds_one (prints_only l true_line) old.yes new.yes first adds.yes;
      no = adds_one (prints_only l false_line) old.no new.no first adds.no;
      other = adds_one (prints_other l) old.other new.other first adds.other;
      refused = adds_one (is_refused l) old.refused new.refused first adds.refused;
    }

-- all that was counted
pub numbers_all : {F : Type 0} (l : CommandLanguage F) (answered : List (Answered l)) (new : Numbers) → AddsCounts l no_counts answered new → length answered < 2 ^ 64 → AreCounted l answered new
numbers_all l answered new a few = record {
  commands = let is : new.commands ≡ 0 + length answered = a.commands (omega (arith, few)) in omega (arith, is);
  yes = adds_all (prints_only l true_line) new.yes answered a.yes few;
  no = adds_all (prints_only l false_line) new.no answered a.no few;
  other = adds_all (prints_other l) new.other answered a.other few;
  refused = adds_all (is_refused l) new.refused answered a.refused few;
}

-- none is counted yet
pub counts_none : {F : Type 0} (l : CommandLanguage F) (tally : Tally) → Counts l tally [] tally
counts_none l tally = record {
  refused = or_false tally.refused;
  store = or_false tally.store;
  memory = or_false tally.memory;
  counts = record {
    commands = λ few. omega arith;
    yes = adds_none (prints_only l true_line) tally.counts.yes;
    no = adds_none (prints_only l false_line) tally.counts.no;
    other = adds_none (prints_other l) tally.counts.other;
    refused = adds_none (is_refused l) tally.counts.refused;
  };
}

-- some, and then more
pub counts_then : {F : Type 0} (l : CommandLanguage F) (old mid new : Tally) (prefix more : List (Answered l)) → Counts l old prefix mid → Counts l mid more new → Counts l old (prefix ++ more) new
counts_then l old mid new prefix more a b = record {
  refused = counted_then old.refused mid.refused new.refused (some_of l (is_refusal l) prefix) (some_of l (is_refusal l) more) (some_of l (is_refusal l) (prefix ++ more)) a.refused b.refused (some_of-append l (is_refusal l) prefix more);
  store = counted_then old.store mid.store new.store (some_of l (is_by_store l) prefix) (some_of l (is_by_store l) more) (some_of l (is_by_store l) (prefix ++ more)) a.store b.store (some_of-append l (is_by_store l) prefix more);
  memory = counted_then old.memory mid.memory new.memory (some_of l (is_by_memory l) prefix) (some_of l (is_by_memory l) more) (some_of l (is_by_memory l) (prefix ++ more)) a.memory b.memory (some_of-append l (is_by_memory l) prefix more);
  counts = numbers_then l old.counts mid.counts new.counts prefix more a.counts b.counts;
}

-- one result more
pub counts_one : {F : Type 0} (l : CommandLanguage F) (tally counted : Tally) (first : Answered l) (result : Result Deed F) → Gives l (is_shown first.item.ended) result first.reply → AddsResult l tally result counted → Counts l tally (first ∷ []) counted
counts_one {F} l tally counted first result gives adds = by_reply first.reply result gives adds.kind (numbers_one l tally.counts counted.counts first.item first.reply result gives adds.count)
  where
    by_reply : (reply : Reply l) (result : Result Deed F) → Gives l (is_shown first.item.ended) result reply → AddsKind l tally result counted → AddsCounts l tally.counts (record { item = first.item; reply = reply } ∷ []) counted.counts → Counts l tally (record { item = first.item; reply = reply } ∷ []) counted
    by_reply (Ok deed) (Ok done) gives same counts = record { refused = same.refused ∙ or_false tally.refused; store = same.store ∙ or_false tally.store; memory = same.memory ∙ or_false tally.memory; counts = counts }
    by_reply (Ok deed) (Err fault) gives adds counts = absurd gives
    by_reply (Err refusal) (Ok done) gives adds counts = absurd gives
    by_reply (Err refusal) (Err fault) gives adds counts =
        let a : AddsFault l tally refusal counted = subst (λ (f : F). AddsFault l tally f counted) gives adds in
        record { refused = a.refused ∙ or_true tally.refused; store = a.store ∙ or_one tally.store (is_store_fault l refusal); memory = a.memory ∙ or_one tally.memory (l.is_memory refusal); counts = counts }

-- all lines so far, and then more
pub prints_then : {F : Type 0} (l : CommandLanguage F) (held mid now : SinkView) (prefix more : List (Answered l)) (flow : Flow) → HasSent held (printed l prefix) mid → Prints l mid more flow now → Prints l held (prefix ++ more) flow now
prints_then {F} l held mid now prefix more flow sent prints = by_flow flow prints
  where
    whole : HasSent mid (printed l more) now → HasSent held (printed l (prefix ++ more)) now
    whole later = let P : List ℕ → Type 0 = λ text. HasSent held text now in subst P (sym (printed-append l prefix more)) (sends_then held mid now (printed l prefix) (printed l more) (Ok tt) sent later)

    part : (fault : WriteFault) → PrintsPart l mid more fault now → PrintsPart l held (prefix ++ more) fault now
    part fault p = record {
      prefix = prefix ++ p.prefix;
      last = p.last;
      split = ap (λ (xs : List (Answered l)). prefix ++ xs) p.split ∙ sym (append_assoc prefix p.prefix (p.last ∷ []));
      mid = p.mid;
      sent = let P : List ℕ → Type 0 = λ text. HasSent held text p.mid in subst P (sym (printed-append l prefix p.prefix)) (sends_then held mid p.mid (printed l prefix) (printed l p.prefix) (Ok tt) sent p.sent);
      stopped = p.stopped;
    }

    by_flow : (flow : Flow) → Prints l mid more flow now → Prints l held (prefix ++ more) flow now
    by_flow flows.GoesOn prints = whole prints
    by_flow flows.Ends prints = whole prints
    by_flow (flows.Stopped fault) prints = part fault prints
    by_flow flows.WantsMemory prints = whole prints

-- the status of all replies is that of what was counted
pub status_counted : {F : Type 0} (l : CommandLanguage F) (tally : Tally) (answered : List (Answered l)) → Counts l nothing answered tally → tally_status tally ≡ status_of l answered
status_counted l tally answered c = λ i. status_by (c.refused i) (c.store i) (c.memory i)
