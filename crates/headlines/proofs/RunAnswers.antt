-- The answers of a run, by its turns.
use Rattle.std.proofs.Common.{◌≡◌, ℕ, zero, suc, List, [], ◌∷◌, ◌++◌, Option, None, Some, IfSome, Ok, Err, false, inl, inr, refl, sym, ap, ◌∙◌, subst}
use Rattle.std.specs.Io.KnownBytes.{Consumes}
use Rattle.std.proofs.lemmas.List.{append_assoc, append-nil}
use Rattle.wal_outside.specs.Sending.{Grows, HasSent}
use Rattle.wal_outside.specs.Views.{SourceView, SinkView, StoreView}
use Rattle.wal_outside.specs.declared.sink.WriteFault.{WriteFault}
use Rattle.script_cut.specs.Cuts.{Rest, start, IsAtEnd}
use Rattle.script_runs.specs.Languages.{CommandLanguage, Enters, Loads, Ends, Reply}
use Rattle.script_runs.specs.Replies.{State, Answered, Replies, state_after, ledger_after}
use Rattle.script_runs.specs.Turns.{Turns, no_more, cut_off, turn, in_order, is_cut_off}
use Rattle.script_runs.specs.Runs.{room_at, place_with, with_room, by_load, Run, first_state}
use Rattle.script_runs.specs.Printed.{line_of, printed}
use Rattle.script_runs.specs.Ends.{HasTurns, PrintsPart, HasRun}
use Rattle.script_runs.specs.declared.status.Status.{Status}
use Rattle.script_runs.proofs.Counting.{printed-append}
use Rattle.headlines.specs.Runs.{Answer, Answers, none, answer, AreIn, lines_of, ArePrinted, Each, EachBy}

-- from each answer one thing, so each has it
pub each_from : {L : Type 0} (Q : Answer → Type 0) (known last : L) (answers : Answers) → EachBy (λ before a next. Q a) known answers last → Each Q answers
each_from Q known last none each = tt
each_from Q known last (answer first inside following) (next, mid, is, rest, more) = (is, each_from Q next mid inside rest, each_from Q mid last following more)

module _ {F : Type 0} (l : CommandLanguage F) where
  abbrev pub answer_of : Answered l → Answer
  answer_of a = record { item = a.item; line = line_of l a.item a.reply }

  abbrev pub answers_of : Turns l → Answers
  answers_of no_more = none
  answers_of cut_off = none
  answers_of (turn first inside following) = answer (answer_of first) (answers_of inside) (answers_of following)

  lines_are : (turns : Turns l) → lines_of (answers_of turns) ≡ printed l (in_order l turns)
  lines_are no_more = refl
  lines_are cut_off = refl
  lines_are (turn first inside following) =
      ap (λ (text : List ℕ). line_of l first.item first.reply ++ text) ((λ i. lines_are inside i ++ lines_are following i) ∙ sym (printed-append l (in_order l inside) (in_order l following)))

  -- at each depth the items of a text are cut from it
  placed : (depth : ℕ) (mid : Rest) (room : ℕ) (answers : Answers) → AreIn (place_with depth mid room) answers → (r : ℕ) × AreIn (record mid { room = r }) answers
  placed zero mid room answers are = (room, are)
  placed (suc depth) mid room answers are = (mid.room, are)

  inside_in : (inside : Turns l) (depth : ℕ) (here later : State l) → ((place last : Rest) (old new : State l) → Run l (suc depth) place old inside last new → AreIn place (answers_of inside)) → (reply : Reply l)
      → by_load l reply (λ loaded. (end : Rest) × Run l (suc depth) (start loaded) here inside end later × (is_cut_off l inside ≡ false → IsAtEnd end)) ((inside ≡ no_more) × (later ≡ here))
      → (loaded : List ℕ) × AreIn (start loaded) (answers_of inside)
  inside_in inside depth here later are (Ok (Enters success)) (is, same) = ([], subst (λ (t : Turns l). AreIn (start []) (answers_of t)) (sym is) tt)
  inside_in inside depth here later are (Ok (Loads loaded)) (end, run, ended) = (loaded, are (start loaded) end here later run)
  inside_in inside depth here later are (Ok Ends) (is, same) = ([], subst (λ (t : Turns l). AreIn (start []) (answers_of t)) (sym is) tt)
  inside_in inside depth here later are (Err fault) (is, same) = ([], subst (λ (t : Turns l). AreIn (start []) (answers_of t)) (sym is) tt)

  are_in : (turns : Turns l) (depth : ℕ) (place last : Rest) (old new : State l) → Run l depth place old turns last new → AreIn place (answers_of turns)
  are_in no_more depth place last old new run = tt
  are_in cut_off depth place last old new run = tt
  are_in (turn first inside following) depth place last old new (mid, store, later, next, replies, loaded, ends, run) = (
    mid,
    next,
    inside_in inside depth (state_after l (with_room l old (room_at depth mid old.room)) first.reply store) later (are_in inside (suc depth)) first.reply loaded,
    placed depth mid later.room (answers_of following) (are_in following depth (place_with depth mid later.room) last later new run),
  )

  -- What holds of each reply, by what is seen of the ledger and the store and what is known of the store, holds of each answer.
  module _ {L : Type 0} (seen : l.Ledger → StoreView → L) (Known : StoreView → Type 0) (P : L → Answer → L → Type 0)
      (keeps : (depth : ℕ) (old : State l) (first : Answered l) (store : StoreView) → Replies l depth old first store → Known old.store → Known store)
      (says : (depth : ℕ) (old : State l) (first : Answered l) (store : StoreView) → Replies l depth old first store → Known old.store → P (seen old.ledger old.store) (answer_of first) (seen (ledger_after l old.ledger first.reply) store)) where
    abbrev Says : Turns l → State l → State l → Type 0
    Says turns old new = EachBy P (seen old.ledger old.store) (answers_of turns) (seen new.ledger new.store) × Known new.store

    nothing_said : (old new : State l) → new ≡ old → Known old.store → EachBy P (seen old.ledger old.store) none (seen new.ledger new.store) × Known new.store
    nothing_said old new is known = (ap (λ (s : State l). seen s.ledger s.store) is, subst (λ (s : State l). Known s.store) (sym is) known)

    inside_says : (inside : Turns l) (depth : ℕ) (here later : State l) → ((place last : Rest) (old new : State l) → Run l (suc depth) place old inside last new → Known old.store → Says inside old new) → (reply : Reply l)
        → by_load l reply (λ loaded. (end : Rest) × Run l (suc depth) (start loaded) here inside end later × (is_cut_off l inside ≡ false → IsAtEnd end)) ((inside ≡ no_more) × (later ≡ here))
        → Known here.store → Says inside here later
    inside_says inside depth here later each (Ok (Enters success)) (is, same) known = subst (λ (t : Turns l). Says t here later) (sym is) (nothing_said here later same known)
    inside_says inside depth here later each (Ok (Loads loaded)) (end, run, ended) known = each (start loaded) end here later run known
    inside_says inside depth here later each (Ok Ends) (is, same) known = subst (λ (t : Turns l). Says t here later) (sym is) (nothing_said here later same known)
    inside_says inside depth here later each (Err fault) (is, same) known = subst (λ (t : Turns l). Says t here later) (sym is) (nothing_said here later same known)

    pub each_says : (turns : Turns l) (depth : ℕ) (place last : Rest) (old new : State l) → Run l depth place old turns last new → Known old.store → Says turns old new
    each_says no_more depth place last old new run known = nothing_said old new run.1 known
    each_says cut_off depth place last old new run known = nothing_said old new run.1 known
    each_says (turn first inside following) depth place last old new (mid, store, later, next, replies, loaded, ends, run) known =
        let here : State l = with_room l old (room_at depth mid old.room) in
        let after : State l = state_after l here first.reply store in
        let there : Says inside after later = inside_says inside depth after later (each_says inside (suc depth)) first.reply loaded (keeps depth here first store replies known) in
        let rest : Says following later new = each_says following depth (place_with depth mid later.room) last later new run there.1 in
        ((seen after.ledger after.store, seen later.ledger later.store, says depth here first store replies known, there.0, rest.0), rest.1)

  -- what a sink holds of the lines
  whole : (held now : Option (List ℕ)) (text : List ℕ) → Grows held now text (Ok tt) → (before : List ℕ) → held ≡ Some before → now ≡ Some (before ++ text)
  unfolding Grows
  whole None now text grows before is = absurd cc
  whole (Some held) now text grows before is = grows ∙ (let same : held ≡ before = cc in ap (λ (xs : List ℕ). Some (xs ++ text)) same)

  all_printed : (turns : Turns l) (held now : SinkView) → HasSent held (printed l (in_order l turns)) now → ArePrinted (answers_of turns) held now
  all_printed turns held now sent = record {
    printed = printed l (in_order l turns);
    rest = [];
    split = lines_are turns ∙ sym (append-nil (printed l (in_order l turns)));
    sent = whole held.held now.held (printed l (in_order l turns)) sent.held;
  }

  -- a part of the last line
  record IsPart (held now : Option (List ℕ)) (lead line : List ℕ) : Type 0 where
    prefix : List ℕ
    rest : List ℕ
    split : line ≡ prefix ++ rest
    sent : (before : List ℕ) → held ≡ Some before → now ≡ Some (before ++ (lead ++ prefix))

  part_of : (held mid now : Option (List ℕ)) (lead line : List ℕ) (fault : WriteFault) → Grows held mid lead (Ok tt) → Grows mid now line (Err fault) → IsPart held now lead line
  unfolding Grows
  part_of None mid now lead line fault first last = record { prefix = line; rest = []; split = sym (append-nil line); sent = λ before is. absurd cc }
  part_of (Some held) None now lead line fault first last = absurd cc
  part_of (Some held) (Some out) now lead line fault first (prefix, proper, is) = record {
    prefix = prefix;
    rest = proper.rest;
    split = proper.split;
    sent = λ before same.
        let out_is : out ≡ held ++ lead = cc in
        let held_is : held ≡ before = cc in
        is ∙ ap (λ (xs : List ℕ). Some (xs ++ prefix)) (out_is ∙ ap (λ (xs : List ℕ). xs ++ lead) held_is) ∙ ap (λ (xs : List ℕ). Some xs) (append_assoc before lead prefix);
  }

  part_printed : (turns : Turns l) (held now : SinkView) (fault : WriteFault) → PrintsPart l held (in_order l turns) fault now → ArePrinted (answers_of turns) held now
  part_printed turns held now fault part =
      let line : List ℕ = line_of l part.last.item part.last.reply in
      let is : IsPart held.held now.held (printed l part.prefix) line = part_of held.held part.mid.held now.held (printed l part.prefix) line fault part.sent.held part.stopped.held in
      record {
        printed = printed l part.prefix ++ is.prefix;
        rest = is.rest;
        split = lines_are turns ∙ ap (printed l) part.split ∙ printed-append l part.prefix (part.last ∷ []) ∙ ap (λ (xs : List ℕ). printed l part.prefix ++ xs) (append-nil line ∙ is.split) ∙ sym (append_assoc (printed l part.prefix) is.prefix is.rest);
        sent = is.sent;
      }

  -- a run as answers
  pub record IsAnswered (script : List ℕ) (old new : StoreView) (held now : SinkView) : Type 0 where
    pub turns : Turns l
    pub last : Rest
    pub has_turns : HasTurns l script old turns last new
    pub cut : AreIn (start script) (answers_of turns)
    pub printed : ArePrinted (answers_of turns) held now

  answered_by : (script : List ℕ) (old new : StoreView) (held now : SinkView) (turns : Turns l) (last : Rest) → HasTurns l script old turns last new → ArePrinted (answers_of turns) held now → IsAnswered script old new held now
  answered_by script old new held now turns last has printed = record {
    turns = turns;
    last = last;
    has_turns = has;
    cut = are_in turns 0 (start script) last (first_state l old) (record { ledger = has.ledger; store = new; room = has.room }) has.run;
    printed = printed;
  }

  given : (from to : Option (List ℕ)) (gave more script : List ℕ) → Consumes from to gave → IfSome to (λ left. more ≡ left) → from ≡ Some script → gave ++ more ≡ script
  given None to gave more script taken reported is = absurd cc
  given (Some xs) None gave more script taken reported is = absurd taken
  given (Some xs) (Some ys) gave more script taken reported is = let same : xs ≡ script = cc in ap (λ (zs : List ℕ). gave ++ zs) reported ∙ sym taken ∙ same

  pub run_answers : (from to : SourceView) (old new : StoreView) (held now : SinkView) (state : Status) (script : List ℕ) → HasRun l from to old new held now state → from.left ≡ Some script → IsAnswered script old new held now
  run_answers from to old new held now state script (gave, more, has_given, inl through) is =
      subst (λ (text : List ℕ). IsAnswered text old new held now) (given from.left to.left gave more script has_given.taken has_given.reported is)
      (answered_by (gave ++ more) old new held now through.turns through.last through.has_turns (all_printed through.turns held now through.sent))
  run_answers from to old new held now state script (gave, more, has_given, inr (inl stop)) is =
      subst (λ (text : List ℕ). IsAnswered text old new held now) (given from.left to.left gave more script has_given.taken has_given.reported is)
      (answered_by (gave ++ more) old new held now stop.turns stop.last stop.has_turns (part_printed stop.turns held now stop.fault stop.part))
  run_answers from to old new held now state script (gave, more, has_given, inr (inr fault)) is =
      subst (λ (text : List ℕ). IsAnswered text old new held now) (given from.left to.left gave more script has_given.taken has_given.reported is)
      (answered_by (gave ++ more) old new held now fault.turns fault.last fault.has_turns (all_printed fault.turns held now fault.sent))
