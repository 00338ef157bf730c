-- How many bytes the items of a run have.
use Rattle.std.proofs.Common.{◌≡◌, ◌≢◌, ℕ, suc, ◌+◌, ◌-◌, ◌<◌, ◌≤◌, ◌⊎◌, Bool, true, false, cond, List, [], ◌∷◌, ◌++◌, length, Ok, Err, refl, sym, ◌∙◌, ap, inl, inr, arith, length-append}
use Rattle.wal_outside.specs.Views.{StoreView}
use Rattle.script_cut.specs.Texts.{Starts}
use Rattle.script_cut.specs.Cuts.{Ended, Terminated, Unterminated, PastLimit, Rest, CutsCommand, CutsOpen, CutsOff, IsCut, start}
use Rattle.script_runs.specs.declared.script_fault.ScriptFault.TheVariants as script
use Rattle.script_runs.specs.Languages.{CommandLanguage, Enters, Loads, Ends, Reply}
use Rattle.script_runs.specs.Replies.{IsReplyOf, State, Answered, state_after}
use Rattle.script_runs.specs.Turns.{Turns, no_more, cut_off, turn, in_order}
use Rattle.script_runs.specs.Runs.{with_room, Run}
use Rattle.script_runs.specs.Flows.{Loaded}
use Rattle.script_runs.specs.Laws.{is_past_limit, past_limit, HaveBytes, ItemsHaveBytes}
use Rattle.script_runs.proofs.CountSums.{count_by-append, count_by-cons}
use Rattle.script_runs.proofs.Cutting.{next_room}

-- a text that begins has a byte
some_byte : (text : List ℕ) → Starts text → 0 < length text
some_byte [] starts = absurd starts
some_byte (b ∷ bs) starts = omega arith

-- the next item of a text within the bytes that may be passed: it has a byte, and is not past the limit
record HasByte (place : Rest) (ended : Ended) (mid : Rest) : Type 0 where
  shorter : length mid.left + 1 ≤ length place.left
  within : length mid.left ≤ mid.room
  inside : is_past_limit ended ≡ false

next_byte : (ended : Ended) (place : Rest) (before text : List ℕ) (mid : Rest) → length place.left ≤ place.room → IsCut ended place before text mid → HasByte place ended mid
next_byte (Terminated shown) place before text mid within cut = of_command cut
  where
    of_command : CutsCommand shown place before text mid → HasByte place (Terminated shown) mid
    of_command cut =
        let long : length place.left ≡ length before + (length text + suc (length mid.left)) = ap length cut.split ∙ omega (arith, length-append {A = ℕ}) in
        record { shorter = omega (arith, long); within = omega (arith, long, within, cut.room); inside = refl }
next_byte Unterminated place before text mid within cut = of_open cut
  where
    of_open : CutsOpen place before text mid → HasByte place Unterminated mid
    of_open cut =
        let long : length place.left ≡ length before + length text = ap length cut.split ∙ length-append before text in
        let none : length mid.left ≡ 0 = ap length cut.nothing_left in
        let some : 0 < length text = some_byte text cut.begun.starts in
        record { shorter = omega (arith, long, none, some); within = omega (arith, none); inside = refl }
next_byte PastLimit place before text mid within cut = absurd (of_off cut)
  where
    some_past : (past : List ℕ) → past ≢ [] → 0 < length past
    some_past [] some = absurd (some refl)
    some_past (b ∷ bs) some = omega arith

    of_off : CutsOff place before text mid → ⊥
    of_off cut =
        let long : length place.left ≡ length before + length cut.past = ap length cut.split ∙ length-append before cut.past in
        omega (arith, long, within, cut.full, some_past cut.past cut.more)

-- where nothing is left no item comes
no_next : (ended : Ended) (place : Rest) (before text : List ℕ) (mid : Rest) → length place.left ≡ 0 → IsCut ended place before text mid → ⊥
no_next (Terminated shown) place before text mid none cut = of_command cut
  where
    of_command : CutsCommand shown place before text mid → ⊥
    of_command cut =
        let long : length place.left ≡ length before + (length text + suc (length mid.left)) = ap length cut.split ∙ omega (arith, length-append {A = ℕ}) in
        omega (arith, long, none)
no_next Unterminated place before text mid none cut = of_open cut
  where
    of_open : CutsOpen place before text mid → ⊥
    of_open cut =
        let long : length place.left ≡ length before + length text = ap length cut.split ∙ length-append before text in
        let some : 0 < length text = some_byte text cut.begun.starts in
        omega (arith, long, none, some)
no_next PastLimit place before text mid none cut = of_off cut
  where
    some_past : (past : List ℕ) → past ≢ [] → 0 < length past
    some_past [] some = absurd (some refl)
    some_past (b ∷ bs) some = omega arith

    of_off : CutsOff place before text mid → ⊥
    of_off cut =
        let long : length place.left ≡ length before + length cut.past = ap length cut.split ∙ length-append before cut.past in
        omega (arith, long, none, some_past cut.past cut.more)

-- after an item that is past the limit nothing is left
nothing_past : (ended : Ended) (place : Rest) (before text : List ℕ) (mid : Rest) → ended ≡ PastLimit → IsCut ended place before text mid → (length mid.left ≡ 0) × (mid.room ≡ 0)
nothing_past (Terminated shown) place before text mid is cut = absurd (cc)
nothing_past Unterminated place before text mid is cut = absurd (cc)
nothing_past PastLimit place before text mid is cut = of_off cut
  where
    of_off : CutsOff place before text mid → (length mid.left ≡ 0) × (mid.room ≡ 0)
    of_off cut = (ap length cut.nothing_left, cut.no_room)

by_limit : (ended : Ended) → ((ended ≡ PastLimit) × (is_past_limit ended ≡ true)) ⊎ ((ended ≢ PastLimit) × (is_past_limit ended ≡ false))
by_limit (Terminated shown) = inr ((λ is. cc), refl)
by_limit Unterminated = inr ((λ is. cc), refl)
by_limit PastLimit = inl (refl, refl)

-- one where something holds
abbrev weight : Bool → ℕ
weight v = cond v 1 0

module _ {F : Type 0} (l : CommandLanguage F) where
  past-append : (xs ys : List (Answered l)) → past_limit l (xs ++ ys) ≡ past_limit l xs + past_limit l ys
  past-append xs ys = count_by-append (λ (a : Answered l). is_past_limit a.item.ended) xs ys

  past-cons : (a : Answered l) (xs : List (Answered l)) → past_limit l (a ∷ xs) ≡ weight (is_past_limit a.item.ended) + past_limit l xs
  past-cons a xs = count_by-cons (λ (a : Answered l). is_past_limit a.item.ended) a xs

  -- a text that is loaded has no more bytes than may be read
  fits : (ended : Ended) (depth room : ℕ) (known : l.Ledger) (text : List ℕ) (reply : Reply l) (loaded : List ℕ) → reply ≡ Ok (Loads loaded) → IsReplyOf l ended depth room known text reply → length loaded ≤ room
  fits (Terminated shown) depth room known text (Ok (Enters success)) loaded is replied = absurd (cc)
  fits (Terminated shown) depth room known text (Ok (Loads other)) loaded is (inl answered) = let same : length other ≡ length loaded = ap length (one other loaded is) in omega (arith, answered.1, same)
    where
      one : (a b : List ℕ) → (let r : Reply l = Ok (Loads a) in r) ≡ Ok (Loads b) → a ≡ b
      one a b is = cc
  fits (Terminated shown) depth room known text (Ok (Loads other)) loaded is (inr passes) = absurd (refused (l.of_script script.PastLimit) passes.3)
    where
      refused : (fault : F) → (let r : Reply l = Ok (Loads other) in r) ≡ Err fault → ⊥
      refused fault is = cc
  fits (Terminated shown) depth room known text (Ok Ends) loaded is replied = absurd (cc)
  fits (Terminated shown) depth room known text (Err fault) loaded is replied = absurd (cc)
  fits Unterminated depth room known text reply loaded is (inl long) = absurd (refused (l.of_script script.Long) (sym is ∙ long.1))
    where
      refused : (fault : F) → (let r : Reply l = Ok (Loads loaded) in r) ≡ Err fault → ⊥
      refused fault is = cc
  fits Unterminated depth room known text reply loaded is (inr short) = absurd (refused (l.of_script (script.Unterminated (length text))) (sym is ∙ short.1))
    where
      refused : (fault : F) → (let r : Reply l = Ok (Loads loaded) in r) ≡ Err fault → ⊥
      refused fault is = cc
  fits PastLimit depth room known text reply loaded is replied = absurd (refused (l.of_script script.PastLimit) (sym is ∙ replied))
    where
      refused : (fault : F) → (let r : Reply l = Ok (Loads loaded) in r) ≡ Err fault → ⊥
      refused fault is = cc

  -- the items of a loaded text: each has a byte of that, or of a text that they load
  abbrev HaveNested : Turns l → ℕ → ℕ → ℕ → ℕ → Type 0
  HaveNested turns left rest room long = (left + rest + length (in_order l turns) ≤ room + long) × (past_limit l (in_order l turns) ≡ 0)

  no_items : (turns : Turns l) → turns ≡ no_more → (length (in_order l turns) ≡ 0) × (past_limit l (in_order l turns) ≡ 0)
  no_items no_more is = (refl, refl)
  no_items cut_off is = absurd (cc)
  no_items (turn first inside after) is = absurd (cc)

  -- the items of the text that an item loads, if it does
  inside_bytes : (inside : Turns l) (depth : ℕ) (old later : State l) (store : StoreView) (reply : Reply l) → old.room ≤ 16777216 → ((loaded : List ℕ) → reply ≡ Ok (Loads loaded) → length loaded ≤ old.room)
      → ((place end : Rest) (here later : State l) → here.room ≤ 16777216 → length place.left ≤ place.room → Run l (suc depth) place here inside end later → HaveNested inside later.room (length end.left) here.room (length place.left))
      → Loaded l (suc depth) reply (state_after l old reply store) inside later → (later.room + length (in_order l inside) ≤ old.room) × (past_limit l (in_order l inside) ≡ 0)
  inside_bytes inside depth old later store reply few fits nested loaded = by_reply reply fits loaded
    where
      nothing : (here : State l) → here.room ≡ old.room → (inside ≡ no_more) × (later ≡ here) → (later.room + length (in_order l inside) ≤ old.room) × (past_limit l (in_order l inside) ≡ 0)
      nothing here room_is none =
          let items = no_items inside none.0 in
          let same : later.room ≡ here.room = ap (λ (s : State l). s.room) none.1 in
          (omega (arith, items.0, same, room_is), items.1)

      by_reply : (reply : Reply l) → ((loaded : List ℕ) → reply ≡ Ok (Loads loaded) → length loaded ≤ old.room) → Loaded l (suc depth) reply (state_after l old reply store) inside later → (later.room + length (in_order l inside) ≤ old.room) × (past_limit l (in_order l inside) ≡ 0)
      by_reply (Ok (Enters success)) fits loaded = nothing (state_after l old (Ok (Enters success)) store) refl loaded
      by_reply (Ok (Loads text)) fits (end, run, at_end) =
          let most : length text ≤ old.room = fits text refl in
          let t = nested (start text) end (state_after l old (Ok (Loads text)) store) later (omega (arith, few)) (omega (arith, few, most)) run in
          let bytes : later.room + length end.left + length (in_order l inside) ≤ (old.room - length text) + length text = t.0 in
          (omega (arith, bytes, most), t.1)
      by_reply (Ok Ends) fits loaded = nothing (state_after l old (Ok Ends) store) refl loaded
      by_reply (Err fault) fits loaded = nothing (state_after l old (Err fault) store) refl loaded

  nested_bytes : (turns : Turns l) (depth : ℕ) (place last : Rest) (old new : State l) → old.room ≤ 16777216 → length place.left ≤ place.room → Run l (suc depth) place old turns last new → HaveNested turns new.room (length last.left) old.room (length place.left)
  nested_bytes no_more depth place last old new few within run =
      let room : new.room ≡ old.room = ap (λ (s : State l). s.room) run.1 in
      let left : length last.left ≡ length place.left = ap (λ (r : Rest). length r.left) run.0 in
      (omega (arith, room, left), refl)
  nested_bytes cut_off depth place last old new few within run =
      let room : new.room ≡ old.room = ap (λ (s : State l). s.room) run.1 in
      let left : length last.left ≡ length place.left = ap (λ (r : Rest). length r.left) run.0 in
      (omega (arith, room, left), refl)
  nested_bytes (turn first inside after) depth place last old new few within (mid, store, later, next, replies, loaded, ends, run) =
      let byte : HasByte place first.item.ended mid = next_byte first.item.ended place next.before first.item.text mid within next.cut in
      let here = inside_bytes inside (suc depth) old later store first.reply few
      (λ text is. fits first.item.ended (suc depth) old.room replies.known first.item.text first.reply text is replies.replied)
      (λ place end here later. nested_bytes inside (suc depth) place end here later) loaded in
      let inside_few : later.room + length (in_order l inside) ≤ old.room = here.0 in
      let more = nested_bytes after depth mid last later new (omega (arith, few, inside_few)) byte.within run in
      let after_few : new.room + length last.left + length (in_order l after) ≤ later.room + length mid.left = more.0 in
      let long : length (in_order l inside ++ in_order l after) ≡ length (in_order l inside) + length (in_order l after) = length-append (in_order l inside) (in_order l after) in
      let split : past_limit l (in_order l inside ++ in_order l after) ≡ past_limit l (in_order l inside) + past_limit l (in_order l after) = past-append (in_order l inside) (in_order l after) in
      let first_is : past_limit l (first ∷ (in_order l inside ++ in_order l after)) ≡ weight (is_past_limit first.item.ended) + past_limit l (in_order l inside ++ in_order l after) = past-cons first (in_order l inside ++ in_order l after) in
      let no : weight (is_past_limit first.item.ended) ≡ 0 = ap weight byte.inside in
      (omega (arith, inside_few, after_few, long, byte.shorter), omega (arith, here.1, more.1, split, first_is, no))

  -- after the script's end no item comes
  ended_bytes : (turns : Turns l) (place last : Rest) (old new : State l) → length place.left ≡ 0 → Run l 0 place old turns last new → (length (in_order l turns) ≡ 0) × (past_limit l (in_order l turns) ≡ 0) × (last.room ≡ place.room)
  ended_bytes no_more place last old new none run = (refl, refl, ap (λ (r : Rest). r.room) run.0)
  ended_bytes cut_off place last old new none run = (refl, refl, ap (λ (r : Rest). r.room) run.0)
  ended_bytes (turn first inside after) place last old new none (mid, store, later, next, replies, loaded, ends, run) = absurd (no_next first.item.ended place next.before first.item.text mid none next.cut)

  script_bytes : (turns : Turns l) (place last : Rest) (old new : State l) → place.room ≤ 16777216 → Run l 0 place old turns last new → HaveBytes l place.room (in_order l turns) last.room
  script_bytes no_more place last old new few run =
      let room : last.room ≡ place.room = ap (λ (r : Rest). r.room) run.0 in
      record { counted = omega (arith, room); once = omega arith }
  script_bytes cut_off place last old new few run =
      let room : last.room ≡ place.room = ap (λ (r : Rest). r.room) run.0 in
      record { counted = omega (arith, room); once = omega arith }
  script_bytes (turn first inside after) place last old new few (mid, store, later, next, replies, loaded, ends, run) = by_place (λ fewer. script_bytes after (record mid { room = later.room }) last later new fewer run) (by_limit first.item.ended)
    where
      bound : mid.room ≤ 16777216 → (later.room + length (in_order l inside) ≤ mid.room) × (past_limit l (in_order l inside) ≡ 0)
      bound fewer = inside_bytes inside 0 (with_room l old mid.room) later store first.reply fewer
          (λ text is. fits first.item.ended 0 mid.room replies.known first.item.text first.reply text is replies.replied)
          (λ place end here later. nested_bytes inside 0 place end here later) loaded

      long : length (in_order l inside ++ in_order l after) ≡ length (in_order l inside) + length (in_order l after)
      long = length-append (in_order l inside) (in_order l after)

      split : past_limit l (in_order l inside ++ in_order l after) ≡ past_limit l (in_order l inside) + past_limit l (in_order l after)
      split = past-append (in_order l inside) (in_order l after)

      first_is : past_limit l (first ∷ (in_order l inside ++ in_order l after)) ≡ weight (is_past_limit first.item.ended) + past_limit l (in_order l inside ++ in_order l after)
      first_is = past-cons first (in_order l inside ++ in_order l after)

      by_place : (later.room ≤ 16777216 → HaveBytes l later.room (in_order l after) last.room) → ((first.item.ended ≡ PastLimit) × (is_past_limit first.item.ended ≡ true)) ⊎ ((first.item.ended ≢ PastLimit) × (is_past_limit first.item.ended ≡ false)) → HaveBytes l place.room (first ∷ (in_order l inside ++ in_order l after)) last.room
      by_place rest (inl (is, at_limit)) =
          let none = nothing_past first.item.ended place next.before first.item.text mid is next.cut in
          let zero_room : mid.room ≡ 0 = none.1 in
          let here = bound (omega (arith, zero_room)) in
          let inside_few : later.room + length (in_order l inside) ≤ mid.room = here.0 in
          let more = ended_bytes after (record mid { room = later.room }) last later new none.0 run in
          let one : weight (is_past_limit first.item.ended) ≡ 1 = ap weight at_limit in
          record {
            counted = omega (arith, zero_room, inside_few, here.1, more.0, more.1, more.2, long, split, first_is, one);
            once = omega (arith, here.1, more.1, split, first_is, one);
          }
      by_place rest (inr (other, before_limit)) =
          let falls : mid.room < place.room = next_room first.item.ended place first.item.text first.item.line mid next other in
          let here = bound (omega (arith, few, falls)) in
          let inside_few : later.room + length (in_order l inside) ≤ mid.room = here.0 in
          let more : HaveBytes l later.room (in_order l after) last.room = rest (omega (arith, few, falls, inside_few)) in
          let one : weight (is_past_limit first.item.ended) ≡ 0 = ap weight before_limit in
          record {
            counted = omega (arith, falls, inside_few, here.1, more.counted, long, split, first_is, one);
            once = omega (arith, here.1, more.once, split, first_is, one);
          }

  pub items_have_bytes : ItemsHaveBytes l
  items_have_bytes = script_bytes
