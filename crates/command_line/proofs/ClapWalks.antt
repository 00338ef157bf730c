-- All words of the command line, as clap reads them: where nothing fails they are options one after another.
use Rattle.std.proofs.Common.{◌≡◌, ℕ, ◌≤◌, zero, suc, Bool, true, false, is_some, if◌then◌else◌, List, [], ◌∷◌, ◌++◌, length, drop, Option, None, Some, refl, sym, ap, ◌∙◌, subst, inl, inr, arith, codes}
use Rattle.std.specs.List.{fold}
use Rattle.std.specs.Prelude.{slice_get}
use Rattle.std.specs.Str.{bytes_eq}
use Rattle.std.proofs.lemmas.List.{append_assoc}
use Rattle.clap.specs.Lexer.{long_of}
use Rattle.clap.specs.Walk.{Held, Row, Text, Waiting, Walk, idle, option, first_of, finished, one_of, settled, settled_rows, used, walked}
use Rattle.clap.specs.Simple.{built, entered, matches_of}
use Rattle.clap.specs.Faults.{check_fault, defaults_fault, entered_fault, fault_of, react_fault, settle_fault, turn_fault, use_fault, walk_fault}
use Rattle.clap.specs.Kinds.{Kinds, or_else}
use Rattle.clap.specs.Values.{bool_text}
use Rattle.command_line.specs.Program.{walnut_app}
use Rattle.command_line.specs.Words.{Given, states, stop, make, AreNameAndValue, AreWordsOfAll, IsEnd, states_in, seeds_in, stops_in, at_most_one, Names}
use Rattle.command_line.proofs.ClapTurns.{shape, rules, stop_rule, Valued, of_states, of_make, id_of, rule_at, holds, walk_at_start, turn, or_else_nil, Looks, mark, long, other, looks, option_word, stray_after_mark, turn_at_mark, IsName, flag_named, fault_at_value, turn_at_value, fault_at_name, turn_at_name, fault_at_stop, turn_at_stop, no_value_at_stop, stray_where_idle, value_where_waiting}
use Rattle.command_line.proofs.ClapUses.{AreUsed, rows_with, used_once, limits_counted, seeds_counted, stops_counted, Found, found_of_uses}

-- what is held after the words, and what fails until then and there
abbrev pub end_of : Walk → List Text → Held
end_of w words = (fold (walked rules []) w words).held

abbrev pub faults_from : Walk → List Text → Kinds
faults_from w words = or_else (walk_fault shape [] w words) (settle_fault rules false (end_of w words))

abbrev pub last_rows : Walk → List Text → List Row
last_rows w words = (settled rules (end_of w words)).rows

-- where nothing waits for a value, and where an option does
abbrev pub at_idle : List Row → Option (Text × List Text) → Walk
at_idle rows pending = walk_at_start (holds rows pending) idle false

abbrev pub at_option : Valued → List Row → Walk
at_option v rows = walk_at_start (holds rows (Some (id_of v, []))) (option (id_of v)) false

-- one word more
more : (w : Walk) (word : Text) (rest : List Text) → faults_from w (word ∷ rest) ≡ [] → (turn_fault shape [] w word ≡ []) × (faults_from (walked rules [] w word) rest ≡ [])
unfolding walk_fault
more w word rest e =
    let parts = or_else_nil (walk_fault shape [] w (word ∷ rest)) (settle_fault rules false (end_of w (word ∷ rest))) e in
    let both = or_else_nil (turn_fault shape [] w word) (walk_fault shape [] (walked rules [] w word) rest) parts.0 in
    (both.0, rw both.1 parts.1)

-- and the walk is there
moved : (w next : Walk) (rest : List Text) → w ≡ next → faults_from w rest ≡ [] → faults_from next rest ≡ []
moved w next rest same e = let P : Walk → Type 0 = λ v. faults_from v rest ≡ [] in subst P same e

after_mark : (held : Held) (waiting : Waiting) (words : List Text) → faults_from (walk_at_start held waiting true) words ≡ [] → (words ≡ []) × (settle_fault rules false held ≡ [])
unfolding walk_fault
after_mark held waiting [] e = (refl, e)
after_mark held waiting (word ∷ rest) e = absurd (stray_after_mark held waiting word (more (walk_at_start held waiting true) word rest e).0)

-- the mark is the last word
marked : (held : Held) (waiting : Waiting) (word : Text) (rest : List Text) → word ≡ 45 ∷ 45 ∷ [] → faults_from (walked rules [] (walk_at_start held waiting false) word) rest ≡ [] → (rest ≡ []) × (settle_fault rules false held ≡ [])
marked held waiting word rest is e =
    let P : Text → Type 0 = λ w. faults_from (walked rules [] (walk_at_start held waiting false) w) rest ≡ [] in
    after_mark held waiting rest (moved (walked rules [] (walk_at_start held waiting false) (45 ∷ 45 ∷ [])) (walk_at_start held waiting true) rest (turn_at_mark held waiting) (subst P is e))

-- a word is this flag
renamed : (word name id : Text) (value : Option Text) → long_of word ≡ Some (name, value) → name ≡ id → long_of word ≡ Some (id, value)
renamed word name id value is named = is ∙ ap (λ (n : Text). let o : Option (Text × Option Text) = Some (n, value) in o) named

-- a flag uses what is pending
settles_at_flag : (held : Held) (waiting : Waiting) (word : Text) (p : Text × Option Text) → bytes_eq word (45 ∷ 45 ∷ []) ≡ false → long_of word ≡ Some p → turn held waiting word ≡ [] → settle_fault rules false held ≡ []
settles_at_flag held waiting word (name, value) unlike is e = by_name value (flag_named held waiting word (name, value) unlike is e) is
  where
    by_name : (v : Option Text) → IsName name → long_of word ≡ Some (name, v) → settle_fault rules false held ≡ []
    by_name None (inl (v, named)) is = (or_else_nil (settle_fault rules false held) [] (sym (fault_at_name v held waiting word unlike (renamed word name (id_of v) None is named)) ∙ e)).0
    by_name (Some value) (inl (v, named)) is =
        let react = (or_else_nil (react_fault rules false (rule_at v) (value ∷ []) held) [] (sym (fault_at_value v held waiting word value unlike (renamed word name (id_of v) (Some value) is named)) ∙ e)).0 in
        (or_else_nil (settle_fault rules false held) (use_fault false (rule_at v) (value ∷ []) (settled rules held).rows) react).0
    by_name None (inr named) is =
        let react = (or_else_nil (react_fault rules false stop_rule [] held) [] (sym (fault_at_stop held waiting word unlike (renamed word name (codes "stop") None is named)) ∙ e)).0 in
        (or_else_nil (settle_fault rules false held) (use_fault false stop_rule [] (settled rules held).rows) react).0
    by_name (Some value) (inr named) is = absurd (no_value_at_stop held waiting word value unlike (renamed word name (codes "stop") (Some value) is named) e)

-- words that are options one after another, which are used from some rows to others
record Reads (rows : List Row) (words : List Text) (last : List Row) : Type 0 where
  given : List Given
  options : List Text
  end : List Text
  split : words ≡ options ++ end
  are_words : AreWordsOfAll given options
  is_end : IsEnd end
  are_used : AreUsed given rows
  last_is : last ≡ rows_with given rows

-- such words after the words of one option
joins : (v : Valued) (rows last : List Row) (value : Text) (words first rest : List Text) → words ≡ first ++ rest → AreNameAndValue (45 ∷ 45 ∷ id_of v) value first → use_fault false (rule_at v) (value ∷ []) rows ≡ []
    → Reads (used (rule_at v) (value ∷ []) rows) rest last → Reads rows words last
joins of_states rows last value words first rest split are free reads = record {
  given = states value ∷ reads.given;
  options = first ++ reads.options;
  end = reads.end;
  split = split ∙ (ap (λ (xs : List Text). first ++ xs) reads.split ∙ sym (append_assoc first reads.options reads.end));
  are_words = (first, reads.options, refl, are, reads.are_words);
  is_end = reads.is_end;
  are_used = (free, reads.are_used);
  last_is = reads.last_is;
}
joins of_make rows last value words first rest split are free reads = record {
  given = make value ∷ reads.given;
  options = first ++ reads.options;
  end = reads.end;
  split = split ∙ (ap (λ (xs : List Text). first ++ xs) reads.split ∙ sym (append_assoc first reads.options reads.end));
  are_words = (first, reads.options, refl, are, reads.are_words);
  is_end = reads.is_end;
  are_used = (free, reads.are_used);
  last_is = reads.last_is;
}

joins_stop : (rows last : List Row) (words first rest : List Text) → words ≡ first ++ rest → first ≡ codes "--stop" ∷ [] → use_fault false stop_rule [] rows ≡ [] → Reads (used stop_rule [] rows) rest last → Reads rows words last
joins_stop rows last words first rest split are free reads = record {
  given = stop ∷ reads.given;
  options = first ++ reads.options;
  end = reads.end;
  split = split ∙ (ap (λ (xs : List Text). first ++ xs) reads.split ∙ sym (append_assoc first reads.options reads.end));
  are_words = (first, reads.options, refl, are, reads.are_words);
  is_end = reads.is_end;
  are_used = (free, reads.are_used);
  last_is = reads.last_is;
}

to_last : (rows last last' : List Row) (words : List Text) → last' ≡ last → Reads rows words last → Reads rows words last'
to_last rows last last' words same reads = let P : List Row → Type 0 = λ rs. Reads rows words rs in subst P (sym same) reads

-- what is read where nothing waits, and where an option does
abbrev IdleReads : List Text → Type 0
IdleReads words = (rows : List Row) (pending : Option (Text × List Text)) → faults_from (at_idle rows pending) words ≡ []
    → (settle_fault rules false (holds rows pending) ≡ []) × Reads (settled_rows rules pending rows) words (last_rows (at_idle rows pending) words)

record FindsValue (v : Valued) (rows : List Row) (words : List Text) (last : List Row) : Type 0 where
  value : Text
  rest : List Text
  split : words ≡ value ∷ rest
  free : use_fault false (rule_at v) (value ∷ []) rows ≡ []
  reads : Reads (used (rule_at v) (value ∷ []) rows) rest last

abbrev WaitsReads : List Text → Type 0
WaitsReads words = (v : Valued) (rows : List Row) → faults_from (at_option v rows) words ≡ [] → FindsValue v rows words (last_rows (at_option v rows) words)

idle_at_end : IdleReads []
unfolding walk_fault
idle_at_end rows pending e = (e, record { given = []; options = []; end = []; split = refl; are_words = refl; is_end = inl refl; are_used = tt; last_is = refl })

-- an option that waits for a value must get one
no_value_yet : (v : Valued) (rows : List Row) → settle_fault rules false (holds rows (Some (id_of v, []))) ≡ [] → ⊥
no_value_yet of_states rows e = cc
no_value_yet of_make rows e = cc

waits_at_end : WaitsReads []
unfolding walk_fault
waits_at_end v rows e = absurd (no_value_yet v rows e)

waits_more : (word : Text) (rest : List Text) → IdleReads rest → WaitsReads (word ∷ rest)
waits_more word rest goes_on v rows e = by_look (looks word) (more (at_option v rows) word rest e)
  where
    finds : (v : Valued) (last last' : List Row) → last' ≡ last → (settle_fault rules false (holds rows (Some (id_of v, word ∷ []))) ≡ []) × Reads (settled_rows rules (Some (id_of v, word ∷ [])) rows) rest last → FindsValue v rows (word ∷ rest) last'
    finds of_states last last' same (free, reads) = record { value = word; rest = rest; split = refl; free = free; reads = to_last _ last last' rest same reads }
    finds of_make last last' same (free, reads) = record { value = word; rest = rest; split = refl; free = free; reads = to_last _ last last' rest same reads }

    by_look : Looks word → (turn (holds rows (Some (id_of v, []))) (option (id_of v)) word ≡ []) × (faults_from (walked rules [] (at_option v rows) word) rest ≡ []) → FindsValue v rows (word ∷ rest) (last_rows (at_option v rows) (word ∷ rest))
    by_look (mark is) step = absurd (no_value_yet v rows (marked (holds rows (Some (id_of v, []))) (option (id_of v)) word rest is step.1).1)
    by_look (long unlike p is) step = absurd (no_value_yet v rows (settles_at_flag (holds rows (Some (id_of v, []))) (option (id_of v)) word p unlike is step.0))
    by_look (other unlike none) step =
        let there : walked rules [] (at_option v rows) word ≡ at_idle rows (Some (id_of v, word ∷ [])) = value_where_waiting v rows word unlike none step.0 in
        finds v (last_rows (at_idle rows (Some (id_of v, word ∷ []))) rest) _ (ap (λ (w : Walk). last_rows w rest) there) (goes_on rows (Some (id_of v, word ∷ [])) (moved _ _ rest there step.1))

idle_more : (word : Text) (rest : List Text) → IdleReads rest → WaitsReads rest → IdleReads (word ∷ rest)
idle_more word rest goes_on waits rows pending e = by_look (looks word) (more (at_idle rows pending) word rest e)
  where
    before : List Row
    before = settled_rows rules pending rows

    last : List Row
    last = last_rows (at_idle rows pending) (word ∷ rest)

    Both : Type 0
    Both = (settle_fault rules false (holds rows pending) ≡ []) × Reads before (word ∷ rest) last

    by_flag : (p : Text × Option Text) → bytes_eq word (45 ∷ 45 ∷ []) ≡ false → long_of word ≡ Some p → IsName p.0 → turn (holds rows pending) idle word ≡ [] → faults_from (walked rules [] (at_idle rows pending) word) rest ≡ [] → Both
    by_flag (name, None) unlike is (inl (v, named)) now later =
        let is' : long_of word ≡ Some (id_of v, None) = renamed word name (id_of v) None is named in
        let there : walked rules [] (at_idle rows pending) word ≡ at_option v before = turn_at_name v (holds rows pending) idle word unlike is' in
        let found = waits v before (moved _ _ rest there later) in
        let spelled : word ≡ 45 ∷ 45 ∷ id_of v = option_word (id_of v) word None is' in (
          (or_else_nil (settle_fault rules false (holds rows pending)) [] (sym (fault_at_name v (holds rows pending) idle word unlike is') ∙ now)).0,
          joins v before last found.value (word ∷ rest) (word ∷ found.value ∷ []) found.rest (ap (λ (xs : List Text). word ∷ xs) found.split) (inl (λ i. spelled i ∷ found.value ∷ [])) found.free
              (to_last _ _ last found.rest (ap (λ (w : Walk). last_rows w rest) there) found.reads),
        )
    by_flag (name, Some value) unlike is (inl (v, named)) now later =
        let is' : long_of word ≡ Some (id_of v, Some value) = renamed word name (id_of v) (Some value) is named in
        let there : walked rules [] (at_idle rows pending) word ≡ at_idle (used (rule_at v) (value ∷ []) before) None = turn_at_value v (holds rows pending) idle word value unlike is' in
        let react = (or_else_nil (react_fault rules false (rule_at v) (value ∷ []) (holds rows pending)) [] (sym (fault_at_value v (holds rows pending) idle word value unlike is') ∙ now)).0 in
        let parts = or_else_nil (settle_fault rules false (holds rows pending)) (use_fault false (rule_at v) (value ∷ []) before) react in
        let spelled : word ≡ 45 ∷ 45 ∷ (id_of v ++ 61 ∷ value) = option_word (id_of v) word (Some value) is' in
        let next = goes_on (used (rule_at v) (value ∷ []) before) None (moved _ _ rest there later) in
        (parts.0, joins v before last value (word ∷ rest) (word ∷ []) rest refl (inr (λ i. spelled i ∷ [])) parts.1 (to_last _ _ last rest (ap (λ (w : Walk). last_rows w rest) there) next.1))
    by_flag (name, None) unlike is (inr named) now later =
        let is' : long_of word ≡ Some (codes "stop", None) = renamed word name (codes "stop") None is named in
        let there : walked rules [] (at_idle rows pending) word ≡ at_idle (used stop_rule [] before) None = turn_at_stop (holds rows pending) idle word unlike is' in
        let react = (or_else_nil (react_fault rules false stop_rule [] (holds rows pending)) [] (sym (fault_at_stop (holds rows pending) idle word unlike is') ∙ now)).0 in
        let parts = or_else_nil (settle_fault rules false (holds rows pending)) (use_fault false stop_rule [] before) react in
        let spelled : word ≡ codes "--stop" = option_word (codes "stop") word None is' in
        let next = goes_on (used stop_rule [] before) None (moved _ _ rest there later) in
        (parts.0, joins_stop before last (word ∷ rest) (word ∷ []) rest refl (λ i. spelled i ∷ []) parts.1 (to_last _ _ last rest (ap (λ (w : Walk). last_rows w rest) there) next.1))
    by_flag (name, Some value) unlike is (inr named) now later = absurd (no_value_at_stop (holds rows pending) idle word value unlike (renamed word name (codes "stop") (Some value) is named) now)

    by_look : Looks word → (turn (holds rows pending) idle word ≡ []) × (faults_from (walked rules [] (at_idle rows pending) word) rest ≡ []) → Both
    by_look (mark is) step =
        let ends = marked (holds rows pending) idle word rest is step.1 in
        let none : rest ≡ [] = ends.0 in
        let there : last ≡ last_rows (walked rules [] (at_idle rows pending) (45 ∷ 45 ∷ [])) [] = λ i. last_rows (walked rules [] (at_idle rows pending) (is i)) (none i) in (
          ends.1,
          record {
            given = [];
            options = [];
            end = word ∷ rest;
            split = refl;
            are_words = refl;
            is_end = inr (λ i. is i ∷ none i);
            are_used = tt;
            last_is = there ∙ ap (λ (w : Walk). (settled rules w.held).rows) (turn_at_mark (holds rows pending) idle);
          },
        )
    by_look (long unlike p is) step = by_flag p unlike is (flag_named (holds rows pending) idle word p unlike is step.0) step.0 step.1
    by_look (other unlike none) step = absurd (stray_where_idle rows pending word unlike none step.0)

reads_all : (words : List Text) → IdleReads words × WaitsReads words
reads_all [] = (idle_at_end, waits_at_end)
reads_all (word ∷ rest) = let below = reads_all rest in (idle_more word rest below.0 below.1, waits_more word rest below.0)

-- no fault of the whole parse is no fault of the walk
of_walk : (words : List Text) → fault_of walnut_app words ≡ [] → faults_from (at_idle [] None) (drop 1 words) ≡ []
of_walk words e =
    let tail : List Text = drop 1 words in
    let end : Held = end_of (at_idle [] None) tail in
    let stopped : Option (Text × List Text) = (fold (walked rules []) (at_idle [] None) tail).stopped in
    let last : Kinds = or_else (defaults_fault (settled rules end).rows rules) (check_fault shape (finished rules end) (is_some (entered (built walnut_app) stopped))) in
    let below : Kinds = or_else (entered_fault (built walnut_app) stopped) (or_else (settle_fault rules false end) last) in
    let parts = or_else_nil (walk_fault shape [] (at_idle [] None) tail) below e in
    let parts' = or_else_nil (entered_fault (built walnut_app) stopped) (or_else (settle_fault rules false end) last) parts.1 in
    let parts'' = or_else_nil (settle_fault rules false end) last parts'.1 in
    rw parts.0 parts''.0

-- at most one value, and a flag at most once
one_at_most : (values : List Text) → length values ≤ 1 → values ≡ at_most_one (slice_get values 0)
one_at_most [] most = refl
one_at_most (value ∷ []) most = refl
one_at_most (value ∷ again ∷ values) most = absurd (omega arith)

flag_of : (n : ℕ) → n ≤ 1 → (is_set : Bool) × (n ≡ (if is_set then 1 else 0))
flag_of zero most = (false, refl)
flag_of (suc zero) most = (true, refl)
flag_of (suc (suc n)) most = absurd (omega arith)

-- what is parsed with no fault names these values
pub names_of_parse : (words : List Text) → fault_of walnut_app words ≡ []
    → (is_stop : Bool) × Names words (first_of (codes "states") (matches_of walnut_app words)) is_stop (first_of (codes "make") (matches_of walnut_app words)) × (one_of (codes "stop") (matches_of walnut_app words) ≡ Some (bool_text is_stop))
names_of_parse words e =
    let reads : Reads [] (drop 1 words) (last_rows (at_idle [] None) (drop 1 words)) = ((reads_all (drop 1 words)).0 [] None (of_walk words e)).1 in
    let once = used_once reads.given [] reads.are_used in
    let flag = flag_of (stops_in reads.given) (omega (arith, stops_counted reads.given, once (codes "stop"))) in
    let found : Found reads.given flag.0 (matches_of walnut_app words) = found_of_uses reads.given flag.0 (last_rows (at_idle [] None) (drop 1 words)) reads.are_used flag.1 reads.last_is in (
      flag.0,
      record {
        given = reads.given;
        options = reads.options;
        end = reads.end;
        split = reads.split;
        are_words = reads.are_words;
        is_end = reads.is_end;
        limits = one_at_most (states_in reads.given) (omega (arith, limits_counted reads.given, once (codes "states"))) ∙ ap at_most_one (sym found.limits);
        stops = flag.1;
        seeds = one_at_most (seeds_in reads.given) (omega (arith, seeds_counted reads.given, once (codes "make"))) ∙ ap at_most_one (sym found.seeds);
      },
      found.stops,
    )
