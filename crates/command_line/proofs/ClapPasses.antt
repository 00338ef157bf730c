-- Words that give options are no fault to clap.
use Rattle.std.proofs.Common.{◌≡◌, ◌≢◌, ℕ, ◌+◌, ◌<◌, ◌≤◌, ◌^◌, Bool, true, false, is_some, if◌then◌else◌, List, [], ◌∷◌, ◌++◌, length, drop, Option, None, Some, Err, refl, sym, ap, ◌∙◌, subst, inl, inr, arith, codes, decimal, rules as all_rules}
use Rattle.std.specs.List.{fold}
use Rattle.std.specs.Prelude.{◌==◌, ⊤}
use Rattle.std.specs.Str.{bytes_eq}
use Rattle.std.specs.Str.Parse.{AllDigits}
use Rattle.std.proofs.lemmas.Fmt.{decimal_is_IsNumeral}
use Rattle.std.proofs.lemmas.List.{append_assoc}
use Rattle.std.proofs.lemmas.Str.Parse.{digit_from_value}
use Rattle.clap.specs.Lexer.{long_of, short_of}
use Rattle.clap.specs.Walk.{Held, Row, Text, Walk, idle, option, finished, settled, settled_rows, used, walked}
use Rattle.clap.specs.Simple.{built, entered}
use Rattle.clap.specs.Faults.{check_fault, entered_fault, fault_of, settle_fault, turn_fault, use_fault, walk_fault}
use Rattle.clap.specs.Kinds.{Kinds, HasKind, or_else}
use Rattle.clap.specs.Values.{kind_of}
use Rattle.clap.specs.declared.error.Error.{Error}
use Rattle.clap.specs.declared.error.kind.ErrorKind.TheVariants as kind
use Rattle.command_line.specs.declared.options.Options.{Options}
use Rattle.command_line.specs.declared.words.WordsFault.{WordsFault}
use Rattle.command_line.specs.declared.words.WordsFault.TheVariants as faults
use Rattle.command_line.specs.WordReading.{ReadsNames}
use Rattle.command_line.specs.Program.{walnut_app}
use Rattle.command_line.specs.Words.{Given, states, stop, make, AreNameAndValue, AreWordsOfAll, IsEnd, states_in, seeds_in, stops_in, at_most_one, IsLimit, IsSeed, GivesOptions}
use Rattle.command_line.proofs.ClapTurns.{shape, rules, stop_rule, Valued, of_states, of_make, id_of, rule_at, holds, walk_at_start, turn, or_else_nil, or_else_both, turn_at_mark, fault_at_value, turn_at_value, fault_at_name, turn_at_name, fault_at_stop, turn_at_stop, after_push, value_where_waiting}
use Rattle.command_line.proofs.ClapUses.{AreUsed, count_of, limits_counted, seeds_counted, stops_counted, once_used, argument_of, seen, defaults_pass}
use Rattle.command_line.proofs.ClapWalks.{faults_from, end_of, at_idle, at_option}

-- a value that does not begin with a hyphen (45)
abbrev IsPlain : Text → Type 0
IsPlain value = (rest : Text) → value ≢ 45 ∷ rest

abbrev ArePlain : List Text → Type 0
ArePlain [] = ⊤
ArePlain (value ∷ values) = IsPlain value × ArePlain values

plain_decimal : (value : Text) (n : ℕ) → n < 2 ^ 64 → value ≡ decimal n → IsPlain value
plain_decimal value n small is rest hyphen = omega (arith, digit_from_value 45 (subst (AllDigits 10) (sym is ∙ hyphen) (decimal_is_IsNumeral n small).0.1).0)

-- one word more
one_more : (w next : Walk) (word : Text) (rest : List Text) → turn_fault shape [] w word ≡ [] → walked rules [] w word ≡ next → faults_from next rest ≡ [] → faults_from w (word ∷ rest) ≡ []
unfolding walk_fault
one_more w next word rest none there later =
    let below : faults_from (walked rules [] w word) rest ≡ [] = ap (λ (v : Walk). faults_from v rest) there ∙ later in
    ap (λ (ks : Kinds). or_else (or_else ks (walk_fault shape [] (walked rules [] w word) rest)) (settle_fault rules false (end_of (walked rules [] w word) rest))) none ∙ below

-- a value where an option waits
record Pushes (v : Valued) (rows : List Row) (value : Text) : Type 0 where
  no_fault : turn (holds rows (Some (id_of v, []))) (option (id_of v)) value ≡ []
  there : walked rules [] (at_option v rows) value ≡ after_push v rows value

pushes : (v : Valued) (rows : List Row) (value : Text) → IsPlain value → Pushes v rows value
pushes v rows value plain = by_value value plain
  where
    no_fault : (v : Valued) (word : Text) → bytes_eq word (45 ∷ 45 ∷ []) ≡ false → long_of word ≡ None → short_of word ≡ None → turn (holds rows (Some (id_of v, []))) (option (id_of v)) word ≡ []
    no_fault of_states word unlike no_long no_short = rw (unlike, no_long, no_short) refl
    no_fault of_make word unlike no_long no_short = rw (unlike, no_long, no_short) refl

    pushed : (word : Text) → bytes_eq word (45 ∷ 45 ∷ []) ≡ false → long_of word ≡ None → short_of word ≡ None → Pushes v rows word
    pushed word unlike no_long no_short =
        let none = no_fault v word unlike no_long no_short in
        record { no_fault = none; there = value_where_waiting v rows word unlike no_long none }

    by_first : (d : ℕ) (ds : Text) → (x : Bool) → (d == 45) ≡ x → IsPlain (d ∷ ds) → Pushes v rows (d ∷ ds)
    by_first d ds true is plain = let same : d ≡ 45 = search all_rules in absurd (plain ds (ap (λ (b : ℕ). b ∷ ds) same))
    by_first d ds false is plain = pushed (d ∷ ds) (rw is refl) (rw is refl) (rw is refl)

    by_value : (word : Text) → IsPlain word → Pushes v rows word
    by_value [] plain = pushed [] refl refl refl
    by_value (d ∷ ds) plain = by_first d ds (d == 45) refl plain

-- names as words
name_alone : (v : Valued) → long_of (45 ∷ 45 ∷ id_of v) ≡ Some (id_of v, None)
name_alone of_states = refl
name_alone of_make = refl

name_with : (v : Valued) (value : Text) → long_of (45 ∷ 45 ∷ (id_of v ++ 61 ∷ value)) ≡ Some (id_of v, Some value)
name_with of_states value = refl
name_with of_make value = refl

no_mark_alone : (v : Valued) → bytes_eq (45 ∷ 45 ∷ id_of v) (45 ∷ 45 ∷ []) ≡ false
no_mark_alone of_states = refl
no_mark_alone of_make = refl

no_mark_with : (v : Valued) (value : Text) → bytes_eq (45 ∷ 45 ∷ (id_of v ++ 61 ∷ value)) (45 ∷ 45 ∷ []) ≡ false
no_mark_with of_states value = refl
no_mark_with of_make value = refl

-- where more words pass after the use of an option, they pass after its words
abbrev Goes : List Row → List Text → Type 0
Goes after tail = (rows : List Row) (pending : Option (Text × List Text)) → settle_fault rules false (holds rows pending) ≡ [] → settled_rows rules pending rows ≡ after → faults_from (at_idle rows pending) tail ≡ []

valued_passes : (v : Valued) (rows : List Row) (pending : Option (Text × List Text)) (value : Text) (first tail : List Text) → AreNameAndValue (45 ∷ 45 ∷ id_of v) value first → IsPlain value
    → settle_fault rules false (holds rows pending) ≡ [] → use_fault false (rule_at v) (value ∷ []) (settled_rows rules pending rows) ≡ [] → Goes (used (rule_at v) (value ∷ []) (settled_rows rules pending rows)) tail
    → faults_from (at_idle rows pending) (first ++ tail) ≡ []
valued_passes v rows pending value first tail are plain settles free goes = by_form are
  where
    before : List Row
    before = settled_rows rules pending rows

    held : Held
    held = holds rows pending

    pushed_goes : (v : Valued) → use_fault false (rule_at v) (value ∷ []) before ≡ [] → Goes (used (rule_at v) (value ∷ []) before) tail → faults_from (after_push v before value) tail ≡ []
    pushed_goes of_states free goes = goes before (Some (id_of of_states, value ∷ [])) free refl
    pushed_goes of_make free goes = goes before (Some (id_of of_make, value ∷ [])) free refl

    two : faults_from (at_idle rows pending) ((45 ∷ 45 ∷ id_of v) ∷ value ∷ tail) ≡ []
    two =
        let push : Pushes v before value = pushes v before value plain in
        one_more (at_idle rows pending) (at_option v before) (45 ∷ 45 ∷ id_of v) (value ∷ tail) (fault_at_name v held idle (45 ∷ 45 ∷ id_of v) (no_mark_alone v) (name_alone v) ∙ or_else_both _ _ settles refl)
        (turn_at_name v held idle (45 ∷ 45 ∷ id_of v) (no_mark_alone v) (name_alone v))
        (one_more (at_option v before) (after_push v before value) value tail push.no_fault push.there (pushed_goes v free goes))

    one : faults_from (at_idle rows pending) ((45 ∷ 45 ∷ (id_of v ++ 61 ∷ value)) ∷ tail) ≡ []
    one = one_more (at_idle rows pending) (at_idle (used (rule_at v) (value ∷ []) before) None) (45 ∷ 45 ∷ (id_of v ++ 61 ∷ value)) tail
        (fault_at_value v held idle (45 ∷ 45 ∷ (id_of v ++ 61 ∷ value)) value (no_mark_with v value) (name_with v value) ∙ or_else_both _ _ (or_else_both _ _ settles free) refl)
        (turn_at_value v held idle (45 ∷ 45 ∷ (id_of v ++ 61 ∷ value)) value (no_mark_with v value) (name_with v value))
        (goes (used (rule_at v) (value ∷ []) before) None refl refl)

    by_form : AreNameAndValue (45 ∷ 45 ∷ id_of v) value first → faults_from (at_idle rows pending) (first ++ tail) ≡ []
    by_form (inl is) = let P : List Text → Type 0 = λ words. faults_from (at_idle rows pending) (words ++ tail) ≡ [] in subst P (sym is) two
    by_form (inr is) = let P : List Text → Type 0 = λ words. faults_from (at_idle rows pending) (words ++ tail) ≡ [] in subst P (sym is) one

stop_passes : (rows : List Row) (pending : Option (Text × List Text)) (first tail : List Text) → first ≡ codes "--stop" ∷ []
    → settle_fault rules false (holds rows pending) ≡ [] → use_fault false stop_rule [] (settled_rows rules pending rows) ≡ [] → Goes (used stop_rule [] (settled_rows rules pending rows)) tail
    → faults_from (at_idle rows pending) (first ++ tail) ≡ []
stop_passes rows pending first tail is settles free goes =
    let P : List Text → Type 0 = λ words. faults_from (at_idle rows pending) (words ++ tail) ≡ [] in
    subst P (sym is) (one_more (at_idle rows pending) (at_idle (used stop_rule [] (settled_rows rules pending rows)) None) (codes "--stop") tail
    (fault_at_stop (holds rows pending) idle (codes "--stop") refl refl ∙ or_else_both _ _ (or_else_both _ _ settles free) refl)
    (turn_at_stop (holds rows pending) idle (codes "--stop") refl refl)
    (goes (used stop_rule [] (settled_rows rules pending rows)) None refl refl))

end_passes : (rows : List Row) (pending : Option (Text × List Text)) (end : List Text) → IsEnd end → settle_fault rules false (holds rows pending) ≡ [] → faults_from (at_idle rows pending) end ≡ []
unfolding walk_fault
end_passes rows pending end (inl none) settles = let P : List Text → Type 0 = λ words. faults_from (at_idle rows pending) words ≡ [] in subst P (sym none) settles
end_passes rows pending end (inr is) settles =
    let P : List Text → Type 0 = λ words. faults_from (at_idle rows pending) words ≡ [] in
    subst P (sym is) (one_more (at_idle rows pending) (walk_at_start (holds rows pending) idle true) (45 ∷ 45 ∷ []) [] refl (turn_at_mark (holds rows pending) idle) settles)

-- options that are used one after another pass
passes : (given : List Given) (options end : List Text) → AreWordsOfAll given options → IsEnd end → ArePlain (states_in given) → ArePlain (seeds_in given)
    → (rows : List Row) (pending : Option (Text × List Text)) → settle_fault rules false (holds rows pending) ≡ [] → AreUsed given (settled_rows rules pending rows) → faults_from (at_idle rows pending) (options ++ end) ≡ []
passes [] options end none is_end plain plain' rows pending settles are =
    let P : List Text → Type 0 = λ words. faults_from (at_idle rows pending) (words ++ end) ≡ [] in
    subst P (sym none) (end_passes rows pending end is_end settles)
passes (states value ∷ more) options end (first, rest, split, spelled, others) is_end plain plain' rows pending settles are =
    let P : List Text → Type 0 = λ words. faults_from (at_idle rows pending) words ≡ [] in
    subst P (sym (ap (λ (xs : List Text). xs ++ end) split ∙ append_assoc first rest end)) (valued_passes of_states rows pending value first (rest ++ end) spelled plain.0 settles are.0
    (λ rows' pending' settles' same. passes more rest end others is_end plain.1 plain' rows' pending' settles' (subst (AreUsed more) (sym same) are.1)))
passes (stop ∷ more) options end (first, rest, split, spelled, others) is_end plain plain' rows pending settles are =
    let P : List Text → Type 0 = λ words. faults_from (at_idle rows pending) words ≡ [] in
    subst P (sym (ap (λ (xs : List Text). xs ++ end) split ∙ append_assoc first rest end)) (stop_passes rows pending first (rest ++ end) spelled settles are.0
    (λ rows' pending' settles' same. passes more rest end others is_end plain plain' rows' pending' settles' (subst (AreUsed more) (sym same) are.1)))
passes (make value ∷ more) options end (first, rest, split, spelled, others) is_end plain plain' rows pending settles are =
    let P : List Text → Type 0 = λ words. faults_from (at_idle rows pending) words ≡ [] in
    subst P (sym (ap (λ (xs : List Text). xs ++ end) split ∙ append_assoc first rest end)) (valued_passes of_make rows pending value first (rest ++ end) spelled plain'.0 settles are.0
    (λ rows' pending' settles' same. passes more rest end others is_end plain plain'.1 rows' pending' settles' (subst (AreUsed more) (sym same) are.1)))

-- nothing fails after the walk
none_entered : (stopped : Option (Text × List Text)) → entered_fault (built walnut_app) stopped ≡ []
none_entered None = refl
none_entered (Some p) = refl

checks_pass : (rows : List Row) (has : Bool) → check_fault shape rows has ≡ []
checks_pass rows true = refl
checks_pass rows false = refl

-- options that the words name once are used
once_counted : (given : List Given) (limit seed : Option Text) (is_stop : Bool) → states_in given ≡ at_most_one limit → stops_in given ≡ (if is_stop then 1 else 0) → seeds_in given ≡ at_most_one seed
    → (one : Given) → seen (argument_of one).id [] + count_of (argument_of one).id given ≤ 1
once_counted given limit seed is_stop limits stops seeds (states value) = omega (arith, limits_counted given, ap length limits, few limit)
  where
    few : (value : Option Text) → length (at_most_one value) ≤ 1
    few None = omega arith
    few (Some value) = omega arith
once_counted given limit seed is_stop limits stops seeds stop = bounded is_stop (count_of (codes "stop") given) (sym (stops_counted given) ∙ stops)
  where
    bounded : (b : Bool) (n : ℕ) → n ≡ (if b then 1 else 0) → 0 + n ≤ 1
    bounded true n is = omega arith
    bounded false n is = omega arith
once_counted given limit seed is_stop limits stops seeds (make value) = omega (arith, seeds_counted given, ap length seeds, few seed)
  where
    few : (value : Option Text) → length (at_most_one value) ≤ 1
    few None = omega arith
    few (Some value) = omega arith

plain_limit : (value : Option Text) (limit : ℕ) → IsLimit value limit → ArePlain (at_most_one value)
plain_limit None limit is = tt
plain_limit (Some value) limit (is, least, most) = (plain_decimal value limit (omega arith) is, tt)

plain_seed : (value : Option Text) (seed : Option ℕ) → IsSeed value seed → ArePlain (at_most_one value)
plain_seed None seed is = tt
plain_seed (Some value) None is = absurd is
plain_seed (Some value) (Some seed) (is, small) = (plain_decimal value seed small is, tt)

-- words that give options are no fault
no_fault : (words : List Text) (options : Options) → GivesOptions words options → fault_of walnut_app words ≡ []
no_fault words options (limit, seed, names, is_limit, is_seed) =
    let P : List Text → Type 0 = λ tail. faults_from (at_idle [] None) tail ≡ [] in
    let walks : faults_from (at_idle [] None) (drop 1 words) ≡ [] = subst P (sym names.split)
    (passes names.given names.options names.end names.are_words names.is_end (subst ArePlain (sym names.limits) (plain_limit limit options.limit is_limit)) (subst ArePlain (sym names.seeds) (plain_seed seed options.seed is_seed)) [] None refl
    (once_used names.given [] (once_counted names.given limit seed options.stop names.limits names.stops names.seeds))) in
    let tail : List Text = drop 1 words in
    let end : Held = end_of (at_idle [] None) tail in
    let stopped : Option (Text × List Text) = (fold (walked rules []) (at_idle [] None) tail).stopped in
    let parts = or_else_nil (walk_fault shape [] (at_idle [] None) tail) (settle_fault rules false end) walks in
    or_else_both _ _ parts.0 (or_else_both _ _ (none_entered stopped) (or_else_both _ _ parts.1 (or_else_both _ _ (defaults_pass (settled rules end).rows) (checks_pass (finished rules end) (is_some (entered (built walnut_app) stopped))))))

-- what a failed parse says
pub refused_parse : (words : List Text) (fault : WordsFault) (error : Error) → (fault ≡ faults.Refused → kind_of error ≢ kind.OutOfMemory) → HasKind (fault_of walnut_app words) error → ReadsNames words (Err fault)
refused_parse words faults.Memory error seen has = tt
refused_parse words faults.Refused error seen has = λ options gives.
    let none : fault_of walnut_app words ≡ [] = no_fault words options gives in
    let P : Kinds → Type 0 = λ ks. HasKind ks error in
    by_kind (subst P none has)
  where
    by_kind : HasKind [] error → ⊥
    by_kind (inl memory) = seen refl memory
    by_kind (inr among) = absurd among
