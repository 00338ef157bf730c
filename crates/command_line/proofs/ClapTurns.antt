-- One word of the command line, as clap reads it where the command has the options `--states` and `--make` with a value, and the flag `--stop`.
use Rattle.std.proofs.Common.{◌≡◌, ◌+◌, ◌⊎◌, ℕ, Bool, true, false, zero, suc, if◌then◌else◌, List, [], ◌∷◌, ◌++◌, length, take, drop, Option, None, Some, unwrap_or, refl, sym, ap, ◌∙◌, subst, inl, inr, arith, rules as all_rules, codes}
use Rattle.std.specs.Str.{bytes_eq, chars}
use Rattle.std.specs.Prelude.{slice_get, option_and_then, ◌==◌}
use Rattle.std.proofs.lemmas.Slice.Eq.{bytes_eq-Decides}
use Rattle.clap.specs.Lexer.{has_byte, long_of, long_of_rest, name_and_value, short_of, strip_byte}
use Rattle.clap.specs.Walk.{Held, plain, Row, Rule, Text, Waiting, Walk, idle, option, positional, walked, reacted, settled, short_word, bundle_met}
use Rattle.clap.specs.Simple.{Shape, built}
use Rattle.clap.specs.Faults.{bundle_fault, flags_fault, react_fault, settle_fault, step_fault, turn_fault}
use Rattle.clap.specs.Kinds.{Kinds, or_else}
use Rattle.command_line.specs.Program.{states_arg, stop_arg, make_arg, walnut_app}

-- what building makes of the command
abbrev pub shape : Shape
shape = (built walnut_app).top

abbrev pub rules : List Rule
rules = shape.rules

abbrev pub stop_rule : Rule
stop_rule = unwrap_or (slice_get rules 1) stop_arg

-- the options that have a value
pub data Valued : Type 0 where
  of_states : Valued
  of_make : Valued

abbrev pub id_of : Valued → Text
id_of of_states = codes "states"
id_of of_make = codes "make"

abbrev pub rule_at : Valued → Rule
rule_at of_states = unwrap_or (slice_get rules 0) states_arg
rule_at of_make = unwrap_or (slice_get rules 2) make_arg

-- what is held before a word, and the walk there
abbrev pub holds : List Row → Option (Text × List Text) → Held
holds rows pending = record { rows = rows; pending = pending; skip = 0 }

abbrev pub walk_at_start : Held → Waiting → Bool → Walk
walk_at_start held waiting trailing = record { held = held; waiting = waiting; position = 1; is_trailing = trailing; stopped = None }

abbrev pub turn : Held → Waiting → Text → Kinds
turn held waiting word = turn_fault shape [] (walk_at_start held waiting false) word

pub or_else_nil : (a b : Kinds) → or_else a b ≡ [] → (a ≡ []) × (b ≡ [])
or_else_nil [] b e = (refl, e)
or_else_nil (k ∷ ks) b e = cc

pub or_else_both : (a b : Kinds) → a ≡ [] → b ≡ [] → or_else a b ≡ []
or_else_both a b none none' = ap (λ (ks : Kinds). or_else ks b) none ∙ none'

-- what a word is: the mark of the end, a long flag, or another
pub data Looks (word : Text) : Type 0 where
  mark : word ≡ 45 ∷ 45 ∷ [] → Looks word
  long : bytes_eq word (45 ∷ 45 ∷ []) ≡ false → (p : Text × Option Text) → long_of word ≡ Some p → Looks word
  other : bytes_eq word (45 ∷ 45 ∷ []) ≡ false → long_of word ≡ None → Looks word

pub looks : (word : Text) → Looks word
looks word = by_mark (bytes_eq word (45 ∷ 45 ∷ [])) refl
  where
    by_long : bytes_eq word (45 ∷ 45 ∷ []) ≡ false → (l : Option (Text × Option Text)) → long_of word ≡ l → Looks word
    by_long unlike (Some p) is = long unlike p is
    by_long unlike None is = other unlike is

    by_mark : (v : Bool) → bytes_eq word (45 ∷ 45 ∷ []) ≡ v → Looks word
    by_mark true is = mark ((bytes_eq-Decides word (45 ∷ 45 ∷ [])).0 is)
    by_mark false is = by_long is (long_of word) refl

-- a name alone, or with a value after the first `=`
abbrev IsNamed : Text → Text → Option Text → Type 0
IsNamed text name None = text ≡ name
IsNamed text name (Some value) = text ≡ name ++ 61 ∷ value

named_parts : (text : Text) → IsNamed text (name_and_value text).0 (name_and_value text).1
named_parts [] = refl
named_parts (x ∷ xs) = by_first (x == 61) refl (named_parts xs)
  where
    longer : (v : Bool) (k : ℕ) → IsNamed xs (take k xs) (if v then Some (drop (k + 1) xs) else None) → IsNamed (x ∷ xs) (take (1 + k) (x ∷ xs)) (if v then Some (drop (1 + k + 1) (x ∷ xs)) else None)
    longer true k rest = let e : 1 + k + 1 ≡ suc (k + 1) = omega arith in let e' : 1 + k ≡ suc k = omega arith in rw (e, e') (ap (λ (ys : Text). x ∷ ys) rest)
    longer false k rest = let e : 1 + k ≡ suc k = omega arith in rw e (ap (λ (ys : Text). x ∷ ys) rest)

    by_first : (v : Bool) → (x == 61) ≡ v → IsNamed xs (name_and_value xs).0 (name_and_value xs).1 → IsNamed (x ∷ xs) (name_and_value (x ∷ xs)).0 (name_and_value (x ∷ xs)).1
    by_first true is rest = let same : x ≡ 61 = search all_rules in rw is (ap (λ (y : ℕ). y ∷ xs) same)
    by_first false is rest = rw is (longer (has_byte 61 xs) _ rest)

-- a long flag begins with two hyphens
long_parts : (word : Text) (p : Text × Option Text) → long_of word ≡ Some p → (rest : Text) × (word ≡ 45 ∷ 45 ∷ rest) × IsNamed rest p.0 p.1
long_parts [] p e = cc
long_parts (a ∷ word) p e = by_first (a == 45) refl e
  where
    named : (rest : Text) → long_of_rest rest ≡ Some p → IsNamed rest p.0 p.1
    named [] e = cc
    named (x ∷ xs) e =
        let same : name_and_value (x ∷ xs) ≡ p = ap (λ (o : Option (Text × Option Text)). unwrap_or o p) e in
        let P : Text × Option Text → Type 0 = λ q. IsNamed (x ∷ xs) q.0 q.1 in subst P same (named_parts (x ∷ xs))

    second : (rest : Text) → option_and_then long_of_rest (strip_byte 45 rest) ≡ Some p → (after : Text) × (rest ≡ 45 ∷ after) × IsNamed after p.0 p.1
    second [] e = cc
    second (b ∷ rest) e = by_second (b == 45) refl e
      where
        by_second : (v : Bool) → (b == 45) ≡ v → option_and_then long_of_rest (strip_byte 45 (b ∷ rest)) ≡ Some p → (after : Text) × (b ∷ rest ≡ 45 ∷ after) × IsNamed after p.0 p.1
        by_second true is e = let same : b ≡ 45 = search all_rules in (rest, ap (λ (y : ℕ). y ∷ rest) same, named rest (rw is at e))
        by_second false is e = let none : None ≡ Some p = rw is at e in cc

    by_first : (v : Bool) → (a == 45) ≡ v → long_of (a ∷ word) ≡ Some p → (rest : Text) × (a ∷ word ≡ 45 ∷ 45 ∷ rest) × IsNamed rest p.0 p.1
    by_first true is e =
        let same : a ≡ 45 = search all_rules in
        let rest : (after : Text) × (word ≡ 45 ∷ after) × IsNamed after p.0 p.1 = second word (rw is at e) in
        (rest.0, (λ i. same i ∷ rest.1 i), rest.2)
    by_first false is e = let none : None ≡ Some p = rw is at e in cc

-- an option as a word
abbrev pub IsOptionWord : Text → Text → Option Text → Type 0
IsOptionWord id word None = word ≡ 45 ∷ 45 ∷ id
IsOptionWord id word (Some value) = word ≡ 45 ∷ 45 ∷ (id ++ 61 ∷ value)

pub option_word : (id word : Text) (value : Option Text) → long_of word ≡ Some (id, value) → IsOptionWord id word value
option_word id word value is = spelled value (long_parts word (id, value) is)
  where
    spelled : (value : Option Text) → (rest : Text) × (word ≡ 45 ∷ 45 ∷ rest) × IsNamed rest id value → IsOptionWord id word value
    spelled None (rest, split, is) = split ∙ ap (λ (ys : Text). 45 ∷ 45 ∷ ys) is
    spelled (Some value) (rest, split, is) = split ∙ ap (λ (ys : Text). 45 ∷ 45 ∷ ys) is

-- after the mark each word is a stray one
pub stray_after_mark : (held : Held) (waiting : Waiting) (word : Text) → turn_fault shape [] (walk_at_start held waiting true) word ≡ [] → ⊥
stray_after_mark held waiting word e = cc

-- the mark is no fault, and what is held stays
pub turn_at_mark : (held : Held) (waiting : Waiting) → walked rules [] (walk_at_start held waiting false) (45 ∷ 45 ∷ []) ≡ walk_at_start held waiting true
unfolding walked
turn_at_mark held idle = refl
turn_at_mark held (option id) = refl
turn_at_mark held positional = refl

-- a long flag where no fault comes is one of the three
abbrev pub IsName : Text → Type 0
IsName name = ((v : Valued) × (name ≡ id_of v)) ⊎ (name ≡ codes "stop")

pub flag_named : (held : Held) (waiting : Waiting) (word : Text) (p : Text × Option Text) → bytes_eq word (45 ∷ 45 ∷ []) ≡ false → long_of word ≡ Some p → turn held waiting word ≡ [] → IsName p.0
flag_named held waiting word p unlike is e = by_states (bytes_eq (codes "states") p.0) refl
  where
    same : (name : Text) → bytes_eq name p.0 ≡ true → p.0 ≡ name
    same name alike = sym ((bytes_eq-Decides name p.0).0 alike)

    unknown : (w : Waiting) → bytes_eq (codes "states") p.0 ≡ false → bytes_eq (codes "stop") p.0 ≡ false → bytes_eq (codes "make") p.0 ≡ false → turn held w word ≡ [] → IsName p.0
    unknown idle no_states no_stop no_make e = cc (rw (unlike, is, no_states, no_stop, no_make) at e)
    unknown (option id) no_states no_stop no_make e = cc (rw (unlike, is, no_states, no_stop, no_make) at e)
    unknown positional no_states no_stop no_make e = cc (rw (unlike, is, no_states, no_stop, no_make) at e)

    by_make : bytes_eq (codes "states") p.0 ≡ false → bytes_eq (codes "stop") p.0 ≡ false → (v : Bool) → bytes_eq (codes "make") p.0 ≡ v → IsName p.0
    by_make no_states no_stop true alike = inl (of_make, same (codes "make") alike)
    by_make no_states no_stop false unlike' = unknown waiting no_states no_stop unlike' e

    by_stop : bytes_eq (codes "states") p.0 ≡ false → (v : Bool) → bytes_eq (codes "stop") p.0 ≡ v → IsName p.0
    by_stop no_states true alike = inr (same (codes "stop") alike)
    by_stop no_states false unlike' = by_make no_states unlike' (bytes_eq (codes "make") p.0) refl

    by_states : (v : Bool) → bytes_eq (codes "states") p.0 ≡ v → IsName p.0
    by_states true alike = inl (of_states, same (codes "states") alike)
    by_states false unlike' = by_stop unlike' (bytes_eq (codes "stop") p.0) refl

-- an option with its value in the word is used at once
pub fault_at_value : (v : Valued) (held : Held) (waiting : Waiting) (word value : Text) → bytes_eq word (45 ∷ 45 ∷ []) ≡ false → long_of word ≡ Some (id_of v, Some value)
    → turn held waiting word ≡ or_else (react_fault rules false (rule_at v) (value ∷ []) held) []
fault_at_value of_states held idle word value unlike is = rw (unlike, is) refl
fault_at_value of_states held (option id) word value unlike is = rw (unlike, is) refl
fault_at_value of_states held positional word value unlike is = rw (unlike, is) refl
fault_at_value of_make held idle word value unlike is = rw (unlike, is) refl
fault_at_value of_make held (option id) word value unlike is = rw (unlike, is) refl
fault_at_value of_make held positional word value unlike is = rw (unlike, is) refl

pub turn_at_value : (v : Valued) (held : Held) (waiting : Waiting) (word value : Text) → bytes_eq word (45 ∷ 45 ∷ []) ≡ false → long_of word ≡ Some (id_of v, Some value)
    → walked rules [] (walk_at_start held waiting false) word ≡ walk_at_start (reacted rules (rule_at v) (value ∷ []) held) idle false
unfolding walked
turn_at_value of_states held idle word value unlike is = rw (unlike, is) refl
turn_at_value of_states held (option id) word value unlike is = rw (unlike, is) refl
turn_at_value of_states held positional word value unlike is = rw (unlike, is) refl
turn_at_value of_make held idle word value unlike is = rw (unlike, is) refl
turn_at_value of_make held (option id) word value unlike is = rw (unlike, is) refl
turn_at_value of_make held positional word value unlike is = rw (unlike, is) refl

-- and else it waits for one
pub fault_at_name : (v : Valued) (held : Held) (waiting : Waiting) (word : Text) → bytes_eq word (45 ∷ 45 ∷ []) ≡ false → long_of word ≡ Some (id_of v, None) → turn held waiting word ≡ or_else (settle_fault rules false held) []
fault_at_name of_states held idle word unlike is = rw (unlike, is) refl
fault_at_name of_states held (option id) word unlike is = rw (unlike, is) refl
fault_at_name of_states held positional word unlike is = rw (unlike, is) refl
fault_at_name of_make held idle word unlike is = rw (unlike, is) refl
fault_at_name of_make held (option id) word unlike is = rw (unlike, is) refl
fault_at_name of_make held positional word unlike is = rw (unlike, is) refl

pub turn_at_name : (v : Valued) (held : Held) (waiting : Waiting) (word : Text) → bytes_eq word (45 ∷ 45 ∷ []) ≡ false → long_of word ≡ Some (id_of v, None)
    → walked rules [] (walk_at_start held waiting false) word ≡ walk_at_start (record (settled rules held) { pending = Some (id_of v, []) }) (option (id_of v)) false
unfolding walked
turn_at_name of_states held idle word unlike is = rw (unlike, is) refl
turn_at_name of_states held (option id) word unlike is = rw (unlike, is) refl
turn_at_name of_states held positional word unlike is = rw (unlike, is) refl
turn_at_name of_make held idle word unlike is = rw (unlike, is) refl
turn_at_name of_make held (option id) word unlike is = rw (unlike, is) refl
turn_at_name of_make held positional word unlike is = rw (unlike, is) refl

-- the flag is used at once, and takes no value
pub fault_at_stop : (held : Held) (waiting : Waiting) (word : Text) → bytes_eq word (45 ∷ 45 ∷ []) ≡ false → long_of word ≡ Some (codes "stop", None)
    → turn held waiting word ≡ or_else (react_fault rules false stop_rule [] held) []
fault_at_stop held idle word unlike is = rw (unlike, is) refl
fault_at_stop held (option id) word unlike is = rw (unlike, is) refl
fault_at_stop held positional word unlike is = rw (unlike, is) refl

pub turn_at_stop : (held : Held) (waiting : Waiting) (word : Text) → bytes_eq word (45 ∷ 45 ∷ []) ≡ false → long_of word ≡ Some (codes "stop", None)
    → walked rules [] (walk_at_start held waiting false) word ≡ walk_at_start (reacted rules stop_rule [] held) idle false
unfolding walked
turn_at_stop held idle word unlike is = rw (unlike, is) refl
turn_at_stop held (option id) word unlike is = rw (unlike, is) refl
turn_at_stop held positional word unlike is = rw (unlike, is) refl

pub no_value_at_stop : (held : Held) (waiting : Waiting) (word value : Text) → bytes_eq word (45 ∷ 45 ∷ []) ≡ false → long_of word ≡ Some (codes "stop", Some value) → turn held waiting word ≡ [] → ⊥
no_value_at_stop held idle word value unlike is e = cc (rw (unlike, is) at e)
no_value_at_stop held (option id) word value unlike is e = cc (rw (unlike, is) at e)
no_value_at_stop held positional word value unlike is e = cc (rw (unlike, is) at e)

-- the command has no short flags: what looks like some is a fault, or is read as any word
no_flags : (n : ℕ) (flags : Text) (held : Held) → flags_fault rules false n flags 0 held ≡ [] → bundle_met rules n flags 0 plain held ≡ (held, plain)
unfolding flags_fault bundle_met
no_flags zero flags held e = refl
no_flags (suc k) flags held e = by_first (slice_get (chars flags) 0) refl e
  where
    by_first : (x : Option ℕ) → slice_get (chars flags) 0 ≡ x → flags_fault rules false (suc k) flags 0 held ≡ [] → bundle_met rules (suc k) flags 0 plain held ≡ (held, plain)
    by_first None is e = rw is refl
    by_first (Some x) is e = cc (rw is at e)

-- where nothing waits for a value, a word that is no flag is a stray one
pub stray_where_idle : (rows : List Row) (pending : Option (Text × List Text)) (word : Text) → bytes_eq word (45 ∷ 45 ∷ []) ≡ false → long_of word ≡ None → turn (holds rows pending) idle word ≡ [] → ⊥
stray_where_idle rows pending word unlike none e = by_short (short_of word) refl
  where
    by_short : (s : Option Text) → short_of word ≡ s → ⊥
    by_short None is = cc (rw (unlike, none, is) at e)
    by_short (Some flags) is =
        let held : Held = holds rows pending in
        let both : or_else (bundle_fault rules false flags held) (step_fault shape 1 (short_word rules idle word flags held).0 (short_word rules idle word flags held).1) ≡ [] = rw (unlike, none, is) at e in
        let parts = or_else_nil (bundle_fault rules false flags held) (step_fault shape 1 (short_word rules idle word flags held).0 (short_word rules idle word flags held).1) both in
        cc (rw (no_flags (length flags) flags held parts.0) at parts.1)

-- where an option waits, it is the option's value
abbrev pub after_push : Valued → List Row → Text → Walk
after_push v rows word = walk_at_start (holds rows (Some (id_of v, word ∷ []))) idle false

pub value_where_waiting : (v : Valued) (rows : List Row) (word : Text) → bytes_eq word (45 ∷ 45 ∷ []) ≡ false → long_of word ≡ None → turn (holds rows (Some (id_of v, []))) (option (id_of v)) word ≡ []
    → walked rules [] (walk_at_start (holds rows (Some (id_of v, []))) (option (id_of v)) false) word ≡ after_push v rows word
unfolding walked
value_where_waiting v rows word unlike none e = by_short v (short_of word) refl e
  where
    kept : (v : Valued) (flags : Text) → short_of word ≡ Some flags → turn (holds rows (Some (id_of v, []))) (option (id_of v)) word ≡ [] → bundle_met rules (length flags) flags 0 plain (holds rows (Some (id_of v, []))) ≡ (holds rows (Some (id_of v, [])), plain)
    kept v flags is e =
        let held : Held = holds rows (Some (id_of v, [])) in
        let waiting : Waiting = option (id_of v) in
        let both : or_else (bundle_fault rules false flags held) (step_fault shape 1 (short_word rules waiting word flags held).0 (short_word rules waiting word flags held).1) ≡ [] = rw (unlike, none, is) at e in
        no_flags (length flags) flags held (or_else_nil (bundle_fault rules false flags held) (step_fault shape 1 (short_word rules waiting word flags held).0 (short_word rules waiting word flags held).1) both).0

    by_short : (v : Valued) (s : Option Text) → short_of word ≡ s → turn (holds rows (Some (id_of v, []))) (option (id_of v)) word ≡ []
        → walked rules [] (walk_at_start (holds rows (Some (id_of v, []))) (option (id_of v)) false) word ≡ after_push v rows word
    by_short of_states None is e = rw (unlike, none, is) refl
    by_short of_make None is e = rw (unlike, none, is) refl
    by_short of_states (Some flags) is e = rw (unlike, none, is, kept of_states flags is e) refl
    by_short of_make (Some flags) is e = rw (unlike, none, is, kept of_make flags is e) refl
