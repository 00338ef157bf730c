-- The parts of a head, divided by blanks, make a text that has just these parts.
use Rattle.std.proofs.Common.{◌≡◌, ◌≢◌, ℕ, zero, suc, ◌+◌, ◌≤◌, Bool, true, false, not, cond, ◌==◌, ◌&&◌, nat_le, List, [], ◌∷◌, ◌++◌, ℤ, length, take, drop, get_or, refl, sym, ◌∙◌, ap, subst, arith, tests, codes, ⊎_elim, length-append}
use Rattle.std.specs.List.{AllByRecursion}
use Rattle.std.proofs.lemmas.List.{take_at, drop_at, append_assoc}
use Rattle.std.proofs.lemmas.Bool.{ne_eqb, or_from, and_parts, lt-leb, leb-true, eqb-true, false≢true}
use Rattle.text_grammar.specs.declared.class.Class.TheVariants.{Blank, Digit, Letter, NameByte, Unquoted, Word}
use Rattle.text_grammar.specs.Bytes.{is_blank, is_letter, is_digit}
use Rattle.text_grammar.specs.Prefixes.{all_in, begins_in, after_prefix, prefix_len, is_in}
use Rattle.text_grammar.specs.Numbers.{is_number, unsigned}
use Rattle.text_grammar.specs.Systems.{is_system}
use Rattle.command_head.specs.Parts.{after_blanks, ending_len, part_len, after_first, first_in, after_word, parts_of_rest, parts_of, texts_of, is_name}
use Rattle.command_head.specs.Heads.{Alphabets, Sets, Systems, RegHead, NamedHead}
use Rattle.command_head.specs.Grammar.{DerivesMentions, DerivesSet, DeriveSets, DeriveAlphabets, AreUnquoted, quoted, DerivesReg, DerivesNamed}
use Rattle.command_head.proofs.PrefixSteps.{Stops, prefix_len-append, prefix_of-append, after_prefix-append}
use Rattle.command_head.proofs.PartShape.{AllByRecursion-weaker, all_in-all, name_bytes, letter-high, unquoted_in, system_read, direction_is, system_bytes}

-- parts, a blank after each
unfoldable pub join : List (List ℕ) → List ℕ
join [] = []
join (part ∷ parts) = part ++ 32 ∷ join parts

-- a part that is one also where a blank comes after it
pub record IsWholePart (part : List ℕ) : Type 0 where
  pub first : ℕ
  pub others : List ℕ
  pub is : part ≡ first ∷ others
  pub solid : is_blank first ≡ false
  pub len : (rest : List ℕ) → part_len (part ++ 32 ∷ rest) ≡ length part

after_solid : (part rest : List ℕ) → part_len (part ++ rest) ≡ length part → after_first (part ++ rest) ≡ rest
after_solid part rest len = ap (λ (n : ℕ). drop n (part ++ rest)) len ∙ drop_at part rest (length part) refl

-- a part after a blank
first_spaced : (part rest : List ℕ) → part_len (part ++ rest) ≡ length part → first_in true (part ++ rest) ≡ part
unfolding first_in
first_spaced part rest len = either (begins_in Letter (part ++ rest)) _ _ ∙ ap (λ (n : ℕ). take n (part ++ rest)) len ∙ take_at part rest (length part) refl
  where
    either : (letter : Bool) (x y : List ℕ) → cond (letter && false) x y ≡ y
    either true x y = refl
    either false x y = refl

first_part : (count whole b : ℕ) (bs rest : List ℕ) → part_len (b ∷ (bs ++ rest)) ≡ length (b ∷ bs) →
    texts_of (parts_of_rest (suc count) whole true (b ∷ (bs ++ rest))) ≡ (b ∷ bs) ∷ texts_of (parts_of_rest count whole (begins_in Blank rest) (after_blanks rest))
unfolding parts_of_rest
first_part count whole b bs rest len =
    ap (λ (l : List ℕ). l ∷ texts_of (parts_of_rest count whole (begins_in Blank (after_first (b ∷ (bs ++ rest)))) (after_blanks (after_first (b ∷ (bs ++ rest)))))) (first_spaced (b ∷ bs) rest len)
    ∙ ap (λ (l : List ℕ). (b ∷ bs) ∷ texts_of (parts_of_rest count whole (begins_in Blank l) (after_blanks l))) (after_solid (b ∷ bs) rest len)

no_part : (count whole : ℕ) (blank : Bool) → texts_of (parts_of_rest count whole blank []) ≡ []
unfolding parts_of_rest
no_part zero whole blank = refl
no_part (suc count) whole blank = refl

-- after a blank the parts follow
solid_join : (parts : List (List ℕ)) → AllByRecursion IsWholePart parts → after_blanks (32 ∷ join parts) ≡ join parts
unfolding join
solid_join [] all = refl
solid_join (part ∷ parts) all =
    let s = all.0 in
    let stops : Stops Blank (part ++ 32 ∷ join parts) = subst (λ (l : List ℕ). Stops Blank (l ++ 32 ∷ join parts)) (sym s.is) s.solid in
    after_prefix-append Blank (32 ∷ []) (part ++ 32 ∷ join parts) (refl, tt) stops

parts_join : (parts : List (List ℕ)) (count whole : ℕ) → AllByRecursion IsWholePart parts → length (join parts) ≤ count → texts_of (parts_of_rest count whole true (join parts)) ≡ parts
unfolding join
parts_join [] count whole all room = no_part count whole true
parts_join ([] ∷ parts) count whole all room = absurd (none (all.0))
  where
    none : IsWholePart [] → ⊥
    none s = cc s.is
parts_join ((b ∷ bs) ∷ parts) zero whole all room = absurd (omega arith)
parts_join ((b ∷ bs) ∷ parts) (suc count) whole all room =
    let s = all.0 in
    first_part count whole b bs (32 ∷ join parts) (s.len (join parts))
    ∙ ap (λ (l : List ℕ). (b ∷ bs) ∷ texts_of (parts_of_rest count whole true l)) (solid_join parts all.1)
    ∙ ap (λ (l : List (List ℕ)). (b ∷ bs) ∷ l) (parts_join parts count whole all.1 (omega (arith, length-append bs (32 ∷ join parts))))

high-blank : (b : ℕ) → 33 ≤ b → is_blank b ≡ false
high-blank b h = or_from _ _ (or_from _ _ (or_from _ _ (ne_eqb b 32 (λ e. omega arith)) (ne_eqb b 9 (λ e. omega arith))) (ne_eqb b 13 (λ e. omega arith))) (ne_eqb b 10 (λ e. omega arith))

pub letter_solid : (b : ℕ) → is_letter b ≡ true → is_blank b ≡ false
letter_solid b letter = let high = letter-high b letter in high-blank b (omega arith)

low-letter : (b : ℕ) → b ≤ 64 → is_letter b ≡ false
low-letter b h = rw (lt-leb 65 b (omega arith), lt-leb 97 b (omega arith)) refl

pub letter_len : (b : ℕ) (bs : List ℕ) → is_letter b ≡ true → part_len (b ∷ bs) ≡ prefix_len NameByte (b ∷ bs) + ending_len (after_prefix NameByte (b ∷ bs))
unfolding part_len
letter_len b bs h = taken (is_letter b) _ _ h
  where
    taken : (a : Bool) (x y : ℕ) → a ≡ true → cond a x y ≡ x
    taken a x y h = rw h refl

-- a letter and bytes of names
whole_letter : (b : ℕ) (bs : List ℕ) → is_letter b ≡ true → AllByRecursion (λ c. is_in NameByte c ≡ true) (b ∷ bs) → IsWholePart (b ∷ bs)
whole_letter b bs letter all = record {
  first = b;
  others = bs;
  is = refl;
  solid = letter_solid b letter;
  len = λ rest.
      letter_len b (bs ++ 32 ∷ rest) letter
      ∙ ap (λ (l : List ℕ). prefix_len NameByte (b ∷ (bs ++ 32 ∷ rest)) + ending_len l) (after_prefix-append NameByte (b ∷ bs) (32 ∷ rest) all refl)
      ∙ (let n = prefix_len-append NameByte (b ∷ bs) (32 ∷ rest) all refl in omega arith);
}

pub whole_name : (part : List ℕ) → is_name part ≡ true → IsWholePart part
whole_name [] h = absurd (false≢true h)
whole_name (b ∷ bs) h =
    whole_letter b bs (and_parts (is_letter b) (all_in NameByte (b ∷ bs) && nat_le (length (b ∷ bs)) 64) h).0 (name_bytes (b ∷ bs) h)

pub whole_system : (part : List ℕ) → is_system part ≡ true → IsWholePart part
unfolding is_system
whole_system [] h = absurd (false≢true h)
whole_system (b ∷ bs) h =
    let direction = direction_is (take 4 (b ∷ bs)) (system_read (b ∷ bs) h).direction in
    let letter : is_letter b ≡ true = ⊎_elim (λ e. first_letter 109 (ap (λ (l : List ℕ). get_or l 0 0) e) refl) (λ e. first_letter 108 (ap (λ (l : List ℕ). get_or l 0 0) e) refl) direction in
    whole_letter b bs letter (system_bytes (b ∷ bs) h)
  where
    first_letter : (c : ℕ) → b ≡ c → is_letter c ≡ true → is_letter b ≡ true
    first_letter c e h = subst (λ (x : ℕ). is_letter x ≡ true) (sym e) h

-- braces and commas
whole_open : IsWholePart (codes "{")
unfolding part_len
whole_open = record { first = 123; others = []; is = refl; solid = refl; len = λ rest. refl }

whole_close : IsWholePart (codes "}")
unfolding part_len
whole_close = record { first = 125; others = []; is = refl; solid = refl; len = λ rest. refl }

whole_comma : IsWholePart (codes ",")
unfolding part_len
whole_comma = record { first = 44; others = []; is = refl; solid = refl; len = λ rest. refl }

-- digits, and digits after a sign
signed_len : (d : ℕ) (ds rest : List ℕ) → AllByRecursion (λ c. is_in Digit c ≡ true) (d ∷ ds) → part_len (45 ∷ ((d ∷ ds) ++ 32 ∷ rest)) ≡ length (45 ∷ d ∷ ds)
unfolding part_len
signed_len d ds rest all = rw (all.0, prefix_len-append Digit ds (32 ∷ rest) all.1 refl) (rw (ne_eqb (suc (length ds)) 0 (λ e. omega arith)) (omega arith))

digits_len : (d : ℕ) (ds rest : List ℕ) → 48 ≤ d → d ≤ 57 → AllByRecursion (λ c. is_in Digit c ≡ true) (d ∷ ds) → part_len ((d ∷ ds) ++ 32 ∷ rest) ≡ length (d ∷ ds)
unfolding part_len
digits_len d ds rest from to all =
    let letter : is_letter d ≡ false = low-letter d (omega arith) in
    let sign : (d == 45) ≡ false = ne_eqb d 45 (λ e. omega arith) in
    rw (letter, sign) (rw (all.0, prefix_len-append Digit ds (32 ∷ rest) all.1 refl) (rw (ne_eqb (suc (length ds)) 0 (λ e. omega arith)) (omega arith)))

digit_range : (b : ℕ) → is_digit b ≡ true → (48 ≤ b) × (b ≤ 57)
digit_range b h = let p = and_parts (nat_le 48 b) (nat_le b 57) h in (leb-true 48 b p.0, leb-true b 57 p.1)

whole_signed : (bs : List ℕ) → (length bs == 0) ≡ false → AllByRecursion (λ c. is_in Digit c ≡ true) bs → IsWholePart (45 ∷ bs)
whole_signed [] some all = absurd (false≢true (sym some))
whole_signed (d ∷ ds) some all = record { first = 45; others = d ∷ ds; is = refl; solid = refl; len = λ rest. signed_len d ds rest all }

pub whole_digits : (bs : List ℕ) → (length bs == 0) ≡ false → AllByRecursion (λ c. is_in Digit c ≡ true) bs → IsWholePart bs
whole_digits [] some all = absurd (false≢true (sym some))
whole_digits (d ∷ ds) some all =
    let range = digit_range d all.0 in
    let from = range.0 in
    record { first = d; others = ds; is = refl; solid = high-blank d (omega arith); len = λ rest. digits_len d ds rest range.0 range.1 all }

whole_integer : (part : List ℕ) → is_number part ≡ true → IsWholePart part
whole_integer [] h = absurd (false≢true h)
whole_integer (b ∷ bs) h = by_sign (b == 45) refl (unsigned (b ∷ bs)) refl h
  where
    not_true : (t : Bool) → not t ≡ true → t ≡ false
    not_true true e = sym e
    not_true false e = refl

    by_sign : (t : Bool) → (b == 45) ≡ t → (suffix : List ℕ) → cond t bs (b ∷ bs) ≡ suffix → (not (length suffix == 0) && all_in Digit suffix) ≡ true → IsWholePart (b ∷ bs)
    by_sign true e suffix is g =
        let p = and_parts (not (length suffix == 0)) (all_in Digit suffix) g in
        let P : List ℕ → Type 0 = λ l. AllByRecursion (λ c. is_in Digit c ≡ true) l in
        subst (λ (c : ℕ). IsWholePart (c ∷ bs)) (sym (eqb-true b 45 e))
        (whole_signed bs (subst (λ (l : List ℕ). (length l == 0) ≡ false) (sym is) (not_true (length suffix == 0) p.0)) (subst P (sym is) (all_in-all Digit suffix p.1)))
    by_sign false e suffix is g =
        let p = and_parts (not (length suffix == 0)) (all_in Digit suffix) g in
        let P : List ℕ → Type 0 = λ l. AllByRecursion (λ c. is_in Digit c ≡ true) l in
        whole_digits (b ∷ bs) (subst (λ (l : List ℕ). (length l == 0) ≡ false) (sym is) (not_true (length suffix == 0) p.0)) (subst P (sym is) (all_in-all Digit suffix p.1))

quoted_length : (body rest : List ℕ) → AreUnquoted body → part_len (quoted body ++ 32 ∷ rest) ≡ length (quoted body)
unfolding part_len
quoted_length body rest all =
    let in_body = AllByRecursion-weaker (λ b. b ≢ 34) (λ b. is_in Unquoted b ≡ true) unquoted_in body all in
    let n : prefix_len Unquoted ((body ++ 34 ∷ []) ++ 32 ∷ rest) ≡ length body = ap (prefix_len Unquoted) (append_assoc body (34 ∷ []) (32 ∷ rest)) ∙ prefix_len-append Unquoted body (34 ∷ 32 ∷ rest) in_body refl in
    rw n (omega (arith, length-append body (34 ∷ []), length-append (body ++ 34 ∷ []) (32 ∷ rest)))

pub whole_quoted : (body : List ℕ) → AreUnquoted body → IsWholePart (quoted body)
whole_quoted body all = record { first = 34; others = body ++ 34 ∷ []; is = refl; solid = refl; len = λ rest. quoted_length body rest all }

-- the parts of a head
pub all_of : (P : List ℕ → Type 0) (xs ys : List (List ℕ)) → AllByRecursion P xs → AllByRecursion P ys → AllByRecursion P (xs ++ ys)
all_of P [] ys a b = b
all_of P (x ∷ xs) ys a b = (a.0, all_of P xs ys a.1 b)

whole_mentions : (mentions : List ℤ) (parts : List (List ℕ)) → DerivesMentions parts mentions → AllByRecursion IsWholePart parts
whole_mentions [] parts derived = absurd derived
whole_mentions (n ∷ []) parts derived = subst (AllByRecursion IsWholePart) (sym derived.1) (whole_integer derived.0 derived.2.number, tt)
whole_mentions (n ∷ m ∷ ns) parts derived =
    subst (AllByRecursion IsWholePart) (sym derived.2) (whole_integer derived.0 derived.3.number, (whole_comma, whole_mentions (m ∷ ns) derived.1 derived.4))

whole_set : (set : List ℤ) (parts : List (List ℕ)) → DerivesSet parts set → AllByRecursion IsWholePart parts
whole_set set parts s = subst (AllByRecursion IsWholePart) (sym s.parts_are) (whole_open, all_of IsWholePart s.inside (codes "}" ∷ []) (whole_mentions s.mentions s.inside s.derived) (whole_close, tt))

whole_sets : (sets : List (List ℤ)) (parts : List (List ℕ)) → DeriveSets parts sets → AllByRecursion IsWholePart parts
whole_sets [] parts derived = subst (AllByRecursion IsWholePart) (sym derived) tt
whole_sets (set ∷ sets) parts derived =
    subst (AllByRecursion IsWholePart) (sym derived.2) (all_of IsWholePart derived.0 derived.1 (whole_set set derived.0 derived.3) (whole_sets sets derived.1 derived.4))

whole_systems : (names : List (List ℕ)) → AllByRecursion (λ n. is_system n ≡ true) names → AllByRecursion IsWholePart names
whole_systems [] all = tt
whole_systems (n ∷ ns) all = (whole_system n all.0, whole_systems ns all.1)

whole_alphabets : (alphabets : Alphabets) (parts : List (List ℕ)) → DeriveAlphabets parts alphabets → AllByRecursion IsWholePart parts
whole_alphabets (Sets sets) parts derived = whole_sets sets parts derived.1
whole_alphabets (Systems names) parts derived = subst (AllByRecursion IsWholePart) (sym derived.1) (whole_systems names derived.2)

unfoldable pub text_of : List ℕ → List (List ℕ) → List ℕ
text_of word parts = word ++ 32 ∷ join parts

pub word_first : (word : List ℕ) (parts : List (List ℕ)) → AllByRecursion (λ b. is_in Word b ≡ true) word → AllByRecursion IsWholePart parts → texts_of (parts_of (text_of word parts)) ≡ word ∷ parts
unfolding parts_of text_of
word_first word parts of_word all =
    let rest = 32 ∷ join parts in
    let text = word ++ rest in
    let few : length (join parts) ≤ length text = omega (arith, length-append word rest) in
    ap (λ (l : List ℕ). l ∷ texts_of (parts_of_rest (length text) (length text) (begins_in Blank (after_word text)) (after_blanks (after_word text)))) (prefix_of-append Word word rest of_word refl)
    ∙ ap (λ (l : List ℕ). word ∷ texts_of (parts_of_rest (length text) (length text) (begins_in Blank l) (after_blanks l))) (after_prefix-append Word word rest of_word refl)
    ∙ ap (λ (l : List ℕ). word ∷ texts_of (parts_of_rest (length text) (length text) true l)) (solid_join parts all)
    ∙ ap (λ (l : List (List ℕ)). word ∷ l) (parts_join parts (length text) (length text) all few)

-- parts that derive from a `reg` are those of a text
pub reg_text : (parts : List (List ℕ)) (head : RegHead) → DerivesReg parts head → (text : List ℕ) × (texts_of (parts_of text) ≡ parts)
reg_text parts head s =
    let others = head.name ∷ (s.alphabets ++ quoted head.body ∷ []) in
    let all : AllByRecursion IsWholePart others = (whole_name head.name s.name, all_of IsWholePart s.alphabets (quoted head.body ∷ []) (whole_alphabets head.alphabets s.alphabets s.derived) (whole_quoted head.body s.body, tt)) in
    (text_of (codes "reg") others, word_first (codes "reg") others (refl, (refl, (refl, tt))) all ∙ sym s.parts_are)

name_byte-word : (b : ℕ) → is_in NameByte b ≡ true → is_in Word b ≡ true
name_byte-word b h = grind (arith, tests)

-- a name has neither a blank nor a quote
pub word_bytes : (word : List ℕ) → is_name word ≡ true → AllByRecursion (λ b. is_in Word b ≡ true) word
word_bytes word h =
    AllByRecursion-weaker (λ b. is_in NameByte b ≡ true) (λ b. is_in Word b ≡ true) name_byte-word word (name_bytes word h)

-- and parts that derive from a word, a name and a quoted text
pub named_text : (word : List ℕ) (parts : List (List ℕ)) (head : NamedHead) → is_name word ≡ true → DerivesNamed word parts head → (text : List ℕ) × (texts_of (parts_of text) ≡ parts)
named_text word parts head h s =
    let others = head.name ∷ quoted head.body ∷ [] in
    (text_of word others, word_first word others (word_bytes word h) (whole_name head.name s.name, (whole_quoted head.body s.body, tt)) ∙ sym s.parts_are)
