-- The parts of the heads of words, of languages, and of words of automata are those of some text.
use Rattle.std.proofs.Common.{◌≡◌, ℕ, suc, ◌+◌, ◌<◌, Bool, true, false, not, cond, ◌==◌, ◌&&◌, List, [], ◌∷◌, ◌++◌, ℤ, length, Option, None, Some, refl, sym, ◌∙◌, ap, subst, arith, codes, length-append}
use Rattle.std.specs.List.{AllByRecursion}
use Rattle.std.proofs.lemmas.List.{append-nil, append_assoc}
use Rattle.std.proofs.lemmas.Bool.{and_parts, ne_eqb, false≢true}
use Rattle.text_grammar.specs.declared.class.Class.TheVariants.{Digit, NameByte}
use Rattle.text_grammar.specs.Bytes.{is_letter}
use Rattle.text_grammar.specs.Prefixes.{all_in, begins_in, prefix_len}
use Rattle.text_grammar.specs.Numbers.{are_digits, is_number, number_len, unsigned}
use Rattle.command_head.specs.Parts.{ending_len, part_len, parts_of, texts_of, is_name}
use Rattle.command_head.specs.Heads.{ValuedName, PromoteHead, ImageHead, ConvertHead, CombineHead, LanguagesHead, TestHead}
use Rattle.command_head.specs.Grammar.{DerivesValue, DerivesValued, DeriveEach, DerivesPromote, DerivesImage, DerivesConvert, DerivesCombine, DerivesLanguages, DerivesLanguage, DerivesName, DerivesAfter, DerivesTest}
use Rattle.command_head.proofs.PrefixSteps.{prefix_len-append, after_prefix-append}
use Rattle.command_head.proofs.PartShape.{all_in-all, name_bytes, word_name}
use Rattle.command_head.proofs.JoinedParts.{IsWholePart, whole_name, whole_system, whole_digits, whole_quoted, letter_solid, letter_len, text_of, word_bytes, word_first}

-- digits before a blank
digits_prefix : (digits rest : List ℕ) → (not (length digits == 0) && all_in Digit digits) ≡ true → (begins_in Digit (digits ++ 32 ∷ rest) ≡ true) × (prefix_len Digit (digits ++ 32 ∷ rest) ≡ length digits)
digits_prefix [] rest h = absurd (false≢true h)
digits_prefix (d ∷ ds) rest h =
    let all = all_in-all Digit (d ∷ ds) (and_parts (not (length (d ∷ ds) == 0)) (all_in Digit (d ∷ ds)) h).1 in
    (all.0, prefix_len-append Digit (d ∷ ds) (32 ∷ rest) all refl)

-- and a sign before them
abbrev len_of : ℕ → ℕ → ℕ
len_of sign digits = cond (digits == 0) 0 (sign + digits)

len_some : (sign digits n : ℕ) → digits ≡ n → 0 < n → len_of sign digits ≡ sign + n
len_some sign digits n e some = rw (e, ne_eqb n 0 (λ z. omega arith)) refl

digits_some : (digits : List ℕ) → (not (length digits == 0) && all_in Digit digits) ≡ true → 0 < length digits
digits_some [] h = absurd (false≢true h)
digits_some (d ∷ ds) h = omega arith

signed_prefix : (sign : Bool) (b : ℕ) (bs rest : List ℕ) → (not (length (cond sign bs (b ∷ bs)) == 0) && all_in Digit (cond sign bs (b ∷ bs))) ≡ true →
    (begins_in Digit (cond sign (bs ++ 32 ∷ rest) (b ∷ (bs ++ 32 ∷ rest))) ≡ true) × (len_of (cond sign 1 0) (prefix_len Digit (cond sign (bs ++ 32 ∷ rest) (b ∷ (bs ++ 32 ∷ rest)))) ≡ length (b ∷ bs))
signed_prefix true b bs rest h = let d = digits_prefix bs rest h in (d.0, len_some 1 _ (length bs) d.1 (digits_some bs h) ∙ (let e : 1 + length bs ≡ suc (length bs) = omega arith in e))
signed_prefix false b bs rest h = let d = digits_prefix (b ∷ bs) rest h in (d.0, len_some 0 _ (length (b ∷ bs)) d.1 (digits_some (b ∷ bs) h) ∙ (let e : 0 + suc (length bs) ≡ suc (length bs) = omega arith in e))

number_prefix : (number rest : List ℕ) → is_number number ≡ true → (begins_in Digit (unsigned (number ++ 32 ∷ rest)) ≡ true) × (number_len (number ++ 32 ∷ rest) ≡ length number)
number_prefix [] rest h = absurd (false≢true h)
number_prefix (b ∷ bs) rest h = signed_prefix (b == 45) b bs rest h

value_len : (number rest : List ℕ) → is_number number ≡ true → ending_len (61 ∷ (number ++ 32 ∷ rest)) ≡ suc (length number)
value_len number rest h = let prefix = number_prefix number rest h in rw (prefix.0, prefix.1) (omega arith)

valued_len : (b : ℕ) (bs number rest : List ℕ) → is_name (b ∷ bs) ≡ true → is_number number ≡ true → part_len (((b ∷ bs) ++ 61 ∷ number) ++ 32 ∷ rest) ≡ length ((b ∷ bs) ++ 61 ∷ number)
valued_len b bs number rest named digits =
    let bytes = name_bytes (b ∷ bs) named in
    let letter = (and_parts (is_letter b) _ named).0 in
    let suffix = 61 ∷ (number ++ 32 ∷ rest) in
    let prefix = prefix_len-append NameByte (b ∷ bs) suffix bytes refl in
    let value = value_len number rest digits in
    let all = length-append (b ∷ bs) (61 ∷ number) in
    ap part_len (append_assoc (b ∷ bs) (61 ∷ number) (32 ∷ rest))
    ∙ letter_len b (bs ++ suffix) letter
    ∙ ap (λ (l : List ℕ). prefix_len NameByte ((b ∷ bs) ++ suffix) + ending_len l) (after_prefix-append NameByte (b ∷ bs) suffix bytes refl)
    ∙ (let sum : prefix_len NameByte ((b ∷ bs) ++ suffix) + ending_len suffix ≡ length ((b ∷ bs) ++ 61 ∷ number) = omega arith in sum)

-- a name with a number
whole_integer_after : (name number : List ℕ) → is_name name ≡ true → is_number number ≡ true → IsWholePart (name ++ 61 ∷ number)
whole_integer_after [] number named digits = absurd (false≢true named)
whole_integer_after (b ∷ bs) number named digits = record {
  first = b;
  others = bs ++ 61 ∷ number;
  is = refl;
  solid = letter_solid b (and_parts (is_letter b) _ named).0;
  len = λ rest. valued_len b bs number rest named digits;
}

-- a name, alone or with a value
whole_valued : (part : List ℕ) (valued : ValuedName) → DerivesValued part valued → IsWholePart part
whole_valued part valued s = by_value valued.value s.value
  where
    by_value : (value : Option ℤ) → DerivesValue s.suffix value → IsWholePart part
    by_value None e = subst IsWholePart (sym (s.part_is ∙ ap (λ (l : List ℕ). valued.name ++ l) e ∙ append-nil valued.name)) (whole_name valued.name s.name)
    by_value (Some n) v = subst IsWholePart (sym (s.part_is ∙ ap (λ (l : List ℕ). valued.name ++ l) v.1)) (whole_integer_after valued.name v.0 s.name v.2.number)

whole_each : (parts : List (List ℕ)) (automata : List ValuedName) → DeriveEach parts automata → AllByRecursion IsWholePart parts
whole_each [] automata each = tt
whole_each (part ∷ parts) [] each = absurd each
whole_each (part ∷ parts) (valued ∷ automata) each = (whole_valued part valued each.0, whole_each parts automata each.1)

pub promote_text : (parts : List (List ℕ)) (head : PromoteHead) → DerivesPromote parts head → (text : List ℕ) × (texts_of (parts_of text) ≡ parts)
promote_text parts head s =
    let others = head.word ∷ head.morphism ∷ [] in
    (text_of (codes "promote") others, word_first (codes "promote") others (word_bytes (codes "promote") refl) (whole_name head.word (word_name head.word s.word), (whole_name head.morphism s.morphism, tt)) ∙ sym s.parts_are)

pub image_text : (word : List ℕ) (parts : List (List ℕ)) (head : ImageHead) → is_name word ≡ true → DerivesImage word parts head → (text : List ℕ) × (texts_of (parts_of text) ≡ parts)
image_text word parts head h s =
    let others = head.word ∷ head.mapping ∷ head.old ∷ [] in
    let all : AllByRecursion IsWholePart others = (whole_name head.word (word_name head.word s.new), (whole_name head.mapping s.mapping, (whole_name head.old (word_name head.old s.old), tt))) in
    (text_of word others, word_first word others (word_bytes word h) all ∙ sym s.parts_are)

pub convert_text : (parts : List (List ℕ)) (head : ConvertHead) → DerivesConvert parts head → (text : List ℕ) × (texts_of (parts_of text) ≡ parts)
convert_text parts head s =
    let others = head.word ∷ head.system ∷ head.old ∷ [] in
    let all : AllByRecursion IsWholePart others = (whole_name head.word (word_name head.word s.word), (whole_system head.system s.system, (whole_name head.old (word_name head.old s.old), tt))) in
    (text_of (codes "convert") others, word_first (codes "convert") others (word_bytes (codes "convert") refl) all ∙ sym s.parts_are)

pub combine_text : (parts : List (List ℕ)) (head : CombineHead) → DerivesCombine parts head → (text : List ℕ) × (texts_of (parts_of text) ≡ parts)
combine_text parts head s =
    let others = head.word ∷ s.automata in
    (text_of (codes "combine") others, word_first (codes "combine") others (word_bytes (codes "combine") refl) (whole_name head.word (word_name head.word s.word), whole_each s.automata head.automata s.each) ∙ sym s.parts_are)

whole_names : (parts : List (List ℕ)) → AllByRecursion (λ part. is_name part ≡ true) parts → AllByRecursion IsWholePart parts
whole_names [] each = tt
whole_names (part ∷ parts) each = (whole_name part each.0, whole_names parts each.1)

pub languages_text : (word : List ℕ) (parts : List (List ℕ)) (head : LanguagesHead) → is_name word ≡ true → DerivesLanguages word parts head → (text : List ℕ) × (texts_of (parts_of text) ≡ parts)
languages_text word parts head h s =
    let others = head.name ∷ head.languages in
    (text_of word others, word_first word others (word_bytes word h) (whole_name head.name s.name, whole_names head.languages s.each) ∙ sym s.parts_are)

pub language_text : (word : List ℕ) (parts : List (List ℕ)) (head : LanguagesHead) → is_name word ≡ true → DerivesLanguage word parts head → (text : List ℕ) × (texts_of (parts_of text) ≡ parts)
language_text word parts head h s =
    let others = head.name ∷ s.language ∷ [] in
    (text_of word others, word_first word others (word_bytes word h) (whole_name head.name s.name, (whole_name s.language s.is_named, tt)) ∙ sym s.parts_are)

pub name_text : (word : List ℕ) (parts : List (List ℕ)) (name : List ℕ) → is_name word ≡ true → DerivesName word parts name → (text : List ℕ) × (texts_of (parts_of text) ≡ parts)
name_text word parts name h s =
    let others = name ∷ [] in
    (text_of word others, word_first word others (word_bytes word h) (whole_name name s.named, tt) ∙ sym s.parts_are)

whole_count : (part : List ℕ) → are_digits part ≡ true → IsWholePart part
whole_count part digits =
    let p = and_parts (not (length part == 0)) (all_in Digit part) digits in
    whole_digits part (some p.0) (all_in-all Digit part p.1)
  where
    not_true : (t : Bool) → not t ≡ true → t ≡ false
    not_true true e = sym e
    not_true false e = refl

    some : not (length part == 0) ≡ true → (length part == 0) ≡ false
    some h = not_true (length part == 0) h

whole_after : (others : List (List ℕ)) (place : Option (List (List ℤ))) → DerivesAfter others place → AllByRecursion IsWholePart others
whole_after others None after = subst (AllByRecursion IsWholePart) (sym after) tt
whole_after others (Some letters) after =
    let s = after.2 in
    subst (AllByRecursion IsWholePart) (sym after.1) (subst IsWholePart (sym s.part_is) (whole_quoted s.body s.unquoted), tt)

pub test_text : (parts : List (List ℕ)) (head : TestHead) → DerivesTest parts head → (text : List ℕ) × (texts_of (parts_of text) ≡ parts)
test_text parts head s =
    let others = head.name ∷ s.count ∷ s.others in
    (text_of (codes "test") others, word_first (codes "test") others (word_bytes (codes "test") refl) (whole_name head.name s.name, (whole_count s.count s.counted.digits, whole_after s.others head.place s.after)) ∙ sym s.parts_are)
