-- Heads of `combine`: a word, and one or more names, each alone or with a value.
use Rattle.std.proofs.Common.{◌≡◌, ◌≢◌, ℕ, ◌+◌, Bool, true, false, List, [], ◌∷◌, ◌++◌, ℤ, pos, length, take, drop, get_or, Option, None, Some, refl, sym, ◌∙◌, ap, subst, arith, codes, inl, inr, ⊎_elim, ◌^◌}
use Rattle.std.proofs.lemmas.List.{append-nil, append_assoc, take-append-drop}
use Rattle.std.proofs.lemmas.Bool.{false≢true, and_parts}
use Rattle.text_grammar.specs.Faults.{Begins}
use Rattle.text_grammar.specs.declared.class.Class.TheVariants.{Letter, NameByte}
use Rattle.text_grammar.specs.Prefixes.{begins_in, after_prefix, prefix_len, prefix_of, is_in}
use Rattle.text_grammar.specs.Numbers.{begins_with, is_number, is_short, number_of}
use Rattle.command_head.specs.Parts.{is_name, is_word, number_place}
use Rattle.command_head.specs.Heads.{ValuedName, CombineHead}
use Rattle.command_head.specs.Values.{IsValueText, IsLongValued}
use Rattle.command_head.specs.Grammar.{DerivesNumber, DerivesValue, DerivesValued, DeriveEach, DerivesCombine}
use Rattle.command_head.proofs.PrefixSteps.{Stops, prefix_of-append, after_prefix-append}
use Rattle.command_head.proofs.PartShape.{name_bytes, word_name}
use Rattle.command_head.proofs.ValuedParts.{IsAfterName, letter_append, number_split, back_is, prefix_is, letter_number, numbered_name, number_place-valued}
use Rattle.command_head.proofs.Expecting.{Expects, IsLong}

-- a part that is a name, alone or with a value
abbrev pub IsSomeValued : List ℕ → Type 0
IsSomeValued part = (valued : ValuedName) × DerivesValued part valued

-- a name alone
abbrev alone : List ℕ → ValuedName
alone name = record { name = name; value = None }

alone_derived : (name : List ℕ) → is_name name ≡ true → DerivesValued name (alone name)
alone_derived name named = record { suffix = []; part_is = sym (append-nil name); name = named; value = refl }

-- parts after those that are derived
pub each_append : (parts more : List (List ℕ)) (automata others : List ValuedName) → DeriveEach parts automata → DeriveEach more others → DeriveEach (parts ++ more) (automata ++ others)
each_append [] more [] others each last = last
each_append [] more (valued ∷ automata) others each last = absurd each
each_append (part ∷ parts) more [] others each last = absurd each
each_append (part ∷ parts) more (valued ∷ automata) others each last = (each.0, each_append parts more automata others each.1 last)

-- a part among those that are derived
each_part : (parts : List (List ℕ)) (part : List ℕ) (more : List (List ℕ)) (automata : List ValuedName) → DeriveEach ((parts ++ part ∷ []) ++ more) automata → IsSomeValued part
each_part [] part more [] each = absurd each
each_part [] part more (valued ∷ automata) each = (valued, each.0)
each_part (first ∷ parts) part more [] each = absurd each
each_part (first ∷ parts) part more (valued ∷ automata) each = each_part parts part more automata each.1

each_none : (automata : List ValuedName) → DeriveEach [] automata → automata ≡ []
each_none [] each = refl
each_none (valued ∷ automata) each = absurd each

some_append : (automata : List ValuedName) (valued : ValuedName) → automata ++ valued ∷ [] ≢ []
some_append [] valued e = cc
some_append (first ∷ automata) valued e = cc

-- what follows the word of a head
after_two : (a b x y : List ℕ) (xs ys : List (List ℕ)) → a ∷ b ∷ xs ≡ x ∷ y ∷ ys → xs ≡ ys
after_two a b x y xs ys e = ap (λ (l : List (List ℕ)). drop 2 l) e

head_made : (word : List ℕ) (items : List (List ℕ)) (automata : List ValuedName) → is_word word ≡ true → automata ≢ [] → DeriveEach items automata →
    DerivesCombine (codes "combine" ∷ word ∷ items) (record { word = word; automata = automata })
head_made word items automata is_word some each = record { automata = items; parts_are = refl; word = is_word; some = some; each = each }

-- what a head expects, part by part
pub first_expects : Expects DerivesCombine [] (λ part. part ≡ codes "combine")
first_expects = record {
  goes_on = (codes "combine" ∷ codes "a" ∷ codes "a" ∷ [], record { word = codes "a"; automata = alone (codes "a") ∷ [] }, head_made (codes "a") (codes "a" ∷ []) (alone (codes "a") ∷ []) refl (λ e. cc) (alone_derived (codes "a") refl, tt));
  only = λ part begins. ap (λ (l : List (List ℕ)). get_or l 0 []) begins.2.parts_are;
}

pub word_expects : Expects DerivesCombine (codes "combine" ∷ []) (λ part. is_word part ≡ true)
word_expects = record {
  goes_on = (codes "a" ∷ codes "a" ∷ [], record { word = codes "a"; automata = alone (codes "a") ∷ [] }, head_made (codes "a") (codes "a" ∷ []) (alone (codes "a") ∷ []) refl (λ e. cc) (alone_derived (codes "a") refl, tt));
  only = λ part begins. ap is_word (ap (λ (l : List (List ℕ)). get_or l 1 []) begins.2.parts_are) ∙ begins.2.word;
}

pub more_expects : (word : List ℕ) (items : List (List ℕ)) (automata : List ValuedName) → is_word word ≡ true → DeriveEach items automata → Expects DerivesCombine (codes "combine" ∷ word ∷ items) IsSomeValued
more_expects word items automata is_word each = record {
  goes_on = (
    codes "a" ∷ [],
    record { word = word; automata = automata ++ alone (codes "a") ∷ [] },
    head_made word (items ++ codes "a" ∷ []) (automata ++ alone (codes "a") ∷ []) is_word (some_append automata (alone (codes "a")))
        (each_append items (codes "a" ∷ []) automata (alone (codes "a") ∷ []) each (alone_derived (codes "a") refl, tt)),
  );
  only = λ part begins.
      let same = after_two (codes "combine") word (codes "combine") begins.1.word ((items ++ part ∷ []) ++ begins.0) begins.2.automata begins.2.parts_are in
      each_part items part begins.0 begins.1.automata (subst (λ (l : List (List ℕ)). DeriveEach l begins.1.automata) (sym same) begins.2.each);
}

-- a word alone is no head
pub word_unended : (head : CombineHead) → DerivesCombine (codes "combine" ∷ []) head → ⊥
word_unended head s = let lengths = ap length s.parts_are in absurd (omega arith)

pub none_unended : (word : List ℕ) (head : CombineHead) → DerivesCombine (codes "combine" ∷ word ∷ []) head → ⊥
none_unended word head s =
    let same : [] ≡ s.automata = after_two (codes "combine") word (codes "combine") head.word [] s.automata s.parts_are in
    s.some (each_none head.automata (subst (λ (l : List (List ℕ)). DeriveEach l head.automata) (sym same) s.each))

-- a number instead of the first word or of the word
pub first_long : (part : List ℕ) → IsLong (λ (l : List ℕ). l ≡ codes "combine") part → ⊥
first_long part long = numbered_name part long.other long.other_number (ap is_name long.taken)

pub word_long : (part : List ℕ) → IsLong (λ (l : List ℕ). is_word l ≡ true) part → ⊥
word_long part long = numbered_name part long.other long.other_number (word_name (take (number_place part) part ++ long.other) long.taken)

-- The name of a part is its prefix of bytes of names.
value_stops : (suffix : List ℕ) → IsValueText suffix → Stops NameByte suffix
value_stops [] value = tt
value_stops (b ∷ bs) value = ⊎_elim (λ e. absurd (no_cons e)) (λ v. ap (is_in NameByte) (ap (λ (l : List ℕ). get_or l 0 0) v.1)) value
  where
    no_cons : b ∷ bs ≡ [] → ⊥
    no_cons e = cc

pub value_text_of : (suffix : List ℕ) (value : Option ℤ) → DerivesValue suffix value → IsValueText suffix
value_text_of suffix None s = inl s
value_text_of suffix (Some n) s = inr (s.0, s.1, s.2.number)

pub name_prefix : (part name suffix : List ℕ) → part ≡ name ++ suffix → is_name name ≡ true → IsValueText suffix → prefix_of NameByte part ≡ name
name_prefix part name suffix e named value = ap (prefix_of NameByte) e ∙ prefix_of-append NameByte name suffix (name_bytes name named) (value_stops suffix value)

pub name_back : (part name suffix : List ℕ) → part ≡ name ++ suffix → is_name name ≡ true → IsValueText suffix → after_prefix NameByte part ≡ suffix
name_back part name suffix e named value = ap (after_prefix NameByte) e ∙ after_prefix-append NameByte name suffix (name_bytes name named) (value_stops suffix value)

-- what is said of the prefix of a part, and of what follows it, is said of any name with its value
pub not_named : (part prefix : List ℕ) (len : ℕ) (t : Bool) → len ≡ prefix_len NameByte part → prefix ≡ take len part → t ≡ is_name prefix → t ≡ false →
    (name : List ℕ) (suffix : List ℕ) → part ≡ name ++ suffix → is_name name ≡ true → IsValueText suffix → ⊥
not_named part prefix len t len_is prefix_is test fails name suffix e named value =
    let same : prefix ≡ name = prefix_is ∙ ap (λ (n : ℕ). take n part) len_is ∙ name_prefix part name suffix e named value in
    false≢true (sym fails ∙ test ∙ ap is_name same ∙ named)

pub not_value : (part back : List ℕ) (len : ℕ) → len ≡ prefix_len NameByte part → back ≡ drop len part → (IsValueText back → ⊥) →
    (name : List ℕ) (suffix : List ℕ) → part ≡ name ++ suffix → is_name name ≡ true → IsValueText suffix → ⊥
not_value part back len len_is back_is refused name suffix e named value =
    let same : back ≡ suffix = back_is ∙ ap (λ (n : ℕ). drop n part) len_is ∙ name_back part name suffix e named value in
    refused (subst IsValueText (sym same) value)

pub split_is : (part prefix back : List ℕ) (len : ℕ) → prefix ≡ take len part → back ≡ drop len part → part ≡ prefix ++ back
split_is part prefix back len prefix_is back_is = rw (prefix_is, back_is) (sym (take-append-drop len part))

-- a part of another form has no number that is out of range
pub form_long : (part : List ℕ) → ((name : List ℕ) (suffix : List ℕ) → part ≡ name ++ suffix → is_name name ≡ true → IsValueText suffix → ⊥) → IsLong IsSomeValued part → ⊥
form_long part refused long = ⊎_elim alone_number (λ s. after_name s) (number_split part)
  where
    valued : ValuedName
    valued = long.taken.0

    derives : DerivesValued (take (number_place part) part ++ long.other) valued
    derives = long.taken.1

    alone_number : number_place part ≡ 0 → ⊥
    alone_number z =
        let letter : begins_in Letter (take (number_place part) part ++ long.other) ≡ true =
        subst (λ (l : List ℕ). begins_in Letter l ≡ true) (sym derives.part_is) (letter_append valued.name derives.suffix (and_parts _ _ derives.name).0) in
        letter_number long.other (subst (λ (n : ℕ). begins_in Letter (take n part ++ long.other) ≡ true) z letter) long.other_number

    after_name : IsAfterName part → ⊥
    after_name s =
        let whole : take (number_place part) part ++ long.other ≡ s.name ++ 61 ∷ long.other = ap (λ (l : List ℕ). l ++ long.other) (prefix_is part s) ∙ append_assoc s.name (61 ∷ []) long.other in
        let same : s.name ≡ valued.name =
        sym (prefix_of-append NameByte s.name (61 ∷ long.other) s.bytes refl) ∙ ap (prefix_of NameByte) (sym whole)
        ∙ name_prefix _ valued.name derives.suffix derives.part_is derives.name (value_text_of derives.suffix valued.value derives.value) in
        refused s.name (61 ∷ s.suffix) s.part_is (ap is_name same ∙ derives.name) (inr (s.suffix, refl, subst (λ (l : List ℕ). is_number l ≡ true) (back_is part s) long.number))

-- zero, with a sign or without
abbrev zero_of : Bool → List ℕ
zero_of true = codes "-0"
zero_of false = codes "0"

zero_derived : (sign : Bool) → DerivesNumber (zero_of sign) (pos 0) × (begins_with 45 (zero_of sign) ≡ sign)
zero_derived true = (record { number = refl; value = refl; short = refl }, refl)
zero_derived false = (record { number = refl; value = refl; short = refl }, refl)

-- a value out of range, and zero in its place
pub value_long : (part : List ℕ) (place : ℕ) → IsLongValued part place → (number_place part ≡ place) × IsLong IsSomeValued part
value_long part place is =
    let value = is.value in
    let part_is : part ≡ is.name ++ 61 ∷ value.number = is.part_is ∙ ap (λ (l : List ℕ). is.name ++ l) value.after_is in
    let place_is : number_place part ≡ length is.name + 1 = ap number_place part_is ∙ number_place-valued is.name value.number is.is_named in
    let split : IsAfterName part = record { name = is.name; suffix = value.number; part_is = part_is; letter = (and_parts _ _ is.is_named).0; bytes = name_bytes is.name is.is_named; place = place_is } in
    let other = zero_of (begins_with 45 value.number) in
    let zero = zero_derived (begins_with 45 value.number) in (
      place_is ∙ is.place,
      record {
        number = subst (λ (l : List ℕ). is_number l ≡ true) (sym (back_is part split)) value.digits;
        long = subst (λ (l : List ℕ). is_short (2 ^ 31) (number_of l) ≡ false) (sym (back_is part split)) value.long;
        other = other;
        other_number = zero.0.number;
        sign = zero.1 ∙ ap (begins_with 45) (sym (back_is part split));
        taken = (
          record { name = is.name; value = Some (pos 0) },
          record {
            suffix = 61 ∷ other;
            part_is = ap (λ (l : List ℕ). l ++ other) (prefix_is part split) ∙ append_assoc is.name (61 ∷ []) other;
            name = is.is_named;
            value = (other, refl, zero.0);
          },
        );
      },
    )

-- a part whose value is out of range is of no kind
pub long_refused : (part : List ℕ) (place : ℕ) → IsLongValued part place → IsSomeValued part → ⊥
long_refused part place is some =
    let derives = some.1 in
    let value = is.value in
    let own : IsValueText is.suffix = inr (value.number, value.after_is, value.digits) in
    let same : derives.suffix ≡ is.suffix =
    sym (name_back part some.0.name derives.suffix derives.part_is derives.name (value_text_of derives.suffix some.0.value derives.value)) ∙ name_back part is.name is.suffix is.part_is is.is_named own in
    by_value some.0.value (subst (λ (l : List ℕ). DerivesValue l some.0.value) (same ∙ value.after_is) derives.value)
  where
    by_value : (v : Option ℤ) → DerivesValue (61 ∷ is.value.number) v → ⊥
    by_value None s = cc
    by_value (Some n) s =
        let e : is.value.number ≡ s.0 = ap (λ (l : List ℕ). drop 1 l) s.1 in
        false≢true (sym is.value.long ∙ ap (λ (l : List ℕ). is_short (2 ^ 31) (number_of l)) e ∙ ap (is_short (2 ^ 31)) s.2.value ∙ s.2.short)

-- the grammar goes on where such a part has a number that fits
pub long_begins : (word : List ℕ) (items : List (List ℕ)) (automata : List ValuedName) (part : List ℕ) → is_word word ≡ true → DeriveEach items automata → IsSomeValued part →
    Begins DerivesCombine ((codes "combine" ∷ word ∷ items) ++ part ∷ [])
long_begins word items automata part is_word each some = (
  [],
  record { word = word; automata = automata ++ some.0 ∷ [] },
  subst (λ (l : List (List ℕ)). DerivesCombine (codes "combine" ∷ word ∷ l) (record { word = word; automata = automata ++ some.0 ∷ [] })) (sym (append-nil (items ++ part ∷ [])))
      (head_made word (items ++ part ∷ []) (automata ++ some.0 ∷ []) is_word (some_append automata some.0) (each_append items (part ∷ []) automata (some.0 ∷ []) each (some.1, tt))),
)

-- parts derive from at most one `combine`
value_is : (suffix : List ℕ) (value other : Option ℤ) → DerivesValue suffix value → DerivesValue suffix other → value ≡ other
value_is suffix None None a b = refl
value_is suffix None (Some n) a b = absurd (no_cons b.0 (sym b.1 ∙ a))
  where
    no_cons : (bs : List ℕ) → 61 ∷ bs ≡ [] → ⊥
    no_cons bs e = cc
value_is suffix (Some n) None a b = absurd (no_cons a.0 (sym a.1 ∙ b))
  where
    no_cons : (bs : List ℕ) → 61 ∷ bs ≡ [] → ⊥
    no_cons bs e = cc
value_is suffix (Some n) (Some m) a b =
    let e : a.0 ≡ b.0 = ap (λ (l : List ℕ). drop 1 l) (sym a.1 ∙ b.1) in
    ap (λ (k : ℤ). Some k) (sym a.2.value ∙ ap number_of e ∙ b.2.value)

one_valued : (part : List ℕ) (valued other : ValuedName) → DerivesValued part valued → DerivesValued part other → valued ≡ other
one_valued part valued other a b =
    let text = value_text_of a.suffix valued.value a.value in
    let text' = value_text_of b.suffix other.value b.value in
    let names : valued.name ≡ other.name = sym (name_prefix part valued.name a.suffix a.part_is a.name text) ∙ name_prefix part other.name b.suffix b.part_is b.name text' in
    let suffixes : a.suffix ≡ b.suffix = sym (name_back part valued.name a.suffix a.part_is a.name text) ∙ name_back part other.name b.suffix b.part_is b.name text' in
    let values = value_is b.suffix valued.value other.value (subst (λ (l : List ℕ). DerivesValue l valued.value) suffixes a.value) b.value in
    ap (λ (n : List ℕ). record { name = n; value = valued.value }) names ∙ ap (λ (v : Option ℤ). record { name = other.name; value = v }) values

one_each : (parts : List (List ℕ)) (automata others : List ValuedName) → DeriveEach parts automata → DeriveEach parts others → automata ≡ others
one_each [] [] [] a b = refl
one_each [] [] (other ∷ others) a b = absurd b
one_each [] (valued ∷ automata) others a b = absurd a
one_each (part ∷ parts) [] others a b = absurd a
one_each (part ∷ parts) (valued ∷ automata) [] a b = absurd b
one_each (part ∷ parts) (valued ∷ automata) (other ∷ others) a b =
    ap (λ (v : ValuedName). v ∷ automata) (one_valued part valued other a.0 b.0) ∙ ap (λ (l : List ValuedName). other ∷ l) (one_each parts automata others a.1 b.1)

pub one_combine : (parts : List (List ℕ)) (head other : CombineHead) → DerivesCombine parts head → DerivesCombine parts other → head ≡ other
one_combine parts head other a b =
    let same = sym a.parts_are ∙ b.parts_are in
    let words : head.word ≡ other.word = ap (λ (l : List (List ℕ)). get_or l 1 []) same in
    let items : a.automata ≡ b.automata = ap (λ (l : List (List ℕ)). drop 2 l) same in
    let lists = one_each b.automata head.automata other.automata (subst (λ (l : List (List ℕ)). DeriveEach l head.automata) items a.each) b.each in
    ap (λ (w : List ℕ). record { word = w; automata = head.automata }) words ∙ ap (λ (l : List ValuedName). record { word = other.word; automata = l }) lists
