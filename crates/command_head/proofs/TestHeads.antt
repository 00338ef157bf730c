-- Heads of `test`.
use Rattle.std.proofs.Common.{◌≡◌, ◌≢◌, ℕ, suc, ◌+◌, ◌-◌, ◌<◌, ◌≤◌, ◌^◌, Bool, true, false, not, ◌==◌, List, [], ◌∷◌, ◌++◌, ℤ, length, take, drop, get_or, Option, None, Some, Result, Ok, Err, refl, sym, ◌∙◌, ap, subst, arith, codes}
use Rattle.std.proofs.lemmas.Bool.{false≢true, and_parts}
use Rattle.std.proofs.lemmas.List.{take_at, length-append}
use Rattle.text_grammar.specs.Faults.{Begins, BreaksAt}
use Rattle.text_grammar.specs.declared.class.Class.TheVariants.{Digit}
use Rattle.text_grammar.specs.Prefixes.{all_in}
use Rattle.text_grammar.specs.Numbers.{are_digits, begins_with, value_of}
use Rattle.text_grammar.proofs.FaultLemmas.{breaks_nowhere, breaks_once}
use Rattle.place_text.specs.declared.fault.PlaceFault.{PlaceFault}
use Rattle.place_text.specs.Faults.{IsFault}
use Rattle.place_text.specs.Grammar.{Derives}
use Rattle.place_text.specs.Lexemes.{lexemes}
use Rattle.place_text.proofs.OneParse.{one_fault, one_place}
use Rattle.command_head.specs.declared.fault.HeadFault.{HeadFault}
use Rattle.command_head.specs.declared.fault.HeadFault.TheVariants.{Syntax, Number, Memory}
use Rattle.command_head.specs.Parts.{first_word_of, first_in, is_name, is_quoted, parts_of, texts_of, unquoted}
use Rattle.command_head.specs.Heads.{TestHead}
use Rattle.command_head.specs.Grammar.{AreUnquoted, quoted, DerivesCount, DerivesPlace, DerivesAfter, DerivesTest}
use Rattle.command_head.specs.Breaks.{BreaksIn, part_at}
use Rattle.command_head.specs.TestBreaks.{IsLongCount, IsBrokenPlace, Refuses, LongCount, BrokenPlace, Whole, IsTestFault, HasTest, HasOneTest, fault_from}
use Rattle.command_head.specs.TestParts.{RefusesCount, NoDigits, TooGreat, RefusesPlace, NoQuotes, Broken, NoMemory}
use Rattle.command_head.proofs.PartShape.{quoted_is, is_quoted-part, all_in-all}
use Rattle.command_head.proofs.PartsRead.{IsRead, next_of}
use Rattle.command_head.proofs.Expecting.{Expects, IsLeftAt, left_at, part_after, breaks_after, ended_there, word_place, word_text, some_texts}
use Rattle.command_head.proofs.NamedHeads.{same_body}
use Rattle.command_head.proofs.OneFault.{one_break}

pub test_read : (name count : List ℕ) (others : List (List ℕ)) (n : ℕ) (place : Option (List (List ℤ))) → is_name name ≡ true → DerivesCount count n → DerivesAfter others place →
    DerivesTest (codes "test" ∷ name ∷ count ∷ others) (record { name = name; count = n; place = place })
test_read name count others n place named counted after = record { count = count; others = others; parts_are = refl; name = named; counted = counted; after = after }

zero_count : DerivesCount (codes "0") 0
zero_count = record { digits = refl; value = refl; within = omega arith }

empty_place : DerivesPlace (quoted (codes "[]")) []
empty_place = record { body = codes "[]"; part_is = refl; unquoted = ((λ e. cc), ((λ e. cc), tt)); derived = record { some = tt; derives = refl } }

-- what a head expects, part by part
pub word_expects : Expects DerivesTest [] (λ part. part ≡ codes "test")
word_expects = record {
  goes_on = (codes "test" ∷ codes "a" ∷ codes "0" ∷ [], record { name = codes "a"; count = 0; place = None }, test_read (codes "a") (codes "0") [] 0 None refl zero_count refl);
  only = λ part begins. ap (λ (l : List (List ℕ)). get_or l 0 []) begins.2.parts_are;
}

pub name_expects : Expects DerivesTest (codes "test" ∷ []) (λ part. is_name part ≡ true)
name_expects = record {
  goes_on = (codes "a" ∷ codes "0" ∷ [], record { name = codes "a"; count = 0; place = None }, test_read (codes "a") (codes "0") [] 0 None refl zero_count refl);
  only = λ part begins. ap is_name (ap (λ (l : List (List ℕ)). get_or l 1 []) begins.2.parts_are) ∙ begins.2.name;
}

abbrev pub IsCount : List ℕ → Type 0
IsCount part = (n : ℕ) × DerivesCount part n

pub count_expects : (name : List ℕ) → is_name name ≡ true → Expects DerivesTest (codes "test" ∷ name ∷ []) IsCount
count_expects name named = record {
  goes_on = (codes "0" ∷ [], record { name = name; count = 0; place = None }, test_read name (codes "0") [] 0 None named zero_count refl);
  only = λ part begins. (begins.1.count, subst (λ (l : List ℕ). DerivesCount l begins.1.count) (sym (ap (λ (l : List (List ℕ)). get_or l 2 []) begins.2.parts_are)) begins.2.counted);
}

abbrev pub IsPlace : List ℕ → Type 0
IsPlace part = (letters : List (List ℤ)) × DerivesPlace part letters

no_parts : (part : List ℕ) (more : List (List ℕ)) → part ∷ more ≡ [] → ⊥
no_parts part more e = cc

-- the parts after a place are none
after_place : (place : Option (List (List ℤ))) (part : List ℕ) (more : List (List ℕ)) → DerivesAfter (part ∷ more) place → IsPlace part × (more ≡ [])
after_place None part more after = absurd (no_parts part more after)
after_place (Some letters) part more after =
    let first : part ≡ after.0 = ap (λ (l : List (List ℕ)). get_or l 0 []) after.1 in
    let rest : more ≡ [] = ap (λ (l : List (List ℕ)). drop 1 l) after.1 in
    ((letters, subst (λ (l : List ℕ). DerivesPlace l letters) (sym first) after.2), rest)

others_are : (name count : List ℕ) (more : List (List ℕ)) (head : TestHead) (s : DerivesTest (codes "test" ∷ name ∷ count ∷ more) head) → DerivesAfter more head.place
others_are name count more head s = subst (λ (l : List (List ℕ)). DerivesAfter l head.place) (sym (ap (λ (l : List (List ℕ)). drop 3 l) s.parts_are)) s.after

pub place_expects : (name count : List ℕ) (n : ℕ) → is_name name ≡ true → DerivesCount count n → Expects DerivesTest (codes "test" ∷ name ∷ count ∷ []) IsPlace
place_expects name count n named counted = record {
  goes_on = ([], record { name = name; count = n; place = None }, test_read name count [] n None named counted refl);
  only = λ part begins. (after_place begins.1.place part begins.0 (others_are name count (part ∷ begins.0) begins.1 begins.2)).0;
}

pub end_expects : (name count place : List ℕ) (n : ℕ) (letters : List (List ℤ)) → is_name name ≡ true → DerivesCount count n → DerivesPlace place letters →
    Expects DerivesTest (codes "test" ∷ name ∷ count ∷ place ∷ []) (λ part. ⊥)
end_expects name count place n letters named counted placed = record {
  goes_on = ([], record { name = name; count = n; place = Some letters }, test_read name count (place ∷ []) n (Some letters) named counted (place, refl, placed));
  only = λ part begins. no_parts part begins.0 (after_place begins.1.place place (part ∷ begins.0) (others_are name count (place ∷ part ∷ begins.0) begins.1 begins.2)).1;
}

pub word_unended : (head : TestHead) → DerivesTest (codes "test" ∷ []) head → ⊥
word_unended head s = let e = ap (λ (l : List (List ℕ)). length l) s.parts_are in absurd (omega arith)

pub name_unended : (name : List ℕ) (head : TestHead) → DerivesTest (codes "test" ∷ name ∷ []) head → ⊥
name_unended name head s = let e = ap (λ (l : List (List ℕ)). length l) s.parts_are in absurd (omega arith)

-- a part that is of no kind that is expected, and why
module _ (prefix : List (List ℕ)) (kind : List ℕ → Type 0) (expects : Expects DerivesTest prefix kind) where
  fault_at : (text part : List ℕ) (at : ℕ) (fault : HeadFault) (left : IsLeftAt text prefix part at) → (left.tail ≡ [] → (head : TestHead) → DerivesTest prefix head → ⊥) → (kind part → ⊥) → Refuses prefix part at fault → IsTestFault text fault
  fault_at text part at fault left unended refused refuses =
      let texts = texts_of (parts_of text) in
      let before : prefix ≡ take (length prefix) texts = sym (ap (take (length prefix)) left.texts ∙ take_at prefix left.tail (length prefix) refl) in
      let there : part ≡ part_at texts (length prefix) = sym (ap (λ (l : List (List ℕ)). part_at l (length prefix)) left.texts ∙ part_after prefix left.tail ∙ left.first) in
      record {
        begin = at;
        first = record {
          count = length prefix;
          breaks = subst (λ (l : List (List ℕ)). BreaksAt DerivesTest l (length prefix)) (sym left.texts) (breaks_after DerivesTest prefix kind expects left.tail (λ k. refused (subst kind left.first k)) unended);
          place = left.place;
        };
        refuses = subst (λ (l : List (List ℕ)). Refuses l (part_at texts (length prefix)) at fault) before (subst (λ (l : List ℕ). Refuses prefix l at fault) there refuses);
      }

  -- the part that is first of what is left
  pub refused_at : (text : List ℕ) (all : ℕ) (blank : Bool) (rest part : List ℕ) (at : ℕ) (fault : HeadFault) → (rest ≡ [] → (head : TestHead) → DerivesTest prefix head → ⊥) → IsRead text prefix all blank rest →
      at ≡ all - length rest → part ≡ first_in blank rest → (kind part → ⊥) → Refuses prefix part at fault → IsTestFault text fault
  refused_at text all blank rest part at fault unended read at_is part_is refused refuses =
      fault_at text part at fault (left_at text prefix all blank rest part at read at_is part_is) (λ e. ended_there rest (next_of text prefix all blank rest read).some e unended) refused refuses

  -- where neither a number nor a place may be
  pub refuses_whole : (part : List ℕ) (at : ℕ) → (kind (codes "0") → ⊥) → (kind (quoted (codes "[]")) → ⊥) → Refuses prefix part at (Syntax at)
  refuses_whole part at number place = Whole (λ l. number (expects.only (codes "0") l.allowed)) (λ broken b. place (expects.only (quoted (codes "[]")) b.allowed)) refl

-- a text in quotes is not the first word
no_word : quoted (codes "[]") ≡ codes "test" → ⊥
no_word e = false≢true (ap (begins_with 116) e)

-- the first word is another one
pub word_refused : (text : List ℕ) → first_word_of text ≢ codes "test" → IsTestFault text (Syntax 0)
word_refused text other =
    fault_at [] (λ part. part ≡ codes "test") word_expects text (first_word_of text) 0 (Syntax 0)
    record { tail = texts_of (parts_of text); texts = refl; first = word_text text; place = word_place text }
    (λ e. absurd (some_texts text e)) other (refuses_whole [] (λ part. part ≡ codes "test") word_expects (first_word_of text) 0 (λ e. cc) no_word)

-- a text in quotes is not digits alone
no_digits : (body : List ℕ) → are_digits (quoted body) ≡ true → ⊥
no_digits body h = false≢true (all_in-all Digit (quoted body) (and_parts (not (length (quoted body) == 0)) (all_in Digit (quoted body)) h).1).0

no_quote : (body : List ℕ) → codes "0" ≡ quoted body → ⊥
no_quote body e = cc

-- why a part is no number of words
pub count_refuses : (name : List ℕ) (part : List ℕ) (at : ℕ) (fault : HeadFault) → is_name name ≡ true → RefusesCount part at fault → Refuses (codes "test" ∷ name ∷ []) part at fault
count_refuses name part at fault named (NoDigits digits is) =
    Whole (λ l. false≢true (sym digits ∙ l.digits)) (λ broken b. let c = (count_expects name named).only (quoted (codes "[]")) b.allowed in no_digits (codes "[]") c.1.digits) is
count_refuses name part at fault named (TooGreat digits great is) =
    LongCount (record { digits = digits; long = great; allowed = ([], record { name = name; count = 0; place = None }, test_read name (codes "0") [] 0 None named zero_count refl) }) is

pub count_refused : (part : List ℕ) (at : ℕ) (fault : HeadFault) → RefusesCount part at fault → IsCount part → ⊥
count_refused part at fault (NoDigits digits is) count = false≢true (sym digits ∙ count.1.digits)
count_refused part at fault (TooGreat digits great is) count =
    let value = count.1.value in
    let within = count.1.within in omega arith

-- why a part is no place in quotes
pub place_refuses : (name count : List ℕ) (n : ℕ) (part : List ℕ) (at : ℕ) (fault : HeadFault) → is_name name ≡ true → DerivesCount count n → fault ≢ Memory → RefusesPlace part at fault →
    Refuses (codes "test" ∷ name ∷ count ∷ []) part at fault
place_refuses name count n part at fault named counted known (NoQuotes quotes is) =
    Whole (λ l. let p = (place_expects name count n named counted).only (codes "0") l.allowed in no_quote p.1.body p.1.part_is)
    (λ broken b. false≢true (sym quotes ∙ ap is_quoted b.part_is ∙ (quoted_is b.body b.unquoted).test)) is
place_refuses name count n part at fault named counted known (Broken quotes broken is_fault is) =
    let shape = is_quoted-part part quotes in
    BrokenPlace broken record {
      body = unquoted part;
      part_is = shape.0;
      unquoted = shape.1;
      broken = is_fault;
      allowed = ([], record { name = name; count = n; place = Some [] }, test_read name count (quoted (codes "[]") ∷ []) n (Some []) named counted (quoted (codes "[]"), refl, empty_place));
    } is
place_refuses name count n part at fault named counted known (NoMemory is) = absurd (known is)

pub place_refused : (part : List ℕ) (at : ℕ) (fault : HeadFault) → fault ≢ Memory → RefusesPlace part at fault → IsPlace part → ⊥
place_refused part at fault known (NoQuotes quotes is) place = false≢true (sym quotes ∙ ap is_quoted place.1.part_is ∙ (quoted_is place.1.body place.1.unquoted).test)
place_refused part at fault known (Broken quotes broken is_fault is) place =
    let body : unquoted part ≡ place.1.body = ap unquoted place.1.part_is ∙ (quoted_is place.1.body place.1.unquoted).inside in
    let f = subst (λ (l : List ℕ). IsFault l broken) body is_fault in
    breaks_nowhere Derives (lexemes place.1.body) f.count place.0 f.breaks place.1.derived
place_refused part at fault known (NoMemory is) place = known is

-- parts derive from at most one `test`
one_place_part : (a b : List ℕ) (x y : List (List ℤ)) → a ≡ b → DerivesPlace a x → DerivesPlace b y → x ≡ y
one_place_part a b x y same p q =
    let body : p.body ≡ q.body = same_body p.body q.body p.unquoted q.unquoted (sym p.part_is ∙ same ∙ q.part_is) in
    one_place q.body x y (subst (λ (l : List ℕ). Derives (lexemes l) x) body p.derived) q.derived

one_after : (xs ys : List (List ℕ)) (a b : Option (List (List ℤ))) → xs ≡ ys → DerivesAfter xs a → DerivesAfter ys b → a ≡ b
one_after xs ys None None same p q = refl
one_after xs ys None (Some y) same p q = let e = sym p ∙ same ∙ q.1 in cc
one_after xs ys (Some x) None same p q = let e = sym p.1 ∙ same ∙ q in cc
one_after xs ys (Some x) (Some y) same p q = ap (λ (l : List (List ℤ)). Some l) (one_place_part p.0 q.0 x y (ap (λ (l : List (List ℕ)). get_or l 0 []) (sym p.1 ∙ same ∙ q.1)) p.2 q.2)

one_derived : (ps : List (List ℕ)) (head other : TestHead) → DerivesTest ps head → DerivesTest ps other → head ≡ other
one_derived ps head other a b =
    let same = sym a.parts_are ∙ b.parts_are in
    let names : head.name ≡ other.name = ap (λ (l : List (List ℕ)). get_or l 1 []) same in
    let counts : head.count ≡ other.count = sym a.counted.value ∙ ap (λ (l : List (List ℕ)). value_of (get_or l 2 [])) same ∙ b.counted.value in
    let places : head.place ≡ other.place = one_after a.others b.others head.place other.place (ap (λ (l : List (List ℕ)). drop 3 l) same) a.after b.after in
    ap (λ (l : List ℕ). record { name = l; count = head.count; place = head.place }) names
    ∙ ap (λ (n : ℕ). record { name = other.name; count = n; place = head.place }) counts
    ∙ ap (λ (p : Option (List (List ℤ))). record { name = other.name; count = other.count; place = p }) places

-- a part is refused by one fault
same_inside : (body other : List ℕ) (f g : PlaceFault) → body ≡ other → IsFault body f → IsFault other g → f ≡ g
same_inside body other f g same a b = one_fault other f g (subst (λ (l : List ℕ). IsFault l f) same a) b

refused_once : (before : List (List ℕ)) (part : List ℕ) (begin : ℕ) (f g : HeadFault) → Refuses before part begin f → Refuses before part begin g → f ≡ g
refused_once before part begin f g (LongCount a is) (LongCount b other) = is ∙ sym other
refused_once before part begin f g (LongCount a is) (BrokenPlace broken b other) = absurd (no_digits b.body (ap are_digits (sym b.part_is) ∙ a.digits))
refused_once before part begin f g (LongCount a is) (Whole number place other) = absurd (number a)
refused_once before part begin f g (BrokenPlace broken a is) (LongCount b other) = absurd (no_digits a.body (ap are_digits (sym a.part_is) ∙ b.digits))
refused_once before part begin f g (BrokenPlace broken a is) (BrokenPlace wrong b other) =
    let same = same_body a.body b.body a.unquoted b.unquoted (sym a.part_is ∙ b.part_is) in
    is ∙ ap (fault_from (begin + 1)) (same_inside a.body b.body broken wrong same a.broken b.broken) ∙ sym other
refused_once before part begin f g (BrokenPlace broken a is) (Whole number place other) = absurd (place broken a)
refused_once before part begin f g (Whole number place is) (LongCount b other) = absurd (number b)
refused_once before part begin f g (Whole number place is) (BrokenPlace broken b other) = absurd (place broken b)
refused_once before part begin f g (Whole number place is) (Whole number' place' other) = is ∙ sym other

one_fault_of : (text : List ℕ) (f g : HeadFault) → IsTestFault text f → IsTestFault text g → f ≡ g
one_fault_of text f g a b =
    let texts = texts_of (parts_of text) in
    let counts : a.first.count ≡ b.first.count = breaks_once DerivesTest texts a.first.count b.first.count a.first.breaks b.first.breaks in
    let begins : a.begin ≡ b.begin = one_break DerivesTest text a.begin b.begin a.first b.first in
    let first : Refuses (take b.first.count texts) (part_at texts b.first.count) a.begin f = subst (λ (n : ℕ). Refuses (take n texts) (part_at texts n) a.begin f) counts a.refuses in
    refused_once (take b.first.count texts) (part_at texts b.first.count) b.begin f g (subst (λ (n : ℕ). Refuses (take b.first.count texts) (part_at texts b.first.count) n f) begins first) b.refuses

no_test : (text : List ℕ) (head : TestHead) (f : HeadFault) → DerivesTest (texts_of (parts_of text)) head → IsTestFault text f → ⊥
no_test text head f derives is = breaks_nowhere DerivesTest (texts_of (parts_of text)) is.first.count head is.first.breaks derives

fault_known : (text : List ℕ) (f : HeadFault) → HasTest (λ (head : TestHead). head) text (Err f) → (let r : Result TestHead HeadFault = Err f in r) ≢ Err Memory → IsTestFault text f
fault_known text (Syntax at) is known = is
fault_known text (Number at) is known = is
fault_known text Memory is known = absurd (known refl)

-- a text has one head of a `test` or one fault
pub one_test : HasOneTest
one_test text (Ok head) (Ok other) a b known known' = ap (λ (h : TestHead). let r : Result TestHead HeadFault = Ok h in r) (one_derived (texts_of (parts_of text)) head other a b)
one_test text (Ok head) (Err g) a b known known' = absurd (no_test text head g a (fault_known text g b known'))
one_test text (Err f) (Ok other) a b known known' = absurd (no_test text other f b (fault_known text f a known))
one_test text (Err f) (Err g) a b known known' = ap (λ (h : HeadFault). let r : Result TestHead HeadFault = Err h in r) (one_fault_of text f g (fault_known text f a known) (fault_known text g b known'))

-- the fault that is reported is that of the text; memory may run out at any time
pub fault_reported : {X : Type 0} (view : X → TestHead) (text : List ℕ) (f : HeadFault) → (f ≢ Memory → IsTestFault text f) → HasTest view text (Err f)
fault_reported view text (Syntax at) is = is (λ e. cc)
fault_reported view text (Number at) is = is (λ e. cc)
fault_reported view text Memory is = tt

-- where a text that is read so far is refused
module _ (text : List ℕ) (all : ℕ) (blank : Bool) (rest : List ℕ) where
  -- by a part that is no name
  pub name_refused : (part : List ℕ) (at : ℕ) → IsRead text (codes "test" ∷ []) all blank rest → at ≡ all - length rest → part ≡ first_in blank rest → is_name part ≡ false → IsTestFault text (Syntax at)
  name_refused part at read at_is part_is other =
      refused_at (codes "test" ∷ []) (λ p. is_name p ≡ true) name_expects text all blank rest part at (Syntax at) (λ none. word_unended) read at_is part_is (λ named. false≢true (sym other ∙ named))
      (refuses_whole (codes "test" ∷ []) (λ p. is_name p ≡ true) name_expects part at false≢true false≢true)

  -- by one that is no number of words
  pub no_count : (name part : List ℕ) (at : ℕ) (fault : HeadFault) → is_name name ≡ true → IsRead text (codes "test" ∷ name ∷ []) all blank rest → at ≡ all - length rest → part ≡ first_in blank rest → RefusesCount part at fault → IsTestFault text fault
  no_count name part at fault named read at_is part_is refused =
      refused_at (codes "test" ∷ name ∷ []) IsCount (count_expects name named) text all blank rest part at fault (λ none. name_unended name) read at_is part_is (count_refused part at fault refused) (count_refuses name part at fault named refused)

  -- by one that is no place
  pub no_place : (name count : List ℕ) (n : ℕ) (part : List ℕ) (at : ℕ) (fault : HeadFault) → is_name name ≡ true → DerivesCount count n → rest ≢ [] → IsRead text (codes "test" ∷ name ∷ count ∷ []) all blank rest → at ≡ all - length rest → part ≡ first_in blank rest
      → RefusesPlace part at fault → fault ≢ Memory → IsTestFault text fault
  no_place name count n part at fault named counted some read at_is part_is refused known =
      refused_at (codes "test" ∷ name ∷ count ∷ []) IsPlace (place_expects name count n named counted) text all blank rest part at fault (λ none. absurd (some none)) read at_is part_is (place_refused part at fault known refused)
      (place_refuses name count n part at fault named counted known refused)

  -- by one after the place
  pub more_refused : (name count place : List ℕ) (n : ℕ) (letters : List (List ℤ)) → is_name name ≡ true → DerivesCount count n → DerivesPlace place letters → IsRead text (codes "test" ∷ name ∷ count ∷ place ∷ []) all blank rest → rest ≢ []
      → IsTestFault text (Syntax (all - length rest))
  more_refused name count place n letters named counted placed read some =
      let prefix = codes "test" ∷ name ∷ count ∷ place ∷ [] in
      let expects = end_expects name count place n letters named counted placed in
      refused_at prefix (λ part. ⊥) expects text all blank rest (first_in blank rest) (all - length rest) (Syntax (all - length rest)) (λ none. absurd (some none)) read refl refl (λ none. none)
      (refuses_whole prefix (λ part. ⊥) expects (first_in blank rest) (all - length rest) (λ none. none) (λ none. none))

-- a number of words and a place have bytes
pub count_some : (part : List ℕ) (n : ℕ) → DerivesCount part n → part ≢ []
count_some part n counted e = false≢true (ap are_digits (sym e) ∙ counted.digits)

pub place_some : (part : List ℕ) (letters : List (List ℤ)) → DerivesPlace part letters → part ≢ []
place_some part letters placed e = let quote = sym e ∙ placed.part_is in cc
