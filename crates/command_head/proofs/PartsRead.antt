-- The parts of a text, read one after another.
use Rattle.std.proofs.Common.{◌≡◌, ◌≢◌, ℕ, zero, suc, ◌-◌, ◌≤◌, Bool, List, [], ◌∷◌, ◌++◌, length, map, get_or, refl, sym, ◌∙◌, ap, subst, arith}
use Rattle.std.proofs.lemmas.List.{append-nil, append_assoc}
use Rattle.text_grammar.specs.declared.class.Class.TheVariants.{Blank}
use Rattle.text_grammar.specs.Prefixes.{begins_in}
use Rattle.command_head.specs.Parts.{Part, first_word_of, after_blanks, part_len, after_first, first_in, after_word, parts_of_rest, parts_of, texts_of}
use Rattle.command_head.specs.Breaks.{place_of}
use Rattle.command_head.proofs.PartSteps.{length-after_part, length-after_word}

-- How many parts of a rest may be cut off changes nothing, where these are as many as it has bytes.
enough : (count more whole : ℕ) (blank : Bool) (rest : List ℕ) → length rest ≤ count → length rest ≤ more → parts_of_rest count whole blank rest ≡ parts_of_rest more whole blank rest
unfolding parts_of_rest
enough zero zero whole blank [] room room' = refl
enough zero (suc more) whole blank [] room room' = refl
enough (suc count) zero whole blank [] room room' = refl
enough (suc count) (suc more) whole blank [] room room' = refl
enough zero more whole blank (b ∷ bs) room room' = absurd (omega arith)
enough (suc count) zero whole blank (b ∷ bs) room room' = absurd (omega arith)
enough (suc count) (suc more) whole blank (b ∷ bs) room room' =
    let less = length-after_part b bs in
    let first : Part = record { at = whole - length (b ∷ bs); bytes = first_in blank (b ∷ bs) } in
    ap (λ (l : List Part). first ∷ l) (enough count more whole (begins_in Blank (after_first (b ∷ bs))) (after_blanks (after_first (b ∷ bs))) (omega arith) (omega arith))

-- all parts of a rest of a text that has `whole` bytes
abbrev parts_in : ℕ → Bool → List ℕ → List Part
parts_in whole blank rest = parts_of_rest (length rest) whole blank rest

-- The first parts of a text have these texts, and the rest is left.
pub record IsRead (text : List ℕ) (prefix : List (List ℕ)) (whole : ℕ) (blank : Bool) (rest : List ℕ) : Type 0 where
  pub all : whole ≡ length text
  pub before : List Part
  pub parts_are : parts_of text ≡ before ++ parts_in (length text) blank rest
  pub texts : texts_of before ≡ prefix

-- the first word is read
word_only : (text : List ℕ) → IsRead text (first_word_of text ∷ []) (length text) (begins_in Blank (after_word text)) (after_blanks (after_word text))
unfolding parts_of
word_only text =
    let word : Part = record { at = 0; bytes = first_word_of text } in
    let rest = after_blanks (after_word text) in
    record {
      all = refl;
      before = word ∷ [];
      parts_are = ap (λ (l : List Part). word ∷ l) (enough (length text) (length rest) (length text) (begins_in Blank (after_word text)) rest (length-after_word text) (omega arith));
      texts = refl;
    }

pub word_read : (text word : List ℕ) (whole : ℕ) (blank : Bool) (rest : List ℕ) → first_word_of text ≡ word → whole ≡ length text → blank ≡ begins_in Blank (after_word text) → rest ≡ after_blanks (after_word text) →
    IsRead text (word ∷ []) whole blank rest
word_read text word whole blank rest word_is whole_is blank_is rest_is =
    rw (whole_is, blank_is, rest_is) (subst (λ (w : List ℕ). IsRead text (w ∷ []) (length text) (begins_in Blank (after_word text)) (after_blanks (after_word text))) word_is (word_only text))

texts_more : (before : List Part) (part : Part) → texts_of (before ++ part ∷ []) ≡ texts_of before ++ part.bytes ∷ []
texts_more [] part = refl
texts_more (first ∷ before) part = ap (λ (l : List (List ℕ)). first.bytes ∷ l) (texts_more before part)

-- one part more is read
more_read : (text : List ℕ) (prefix : List (List ℕ)) (whole : ℕ) (blank : Bool) (rest : List ℕ) → rest ≢ [] → IsRead text prefix whole blank rest →
    IsRead text (prefix ++ first_in blank rest ∷ []) whole (begins_in Blank (after_first rest)) (after_blanks (after_first rest))
unfolding parts_of_rest
more_read text prefix whole blank [] some read = absurd (some refl)
more_read text prefix whole blank (b ∷ bs) some read =
    let less = length-after_part b bs in
    let next = after_blanks (after_first (b ∷ bs)) in
    let next_blank = begins_in Blank (after_first (b ∷ bs)) in
    let part : Part = record { at = length text - length (b ∷ bs); bytes = first_in blank (b ∷ bs) } in
    record {
      all = read.all;
      before = read.before ++ part ∷ [];
      parts_are =
          read.parts_are
          ∙ ap (λ (l : List Part). read.before ++ part ∷ l) (enough (length bs) (length next) (length text) next_blank next (omega arith) (omega arith))
          ∙ sym (append_assoc read.before (part ∷ []) (parts_in (length text) next_blank next));
      texts = texts_more read.before part ∙ ap (λ (l : List (List ℕ)). l ++ part.bytes ∷ []) read.texts;
    }

none_first : (blank : Bool) → first_in blank [] ≡ []
unfolding first_in part_len
none_first blank = refl

pub part_read : (text : List ℕ) (prefix : List (List ℕ)) (whole all : ℕ) (blank next_blank : Bool) (rest part next : List ℕ) → IsRead text prefix whole blank rest → part ≢ [] → part ≡ first_in blank rest →
    all ≡ whole → next_blank ≡ begins_in Blank (after_first rest) → next ≡ after_blanks (after_first rest) → IsRead text (prefix ++ part ∷ []) all next_blank next
part_read text prefix whole all blank next_blank rest part next read some part_is all_is blank_is next_is =
    let left : rest ≢ [] = λ e. some (part_is ∙ ap (first_in blank) e ∙ none_first blank) in
    rw (part_is, all_is, blank_is, next_is) (more_read text prefix whole blank rest left read)

-- nothing is left
pub all_read : (text : List ℕ) (prefix : List (List ℕ)) (whole : ℕ) (blank : Bool) (rest : List ℕ) → IsRead text prefix whole blank rest → rest ≡ [] → texts_of (parts_of text) ≡ prefix
unfolding parts_of_rest
all_read text prefix whole blank [] read none = ap texts_of (read.parts_are ∙ append-nil read.before) ∙ read.texts
all_read text prefix whole blank (b ∷ bs) read none = cc

-- What is left is one part or more, or none: the texts after those that were read, and the place of the first.
pub record IsNext (text : List ℕ) (prefix : List (List ℕ)) (whole : ℕ) (blank : Bool) (rest : List ℕ) : Type 0 where
  pub tail : List (List ℕ)
  pub texts : texts_of (parts_of text) ≡ prefix ++ tail
  pub first : get_or tail 0 [] ≡ first_in blank rest
  pub place : place_of text (length prefix) ≡ whole - length rest
  pub some : rest ≢ [] → tail ≢ []

texts_append : (before more : List Part) → texts_of (before ++ more) ≡ texts_of before ++ texts_of more
texts_append [] more = refl
texts_append (part ∷ before) more = ap (λ (l : List (List ℕ)). part.bytes ∷ l) (texts_append before more)

place_after : (before more : List Part) (whole : ℕ) → get_or (map (λ (p : Part). p.at) (before ++ more)) (length (texts_of before)) whole ≡ get_or (map (λ (p : Part). p.at) more) 0 whole
place_after [] more whole = refl
place_after (part ∷ before) more whole = place_after before more whole

first_left : (whole : ℕ) (blank : Bool) (rest : List ℕ) → get_or (texts_of (parts_in whole blank rest)) 0 [] ≡ first_in blank rest
unfolding parts_of_rest
first_left whole blank [] = sym (none_first blank)
first_left whole blank (b ∷ bs) = refl

place_left : (whole : ℕ) (blank : Bool) (rest : List ℕ) → get_or (map (λ (p : Part). p.at) (parts_in whole blank rest)) 0 whole ≡ whole - length rest
unfolding parts_of_rest
place_left whole blank [] = let all : whole ≡ whole - 0 = omega arith in all
place_left whole blank (b ∷ bs) = refl

some_left : (whole : ℕ) (blank : Bool) (rest : List ℕ) → rest ≢ [] → texts_of (parts_in whole blank rest) ≢ []
unfolding parts_of_rest
some_left whole blank [] some e = some refl
some_left whole blank (b ∷ bs) some e = cc

pub next_of : (text : List ℕ) (prefix : List (List ℕ)) (whole : ℕ) (blank : Bool) (rest : List ℕ) → IsRead text prefix whole blank rest → IsNext text prefix whole blank rest
next_of text prefix whole blank rest read = record {
  tail = texts_of (parts_in (length text) blank rest);
  texts = ap texts_of read.parts_are ∙ texts_append read.before (parts_in (length text) blank rest) ∙ ap (λ (l : List (List ℕ)). l ++ texts_of (parts_in (length text) blank rest)) read.texts;
  first = first_left (length text) blank rest;
  place =
      ap (λ (l : List Part). get_or (map (λ (p : Part). p.at) l) (length prefix) (length text)) read.parts_are
      ∙ ap (λ (l : List (List ℕ)). get_or (map (λ (p : Part). p.at) (read.before ++ parts_in (length text) blank rest)) (length l) (length text)) (sym read.texts)
      ∙ place_after read.before (parts_in (length text) blank rest) (length text)
      ∙ place_left (length text) blank rest
      ∙ ap (λ (n : ℕ). n - length rest) (sym read.all);
  some = some_left (length text) blank rest;
}
