-- The text in quotes of a command's head is all that the command has in quotes.
use Rattle.std.proofs.Common.{◌≡◌, ◌≢◌, ℕ, zero, suc, ◌<◌, ◌≤◌, Bool, true, false, not, ◌&&◌, cond, List, [], ◌∷◌, ◌++◌, length, take, refl, sym, ◌∙◌, ap, subst, arith, length-append}
use Rattle.std.specs.List.{AllByRecursion}
use Rattle.std.proofs.lemmas.List.{append_assoc, append-nil, take-append-drop}
use Rattle.std.proofs.lemmas.Bool.{false≢true}
use Rattle.text_grammar.specs.declared.class.Class.{Class}
use Rattle.text_grammar.specs.declared.class.Class.TheVariants.{Blank, Letter, NameByte, Word}
use Rattle.text_grammar.specs.Prefixes.{is_in, begins_in, prefix_of}
use Rattle.command_head.specs.Heads.{NamedHead}
use Rattle.command_head.specs.Grammar.{DerivesNamed, quoted}
use Rattle.command_head.specs.Parts.{part_len, after_first, first_in, after_blanks, after_word, first_word_of, parts_of_rest, parts_of, texts_of, is_name}
use Rattle.command_head.proofs.PartShape.{AllByRecursion-weaker, all-append, name_bytes}
use Rattle.command_head.proofs.PrefixSteps.{prefix_of-all, prefix_split}
use Rattle.headlines.specs.Sentences.{HasNo, HasInQuotes}

-- a class without the quote
no_quote : (class : Class) → is_in class 34 ≡ false → (bytes : List ℕ) → AllByRecursion (λ b. is_in class b ≡ true) bytes → HasNo 34 bytes
no_quote class apart bytes all = AllByRecursion-weaker (λ b. is_in class b ≡ true) (λ b. b ≢ 34) (λ b is e. false≢true (sym apart ∙ subst (λ (x : ℕ). is_in class x ≡ true) e is)) bytes all

blanks : (bytes : List ℕ) → HasNo 34 (prefix_of Blank bytes)
blanks bytes = no_quote Blank refl (prefix_of Blank bytes) (prefix_of-all Blank bytes)

-- the first of some parts, and those after it
record IsFirst (count whole : ℕ) (rest part : List ℕ) (parts : List (List ℕ)) : Type 0 where
  less : ℕ
  count_is : count ≡ suc less
  split : rest ≡ part ++ after_first rest
  more : texts_of (parts_of_rest less whole (begins_in Blank (after_first rest)) (after_blanks (after_first rest))) ≡ parts

first_is : (letter blank : Bool) (rest part : List ℕ) → part ≢ [] → cond (letter && not blank) [] (take (part_len rest) rest) ≡ part → take (part_len rest) rest ≡ part
first_is true true rest part some is = is
first_is true false rest part some is = absurd (some (sym is))
first_is false blank rest part some is = is

first_of : (count whole : ℕ) (blank : Bool) (rest part : List ℕ) (parts : List (List ℕ)) → part ≢ [] → texts_of (parts_of_rest count whole blank rest) ≡ part ∷ parts → IsFirst count whole rest part parts
unfolding parts_of_rest first_in
first_of zero whole blank rest part parts some is = absurd cc
first_of (suc count) whole blank [] part parts some is = absurd cc
first_of (suc count) whole blank (b ∷ bs) part parts some is =
    let first : cond (begins_in Letter (b ∷ bs) && not blank) [] (take (part_len (b ∷ bs)) (b ∷ bs)) ≡ part = cc in
    let taken : take (part_len (b ∷ bs)) (b ∷ bs) ≡ part = first_is (begins_in Letter (b ∷ bs)) blank (b ∷ bs) part some first in
    record {
      less = count;
      count_is = refl;
      split = sym (take-append-drop (part_len (b ∷ bs)) (b ∷ bs)) ∙ ap (λ (l : List ℕ). l ++ after_first (b ∷ bs)) taken;
      more = cc;
    }

-- no part is left
none_left : (count whole : ℕ) (blank : Bool) (rest : List ℕ) → 0 < count → texts_of (parts_of_rest count whole blank rest) ≡ [] → rest ≡ []
unfolding parts_of_rest
none_left zero whole blank rest some is = absurd (omega arith)
none_left (suc count) whole blank [] some is = refl
none_left (suc count) whole blank (b ∷ bs) some is = absurd cc

joined : (a b c d x : List ℕ) → a ++ (b ++ (c ++ (d ++ x))) ≡ (a ++ (b ++ (c ++ d))) ++ x
joined a b c d x = sym (append_assoc a (b ++ (c ++ d)) x ∙ ap (λ (l : List ℕ). a ++ l) (append_assoc b (c ++ d) x ∙ ap (λ (l : List ℕ). b ++ l) (append_assoc c d x)))

name_some : (name : List ℕ) → is_name name ≡ true → name ≢ []
name_some name is none = false≢true (subst (λ (l : List ℕ). is_name l ≡ true) none is)

pub in_quotes : (word text : List ℕ) (head : NamedHead) → DerivesNamed word (texts_of (parts_of text)) head → HasInQuotes text head.body
unfolding parts_of
in_quotes word text head derived =
    let rest : List ℕ = after_blanks (after_word text) in
    let whole : ℕ = length text in
    let parts : texts_of (parts_of_rest whole whole (begins_in Blank (after_word text)) rest) ≡ head.name ∷ quoted head.body ∷ [] = cc derived.parts_are in
    let one : IsFirst whole whole rest head.name (quoted head.body ∷ []) = first_of whole whole (begins_in Blank (after_word text)) rest head.name (quoted head.body ∷ []) (name_some head.name derived.name) parts in
    let middle : List ℕ = after_first rest in
    let two : IsFirst one.less whole (after_blanks middle) (quoted head.body) [] = first_of one.less whole (begins_in Blank middle) (after_blanks middle) (quoted head.body) [] (λ is. cc) one.more in
    let last : List ℕ = after_first (after_blanks middle) in
    let first_split : text ≡ first_word_of text ++ (prefix_of Blank (after_word text) ++ rest) = sym (ap (λ (l : List ℕ). first_word_of text ++ l) (prefix_split Blank (after_word text)) ∙ prefix_split Word text) in
    let quoted_split : quoted head.body ++ last ≡ 34 ∷ (head.body ++ 34 ∷ last) = ap (λ (l : List ℕ). 34 ∷ l) (append_assoc head.body (34 ∷ []) last) in
    let middle_split : middle ≡ prefix_of Blank middle ++ (34 ∷ (head.body ++ 34 ∷ last)) = sym (prefix_split Blank middle) ∙ ap (λ (l : List ℕ). prefix_of Blank middle ++ l) (two.split ∙ quoted_split) in
    let rest_split : rest ≡ head.name ++ (prefix_of Blank middle ++ (34 ∷ (head.body ++ 34 ∷ last))) = one.split ∙ ap (λ (l : List ℕ). head.name ++ l) middle_split in
    let long : 3 ≤ whole = omega (arith, ap length first_split, ap length rest_split, length-append (first_word_of text) (prefix_of Blank (after_word text) ++ rest), length-append (prefix_of Blank (after_word text)) rest, length-append head.name (prefix_of Blank middle ++ (34 ∷ (head.body ++ 34 ∷ last))), length-append (prefix_of Blank middle) (34 ∷ (head.body ++ 34 ∷ last)), length-append head.body (34 ∷ last), some_length head.name (name_some head.name derived.name)) in
    let ended : after_blanks last ≡ [] = none_left two.less whole (begins_in Blank last) (after_blanks last) (omega (arith, one.count_is, two.count_is, long)) two.more in
    record {
      before = first_word_of text ++ (prefix_of Blank (after_word text) ++ (head.name ++ prefix_of Blank middle));
      after = last;
      split = first_split ∙ ap (λ (l : List ℕ). first_word_of text ++ (prefix_of Blank (after_word text) ++ l)) rest_split ∙ joined (first_word_of text) (prefix_of Blank (after_word text)) head.name (prefix_of Blank middle) (34 ∷ (head.body ++ 34 ∷ last));
      none_before = all-append (λ b. b ≢ 34) (first_word_of text) (prefix_of Blank (after_word text) ++ (head.name ++ prefix_of Blank middle)) (no_quote Word refl (first_word_of text) (prefix_of-all Word text))
          (all-append (λ b. b ≢ 34) (prefix_of Blank (after_word text)) (head.name ++ prefix_of Blank middle) (blanks (after_word text))
          (all-append (λ b. b ≢ 34) head.name (prefix_of Blank middle) (no_quote NameByte refl head.name (name_bytes head.name derived.name)) (blanks middle)));
      none_inside = derived.body;
      none_after = subst (HasNo 34) (sym (append-nil (prefix_of Blank last)) ∙ ap (λ (l : List ℕ). prefix_of Blank last ++ l) (sym ended) ∙ prefix_split Blank last) (blanks last);
    }
  where
    some_length : (xs : List ℕ) → xs ≢ [] → 1 ≤ length xs
    some_length [] some = absurd (some refl)
    some_length (x ∷ xs) some = omega arith
