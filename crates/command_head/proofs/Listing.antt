-- The automata of a `combine`, read one after another.
use Rattle.std.proofs.Common.{◌≡◌, ◌≢◌, ℕ, zero, suc, ◌+◌, ◌*◌, ◌-◌, ◌<◌, ◌≤◌, Bool, true, false, cond, ◌==◌, ◌&&◌, List, [], ◌∷◌, ◌++◌, length, take, map, Err, refl, sym, ◌∙◌, ap, subst, arith, codes, length-append, length-drop}
use Rattle.std.proofs.lemmas.Bool.{and_parts, eqb-true, false≢true}
use Rattle.text_grammar.specs.Bytes.{is_blank}
use Rattle.text_grammar.specs.Prefixes.{begins_in, prefix_len}
use Rattle.text_grammar.specs.declared.class.Class.TheVariants.{Blank, Letter}
use Rattle.command_head.specs.declared.fault.HeadFault.{HeadFault}
use Rattle.command_head.specs.declared.fault.HeadFault.TheVariants.{Syntax, Number, Memory}
use Rattle.command_head.specs.Parts.{after_blanks, after_first, first_in, after_word, part_len, parts_of, texts_of, is_word}
use Rattle.command_head.specs.Heads.{ValuedName}
use Rattle.command_head.specs.Values.{RefusesValued}
use Rattle.command_head.specs.Grammar.{DerivesValued, DeriveEach, DerivesCombine}
use Rattle.command_head.specs.HeadViews.{combine_view}
use Rattle.command_head.specs.Breaks.{HasHead}
use Rattle.command_head.proofs.PrefixSteps.{length-after_prefix}
use Rattle.command_head.proofs.PartSteps.{part_len-some, length-after_word}
use Rattle.command_head.proofs.ValuedParts.{letter_append}
use Rattle.command_head.proofs.PartsRead.{IsRead, part_read, all_read}
use Rattle.command_head.proofs.Expecting.{refused_syntax, refused_number}
use Rattle.command_head.proofs.CombineHeads.{each_append, more_expects, none_unended, form_long, value_long, value_text_of, long_refused, long_begins}

-- how many bytes a blank has that is there or not
abbrev pub blank_len : Bool → ℕ
blank_len true = 1
blank_len false = 0

-- These automata were read after the word. Each takes two bytes at least, the blank before it and its name.
pub record IsListing (text word : List ℕ) (automata : List ValuedName) (whole : ℕ) (blank : Bool) (rest : List ℕ) : Type 0 where
  pub items : List (List ℕ)
  pub read : IsRead text (codes "combine" ∷ word ∷ items) whole blank rest
  pub each : DeriveEach items automata
  pub few : 2 * length automata + (length rest + blank_len blank) ≤ length text

-- a blank is a byte
pub blank_counts : (suffix : List ℕ) → length (after_blanks suffix) + blank_len (begins_in Blank suffix) ≤ length suffix
blank_counts [] = omega arith
blank_counts (b ∷ bs) = by_blank (is_blank b) (prefix_len Blank bs) (length (after_blanks (b ∷ bs))) (length (b ∷ bs)) (length-after_prefix Blank (b ∷ bs))
  where
    by_blank : (t : Bool) (n left all : ℕ) → left + cond t (suc n) 0 ≡ all → left + blank_len t ≤ all
    by_blank true n left all e = omega arith
    by_blank false n left all e = omega arith

pub listing_first : (text word : List ℕ) (whole : ℕ) (blank : Bool) (rest before : List ℕ) → IsRead text (codes "combine" ∷ word ∷ []) whole blank rest → before ≡ after_blanks (after_word text) →
    blank ≡ begins_in Blank (after_first before) → rest ≡ after_blanks (after_first before) → IsListing text word [] whole blank rest
listing_first text word whole blank rest before read before_is blank_is rest_is = record {
  items = [];
  read = read;
  each = tt;
  few = rw (blank_is, rest_is)
      (let counts = blank_counts (after_first before) in
      let suffix = length-drop (part_len before) before in
      let all = subst (λ (l : List ℕ). length l ≤ length text) (sym before_is) (length-after_word text) in
      omega arith);
}

letter_take : (n : ℕ) (bytes : List ℕ) → begins_in Letter (take n bytes) ≡ true → begins_in Letter bytes ≡ true
letter_take zero bytes h = absurd (false≢true h)
letter_take (suc n) [] h = absurd (false≢true h)
letter_take (suc n) (b ∷ bs) h = h

-- a part that begins with a letter comes after a blank
spaced : (blank : Bool) (rest part : List ℕ) → part ≡ first_in blank rest → begins_in Letter part ≡ true → blank ≡ true
unfolding first_in
spaced true rest part e letter = refl
spaced false rest part e letter = by_letter (begins_in Letter rest) refl (subst (λ (l : List ℕ). begins_in Letter l ≡ true) e letter)
  where
    by_letter : (t : Bool) → begins_in Letter rest ≡ t → begins_in Letter (cond (t && true) [] (take (part_len rest) rest)) ≡ true → false ≡ true
    by_letter true e h = absurd (false≢true h)
    by_letter false e h = absurd (false≢true (sym e ∙ letter_take (part_len rest) rest h))

pub shorter : (blank : Bool) (rest part : List ℕ) → part ≡ first_in blank rest → begins_in Letter part ≡ true → length (after_first rest) < length rest
unfolding first_in part_len
shorter blank [] part e letter = absurd (false≢true (sym (ap (begins_in Letter) e) ∙ letter))
shorter blank (b ∷ bs) part e letter = let some = part_len-some b bs in omega (arith, length-drop (part_len (b ∷ bs)) (b ∷ bs))

pub record IsLonger (text word : List ℕ) (automata : List ValuedName) (whole : ℕ) (blank : Bool) (rest before : List ℕ) : Type 0 where
  pub listing : IsListing text word automata whole blank rest
  pub less : length rest < length before

named_letter : (part : List ℕ) (valued : ValuedName) → DerivesValued part valued → begins_in Letter part ≡ true
named_letter part valued s = subst (λ (l : List ℕ). begins_in Letter l ≡ true) (sym s.part_is) (letter_append valued.name s.suffix (and_parts _ _ s.name).0)

blank_one : (blank : Bool) → blank ≡ true → blank_len blank ≡ 1
blank_one blank h = ap blank_len h

-- one automaton more
pub listing_more : (text word : List ℕ) (automata : List ValuedName) (whole all : ℕ) (blank next_blank : Bool) (rest part next : List ℕ) (valued : ValuedName) → IsListing text word automata whole blank rest →
    part ≡ first_in blank rest → all ≡ whole → next_blank ≡ begins_in Blank (after_first rest) → next ≡ after_blanks (after_first rest) → DerivesValued part valued →
    IsLonger text word (automata ++ valued ∷ []) all next_blank next rest
listing_more text word automata whole all blank next_blank rest part next valued listing part_is all_is blank_is next_is derives =
    let letter = named_letter part valued derives in
    let some : part ≢ [] = λ e. false≢true (sym (ap (begins_in Letter) e) ∙ letter) in
    let one = blank_one blank (spaced blank rest part part_is letter) in
    let less = shorter blank rest part part_is letter in
    let counts = blank_counts (after_first rest) in
    let few = listing.few in
    let more = length-append automata (valued ∷ []) in
    let counts' : length next + blank_len next_blank ≤ length (after_first rest) = rw (next_is, blank_is) counts in
    record {
      listing = record {
        items = listing.items ++ part ∷ [];
        read = part_read text (codes "combine" ∷ word ∷ listing.items) whole all blank next_blank rest part next listing.read some part_is all_is blank_is next_is;
        each = each_append listing.items (part ∷ []) automata (valued ∷ []) listing.each (derives, tt);
        few = omega arith;
      };
      less = omega arith;
    }

no_items : (items : List (List ℕ)) (automata : List ValuedName) → automata ≡ [] → DeriveEach items automata → items ≡ []
no_items [] automata none each = refl
no_items (item ∷ items) [] none each = absurd each
no_items (item ∷ items) (valued ∷ automata) none each = absurd (no_cons none)
  where
    no_cons : valued ∷ automata ≡ [] → ⊥
    no_cons e = cc

-- a part that is refused is where the grammar breaks
pub listing_refused : (text word : List ℕ) (automata : List ValuedName) (whole : ℕ) (blank : Bool) (rest part : List ℕ) (at : ℕ) (fault : HeadFault) → is_word word ≡ true → IsListing text word automata whole blank rest →
    (rest ≡ [] → automata ≡ []) → at ≡ whole - length rest → part ≡ first_in blank rest → RefusesValued part at fault → HasHead DerivesCombine combine_view text (Err fault)
listing_refused text word automata whole blank rest part at (Syntax byte) is_word listing unended at_is part_is refused =
    refused_syntax DerivesCombine (codes "combine" ∷ word ∷ listing.items) _ text whole blank rest part byte (more_expects word listing.items automata is_word listing.each)
    (λ none head derives. none_unended word head (subst (λ (l : List (List ℕ)). DerivesCombine (codes "combine" ∷ word ∷ l) head) (no_items listing.items automata (unended none) listing.each) derives))
    listing.read (refused.0 ∙ at_is) part_is (λ some. refused.1 some.0.name some.1.suffix some.1.part_is some.1.name (value_text_of some.1.suffix some.0.value some.1.value)) (form_long part refused.1)
listing_refused text word automata whole blank rest part at (Number byte) is_word listing unended at_is part_is refused =
    let long = value_long part refused.0 refused.1 in
    refused_number DerivesCombine (codes "combine" ∷ word ∷ listing.items) _ text whole blank rest part at byte (more_expects word listing.items automata is_word listing.each)
    (λ none head derives. none_unended word head (subst (λ (l : List (List ℕ)). DerivesCombine (codes "combine" ∷ word ∷ l) head) (no_items listing.items automata (unended none) listing.each) derives))
    listing.read at_is part_is (long_refused part refused.0 refused.1) long.1 (long_begins word listing.items automata _ is_word listing.each long.1.taken)
    (ap (λ (n : ℕ). at + n) long.0 ∙ sym refused.2)
listing_refused text word automata whole blank rest part at Memory is_word listing unended at_is part_is refused = tt

-- where nothing is left these automata are those of the head
pub listing_head : (text word : List ℕ) (automata : List ValuedName) (whole : ℕ) (blank : Bool) (rest : List ℕ) → is_word word ≡ true → IsListing text word automata whole blank rest → rest ≡ [] → automata ≢ [] →
    DerivesCombine (texts_of (parts_of text)) (record { word = word; automata = automata })
listing_head text word automata whole blank rest is_word listing none some = record {
  automata = listing.items;
  parts_are = all_read text (codes "combine" ∷ word ∷ listing.items) whole blank rest listing.read none;
  word = is_word;
  some = some;
  each = listing.each;
}

-- an empty list, and one that is not
pub none_of : {X : Type 0} (xs : List X) (len : ℕ) (t : Bool) → len ≡ length xs → t ≡ (len == 0) → t ≡ true → xs ≡ []
none_of [] len t same e h = refl
none_of (x ∷ xs) len t same e h = let none = eqb-true len 0 (sym e ∙ h) in absurd (omega arith)

pub some_of : {X : Type 0} (xs : List X) (len : ℕ) (t : Bool) → len ≡ length xs → t ≡ (len == 0) → t ≡ false → xs ≢ []
some_of [] len t same e h none = false≢true (sym h ∙ e ∙ ap (λ (n : ℕ). n == 0) same)
some_of (x ∷ xs) len t same e h none = cc

pub some_mapped : {X Y : Type 0} (f : X → Y) (xs : List X) → xs ≢ [] → map f xs ≢ []
some_mapped f [] some none = some refl
some_mapped f (x ∷ xs) some none = cc

pub map_more : {X Y : Type 0} (f : X → Y) (xs : List X) (x : X) → map f (xs ++ x ∷ []) ≡ map f xs ++ f x ∷ []
map_more f [] x = refl
map_more {Y = Y} f (y ∷ ys) x = ap (λ (l : List Y). f y ∷ l) (map_more f ys x)
