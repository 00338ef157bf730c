-- Names in a head, read one after another.
use Rattle.std.proofs.Common.{◌≡◌, ◌≢◌, ℕ, ◌-◌, ◌<◌, Bool, true, false, List, [], ◌∷◌, ◌++◌, length, sym, ◌∙◌, ap, subst, arith}
use Rattle.std.proofs.lemmas.Bool.{and_parts, false≢true}
use Rattle.text_grammar.specs.Prefixes.{begins_in}
use Rattle.text_grammar.specs.declared.class.Class.TheVariants.{Blank, Letter}
use Rattle.command_head.specs.Parts.{after_blanks, after_first, first_in, parts_of, texts_of, is_name}
use Rattle.command_head.specs.Grammar.{DerivesLanguages}
use Rattle.command_head.specs.Breaks.{IsSyntaxAt}
use Rattle.command_head.proofs.PartsRead.{IsRead, part_read, all_read}
use Rattle.command_head.proofs.Expecting.{refused_syntax}
use Rattle.command_head.proofs.Forms.{refuted}
use Rattle.command_head.proofs.LanguageHeads.{AreNames, names_append, more_expects, none_unended, name_long}
use Rattle.command_head.proofs.Listing.{blank_counts, shorter}

-- These names were read after the first two parts.
pub record AreListed (text word name : List ℕ) (items : List (List ℕ)) (whole : ℕ) (blank : Bool) (rest : List ℕ) : Type 0 where
  pub read : IsRead text (word ∷ name ∷ items) whole blank rest
  pub each : AreNames items

pub record IsLonger (text word name : List ℕ) (items : List (List ℕ)) (whole : ℕ) (blank : Bool) (rest before : List ℕ) : Type 0 where
  pub listed : AreListed text word name items whole blank rest
  pub less : length rest < length before

-- one name more
pub names_more : (text word name : List ℕ) (items : List (List ℕ)) (whole all : ℕ) (blank next_blank : Bool) (rest part next : List ℕ) → AreListed text word name items whole blank rest →
    part ≡ first_in blank rest → all ≡ whole → next_blank ≡ begins_in Blank (after_first rest) → next ≡ after_blanks (after_first rest) → is_name part ≡ true →
    IsLonger text word name (items ++ part ∷ []) all next_blank next rest
names_more text word name items whole all blank next_blank rest part next listed part_is all_is blank_is next_is named =
    let letter : begins_in Letter part ≡ true = (and_parts _ _ named).0 in
    let some : part ≢ [] = λ e. false≢true (sym (ap (begins_in Letter) e) ∙ letter) in
    let less = shorter blank rest part part_is letter in
    let counts = blank_counts (after_first rest) in
    let same = ap (λ (l : List ℕ). length l) next_is in
    record {
      listed = record {
        read = part_read text (word ∷ name ∷ items) whole all blank next_blank rest part next listed.read some part_is all_is blank_is next_is;
        each = names_append items part listed.each named;
      };
      less = omega arith;
    }

-- a part that is no name is where the grammar breaks
pub names_refused : (text word name : List ℕ) (items : List (List ℕ)) (whole : ℕ) (blank : Bool) (rest part : List ℕ) (at : ℕ) → is_name name ≡ true → AreListed text word name items whole blank rest →
    (rest ≡ [] → items ≡ []) → at ≡ whole - length rest → part ≡ first_in blank rest → is_name part ≡ false → IsSyntaxAt (DerivesLanguages word) text at
names_refused text word name items whole blank rest part at named listed unended at_is part_is fails =
    refused_syntax (DerivesLanguages word) (word ∷ name ∷ items) _ text whole blank rest part at (more_expects word name items named listed.each)
    (λ none head derives. none_unended word name head (subst (λ (l : List (List ℕ)). DerivesLanguages word (word ∷ name ∷ l) head) (unended none) derives))
    listed.read at_is part_is (refuted (is_name part) fails) (name_long part)

-- where nothing is left these names are those of the head
pub names_head : (text word name : List ℕ) (items : List (List ℕ)) (whole : ℕ) (blank : Bool) (rest : List ℕ) → is_name name ≡ true → AreListed text word name items whole blank rest → rest ≡ [] → items ≢ [] →
    DerivesLanguages word (texts_of (parts_of text)) (record { name = name; languages = items })
names_head text word name items whole blank rest named listed none some = record {
  parts_are = all_read text (word ∷ name ∷ items) whole blank rest listed.read none;
  name = named;
  some = some;
  each = listed.each;
}
