-- Where a text breaks a grammar, from what the grammar expects after the parts that were read.
use Rattle.std.proofs.Common.{◌≡◌, ◌≢◌, ℕ, suc, ◌+◌, ◌-◌, ◌<◌, Bool, true, false, List, [], ◌∷◌, ◌++◌, length, take, drop, get_or, refl, sym, ◌∙◌, ap, subst, arith, length-append, ◌^◌}
use Rattle.std.proofs.lemmas.List.{append-nil, take_at}
use Rattle.text_grammar.specs.Faults.{Begins, BreaksAt}
use Rattle.text_grammar.specs.Numbers.{begins_with, is_number, is_short, number_of}
use Rattle.command_head.specs.Parts.{first_word_of, first_in, parts_of, texts_of, number_place}
use Rattle.command_head.specs.Breaks.{place_of, part_at, ExceedsAt, IsSyntaxAt, IsNumberAt}
use Rattle.command_head.proofs.PartsRead.{IsRead, next_of}

-- after these parts some head goes on, and only with a part of this kind
pub record Expects {H : Type 0} (grammar : List (List ℕ) → H → Type 0) (prefix : List (List ℕ)) (kind : List ℕ → Type 0) : Type 0 where
  pub goes_on : Begins grammar prefix
  pub only : (part : List ℕ) → Begins grammar (prefix ++ part ∷ []) → kind part

-- a part that is of a kind with another number in the place of its own, which does not fit
pub record IsLong (kind : List ℕ → Type 0) (part : List ℕ) : Type 0 where
  pub number : is_number (drop (number_place part) part) ≡ true
  pub long : is_short (2 ^ 31) (number_of (drop (number_place part) part)) ≡ false
  pub other : List ℕ
  pub other_number : is_number other ≡ true
  pub sign : begins_with 45 other ≡ begins_with 45 (drop (number_place part) part)
  pub taken : kind (take (number_place part) part ++ other)

take_more : (prefix tail : List (List ℕ)) (part : List ℕ) → take (length prefix + 1) (prefix ++ part ∷ tail) ≡ prefix ++ part ∷ []
take_more [] tail part = refl
take_more (first ∷ prefix) tail part = ap (λ (n : ℕ). take n ((first ∷ prefix) ++ part ∷ tail)) (let e : length (first ∷ prefix) + 1 ≡ suc (length prefix + 1) = omega arith in e) ∙ ap (λ (l : List (List ℕ)). first ∷ l) (take_more prefix tail part)

pub part_after : (prefix tail : List (List ℕ)) → part_at (prefix ++ tail) (length prefix) ≡ get_or tail 0 []
part_after [] tail = refl
part_after (first ∷ prefix) tail = part_after prefix tail

module _ {H : Type 0} (grammar : List (List ℕ) → H → Type 0) (prefix : List (List ℕ)) (kind : List ℕ → Type 0) (expects : Expects grammar prefix kind) where
  no_more : (tail : List (List ℕ)) → (kind (get_or tail 0 []) → ⊥) → length prefix < length (prefix ++ tail) → Begins grammar (take (length prefix + 1) (prefix ++ tail)) → ⊥
  no_more [] refused inside begins = let none = ap length (append-nil prefix) in absurd (omega arith)
  no_more (part ∷ tail) refused inside begins = refused (expects.only part (subst (Begins grammar) (take_more prefix tail part) begins))

  no_head : (tail : List (List ℕ)) → (tail ≡ [] → (head : H) → grammar prefix head → ⊥) → length prefix ≡ length (prefix ++ tail) → (head : H) → grammar (prefix ++ tail) head → ⊥
  no_head [] unended at_end head derives = unended refl head (subst (λ (l : List (List ℕ)). grammar l head) (append-nil prefix) derives)
  no_head (part ∷ tail) unended at_end head derives = let more = length-append prefix (part ∷ tail) in absurd (omega arith)

  -- a part of another kind, or none, breaks the grammar
  pub breaks_after : (tail : List (List ℕ)) → (kind (get_or tail 0 []) → ⊥) → (tail ≡ [] → (head : H) → grammar prefix head → ⊥) → BreaksAt grammar (prefix ++ tail) (length prefix)
  breaks_after tail refused unended = record {
    within = omega (arith, length-append prefix tail);
    before = subst (Begins grammar) (sym (take_at prefix tail (length prefix) refl)) expects.goes_on;
    there = no_more tail refused;
    end = no_head tail unended;
  }

  no_number : (tail : List (List ℕ)) → (IsLong kind (get_or tail 0 []) → ⊥) → ExceedsAt grammar (prefix ++ tail) (length prefix) → ⊥
  no_number tail form exceeds =
      let part = part_at (prefix ++ tail) (length prefix) in
      let other = take (number_place part) part ++ exceeds.other in
      form (subst (IsLong kind) (part_after prefix tail) record {
        number = exceeds.number;
        long = exceeds.long;
        other = exceeds.other;
        other_number = exceeds.other_number;
        sign = exceeds.sign;
        taken = expects.only other (subst (λ (l : List (List ℕ)). Begins grammar (l ++ other ∷ [])) (take_at prefix tail (length prefix) refl) exceeds.allowed);
      })

-- what a text has at the first of the parts that are left
pub record IsLeftAt (text : List ℕ) (prefix : List (List ℕ)) (part : List ℕ) (at : ℕ) : Type 0 where
  pub tail : List (List ℕ)
  pub texts : texts_of (parts_of text) ≡ prefix ++ tail
  pub first : get_or tail 0 [] ≡ part
  pub place : place_of text (length prefix) ≡ at

syntax_at : {H : Type 0} (grammar : List (List ℕ) → H → Type 0) (prefix : List (List ℕ)) (kind : List ℕ → Type 0) (text part : List ℕ) (at : ℕ) → Expects grammar prefix kind → (left : IsLeftAt text prefix part at) →
    (left.tail ≡ [] → (head : H) → grammar prefix head → ⊥) → (kind part → ⊥) → (IsLong kind part → ⊥) → IsSyntaxAt grammar text at
syntax_at grammar prefix kind text part at expects left unended refused form =
    let refused' : kind (get_or left.tail 0 []) → ⊥ = λ k. refused (subst kind left.first k) in
    let form' : IsLong kind (get_or left.tail 0 []) → ⊥ = λ l. form (subst (IsLong kind) left.first l) in
    record {
      first = record {
        count = length prefix;
        breaks = subst (λ (l : List (List ℕ)). BreaksAt grammar l (length prefix)) (sym left.texts) (breaks_after grammar prefix kind expects left.tail refused' unended);
        place = left.place;
      };
      form = λ exceeds. no_number grammar prefix kind expects left.tail form' (subst (λ (l : List (List ℕ)). ExceedsAt grammar l (length prefix)) left.texts exceeds);
    }

abbrev pub left_at : (text : List ℕ) (prefix : List (List ℕ)) (whole : ℕ) (blank : Bool) (rest part : List ℕ) (at : ℕ) → IsRead text prefix whole blank rest → at ≡ whole - length rest → part ≡ first_in blank rest → IsLeftAt text prefix part at
left_at text prefix whole blank rest part at read at_is part_is =
    let next = next_of text prefix whole blank rest read in
    record { tail = next.tail; texts = next.texts; first = next.first ∙ sym part_is; place = next.place ∙ sym at_is }

-- where no part is left, no byte is
pub ended_there : {Y : Type 0} {tail : List (List ℕ)} (rest : List ℕ) → (rest ≢ [] → tail ≢ []) → tail ≡ [] → (rest ≡ [] → Y) → Y
ended_there [] some none f = f refl
ended_there (b ∷ bs) some none f = absurd (some (λ e. cc) none)

-- a part of another kind, or none, where a part has to be
pub refused_syntax : {H : Type 0} (grammar : List (List ℕ) → H → Type 0) (prefix : List (List ℕ)) (kind : List ℕ → Type 0) (text : List ℕ) (whole : ℕ) (blank : Bool) (rest part : List ℕ) (at : ℕ) → Expects grammar prefix kind →
    (rest ≡ [] → (head : H) → grammar prefix head → ⊥) → IsRead text prefix whole blank rest → at ≡ whole - length rest → part ≡ first_in blank rest → (kind part → ⊥) → (IsLong kind part → ⊥) → IsSyntaxAt grammar text at
refused_syntax grammar prefix kind text whole blank rest part at expects unended read at_is part_is refused form =
    syntax_at grammar prefix kind text part at expects (left_at text prefix whole blank rest part at read at_is part_is)
    (λ e. ended_there rest (next_of text prefix whole blank rest read).some e unended) refused form

-- a further part after a head that cannot go on
pub left_syntax : {H : Type 0} (grammar : List (List ℕ) → H → Type 0) (prefix : List (List ℕ)) (text : List ℕ) (whole : ℕ) (blank : Bool) (rest : List ℕ) → Expects grammar prefix (λ part. ⊥) →
    IsRead text prefix whole blank rest → rest ≢ [] → IsSyntaxAt grammar text (whole - length rest)
left_syntax grammar prefix text whole blank rest expects read some =
    let next = next_of text prefix whole blank rest read in
    syntax_at grammar prefix (λ part. ⊥) text (first_in blank rest) (whole - length rest) expects record { tail = next.tail; texts = next.texts; first = next.first; place = next.place }
    (λ e. absurd (next.some some e)) (λ none. none) (λ long. long.taken)

pub word_place : (text : List ℕ) → place_of text 0 ≡ 0
unfolding parts_of
word_place text = refl

pub word_text : (text : List ℕ) → get_or (texts_of (parts_of text)) 0 [] ≡ first_word_of text
unfolding parts_of
word_text text = refl

pub some_texts : (text : List ℕ) → texts_of (parts_of text) ≢ []
unfolding parts_of
some_texts text e = cc

-- another first word
pub word_syntax : {H : Type 0} (grammar : List (List ℕ) → H → Type 0) (kind : List ℕ → Type 0) (text : List ℕ) → Expects grammar [] kind → (kind (first_word_of text) → ⊥) → (IsLong kind (first_word_of text) → ⊥) → IsSyntaxAt grammar text 0
word_syntax grammar kind text expects refused form =
    syntax_at grammar [] kind text (first_word_of text) 0 expects record { tail = texts_of (parts_of text); texts = refl; first = word_text text; place = word_place text }
    (λ e. absurd (some_texts text e)) refused form

-- the empty part has no number
no_bytes : (part : List ℕ) → part ≡ [] → is_number (drop (number_place part) part) ≡ true → ⊥
unfolding number_place
no_bytes [] e number = cc
no_bytes (b ∷ bs) e number = cc

-- a number that does not fit
pub refused_number : {H : Type 0} (grammar : List (List ℕ) → H → Type 0) (prefix : List (List ℕ)) (kind : List ℕ → Type 0) (text : List ℕ) (whole : ℕ) (blank : Bool) (rest part : List ℕ) (begin at : ℕ) → Expects grammar prefix kind →
    (rest ≡ [] → (head : H) → grammar prefix head → ⊥) → IsRead text prefix whole blank rest → begin ≡ whole - length rest → part ≡ first_in blank rest → (kind part → ⊥) →
    (long : IsLong kind part) → Begins grammar (prefix ++ (take (number_place part) part ++ long.other) ∷ []) → begin + number_place part ≡ at → IsNumberAt grammar text at
refused_number grammar prefix kind text whole blank rest part begin at expects unended read begin_is part_is refused long allowed place =
    let next = next_of text prefix whole blank rest read in
    let first : get_or next.tail 0 [] ≡ part = next.first ∙ sym part_is in
    let there : part ≡ part_at (texts_of (parts_of text)) (length prefix) = sym (ap (λ (l : List (List ℕ)). part_at l (length prefix)) next.texts ∙ part_after prefix next.tail ∙ first) in
    let refused' : kind (get_or next.tail 0 []) → ⊥ = λ k. refused (subst kind first k) in
    record {
      begin = begin;
      first = record {
        count = length prefix;
        breaks = subst (λ (l : List (List ℕ)). BreaksAt grammar l (length prefix)) (sym next.texts) (breaks_after grammar prefix kind expects next.tail refused' (λ e. ended_there rest next.some e unended));
        place = next.place ∙ sym begin_is;
      };
      exceeds = record {
        within = inside next.tail (texts_of (parts_of text)) next.texts (λ e. no_bytes part (sym first ∙ ap (λ (l : List (List ℕ)). get_or l 0 []) e) long.number);
        number = subst (λ (l : List ℕ). is_number (drop (number_place l) l) ≡ true) there long.number;
        long = subst (λ (l : List ℕ). is_short (2 ^ 31) (number_of (drop (number_place l) l)) ≡ false) there long.long;
        other = long.other;
        other_number = long.other_number;
        sign = subst (λ (l : List ℕ). begins_with 45 long.other ≡ begins_with 45 (drop (number_place l) l)) there long.sign;
        allowed =
            subst (λ (l : List ℕ). Begins grammar (take (length prefix) (texts_of (parts_of text)) ++ (take (number_place l) l ++ long.other) ∷ [])) there
            (subst (λ (l : List (List ℕ)). Begins grammar (l ++ (take (number_place part) part ++ long.other) ∷ [])) (sym (ap (take (length prefix)) next.texts ∙ take_at prefix next.tail (length prefix) refl)) allowed);
      };
      place = ap (λ (l : List ℕ). begin + number_place l) (sym there) ∙ place;
    }
  where
    inside : (tail texts : List (List ℕ)) → texts ≡ prefix ++ tail → tail ≢ [] → length prefix < length texts
    inside [] texts e some = absurd (some refl)
    inside (t ∷ ts) texts e some = let lengths = ap length e in omega (arith, length-append prefix (t ∷ ts))
