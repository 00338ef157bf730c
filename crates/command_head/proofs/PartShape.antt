-- What is known of parts of each kind.
use Rattle.std.proofs.Common.{◌≡◌, ◌≢◌, ℕ, zero, suc, ◌<◌, ◌≤◌, Bool, true, false, ◌||◌, ◌&&◌, nat_le, List, [], ◌∷◌, ◌++◌, IsAscii, length, take, drop, refl, sym, ◌∙◌, ap, subst, arith, tests, codes, bytes_eq, ◌⊎◌, inl, inr, ⊎_elim}
use Rattle.std.specs.List.{AllByRecursion, list_all}
use Rattle.std.proofs.lemmas.List.{take_all, take-append-drop}
use Rattle.std.proofs.lemmas.Slice.Eq.{bytes_eq-Decides}
use Rattle.std.proofs.lemmas.Bool.{and_parts, or_cases, eqb-true, ne_eqb, false≢true, leb-true}
use Rattle.text_grammar.specs.declared.class.Class.{Class}
use Rattle.text_grammar.specs.declared.class.Class.TheVariants.{Letter, NameByte, Unquoted}
use Rattle.text_grammar.specs.Bytes.{is_alphanumeric, is_letter, is_digit, is_name_byte}
use Rattle.text_grammar.specs.Prefixes.{all_in, begins_in, after_prefix, prefix_len, prefix_of, is_in}
use Rattle.text_grammar.specs.Numbers.{begins_with}
use Rattle.text_grammar.specs.Systems.{is_direction, is_system}
use Rattle.command_head.specs.Parts.{is_name, is_word, is_quoted, unquoted}
use Rattle.command_head.specs.Grammar.{AreUnquoted, quoted}
use Rattle.command_head.proofs.PrefixSteps.{begins_with-split, prefix_split, prefix_of-all, prefix_of-append, after_prefix-append}

-- what holds of each where another thing does
pub AllByRecursion-weaker : (P Q : ℕ → Type 0) → ((b : ℕ) → P b → Q b) → (bytes : List ℕ) → AllByRecursion P bytes → AllByRecursion Q bytes
AllByRecursion-weaker P Q f [] all = tt
AllByRecursion-weaker P Q f (b ∷ bs) all = (f b all.0, AllByRecursion-weaker P Q f bs all.1)

pub all-append : (P : ℕ → Type 0) (xs ys : List ℕ) → AllByRecursion P xs → AllByRecursion P ys → AllByRecursion P (xs ++ ys)
all-append P [] ys a b = b
all-append P (x ∷ xs) ys a b = (a.0, all-append P xs ys a.1 b)

pub letter-high : (b : ℕ) → is_letter b ≡ true → 65 ≤ b
letter-high b h =
    ⊎_elim (λ p. leb-true 65 b (and_parts (nat_le 65 b) (nat_le b 90) p).0)
    (λ p. let high : 97 ≤ b = leb-true 97 b (and_parts (nat_le 97 b) (nat_le b 122) p).0 in omega arith)
    (or_cases (nat_le 65 b && nat_le b 90) (nat_le 97 b && nat_le b 122) h)

pub letter-name_byte : (b : ℕ) → is_letter b ≡ true → is_name_byte b ≡ true
letter-name_byte b h = rw h refl

name_byte-low : (b : ℕ) → is_name_byte b ≡ true → b < 128
name_byte-low b h = grind (arith, tests)

alphanumeric-low : (b : ℕ) → (is_letter b || is_digit b) ≡ true → b < 128
alphanumeric-low b h = grind (arith, tests)

low : (bytes : List ℕ) → AllByRecursion (λ b. b < 128) bytes → IsAscii bytes
low [] all i = omega arith
low (b ∷ bs) all zero = all.0
low (b ∷ bs) all (suc i) = low bs all.1 i

-- bytes that are all of a class
pub all_in-all : (class : Class) (bytes : List ℕ) → all_in class bytes ≡ true → AllByRecursion (λ b. is_in class b ≡ true) bytes
all_in-all class bytes h =
    let same : prefix_of class bytes ≡ bytes = take_all (prefix_len class bytes) bytes (let whole = eqb-true (prefix_len class bytes) (length bytes) h in omega arith) in
    subst (λ (l : List ℕ). AllByRecursion (λ b. is_in class b ≡ true) l) same (prefix_of-all class bytes)

-- names have bytes of names
pub name_bytes : (part : List ℕ) → is_name part ≡ true → AllByRecursion (λ b. is_in NameByte b ≡ true) part
name_bytes part h =
    let tests = and_parts (begins_in Letter part) (all_in NameByte part && nat_le (length part) 64) h in
    all_in-all NameByte part (and_parts (all_in NameByte part) (nat_le (length part) 64) tests.1).0

-- the name of a word is a name
pub word_name : (part : List ℕ) → is_word part ≡ true → is_name part ≡ true
word_name part h = (and_parts (is_name part) _ h).0

-- names are ASCII
pub IsAscii-name : (part : List ℕ) → is_name part ≡ true → IsAscii part
IsAscii-name part h = low part (AllByRecursion-weaker (λ b. is_in NameByte b ≡ true) (λ b. b < 128) name_byte-low part (name_bytes part h))

pub IsAscii-word : (part : List ℕ) → is_word part ≡ true → IsAscii part
IsAscii-word part h = IsAscii-name part (word_name part h)

alphanumeric_all : (bytes : List ℕ) → list_all is_alphanumeric bytes ≡ true → AllByRecursion (λ b. b < 128) bytes
alphanumeric_all [] h = tt
alphanumeric_all (b ∷ bs) h = let p = and_parts (is_letter b || is_digit b) (list_all is_alphanumeric bs) h in (alphanumeric-low b p.0, alphanumeric_all bs p.1)

-- what is known of the name of a system
pub record IsSystemRead (part : List ℕ) : Type 0 where
  pub direction : is_direction (take 4 part) ≡ true
  pub others : list_all is_alphanumeric (drop 4 part) ≡ true

pub system_read : (part : List ℕ) → is_system part ≡ true → IsSystemRead part
unfolding is_system
system_read part h =
    let p = and_parts (nat_le 5 (length part)) (nat_le (length part) 62 && (is_direction (take 4 part) && list_all is_alphanumeric (drop 4 part))) h in
    let q = and_parts (nat_le (length part) 62) (is_direction (take 4 part) && list_all is_alphanumeric (drop 4 part)) p.1 in
    let r = and_parts (is_direction (take 4 part)) (list_all is_alphanumeric (drop 4 part)) q.1 in
    record { direction = r.0; others = r.1 }

pub direction_is : (bytes : List ℕ) → is_direction bytes ≡ true → (bytes ≡ codes "msd_") ⊎ (bytes ≡ codes "lsd_")
direction_is bytes h = ⊎_elim (λ e. inl ((bytes_eq-Decides bytes (codes "msd_")).0 e)) (λ e. inr ((bytes_eq-Decides bytes (codes "lsd_")).0 e))
    (or_cases (bytes_eq bytes (codes "msd_")) (bytes_eq bytes (codes "lsd_")) h)

direction_low : (bytes : List ℕ) → is_direction bytes ≡ true → AllByRecursion (λ b. b < 128) bytes
direction_low bytes h =
    let P : List ℕ → Type 0 = λ l. AllByRecursion (λ b. b < 128) l in
    ⊎_elim (λ e. subst P (sym e) (omega arith, (omega arith, (omega arith, (omega arith, tt))))) (λ e. subst P (sym e) (omega arith, (omega arith, (omega arith, (omega arith, tt))))) (direction_is bytes h)

-- systems are ASCII
pub IsAscii-system : (part : List ℕ) → is_system part ≡ true → IsAscii part
IsAscii-system part h =
    let read = system_read part h in
    let all = all-append (λ b. b < 128) (take 4 part) (drop 4 part) (direction_low (take 4 part) read.direction) (alphanumeric_all (drop 4 part) read.others) in
    low part (subst (λ (l : List ℕ). AllByRecursion (λ b. b < 128) l) (take-append-drop 4 part) all)

digit-name_byte : (b : ℕ) → is_digit b ≡ true → is_name_byte b ≡ true
digit-name_byte b h = by_letter (is_letter b) refl
  where
    by_letter : (t : Bool) → is_letter b ≡ t → is_name_byte b ≡ true
    by_letter true e = letter-name_byte b e
    by_letter false e = rw (e, h) refl

alphanumeric_names : (bytes : List ℕ) → list_all is_alphanumeric bytes ≡ true → AllByRecursion (λ c. is_in NameByte c ≡ true) bytes
alphanumeric_names [] h = tt
alphanumeric_names (b ∷ bs) h =
    let p = and_parts (is_letter b || is_digit b) (list_all is_alphanumeric bs) h in
    (⊎_elim (λ e. letter-name_byte b e) (λ e. digit-name_byte b e) (or_cases (is_letter b) (is_digit b) p.0), alphanumeric_names bs p.1)

-- systems have bytes of names
pub system_bytes : (part : List ℕ) → is_system part ≡ true → AllByRecursion (λ c. is_in NameByte c ≡ true) part
system_bytes part h =
    let read = system_read part h in
    let P : List ℕ → Type 0 = λ l. AllByRecursion (λ c. is_in NameByte c ≡ true) l in
    let prefix : P (take 4 part) = ⊎_elim (λ e. subst P (sym e) (refl, (refl, (refl, (refl, tt))))) (λ e. subst P (sym e) (refl, (refl, (refl, (refl, tt))))) (direction_is (take 4 part) read.direction) in
    subst P (take-append-drop 4 part) (all-append (λ c. is_in NameByte c ≡ true) (take 4 part) (drop 4 part) prefix (alphanumeric_names (drop 4 part) read.others))

pub unquoted_in : (b : ℕ) → b ≢ 34 → is_in Unquoted b ≡ true
unquoted_in b h = rw (ne_eqb b 34 h) refl

-- a text in quotes is one, with what is in them
pub record IsQuoted (part body : List ℕ) : Type 0 where
  pub test : is_quoted part ≡ true
  pub inside : unquoted part ≡ body

pub quoted_is : (body : List ℕ) → AreUnquoted body → IsQuoted (quoted body) body
quoted_is body all =
    let in_body = AllByRecursion-weaker (λ b. b ≢ 34) (λ b. is_in Unquoted b ≡ true) unquoted_in body all in
    let back = after_prefix-append Unquoted body (34 ∷ []) in_body refl in
    record { test = rw back refl; inside = prefix_of-append Unquoted body (34 ∷ []) in_body refl }

quote_refused : (b : ℕ) → is_in Unquoted b ≡ true → b ≢ 34
quote_refused b h e = false≢true (subst (λ (x : ℕ). is_in Unquoted x ≡ true) e h)

-- a part that is one is what is in its quotes, between quotes
pub is_quoted-part : (part : List ℕ) → is_quoted part ≡ true → (part ≡ quoted (unquoted part)) × AreUnquoted (unquoted part)
is_quoted-part part h =
    let p = and_parts (begins_with 34 part) (bytes_eq (after_prefix Unquoted (drop 1 part)) (codes "\"")) h in
    let closes : after_prefix Unquoted (drop 1 part) ≡ codes "\"" = (bytes_eq-Decides (after_prefix Unquoted (drop 1 part)) (codes "\"")).0 p.1 in (
      begins_with-split 34 part p.0 ∙ ap (λ (l : List ℕ). 34 ∷ l) (sym (prefix_split Unquoted (drop 1 part)) ∙ ap (λ (l : List ℕ). unquoted part ++ l) closes),
      AllByRecursion-weaker (λ b. is_in Unquoted b ≡ true) (λ b. b ≢ 34) quote_refused (unquoted part) (prefix_of-all Unquoted (drop 1 part)),
    )

and_false : (a b : Bool) → (a && (b && false)) ≡ false
and_false true true = refl
and_false true false = refl
and_false false b = refl

-- a text in quotes is no system
pub quoted-system : (bs : List ℕ) → is_system (34 ∷ bs) ≡ false
unfolding is_system
quoted-system bs = and_false (nat_le 5 (length (34 ∷ bs))) (nat_le (length (34 ∷ bs)) 62)

-- nor is a brace
pub system-brace : (part : List ℕ) → is_system part ≡ true → bytes_eq part (codes "{") ≡ false
unfolding is_system
system-brace part h = by_test (bytes_eq part (codes "{")) refl
  where
    by_test : (t : Bool) → bytes_eq part (codes "{") ≡ t → t ≡ false
    by_test false e = refl
    by_test true e = absurd (false≢true (subst (λ (l : List ℕ). is_system l ≡ true) ((bytes_eq-Decides part (codes "{")).0 e) h))
