-- Parts that end with a number: a number alone, or one after a name and `=`.
use Rattle.std.proofs.Common.{◌≡◌, ℕ, ◌+◌, Bool, true, false, cond, ◌&&◌, List, [], ◌∷◌, ◌++◌, length, take, drop, refl, sym, ◌∙◌, ap, subst, arith, ◌⊎◌, inl, inr, ⊎_elim, length-append}
use Rattle.std.specs.List.{AllByRecursion}
use Rattle.std.proofs.lemmas.List.{take_at, drop_at, append_assoc}
use Rattle.std.proofs.lemmas.Bool.{and_parts, eqb-true, false≢true}
use Rattle.text_grammar.specs.declared.class.Class.TheVariants.{Letter, NameByte}
use Rattle.text_grammar.specs.Prefixes.{begins_in, after_prefix, prefix_len, prefix_of, is_in}
use Rattle.text_grammar.specs.Numbers.{begins_with, is_number}
use Rattle.text_grammar.specs.Systems.{is_system}
use Rattle.command_head.specs.Parts.{is_name, is_quoted, number_place}
use Rattle.command_head.proofs.PrefixSteps.{prefix_split, prefix_of-all, begins_with-split, prefix_len-append, after_prefix-append}
use Rattle.command_head.proofs.PartShape.{letter-high, name_bytes, system_bytes}
use Rattle.command_head.proofs.Completions.{number_first, name_first, system_first, quoted_first}

-- bytes of names that begin with a letter, `=`, and more
pub record IsAfterName (part : List ℕ) : Type 0 where
  pub name : List ℕ
  pub suffix : List ℕ
  pub part_is : part ≡ name ++ 61 ∷ suffix
  pub letter : begins_in Letter name ≡ true
  pub bytes : AllByRecursion (λ b. is_in NameByte b ≡ true) name
  pub place : number_place part ≡ length name + 1

letter_prefix : (bytes : List ℕ) → begins_in Letter bytes ≡ true → begins_in Letter (prefix_of NameByte bytes) ≡ true
letter_prefix [] h = absurd (false≢true h)
letter_prefix (b ∷ bs) h = rw h h

length-prefix_of : (part : List ℕ) (suffix : List ℕ) → part ≡ prefix_of NameByte part ++ 61 ∷ suffix → prefix_len NameByte part ≡ length (prefix_of NameByte part)
length-prefix_of part suffix e =
    ap (prefix_len NameByte) e ∙ prefix_len-append NameByte (prefix_of NameByte part) (61 ∷ suffix) (prefix_of-all NameByte part) refl

place_is : (t : Bool) (n : ℕ) → t ≡ true → cond t (n + 1) 0 ≡ n + 1
place_is t n e = rw e refl

-- a number begins a part, or comes after a name
pub number_split : (part : List ℕ) → (number_place part ≡ 0) ⊎ IsAfterName part
unfolding number_place
number_split part = by_test (begins_in Letter part && begins_with 61 (after_prefix NameByte part)) refl
  where
    by_test : (t : Bool) → (begins_in Letter part && begins_with 61 (after_prefix NameByte part)) ≡ t → (number_place part ≡ 0) ⊎ IsAfterName part
    by_test false e = inl (rw e refl)
    by_test true e =
        let p = and_parts (begins_in Letter part) (begins_with 61 (after_prefix NameByte part)) e in
        let part_is : part ≡ prefix_of NameByte part ++ 61 ∷ drop 1 (after_prefix NameByte part) = sym (prefix_split NameByte part) ∙ ap (λ (l : List ℕ). prefix_of NameByte part ++ l) (begins_with-split 61 (after_prefix NameByte part) p.1) in
        inr record {
          name = prefix_of NameByte part;
          suffix = drop 1 (after_prefix NameByte part);
          part_is = part_is;
          letter = letter_prefix part p.0;
          bytes = prefix_of-all NameByte part;
          place = place_is (begins_in Letter part && begins_with 61 (after_prefix NameByte part)) (prefix_len NameByte part) e ∙ ap (λ (n : ℕ). n + 1) (length-prefix_of part (drop 1 (after_prefix NameByte part)) part_is);
        }

-- what comes before the number, and after
pub prefix_is : (part : List ℕ) (split : IsAfterName part) → take (number_place part) part ≡ split.name ++ 61 ∷ []
prefix_is part split =
    ap (λ (n : ℕ). take n part) split.place
    ∙ ap (take (length split.name + 1)) (split.part_is ∙ sym (append_assoc split.name (61 ∷ []) split.suffix))
    ∙ take_at (split.name ++ 61 ∷ []) split.suffix (length split.name + 1) (length-append split.name (61 ∷ []))

pub back_is : (part : List ℕ) (split : IsAfterName part) → drop (number_place part) part ≡ split.suffix
back_is part split =
    ap (λ (n : ℕ). drop n part) split.place
    ∙ ap (drop (length split.name + 1)) (split.part_is ∙ sym (append_assoc split.name (61 ∷ []) split.suffix))
    ∙ drop_at (split.name ++ 61 ∷ []) split.suffix (length split.name + 1) (length-append split.name (61 ∷ []))

-- Such a part with another number in the place of its own: a number, or one after a name.
pub record IsValued (part : List ℕ) : Type 0 where
  pub letter : begins_in Letter part ≡ true
  pub other_byte : AllByRecursion (λ b. is_in NameByte b ≡ true) part → ⊥

all_middle : (xs ys : List ℕ) → AllByRecursion (λ b. is_in NameByte b ≡ true) (xs ++ 61 ∷ ys) → ⊥
all_middle [] ys all = false≢true all.0
all_middle (x ∷ xs) ys all = all_middle xs ys all.1

pub letter_append : (xs ys : List ℕ) → begins_in Letter xs ≡ true → begins_in Letter (xs ++ ys) ≡ true
letter_append [] ys h = absurd (false≢true h)
letter_append (x ∷ xs) ys h = h

pub valued_split : (part other : List ℕ) → IsAfterName part → IsValued (take (number_place part) part ++ other)
valued_split part other s =
    let whole : take (number_place part) part ++ other ≡ s.name ++ 61 ∷ other = ap (λ (l : List ℕ). l ++ other) (prefix_is part s) ∙ append_assoc s.name (61 ∷ []) other in
    subst IsValued (sym whole) record { letter = letter_append s.name (61 ∷ other) s.letter; other_byte = all_middle s.name other }

pub numbered : (part other : List ℕ) → is_number other ≡ true → (is_number (take (number_place part) part ++ other) ≡ true) ⊎ IsValued (take (number_place part) part ++ other)
numbered part other number = ⊎_elim (λ e. inl (subst (λ (n : ℕ). is_number (take n part ++ other) ≡ true) (sym e) number)) (λ s. inr (valued_split part other s)) (number_split part)

-- a part with a value is no name, no system, no number and no text in quotes
pub valued_name : (part : List ℕ) → IsValued part → is_name part ≡ true → ⊥
valued_name part v h = v.other_byte (name_bytes part h)

pub valued_system : (part : List ℕ) → IsValued part → is_system part ≡ true → ⊥
valued_system part v h = v.other_byte (system_bytes part h)

pub letter_number : (part : List ℕ) → begins_in Letter part ≡ true → is_number part ≡ true → ⊥
letter_number [] h number = false≢true h
letter_number (b ∷ bs) h number = let high = letter-high b h in let low = (number_first (b ∷ bs) number).1 in omega arith

pub letter_quoted : (part : List ℕ) → begins_in Letter part ≡ true → is_quoted part ≡ true → ⊥
letter_quoted [] h q = false≢true h
letter_quoted (b ∷ bs) h q =
    let high = letter-high b h in
    let quote = eqb-true b 34 (and_parts _ _ q).0 in omega arith

-- a number is no name and no text in quotes
pub number_name : (part : List ℕ) → is_number part ≡ true → is_name part ≡ true → ⊥
number_name part number named = name_first part named (number_first part number)

pub number_quoted : (part : List ℕ) → is_number part ≡ true → is_quoted part ≡ true → ⊥
number_quoted part number q = quoted_first part q (number_first part number)

-- a part with another number in the place of its own is no name and no text in quotes
pub numbered_name : (part other : List ℕ) → is_number other ≡ true → is_name (take (number_place part) part ++ other) ≡ true → ⊥
numbered_name part other number named = ⊎_elim (λ n. number_name (take (number_place part) part ++ other) n named) (λ v. valued_name (take (number_place part) part ++ other) v named) (numbered part other number)

pub numbered_quoted : (part other : List ℕ) → is_number other ≡ true → is_quoted (take (number_place part) part ++ other) ≡ true → ⊥
numbered_quoted part other number q = ⊎_elim (λ n. number_quoted (take (number_place part) part ++ other) n q) (λ v. letter_quoted (take (number_place part) part ++ other) v.letter q) (numbered part other number)

-- nor a system
pub numbered_system : (part other : List ℕ) → is_number other ≡ true → is_system (take (number_place part) part ++ other) ≡ true → ⊥
numbered_system part other number system =
    let whole = take (number_place part) part ++ other in
    ⊎_elim (λ n. system_first whole system (number_first whole n)) (λ v. valued_system whole v system) (numbered part other number)

-- the number of a part that is one begins at its first byte
pub number_place-number : (part : List ℕ) → is_number part ≡ true → number_place part ≡ 0
number_place-number part number =
    ⊎_elim (λ e. e) (λ s. absurd (letter_number part (subst (λ (l : List ℕ). begins_in Letter l ≡ true) (sym s.part_is) (letter_append s.name (61 ∷ s.suffix) s.letter)) number)) (number_split part)

-- and that of a name with a value, after the `=`
pub number_place-valued : (name suffix : List ℕ) → is_name name ≡ true → number_place (name ++ 61 ∷ suffix) ≡ length name + 1
unfolding number_place
number_place-valued name suffix named =
    let bytes = name_bytes name named in
    let letter = letter_append name (61 ∷ suffix) (and_parts _ _ named).0 in
    let len = prefix_len-append NameByte name (61 ∷ suffix) bytes refl in
    let back = after_prefix-append NameByte name (61 ∷ suffix) bytes refl in
    taken (begins_in Letter (name ++ 61 ∷ suffix)) (begins_with 61 (after_prefix NameByte (name ++ 61 ∷ suffix))) (prefix_len NameByte (name ++ 61 ∷ suffix)) letter (ap (begins_with 61) back) len
  where
    taken : (a b : Bool) (n : ℕ) → a ≡ true → b ≡ true → n ≡ length name → cond (a && b) (n + 1) 0 ≡ length name + 1
    taken a b n e g h = rw (e, g, h) refl
