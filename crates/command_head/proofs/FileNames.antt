-- Parts that name files.
use Rattle.std.proofs.Common.{◌≡◌, ◌≢◌, ℕ, Bool, true, false, ◌==◌, List, [], ◌∷◌, ◌++◌, length, take, drop, bytes_eq, refl, sym, ◌∙◌, ap, subst, arith, codes, ◌⊎◌, inl, inr, ⊎_elim}
use Rattle.std.proofs.lemmas.List.{append_assoc, append-nil, take-append-drop}
use Rattle.std.proofs.lemmas.Bool.{and_parts, eqb-true, false≢true}
use Rattle.std.proofs.lemmas.Slice.Eq.{bytes_eq-Decides}
use Rattle.text_grammar.specs.declared.class.Class.TheVariants.{NameByte}
use Rattle.text_grammar.specs.Prefixes.{after_prefix, prefix_len, prefix_of}
use Rattle.text_grammar.specs.Numbers.{is_number}
use Rattle.command_head.specs.Parts.{is_name, number_place}
use Rattle.command_head.specs.Grammar.{NamesFile}
use Rattle.command_head.proofs.PrefixSteps.{prefix_of-append, after_prefix-append}
use Rattle.command_head.proofs.PartShape.{name_bytes}
use Rattle.command_head.proofs.ValuedParts.{IsAfterName, number_split, prefix_is, letter_append, letter_number, numbered_name}

-- the name that a part begins with, and what comes after it
pub record Stem (part name : List ℕ) : Type 0 where
  pub prefix : prefix_of NameByte part ≡ name
  pub ending : (after_prefix NameByte part ≡ []) ⊎ (after_prefix NameByte part ≡ codes ".txt")

pub stem_of : (part name : List ℕ) → NamesFile part name → Stem part name
stem_of part name file = by_part file.part_is
  where
    whole : NamesFile (name ++ []) name → Stem (name ++ []) name
    whole file = record { prefix = prefix_of-append NameByte name [] (name_bytes name file.named) tt; ending = inl (after_prefix-append NameByte name [] (name_bytes name file.named) tt) }

    by_part : (part ≡ name) ⊎ (part ≡ name ++ codes ".txt") → Stem part name
    by_part (inl is) = subst (λ (l : List ℕ). Stem l name) (append-nil name ∙ sym is) (whole (record { named = file.named; part_is = inl (append-nil name) }))
    by_part (inr is) = subst (λ (l : List ℕ). Stem l name) (sym is) (record {
      prefix = prefix_of-append NameByte name (codes ".txt") (name_bytes name file.named) refl;
      ending = inr (after_prefix-append NameByte name (codes ".txt") (name_bytes name file.named) refl);
    })

-- a part names one file
pub one_file : (part name other : List ℕ) → NamesFile part name → NamesFile part other → name ≡ other
one_file part name other a b = sym (stem_of part name a).prefix ∙ (stem_of part other b).prefix

no_ending : (bytes : List ℕ) → 61 ∷ bytes ≡ [] → ⊥
no_ending bytes is = cc

other_ending : (bytes : List ℕ) → 61 ∷ bytes ≡ codes ".txt" → ⊥
other_ending bytes is = cc

-- a part with another number in the place of its own names none
pub numbered_file : (part other : List ℕ) → is_number other ≡ true → (name : List ℕ) → NamesFile (take (number_place part) part ++ other) name → ⊥
numbered_file part other number name file = ⊎_elim of_number of_valued (number_split part)
  where
    of_number : number_place part ≡ 0 → ⊥
    of_number zero =
        let is_other : is_number (take (number_place part) part ++ other) ≡ true = subst (λ (n : ℕ). is_number (take n part ++ other) ≡ true) (sym zero) number in
        let letter = letter_append name (codes ".txt") (and_parts _ _ file.named).0 in
        ⊎_elim (λ is. numbered_name part other number (subst (λ (l : List ℕ). is_name l ≡ true) (sym is) file.named))
        (λ is. letter_number (name ++ codes ".txt") letter (subst (λ (l : List ℕ). is_number l ≡ true) is is_other)) file.part_is

    of_valued : IsAfterName part → ⊥
    of_valued s =
        let whole : take (number_place part) part ++ other ≡ s.name ++ 61 ∷ other = ap (λ (l : List ℕ). l ++ other) (prefix_is part s) ∙ append_assoc s.name (61 ∷ []) other in
        let ending : after_prefix NameByte (take (number_place part) part ++ other) ≡ 61 ∷ other = ap (after_prefix NameByte) whole ∙ after_prefix-append NameByte s.name (61 ∷ other) s.bytes refl in
        ⊎_elim (λ is. no_ending other (sym ending ∙ is)) (λ is. other_ending other (sym ending ∙ is)) (stem_of (take (number_place part) part ++ other) name file).ending

-- and the part has bytes
pub file_some : (part name : List ℕ) → NamesFile part name → part ≢ []
file_some part name file = λ none. ⊎_elim (λ is. some name file.named (sym is ∙ none)) (λ is. more name (sym is ∙ none)) file.part_is
  where
    some : (name : List ℕ) → is_name name ≡ true → name ≡ [] → ⊥
    some name named none = false≢true (ap is_name (sym none) ∙ named)

    more : (name : List ℕ) → name ++ codes ".txt" ≡ [] → ⊥
    more [] is = cc
    more (b ∷ bs) is = cc

-- a part whose bytes are those of a name, and then `.txt` or nothing, names that file
pub names_file : (part name ending : List ℕ) (len : ℕ) → len ≡ prefix_len NameByte part → name ≡ take len part → ending ≡ drop len part → is_name name ≡ true → (ending ≡ []) ⊎ (ending ≡ codes ".txt") → NamesFile part name
names_file part name ending len len_is name_is ending_is named by =
    let split : part ≡ name ++ ending = sym (ap (λ (l : List ℕ). l ++ ending) name_is ∙ ap (λ (l : List ℕ). take len part ++ l) ending_is ∙ take-append-drop len part) in
    record { named = named; part_is = ⊎_elim (λ is. inl (split ∙ ap (λ (l : List ℕ). name ++ l) is ∙ append-nil name)) (λ is. inr (split ∙ ap (λ (l : List ℕ). name ++ l) is)) by }

-- another part names none
pub no_file : (part name ending : List ℕ) (len : ℕ) → len ≡ prefix_len NameByte part → name ≡ take len part → ending ≡ drop len part → (is_name name ≡ false) ⊎ ((ending ≢ []) × (ending ≢ codes ".txt")) → (other : List ℕ) → NamesFile part other → ⊥
no_file part name ending len len_is name_is ending_is by other file =
    let stem : Stem part other = stem_of part other file in
    let same : name ≡ other = name_is ∙ ap (λ n. take n part) len_is ∙ stem.prefix in
    let rest : ending ≡ after_prefix NameByte part = ending_is ∙ ap (λ n. drop n part) len_is in
    ⊎_elim (λ refused. false≢true (sym refused ∙ ap is_name same ∙ file.named)) (λ other_ending. ⊎_elim (λ is. other_ending.0 (rest ∙ is)) (λ is. other_ending.1 (rest ∙ is)) stem.ending) by

-- what an ending is, by the tests of the code
pub empty_is : (ending : List ℕ) (t : Bool) → t ≡ (length ending == 0) → t ≡ true → ending ≡ []
empty_is [] t is full = refl
empty_is (b ∷ bs) t is full = let zero : length (b ∷ bs) ≡ 0 = eqb-true (length (b ∷ bs)) 0 (sym is ∙ full) in absurd (omega arith)

pub empty_not : (ending : List ℕ) (t : Bool) → t ≡ (length ending == 0) → t ≡ false → ending ≢ []
empty_not ending t is fails none = false≢true (sym fails ∙ (is ∙ ap (λ (l : List ℕ). length l == 0) none))

pub ending_is : (ending bytes : List ℕ) (t : Bool) → t ≡ bytes_eq ending bytes → bytes ≡ codes ".txt" → t ≡ true → ending ≡ codes ".txt"
ending_is ending bytes t is text passes = (bytes_eq-Decides ending bytes).0 (sym is ∙ passes) ∙ text

pub ending_not : (ending bytes : List ℕ) (t : Bool) → t ≡ bytes_eq ending bytes → bytes ≡ codes ".txt" → t ≡ false → ending ≢ codes ".txt"
ending_not ending bytes t is text fails same = false≢true (sym fails ∙ (is ∙ (bytes_eq-Decides ending bytes).1 (same ∙ sym text)))
