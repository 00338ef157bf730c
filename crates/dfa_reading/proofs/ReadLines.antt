-- Lines, as loops read them.
use Rattle.std.proofs.Common.{◌≡◌, ℕ, zero, suc, ◌+◌, ◌<◌, ◌≤◌, Bool, true, false, not, cond, eqb, ◌&&◌, List, [], ◌∷◌, ◌++◌, length, take, drop, get_or, Option, None, Some, refl, sym, ap, ◌∙◌, subst, arith, append_assoc}
use Rattle.std.specs.List.{slice_split, onto_first, filter, prefix_len}
use Rattle.std.proofs.lemmas.Bool.{eq-eqb, eqb-true, ne_eqb}
use Rattle.std.proofs.lemmas.List.{drop_more, get_or-drop, take_more}
use Rattle.std.proofs.Math.Bool.{and-false}
use Rattle.text_grammar.specs.Bytes.{is_blank}
use Rattle.text_grammar.specs.Prefixes.{prefix_len as len_of_prefix}
use Rattle.text_grammar.specs.declared.class.Class.TheVariants.{Blank}
use Rattle.dfa_reading.specs.Lines.{has_bytes, parts_of, arrow_at, before_both}
use Rattle.dfa_reading.proofs.Splits.{parts_of-append}

-- a text before the first of two
abbrev pub suffix : List ℕ → Option (List ℕ × List ℕ) → Option (List ℕ × List ℕ)
suffix xs None = None
suffix xs (Some p) = Some (xs ++ p.0, p.1)

short_no_arrow : (bytes : List ℕ) → length bytes ≤ 1 → arrow_at bytes ≡ None
short_no_arrow [] h = refl
short_no_arrow (b ∷ []) h = rw (and-false (eqb b 45)) refl
short_no_arrow (b ∷ c ∷ bytes) h = absurd (omega arith)

pub arrow_nowhere : (line prefix rest : List ℕ) → length rest ≤ 1 → suffix prefix (arrow_at rest) ≡ arrow_at line → None ≡ arrow_at line
arrow_nowhere line prefix rest h found = ap (suffix prefix) (sym (short_no_arrow rest h)) ∙ found

-- a byte more without an arrow
pub arrow_later : (line : List ℕ) (i : ℕ) → i < length line → (get_or line i 0 ≡ 45 → get_or line (i + 1) 0 ≡ 62 → ⊥) → suffix (take i line) (arrow_at (drop i line)) ≡ arrow_at line → suffix (take (i + 1) line) (arrow_at (drop (i + 1) line)) ≡ arrow_at line
arrow_later line i within other found =
    let rest = drop (i + 1) line in
    let b = get_or line i 0 in
    let first : get_or rest 0 0 ≡ get_or line (i + 1) 0 = let zero_more : i + 1 + 0 ≡ i + 1 = omega arith in get_or-drop (i + 1) line 0 0 ∙ ap (λ k. get_or line k 0) zero_more in
    sym (ap (λ bs. suffix (take i line) (arrow_at bs)) (drop_more line i 0 within) ∙ ap (λ t. suffix (take i line) (cond t (Some ([], drop 1 rest)) (before_both b (arrow_at rest)))) (no_arrow b (get_or rest 0 0) (λ one two. other one (sym first ∙ two)))
    ∙ moved (take i line) b (arrow_at rest) ∙ ap (λ t. suffix t (arrow_at rest)) (sym (take_more line i 0 within))) ∙ found
  where
    no_arrow : (b c : ℕ) → (b ≡ 45 → c ≡ 62 → ⊥) → (eqb b 45 && eqb c 62) ≡ false
    no_arrow b c apart = by (eqb b 45) (eqb c 62) refl refl
      where
        by : (p q : Bool) → eqb b 45 ≡ p → eqb c 62 ≡ q → (p && q) ≡ false
        by true true one two = absurd (apart (eqb-true b 45 one) (eqb-true c 62 two))
        by true false one two = refl
        by false q one two = refl

    moved : (xs : List ℕ) (b : ℕ) (o : Option (List ℕ × List ℕ)) → suffix xs (before_both b o) ≡ suffix (xs ++ b ∷ []) o
    moved xs b None = refl
    moved xs b (Some p) = ap (λ ys. Some (ys, p.1)) (sym (append_assoc xs (b ∷ []) p.0))

-- a text is split at the first mark
pub split_first : (mark i : ℕ) (bytes : List ℕ) → i < length bytes → ((k : ℕ) → k < i → get_or bytes k 0 ≡ mark → ⊥) → get_or bytes i 0 ≡ mark → slice_split (λ b. eqb b mark) bytes ≡ take i bytes ∷ slice_split (λ b. eqb b mark) (drop (i + 1) bytes)
split_first mark i [] h before at = absurd (omega arith)
split_first mark zero (b ∷ bytes) h before at = rw (eq-eqb b mark at) refl
split_first mark (suc i) (b ∷ bytes) h before at =
    let e : suc i + 1 ≡ suc (i + 1) = omega arith in
    rw (ne_eqb b mark (before 0 (omega arith)), e) (ap (onto_first b) (split_first mark i bytes (omega arith) (λ k lt. before (suc k) (omega arith)) at))

pub split_nowhere : (mark n : ℕ) (bytes : List ℕ) → length bytes ≤ n → ((k : ℕ) → k < n → get_or bytes k 0 ≡ mark → ⊥) → slice_split (λ b. eqb b mark) bytes ≡ bytes ∷ []
split_nowhere mark n [] h before = refl
split_nowhere mark zero (b ∷ bytes) h before = absurd (omega arith)
split_nowhere mark (suc n) (b ∷ bytes) h before = rw (ne_eqb b mark (before 0 (omega arith))) (ap (onto_first b) (split_nowhere mark n bytes (omega arith) (λ k lt. before (suc k) (omega arith))))

-- blanks before the first part count for nothing
blank_first : (b : ℕ) (line : List ℕ) → is_blank b ≡ true → parts_of (b ∷ line) ≡ parts_of line
blank_first b line h = parts_of-append [] b line h

pub parts_after_blanks : (line : List ℕ) → parts_of line ≡ parts_of (drop (len_of_prefix Blank line) line)
parts_after_blanks [] = refl
parts_after_blanks (b ∷ line) =
    let P : Bool → Type 0 = λ t. is_blank b ≡ t → parts_of (b ∷ line) ≡ parts_of (drop (cond t (suc (len_of_prefix Blank line)) 0) (b ∷ line)) in
    elim (is_blank b) as P [ true ↦ λ h. blank_first b line h ∙ parts_after_blanks line | false ↦ λ h. refl ] refl

pub prefix_stops : (line : List ℕ) → 0 < length (drop (len_of_prefix Blank line) line) → is_blank (get_or (drop (len_of_prefix Blank line) line) 0 0) ≡ false
prefix_stops [] h = absurd (omega arith)
prefix_stops (b ∷ line) h =
    let P : Bool → Type 0 = λ t. is_blank b ≡ t → 0 < length (drop (cond t (suc (len_of_prefix Blank line)) 0) (b ∷ line)) → is_blank (get_or (drop (cond t (suc (len_of_prefix Blank line)) 0) (b ∷ line)) 0 0) ≡ false in
    elim (is_blank b) as P [ true ↦ λ e k. prefix_stops line k | false ↦ λ e k. e ] refl h

-- the first part, up to a blank
abbrev word_len : List ℕ → ℕ
word_len bytes = prefix_len (λ b. not (is_blank b)) bytes

abbrev pieces_after : List ℕ → List (List ℕ)
pieces_after [] = []
pieces_after (c ∷ rest) = slice_split is_blank rest

one_more : (n : ℕ) → 1 + n ≡ suc n
one_more n = omega arith

split_word : (bytes : List ℕ) → slice_split is_blank bytes ≡ take (word_len bytes) bytes ∷ pieces_after (drop (word_len bytes) bytes)
split_word [] = refl
split_word (b ∷ bytes) =
    elim (is_blank b) as (λ t. cond t ([] ∷ slice_split is_blank bytes) (onto_first b (slice_split is_blank bytes)) ≡ take (cond (not t) (1 + word_len bytes) 0) (b ∷ bytes) ∷ pieces_after (drop (cond (not t) (1 + word_len bytes) 0) (b ∷ bytes)))
    [ true ↦ refl | false ↦ rw (one_more (word_len bytes)) (ap (onto_first b) (split_word bytes)) ]

parts_after_word : (bytes : List ℕ) → filter has_bytes (pieces_after (drop (word_len bytes) bytes)) ≡ parts_of (drop (word_len bytes) bytes)
parts_after_word [] = refl
parts_after_word (b ∷ bytes) =
    let P : Bool → Type 0 = λ t. is_blank b ≡ t → filter has_bytes (pieces_after (drop (cond (not t) (1 + word_len bytes) 0) (b ∷ bytes))) ≡ parts_of (drop (cond (not t) (1 + word_len bytes) 0) (b ∷ bytes)) in
    elim (is_blank b) as P [ true ↦ λ h. sym (blank_first b bytes h) | false ↦ λ h. rw (one_more (word_len bytes)) (parts_after_word bytes) ] refl

pub word_some : (bytes : List ℕ) → 0 < length bytes → is_blank (get_or bytes 0 0) ≡ false → 0 < prefix_len (λ b. not (is_blank b)) bytes
word_some [] h k = absurd (omega arith)
word_some (b ∷ bytes) h k = rw k (omega arith)

keeps_word : (bytes : List ℕ) (n : ℕ) (pieces : List (List ℕ)) → 0 < n → 0 < length bytes → filter has_bytes (take n bytes ∷ pieces) ≡ take n bytes ∷ filter has_bytes pieces
keeps_word [] n pieces h k = absurd (omega arith)
keeps_word (b ∷ bytes) zero pieces h k = absurd (omega arith)
keeps_word (b ∷ bytes) (suc n) pieces h k = refl

-- the first part of a line, and the parts of the rest
pub first_part_is : (line begun part rest : List ℕ) (n m : ℕ) → n ≡ len_of_prefix Blank line → begun ≡ drop n line → 0 < length begun → m ≡ prefix_len (λ b. not (is_blank b)) begun → part ≡ take m begun → rest ≡ drop m begun → (parts_of line ≡ part ∷ parts_of rest) × (0 < m)
first_part_is line begun part rest n m prefix at some word part_is rest_is =
    let same : begun ≡ drop (len_of_prefix Blank line) line = at ∙ ap (λ k. drop k line) prefix in
    let first : is_blank (get_or begun 0 0) ≡ false = subst (λ (bs : List ℕ). 0 < length bs → is_blank (get_or bs 0 0) ≡ false) (sym same) (prefix_stops line) some in
    let long : 0 < prefix_len (λ b. not (is_blank b)) begun = word_some begun some first in
    let parts : parts_of begun ≡ take (word_len begun) begun ∷ parts_of (drop (word_len begun) begun) =
    ap (filter has_bytes) (split_word begun) ∙ keeps_word begun (word_len begun) (pieces_after (drop (word_len begun) begun)) long some ∙ ap (λ t. take (word_len begun) begun ∷ t) (parts_after_word begun) in
    (parts_after_blanks line ∙ ap parts_of (sym same) ∙ parts ∙ ap (λ k. take k begun ∷ parts_of (drop k begun)) (sym word) ∙ ap (λ p. p ∷ parts_of (drop m begun)) (sym part_is) ∙ ap (λ r. part ∷ parts_of r) (sym rest_is), omega arith)

pub no_part_is : (line begun : List ℕ) (n : ℕ) → n ≡ len_of_prefix Blank line → begun ≡ drop n line → length begun ≡ 0 → parts_of line ≡ []
no_part_is line [] n prefix at none = parts_after_blanks line ∙ ap parts_of (ap (λ k. drop k line) (sym prefix) ∙ sym at)
no_part_is line (b ∷ begun) n prefix at none = absurd (omega arith)
