-- The tokens of a text, step by step.
use Rattle.std.proofs.Common.{◌≡◌, refl, sym, ◌∙◌, ap, subst, ℕ, zero, suc, ◌+◌, ◌<◌, ◌≤◌, Bool, true, false, List, [], ◌∷◌, drop, take, length, get_or, arith, ⊎_elim}
use Rattle.std.proofs.lemmas.List.{length-drop, length-take}
use Rattle.std.proofs.lemmas.Bool.{and_parts}
use Rattle.std.proofs.Math.Seq.{drop-cons}
use Rattle.std.specs.Prelude.{if◌then◌else◌, slice_index, nat_le, ◌==◌, ◌&&◌}
use Rattle.formula_parse.specs.Tokens.{Token, name, called, iff, end}
use Rattle.text_grammar.specs.declared.class.Class.TheVariants.{Alphanumeric, Digit, NameByte}
use Rattle.text_grammar.specs.Bytes.{is_blank, is_digit, is_letter, is_name_byte}
use Rattle.text_grammar.specs.Prefixes.{begins_in, prefix_len}
use Rattle.text_grammar.specs.Spots.{Lexeme, lexeme_of, Spot, spot_of, spots_from}
use Rattle.text_grammar.specs.Systems.{is_direction}
use Rattle.text_grammar.proofs.PrefixLemmas.{prefix_len_le, prefix_begins}
use Rattle.text_grammar.proofs.SpotLemmas.{spots_token}
use Rattle.text_grammar.proofs.SystemLemmas.{direction_is}
use Rattle.formula_parse.specs.Spots.{Mode, plain, after_mark, after_call, mode_after, no_lexeme, name_lexeme, letter_lexeme, sign_token, sign_lexeme, plain_lexeme, system_len, system_lexeme, lexeme, lexing}
use Rattle.formula_parse.specs.LexemeViews.{unless_end}

-- no token but that at the end is the end
abbrev pub NotEnd : Token → Type 0
NotEnd end = ⊥
NotEnd _ = Unit {0}

-- a token of a text of so many bytes
pub record IsFine (n : ℕ) (l : Lexeme Token) : Type 0 where
  pub begins : 0 < l.len
  pub within : l.len ≤ n
  pub not_end : NotEnd l.token

fine_if : (p : Bool) (n : ℕ) (x y : Lexeme Token) → (p ≡ true → IsFine n x) → (p ≡ false → IsFine n y) → IsFine n (if p then x else y)
fine_if true n x y h k = h refl
fine_if false n x y h k = k refl

token_if : (p : Bool) (x y : Token) → NotEnd x → NotEnd y → NotEnd (if p then x else y)
token_if true x y h k = h
token_if false x y h k = k

pub present : (bs : List ℕ) (k n : ℕ) → (0 == n) ≡ false → (slice_index bs k == n) ≡ true → k < length bs
present [] k n z e = absurd cc
present (b ∷ bs) zero n z e = omega arith
present (b ∷ bs) (suc k) n z e =
    let less = present bs k n z e in
    omega (arith, less)

letter_name : (b : ℕ) → is_letter b ≡ true → is_name_byte b ≡ true
letter_name b h = rw h refl

short_fine : (n : ℕ) (t : Token) → NotEnd t → IsFine (suc n) (lexeme_of t 1)
short_fine n t h = record { begins = omega arith; within = omega arith; not_end = h }

none_fine : (n : ℕ) → IsFine (suc n) no_lexeme
none_fine n = record { begins = omega arith; within = omega arith; not_end = tt }

name_fine : (make : List ℕ → Token) (h : (n : List ℕ) → NotEnd (make n)) (b : ℕ) (bs : List ℕ) → is_letter b ≡ true → IsFine (suc (length bs)) (name_lexeme make (b ∷ bs))
name_fine make h b bs e =
    fine_if (nat_le (prefix_len NameByte (b ∷ bs)) 64) _ _ _
    (λ k. record { begins = prefix_begins NameByte b bs (letter_name b e); within = prefix_len_le NameByte (b ∷ bs); not_end = h _ })
    (λ k. none_fine _)

letter_fine : (b : ℕ) (bs : List ℕ) → is_letter b ≡ true → IsFine (suc (length bs)) (letter_lexeme (b ∷ bs))
letter_fine b bs h =
    fine_if (b == 69) _ _ _ (λ e. short_fine _ _ tt)
    (λ e. fine_if (b == 65) _ _ _ (λ e. short_fine _ _ tt) (λ e. fine_if (b == 73) _ _ _ (λ e. short_fine _ _ tt) (λ e. name_fine name (λ n. tt) b bs h)))

sign_not_end : (at b : ℕ) → NotEnd (sign_token at b)
sign_not_end at b =
    token_if (b == 126) _ _ tt
    (token_if (b == 63) _ _ tt
    (token_if (b == 36) _ _ tt
    (token_if (b == 64) _ _ tt
    (token_if (b == 38) _ _ tt
    (token_if (b == 124) _ _ tt
    (token_if (b == 94) _ _ tt
    (token_if (b == 43) _ _ tt
    (token_if (b == 45) _ _ tt
    (token_if (b == 42) _ _ tt
    (token_if (b == 47) _ _ tt
    (token_if (b == 40) _ _ tt
    (token_if (b == 41) _ _ tt
    (token_if (b == 91) _ _ tt (token_if (b == 93) _ _ tt (token_if (b == 44) _ _ tt tt)))))))))))))))

long_fine : (bs : List ℕ) (n : ℕ) (t : Token) → (0 == n) ≡ false → NotEnd t → (slice_index bs 0 == n) ≡ true → IsFine (suc (length bs)) (lexeme_of t 2)
long_fine bs n t z h e =
    let less = present bs 0 n z e in
    record { begins = omega arith; within = omega (arith, less); not_end = h }

iff_fine : (bs : List ℕ) → (slice_index bs 1 == 62) ≡ true → IsFine (suc (length bs)) (record { token = iff; len = 3 })
iff_fine bs e =
    let less = present bs 1 62 refl e in
    record { begins = omega arith; within = omega (arith, less); not_end = tt }

sign_fine : (at b : ℕ) (bs : List ℕ) → IsFine (suc (length bs)) (sign_lexeme at b (slice_index bs 0) (slice_index bs 1))
sign_fine at b bs =
    fine_if (b == 60) _ _ _
    (λ e. fine_if (slice_index bs 0 == 61) _ _ _
    (λ e. fine_if (slice_index bs 1 == 62) _ _ _ (λ f. iff_fine bs f) (λ f. long_fine bs 61 _ refl tt e))
    (λ e. short_fine _ _ tt))
    (λ e. fine_if (b == 62) _ _ _
    (λ e. fine_if (slice_index bs 0 == 61) _ _ _ (λ e. long_fine bs 61 _ refl tt e) (λ e. short_fine _ _ tt))
    (λ e. fine_if (b == 61) _ _ _
    (λ e. fine_if (slice_index bs 0 == 62) _ _ _ (λ e. long_fine bs 62 _ refl tt e) (λ e. short_fine _ _ tt))
    (λ e. fine_if (b == 33) _ _ _
    (λ e. fine_if (slice_index bs 0 == 61) _ _ _ (λ e. long_fine bs 61 _ refl tt e) (λ e. none_fine _))
    (λ e. short_fine _ _ (sign_not_end at b)))))

plain_fine : (at b : ℕ) (bs : List ℕ) → IsFine (suc (length bs)) (plain_lexeme at (b ∷ bs))
plain_fine at b bs =
    fine_if (is_digit b) _ _ _
    (λ e. record { begins = prefix_begins Digit b bs e; within = prefix_len_le Digit (b ∷ bs); not_end = tt })
    (λ e. fine_if (is_letter b) _ _ _ (λ e. letter_fine b bs e) (λ e. sign_fine at b bs))

le_if : (p : Bool) (n x y : ℕ) → (p ≡ true → x ≤ n) → (p ≡ false → y ≤ n) → (if p then x else y) ≤ n
le_if true n x y h k = h refl
le_if false n x y h k = k refl

-- four bytes of a direction
direction_long : (text : List ℕ) → is_direction (take 4 text) ≡ true → 4 ≤ length text
direction_long text h =
    let taken = length-take 4 text in
    ⊎_elim (λ e. let four : length (take 4 text) ≡ 4 = ap length e in omega (arith, taken, four)) (λ e. let four : length (take 4 text) ≡ 4 = ap length e in omega (arith, taken, four))
    (direction_is (take 4 text) h)

system_len_le : (text : List ℕ) → system_len text ≤ length text
system_len_le text =
    le_if (is_direction (take 4 text) && begins_in Alphanumeric (drop 4 text)) (length text) (prefix_len Alphanumeric (drop 4 text) + 4) 0
    (λ e. let less = direction_long text (and_parts (is_direction (take 4 text)) _ e).0 in omega (arith, less, prefix_len_le Alphanumeric (drop 4 text), length-drop 4 text))
    (λ e. omega arith)

pub system_short : (text : List ℕ) → length text < 4 → system_len text ≡ 0
system_short text h = pick (is_direction (take 4 text) && begins_in Alphanumeric (drop 4 text)) (λ e. direction_long text (and_parts (is_direction (take 4 text)) _ e).0)
  where
    pick : (q : Bool) → (q ≡ true → 4 ≤ length text) → (if q then prefix_len Alphanumeric (drop 4 text) + 4 else 0) ≡ 0
    pick true k =
        let more = k refl in
        absurd (omega (arith, more, h))
    pick false k = refl

positive : (n : ℕ) → (n == 0) ≡ false → 0 < n
positive zero e = absurd cc
positive (suc n) e = omega arith

system_fine : (b : ℕ) (bs : List ℕ) → (system_len (b ∷ bs) == 0) ≡ false → IsFine (suc (length bs)) (system_lexeme (b ∷ bs))
system_fine b bs h =
    fine_if (nat_le (system_len (b ∷ bs)) 62) _ _ _
    (λ e. record { begins = positive (system_len (b ∷ bs)) h; within = system_len_le (b ∷ bs); not_end = tt })
    (λ e. none_fine _)

pub lexeme_fine : (m : Mode) (at b : ℕ) (bs : List ℕ) → IsFine (suc (length bs)) (lexeme m at (b ∷ bs))
lexeme_fine plain at b bs = plain_fine at b bs
lexeme_fine after_mark at b bs = fine_if (system_len (b ∷ bs) == 0) _ _ _ (λ e. plain_fine at b bs) (λ e. system_fine b bs e)
lexeme_fine after_call at b bs = fine_if (is_letter b) _ _ _ (λ e. name_fine called (λ n. tt) b bs e) (λ e. plain_fine at b bs)

-- the rest of a text has a first byte
pub rest_fine : (m : Mode) (text : List ℕ) (at : ℕ) → at < length text → IsFine (suc (length (drop (suc at) text))) (lexeme m at (drop at text))
rest_fine m text at h =
    subst
    (λ (r : List ℕ). IsFine (suc (length (drop (suc at) text))) (lexeme m at r))
    (sym (drop-cons text at 0 h))
    (lexeme_fine m at (get_or text at 0) (drop (suc at) text))

-- a token, and what follows it
pub spots_next : (m : Mode) (text : List ℕ) (at : ℕ) → at < length text → is_blank (get_or text at 0) ≡ false → spots_from lexing m at 0 (drop at text) ≡ spot_of at (lexeme m at (drop at text)) ∷ spots_from lexing (mode_after (lexeme m at (drop at text)).token) (at + (lexeme m at (drop at text)).len) 0 (drop (at + (lexeme m at (drop at text)).len) text)
spots_next m text at h e =
    let l = lexeme m at (drop at text) in
    let fine = rest_fine m text at h in
    let begins = fine.begins in
    let within = fine.within in
    let left = length-drop (suc at) text in
    let next : suc at ≡ at + 1 = omega arith in
    spots_token lexing m text at l h e (ap (lexeme m at) (drop-cons text at 0 h ∙ ap (λ k. get_or text at 0 ∷ drop k text) next)) begins (omega (arith, within, left, h))

pub unless_end_token : (t : Token) (ss : List (Spot Token)) → NotEnd t → unless_end t ss ≡ ss
unless_end_token end ss h = absurd h
unless_end_token t ss h = refl
