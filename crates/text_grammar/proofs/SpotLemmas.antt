-- The tokens of a text from a byte on.
use Rattle.std.proofs.Common.{◌≡◌, refl, sym, ◌∙◌, ap, subst, ℕ, zero, suc, ◌+◌, ◌-◌, ◌<◌, ◌≤◌, Bool, true, false, List, [], ◌∷◌, drop, length, get_or, arith}
use Rattle.std.specs.Prelude.{if◌then◌else◌}
use Rattle.std.proofs.Math.Seq.{drop-cons, drop-nil}
use Rattle.std.proofs.lemmas.List.{length-drop}
use Rattle.text_grammar.specs.declared.class.Class.{Class}
use Rattle.text_grammar.specs.Prefixes.{is_in, prefix_len}
use Rattle.text_grammar.specs.Spots.{Lexeme, Lexing, Spot, spot_of, spots_from}

pub drop_add : (text : List ℕ) (i j : ℕ) → drop j (drop i text) ≡ drop (i + j) text
drop_add text zero j = let e : 0 + j ≡ j = omega arith in ap (λ k. drop k text) (sym e)
drop_add [] (suc i) j = drop-nil j ∙ sym (drop-nil (suc i + j))
drop_add (x ∷ xs) (suc i) j = let e : suc (i + j) ≡ suc i + j = omega arith in drop_add xs i j ∙ ap (λ k. drop k (x ∷ xs)) e

-- the bytes of a token are passed over
pub spots_skip : {M T : Type 0} (lexing : Lexing M T) (m : M) (at n : ℕ) (bs : List ℕ) → n ≤ length bs → spots_from lexing m at n bs ≡ spots_from lexing m (at + n) 0 (drop n bs)
spots_skip lexing m at zero bs h = let e : at + 0 ≡ at = omega arith in rw e refl
spots_skip lexing m at (suc n) [] h = absurd (omega arith)
spots_skip lexing m at (suc n) (b ∷ bs) h =
    let e : suc at + n ≡ at + suc n = omega arith in
    let less : n ≤ length bs = omega arith in
    spots_skip lexing m (suc at) n bs less ∙ ap (λ k. spots_from lexing m k 0 (drop n bs)) e

abbrev token_at : {M T : Type 0} → Lexing M T → M → ℕ → Lexeme T → List ℕ → List (Spot T)
token_at lexing m at l bs = spot_of at l ∷ spots_from lexing (lexing.mode_after m l.token) (suc at) (l.len - 1) bs

at_byte : {M T : Type 0} (lexing : Lexing M T) (m : M) (at b : ℕ) (bs : List ℕ) (q : Bool) → lexing.divides b ≡ q →
    spots_from lexing m at 0 (b ∷ bs) ≡ (if q then spots_from lexing m (suc at) 0 bs else token_at lexing m at (lexing.lexeme m at b bs) bs)
at_byte lexing m at b bs q e = ap (λ p. if p then spots_from lexing m (suc at) 0 bs else token_at lexing m at (lexing.lexeme m at b bs) bs) e

-- the bytes between tokens are passed over, where they are those of a class
pub spots_prefix : {M T : Type 0} (lexing : Lexing M T) (class : Class) → ((b : ℕ) → lexing.divides b ≡ is_in class b) → (m : M) (at : ℕ) (bs : List ℕ) →
    spots_from lexing m at 0 bs ≡ spots_from lexing m (at + prefix_len class bs) 0 (drop (prefix_len class bs) bs)
spots_prefix lexing class divides m at [] = let e : at + 0 ≡ at = omega arith in rw e refl
spots_prefix lexing class divides m at (b ∷ bs) = pick (is_in class b) (divides b) (spots_prefix lexing class divides m (suc at) bs)
  where
    pick : (q : Bool) → lexing.divides b ≡ q → spots_from lexing m (suc at) 0 bs ≡ spots_from lexing m (suc at + prefix_len class bs) 0 (drop (prefix_len class bs) bs) →
        spots_from lexing m at 0 (b ∷ bs) ≡ spots_from lexing m (at + (if q then suc (prefix_len class bs) else 0)) 0 (drop (if q then suc (prefix_len class bs) else 0) (b ∷ bs))
    pick true e more =
        let next : suc at + prefix_len class bs ≡ at + suc (prefix_len class bs) = omega arith in
        at_byte lexing m at b bs true e ∙ (more ∙ ap (λ k. spots_from lexing m k 0 (drop (prefix_len class bs) bs)) next)
    pick false e more = let same : at + 0 ≡ at = omega arith in rw same refl

-- the same from a byte of a text on
pub spots_prefix_at : {M T : Type 0} (lexing : Lexing M T) (class : Class) → ((b : ℕ) → lexing.divides b ≡ is_in class b) → (m : M) (text : List ℕ) (start n : ℕ) → n ≡ prefix_len class (drop start text) →
    spots_from lexing m start 0 (drop start text) ≡ spots_from lexing m (start + n) 0 (drop (start + n) text)
spots_prefix_at lexing class divides m text start n e =
    subst (λ k. spots_from lexing m start 0 (drop start text) ≡ spots_from lexing m (start + k) 0 (drop (start + k) text)) (sym e)
    (spots_prefix lexing class divides m start (drop start text)
    ∙ ap (spots_from lexing m (start + prefix_len class (drop start text)) 0) (drop_add text start (prefix_len class (drop start text))))

-- a token, and those after its bytes
pub spots_token : {M T : Type 0} (lexing : Lexing M T) (m : M) (text : List ℕ) (at : ℕ) (l : Lexeme T) → at < length text → lexing.divides (get_or text at 0) ≡ false →
    l ≡ lexing.lexeme m at (get_or text at 0) (drop (at + 1) text) → 0 < l.len → at + l.len ≤ length text →
    spots_from lexing m at 0 (drop at text) ≡ spot_of at l ∷ spots_from lexing (lexing.mode_after m l.token) (at + l.len) 0 (drop (at + l.len) text)
spots_token {M} {T} lexing m text at l h e is begins within =
    let b = get_or text at 0 in
    let bs = drop (at + 1) text in
    let mode = lexing.mode_after m l.token in
    let next : suc at ≡ at + 1 = omega arith in
    let cons : drop at text ≡ b ∷ bs = drop-cons text at 0 h ∙ ap (λ k. b ∷ drop k text) next in
    let left = length-drop (at + 1) text in
    let place : suc at + (l.len - 1) ≡ at + l.len = omega arith in
    let byte : at + 1 + (l.len - 1) ≡ at + l.len = omega arith in
    ap (spots_from lexing m at 0) cons
    ∙ (at_byte lexing m at b bs false e
    ∙ (ap (λ (x : Lexeme T). token_at lexing m at x bs) (sym is)
    ∙ ap (λ ss. spot_of at l ∷ ss)
    (spots_skip lexing mode (suc at) (l.len - 1) bs (omega arith)
    ∙ (ap (λ k. spots_from lexing mode k 0 (drop (l.len - 1) bs)) place
    ∙ ap (spots_from lexing mode (at + l.len) 0) (drop_add text (at + 1) (l.len - 1) ∙ ap (λ k. drop k text) byte)))))
