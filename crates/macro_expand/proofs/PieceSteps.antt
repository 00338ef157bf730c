-- The pieces of a text, one after another.
use Rattle.std.proofs.Common.{◌≡◌, refl, sym, ap, ◌∙◌, ℕ, zero, suc, ◌+◌, ◌<◌, ◌≤◌, Bool, true, false, cond, List, [], ◌∷◌, ◌++◌, length, take, drop, map, None, Some, arith}
use Rattle.std.specs.Prelude.{◌==◌, IsAscii}
use Rattle.std.specs.Borrow.{Bor}
use Rattle.std.proofs.lemmas.List.{length-take-le, length-drop}
use Rattle.macro_expand.specs.declared.call.Call.{Call as Call'}
use Rattle.macro_expand.specs.declared.piece.Piece.TheVariants as piece
use Rattle.macro_expand.specs.Calls.{Call, call_after}
use Rattle.macro_expand.specs.Pieces.{byte, call, stray, pieces_from}
use Rattle.macro_expand.specs.Views.{len_before, call_view, IsFirstPiece}
use Rattle.macro_expand.proofs.PrefixSteps.{at_mark}

-- the bytes of a call are passed over
pub pieces_skip : (at n : ℕ) (bytes : List ℕ) → pieces_from at n bytes ≡ pieces_from (at + n) 0 (drop n bytes)
pieces_skip at zero bytes = let e : at ≡ at + 0 = omega arith in ap (λ k. pieces_from k 0 bytes) e
pieces_skip at (suc n) [] = refl
pieces_skip at (suc n) (b ∷ bs) =
    let e : at + 1 + n ≡ at + suc n = omega arith in
    pieces_skip (at + 1) n bs ∙ ap (λ k. pieces_from k 0 (drop n bs)) e

-- bytes before a `#` are pieces by themselves
pub pieces_plain : (at : ℕ) (bytes : List ℕ) → pieces_from at 0 bytes ≡ map byte (take (len_before 35 bytes) bytes) ++ pieces_from (at + len_before 35 bytes) 0 (drop (len_before 35 bytes) bytes)
pieces_plain at [] = refl
pieces_plain at (b ∷ bs) = by (b == 35) refl (pieces_plain (at + 1) bs)
  where
    by : (t : Bool) → (b == 35) ≡ t → pieces_from (at + 1) 0 bs ≡ map byte (take (len_before 35 bs) bs) ++ pieces_from (at + 1 + len_before 35 bs) 0 (drop (len_before 35 bs) bs) → pieces_from at 0 (b ∷ bs)
        ≡ map byte (take (cond t 0 (suc (len_before 35 bs))) (b ∷ bs)) ++ pieces_from (at + cond t 0 (suc (len_before 35 bs))) 0 (drop (cond t 0 (suc (len_before 35 bs))) (b ∷ bs))
    by true h more = let e : at ≡ at + 0 = omega arith in ap (λ k. pieces_from k 0 (b ∷ bs)) e
    by false h more =
        let e : at + 1 + len_before 35 bs ≡ at + suc (len_before 35 bs) = omega arith in
        rw h (ap (λ rest. byte b ∷ rest) (more ∙ ap (λ k. map byte (take (len_before 35 bs) bs) ++ pieces_from k 0 (drop (len_before 35 bs) bs)) e))

-- a call
pub pieces_call : (at : ℕ) (bs : List ℕ) (c : Call) → call_after bs ≡ Some c → pieces_from at 0 (35 ∷ bs) ≡ call c ∷ pieces_from (at + (c.len + 1)) 0 (drop (c.len + 1) (35 ∷ bs))
pieces_call at bs c h =
    let e : at + 1 + c.len ≡ at + (c.len + 1) = omega arith in
    let f : suc c.len ≡ c.len + 1 = omega arith in
    rw h (ap (λ more. call c ∷ more) (pieces_skip (at + 1) c.len bs ∙ (ap (λ k. pieces_from k 0 (drop c.len bs)) e ∙ ap (λ k. pieces_from (at + (c.len + 1)) 0 (drop k (35 ∷ bs))) f)))

-- a `#` with which no call begins
pub pieces_stray : (at : ℕ) (bs : List ℕ) → call_after bs ≡ None → pieces_from at 0 (35 ∷ bs) ≡ stray at ∷ pieces_from (at + 1) 0 bs
pieces_stray at bs h = rw h refl

-- the bytes before a `#` come first
pub first_plain : (at : ℕ) (bytes : List ℕ) (plain : ℕ) (r : Bor (List ℕ)) → plain ≡ len_before 35 bytes → plain ≤ length bytes → 0 < plain → r.now ≡ take plain bytes → IsFirstPiece at bytes (piece.Plain r)
first_plain at bytes plain r is within some e =
    let n : length r.now ≡ plain = ap length e ∙ length-take-le plain bytes within in
    record {
      some = omega arith;
      within = omega arith;
      named = tt;
      pieces_are = rw (n, e, is) (pieces_plain at bytes);
    }

-- a call comes first
pub first_call : (at : ℕ) (bytes after : List ℕ) (c : Call') → after ≡ drop 1 bytes → len_before 35 bytes ≡ 0 → 0 < length bytes → call_after after ≡ Some (call_view c) → c.len ≤ length after → IsAscii c.name.now → IsFirstPiece at bytes (piece.Call c)
first_call at bytes after c follows mark some there inside named =
    let is : call_after (drop 1 bytes) ≡ Some (call_view c) = sym (ap call_after follows) ∙ there in
    let within : c.len ≤ length (drop 1 bytes) = omega (arith, inside, ap length follows) in
    let b : bytes ≡ 35 ∷ drop 1 bytes = at_mark 35 bytes mark some in
    let left : drop (c.len + 1) bytes ≡ drop (c.len + 1) (35 ∷ drop 1 bytes) = ap (drop (c.len + 1)) b in
    record {
      some = omega arith;
      within = omega (arith, length-drop 1 bytes);
      named = named;
      pieces_are = rw left (ap (pieces_from at 0) b ∙ pieces_call at (drop 1 bytes) (call_view c) is);
    }

-- a `#` with which no call begins comes first
pub first_stray : (at : ℕ) (bytes after : List ℕ) → after ≡ drop 1 bytes → len_before 35 bytes ≡ 0 → 0 < length bytes → call_after after ≡ None → IsFirstPiece at bytes (piece.Stray at)
first_stray at bytes after follows mark some there =
    let none : call_after (drop 1 bytes) ≡ None = sym (ap call_after follows) ∙ there in
    let b : bytes ≡ 35 ∷ drop 1 bytes = at_mark 35 bytes mark some in
    record {
      some = omega arith;
      within = omega arith;
      named = tt;
      pieces_are = ap (pieces_from at 0) b ∙ pieces_stray at (drop 1 bytes) none;
    }
