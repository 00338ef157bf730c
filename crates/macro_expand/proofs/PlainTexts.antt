-- Texts without calls, and calls of macros with such texts.
use Rattle.std.proofs.Common.{◌≡◌, refl, sym, ap, ◌∙◌, ℕ, suc, ◌+◌, ◌-◌, ◌<◌, ◌≤◌, true, List, [], ◌∷◌, ◌++◌, length, drop, map, Some, Ok, arith, length-append, append_assoc}
use Rattle.std.specs.List.{AllByRecursion}
use Rattle.std.proofs.lemmas.Bool.{ne_eqb, lt-ltb}
use Rattle.std.proofs.lemmas.List.{take_at, drop_at, drop-drop}
use Rattle.text_grammar.specs.declared.class.Class.TheVariants.{NameByte}
use Rattle.text_grammar.specs.Bytes.{is_name_byte}
use Rattle.text_grammar.specs.Prefixes.{prefix_len}
use Rattle.macro_expand.specs.Texts.{TextOf}
use Rattle.macro_expand.specs.Calls.{Call, call_after}
use Rattle.macro_expand.specs.Pieces.{byte, call, pieces_from}
use Rattle.macro_expand.specs.Filling as filling
use Rattle.macro_expand.specs.Filling.{segments, segments_from, missing, filled}
use Rattle.macro_expand.specs.Expansion.{each, Expanded, OfCalls, expand_piece, expand_text, expand_call_within, expansion}
use Rattle.macro_expand.specs.Laws.{HasNo, IsName, IsPlainMacro}
use Rattle.macro_expand.proofs.SegmentSteps.{filled_plain, missing_plain}
use Rattle.macro_expand.proofs.PieceSteps.{pieces_skip}
use Rattle.macro_expand.proofs.EachSteps.{each-append, each_plain, limited_short}
use Rattle.macro_expand.proofs.CallSteps.{call_one_deeper}

-- bytes without calls, before others
pieces_bytes : (at : ℕ) (text after : List ℕ) → HasNo 35 text → pieces_from at 0 (text ++ after) ≡ map byte text ++ pieces_from (at + length text) 0 after
pieces_bytes at [] after all = let e : at ≡ at + 0 = omega arith in ap (λ k. pieces_from k 0 after) e
pieces_bytes at (b ∷ bs) after all =
    let e : at + 1 + length bs ≡ at + suc (length bs) = omega arith in
    rw (ne_eqb b 35 all.0) (ap (λ more. byte b ∷ more) (pieces_bytes (at + 1) bs after all.1 ∙ ap (λ k. map byte bs ++ pieces_from k 0 after) e))

pieces_only : (at : ℕ) (text : List ℕ) → HasNo 35 text → pieces_from at 0 text ≡ map byte text
pieces_only at [] all = refl
pieces_only at (b ∷ bs) all = rw (ne_eqb b 35 all.0) (ap (λ more. byte b ∷ more) (pieces_only (at + 1) bs all.1))

segments_bytes : (text : List ℕ) → HasNo 37 text → segments text ≡ map filling.byte text
segments_bytes [] all = refl
segments_bytes (b ∷ bs) all = rw (ne_eqb b 37 all.0) (ap (λ more. filling.byte b ∷ more) (segments_bytes bs all.1))

-- bytes without calls are put after what was expanded
bytes_put : (of_call : OfCalls) (text : List ℕ) (done : Expanded) → length (done.bytes ++ text) ≤ 65536 → each (expand_piece of_call) (map byte text) done ≡ Ok (record { bytes = done.bytes ++ text; calls = done.calls })
bytes_put of_call text done h =
    each_plain of_call text done (omega (arith, length-append done.bytes text)) ∙ rw (limited_short (done.bytes ++ text) h) refl

-- a text without calls stays
text_kept : (of_call : OfCalls) (text : List ℕ) (calls : ℕ) → HasNo 35 text → length text ≤ 65536 → expand_text of_call text calls ≡ Ok (record { bytes = text; calls = calls })
text_kept of_call text calls all h = rw (pieces_only 0 text all) (bytes_put of_call text (record { bytes = []; calls = calls }) h)

pub text_keeps : (macros : TextOf) (text : List ℕ) → HasNo 35 text → length text ≤ 65536 → expansion macros text ≡ Ok text
text_keeps macros text all h = rw (text_kept (expand_call_within macros 16) text 0 all h) refl

-- a name is the prefix before a byte that is of no name
prefix_named : (name after : List ℕ) → AllByRecursion (λ b. is_name_byte b ≡ true) name → prefix_len NameByte (name ++ 40 ∷ after) ≡ length name
prefix_named [] after all = refl
prefix_named (b ∷ bs) after all = rw (all.0, prefix_named bs after all.1) refl

-- the call of a name, without arguments
abbrev call_of_name : List ℕ → Call
call_of_name name = record { name = name; inside = []; len = length name + 0 + 0 + 2 }

call_named : (name after : List ℕ) → IsName name → call_after (name ++ 40 ∷ 41 ∷ after) ≡ Some (call_of_name name)
unfolding call_after
call_named name after is =
    rw (prefix_named name (41 ∷ after) is.bytes, take_at name (40 ∷ 41 ∷ after) (length name) refl, drop_at name (40 ∷ 41 ∷ after) (length name) refl, lt-ltb 0 (suc (length after)) (omega arith), is.form) refl

pieces_named : (at : ℕ) (name after : List ℕ) → IsName name → pieces_from at 0 (35 ∷ name ++ 40 ∷ 41 ∷ after) ≡ call (call_of_name name) ∷ pieces_from (at + 1 + (length name + 0 + 0 + 2)) 0 after
pieces_named at name after is =
    let e : length name + 0 + 0 + 2 ≡ length name + 2 = omega arith in
    let rest : drop (length name + 0 + 0 + 2) (name ++ 40 ∷ 41 ∷ after) ≡ after =
    ap (λ k. drop k (name ++ 40 ∷ 41 ∷ after)) e ∙ (sym (drop-drop 2 (length name) (name ++ 40 ∷ 41 ∷ after)) ∙ ap (drop 2) (drop_at name (40 ∷ 41 ∷ after) (length name) refl)) in
    rw (call_named name after is)
    (ap (λ more. call (call_of_name name) ∷ more) (pieces_skip (at + 1) (length name + 0 + 0 + 2) (name ++ 40 ∷ 41 ∷ after) ∙ ap (pieces_from (at + 1 + (length name + 0 + 0 + 2)) 0) rest))

-- what a call without arguments of such a macro expands to
call_given : (macros : TextOf) (levels : ℕ) (name text : List ℕ) → 0 < levels → IsPlainMacro macros name text → length text ≤ 65536
    → expand_call_within macros levels (call_of_name name) 0 ≡ Ok (record { bytes = text; calls = 1 })
call_given macros levels name text h is short =
    rw (call_one_deeper macros levels h, is.added, segments_bytes text is.no_place, missing_plain 0 text, filled_plain [] text, limited_short text short)
    (text_kept (expand_call_within macros (levels - 1)) text 1 is.no_call short)

pub call_gives : (macros : TextOf) (name text before after : List ℕ) → IsPlainMacro macros name text → HasNo 35 before → HasNo 35 after → length (before ++ (text ++ after)) ≤ 65536
    → expansion macros (before ++ (35 ∷ name ++ 40 ∷ 41 ∷ after)) ≡ Ok (before ++ (text ++ after))
call_gives macros name text before after is first last h =
    let l = length-append before (text ++ after) in
    let m = length-append text after in
    let n = length-append before text in
    let of_call = expand_call_within macros 16 in
    let one : each (expand_piece of_call) (map byte before) (record { bytes = []; calls = 0 }) ≡ Ok (record { bytes = before; calls = 0 }) = bytes_put of_call before (record { bytes = []; calls = 0 }) (omega arith) in
    let two : of_call (call_of_name name) 0 ≡ Ok (record { bytes = text; calls = 1 }) = call_given macros 16 name text (omega arith) is (omega arith) in
    let three : each (expand_piece of_call) (map byte after) (record { bytes = before ++ text; calls = 1 }) ≡ Ok (record { bytes = (before ++ text) ++ after; calls = 1 }) =
    bytes_put of_call after (record { bytes = before ++ text; calls = 1 }) (omega (arith, length-append (before ++ text) after)) in
    rw (pieces_bytes 0 before (35 ∷ name ++ 40 ∷ 41 ∷ after) first, pieces_named (0 + length before) name after is.named, pieces_only (0 + length before + 1 + (length name + 0 + 0 + 2)) after last)
    (rw (each-append (expand_piece of_call) (map byte before) (call (call_of_name name) ∷ map byte after) (record { bytes = []; calls = 0 }), one, two, limited_short (before ++ text) (omega arith), three)
    (ap (λ bytes. Ok bytes) (append_assoc before text after)))
