-- Items one after another, and texts that grow up to a limit.
use Rattle.std.proofs.Common.{◌≡◌, refl, sym, ap, ◌∙◌, ℕ, ◌<◌, ◌≤◌, Bool, true, false, cond, List, [], ◌∷◌, ◌++◌, length, map, Result, Ok, Err, append_assoc, append-nil, arith, length-append}
use Rattle.std.proofs.lemmas.Bool.{le-leb, lt-leb, leb-true, leb-false}
use Rattle.std.specs.Prelude.{nat_le}
use Rattle.macro_expand.specs.declared.fault.MacroFault.{MacroFault}
use Rattle.macro_expand.specs.declared.fault.MacroFault.TheVariants as faults
use Rattle.macro_expand.specs.Pieces.{byte}
use Rattle.macro_expand.specs.Views.{Answers}
use Rattle.macro_expand.proofs.AnswerSteps.{Fails-handed_on}
use Rattle.text_grammar.specs.Results.{◌>>=◌}
use Rattle.macro_expand.specs.Expansion.{each, limited, put, Expanded, OfCalls, expand_piece}

bind_assoc : {A B C : Type 0} (r : Result A MacroFault) (f : A → Result B MacroFault) (g : B → Result C MacroFault) (h : A → Result C MacroFault) → ((x : A) → h x ≡ (f x >>= g)) → (r >>= h) ≡ ((r >>= f) >>= g)
bind_assoc (Ok x) f g h e = e x
bind_assoc (Err d) f g h e = refl

-- some items, and others after them
pub each-append : {X D : Type 0} (step : X → D → Result D MacroFault) (xs ys : List X) (done : D) → each step (xs ++ ys) done ≡ (each step xs done >>= each step ys)
each-append step [] ys done = refl
each-append step (x ∷ xs) ys done = bind_assoc (step x done) (each step xs) (each step ys) (each step (xs ++ ys)) (each-append step xs ys)

pub limited_short : (bytes : List ℕ) → length bytes ≤ 65536 → limited bytes ≡ Ok bytes
limited_short bytes h = rw (le-leb (length bytes) 65536 h) refl

pub limited_long : (bytes : List ℕ) → 65536 < length bytes → limited bytes ≡ Err faults.MacroLong
limited_long bytes h = rw (lt-leb (length bytes) 65536 h) refl

-- bytes that are no `#` are put after what was expanded, one by one or all at once
pub each_plain : (of_call : OfCalls) (bytes : List ℕ) (done : Expanded) → length done.bytes ≤ 65536 → each (expand_piece of_call) (map byte bytes) done ≡ put done.bytes bytes done.calls
each_plain of_call [] done h = rw (append-nil done.bytes, limited_short done.bytes h) refl
each_plain of_call (b ∷ bs) done h = by (nat_le (length (done.bytes ++ b ∷ [])) 65536) refl (each_plain of_call bs)
  where
    by : (t : Bool) → nat_le (length (done.bytes ++ b ∷ [])) 65536 ≡ t
        → ((new : Expanded) → length new.bytes ≤ 65536 → each (expand_piece of_call) (map byte bs) new ≡ put new.bytes bs new.calls)
        → each (expand_piece of_call) (map byte (b ∷ bs)) done ≡ put done.bytes (b ∷ bs) done.calls
    by true e more =
        let short = leb-true (length (done.bytes ++ b ∷ [])) 65536 e in
        rw (limited_short (done.bytes ++ b ∷ []) short)
        (more (record { bytes = done.bytes ++ b ∷ []; calls = done.calls }) short
        ∙ ap (λ all. limited all >>= λ text. Ok (record { bytes = text; calls = done.calls })) (append_assoc done.bytes (b ∷ []) bs))
    by false e more =
        let long = leb-false (length (done.bytes ++ b ∷ [])) 65536 e in
        let longer : 65536 < length (done.bytes ++ b ∷ bs) = omega (arith, length-append done.bytes (b ∷ []), length-append done.bytes (b ∷ bs)) in
        rw (limited_long (done.bytes ++ b ∷ []) long, limited_long (done.bytes ++ b ∷ bs) longer) refl

-- a text that is refused is refused with more bytes too
pub limited_more : (bytes more : List ℕ) (e : MacroFault) → limited bytes ≡ Err e → limited (bytes ++ more) ≡ Err e
limited_more bytes more e h = by (nat_le (length bytes) 65536) refl h
  where
    by : (t : Bool) → nat_le (length bytes) 65536 ≡ t → cond t (Ok bytes) (Err faults.MacroLong) ≡ Err e → limited (bytes ++ more) ≡ Err e
    by true is h = absurd (cc)
    by false is h =
        let long = leb-false (length bytes) 65536 is in
        limited_long (bytes ++ more) (omega (arith, length-append bytes more)) ∙ h

-- bytes that are put after what was expanded
pub piece_put : (of_call : OfCalls) (bytes : List ℕ) (old new : Expanded) (result : Result (Unit {0}) MacroFault) → length old.bytes ≤ 65536 → new.calls ≡ old.calls
    → Answers (λ nothing. new.bytes) result (limited (old.bytes ++ bytes)) → Answers (λ nothing. new) result (each (expand_piece of_call) (map byte bytes) old)
piece_put of_call bytes old new (Ok nothing) h same made =
    each_plain of_call bytes old h ∙ (ap (λ r. r >>= λ all. Ok (record { bytes = all; calls = old.calls })) made ∙ ap (λ n. Ok (record { bytes = new.bytes; calls = n })) (sym same))
piece_put of_call bytes old new (Err fault) h same made =
    Fails-handed_on fault (limited (old.bytes ++ bytes)) (each (expand_piece of_call) (map byte bytes) old)
    (λ e refused. each_plain of_call bytes old h ∙ ap (λ r. r >>= λ all. Ok (record { bytes = all; calls = old.calls })) refused) made

-- no limit asks for a macro
pub limited_known : (bytes name : List ℕ) → limited bytes ≡ Err (faults.Unknown name) → ⊥
limited_known bytes name h = by (nat_le (length bytes) 65536) h
  where
    by : (t : Bool) → cond t (Ok bytes) (Err faults.MacroLong) ≡ Err (faults.Unknown name) → ⊥
    by true h = absurd (cc)
    by false h = absurd (cc)
