-- A text has one answer.
use Rattle.std.proofs.Common.{◌≡◌, ℕ, ℤ, Bool, true, false, List, Some, Ok, Err, refl, sym, ap, ◌∙◌, subst, take}
use Rattle.std.specs.Prelude.{◌≢◌, slice_get, Result}
use Rattle.std.specs.Bool.{MatchBool}
use Rattle.text_grammar.proofs.FaultLemmas.{breaks_nowhere, breaks_once}
use Rattle.place_text.specs.declared.fault.PlaceFault.{PlaceFault}
use Rattle.place_text.specs.declared.fault.PlaceFault.TheVariants.{Syntax, Number, Memory}
use Rattle.place_text.specs.Lexemes.{spots, lexemes}
use Rattle.place_text.specs.Grammar.{Derives}
use Rattle.place_text.specs.Faults.{fault_at, MayBeNumber, IsFault, Parses}
use Rattle.place_text.specs.Laws.{OneAnswer}
use Rattle.place_text.proofs.Complete.{derived_read}

-- a fact holds or does not
one_test : (P : Type 0) (a b : Bool) → MatchBool a P (P → ⊥) → MatchBool b P (P → ⊥) → a ≡ b
one_test P true true h k = refl
one_test P true false h k = absurd (k h)
one_test P false true h k = absurd (h k)
one_test P false false h k = refl

-- a text has one fault
pub one_fault : (text : List ℕ) (f g : PlaceFault) → IsFault text f → IsFault text g → f ≡ g
one_fault text f g a b =
    let same : a.count ≡ b.count = breaks_once Derives (lexemes text) a.count b.count a.breaks b.breaks in
    let P : ℕ → Type 0 = λ n. MatchBool a.at_number (MayBeNumber (take n (lexemes text))) (MayBeNumber (take n (lexemes text)) → ⊥) in
    let test : a.at_number ≡ b.at_number = one_test (MayBeNumber (take b.count (lexemes text))) a.at_number b.at_number (subst P same a.may_be) b.may_be in
    a.fault_is
    ∙ (ap (λ (c : Bool). fault_at text c (slice_get (spots text) a.count)) test
    ∙ (ap (λ (n : ℕ). fault_at text b.at_number (slice_get (spots text) n)) same ∙ sym b.fault_is))

-- and none where it has a place
no_fault : (text : List ℕ) (letters : List (List ℤ)) (f : PlaceFault) → Derives (lexemes text) letters → IsFault text f → ⊥
no_fault text letters f h k = breaks_nowhere Derives (lexemes text) k.count letters k.breaks h

-- a fault that is reported and is not out of memory
fault_of_text : (text : List ℕ) (f : PlaceFault) → Parses text (Err f) → (let r : Result (List (List ℤ)) PlaceFault = Err f in r) ≢ Err Memory → IsFault text f
fault_of_text text (Syntax at) h n = h
fault_of_text text (Number at) h n = h
fault_of_text text Memory h n = absurd (n refl)

pub one_place : (text : List ℕ) (r s : List (List ℤ)) → Derives (lexemes text) r → Derives (lexemes text) s → r ≡ s
one_place text r s h k = let e : Some r ≡ Some s = sym (derived_read (lexemes text) r h) ∙ derived_read (lexemes text) s k in cc

pub one_answer : OneAnswer
one_answer text (Ok r) (Ok s) a b m n = ap Ok (one_place text r s a b)
one_answer text (Ok r) (Err g) a b m n = absurd (no_fault text r g a (fault_of_text text g b n))
one_answer text (Err f) (Ok s) a b m n = absurd (no_fault text s f b (fault_of_text text f a m))
one_answer text (Err f) (Err g) a b m n = ap Err (one_fault text f g (fault_of_text text f a m) (fault_of_text text g b n))
