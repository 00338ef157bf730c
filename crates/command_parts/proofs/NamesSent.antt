-- Names that are handed over, a blank before each.
use Rattle.std.proofs.Common.{◌≡◌, ℕ, ◌+◌, ◌<◌, List, [], ◌∷◌, ◌++◌, length, take, drop, get_or, Result, Err, sym, ◌∙◌, ap, subst, codes, append-nil}
use Rattle.std.proofs.lemmas.List.{take_more, take-append-drop}
use Rattle.std.proofs.lemmas.List.Concat.{flat_map-append}
use Rattle.wal_outside.specs.declared.sink.WriteFault.{WriteFault}
use Rattle.wal_outside.specs.Sending.{Sends, HasSent}
use Rattle.wal_outside.specs.Views.{SinkView}
use Rattle.wal_outside.proofs.SendingSteps.{sends_then, sends_cut}
use Rattle.command_parts.specs.Lines.{names_text}

-- the name at a place comes after those before it
next_text : (names : List (List ℕ)) (i : ℕ) (name : List ℕ) → i < length names → name ≡ get_or names i name → names_text (take i names) ++ (codes " " ++ name) ≡ names_text (take (i + 1) names)
next_text names i name inside is =
    sym (ap names_text (take_more names i name inside)
    ∙ flat_map-append (λ (n : List ℕ). codes " " ++ n) (take i names) (get_or names i name ∷ [])
    ∙ ap (λ (l : List ℕ). names_text (take i names) ++ l) (append-nil (codes " " ++ get_or names i name))
    ∙ ap (λ (l : List ℕ). names_text (take i names) ++ (codes " " ++ l)) (sym is))

pub name_sent : (old mid new : SinkView) (names : List (List ℕ)) (i : ℕ) (name : List ℕ) (result : Result (Unit {0}) WriteFault) → i < length names → name ≡ get_or names i name → HasSent old (names_text (take i names)) mid → Sends mid (codes " " ++ name) result new
    → Sends old (names_text (take (i + 1) names)) result new
name_sent old mid new names i name result inside is sent sends =
    subst (λ (l : List ℕ). Sends old l result new) (next_text names i name inside is) (sends_then old mid new (names_text (take i names)) (codes " " ++ name) result sent sends)

-- a name that was not handed over ends it
pub name_cut : (old mid new : SinkView) (names : List (List ℕ)) (i : ℕ) (name : List ℕ) (fault : WriteFault) → i < length names → name ≡ get_or names i name → HasSent old (names_text (take i names)) mid → Sends mid (codes " " ++ name) (Err fault) new
    → Sends old (names_text names) (Err fault) new
name_cut old mid new names i name fault inside is sent sends =
    let all : names_text (take (i + 1) names) ++ names_text (drop (i + 1) names) ≡ names_text names =
    sym (flat_map-append (λ (n : List ℕ). codes " " ++ n) (take (i + 1) names) (drop (i + 1) names)) ∙ ap names_text (take-append-drop (i + 1) names) in
    subst (λ (l : List ℕ). Sends old l (Err fault) new) all (sends_cut old new (names_text (take (i + 1) names)) (names_text (drop (i + 1) names)) fault (name_sent old mid new names i name (Err fault) inside is sent sends))
