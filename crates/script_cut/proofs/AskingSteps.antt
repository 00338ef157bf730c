-- Calls of a source, one after another.
use Rattle.std.proofs.Common.{◌≡◌, ◌≢◌, ℕ, ◌+◌, List, [], ◌∷◌, ◌++◌, Option, None, Some, refl, sym, ◌∙◌, ap, subst, append_assoc, append-nil}
use Rattle.std.proofs.lemmas.List.Folds.{concat-append}
use Rattle.std.specs.List.{concat}
use Rattle.std.specs.Io.KnownBytes.{Consumes}
use Rattle.wal_outside.specs.Causes.{one_more}
use Rattle.wal_outside.specs.Views.{SourceView}
use Rattle.script_cut.specs.Asking.{calls_after, Gives, AreAsked}
use Rattle.script_cut.specs.Passing.{AllGave, AsksOnce}

pub consumes-none : (was : Option (List ℕ)) → Consumes was was []
consumes-none None = tt
consumes-none (Some xs) = refl

pub consumes-then : (was mid now : Option (List ℕ)) (a b : List ℕ) → Consumes was mid a → Consumes mid now b → Consumes was now (a ++ b)
consumes-then None mid now a b p q = tt
consumes-then (Some xs) None now a b p q = absurd p
consumes-then (Some xs) (Some ys) None a b p q = absurd q
consumes-then (Some xs) (Some ys) (Some zs) a b p q = let e : (a ++ b) ++ zs ≡ a ++ (b ++ zs) = append_assoc a b zs in cc

calls_after-append : (ps qs : List (List ℕ)) (n : ℕ) → calls_after n (ps ++ qs) ≡ calls_after (calls_after n ps) qs
calls_after-append [] qs n = refl
calls_after-append (p ∷ ps) qs n = calls_after-append ps qs (one_more n)

-- no call
pub gives-none : (was : SourceView) → Gives was [] was
gives-none was = record { taken = consumes-none was.left; calls = refl }

-- calls, and then more of them
pub gives-then : (was mid now : SourceView) (ps qs : List (List ℕ)) → Gives was ps mid → Gives mid qs now → Gives was (ps ++ qs) now
gives-then was mid now ps qs p q =
    let P : List ℕ → Type 0 = λ xs. Consumes was.left now.left xs in
    record {
      taken = subst P (sym (concat-append ps qs)) (consumes-then was.left mid.left now.left (concat ps) (concat qs) p.taken q.taken);
      calls = q.calls ∙ ap (λ n. calls_after n qs) p.calls ∙ sym (calls_after-append ps qs was.calls);
    }

-- pieces that all gave bytes, and then one that did
gave_more : (ps : List (List ℕ)) (piece : List ℕ) → AllGave ps → piece ≢ [] → AllGave (ps ++ piece ∷ [])
gave_more [] piece all some = (some, tt)
gave_more (p ∷ ps) piece all some = (all.0, gave_more ps piece all.1 some)

pub gave_once : (ps qs : List (List ℕ)) (held new : List ℕ) → AllGave ps → AsksOnce held qs → held ++ concat qs ≡ new → new ≢ [] → AllGave (ps ++ qs)
gave_once ps [] held new all once is some = rw (append-nil ps) all
gave_once ps (q ∷ []) held new all once is some = gave_more ps q all (λ none. some (sym (rw (once, none) at is)))
gave_once ps (q ∷ r ∷ qs) held new all once is some = absurd once

-- one call more, before which all had the property
asked_more : (P : List ℕ → Type 0) (held : List ℕ) (ps : List (List ℕ)) (piece : List ℕ) → AllGave ps → P (held ++ concat ps) → AreAsked P held (ps ++ piece ∷ [])
asked_more P held [] piece all has = subst P (append-nil held) has
asked_more P held (p ∷ []) piece all has = (all.0, subst P (ap (λ xs. held ++ xs) (append-nil p)) has)
asked_more P held (p ∷ q ∷ ps) piece all has = (all.0, asked_more P (held ++ p) (q ∷ ps) piece all.1 (subst P (sym (append_assoc held p (concat (q ∷ ps)))) has))

pub asked_once : (P : List ℕ → Type 0) (held mid : List ℕ) (ps qs : List (List ℕ)) → AllGave ps → AreAsked P held ps → AsksOnce mid qs → (mid ≡ [] → P (held ++ concat ps)) → AreAsked P held (ps ++ qs)
asked_once P held mid ps [] all asked once has = rw (append-nil ps) asked
asked_once P held mid ps (q ∷ []) all asked once has = asked_more P held ps q all (has once)
asked_once P held mid ps (q ∷ r ∷ qs) all asked once has = absurd once

-- the same of calls that came after others
pub asked_then : (P : List ℕ → Type 0) (held : List ℕ) (ps qs : List (List ℕ)) → AllGave ps → AreAsked P held ps → AreAsked P (held ++ concat ps) qs → AreAsked P held (ps ++ qs)
asked_then P held [] qs all asked more = let Q : List ℕ → Type 0 = λ xs. AreAsked P xs qs in subst Q (append-nil held) more
asked_then P held (p ∷ []) [] all asked more = asked
asked_then P held (p ∷ []) (q ∷ qs) all asked more = let Q : List ℕ → Type 0 = λ xs. AreAsked P xs (q ∷ qs) in (all.0, subst Q (ap (λ xs. held ++ xs) (append-nil p)) more)
asked_then P held (p ∷ r ∷ ps) qs all asked more = let Q : List ℕ → Type 0 = λ xs. AreAsked P xs qs in (all.0, asked_then P (held ++ p) (r ∷ ps) qs all.1 asked.1 (subst Q (sym (append_assoc held p (concat (r ∷ ps)))) more))

-- and of another property that follows
pub asked_so : (P Q : List ℕ → Type 0) (held : List ℕ) (ps : List (List ℕ)) → ((bytes : List ℕ) → P bytes → Q bytes) → AreAsked P held ps → AreAsked Q held ps
asked_so P Q held [] so asked = tt
asked_so P Q held (p ∷ []) so asked = so held asked
asked_so P Q held (p ∷ r ∷ ps) so asked = (asked.0, asked_so P Q (held ++ p) (r ∷ ps) so asked.1)
