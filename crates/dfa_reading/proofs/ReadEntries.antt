-- Lines below a header, as loops read them.
use Rattle.std.proofs.Common.{◌≡◌, ℕ, ◌+◌, ◌<◌, ◌≤◌, List, [], ◌∷◌, ◌++◌, length, get_or, drop, Option, None, Some, refl, sym, ap, ◌∙◌, append_assoc, append-nil, true, false, true≢false, arith}
use Rattle.std.proofs.lemmas.List.{drop_all, drop_more}
use Rattle.std.specs.Prelude.{MatchOption, is_some}
use Rattle.dfa_reading.specs.Lines.{◌>>=◌, each_of}
use Rattle.dfa_reading.specs.Headers.{Digits, Below}
use Rattle.dfa_reading.specs.Entries.{digit_of, digits_of, state_number, targets_of}
use Rattle.dfa_reading.proofs.ReadHeaders.{with_prefix}

-- a track without a digit
pub digits_missing : (tracks : List Digits) (i : ℕ) (parts : List (List ℕ)) (done : List (Option ℕ)) (total : Option (List (Option ℕ))) → i < length tracks → parts ≡ [] → with_prefix done (digits_of (drop i tracks) parts) ≡ total → None ≡ total
digits_missing tracks i parts done total lt none h =
    sym (ap (λ p. with_prefix done (digits_of (drop i tracks) p)) none ∙ ap (λ ts. with_prefix done (digits_of ts [])) (drop_more tracks i (Below 0) lt)) ∙ h

-- the next track and the next part
digits_next : (tracks : List Digits) (i : ℕ) (all parts : List (List ℕ)) (part : List ℕ) (done : List (Option ℕ)) (total : Option (List (Option ℕ))) → i < length tracks → all ≡ part ∷ parts
    → with_prefix done (digits_of (drop i tracks) all) ≡ total → with_prefix done (digits_of (get_or tracks i (Below 0) ∷ drop (i + 1) tracks) (part ∷ parts)) ≡ total
digits_next tracks i all parts part done total lt read h =
    ap (λ ts. with_prefix done (digits_of ts (part ∷ parts))) (sym (drop_more tracks i (Below 0) lt)) ∙ ap (λ p. with_prefix done (digits_of (drop i tracks) p)) (sym read) ∙ h

digits_after : (track : Digits) (tracks : List Digits) (part : List ℕ) (parts : List (List ℕ)) (digit : Option ℕ) (done : List (Option ℕ)) → digit_of track part ≡ Some digit
    → with_prefix done (digits_of (track ∷ tracks) (part ∷ parts)) ≡ with_prefix (done ++ digit ∷ []) (digits_of tracks parts)
digits_after track tracks part parts digit done is = rw is (by (digits_of tracks parts))
  where
    by : (read : Option (List (Option ℕ))) → with_prefix done (read >>= (λ digits. Some (digit ∷ digits))) ≡ with_prefix (done ++ digit ∷ []) read
    by None = refl
    by (Some digits) = ap Some (sym (append_assoc done (digit ∷ []) digits))

-- a track and its digit
pub digits_more : (tracks : List Digits) (i : ℕ) (all parts : List (List ℕ)) (part : List ℕ) (digit : Option ℕ) (done : List (Option ℕ)) (total : Option (List (Option ℕ))) → i < length tracks → all ≡ part ∷ parts
    → digit_of (get_or tracks i (Below 0)) part ≡ Some digit → with_prefix done (digits_of (drop i tracks) all) ≡ total → with_prefix (done ++ digit ∷ []) (digits_of (drop (i + 1) tracks) parts) ≡ total
digits_more tracks i all parts part digit done total lt read is h =
    sym (digits_after (get_or tracks i (Below 0)) (drop (i + 1) tracks) part parts digit done is) ∙ digits_next tracks i all parts part done total lt read h

-- a part that is no digit
pub digits_wrong : (tracks : List Digits) (i : ℕ) (all parts : List (List ℕ)) (part : List ℕ) (done : List (Option ℕ)) (total : Option (List (Option ℕ))) → i < length tracks → all ≡ part ∷ parts
    → digit_of (get_or tracks i (Below 0)) part ≡ None → with_prefix done (digits_of (drop i tracks) all) ≡ total → None ≡ total
digits_wrong tracks i all parts part done total lt read is h =
    sym (none (get_or tracks i (Below 0)) (drop (i + 1) tracks) is) ∙ digits_next tracks i all parts part done total lt read h
  where
    none : (track : Digits) (later : List Digits) → digit_of track part ≡ None → with_prefix done (digits_of (track ∷ later) (part ∷ parts)) ≡ None
    none track later missing = rw missing refl

-- more parts than tracks
pub digits_over : (tracks : List Digits) (i : ℕ) (parts : List (List ℕ)) (done : List (Option ℕ)) (total : Option (List (Option ℕ))) → length tracks ≤ i → 0 < length parts → with_prefix done (digits_of (drop i tracks) parts) ≡ total → None ≡ total
digits_over tracks i [] done total past some h = absurd (omega (arith, some))
digits_over tracks i (part ∷ parts) done total past some h = sym (ap (λ ts. with_prefix done (digits_of ts (part ∷ parts))) (drop_all i tracks past)) ∙ h

-- a digit for each track, and no part more
pub digits_all : (tracks : List Digits) (i : ℕ) (parts : List (List ℕ)) (done : List (Option ℕ)) (total : Option (List (Option ℕ))) → length tracks ≤ i → parts ≡ [] → with_prefix done (digits_of (drop i tracks) parts) ≡ total → Some done ≡ total
digits_all tracks i parts done total past none h =
    sym (ap (λ ts. with_prefix done (digits_of ts parts)) (drop_all i tracks past) ∙ ap (λ ps. with_prefix done (digits_of [] ps)) none ∙ ap Some (append-nil done)) ∙ h

-- whether there is a next part
pub parts_there : {X : Type 0} (o : Option X) (Q : X → Type 0) (parts : List (List ℕ)) → MatchOption o (parts ≡ []) Q → ((x : X) → Q x → 0 < length parts) → is_some o ≡ true → 0 < length parts
parts_there None Q parts h some is = absurd (true≢false (sym is))
parts_there (Some x) Q parts h some is = some x h

pub parts_gone : {X : Type 0} (o : Option X) (Q : X → Type 0) (parts : List (List ℕ)) → MatchOption o (parts ≡ []) Q → is_some o ≡ false → parts ≡ []
parts_gone None Q parts h is = h
parts_gone (Some x) Q parts h is = absurd (true≢false is)

-- targets, once they are all read
pub targets_none : (parts : List (List ℕ)) → None ≡ each_of state_number parts → None ≡ targets_of parts
targets_none [] h = refl
targets_none (part ∷ parts) h = h

pub targets_all : (parts : List (List ℕ)) (done : List ℕ) → 0 < length done → Some done ≡ each_of state_number parts → Some done ≡ targets_of parts
targets_all [] done some h = let same : done ≡ [] = let e : Some done ≡ Some [] = h in cc in absurd (omega (arith, ap length same, some))
targets_all (part ∷ parts) done some h = h
