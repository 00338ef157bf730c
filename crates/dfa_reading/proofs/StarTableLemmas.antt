-- Tables of targets: what they have after a transition more, and what loops over digits read.
use Rattle.std.proofs.Common.{◌≡◌, ℕ, zero, suc, ◌+◌, ◌<◌, Bool, true, false, cond, ◌&&◌, List, [], ◌∷◌, ◌++◌, length, drop, get_or, Option, None, Some, refl, sym, ap, ◌∙◌, true≢false, arith, append_assoc, Vec, Global, nat_eq}
use Rattle.std.specs.Bool.{Decides}
use Rattle.std.specs.Map.{lookup}
use Rattle.std.specs.Option.{option_eq}
use Rattle.std.specs.Cmp.Lexicographic.{pointwise}
use Rattle.std.proofs.lemmas.Bool.Decides.{Decides-eqb}
use Rattle.std.proofs.lemmas.List.{drop_more}
use Rattle.std.proofs.lemmas.Slice.Eq.{slice_eq-Decides}
use Rattle.indexmap.specs.IndexMap.{insert_entry}
use Rattle.dfa_reading.specs.declared.star_table.Targets.{Targets}
use Rattle.dfa_reading.specs.StarTables.{alike, kept_digit, masked, same_digits, same_stars, entry_in, entries_in, targets_at}

one_more : (n : ℕ) → suc n + 1 ≡ suc (n + 1)
one_more n = omega arith

-- one digit more
masked-next : (digits pattern : List (Option ℕ)) (i : ℕ) (d : Option ℕ) → i < length digits → masked (drop i digits) (drop i pattern) ≡ kept_digit (get_or digits i d) (get_or pattern i None) ∷ masked (drop (i + 1) digits) (drop (i + 1) pattern)
masked-next digits pattern i d within = ap (λ ds. masked ds (drop i pattern)) (drop_more digits i d within) ∙ by pattern i
  where
    by : (ps : List (Option ℕ)) (n : ℕ) → masked (get_or digits i d ∷ drop (i + 1) digits) (drop n ps) ≡ kept_digit (get_or digits i d) (get_or ps n None) ∷ masked (drop (i + 1) digits) (drop (n + 1) ps)
    by [] zero = refl
    by [] (suc n) = rw (one_more n) refl
    by (y ∷ ps) zero = refl
    by (y ∷ ps) (suc n) = by ps n ∙ rw (one_more n) refl

pub masked_more : (digits pattern done next : List (Option ℕ)) (i : ℕ) (d kept : Option ℕ) (total : List (Option ℕ)) → i < length digits → kept ≡ kept_digit (get_or digits i d) (get_or pattern i None) → next ≡ done ++ kept ∷ []
    → done ++ masked (drop i digits) (drop i pattern) ≡ total → next ++ masked (drop (i + 1) digits) (drop (i + 1) pattern) ≡ total
masked_more digits pattern done next i d kept total within is pushed h =
    ap (λ (ds : List (Option ℕ)). ds ++ masked (drop (i + 1) digits) (drop (i + 1) pattern)) (pushed ∙ ap (λ (k : Option ℕ). done ++ k ∷ []) is)
    ∙ append_assoc done (kept_digit (get_or digits i d) (get_or pattern i None) ∷ []) (masked (drop (i + 1) digits) (drop (i + 1) pattern))
    ∙ ap (λ ds. done ++ ds) (sym (masked-next digits pattern i d within)) ∙ h

-- and where `*` is on it
pub same_stars-next : (digits pattern : List (Option ℕ)) (i : ℕ) → i < length digits → i < length pattern → same_stars (drop i digits) (drop i pattern) ≡ (alike (get_or digits i None) (get_or pattern i None) && same_stars (drop (i + 1) digits) (drop (i + 1) pattern))
same_stars-next digits pattern i less within = ap (λ ds. same_stars ds (drop i pattern)) (drop_more digits i None less) ∙ ap (same_stars (get_or digits i None ∷ drop (i + 1) digits)) (drop_more pattern i None within)

-- same digits are equal
option_eq-Decides : (x y : Option ℕ) → Decides (option_eq nat_eq x y) (x ≡ y)
option_eq-Decides None None = (λ h. refl, λ h. refl)
option_eq-Decides None (Some y) = (λ h. absurd (true≢false (sym h)), λ h. let e : None ≡ Some y = h in absurd (cc))
option_eq-Decides (Some x) None = (λ h. absurd (true≢false (sym h)), λ h. let e : Some x ≡ None = h in absurd (cc))
option_eq-Decides (Some x) (Some y) = (λ h. ap Some ((Decides-eqb x y).0 h), λ h. (Decides-eqb x y).1 (let e : Some x ≡ Some y = h in cc))

pub same_digits-Decides : (digits others : List (Option ℕ)) → Decides (same_digits digits others) (digits ≡ others)
same_digits-Decides digits others = slice_eq-Decides option_eq-Decides digits others (same_digits digits others) refl

-- entries of the code
pub targets_at-entries : (entries : List (Vec (Option ℕ) Global × Targets)) (digits : List (Option ℕ)) → lookup (λ (v : Vec (Option ℕ) Global). pointwise (option_eq nat_eq) digits v.items) entries ≡ targets_at (entries_in entries) digits
targets_at-entries [] digits = refl
targets_at-entries (e ∷ entries) digits = ap (cond (same_digits digits e.0.items) (Some e.1)) (targets_at-entries entries digits)

pub entries_in-insert : (entries : List (Vec (Option ℕ) Global × Targets)) (digits : Vec (Option ℕ) Global) (targets : Targets)
    → entries_in (insert_entry (λ (v w : Vec (Option ℕ) Global). pointwise (option_eq nat_eq) v.items w.items) entries digits targets) ≡ insert_entry same_digits (entries_in entries) digits.items targets
entries_in-insert [] digits targets = refl
entries_in-insert (e ∷ entries) digits targets = by (entries_in-insert entries digits targets) (same_digits digits.items e.0.items)
  where
    by : entries_in (insert_entry (λ (v w : Vec (Option ℕ) Global). pointwise (option_eq nat_eq) v.items w.items) entries digits targets) ≡ insert_entry same_digits (entries_in entries) digits.items targets → (b : Bool)
        → entries_in (cond b ((e.0, targets) ∷ entries) (e ∷ insert_entry (λ (v w : Vec (Option ℕ) Global). pointwise (option_eq nat_eq) v.items w.items) entries digits targets))
        ≡ cond b ((e.0.items, targets) ∷ entries_in entries) (entry_in e ∷ insert_entry same_digits (entries_in entries) digits.items targets)
    by rest true = refl
    by rest false = ap (λ es. entry_in e ∷ es) rest

-- what is found after an insertion
pub targets_at-insert : (entries : List (List (Option ℕ) × Targets)) (key : List (Option ℕ)) (targets : Targets) (digits : List (Option ℕ)) → targets_at (insert_entry same_digits entries key targets) digits ≡ cond (same_digits digits key) (Some targets) (targets_at entries digits)
targets_at-insert [] key targets digits = refl
targets_at-insert (e ∷ entries) key targets digits = by (targets_at-insert entries key targets digits) (same_digits key e.0) refl
  where
    other : (b c : Bool) → same_digits digits e.0 ≡ b → same_digits digits key ≡ c → same_digits key e.0 ≡ false → cond b (Some e.1) (cond c (Some targets) (targets_at entries digits)) ≡ cond c (Some targets) (cond b (Some e.1) (targets_at entries digits))
    other true true one two apart =
        let same : key ≡ e.0 = sym ((same_digits-Decides digits key).0 two) ∙ (same_digits-Decides digits e.0).0 one in
        absurd (true≢false (sym ((same_digits-Decides key e.0).1 same) ∙ apart))
    other true false one two apart = refl
    other false true one two apart = refl
    other false false one two apart = refl

    by : targets_at (insert_entry same_digits entries key targets) digits ≡ cond (same_digits digits key) (Some targets) (targets_at entries digits) → (b : Bool) → same_digits key e.0 ≡ b
        → targets_at (cond b ((e.0, targets) ∷ entries) (e ∷ insert_entry same_digits entries key targets)) digits ≡ cond (same_digits digits key) (Some targets) (cond (same_digits digits e.0) (Some e.1) (targets_at entries digits))
    by rest true h =
        let same : same_digits digits e.0 ≡ same_digits digits key = ap (same_digits digits) (sym ((same_digits-Decides key e.0).0 h)) in
        ap (λ b. cond b (Some targets) (targets_at entries digits)) same ∙ twice (same_digits digits key) (same_digits digits e.0) (sym same)
      where
        twice : (b c : Bool) → b ≡ c → cond b (Some targets) (targets_at entries digits) ≡ cond b (Some targets) (cond c (Some e.1) (targets_at entries digits))
        twice true c h = refl
        twice false c h = ap (λ (d : Bool). cond d (Some e.1) (targets_at entries digits)) h
    by rest false h =
        ap (cond (same_digits digits e.0) (Some e.1)) rest
        ∙ other (same_digits digits e.0) (same_digits digits key) refl refl h
