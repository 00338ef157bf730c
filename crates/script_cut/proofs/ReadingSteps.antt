-- Reading only where what is held has no whole command.
use Rattle.std.proofs.Common.{◌≡◌, ◌≢◌, ◌⊎◌, ℕ, ◌≤◌, Bool, false, List, [], ◌∷◌, ◌++◌, take, drop, refl, ◌∙◌, inl, inr, append_assoc, append-nil}
use Rattle.std.proofs.lemmas.List.{take-append-drop, take-take}
use Rattle.script_cut.specs.Lengths.{gap_count, gap_open, text_count, text_open}
use Rattle.script_cut.specs.Kept.{Kept, advance}
use Rattle.script_cut.specs.Reading.{IsStillInGaps, IsStillInText, IsStill}
use Rattle.script_cut.proofs.Gaps.{commented-append, all_gaps-append, all_gaps-prefix, commented-prefix}
use Rattle.script_cut.proofs.Commands.{quoted-append, unbroken-append, unbroken-prefix, quoted-prefix}

none_or_some : (xs : List ℕ) → (xs ≡ []) ⊎ (xs ≢ [])
none_or_some [] = inl refl
none_or_some (x ∷ xs) = inr (λ is. cc)

-- a part more of what is held is passed
split_more : (held before rest : List ℕ) (n : ℕ) → held ≡ before ++ rest → held ≡ (before ++ take n rest) ++ drop n rest
split_more held before rest n split = let whole : take n rest ++ drop n rest ≡ rest = take-append-drop n rest in let joined : (before ++ take n rest) ++ drop n rest ≡ before ++ (take n rest ++ drop n rest) = append_assoc before (take n rest) (drop n rest) in cc

pub gaps_still-read : (same more then : Type 0) (old mid new : Kept) (inside : Bool) → (same → more → then) → IsStillInGaps same old mid inside → IsStill more mid new → IsStillInGaps then old new inside
gaps_still-read same more then old mid new inside join (inr all) still = inr all
gaps_still-read same more then old mid new inside join (inl here) still = elim (none_or_some mid.held) [
  | inl none ↦ inr (let all : old.held ≡ here.1.before = here.1.split ∙ rw (none, append-nil) refl in rw all here.1.gaps)
  | inr some ↦ inl (join here.0 (still some).0, record { before = here.1.before; split = rw (still some).1 here.1.split; gaps = here.1.gaps; open_is = here.1.open_is })
]

pub gaps_still-more : (same : Type 0) (old new : Kept) (inside : Bool) (count n : ℕ) → IsStillInGaps same old new inside → n ≡ gap_count inside (take count new.held) → n ≤ count → IsStillInGaps same old (advance n new) (gap_open inside (take count new.held))
gaps_still-more same old new inside count n (inr all) n_is within = inr all
gaps_still-more same old new inside count n (inl here) n_is within =
    let prefix : take n (take count new.held) ≡ take n new.held = take-take n count new.held within in
    inl (
      here.0,
      record {
        before = here.1.before ++ take n new.held;
        split = split_more old.held here.1.before new.held n here.1.split;
        gaps = all_gaps-append false here.1.before (take n new.held) here.1.gaps (rw (here.1.open_is, ← prefix, n_is) (all_gaps-prefix inside (take count new.held)));
        open_is = rw (commented-append false here.1.before (take n new.held), here.1.open_is, ← prefix, n_is) (commented-prefix inside (take count new.held));
      },
    )

pub text_still-read : (same more then : Type 0) (old mid new : Kept) (inside : Bool) → (same → more → then) → IsStillInText same old mid inside → IsStill more mid new → IsStillInText then old new inside
text_still-read same more then old mid new inside join (inr all) still = inr all
text_still-read same more then old mid new inside join (inl here) still = elim (none_or_some mid.held) [
  | inl none ↦ inr (let all : old.held ≡ here.1.text = here.1.split ∙ rw (none, append-nil) refl in rw all here.1.whole)
  | inr some ↦ inl (join here.0 (still some).0, record { text = here.1.text; split = rw (still some).1 here.1.split; whole = here.1.whole; open_is = here.1.open_is })
]

pub text_still-more : (same : Type 0) (old new : Kept) (inside : Bool) (count n : ℕ) (text : List ℕ) → IsStillInText same old new inside → n ≡ text_count inside (take count new.held) → n ≤ count → IsStillInText same old (record (advance n new) { text = text }) (text_open inside (take count new.held))
text_still-more same old new inside count n text (inr all) n_is within = inr all
text_still-more same old new inside count n text (inl here) n_is within =
    let prefix : take n (take count new.held) ≡ take n new.held = take-take n count new.held within in
    inl (
      here.0,
      record {
        text = here.1.text ++ take n new.held;
        split = split_more old.held here.1.text new.held n here.1.split;
        whole = unbroken-append false here.1.text (take n new.held) here.1.whole (rw (here.1.open_is, ← prefix, n_is) (unbroken-prefix inside (take count new.held)));
        open_is = rw (quoted-append false here.1.text (take n new.held), here.1.open_is, ← prefix, n_is) (quoted-prefix inside (take count new.held));
      },
    )
