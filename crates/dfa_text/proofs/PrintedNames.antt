-- Printed headers, read again.
use Rattle.std.proofs.Common.{◌≡◌, ℕ, suc, ◌<◌, true, false, ◌||◌, cond, eqb, List, [], ◌∷◌, ◌++◌, length, get_or, ℤ, ◌<ℤ◌, None, Some, refl, sym, ap, ◌∙◌, subst, arith, tests, append_assoc, codes}
use Rattle.std.specs.Fmt.{signed_decimal}
use Rattle.std.specs.Prelude.{option_map}
use Rattle.std.specs.Cmp.{int_cmp_is}
use Rattle.std.specs.Ordering.{int_cmp, is_eq, match_ordering}
use Rattle.std.specs.declared.cmp.Ordering.TheVariants.{Greater}
use Rattle.std.specs.List.{AllByRecursion, slice_split, onto_first, filter, flat_map, join_by}
use Rattle.std.proofs.lemmas.List.{append-nil, length-append}
use mir.Val.{SFits}
use mir.Syntax.{w32}
use Rattle.digit_tuple.specs.Sets.{IsAscending}
use Rattle.digit_tuple.specs.declared.systems.SystemTrack.{SystemTrack}
use Rattle.digit_tuple.proofs.AllLemmas.{all_weaker}
use Rattle.text_grammar.specs.Bytes.{is_blank, is_line_end}
use Rattle.dfa_reading.specs.Lines.{◌>>=◌, each_of, parts_of, has_bytes, is_passed}
use Rattle.text_grammar.specs.Systems.{is_system}
use Rattle.dfa_reading.specs.Systems.{system_of, of_one_direction, systems_of}
use Rattle.dfa_reading.specs.Headers as file
use Rattle.dfa_reading.specs.Headers.{has_member, with_member, with_members, only_integer, member_of, numbers_of, members_of, open_set_of, sets_between, sets_of, truth_by, truth_of, or_else, header_of}
use Rattle.dfa_reading.proofs.SystemNames.{system_avoids, system_some, brace_no_system, system_no_truth}
use Rattle.dfa_reading.proofs.Splits.{split-append, split_some}
use Rattle.dfa_text.specs.Parts.{set_text, header_text}
use Rattle.dfa_text.specs.RelationText.{names_text}
use Rattle.dfa_text.specs.Lists.{names_of, IsSystemTrack}
use Rattle.dfa_text.proofs.PrintedNumbers.{integer_of-signed}
use Rattle.dfa_text.proofs.PrintedParts.{Avoids, Avoids-append, spares_byte, avoids_signed, split-one, split_joined, part_signed, parts_of-one, parts_of-joined, IsPart, not_passed_part}
use Rattle.dfa_text.proofs.PrintedHeaders.{IsPrintable, each_of-map, avoids_joined, regroup}

-- a first part that begins with a byte
first_begins : (b : ℕ) (bytes : List ℕ) → is_blank b ≡ false → (part : List ℕ) × (parts : List (List ℕ)) × (parts_of (b ∷ bytes) ≡ (b ∷ part) ∷ parts)
first_begins b bytes h = by (slice_split is_blank bytes) (split_some is_blank bytes) (ap (λ t. filter has_bytes (cond t ([] ∷ slice_split is_blank bytes) (onto_first b (slice_split is_blank bytes)))) h)
  where
    by : (pieces : List (List ℕ)) → 0 < length pieces → parts_of (b ∷ bytes) ≡ filter has_bytes (onto_first b pieces) → (part : List ℕ) × (parts : List (List ℕ)) × (parts_of (b ∷ bytes) ≡ (b ∷ part) ∷ parts)
    by [] some e = absurd (omega arith)
    by (piece ∷ pieces) some e = (piece, filter has_bytes pieces, e)

-- a line that begins with a brace is no truth value and names no systems
brace_no_truth : (bytes : List ℕ) → truth_of (123 ∷ bytes) ≡ None
unfolding truth_of
brace_no_truth bytes = let (part, parts, is) = first_begins 123 bytes refl in ap truth_by is ∙ by part parts
  where
    by : (part : List ℕ) (parts : List (List ℕ)) → truth_by ((123 ∷ part) ∷ parts) ≡ None
    by part [] = refl
    by part (next ∷ parts) = refl

brace_no_systems : (bytes : List ℕ) → systems_of (123 ∷ bytes) ≡ None
unfolding systems_of
brace_no_systems bytes =
    let (part, parts, is) = first_begins 123 bytes refl in
    ap (λ ps. each_of system_of ps >>= of_one_direction) is
    ∙ ap (λ b. (cond b (Some (123 ∷ part)) None >>= (λ s. each_of system_of parts >>= (λ ss. Some (s ∷ ss)))) >>= of_one_direction) (brace_no_system part)

-- a number above all members is put last
last_member : (set : List ℤ) (m : ℤ) → AllByRecursion (λ n. n <ℤ m) set → (has_member set m ≡ false) × (with_member set m ≡ set ++ m ∷ [])
last_member [] m h = (refl, refl)
last_member (n ∷ set) m h =
    let greater : int_cmp m n ≡ Greater = sym (int_cmp_is m n Greater h.0) in
    let rest = last_member set m h.1 in
    (ap (λ o. is_eq o || has_member set m) greater ∙ rest.0, ap (λ o. match_ordering o (m ∷ n ∷ set) (n ∷ set) (n ∷ with_member set m)) greater ∙ ap (λ s. n ∷ s) rest.1)

at_end : (set rest : List ℤ) (m : ℤ) → get_or (set ++ m ∷ rest) (length set) m ≡ m
at_end [] rest m = refl
at_end (x ∷ set) rest m = at_end set rest m

ascending-below : (set rest : List ℤ) (m : ℤ) → IsAscending (set ++ m ∷ rest) → AllByRecursion (λ n. n <ℤ m) set
ascending-below [] rest m h = tt
ascending-below (n ∷ set) rest m h = (first, ascending-below set rest m (λ i j d lt below. h (suc i) (suc j) d (omega arith) (omega arith)))
  where
    first : n <ℤ m
    first = subst (λ x. n <ℤ x) (at_end set rest m) (h 0 (suc (length set)) m (omega arith) (omega (arith, length-append set (m ∷ rest))))

with_members-ascending : (set more : List ℤ) → IsAscending (set ++ more) → with_members set more ≡ Some (set ++ more)
with_members-ascending set [] h = ap Some (sym (append-nil set))
with_members-ascending set (m ∷ more) h =
    let last = last_member set m (ascending-below set more m h) in
    ap (λ b. cond b None (with_members (with_member set m) more)) last.0
    ∙ ap (λ s. with_members s more) last.1
    ∙ with_members-ascending (set ++ m ∷ []) more (subst IsAscending (sym (append_assoc set (m ∷ []) more)) h)
    ∙ ap Some (append_assoc set (m ∷ []) more)

member_of-signed : (z : ℤ) → SFits w32 z → member_of (signed_decimal z) ≡ Some z
unfolding member_of
member_of-signed z f = ap only_integer (parts_of-one (signed_decimal z) (part_signed z f)) ∙ integer_of-signed z f

members_of-printed : (set : List ℤ) → IsPrintable set → members_of (join_by signed_decimal (codes ",") set) ≡ Some set
unfolding members_of
members_of-printed [] p = absurd (omega (arith, p.some))
members_of-printed (m ∷ set) p =
    ap (λ pieces. each_of member_of pieces >>= with_members []) (split_joined (λ b. eqb b 44) signed_decimal 44 m set refl (all_weaker (SFits w32) (λ z. Avoids (λ b. eqb b 44) (signed_decimal z)) (avoids_signed (λ b. eqb b 44) (spares_byte 44 refl refl)) (m ∷ set) p.fits))
    ∙ ap (λ r. r >>= with_members []) (each_of-map signed_decimal member_of (m ∷ set) (all_weaker (SFits w32) (λ z. member_of (signed_decimal z) ≡ Some z) member_of-signed (m ∷ set) p.fits))
    ∙ with_members-ascending [] (m ∷ set) p.ascending

sets_between-more : (piece : List ℕ) (pieces : List (List ℕ)) (set : List ℤ) (sets : List (List ℤ)) → 0 < length pieces → open_set_of piece ≡ Some set → sets_between pieces ≡ Some sets → sets_between (piece ∷ pieces) ≡ Some (set ∷ sets)
sets_between-more piece [] set sets h opened rest = absurd (omega arith)
sets_between-more piece (next ∷ pieces) set sets h opened rest = rw (opened, rest) refl

set_first : (lead : List ℕ) (set : List ℤ) (text : List ℕ) (sets : List (List ℤ)) → IsPrintable set → Avoids (λ b. eqb b 125) lead → open_set_of (lead ++ 123 ∷ join_by signed_decimal (codes ",") set) ≡ members_of (join_by signed_decimal (codes ",") set) → sets_between (slice_split (λ b. eqb b 125) text) ≡ Some sets → sets_between (slice_split (λ b. eqb b 125) ((lead ++ 123 ∷ join_by signed_decimal (codes ",") set) ++ 125 ∷ text)) ≡ Some (set ∷ sets)
set_first lead set text sets p clear opened rest =
    let piece = lead ++ 123 ∷ join_by signed_decimal (codes ",") set in
    let avoids : Avoids (λ b. eqb b 125) piece = Avoids-append (λ b. eqb b 125) lead (123 ∷ join_by signed_decimal (codes ",") set) clear (refl, avoids_joined (λ b. eqb b 125) (spares_byte 125 refl refl) refl set p.fits) in
    ap sets_between (split-append (λ b. eqb b 125) piece 125 text refl ∙ ap (λ t. t ++ slice_split (λ b. eqb b 125) text) (split-one (λ b. eqb b 125) piece avoids))
    ∙ sets_between-more piece (slice_split (λ b. eqb b 125) text) set sets (split_some (λ b. eqb b 125) text) (opened ∙ members_of-printed set p) rest

sets_after : (sets : List (List ℤ)) → AllByRecursion IsPrintable sets → sets_between (slice_split (λ b. eqb b 125) (flat_map (λ set. codes " " ++ set_text set) sets)) ≡ Some sets
sets_after [] h = refl
sets_after (set ∷ sets) h =
    ap (λ t. sets_between (slice_split (λ b. eqb b 125) t)) (regroup (32 ∷ []) (join_by signed_decimal (codes ",") set) (flat_map (λ s. codes " " ++ set_text s) sets))
    ∙ set_first (32 ∷ []) set (flat_map (λ s. codes " " ++ set_text s) sets) sets h.0 (refl, tt) refl (sets_after sets h.1)

sets_of-printed : (set : List ℤ) (sets : List (List ℤ)) → AllByRecursion IsPrintable (set ∷ sets) → sets_of (header_text (set ∷ sets)) ≡ Some (set ∷ sets)
unfolding sets_of
sets_of-printed set sets h =
    ap (λ t. sets_between (slice_split (λ b. eqb b 125) t)) (regroup [] (join_by signed_decimal (codes ",") set) (flat_map (λ s. codes " " ++ set_text s) sets))
    ∙ set_first [] set (flat_map (λ s. codes " " ++ set_text s) sets) sets h.0 tt refl (sets_after sets h.1)

-- the header of sets is read again
pub sets_read : (set : List ℤ) (sets : List (List ℤ)) → AllByRecursion IsPrintable (set ∷ sets) → header_of (header_text (set ∷ sets)) ≡ Some (file.Sets (set ∷ sets))
unfolding header_of
sets_read set sets h =
    let line = (join_by signed_decimal (codes ",") set ++ codes "}") ++ flat_map (λ s. codes " " ++ set_text s) sets in
    ap (λ o. or_else (option_map file.Truth o) (or_else (option_map file.Systems (systems_of (123 ∷ line))) (option_map file.Sets (sets_of (123 ∷ line))))) (brace_no_truth line)
    ∙ ap (λ o. or_else (option_map file.Systems o) (option_map file.Sets (sets_of (123 ∷ line)))) (brace_no_systems line)
    ∙ ap (option_map file.Sets) (sets_of-printed set sets h)

-- names of systems
name_part : (name : List ℕ) → is_system name ≡ true → IsPart name
name_part name h = record { some = system_some name h; whole = system_avoids is_blank (λ b k. grind (arith, tests)) refl name h }

names_parts : (systems : List SystemTrack) → AllByRecursion IsSystemTrack systems → AllByRecursion (λ system. IsPart system.name) systems
names_parts [] h = tt
names_parts (system ∷ systems) h = (name_part system.name h.0.name, names_parts systems h.1)

each_system : (systems : List SystemTrack) → AllByRecursion IsSystemTrack systems → each_of system_of (names_of systems) ≡ Some (names_of systems)
each_system [] h = refl
each_system (system ∷ systems) h = rw (h.0.name, each_system systems h.1) refl

no_truth : (system : SystemTrack) (systems : List SystemTrack) → IsSystemTrack system → truth_by (names_of (system ∷ systems)) ≡ None
no_truth system [] h = let neither = system_no_truth system.name h.name in rw (neither.0, neither.1) refl
no_truth system (next ∷ systems) h = refl

-- the header of systems is read again
pub systems_read : (system : SystemTrack) (systems : List SystemTrack) → AllByRecursion IsSystemTrack (system ∷ systems) → of_one_direction (names_of (system ∷ systems)) ≡ Some (names_of (system ∷ systems)) → header_of (names_text (system ∷ systems)) ≡ Some (file.Systems (names_of (system ∷ systems)))
unfolding header_of truth_of systems_of
systems_read system systems h alike =
    let all = system ∷ systems in
    let line = names_text all in
    let parts : parts_of line ≡ names_of all = parts_of-joined (λ (s : SystemTrack). s.name) system systems (names_parts all h) in
    ap (λ o. or_else (option_map file.Truth o) (or_else (option_map file.Systems (systems_of line)) (option_map file.Sets (sets_of line)))) (ap truth_by parts ∙ no_truth system systems h.0)
    ∙ ap (λ o. or_else (option_map file.Systems o) (option_map file.Sets (sets_of line))) (ap (λ ps. each_of system_of ps >>= of_one_direction) parts ∙ ap (λ o. o >>= of_one_direction) (each_system all h) ∙ alike)

pub names_are_read : (system : SystemTrack) (systems : List SystemTrack) → IsSystemTrack system → is_passed (names_text (system ∷ systems)) ≡ false
names_are_read system systems h = not_passed_part system.name (flat_map (λ (s : SystemTrack). codes " " ++ s.name) systems) (name_part system.name h.name) (system_avoids (λ b. eqb b 35) (λ b k. grind (arith, tests)) refl system.name h.name)

-- and it is one line
name_avoids : (system : SystemTrack) → IsSystemTrack system → Avoids is_line_end system.name
name_avoids system h = system_avoids is_line_end (λ b k. grind (arith, tests)) refl system.name h.name

pub names_avoid : (system : SystemTrack) (systems : List SystemTrack) → AllByRecursion IsSystemTrack (system ∷ systems) → Avoids is_line_end (names_text (system ∷ systems))
names_avoid system systems h = Avoids-append is_line_end system.name (flat_map (λ (s : SystemTrack). codes " " ++ s.name) systems) (name_avoids system h.0) (more systems h.1)
  where
    more : (systems : List SystemTrack) → AllByRecursion IsSystemTrack systems → Avoids is_line_end (flat_map (λ (s : SystemTrack). codes " " ++ s.name) systems)
    more [] k = tt
    more (s ∷ systems) k = (refl, Avoids-append is_line_end s.name (flat_map (λ (t : SystemTrack). codes " " ++ t.name) systems) (name_avoids s k.0) (more systems k.1))
