-- What comes first, each once.
use Rattle.std.proofs.Common.{◌≡◌, ◌≢◌, refl, sym, ap, subst, ◌∙◌, ℕ, zero, suc, ◌+◌, ◌<◌, ◌≤◌, Bool, true, false, ◌||◌, cond, List, [], ◌∷◌, ◌++◌, map, length, take, get_or, fold, bytes_eq, inl, inr, arith, rules}
use Rattle.std.specs.List.{flat_map}
use Rattle.std.proofs.lemmas.Bool.{cases_lt, false_from_ne_true}
use Rattle.std.proofs.lemmas.List.{length-map, length-append, take-append-le, take_more, map-append, flat_map_more, get_or_append_left}
use Rattle.std.proofs.lemmas.List.Sums.{fold-append}
use Rattle.std.proofs.Math.Seq.{get_or-append_seam, take-append_seam}
use Rattle.std.proofs.lemmas.List.Elements.{Contains-append_right}
use Rattle.std.proofs.lemmas.Slice.Eq.{bytes_eq-Decides}
use Rattle.digit_tuple.specs.Explored.{AreApart, IsNumbered}
use Rattle.digit_tuple.proofs.MemberLemmas.{AllPairs-tail, AllPairs-head}
use Rattle.formula_resolve.specs.FirstMentions.{has, with_new, each_once, is_same_file, file_key, mentioned_files, first_files, IsOnce}
use Rattle.formula_resolve.specs.declared.mention.Mention.{Mention}
use Rattle.formula_resolve.specs.declared.file.File.{File}
use Rattle.formula_resolve.specs.declared.file.File.TheVariants.{Automaton, Word}

-- one that is there
has_at : (keys : List (List ℕ)) (i : ℕ) (key : List ℕ) → i < length keys → get_or keys i [] ≡ key → has bytes_eq keys key ≡ true
has_at [] i key within at = absurd (omega arith)
has_at (k ∷ keys) zero key within at = ap (λ b. b || has bytes_eq keys key) ((bytes_eq-Decides k key).1 at)
has_at (k ∷ keys) (suc i) key within at = ap (λ b. bytes_eq k key || b) (has_at keys i key (omega arith) at) ∙ or_true (bytes_eq k key)
  where
    or_true : (b : Bool) → (b || true) ≡ true
    or_true true = refl
    or_true false = refl

-- and one that is not
has_not : (keys : List (List ℕ)) (key : List ℕ) → AreApart (keys ++ key ∷ []) → has bytes_eq keys key ≡ false
has_not [] key apart = refl
has_not (k ∷ keys) key apart =
    ap (λ b. b || has bytes_eq keys key) (false_from_ne_true (bytes_eq k key) (λ same. AllPairs-head (λ m n. m ≢ n) k (keys ++ key ∷ []) key apart (Contains-append_right keys (key ∷ []) key (search rules)) ((bytes_eq-Decides k key).0 same)))
    ∙ has_not keys key (AllPairs-tail (λ m n. m ≢ n) k (keys ++ key ∷ []) apart)

-- a key that has the next number is new
pub numbered_new : (old new : List (List ℕ)) (key : List ℕ) (number : ℕ) → IsNumbered old new key number → number ≡ length old → (new ≡ old ++ key ∷ []) × (has bytes_eq old key ≡ false)
numbered_new old new key number numbered next =
    elim numbered.old_or_new [
      | inl before ↦ absurd (omega (arith, before.1, next))
      | inr fresh ↦ (fresh.1, has_not old key (subst AreApart fresh.1 numbered.apart))
    ]

pub numbered_old : (old new : List (List ℕ)) (key : List ℕ) (number : ℕ) → IsNumbered old new key number → number ≢ length old → (new ≡ old) × (has bytes_eq old key ≡ true)
numbered_old old new key number numbered other =
    elim numbered.old_or_new [
      | inl before ↦ (before.0, has_at old number key before.1 (ap (λ ks. get_or ks number []) (sym before.0) ∙ numbered.key_is))
      | inr fresh ↦ absurd (other fresh.0)
    ]

-- a name whose key has the next number goes last
pub added_new : (names : List (List ℕ)) (seen new : List (List ℕ)) (key name : List ℕ) (number : ℕ) → seen ≡ names → key ≡ name → IsNumbered seen new key number → number ≡ length names → names ++ name ∷ [] ≡ with_new bytes_eq names name
added_new names seen new key name number same is numbered next =
    sym (ap (λ b. cond b names (names ++ name ∷ [])) ((λ i. has bytes_eq (sym same i) (sym is i)) ∙ (numbered_new seen new key number numbered (next ∙ ap length (sym same))).1))

-- and one whose key has a number before is there
pub kept_old : (names : List (List ℕ)) (seen new : List (List ℕ)) (key name : List ℕ) (number : ℕ) → seen ≡ names → key ≡ name → IsNumbered seen new key number → number ≢ length names → names ≡ with_new bytes_eq names name
kept_old names seen new key name number same is numbered other =
    sym (ap (λ b. cond b names (names ++ name ∷ [])) ((λ i. has bytes_eq (sym same i) (sym is i)) ∙ (numbered_old seen new key number numbered (λ at. other (at ∙ ap length same))).1))

-- files are distinguished by their keys
same_file_key : (f g : File) → is_same_file f g ≡ bytes_eq (file_key f) (file_key g)
same_file_key (Automaton m) (Automaton n) = refl
same_file_key (Automaton m) (Word n) = refl
same_file_key (Word m) (Automaton n) = refl
same_file_key (Word m) (Word n) = refl

has_file : (files : List File) (f : File) → has is_same_file files f ≡ has bytes_eq (map file_key files) (file_key f)
has_file [] f = refl
has_file (g ∷ files) f = λ i. same_file_key g f i || has_file files f i

map_length : (files : List File) → length (map file_key files) ≡ length files
map_length files = simp length-map

-- a file whose key has the next number goes last
pub file_added : (files : List File) (seen new : List (List ℕ)) (key : List ℕ) (f : File) (number : ℕ) → seen ≡ map file_key files → key ≡ file_key f → IsNumbered seen new key number → number ≡ length files → files ++ f ∷ [] ≡ with_new is_same_file files f
file_added files seen new key f number same is numbered next =
    sym (ap (λ b. cond b files (files ++ f ∷ []))
    (has_file files f ∙ (λ i. has bytes_eq (sym same i) (sym is i)) ∙ (numbered_new seen new key number numbered (next ∙ sym (map_length files) ∙ ap length (sym same))).1))

-- and one whose key has a number before is there
pub file_there : (files : List File) (seen new : List (List ℕ)) (key : List ℕ) (f : File) (number : ℕ) → seen ≡ map file_key files → key ≡ file_key f → IsNumbered seen new key number → number ≢ length files → files ≡ with_new is_same_file files f
file_there files seen new key f number same is numbered other =
    sym (ap (λ b. cond b files (files ++ f ∷ []))
    (has_file files f ∙ (λ i. has bytes_eq (sym same i) (sym is i)) ∙ (numbered_old seen new key number numbered (λ at. other (at ∙ ap length same ∙ map_length files))).1))

-- the keys that were seen are still those of the files
pub seen_kept : (files : List File) (seen new : List (List ℕ)) (key : List ℕ) (number : ℕ) → seen ≡ map file_key files → IsNumbered seen new key number → number ≢ length files → new ≡ map file_key files
seen_kept files seen new key number same numbered other = (numbered_old seen new key number numbered (λ at. other (at ∙ ap length same ∙ map_length files))).0 ∙ same

pub seen_added : (files all : List File) (seen new : List (List ℕ)) (key : List ℕ) (f : File) (number : ℕ) → seen ≡ map file_key files → key ≡ file_key f → IsNumbered seen new key number → number ≡ length files
    → all ≡ files ++ f ∷ [] → new ≡ map file_key all
seen_added files all seen new key f number same is numbered next pushed =
    (numbered_new seen new key number numbered (next ∙ sym (map_length files) ∙ ap length (sym same))).0
    ∙ (λ i. same i ++ is i ∷ []) ∙ sym (map-append file_key files (f ∷ [])) ∙ ap (map file_key) (sym pushed)

-- what one mention more names
pub once_then : {X Y : Type 0} (same : X → X → Bool) (f : Y → List X) (ms : List Y) (i : ℕ) (m : Y) (old new : List X) → i < length ms → m ≡ get_or ms i m
    → old ≡ each_once same (flat_map f (take i ms)) → new ≡ fold (with_new same) old (f m) → new ≡ each_once same (flat_map f (take (i + 1) ms))
once_then same f ms i m old new within at so_far is =
    is ∙ ap (λ xs. fold (with_new same) xs (f m)) so_far ∙ sym (fold-append (with_new same) [] (flat_map f (take i ms)) (f m))
    ∙ ap (each_once same) (flat_map_more f [] (take i ms) m) ∙ ap (λ n. each_once same (flat_map f (take i ms ++ n ∷ []))) at ∙ ap (λ ns. each_once same (flat_map f ns)) (sym (take_more ms i m within))

-- one more that is none of those before it
with_other : (files : List File) (x : File) → IsOnce files → has is_same_file files x ≡ false → IsOnce (files ++ x ∷ [])
with_other files x once other i file within at = elim (cases_lt i (length files)) [ inl less ↦ before less | inr not ↦ suffix not ]
  where
    longer : length (files ++ x ∷ []) ≡ length files + 1
    longer = length-append files (x ∷ [])

    before : i < length files → has is_same_file (take i (files ++ x ∷ [])) file ≡ false
    before less =
        ap (λ prefix. has is_same_file prefix file) (take-append-le i files (x ∷ []) (omega (arith, less)))
        ∙ once i file less (at ∙ get_or_append_left files (x ∷ []) file i less)

    suffix : length files ≤ i → has is_same_file (take i (files ++ x ∷ [])) file ≡ false
    suffix not =
        let last : i ≡ length files = omega (arith, not, within, longer) in
        let same : file ≡ x = at ∙ ap (λ j. get_or (files ++ x ∷ []) j file) last ∙ get_or-append_seam files x [] file in
        (λ k. has is_same_file (take (last k) (files ++ x ∷ [])) (same k)) ∙ ap (λ prefix. has is_same_file prefix x) (take-append_seam files (x ∷ [])) ∙ other

-- and one that may be among them
with_once : (files : List File) (x : File) → IsOnce files → IsOnce (with_new is_same_file files x)
with_once files x once = by (has is_same_file files x) refl
  where
    by : (b : Bool) → has is_same_file files x ≡ b → IsOnce (cond b files (files ++ x ∷ []))
    by true there = once
    by false other = with_other files x once other

all_once : (files more : List File) → IsOnce files → IsOnce (fold (with_new is_same_file) files more)
all_once files [] once = once
all_once files (x ∷ more) once = all_once (with_new is_same_file files x) more (with_once files x once)

-- the files that are mentioned, each once
pub first_once : (ms : List Mention) → IsOnce (first_files ms)
first_once ms = all_once [] (flat_map mentioned_files ms) (λ i file within at. absurd (omega (arith, within)))
