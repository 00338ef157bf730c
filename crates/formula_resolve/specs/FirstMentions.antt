-- Files and systems in the order of their first mention, each once.
use Rattle.std.specs.Prelude.{◌≡◌, ℕ, ◌<◌, List, [], ◌∷◌, ◌++◌, length, take, slice_index_or, Bool, false, ◌||◌, if◌then◌else◌}
use Rattle.std.specs.List.{fold, flat_map}
use Rattle.std.specs.Str.{bytes_eq}
use Rattle.formula_parse.specs.Tokens.{Name}
use Rattle.formula_resolve.specs.Headers.{Headers, automaton_tracks, word_tracks}
use Rattle.formula_resolve.specs.declared.mention.Mention.{Mention}
use Rattle.formula_resolve.specs.declared.mention.Mention.TheVariants.{Marked, Called, Indexed}
use Rattle.formula_resolve.specs.declared.file.File.{File}
use Rattle.formula_resolve.specs.declared.file.File.TheVariants.{Automaton, Word}

abbrev pub is_same_file : File → File → Bool
is_same_file (Automaton m) (Automaton n) = bytes_eq m n
is_same_file (Automaton m) (Word n) = false
is_same_file (Word m) (Automaton n) = false
is_same_file (Word m) (Word n) = bytes_eq m n

-- whether one of them is the same
abbrev pub has : {X : Type 0} → (X → X → Bool) → List X → X → Bool
has same [] x = false
has same (y ∷ ys) x = same y x || has same ys x

-- a list with one more at its end, unless it is there
abbrev pub with_new : {X : Type 0} → (X → X → Bool) → List X → X → List X
with_new same ys x = if has same ys x then ys else ys ++ x ∷ []

-- each of them once, where it comes first
abbrev pub each_once : {X : Type 0} → (X → X → Bool) → List X → List X
each_once same xs = fold (with_new same) [] xs

-- the file that a mention names
abbrev pub mentioned_files : Mention → List File
mentioned_files (Marked s) = []
mentioned_files (Called n k) = Automaton n ∷ []
mentioned_files (Indexed n k) = Word n ∷ []

abbrev pub first_files : List Mention → List File
first_files ms = each_once is_same_file (flat_map mentioned_files ms)

-- the systems that a mention names: a mark's own, and those of a file's header, track by track
abbrev pub mentioned_systems : Headers → Mention → List Name
mentioned_systems h (Marked s) = s ∷ []
mentioned_systems h (Called n k) = automaton_tracks h n
mentioned_systems h (Indexed n k) = word_tracks h n

abbrev pub first_systems : Headers → List Mention → List Name
first_systems h ms = each_once bytes_eq (flat_map (mentioned_systems h) ms)

-- no file is the same as one before it
abbrev pub IsOnce : List File → Type 0
IsOnce files = (i : ℕ) (file : File) → i < length files → file ≡ slice_index_or files i file → has is_same_file (take i files) file ≡ false

-- what distinguishes files
abbrev pub file_key : File → List ℕ
file_key (Automaton n) = 0 ∷ n
file_key (Word n) = 1 ∷ n
