-- What loaded files are over.
use Rattle.std.specs.Prelude.{ℕ, List, [], None, Some}
use Rattle.std.specs.List.{fold}
use Rattle.dfa_reading.specs.Headers.{Header, Truth, Systems, Sets}
use Rattle.formula_resolve.specs.Headers.{Headers, no_headers, with_automaton, with_word}
use Rattle.formula_resolve.specs.declared.file.File.{File}
use Rattle.formula_resolve.specs.declared.file.File.TheVariants.{Automaton, Word}
use Rattle.dfa_loading.specs.declared.loaded.Loaded.{Loaded}

-- an automaton over the tracks of a header: over systems, over none below `true` and `false`, or over sets
abbrev pub with_header : Headers → List ℕ → Header → Headers
with_header headers name (Truth value) = with_automaton headers name (Some [])
with_header headers name (Systems names) = with_automaton headers name (Some names)
with_header headers name (Sets sets) = with_automaton headers name None

-- a word over the systems of a header; a word's file has no other header
abbrev pub with_word_header : Headers → List ℕ → Header → Headers
with_word_header headers name (Truth value) = with_word headers name []
with_word_header headers name (Systems names) = with_word headers name names
with_word_header headers name (Sets sets) = with_word headers name []

-- an automaton and a word of one name are two files
abbrev pub with_file : Headers → File → Header → Headers
with_file headers (Automaton name) header = with_header headers name header
with_file headers (Word name) header = with_word_header headers name header

abbrev pub with_table : Headers → Loaded → Headers
with_table headers table = with_file headers table.file table.listed.header

abbrev pub headers_of : List Loaded → Headers
headers_of tables = fold with_table no_headers tables
