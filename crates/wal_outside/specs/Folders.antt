-- The eight folders and their names.
use Rattle.std.specs.Prelude.{ℕ, ◌==◌, Bool, not, ◌&&◌, List, ◌++◌, codes}
use Rattle.std.specs.List.{list_any}
use Rattle.wal_outside.specs.declared.folder.Folder.{Folder}
use Rattle.wal_outside.specs.declared.folder.Folder.TheVariants.{Automata, Words, Bases, Macros, Morphisms, Transducers, Results, Commands}

-- the place of a folder among the eight
abbrev pub folder_index : Folder → ℕ
folder_index Automata = 0
folder_index Words = 1
folder_index Bases = 2
folder_index Macros = 3
folder_index Morphisms = 4
folder_index Transducers = 5
folder_index Results = 6
folder_index Commands = 7

-- the name of a folder
abbrev pub folder_text : Folder → List ℕ
folder_text Automata = codes "Automata Library"
folder_text Words = codes "Word Automata Library"
folder_text Bases = codes "Custom Bases"
folder_text Macros = codes "Macro Library"
folder_text Morphisms = codes "Morphism Library"
folder_text Transducers = codes "Transducer Library"
folder_text Results = codes "Result"
folder_text Commands = codes "Command Files"

-- whether a file of a folder may have this name: it has no slash and no NUL
abbrev pub may_name_file : List ℕ → Bool
may_name_file name = not (list_any (λ b. b == 47) name) && not (list_any (λ b. b == 0) name)

-- the file of a name in a folder, with an ending, from the folder in which the program runs
abbrev pub path_text : Folder → List ℕ → List ℕ → List ℕ
path_text folder name ending = folder_text folder ++ codes "/" ++ name ++ ending
