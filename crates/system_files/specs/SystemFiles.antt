-- The two files of a system that a user defines: which pair a name takes, what they list, and why they list nothing.
use Rattle.std.specs.Prelude.{◌≡◌, ◌⊎◌, ℕ, ◌<◌, ◌≤◌, Bool, true, false, not, List, [], ◌∷◌, length, Option, None, Some, if◌then◌else◌, Ok, Err}
use Rattle.digit_tuple.specs.Systems.{digit_set}
use Rattle.digit_tuple.specs.declared.direction.Direction.{Direction}
use Rattle.dfa_loading.specs.declared.fault.FileFlaw.{FileFlaw}
use Rattle.dfa_loading.specs.declared.fault.FileFlaw.TheVariants.{Line, TooLong}
use Rattle.dfa_loading.specs.declared.fault.LoadFault.{LoadFault}
use Rattle.dfa_loading.specs.declared.fault.LoadFault.TheVariants as faults
use Rattle.dfa_reading.specs.Headers.{Sets}
use Rattle.dfa_reading.specs.Listed.{Listed}
use Rattle.dfa_reading.specs.SystemFiles.{language_of, adder_of}
use Rattle.system_names.specs.UserNames.{user_name, adder_name, opposite}
use Rattle.wal_outside.specs.declared.folder.Folder.{Folder}
use Rattle.wal_outside.specs.declared.folder.Folder.TheVariants.{Bases}
use Rattle.wal_outside.specs.declared.store.TheConstants.{TEXT_LIMIT}

-- the texts that are under names in the folder of users' systems
abbrev pub Custom : Type 0
Custom = List ℕ → Option (List ℕ)

-- what the files of a language and of its adder list, over so many digits, and whether their words are read in the other direction
pub record SystemFiles : Type 0 where
  pub digits : ℕ
  pub reversed : Bool
  pub language : Listed
  pub adder : Listed

-- the digits of both tables are those from 0 on, so many, and each has a state
pub record AreOverDigits (files : SystemFiles) : Type 0 where
  pub language : files.language.header ≡ Sets (digit_set files.digits ∷ [])
  pub adder : files.adder.header ≡ Sets (digit_set files.digits ∷ digit_set files.digits ∷ digit_set files.digits ∷ [])
  pub some_digit : 1 ≤ files.digits
  pub language_states : 0 < length files.language.outputs
  pub adder_states : 0 < length files.adder.outputs

-- whether something is under the name
abbrev pub is_there : Option (List ℕ) → Bool
is_there None = false
is_there (Some text) = true

-- the files of the other direction are taken where no language is under the name in this direction
abbrev pub is_reversed : Custom → Direction → List ℕ → Bool
is_reversed custom direction part = not (is_there (custom (user_name direction part)))

-- the name of the language that is taken
abbrev pub taken_name : Custom → Direction → List ℕ → List ℕ
taken_name custom direction part = if is_reversed custom direction part then user_name (opposite direction) part else user_name direction part

-- a text is under the name, short enough, that lists a language over so many digits
pub record IsLanguageAt (custom : Custom) (name : List ℕ) (digits : ℕ) (listed : Listed) : Type 0 where
  pub text : List ℕ
  pub there : custom name ≡ Some text
  pub short : length text ≤ TEXT_LIMIT
  pub lists : language_of text ≡ Ok listed
  pub header : listed.header ≡ Sets (digit_set digits ∷ [])

-- and one that lists an adder over so many digits
pub record IsAdderAt (custom : Custom) (name : List ℕ) (digits : ℕ) (listed : Listed) : Type 0 where
  pub text : List ℕ
  pub there : custom name ≡ Some text
  pub short : length text ≤ TEXT_LIMIT
  pub lists : adder_of digits text ≡ Ok listed

-- the files of the system that is called so, for words in this direction
pub record AreFilesOf (custom : Custom) (direction : Direction) (part : List ℕ) (files : SystemFiles) : Type 0 where
  pub reversed : files.reversed ≡ is_reversed custom direction part
  pub language : IsLanguageAt custom (taken_name custom direction part) files.digits files.language
  pub adder : IsAdderAt custom (adder_name (taken_name custom direction part)) files.digits files.adder

-- there is one such pair at most
abbrev pub NamesTakeOnePair : Type 0
NamesTakeOnePair = (custom : Custom) (direction : Direction) (part : List ℕ) (files others : SystemFiles) → AreFilesOf custom direction part files → AreFilesOf custom direction part others → files ≡ others

-- the language that is taken lists something
abbrev pub HasLanguage : Custom → Direction → List ℕ → ℕ → Type 0
HasLanguage custom direction part digits = (listed : Listed) × IsLanguageAt custom (taken_name custom direction part) digits listed

-- the text is no language: it is too long, or breaks the format first at this line
abbrev pub IsNoLanguage : List ℕ → FileFlaw → Type 0
IsNoLanguage text (Line at) = (length text ≤ TEXT_LIMIT) × (language_of text ≡ Err at)
IsNoLanguage text TooLong = TEXT_LIMIT < length text

-- or no adder over so many digits
abbrev pub IsNoAdder : ℕ → List ℕ → FileFlaw → Type 0
IsNoAdder digits text (Line at) = (length text ≤ TEXT_LIMIT) × (adder_of digits text ≡ Err at)
IsNoAdder digits text TooLong = TEXT_LIMIT < length text

-- no language is there in either direction, and the name is the one that was asked for; or its adder is missing
abbrev pub IsMissing : Custom → Direction → List ℕ → List ℕ → Type 0
IsMissing custom direction part name =
    ((custom (taken_name custom direction part) ≡ None) × (name ≡ user_name direction part))
    ⊎ ((digits : ℕ) × HasLanguage custom direction part digits × (custom name ≡ None) × (name ≡ adder_name (taken_name custom direction part)))

-- the text under this name has the flaw: the one of the language; or, where that has none, the one of its adder
abbrev pub IsFlawed : Custom → Direction → List ℕ → List ℕ → FileFlaw → Type 0
IsFlawed custom direction part name flaw =
    ((text : List ℕ) × (custom name ≡ Some text) × (name ≡ taken_name custom direction part) × IsNoLanguage text flaw)
    ⊎ ((digits : ℕ) × HasLanguage custom direction part digits × ((text : List ℕ) × (custom name ≡ Some text) × (name ≡ adder_name (taken_name custom direction part)) × IsNoAdder digits text flaw))

-- why the files are not there, by the texts
abbrev pub RefusesFiles : Custom → Direction → List ℕ → LoadFault → Type 0
RefusesFiles custom direction part (faults.Unknown folder name) = (folder ≡ Bases) × IsMissing custom direction part name
RefusesFiles custom direction part (faults.File folder name flaw) = (folder ≡ Bases) × IsFlawed custom direction part name flaw
RefusesFiles custom direction part (faults.Store folder name) = ⊥
RefusesFiles custom direction part faults.Memory = ⊥

-- a file is read under this name: the language; the one in the other direction, where that is not there; or the adder of a language
abbrev pub AreReadAt : Custom → Direction → List ℕ → Folder → List ℕ → Type 0
AreReadAt custom direction part folder name = (folder ≡ Bases)
    × ((name ≡ user_name direction part)
    ⊎ (((custom (user_name direction part) ≡ None) × (name ≡ user_name (opposite direction) part))
    ⊎ ((digits : ℕ) × HasLanguage custom direction part digits × (name ≡ adder_name (taken_name custom direction part)))))
