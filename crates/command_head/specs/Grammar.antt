-- The grammars of heads: which head derives which parts, one after another.
use Rattle.std.specs.Prelude.{◌≡◌, ◌≢◌, ◌⊎◌, ℕ, ◌<◌, true, List, [], ◌∷◌, ◌++◌, ℤ, codes, ◌↔◌, Option, None, Some, Ok, ⊤, ◌^◌}
use Rattle.std.specs.List.{AllByRecursion, AllPairs}
use Rattle.digit_tuple.specs.Sets.{IsAscending}
use Rattle.text_grammar.specs.Numbers.{are_digits, is_number, is_short, number_of, value_of}
use Rattle.place_text.specs.Lexemes.{lexemes}
use Rattle.place_text.specs.Grammar.{Derives}
use Rattle.command_head.specs.Members.{has}
use Rattle.text_grammar.specs.Systems.{is_system}
use Rattle.command_head.specs.Parts.{parts_of, texts_of, is_name, is_word}
use Rattle.command_head.specs.Heads.{Alphabets, Sets, Systems, RegHead, NamedHead, PromoteHead, ImageHead, ConvertHead, ValuedName, CombineHead, LanguagesHead, TestHead, reg_at}

-- a part denotes a number of 32 bits, signed
pub record DerivesNumber (part : List ℕ) (n : ℤ) : Type 0 where
  pub number : is_number part ≡ true
  pub value : number_of part ≡ n
  pub short : is_short (2 ^ 31) n ≡ true

-- one or more numbers, divided by commas
abbrev pub DerivesMentions : List (List ℕ) → List ℤ → Type 0
DerivesMentions parts [] = ⊥
DerivesMentions parts (n ∷ []) = (number : List ℕ) × (parts ≡ number ∷ []) × DerivesNumber number n
DerivesMentions parts (n ∷ m ∷ ns) = (number : List ℕ) × (others : List (List ℕ)) × (parts ≡ number ∷ codes "," ∷ others) × DerivesNumber number n × DerivesMentions others (m ∷ ns)

-- The set of some numbers: each is mentioned once, and the members are just these, in ascending order.
pub record IsSetOf (mentions set : List ℤ) : Type 0 where
  pub ascending : IsAscending set
  pub members : (n : ℤ) → has set n ≡ has mentions n
  pub once : AllPairs (λ m n. m ≢ n) mentions

-- a set in braces: its members in any order, each once
pub record DerivesSet (parts : List (List ℕ)) (set : List ℤ) : Type 0 where
  pub inside : List (List ℕ)
  pub mentions : List ℤ
  pub parts_are : parts ≡ codes "{" ∷ (inside ++ codes "}" ∷ [])
  pub derived : DerivesMentions inside mentions
  pub members : IsSetOf mentions set

-- sets, one after another
abbrev pub DeriveSets : List (List ℕ) → List (List ℤ) → Type 0
DeriveSets parts [] = parts ≡ []
DeriveSets parts (set ∷ sets) = (first : List (List ℕ)) × (others : List (List ℕ)) × (parts ≡ first ++ others) × DerivesSet first set × DeriveSets others sets

-- one or more sets, or one or more systems
abbrev pub DeriveAlphabets : List (List ℕ) → Alphabets → Type 0
DeriveAlphabets parts (Sets sets) = (sets ≢ []) × DeriveSets parts sets
DeriveAlphabets parts (Systems names) = (names ≢ []) × (parts ≡ names) × AllByRecursion (λ name. is_system name ≡ true) names

-- any bytes but a quote
abbrev pub AreUnquoted : List ℕ → Type 0
AreUnquoted bytes = AllByRecursion (λ b. b ≢ 34) bytes

-- a text in quotes
abbrev pub quoted : List ℕ → List ℕ
quoted body = 34 ∷ (body ++ 34 ∷ [])

-- the word `reg`, the name, the sets or systems of the tracks, and a text in quotes
pub record DerivesReg (parts : List (List ℕ)) (head : RegHead) : Type 0 where
  pub alphabets : List (List ℕ)
  pub parts_are : parts ≡ codes "reg" ∷ head.name ∷ (alphabets ++ quoted head.body ∷ [])
  pub name : is_name head.name ≡ true
  pub derived : DeriveAlphabets alphabets head.alphabets
  pub body : AreUnquoted head.body

-- a word, a name, and a text in quotes
pub record DerivesNamed (word : List ℕ) (parts : List (List ℕ)) (head : NamedHead) : Type 0 where
  pub parts_are : parts ≡ word ∷ head.name ∷ quoted head.body ∷ []
  pub name : is_name head.name ≡ true
  pub body : AreUnquoted head.body

-- the word `promote`, the new word, and the morphism
pub record DerivesPromote (parts : List (List ℕ)) (head : PromoteHead) : Type 0 where
  pub parts_are : parts ≡ codes "promote" ∷ head.word ∷ head.morphism ∷ []
  pub word : is_word head.word ≡ true
  pub morphism : is_name head.morphism ≡ true

-- a word, the new word, what maps the letters, and the old word
pub record DerivesImage (word : List ℕ) (parts : List (List ℕ)) (head : ImageHead) : Type 0 where
  pub parts_are : parts ≡ word ∷ head.word ∷ head.mapping ∷ head.old ∷ []
  pub new : is_word head.word ≡ true
  pub mapping : is_name head.mapping ≡ true
  pub old : is_word head.old ≡ true

-- the word `convert`, the new word, its system, and the old word
pub record DerivesConvert (parts : List (List ℕ)) (head : ConvertHead) : Type 0 where
  pub parts_are : parts ≡ codes "convert" ∷ head.word ∷ head.system ∷ head.old ∷ []
  pub word : is_word head.word ≡ true
  pub system : is_system head.system ≡ true
  pub old : is_word head.old ≡ true

-- a part that names a file: a name, with `.txt` after it or not
pub record NamesFile (part name : List ℕ) : Type 0 where
  pub named : is_name name ≡ true
  pub part_is : (part ≡ name) ⊎ (part ≡ name ++ codes ".txt")

-- the word `load`, and the name of a file
pub record DerivesLoad (parts : List (List ℕ)) (name : List ℕ) : Type 0 where
  pub part : List ℕ
  pub parts_are : parts ≡ codes "load" ∷ part ∷ []
  pub file : NamesFile part name

-- a word, and a name
pub record DerivesName (word : List ℕ) (parts : List (List ℕ)) (name : List ℕ) : Type 0 where
  pub parts_are : parts ≡ word ∷ name ∷ []
  pub named : is_name name ≡ true

-- a word alone
abbrev pub DerivesAlone : List ℕ → List (List ℕ) → Unit {0} → Type 0
DerivesAlone word parts done = parts ≡ word ∷ []

-- what follows a name in its part: nothing, or `=` and a number
abbrev pub DerivesValue : List ℕ → Option ℤ → Type 0
DerivesValue suffix None = suffix ≡ []
DerivesValue suffix (Some n) = (number : List ℕ) × (suffix ≡ 61 ∷ number) × DerivesNumber number n

-- a name, and directly after it the value, if one is given
pub record DerivesValued (part : List ℕ) (valued : ValuedName) : Type 0 where
  pub suffix : List ℕ
  pub part_is : part ≡ valued.name ++ suffix
  pub name : is_name valued.name ≡ true
  pub value : DerivesValue suffix valued.value

-- such parts, one after another
abbrev pub DeriveEach : List (List ℕ) → List ValuedName → Type 0
DeriveEach [] [] = ⊤
DeriveEach [] (valued ∷ more) = ⊥
DeriveEach (part ∷ parts) [] = ⊥
DeriveEach (part ∷ parts) (valued ∷ more) = DerivesValued part valued × DeriveEach parts more

-- the word `combine`, the new word, and one or more automata
pub record DerivesCombine (parts : List (List ℕ)) (head : CombineHead) : Type 0 where
  pub automata : List (List ℕ)
  pub parts_are : parts ≡ codes "combine" ∷ head.word ∷ automata
  pub word : is_word head.word ≡ true
  pub some : head.automata ≢ []
  pub each : DeriveEach automata head.automata

-- a word, the new name, and one or more names
pub record DerivesLanguages (word : List ℕ) (parts : List (List ℕ)) (head : LanguagesHead) : Type 0 where
  pub parts_are : parts ≡ word ∷ head.name ∷ head.languages
  pub name : is_name head.name ≡ true
  pub some : head.languages ≢ []
  pub each : AllByRecursion (λ language. is_name language ≡ true) head.languages

-- a word, the new name, and one name
pub record DerivesLanguage (word : List ℕ) (parts : List (List ℕ)) (head : LanguagesHead) : Type 0 where
  pub language : List ℕ
  pub parts_are : parts ≡ word ∷ head.name ∷ language ∷ []
  pub name : is_name head.name ≡ true
  pub is_named : is_name language ≡ true
  pub one : head.languages ≡ language ∷ []

-- digits alone, of a number below 2 ^ 64
pub record DerivesCount (part : List ℕ) (n : ℕ) : Type 0 where
  pub digits : are_digits part ≡ true
  pub value : value_of part ≡ n
  pub within : n < 2 ^ 64

-- a place in quotes
pub record DerivesPlace (part : List ℕ) (letters : List (List ℤ)) : Type 0 where
  pub body : List ℕ
  pub part_is : part ≡ quoted body
  pub unquoted : AreUnquoted body
  pub derived : Derives (lexemes body) letters

-- such a part, if there is a place
abbrev pub DerivesAfter : List (List ℕ) → Option (List (List ℤ)) → Type 0
DerivesAfter parts None = parts ≡ []
DerivesAfter parts (Some letters) = (part : List ℕ) × (parts ≡ part ∷ []) × DerivesPlace part letters

-- the word `test`, the automaton, the number of words, and the place after which they are listed, if one is given
pub record DerivesTest (parts : List (List ℕ)) (head : TestHead) : Type 0 where
  pub count : List ℕ
  pub others : List (List ℕ)
  pub parts_are : parts ≡ codes "test" ∷ head.name ∷ count ∷ others
  pub name : is_name head.name ≡ true
  pub counted : DerivesCount count head.count
  pub after : DerivesAfter others head.place

-- what is read of a text is the head that derives its parts
abbrev pub ReadsGrammar : Type 0
ReadsGrammar = (text : List ℕ) (head : RegHead) → (reg_at text ≡ Ok head) ↔ DerivesReg (texts_of (parts_of text)) head

-- The parts that derive from a head of a grammar are those of a text. So a law of parts is a law of texts.
abbrev pub ArePartsOfTexts : {H : Type 0} → (List (List ℕ) → H → Type 0) → Type 0
ArePartsOfTexts {H} grammar = (parts : List (List ℕ)) (head : H) → grammar parts head → (text : List ℕ) × (texts_of (parts_of text) ≡ parts)
