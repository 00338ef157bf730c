-- Tables read one after another: the systems under their headers, what those before it make and one more, and the refusal of one.
use Rattle.std.proofs.Common.{◌≡◌, ℕ, zero, suc, ◌+◌, ◌<◌, List, [], ◌∷◌, ◌++◌, length, take, map, get_or, Option, None, Some, Result, Ok, Err, Vec, Global, inl, inr, refl, sym, ap, ◌∙◌, subst, arith}
use Rattle.std.specs.List.{AllZip}
use Rattle.std.specs.Prelude.{IfOk, IfErr}
use Rattle.std.specs.Result.{IsErrAnd}
use Rattle.std.proofs.lemmas.List.{take_more, map-append, length-map}
use Rattle.std.proofs.lemmas.Option.{none-some}
use Rattle.digit_tuple.specs.Steps.{StepLog}
use Rattle.digit_tuple.specs.declared.step_fault.StepFault.{StepFault}
use Rattle.dfa_reading.specs.Headers.{Header, Truth, Systems, Sets, Below, digits_in, has_states}
use Rattle.dfa_reading.specs.Listed.{Listed}
use Rattle.dfa_reading.specs.Systems.{digit_limit}
use Rattle.dfa_reading.specs.WordFiles.{IsWordListed}
use Rattle.formula_resolve.specs.declared.file.File.{File}
use Rattle.formula_resolve.specs.declared.file.File.TheVariants.{Automaton, Word}
use Rattle.dfa_loading.specs.declared.loaded.Loaded.{Loaded}
use Rattle.plan_relations.specs.Libraries.{NamedRelation, NamedWord, ReadValue, with_relation, with_word}
use Rattle.named_systems.specs.NamedSystems.{NamedSystem, system_named}
use Rattle.num_system.specs.Sealed.{SystemValue}
use Rattle.num_system.specs.Tracks.{ShareDirection}
use Rattle.number_relations.specs.Relations.{RelationValue}
use Rattle.word_output.specs.WordReadings.{DoesWord}
use Rattle.word_output.specs.Words.{WordValue}
use Rattle.definitions.specs.TableSteps.{AreForTracks, DoesTable}
use Rattle.kept_tables.specs.KeptTables.{IsNotMade}
use Rattle.command_parts.specs.TableReads.{TableRead, ARelation, AWord, relations_in, words_in, read_of, AreSystemsUnder, IsRelationRead, IsWordRead, IsTableRead, PassesFile, IsTableRefused, AreTablesRead, IsReadingRefused}
use Rattle.command_parts.specs.TableReading.{IsReadable, IsReadRelation, IsReadWord, IsTableFault, IsReadingFault, ReadsTables, with_read}

-- the system is under the name
abbrev pub IsSystemUnder : List NamedSystem → List ℕ → SystemValue → Type 0
IsSystemUnder systems name s = system_named systems name ≡ Some s

-- one more pair after the others
pub zip_push : {X Y : Type 0} (R : X → Y → Type 0) (xs : List X) (ys : List Y) (x : X) (y : Y) → AllZip R xs ys → R x y → AllZip R (xs ++ x ∷ []) (ys ++ y ∷ [])
zip_push R [] [] x y all r = (r, tt)
zip_push R [] (b ∷ ys) x y all r = absurd all
zip_push R (a ∷ xs) [] x y all r = absurd all
zip_push R (a ∷ xs) (b ∷ ys) x y all r = (all.0, zip_push R xs ys x y all.1 r)

-- what is beside one of a list
pub zip_at : {X Y : Type 0} (R : X → Y → Type 0) (xs : List X) (ys : List Y) (i : ℕ) (x : X) → AllZip R xs ys → i < length xs → x ≡ get_or xs i x → (y : Y) × R x y
zip_at R [] ys i x all within is = absurd (omega (arith, within))
zip_at R (a ∷ xs) [] i x all within is = absurd all
zip_at R (a ∷ xs) (b ∷ ys) zero x all within is = (b, subst (λ z. R z b) (sym is) all.0)
zip_at R (a ∷ xs) (b ∷ ys) (suc i) x all within is = zip_at R xs ys i x all.1 (omega (arith, within)) is

pub zip_lengths : {X Y : Type 0} (R : X → Y → Type 0) (xs : List X) (ys : List Y) → AllZip R xs ys → length ys ≡ length xs
zip_lengths R [] [] all = refl
zip_lengths R [] (b ∷ ys) all = absurd all
zip_lengths R (a ∷ xs) [] all = absurd all
zip_lengths R (a ∷ xs) (b ∷ ys) all = ap suc (zip_lengths R xs ys all.1)

-- what is under a name in both is the same
abbrev pub AreAlike : List NamedSystem → List NamedSystem → Type 0
AreAlike systems others = (name : List ℕ) (s t : SystemValue) → IsSystemUnder systems name s → IsSystemUnder others name t → s ≡ t

one_there : (o : Option SystemValue) (s t : SystemValue) → o ≡ Some s → o ≡ Some t → s ≡ t
one_there o s t one other = cc

alike_self : (systems : List NamedSystem) → AreAlike systems systems
alike_self systems name s t one other = one_there (system_named systems name) s t one other

-- the systems under names are the same
same_under_names : (systems others : List NamedSystem) (names : List (List ℕ)) (ss ts : List SystemValue) → AreAlike systems others → AllZip (IsSystemUnder systems) names ss → AllZip (IsSystemUnder others) names ts → ss ≡ ts
same_under_names systems others [] [] [] alike all also = refl
same_under_names systems others [] [] (t ∷ ts) alike all also = absurd also
same_under_names systems others [] (s ∷ ss) ts alike all also = absurd all
same_under_names systems others (n ∷ names) [] ts alike all also = absurd all
same_under_names systems others (n ∷ names) (s ∷ ss) [] alike all also = absurd also
same_under_names systems others (n ∷ names) (s ∷ ss) (t ∷ ts) alike all also =
    let one : s ≡ t = alike n s t all.0 also.0 in
    let rest : ss ≡ ts = same_under_names systems others names ss ts alike all.1 also.1 in
    λ i. one i ∷ rest i

-- and those under a header
pub same_under : (systems others : List NamedSystem) (header : Header) (ss ts : List SystemValue) → AreAlike systems others → AreSystemsUnder systems header ss → AreSystemsUnder others header ts → ss ≡ ts
same_under systems others (Truth value) ss ts alike is also = is ∙ sym also
same_under systems others (Systems names) ss ts alike is also = same_under_names systems others names ss ts alike is also
same_under systems others (Sets sets) ss ts alike is also = absurd is

-- the systems under a header, of one direction, are for its tracks
pub for_tracks : (systems : List NamedSystem) (header : Header) (tracks : List SystemValue) → AreSystemsUnder systems header tracks → ShareDirection tracks → AreForTracks header tracks
for_tracks systems (Truth value) tracks under shared_direction = under
for_tracks systems (Systems names) tracks under shared_direction = (zip_lengths (IsSystemUnder systems) names tracks under, shared_direction)
for_tracks systems (Sets sets) tracks under shared_direction = under

-- those of a table that is readable are
pub readable_tracks : (systems : List NamedSystem) (table : Loaded) (tracks : List SystemValue) → IsReadable systems table → AreSystemsUnder systems table.listed.header tracks → AreForTracks table.listed.header tracks
readable_tracks systems table tracks readable under =
    for_tracks systems table.listed.header tracks under (subst ShareDirection (same_under systems systems table.listed.header readable.tracks tracks (alike_self systems) readable.over under) readable.shared_direction)

-- tables were read, and then one more
pub one_more_read : (systems : List NamedSystem) (old mid new : StepLog) (tables : List Loaded) (reads : List TableRead) (table : Loaded) (r : TableRead)
    → AreTablesRead systems old tables reads mid → IsTableRead systems mid table r new → AreTablesRead systems old (tables ++ table ∷ []) (reads ++ r ∷ []) new
one_more_read systems old mid new [] [] table r prefix read = (new, subst (λ (o : StepLog). IsTableRead systems o table r new) prefix read, refl)
one_more_read systems old mid new [] (q ∷ reads) table r prefix read = absurd prefix
one_more_read systems old mid new (t ∷ tables) [] table r prefix read = absurd prefix
one_more_read systems old mid new (t ∷ tables) (q ∷ reads) table r (next, first, rest) read = (next, first, one_more_read systems next mid new tables reads table r rest read)

-- tables were read, and then one was refused: so are all, whichever follow
pub one_refused : (systems : List NamedSystem) (old mid : StepLog) (tables : List Loaded) (reads : List TableRead) (i : ℕ) (table : Loaded) (fault : StepFault) → i < length tables → table ≡ get_or tables i table
    → AreTablesRead systems old (take i tables) reads mid → IsTableRefused systems mid table fault → IsReadingRefused systems old tables fault
one_refused systems old mid [] reads i table fault within is prefix refused = absurd (omega (arith, within))
one_refused systems old mid (t ∷ tables) [] zero table fault within is prefix refused =
    inl (subst (λ (x : Loaded). IsTableRefused systems old x fault) is (subst (λ (o : StepLog). IsTableRefused systems o table fault) prefix refused))
one_refused systems old mid (t ∷ tables) (q ∷ reads) zero table fault within is prefix refused = absurd prefix
one_refused systems old mid (t ∷ tables) [] (suc i) table fault within is prefix refused = absurd prefix
one_refused systems old mid (t ∷ tables) (q ∷ reads) (suc i) table fault within is (next, first, rest) refused =
    inr (q, next, first, one_refused systems next mid tables reads i table fault (omega (arith, within)) is rest refused)

-- one more in a vector
pub pushed : {X Y : Type 0} (f : X → Y) (new mid : Vec X Global) (items : List X) (x : X) → new ≡ mid → mid.items ≡ items ++ x ∷ [] → map f new.items ≡ map f items ++ f x ∷ []
pushed {X} f new mid items x is push = ap (λ (v : Vec X Global). map f v.items) is ∙ ap (map f) push ∙ map-append f items (x ∷ [])

-- the systems under one name more
pub under_more : (systems : List NamedSystem) (names : List (List ℕ)) (i : ℕ) (name asked : List ℕ) (tracks more : List SystemValue) (s t : SystemValue) → i < length names → name ≡ get_or names i name
    → AllZip (IsSystemUnder systems) (take i names) tracks → asked ≡ name → system_named systems asked ≡ Some s → t ≡ s → more ≡ tracks ++ t ∷ [] → AllZip (IsSystemUnder systems) (take (i + 1) names) more
under_more systems names i name asked tracks more s t within is prefix same there one more_is =
    let names_are : take (i + 1) names ≡ take i names ++ name ∷ [] = take_more names i name within ∙ ap (λ (n : List ℕ). take i names ++ n ∷ []) (sym is) in
    let here : IsSystemUnder systems name t = subst (λ (n : List ℕ). system_named systems n ≡ Some t) same (there ∙ ap Some (sym one)) in
    subst (λ (ns : List (List ℕ)). AllZip (IsSystemUnder systems) ns more) (sym names_are)
    (subst (AllZip (IsSystemUnder systems) (take i names ++ name ∷ [])) (sym more_is) (zip_push (IsSystemUnder systems) (take i names) tracks name t prefix here))

-- under a name of a header, where systems are under all, one is
pub none_missing : (systems : List NamedSystem) (header : Header) (names : List (List ℕ)) (tracks : List SystemValue) (i : ℕ) (name asked : List ℕ) → header ≡ Systems names → AreSystemsUnder systems header tracks → i < length names
    → name ≡ get_or names i name → asked ≡ name → system_named systems asked ≡ None → ⊥
none_missing systems header names tracks i name asked header_is under within is same none =
    let all : AllZip (IsSystemUnder systems) names tracks = subst (λ (h : Header). AreSystemsUnder systems h tracks) header_is under in
    let (s, there) = zip_at (IsSystemUnder systems) names tracks i name all within is in
    none-some s (sym none ∙ ap (system_named systems) same ∙ there)

-- what was read, with one more
read_more : (reads : List TableRead) (r : TableRead) → with_read (read_of reads) r ≡ read_of (reads ++ r ∷ [])
read_more reads r = λ i. record { relations = relations_more reads r i; words = words_more reads r i }
  where
    relations_more : (rs : List TableRead) (q : TableRead) → (with_read (read_of rs) q).relations ≡ relations_in (rs ++ q ∷ [])
    relations_more [] (ARelation x) = refl
    relations_more [] (AWord x) = refl
    relations_more (ARelation y ∷ rs) (ARelation x) = ap (λ (zs : List NamedRelation). y ∷ zs) (relations_more rs (ARelation x))
    relations_more (ARelation y ∷ rs) (AWord x) = ap (λ (zs : List NamedRelation). y ∷ zs) (relations_more rs (AWord x))
    relations_more (AWord y ∷ rs) (ARelation x) = relations_more rs (ARelation x)
    relations_more (AWord y ∷ rs) (AWord x) = relations_more rs (AWord x)

    words_more : (rs : List TableRead) (q : TableRead) → (with_read (read_of rs) q).words ≡ words_in (rs ++ q ∷ [])
    words_more [] (ARelation x) = refl
    words_more [] (AWord x) = refl
    words_more (ARelation y ∷ rs) (ARelation x) = words_more rs (ARelation x)
    words_more (ARelation y ∷ rs) (AWord x) = words_more rs (AWord x)
    words_more (AWord y ∷ rs) (ARelation x) = ap (λ (zs : List NamedWord). y ∷ zs) (words_more rs (ARelation x))
    words_more (AWord y ∷ rs) (AWord x) = ap (λ (zs : List NamedWord). y ∷ zs) (words_more rs (AWord x))

-- what the tables before it make
abbrev pub AreReadSoFar : List NamedSystem → StepLog → List Loaded → ReadValue → StepLog → Type 0
AreReadSoFar systems old tables read new = (reads : List TableRead) × AreTablesRead systems old tables reads new × (read ≡ read_of reads)

-- tables were read, and then the next
pub read_on : (systems : List NamedSystem) (old mid new : StepLog) (tables : List Loaded) (i : ℕ) (table : Loaded) (before after : ReadValue) → i < length tables → table ≡ get_or tables i table
    → AreReadSoFar systems old (take i tables) before mid → (r : TableRead) × IsTableRead systems mid table r new × (after ≡ with_read before r) → AreReadSoFar systems old (take (i + 1) tables) after new
read_on systems old mid new tables i table before after within is (reads, prefix, before_is) (r, read, after_is) =
    let tables_are : take (i + 1) tables ≡ take i tables ++ table ∷ [] = take_more tables i table within ∙ ap (λ (t : Loaded). take i tables ++ t ∷ []) (sym is) in (
      reads ++ r ∷ [],
      subst (λ (ts : List Loaded). AreTablesRead systems old ts (reads ++ r ∷ []) new) (sym tables_are) (one_more_read systems old mid new (take i tables) reads table r prefix read),
      after_is ∙ ap (λ (v : ReadValue). with_read v r) before_is ∙ read_more reads r,
    )

-- tables were read, and then reading stopped
reading_fault : (systems : List NamedSystem) (old mid : StepLog) (tables : List Loaded) (i : ℕ) (table : Loaded) (before : ReadValue) (fault : StepFault) → i < length tables → table ≡ get_or tables i table
    → AreReadSoFar systems old (take i tables) before mid → IsTableFault systems mid table fault → IsReadingFault systems old tables fault
reading_fault systems old mid tables i table before fault within is (reads, prefix, before_is) (inl memory) = inl memory
reading_fault systems old mid tables i table before fault within is (reads, prefix, before_is) (inr refused) = inr (one_refused systems old mid tables reads i table fault within is prefix refused)

pub reading_stops : (systems : List NamedSystem) (old mid new : StepLog) (tables : List Loaded) (i : ℕ) (table : Loaded) (before : ReadValue) (fault : StepFault) (result : Result ReadValue StepFault) → i < length tables → table ≡ get_or tables i table
    → AreReadSoFar systems old (take i tables) before mid → IsTableFault systems mid table fault → IsErrAnd result (λ e. e ≡ fault) → ReadsTables systems old tables result new
reading_stops systems old mid new tables i table before fault (Ok read) within is prefix stops same = absurd same
reading_stops systems old mid new tables i table before fault (Err e) within is prefix stops same =
    subst (IsReadingFault systems old tables) (sym same) (reading_fault systems old mid tables i table before fault within is prefix stops)

-- a table is read as its steps answer
module _ (systems : List NamedSystem) (old new : StepLog) (table : Loaded) (tracks : List SystemValue) (under : AreSystemsUnder systems table.listed.header tracks) where
  pub relation_read : {X : Type 0} (value : X → RelationValue) (result : Result X StepFault) → IfOk result (λ x. DoesTable tracks table.listed old (Ok (value x)) new) → IfOk result (λ x. IsReadRelation systems old table (value x) new)
  relation_read value (Ok x) done = λ name is. record { file_is = is; tracks = tracks; over = under; done = done }
  relation_read value (Err fault) done = tt

  pub word_read : {X : Type 0} (value : X → WordValue) (result : Result X StepFault) → IfOk result (λ x. DoesWord tracks table.listed old (Ok (value x)) new) → IfOk result (λ x. IsReadWord systems old table (value x) new)
  word_read value (Ok x) done = λ name is. record { file_is = is; tracks = tracks; over = under; done = done }
  word_read value (Err fault) done = tt

  refused_as : (file : File) (fault : StepFault) → table.file ≡ file → PassesFile file old tracks table.listed fault → IsTableFault systems old table fault
  refused_as file fault is passes = inr (record { tracks = tracks; over = under; passes = subst (λ (f : File). PassesFile f old tracks table.listed fault) (sym is) passes })

  pub relation_stopped : {X : Type 0} (name : List ℕ) (result : Result X StepFault) → table.file ≡ Automaton name → IfErr result (λ fault. IsNotMade (DoesTable tracks table.listed) old fault new) → IfErr result (IsTableFault systems old table)
  relation_stopped name (Ok x) is stops = tt
  relation_stopped name (Err fault) is (inl memory) = inl memory
  relation_stopped name (Err fault) is (inr refused) = refused_as (Automaton name) fault is (new, refused)

  pub word_stopped : {X : Type 0} (name : List ℕ) (result : Result X StepFault) → table.file ≡ Word name → IfErr result (λ fault. IsNotMade (DoesWord tracks table.listed) old fault new) → IfErr result (IsTableFault systems old table)
  word_stopped name (Ok x) is stops = tt
  word_stopped name (Err fault) is (inl memory) = inl memory
  word_stopped name (Err fault) is (inr refused) = refused_as (Word name) fault is (new, refused)

-- what reading a word asks for of a table and its systems
pub record MayReadWord (listed : Listed) (tracks : List SystemValue) : Type 0 where
  pub states : 0 < length listed.outputs
  pub word : IsWordListed listed
  pub count : length tracks ≡ length (digits_in listed.header)
  pub shared_direction : ShareDirection tracks

pub may_read_word : (systems : List NamedSystem) (table : Loaded) (name : List ℕ) (tracks : List SystemValue) → table.file ≡ Word name → IsReadable systems table → AreSystemsUnder systems table.listed.header tracks → MayReadWord table.listed tracks
may_read_word systems table name tracks file_is readable under =
    let word : IsWordListed table.listed = readable.is_word name file_is in
    let for_word : AreForTracks (Systems word.names) tracks = subst (λ (h : Header). AreForTracks h tracks) word.header (readable_tracks systems table tracks readable under) in
    record {
      states = readable.is_table (ap has_states word.header);
      word = word;
      count = for_word.0 ∙ sym (ap (λ (h : Header). length (digits_in h)) word.header ∙ length-map word.names (λ (n : List ℕ). Below (digit_limit n)));
      shared_direction = for_word.1;
    }

-- one table is added
pub relation_added : (systems : List NamedSystem) (old new : StepLog) (table : Loaded) (name : List ℕ) (r : RelationValue) (before after : ReadValue) → IsRelationRead systems old table (record { name = name; relation = r }) new
    → after ≡ record { relations = with_relation before.relations name r; words = before.words } → (q : TableRead) × IsTableRead systems old table q new × (after ≡ with_read before q)
relation_added systems old new table name r before after read is = (ARelation (record { name = name; relation = r }), read, is)

pub word_added : (systems : List NamedSystem) (old new : StepLog) (table : Loaded) (name : List ℕ) (w : WordValue) (before after : ReadValue) → IsWordRead systems old table (record { name = name; word = w }) new
    → after ≡ record { relations = before.relations; words = with_word before.words name w } → (q : TableRead) × IsTableRead systems old table q new × (after ≡ with_read before q)
word_added systems old new table name w before after read is = (AWord (record { name = name; word = w }), read, is)
