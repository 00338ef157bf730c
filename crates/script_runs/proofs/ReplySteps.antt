-- One item and its reply.
use Rattle.std.proofs.Common.{◌≡◌, ℕ, ◌<◌, ◌≤◌, Bool, List, length, Vec, Global, Option, None, Some, IfSome, IsTrue, Result, Ok, Err, refl, sym, ap, ◌∙◌, subst, inl, inr, arith}
use Rattle.std.specs.Option.{is_some}
use Rattle.wal_outside.specs.Files.{Files}
use Rattle.wal_outside.specs.Places.{Place}
use Rattle.wal_outside.specs.Views.{StoreView}
use Rattle.script_cut.specs.Cuts.{Ended, Terminated, Unterminated, PastLimit, Item}
use Rattle.script_runs.specs.declared.deed.Deed.{Deed as Done}
use Rattle.script_runs.specs.declared.deed.Deed.TheVariants as deeds
use Rattle.script_runs.specs.declared.coming.ItemText.{ItemText}
use Rattle.script_runs.specs.declared.coming.ItemText.TheVariants as texts
use Rattle.script_runs.specs.declared.script_fault.ScriptFault.{ScriptFault}
use Rattle.script_runs.specs.declared.script_fault.ScriptFault.TheVariants as script
use Rattle.script_runs.specs.Languages.{CommandLanguage, Enters, Loads, Ends, Reply, IsSound}
use Rattle.script_runs.specs.Replies.{IsReplyOf, Changes, Stored, State, Replies, ledger_after, room_after, Gives, AnswersCommand}
use Rattle.script_runs.specs.Printed.{is_shown}
use Rattle.script_runs.specs.Handing.{MayLoad}
use Rattle.script_runs.specs.Coming.{IsTextOf, IsItem}
use Rattle.script_runs.specs.Taking.{HasReplied, Pays, state}

-- where the ledger is the one by which a command is answered, it is so whatever the store reports
pub own_ledger : {L : Type 0} (reported : Option Files) (ledger : L) → IfSome reported (λ (files : Files). ledger ≡ ledger)
own_ledger None ledger = tt
own_ledger (Some files) ledger = refl

none_is_none : (place : Option Place) → place ≡ None → IsTrue (is_some place) → ⊥
none_is_none None is some = cc
none_is_none (Some place) is some = cc

-- a fault that is not the store's leaves the store as it was
pub kept_store : {F : Type 0} (l : CommandLanguage F) (known : l.Ledger) (store : StoreView) (fault : F) → l.failed_at fault ≡ None → Stored l known store (Err fault) store
kept_store l known store fault other = record { files = refl; later = omega arith; cause = λ is. absurd (none_is_none (l.failed_at fault) other is); failed = rw other refl }

module _ {F : Type 0} (l : CommandLanguage F) (sound : IsSound l) (depth : ℕ) where
  same_files : (ledger : l.Ledger) (old new : Option Files) → IfSome old (l.stores ledger) → new ≡ old → IfSome new (l.stores ledger)
  same_files ledger old new stores is = let P : Option Files → Type 0 = λ files. IfSome files (l.stores ledger) in subst P (sym is) stores

  -- the files stay those of the ledger with each reply
  pub stores_after : (ledger known : l.Ledger) (text : List ℕ) (reply : Reply l) (old new : Option Files)
      → l.answers depth known text reply → IfSome old (l.stores ledger) → IfSome old (λ (files : Files). known ≡ ledger) → Changes l known old reply new → IfSome new (l.stores (ledger_after l ledger reply))
  stores_after ledger known text (Ok (Enters success)) old new answered stores known_is changed = sound.after_stores depth ledger known text success old new answered stores known_is changed
  stores_after ledger known text (Ok (Loads loaded)) old new answered stores known_is is = same_files ledger old new stores is
  stores_after ledger known text (Ok Ends) old new answered stores known_is is = same_files ledger old new stores is
  stores_after ledger known text (Err fault) old new answered stores known_is is = same_files ledger old new stores is

  -- a refusal changes no file
  pub stores_refused : (ledger known : l.Ledger) (fault : F) (old new : Option Files) → IfSome old (l.stores ledger) → Changes l known old (Err fault) new → IfSome new (l.stores ledger)
  stores_refused ledger known fault old new stores is = same_files ledger old new stores is

  -- and so after each item
  pub stores_replied : (old : State l) (item : Item) (reply : Reply l) (store : StoreView) → Replies l depth old (record { item = item; reply = reply }) store → IfSome old.store.files (l.stores old.ledger) → IfSome store.files (l.stores (ledger_after l old.ledger reply))
  stores_replied old item reply store r stores = by_ended item.ended r.replied
    where
      refused : (fault : F) → reply ≡ Err fault → IfSome store.files (l.stores (ledger_after l old.ledger reply))
      refused fault is =
          let P : Reply l → Type 0 = λ x. Changes l r.known old.store.files x store.files in
          let Q : Reply l → Type 0 = λ x. IfSome store.files (l.stores (ledger_after l old.ledger x)) in
          subst Q (sym is) (stores_refused old.ledger r.known fault old.store.files store.files stores (subst P is r.stored.files))

      by_ended : (ended : Ended) → IsReplyOf l ended depth old.room r.known item.text reply → IfSome store.files (l.stores (ledger_after l old.ledger reply))
      by_ended (Terminated shown) (inl answered) = stores_after old.ledger r.known item.text reply old.store.files store.files answered.0 stores r.known_is r.stored.files
      by_ended (Terminated shown) (inr passes) = refused (l.of_script script.PastLimit) passes.3
      by_ended Unterminated (inl long) = refused (l.of_script script.Long) long.1
      by_ended Unterminated (inr short) = refused (l.of_script (script.Unterminated (length item.text))) short.1
      by_ended PastLimit is = refused (l.of_script script.PastLimit) is

  -- a text that is no command is refused, and the store stays
  pub broken_replied : (ledger : l.Ledger) (store : StoreView) (room line : ℕ) (fault : ScriptFault) (cut : Item) → IsItem (record { line = line; text = texts.Broken fault }) cut → HasReplied l depth (state l ledger store room) cut (Err (l.of_script fault)) store room
  broken_replied ledger store room line fault cut is = record {
    reply = Err (l.of_script fault);
    gives = refl;
    replies = record { known = ledger; known_is = own_ledger store.files ledger; replied = by_fault fault cut.ended refl is.text; stored = kept_store l ledger store (l.of_script fault) (sound.not_by_store fault) };
    room_is = refl;
  }
    where
      at_end : (ended : Ended) (len : ℕ) → len ≡ length cut.text → len ≤ 65536 → ended ≡ Unterminated → IsReplyOf l ended depth room ledger cut.text (Err (l.of_script (script.Unterminated len)))
      at_end (Terminated shown) len is short other = absurd (cc)
      at_end Unterminated len is short same = inr (omega arith, ap (λ (n : ℕ). let a : Reply l = Err (l.of_script (script.Unterminated n)) in a) is)
      at_end PastLimit len is short other = absurd (cc)

      past : (ended : Ended) → ended ≡ PastLimit → IsReplyOf l ended depth room ledger cut.text (Err (l.of_script script.PastLimit))
      past (Terminated shown) other = absurd (cc)
      past Unterminated other = absurd (cc)
      past PastLimit same = refl

      long : (ended : Ended) → 65536 < length cut.text → (ended ≡ PastLimit → ⊥) → IsReplyOf l ended depth room ledger cut.text (Err (l.of_script script.Long))
      long (Terminated shown) more not_past = inl (sound.too_long depth ledger cut.text more, tt)
      long Unterminated more not_past = inl (more, refl)
      long PastLimit more not_past = absurd (not_past refl)

      by_fault : (fault : ScriptFault) (ended : Ended) → cut.ended ≡ ended → IsTextOf (texts.Broken fault) cut → IsReplyOf l cut.ended depth room ledger cut.text (Err (l.of_script fault))
      by_fault script.Long ended same text = long cut.ended text.0 text.1
      by_fault (script.Unterminated len) ended same text = at_end cut.ended len text.0 text.1 text.2
      by_fault script.PastLimit ended same text = past cut.ended text

  module _ (ledger : l.Ledger) (old new : StoreView) (text : List ℕ) (shown : Bool) (cut : Item) (text_is : cut.text ≡ text) (ended_is : cut.ended ≡ Terminated shown) where
    -- a command that has its terminator has this reply
    replied_by : (room left : ℕ) (known : l.Ledger) (reply : Reply l) (result : Result Done F) → IfSome old.files (λ (files : Files). known ≡ ledger) → Gives l shown result reply → IsReplyOf l (Terminated shown) depth room known text reply
        → Stored l known old reply new → left ≡ room_after l room reply → HasReplied l depth (state l ledger old room) cut result new left
    replied_by room left known reply result known_is gives replied stored left_is = record {
      reply = reply;
      gives = let P : Bool → Type 0 = λ v. Gives l v result reply in subst P (sym (ap is_shown ended_is)) gives;
      replies = record {
        known = known;
        known_is = known_is;
        replied =
            let P : Ended → Type 0 = λ e. IsReplyOf l e depth room known text reply in
            let Q : List ℕ → Type 0 = λ t. IsReplyOf l cut.ended depth room known t reply in
            subst Q (sym text_is) (subst P (sym ended_is) replied);
        stored = stored;
      };
      room_is = left_is;
    }

    -- a load that passes the limit leaves the store
    refused_load : (known : l.Ledger) (loaded : List ℕ) → Stored l known old (Ok (Loads loaded)) new → Stored l known old (Err (l.of_script script.PastLimit)) new
    refused_load known loaded s = record {
      files = s.files;
      later = s.later;
      cause = λ is. absurd (none_is_none (l.failed_at (l.of_script script.PastLimit)) (sound.not_by_store script.PastLimit) is);
      failed = rw (sound.not_by_store script.PastLimit) s.failed;
    }

    -- a text was loaded, or passes the limit
    load_replied : (room left : ℕ) (known : l.Ledger) (loaded : List ℕ) (file : Vec ℕ Global) (result : Result Done F) → IfSome old.files (λ (files : Files). known ≡ ledger) → file.items ≡ loaded → l.answers depth known text (Ok (Loads loaded))
        → Stored l known old (Ok (Loads loaded)) new → Pays l room (deeds.Loads file) result left → HasReplied l depth (state l ledger old room) cut result new left
    load_replied room left known loaded file result known_is gives answered stored (inl (fits, is, left_is)) =
        let P : Result Done F → Type 0 = λ r. HasReplied l depth (state l ledger old room) cut r new left in
        subst P (sym is) (replied_by room left known (Ok (Loads loaded)) (Ok (deeds.Loads file)) known_is gives (inl (answered, omega (arith, fits, ap length gives))) stored (omega (arith, left_is, ap length gives)))
    load_replied room left known loaded file result known_is gives answered stored (inr (over, is, left_is)) =
        let P : Result Done F → Type 0 = λ r. HasReplied l depth (state l ledger old room) cut r new left in
        subst P (sym is) (replied_by room left known (Err (l.of_script script.PastLimit)) (Err (l.of_script script.PastLimit)) known_is refl (inr (loaded, answered, omega (arith, over, ap length gives), refl)) (refused_load known loaded stored) left_is)

    -- a command was answered, and the bytes of what it loads were counted
    pub command_replied : (room left : ℕ) (done : Done) (result : Result Done F) → AnswersCommand l depth ledger old text shown (Ok done) new → Pays l room done result left → HasReplied l depth (state l ledger old room) cut result new left
    command_replied room left done result c pays = by_deed done c.reply c.gives c.answered c.stored pays
      where
        by_deed : (done : Done) (reply : Reply l) → Gives l shown (Ok done) reply → l.answers depth c.known text reply → Stored l c.known old reply new → Pays l room done result left → HasReplied l depth (state l ledger old room) cut result new left
        by_deed (deeds.Enters printed) (Ok (Enters success)) gives answered stored (is, left_is) =
            let P : Result Done F → Type 0 = λ r. HasReplied l depth (state l ledger old room) cut r new left in
            subst P (sym is) (replied_by room left c.known (Ok (Enters success)) (Ok (deeds.Enters printed)) c.known_is gives (inl (answered, tt)) stored left_is)
        by_deed (deeds.Enters printed) (Ok (Loads loaded)) gives answered stored pays = absurd gives
        by_deed (deeds.Enters printed) (Ok Ends) gives answered stored pays = absurd gives
        by_deed (deeds.Enters printed) (Err fault) gives answered stored pays = absurd gives
        by_deed (deeds.Loads file) (Ok (Enters success)) gives answered stored pays = absurd gives
        by_deed (deeds.Loads file) (Ok (Loads loaded)) gives answered stored pays = load_replied room left c.known loaded file result c.known_is gives answered stored pays
        by_deed (deeds.Loads file) (Ok Ends) gives answered stored pays = absurd gives
        by_deed (deeds.Loads file) (Err fault) gives answered stored pays = absurd gives
        by_deed deeds.Ends (Ok (Enters success)) gives answered stored pays = absurd gives
        by_deed deeds.Ends (Ok (Loads loaded)) gives answered stored pays = absurd gives
        by_deed deeds.Ends (Ok Ends) gives answered stored (is, left_is) =
            let P : Result Done F → Type 0 = λ r. HasReplied l depth (state l ledger old room) cut r new left in
            subst P (sym is) (replied_by room left c.known (Ok Ends) (Ok deeds.Ends) c.known_is gives (inl (answered, tt)) stored left_is)
        by_deed deeds.Ends (Err fault) gives answered stored pays = absurd gives

    -- or refused
    pub refusal_replied : (room : ℕ) (fault : F) → AnswersCommand l depth ledger old text shown (Err fault) new → HasReplied l depth (state l ledger old room) cut (Err fault) new room
    refusal_replied room fault c = by_reply c.reply c.gives c.answered c.stored
      where
        by_reply : (reply : Reply l) → Gives l shown (Err fault) reply → l.answers depth c.known text reply → Stored l c.known old reply new → HasReplied l depth (state l ledger old room) cut (Err fault) new room
        by_reply (Ok deed) gives answered stored = absurd gives
        by_reply (Err refusal) gives answered stored = replied_by room room c.known (Err refusal) (Err fault) c.known_is gives (inl (answered, tt)) stored refl

-- what is paid for is loaded where it may be
pub may_pay : {F : Type 0} (l : CommandLanguage F) (depth room left : ℕ) (done : Done) (result : Result Done F) → Pays l room done result left → MayLoad {F = F} depth (Ok done) → MayLoad depth result
may_pay {F} l depth room left (deeds.Enters printed) result (is, left_is) may = subst (λ (r : Result Done F). MayLoad depth r) (sym is) tt
may_pay {F} l depth room left (deeds.Loads text) result (inl (fits, is, left_is)) may = subst (λ (r : Result Done F). MayLoad depth r) (sym is) may
may_pay {F} l depth room left (deeds.Loads text) result (inr (over, is, left_is)) may = subst (λ (r : Result Done F). MayLoad depth r) (sym is) tt
may_pay {F} l depth room left deeds.Ends result (is, left_is) may = subst (λ (r : Result Done F). MayLoad depth r) (sym is) tt

-- a command is within the limit
pub no_command : (item : ItemText) (text : Vec ℕ Global) (shown : Bool) → item ≡ texts.Command text shown → item ≡ texts.Broken script.PastLimit → ⊥
no_command item text shown is past = cc

-- a text past the limit is refused for that
pub refused_past : {F : Type 0} (l : CommandLanguage F) (item : ItemText) (fault : ScriptFault) (refusal : F) → item ≡ texts.Broken fault → item ≡ texts.Broken script.PastLimit → refusal ≡ l.of_script fault → (let r : Result Done F = Err refusal in r) ≡ Err (l.of_script script.PastLimit)
refused_past {F} l item fault refusal is past refused = let same : fault ≡ script.PastLimit = cc in ap (λ (f : F). let r : Result Done F = Err f in r) (refused ∙ ap l.of_script same)
