-- A run over a text that was loaded: between two items, and at its end.
use Rattle.std.proofs.Common.{◌≡◌, ◌≢◌, ℕ, zero, suc, ◌<◌, List, Some, IfSome, Result, Ok, refl, subst, arith}
use Rattle.wal_outside.specs.Views.{SourceView, StoreView, SinkView}
use Rattle.script_cut.specs.Cuts.{Item as CutItem, PastLimit, Rest, Next, start}
use Rattle.script_cut.specs.Kept.{Kept, fresh}
use Rattle.script_cut.specs.Cutting.{place_of, GivesItem, HasCut}
use Rattle.script_cut.specs.declared.cut.Cut.{Cut}
use Rattle.script_cut.specs.declared.cut.Cut.TheVariants as cuts
use Rattle.script_cut.specs.declared.cut.CutFault.{CutFault}
use Rattle.script_cut.proofs.ReportedItem.{reported_item}
use Rattle.script_runs.specs.declared.coming.Coming.TheVariants as coming
use Rattle.script_runs.specs.declared.coming.Item.{Item}
use Rattle.script_runs.specs.declared.coming.ItemText.TheVariants as texts
use Rattle.script_runs.specs.declared.script_fault.ScriptFault.TheVariants as script
use Rattle.script_runs.specs.declared.flow.Flow.{Flow}
use Rattle.script_runs.specs.declared.flow.Flow.TheVariants as flows
use Rattle.script_runs.specs.declared.tally.Tally.{Tally}
use Rattle.script_runs.specs.Languages.{CommandLanguage}
use Rattle.script_runs.specs.Coming.{coming_of, IsItem}
use Rattle.script_runs.specs.Taking.{TakesItem, TakesText, state}
use Rattle.script_runs.proofs.Reached.{Reached, begins, reached_more, reached_cut, reached_end, reached_memory}
use Rattle.script_runs.proofs.Cutting.{Comes, comes, ended_before}

-- where a run over a text is, whatever is known of the store that it began with
abbrev pub HasReachedIn : {F : Type 0} (l : CommandLanguage F) → ℕ → List ℕ → StoreView → ℕ → StoreView → ℕ → Rest → SinkView → SinkView → Tally → Tally → Type 0
HasReachedIn l depth text old room now left place held out first tally =
    (ledger : l.Ledger) → IfSome old.files (l.stores ledger) → (known : l.Ledger) × Reached l depth (start text) (state l ledger old room) place (state l known now left) held out first tally

-- how a run over a text ended
abbrev pub TakesAll : {F : Type 0} (l : CommandLanguage F) → ℕ → List ℕ → StoreView → ℕ → StoreView → ℕ → SinkView → SinkView → Tally → Tally → Flow → Type 0
TakesAll l depth text old room now left held out first tally flow =
    (ledger : l.Ledger) → IfSome old.files (l.stores ledger) → (known : l.Ledger) × (end : Rest) × TakesText l depth (state l ledger old room) text held first flow end (state l known now left) out tally

-- how one item was answered
abbrev pub TakesOne : {F : Type 0} (l : CommandLanguage F) → ℕ → Item → StoreView → ℕ → StoreView → ℕ → SinkView → SinkView → Tally → Tally → Flow → Type 0
TakesOne l depth item old room now left held out first tally flow =
    (cut : CutItem) → IsItem item cut → (ledger : l.Ledger) → IfSome old.files (l.stores ledger) → (known : l.Ledger) × TakesItem l depth (state l ledger old room) cut held first flow (state l known now left) out tally

-- what holds of a language holds of it under another name
pub under : {A F : Type 0} (language : A → CommandLanguage F) (P : CommandLanguage F → Type 0) (a b : A) → a ≡ b → P (language a) → P (language b)
under {A} language P a b is x = subst (λ (c : A). P (language c)) is x

module _ {F : Type 0} (l : CommandLanguage F) (text : List ℕ) (old : StoreView) (room : ℕ) (held : SinkView) (first : Tally) where
  pub text_first : (depth : ℕ) → HasReachedIn l depth text old room old room (place_of fresh text) held held first first
  text_first depth = λ ledger stores. (ledger, begins l depth (start text) (state l ledger old room) held first stores)

  module _ (from to : SourceView) (kept next : Kept) (result : Result Cut CutFault) (left after : List ℕ) (cut : HasCut kept from result next to) (left_is : from.left ≡ Some left) (after_is : to.left ≡ Some after)
      (now : StoreView) (may : ℕ) (out : SinkView) (tally : Tally) where
    gives : GivesItem (place_of kept left) result (place_of next after)
    gives = reported_item kept from result next to cut left after left_is after_is

    -- the text's end
    pub text_ends : (depth : ℕ) → result ≡ Ok cuts.End → HasReachedIn l depth text old room now may (place_of kept left) held out first tally → TakesAll l depth text old room now may held out first tally flows.GoesOn
    text_ends depth is reached = λ ledger stores.
        let s = reached ledger stores in
        let P : Result Cut CutFault → Type 0 = λ r. GivesItem (place_of kept left) r (place_of next after) in
        (s.0, place_of kept left, reached_end l depth (start text) (state l ledger old room) held first text (place_of kept left) (state l s.0 now may) out tally refl (subst P is gives) s.1)

    module _ (item : Item) (item_is : coming_of result ≡ coming.Item item) (flow : Flow) (new : StoreView) (less : ℕ) (later : SinkView) (counted : Tally) where
      co : Comes item (place_of kept left) (place_of next after)
      co = comes result item (place_of kept left) (place_of next after) item_is gives

      -- what came of an item
      abbrev Taken : ℕ → Type 0
      Taken depth = (cut : CutItem) → IsItem item cut → (ledger : l.Ledger) → IfSome now.files (l.stores ledger) → (known : l.Ledger) × TakesItem l depth (state l ledger now may) cut out tally flow (state l known new less) later counted

      -- an item was answered, and more comes
      pub text_next : (depth : ℕ) → 0 < depth → flow ≡ flows.GoesOn → item.text ≢ texts.Broken script.PastLimit → Taken depth
          → HasReachedIn l depth text old room now may (place_of kept left) held out first tally → HasReachedIn l depth text old room new less (place_of next after) held later first counted
      text_next zero some on other taken reached = absurd (omega arith)
      text_next (suc depth) some on other taken reached = λ ledger stores.
          let s = reached ledger stores in
          let t = taken co.cut co.is_item s.0 s.1.stores in
          let P : Rest → Type 0 = λ place. Next (place_of kept left) co.cut place in
          let Q : Flow → Type 0 = λ f. TakesItem l (suc depth) (state l s.0 now may) co.cut out tally f (state l t.0 new less) later counted in (
            t.0,
            reached_more l (suc depth) (start text) (state l ledger old room) held first (place_of kept left) (place_of next after) co.cut (state l s.0 now may) (state l t.0 new less) out later tally counted
                (subst P (co.follows (ended_before item co.cut co.is_item other)) co.next) s.1 (subst Q on t.1),
          )

      -- the run ended with it
      pub text_cut : (depth : ℕ) → 0 < depth → flow ≢ flows.GoesOn → Taken depth
          → HasReachedIn l depth text old room now may (place_of kept left) held out first tally → TakesAll l depth text old room new less held later first counted flow
      text_cut zero some ends taken reached = absurd (omega arith)
      text_cut (suc depth) some ends taken reached = λ ledger stores.
          let s = reached ledger stores in
          let t = taken co.cut co.is_item s.0 s.1.stores in
          (t.0, co.last, reached_cut l (suc depth) (start text) (state l ledger old room) held first (place_of kept left) co.last co.cut (state l s.0 now may) (state l t.0 new less) out later tally counted co.next text flow ends refl s.1 t.1)

  -- there was no memory to cut it
  pub text_memory : (depth : ℕ) (place : Rest) (now : StoreView) (may : ℕ) (out : SinkView) (tally : Tally) → HasReachedIn l depth text old room now may place held out first tally → TakesAll l depth text old room now may held out first tally flows.WantsMemory
  text_memory depth place now may out tally reached = λ ledger stores.
      let s = reached ledger stores in
      (s.0, place, reached_memory l depth (start text) (state l ledger old room) held first text place (state l s.0 now may) out tally refl s.1)
