use Rattle.std.proofs.Common.{◌≡◌, ◌+◌, ℕ, List, None, Some, length, sym, ap, ◌∙◌, subst, arith}
use Rattle.std.proofs.lemmas.Result.{IfOk-weaker}
use Rattle.digit_tuple.specs.Deterministic.{Automaton}
use Rattle.word_walk.specs.Lengths.{HasNoLength, IsFirstLonger}
use Rattle.word_walk.specs.Raising.{raised}
use Rattle.word_walk.specs.Walks.{WalkValue}
use Rattle.word_walk.proofs.RaisingLemmas.{HasNoneAfter, IsRaised, Raises, raised-raises}
use Rattle.word_walk.proofs.ValueLemmas.{IsLast-as, IsNext-as, map_none, map_some, match_weaker}
use Rattle.word_walk.proofs.WalkLemmas.{IsLast-first, IsLast-longer, IsNext-first, IsNext-longer, IsNext-raised}
use Rattle.word_walk.proofs.walk.Walk.following.Goals as goal

pub returns-in-None-clause-word : goal.returns-in-None-clause-word
returns-in-None-clause-word c =
    let walk : WalkValue = c.args.self.now in
    let d : Automaton = c.self.inside.listing.dfa in
    let table = c.self.inside.listing.is_table in
    let listing : d ≡ walk.listing = ap (λ (x : WalkValue). x.listing) c.self.view_is in
    let place : walk.place ≡ None = sym (ap (λ (x : WalkValue). x.place) c.self.view_is) ∙ map_none _ _ c.in-None.is in
    IfOk-weaker c.longer.result _ _
    (λ found is. match_weaker found
    (λ none. IsLast-as walk d None listing place (IsLast-first d table none))
    (λ word first. IsNext-as walk d None word.items listing place (IsNext-first d table word.items first)) is)
    c.longer.ensures.word

pub returns-in-Some-2-clause-word : goal.returns-in-Some-2-clause-word
returns-in-Some-2-clause-word c =
    let walk : WalkValue = c.args.self.now in
    let d : Automaton = c.self.inside.listing.dfa in
    let table = c.self.inside.listing.is_table in
    let w : List ℕ = c.in-Some.place.items in
    let v : List ℕ = c.in-Some-2.word.items in
    let listing : d ≡ walk.listing = ap (λ (x : WalkValue). x.listing) c.self.view_is in
    let place : walk.place ≡ Some w = sym (ap (λ (x : WalkValue). x.place) c.self.view_is) ∙ map_some _ _ _ c.in-Some.is in
    let same : raised d 0 w ≡ Some v = ap (raised d 0) (sym c.deref.ensures.value) ∙ sym c.in_ok-word-in-Some.ensures.raised ∙ map_some _ _ _ c.in-Some-2.is in
    let is : IsRaised d 0 w v = subst (Raises d 0 w) same (raised-raises d table w 0 table.initial) in
    IsNext-as walk d (Some w) v listing place (IsNext-raised d table w v is)

pub returns-in-None-2-clause-word : goal.returns-in-None-2-clause-word
returns-in-None-2-clause-word c =
    let walk : WalkValue = c.args.self.now in
    let before : Automaton = c.self.inside.listing.dfa in
    let d : Automaton = c.raised.new.self.dfa in
    let table = c.raised.new.self.is_table in
    let w : List ℕ = c.in-Some.place.items in
    let listing : d ≡ walk.listing = c.in_ok-word-in-Some.ensures.same ∙ ap (λ (x : WalkValue). x.listing) c.self.view_is in
    let place : walk.place ≡ Some w = sym (ap (λ (x : WalkValue). x.place) c.self.view_is) ∙ map_some _ _ _ c.in-Some.is in
    let same : raised before 0 w ≡ None = ap (raised before 0) (sym c.deref.ensures.value) ∙ sym c.in_ok-word-in-Some.ensures.raised ∙ map_none _ _ c.in-None-2.is in
    let nothing : raised d 0 w ≡ None = ap (λ (x : Automaton). raised x 0 w) c.in_ok-word-in-Some.ensures.same ∙ same in
    let none : HasNoneAfter d 0 w = subst (Raises d 0 w) nothing (raised-raises d table w 0 table.initial) in
    let size : c.len.result ≡ length w = omega (arith, c.len.ensures) in
    IfOk-weaker c.longer-in-None-2.result _ _
    (λ found is. match_weaker found
    (λ empty. IsLast-as walk d (Some w) listing place (IsLast-longer d table w none (subst (λ (n : ℕ). HasNoLength d (n + 1)) size empty)))
    (λ word first. IsNext-as walk d (Some w) word.items listing place (IsNext-longer d table w none word.items (subst (λ (n : ℕ). IsFirstLonger d (n + 1) word.items) size first))) is)
    c.longer-in-None-2.ensures.word
