-- How the plans of a list are made of earlier ones, which are given by their places.
use Rattle.std.specs.Prelude.{◌≡◌, ℕ, ◌<◌, List, [], ◌∷◌, ◌++◌, map, length, slice_index_or, Option, None, Some, ⊤}
use Rattle.std.specs.List.{fold}
use Rattle.digit_tuple.specs.declared.kind.Kind.{Kind}
use Rattle.digit_tuple.specs.declared.kind.Kind.TheVariants.{Const, Product, Complement as ByComplement, Project}
use Rattle.formula_parse.specs.Views.{relation_view, connective_view}
use Rattle.term_plans.specs.Tracks as tracks
use Rattle.term_plans.specs.Plans.{Plan, compared, added, number, called, lettered, renamed, constant, joined, paired, complement, projected}
use Rattle.term_plans.specs.declared.track.Track.{Track}
use Rattle.term_plans.specs.declared.track.Track.TheVariants.{Own, Fresh}
use Rattle.term_plans.specs.declared.making.Making.{Making}
use Rattle.term_plans.specs.declared.making.Making.TheVariants.{Compared, Added, Number, Called, Lettered, Renamed, Constant, Joined, Paired, Complement, Projected}

abbrev pub track_view : Track → tracks.Track
track_view (Own n) = tracks.own n
track_view (Fresh k) = tracks.fresh k

-- the plan at a place; of a place past the end, any
abbrev pub plan_at : List Plan → ℕ → Plan
plan_at plans i = slice_index_or plans i (number [] (tracks.fresh 0))

-- what is made of the plans of a list
abbrev pub plan_by : List Plan → Making → Plan
plan_by plans (Compared y r s t) = compared y (relation_view r) (track_view s) (track_view t)
plan_by plans (Added y s t u) = added y (track_view s) (track_view t) (track_view u)
plan_by plans (Number y t) = number y (track_view t)
plan_by plans (Called n ts) = called n (map track_view ts.items)
plan_by plans (Lettered n ts r l) = lettered n (map track_view ts.items) (relation_view r) l
plan_by plans (Renamed s t p) = renamed (track_view s) (track_view t) (plan_at plans p)
plan_by plans (Constant y c t) = constant y c (track_view t)
plan_by plans (Joined j p q) = joined (connective_view j) (plan_at plans p) (plan_at plans q)
plan_by plans (Paired n ts r w us) = paired n (map track_view ts.items) (relation_view r) w (map track_view us.items)
plan_by plans (Complement p) = complement (plan_at plans p)
plan_by plans (Projected t p) = projected (track_view t) (plan_at plans p)

-- it is made of what is at places below this one
abbrev pub IsOf : ℕ → Making → Type 0
IsOf k (Compared y r s t) = ⊤
IsOf k (Added y s t u) = ⊤
IsOf k (Number y t) = ⊤
IsOf k (Called n ts) = ⊤
IsOf k (Lettered n ts r l) = ⊤
IsOf k (Renamed s t p) = p < k
IsOf k (Constant y c t) = ⊤
IsOf k (Joined j p q) = (p < k) × (q < k)
IsOf k (Paired n ts r w us) = ⊤
IsOf k (Complement p) = p < k
IsOf k (Projected t p) = p < k

-- the plan at a place is made so, of earlier ones
pub record IsMakingAt (plans : List Plan) (i : ℕ) (m : Making) : Type 0 where
  pub of_earlier : IsOf i m
  pub makes : plan_by plans m ≡ plan_at plans i

-- a making for each plan
pub record AreMakingsOf (plans : List Plan) (ms : List Making) : Type 0 where
  pub as_many : length ms ≡ length plans
  pub each : (i : ℕ) (d : Making) → i < length ms → IsMakingAt plans i (slice_index_or ms i d)

-- what makings make, one after another
abbrev pub unfolded : List Making → List Plan
unfolded ms = fold (λ (plans : List Plan) (m : Making). plans ++ plan_by plans m ∷ []) [] ms

-- the kind of its step, if it is made by one
abbrev pub kind_of : Making → Option Kind
kind_of (Compared y r s t) = None
kind_of (Added y s t u) = None
kind_of (Number y t) = None
kind_of (Called n ts) = None
kind_of (Lettered n ts r l) = None
kind_of (Renamed s t p) = None
kind_of (Constant y c t) = Some Const
kind_of (Joined j p q) = Some Product
kind_of (Paired n ts r w us) = Some Product
kind_of (Complement p) = Some ByComplement
kind_of (Projected t p) = Some Project
