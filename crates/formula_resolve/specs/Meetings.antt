-- The systems of two directions that are met, operand by operand.
use Rattle.std.specs.Prelude.{◌≡◌, Bool, true, List, Option, None, Some}
use Rattle.std.specs.Option.{option_map, option_or}
use Rattle.formula_parse.specs.Tokens.{Name}
use Rattle.formula_resolve.specs.Directions.{is_other_direction, least, opposed, first_met, other_met}
use Rattle.formula_resolve.specs.declared.occurrence.Occurrence.{Occurrence}
use Rattle.formula_resolve.specs.declared.meeting.Meeting.{Meeting}

-- those over a system of the other direction than this one; all, where none is given
abbrev pub away_from : Option Name → List Occurrence → List Occurrence
away_from None os = os
away_from (Some s) os = opposed s os

-- whether it is one of those
abbrev pub counts : Option Name → Occurrence → Bool
counts None o = true
counts (Some s) o = is_other_direction s o.system

-- the system that is met first
abbrev pub met_in : Option Name → List Occurrence → Option Name
met_in away os = option_map (λ o. o.system) (least (away_from away os))

-- after a first system, the first of the other direction
abbrev pub other_in : Option Name → List Occurrence → Option Name
other_in None os = None
other_in (Some s) os = met_in (Some s) os

-- what is met in one part more
pub record IsMet (old : Meeting) (part : List Occurrence) (new : Meeting) : Type 0 where
  pub first : new.first ≡ option_or old.first (met_in None part)
  pub other : new.other ≡ option_or old.other (other_in new.first part)

-- what is met in these parts
pub record HasMet (parts : List (List Occurrence)) (m : Meeting) : Type 0 where
  pub first : m.first ≡ first_met parts
  pub other : m.other ≡ other_met (first_met parts) parts
