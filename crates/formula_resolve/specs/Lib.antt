-- Definitions that the contracts cite, in reading order.
pub mod Headers
pub mod HeaderViews
pub mod Mentions
pub mod FirstMentions
pub mod Answers
pub mod Arity
pub mod Occurrences
pub mod Scopes
pub mod Clashes
pub mod Firsts
pub mod Directions
pub mod Meetings
pub mod Walks
pub mod FreeVariables
pub mod Resolving
pub mod FreeOccurrences
pub mod Laws
