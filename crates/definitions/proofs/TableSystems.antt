-- The systems of a table give its tracks.
use Rattle.std.proofs.Common.{◌≡◌, List, refl, sym, ap, ◌∙◌}
use Rattle.std.proofs.lemmas.List.{length-map}
use Rattle.dfa_reading.specs.Branching.{AreGiven, sizes_in}
use Rattle.dfa_reading.specs.Headers.{Header, Truth, Systems, Sets}
use Rattle.num_system.specs.Sealed.{SystemValue, system_of}
use Rattle.numeration.specs.Representation.{sizes_of}
use Rattle.numeration.specs.Systems.{System}
use Rattle.num_system.specs.Tracks.{systems_of}
use Rattle.definitions.specs.TableSteps.{AreForTracks}

-- the sizes of the tracks are the digit counts of the systems
pub sizes_below : (header : Header) (systems : List SystemValue) → AreForTracks header systems → sizes_in header (sizes_of (systems_of systems)) ≡ sizes_of (systems_of systems)
sizes_below (Truth value) systems is = ap (λ (ss : List SystemValue). sizes_of (systems_of ss)) (sym is)
sizes_below (Systems names) systems is = refl
sizes_below (Sets sets) systems is = absurd is

-- one for each track
pub given_below : (header : Header) (systems : List SystemValue) → AreForTracks header systems → AreGiven header (sizes_of (systems_of systems))
given_below (Truth value) systems is = tt
given_below (Systems names) systems is = length-map (systems_of systems) (λ (s : System). s.digits) ∙ length-map systems system_of ∙ is.0
given_below (Sets sets) systems is = absurd is
