-- The tracks of a word's header.
use Rattle.std.proofs.Common.{◌≡◌, ℕ, ◌<◌, List, length, ap, ◌∙◌, arith}
use Rattle.std.proofs.lemmas.List.{length-map}
use Rattle.dfa_reading.specs.Branching.{sizes_in}
use Rattle.dfa_reading.specs.Headers.{Below, Header, digits_in}
use Rattle.dfa_reading.specs.Listed.{Listed}
use Rattle.dfa_reading.specs.Systems.{digit_limit}
use Rattle.dfa_reading.specs.WordFiles.{IsWordListed}
use Rattle.num_system.specs.Sealed.{SystemValue}

module _ (listed : Listed) (are : IsWordListed listed) where
  -- the digits of its systems are the sizes of the tracks
  pub word_sizes : (digits : List ℕ) → sizes_in listed.header digits ≡ digits
  word_sizes digits = ap (λ (header : Header). sizes_in header digits) are.header

  module _ (systems : List SystemValue) (tracks : length systems ≡ length (digits_in listed.header)) where
    count : length systems ≡ length are.names
    count = tracks ∙ ap (λ (header : Header). length (digits_in header)) are.header ∙ length-map are.names (λ name. Below (digit_limit name))

    -- there is a track
    pub word_tracks : 0 < length systems
    word_tracks = omega (arith, count, are.some)
