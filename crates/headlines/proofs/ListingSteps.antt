-- What is printed of the words that an automaton lists.
use Rattle.std.proofs.Common.{◌≡◌, ℕ, Bool, true, false, List, Some, Ok, codes, refl, sym, ap, ◌∙◌, subst}
use Rattle.command_head.specs.Grammar.{DerivesName, DerivesTest}
use Rattle.command_head.specs.Heads.{TestHead}
use Rattle.command_head.specs.Parts.{parts_of, texts_of}
use Rattle.dfa_loading.specs.declared.loaded.Loaded.{Loaded}
use Rattle.listings.specs.WordLines.{word_lines}
use Rattle.table_listings.specs.declared.question.Question.TheVariants.{Infinity}
use Rattle.definitions.specs.Tracks.{Tracks, letter_sets}
use Rattle.definitions.specs.Trees.{Ledger, custom_of}
use Rattle.command_parts.specs.Accepting.{Said}
use Rattle.command_parts.specs.Checks.{Check}
use Rattle.command_parts.specs.FileChecks.{FilesAnswers}
use Rattle.command_parts.specs.Lines.{said_text, verdict_line}
use Rattle.listing_commands.specs.ListingOutcomes.{AreTableTracks, HasListing, IsReply, Reply, Lines, Verdict, inf_checks, listing_files, reply_text, test_checks, words_asked}
use Rattle.session_cli.proofs.CommandsMade.{inf_made, test_made}
use Rattle.headlines.specs.Sentences.{truth_line}
use Rattle.headlines.specs.Listings.{Infinities, IsAutomatonOf, IsCounted, IsPrinted, IsTested, Tests}
use Rattle.headlines.proofs.AcceptedCommands.{IsSaid, is_said}
use Rattle.headlines.proofs.StepTexts.{said_line}

truth_is : (truth : Bool) → verdict_line (Some truth) ≡ truth_line truth
truth_is true = refl
truth_is false = refl

module _ (limit : ℕ) (ledger : Ledger) (command : List ℕ) (shown : Bool) (printed : List ℕ) (said : Said) (printed_is : printed ≡ said_text shown said) where
  printed_text : (text : List ℕ) → said.text ≡ text → IsPrinted shown printed text
  printed_text text is = subst (λ (t : List ℕ). IsPrinted shown printed t) is (subst (λ (p : List ℕ). IsPrinted shown p said.text) (sym printed_is) (said_line shown said))

  module _ (name : List ℕ) (tables : List Loaded) (loaded : FilesAnswers ledger (listing_files name) (Ok tables)) (tracks : Tracks) (over : AreTableTracks (custom_of ledger) tables tracks) (listing : HasListing ledger name tracks) where
    automaton : IsAutomatonOf ledger name listing.entry tracks
    automaton = record { there = listing.there; tables = tables; loaded = loaded; over = over }

    counted : DerivesName (codes "inf") (texts_of (parts_of command)) name → (reply : Reply) → IsReply listing.lists (letter_sets tracks) Infinity reply → said.text ≡ reply_text reply → IsCounted ledger command shown printed
    counted derived (Lines text) are is = absurd are
    counted derived (Verdict infinite) has is = record {
      name = name;
      derived = derived;
      entry = listing.entry;
      tracks = tracks;
      automaton = automaton;
      infinite = infinite;
      line = printed_text (truth_line infinite) (is ∙ truth_is infinite);
      says = (
        (λ t n. let found = has.0 t n in (found.0, found.1, (listing.decides_words found.0).0 found.2)),
        (λ many. has.1 (λ n. let found = many n in (found.0, found.1, (listing.decides_words found.0).1 found.2))),
      );
    }

  tested : (head : TestHead) → DerivesTest (texts_of (parts_of command)) head → (tables : List Loaded) → FilesAnswers ledger (listing_files head.name) (Ok tables) → (tracks : Tracks) → AreTableTracks (custom_of ledger) tables tracks
      → (listing : HasListing ledger head.name tracks) (reply : Reply) → IsReply listing.lists (letter_sets tracks) (words_asked head) reply → said.text ≡ reply_text reply → IsTested ledger command shown printed
  tested head derived tables loaded tracks over listing (Verdict infinite) has is = absurd has
  tested head derived tables loaded tracks over listing (Lines text) are is = record {
    head = head;
    derived = derived;
    entry = listing.entry;
    tracks = tracks;
    automaton = automaton head.name tables loaded tracks over listing;
    lists = listing.lists;
    decides_words = listing.decides_words;
    place = are.word;
    place_is = are.word_is;
    words = are.lines.lines.words;
    first = are.lines.lines.next;
    lines = printed_text (word_lines (letter_sets tracks) are.lines.lines.words) (is ∙ are.lines.lines.text_is);
  }

  by_test : (test_checks limit ledger command).answers (Ok said) → IsTested ledger command shown printed
  by_test (head, h, (tables, t, (admitted, a, (tracks, over, (on, p, (lines, l, (reply, (listing, answers), is))))))) = tested head h tables t tracks over listing reply answers (ap (λ (s : Said). s.text) is)

  by_inf : (inf_checks limit ledger command).answers (Ok said) → IsCounted ledger command shown printed
  by_inf (name, h, (tables, t, (admitted, a, (tracks, over, (on, p, (lines, l, (reply, (listing, answers), is))))))) = counted name tables t tracks over listing h reply answers (ap (λ (s : Said). s.text) is)

pub tests : Tests
tests limit ledger files old new command shown printed is reported c =
    let checks : Ledger → Check Said = λ known. test_checks limit known command in
    let s : IsSaid (checks ledger) files shown printed new = is_said limit command checks (λ known accepted answered. test_made limit known command accepted is answered) ledger files old new shown printed reported c in
    (by_test limit ledger command shown printed s.said s.printed_is s.made, s.kept)

pub infinities : Infinities
infinities limit ledger files old new command shown printed is reported c =
    let checks : Ledger → Check Said = λ known. inf_checks limit known command in
    let s : IsSaid (checks ledger) files shown printed new = is_said limit command checks (λ known accepted answered. inf_made limit known command accepted is answered) ledger files old new shown printed reported c in
    (by_inf limit ledger command shown printed s.said s.printed_is s.made, s.kept)
