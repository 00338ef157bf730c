-- Two readers, their tables and the states of keys.
use Rattle.std.proofs.Common.{◌≡◌, ℕ, ◌<◌, List, length, get_or, refl, sym, ap, ◌∙◌, subst, arith}
use Rattle.std.specs.List.{Contains}
use Rattle.std.proofs.lemmas.List.{get_or-map, length-map}
use Rattle.std.proofs.lemmas.List.Elements.{All-contains}
use Rattle.digit_tuple.specs.Deterministic.{Automaton}
use Rattle.product_op.specs.declared.op.Op.{Op}
use Rattle.product_op.specs.declared.reader.Reader.{Reader}
use Rattle.product_op.specs.DeadPairs.{ArePair}
use Rattle.product_op.specs.PairLists.{HoldLive}
use Rattle.product_op.specs.Readings.{AreStates, IsReading, Reading, automata_in, no_reading, reading_at, reading_in, readings_in}
use Rattle.product_op.proofs.ReaderLemmas.{length-readings, reading_at-reader}

pub length-automata : (rs : List Reading) → length (automata_in rs) ≡ length rs
length-automata rs = length-map rs (λ (r : Reading). r.automaton)

module _ (letters : ℕ) (op : Op) (readers : List Reader) (pair : ArePair letters op (readings_in readers)) where
  pub length-pair : length readers ≡ 2
  length-pair = sym (length-readings readers) ∙ pair.count

  -- one of the keys has two states
  pub length-key : (keys : List (List ℕ)) (key : List ℕ) → HoldLive letters op (readings_in readers) keys → Contains keys key → length key ≡ 2
  length-key keys key live there = (All-contains (AreStates (readings_in readers)) keys key live.states there).count ∙ pair.count

  pub reading-at : (i : ℕ) (r : Reader) → i < 2 → r ≡ get_or readers i r → reading_at (readings_in readers) i ≡ reading_in r
  reading-at i r less is = reading_at-reader readers i r (omega (arith, less, length-pair)) is

  pub IsReading-at : (i : ℕ) (r : Reader) → i < 2 → r ≡ get_or readers i r → IsReading (length r.parts) (reading_in r)
  IsReading-at i r less is =
      let reading : IsReading letters (reading_in r) = subst (IsReading letters) (reading-at i r less is) (pair.readings_are i no_reading (omega (arith, less, pair.count))) in
      record { table = reading.table; count = refl; within = reading.within }

  -- the table of a reader is that of its automaton
  pub table-at : (tables : List Automaton) (i : ℕ) (r : Reader) (table : Automaton) → tables ≡ automata_in (readings_in readers) → i < 2 → r ≡ get_or readers i r → get_or tables i table ≡ r.dfa.now
  table-at tables i r table same less is =
      ap (λ (ts : List Automaton). get_or ts i table) same ∙ get_or-map (λ (x : Reading). x.automaton) (readings_in readers) i no_reading table (omega (arith, less, pair.count))
      ∙ ap (λ (x : Reading). x.automaton) (reading-at i r less is)
