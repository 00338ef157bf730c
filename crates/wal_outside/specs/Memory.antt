-- What the objects in memory hold.
use Rattle.std.specs.Prelude.{ℕ, List, drop, Option, vec_len}
use Rattle.std.specs.Option.{option_map}
use Rattle.std.specs.String.{string_bytes}
use Rattle.wal_outside.specs.declared.mem_source.MemSource.{MemSource}
use Rattle.wal_outside.specs.declared.mem_source.SureSource.{SureSource}
use Rattle.wal_outside.specs.declared.mem_sink.MemSink.{MemSink}
use Rattle.wal_outside.specs.declared.mem_sink.SureSink.{SureSink}
use Rattle.wal_outside.specs.declared.mem_store.FailedCall.{FailedCall}
use Rattle.wal_outside.specs.declared.mem_store.MemStore.{MemStore}
use Rattle.wal_outside.specs.declared.mem_store.SureStore.{SureStore}
use Rattle.wal_outside.specs.Files.{Files}
use Rattle.wal_outside.specs.Places.{Place}
use Rattle.wal_outside.specs.Shelves.{lookup}

-- the bytes that are left to be read
abbrev pub mem_left : MemSource → List ℕ
mem_left source = drop source.at source.bytes.items

abbrev pub sure_left : SureSource → List ℕ
sure_left source = drop source.at source.bytes.items

-- the bytes that were written
abbrev pub mem_held : MemSink → List ℕ
mem_held sink = sink.held.items

abbrev pub sure_held : SureSink → List ℕ
sure_held sink = sink.held.items

-- the texts by folder and name
abbrev pub mem_files : MemStore → Files
mem_files store = lookup store.shelf.texts.items

abbrev pub sure_files : SureStore → Files
sure_files store = lookup store.shelf.texts.items

-- how many texts there are
abbrev pub mem_count : MemStore → ℕ
mem_count store = vec_len store.shelf.texts

-- the folder and name of a call
abbrev pub call_place : FailedCall → Place
call_place call = (call.folder, string_bytes call.name)

-- the folder and name of the last call that failed
abbrev pub mem_failed : MemStore → Option Place
mem_failed store = option_map call_place store.failed

-- how many calls there were
abbrev pub source_calls : MemSource → ℕ
source_calls source = source.schedule.calls

abbrev pub sink_calls : MemSink → ℕ
sink_calls sink = sink.schedule.calls

abbrev pub store_calls : MemStore → ℕ
store_calls store = store.schedule.calls
