use Rattle.std.proofs.Common.{◌≡◌, ◌≤◌, length, take, drop, min, arith, ap}
use Rattle.wal_outside.specs.declared.schedule.Schedule.{Schedule}
use Rattle.wal_outside.proofs.SourceSteps.{drop-given, drop-none}
use Rattle.wal_outside.proofs.mem_source.MemSourceSource.read.Goals as goal

pub returns-clause-read : goal.returns-clause-read
returns-clause-read c =
    let rest : c.rest_of.result.now ≡ drop c.args.self.now.at c.args.self.now.bytes.items =
    rw (c.rest_of.ensures, c.deref.ensures.value) in
    let copied : take c.give-count.result c.give-count.new.buf ≡ take c.give-count.result (drop c.args.self.now.at c.args.self.now.bytes.items) =
    rw (c.give-count.ensures.copied, rest) in
    let count : c.give-count.result ≡ min (min c.max-most.result (length (drop c.args.self.now.at c.args.self.now.bytes.items))) (length c.args.buf.now) =
    rw (← rest) c.give-count.ensures.count in
    let some : 1 ≤ c.max-most.result = omega (arith, c.max-most.ensures) in
    record {
      bytes = (
        drop-given c.args.self.now.bytes.items (take c.give-count.result c.give-count.new.buf) c.args.self.now.at c.give-count.result copied,
        λ none roomy. drop-none c.args.self.now.bytes.items c.args.self.now.at c.give-count.result c.max-most.result (length c.args.buf.now) count some none (omega (arith, roomy)),
      );
      calls = ap (λ (s : Schedule). s.calls) c.next_fails.ensures.counted;
      faults = ap (λ (s : Schedule). s.faults) c.next_fails.ensures.counted;
    }
