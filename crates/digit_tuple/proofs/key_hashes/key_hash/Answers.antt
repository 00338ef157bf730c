use Rattle.std.proofs.Common.{◌≡◌, ◌+◌, ◌-◌, ◌*◌, ◌/◌, ◌^◌, ℕ, drop, get_or, length, sym, ap, ◌∙◌, arith}
use Rattle.digit_tuple.specs.KeyHashes.{hash_from, mixed}
use Rattle.digit_tuple.proofs.KeyHashLemmas.{hash_from-end, hash_from-last, hash_from-two}
use Rattle.digit_tuple.proofs.key_hashes.key_hash.Goals as goal
use Rattle.digit_tuple.proofs.key_hashes.key_hash.Goals.{then-key-eq1, else-key-eq1}

pub loop-pair-preserved : goal.loop-pair-preserved
loop-pair-preserved c =
    let key = c.args.key.now in
    let pair = c.loop-pair.pair in
    let hash = c.loop-pair.hash in
    let more : c.mix-hash.result ≡ mixed hash (c.from.result * 2 ^ 32 + c.from-in-loop-pair.result) = c.mix-hash.ensures in
    c.loop-pair.invariant
    ∙ hash_from-two hash key (2 * pair) (2 * (pair + 1)) c.from-in-loop-pair.result c.from.result (omega arith) (omega arith) c.from-in-loop-pair.ensures c.from.ensures
    ∙ ap (λ (h : ℕ). hash_from h (drop (2 * (pair + 1)) key)) (sym more)

pub returns : goal.returns
returns c =
    let key = c.args.key.now in
    let pair = c.loop-pair.pair in
    let whole : hash_from (length key) key ≡ c.if-key-eq1.hash = elim c.if-key-eq1.branch [
      | then-key-eq1 w ↦ let last : 2 * pair ≡ length key - 1 = omega (arith, w.if-key-eq1.true) in
          c.loop-pair.invariant ∙ hash_from-last c.loop-pair.hash key (2 * pair) w.from-then-key-eq1.result (omega (arith, w.if-key-eq1.true)) (w.from-then-key-eq1.ensures ∙ ap (λ n. get_or key n 0) (sym last))
          ∙ sym w.mix-hash-then-key-eq1.ensures ∙ sym w.hash-is
      | else-key-eq1 w ↦ c.loop-pair.invariant ∙ hash_from-end c.loop-pair.hash key (2 * pair) (omega (arith, w.if-key-eq1.false)) ∙ sym w.hash-is
    ] in
    ap (λ n. n / 2 ^ 32) (c.mix.ensures ∙ ap (λ h. mixed h 0) (sym whole))
