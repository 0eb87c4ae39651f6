use Rattle.std.proofs.Common.{◌≡◌, ◌∙◌, ap, arith, length}
use Rattle.rr_bits.specs.Fields.{length_word}
use Rattle.rr_cycle_tests.proofs.statements.numbers.Goals as goal

pub merged-requires : goal.merged-requires
merged-requires g c =
    let e : length c.from_u128.result ≡ 4 = ap length c.from_u128.ensures ∙ length_word 4 _ in
    omega arith

pub merged-requires-2 : goal.merged-requires-2
merged-requires-2 g c =
    let e : length c.from_u128-2.result ≡ 1 = ap length c.from_u128-2.ensures ∙ length_word 1 _ in
    omega arith
