use Rattle.std.proofs.Common.{◌≡◌, ◌∙◌, ap, arith, get_or, length}
use Rattle.std.proofs.lemmas.List.{get_or_read}
use Rattle.rr_bits.specs.Fields.{length_word}
use Rattle.rr_expr.proofs.Words.{one_place}
use Rattle.rr_meaning.proofs.Placing.{bit_set}
use Rattle.rr_meaning.proofs.steps.set_bit.Goals as goal

pub merged-requires : goal.merged-requires
merged-requires c =
    let e : length c.from_u128.result ≡ 1 = ap length c.from_u128.ensures ∙ length_word 1 _ in
    omega (arith, c.requires.place)

pub returns-clause-env : goal.returns-clause-env
returns-clause-env c =
    let o : c.index.result.now ≡ get_or c.args.values.now.items c.args.bit.signal 0 = get_or_read c.args.values.now.items _ _ c.requires.signal c.index.ensures 0 in
    bit_set c.args.values.now.items c.args.bit c.args.on c.merged.result c.from_u128.result (c.from_u128.ensures ∙ one_place c.args.on) (λ q. rw o at (c.merged.ensures q)) c.requires.signal
