use Rattle.std.proofs.Common.{◌∙◌, ap, ℕ, length, ◌*◌, ◌/◌, ◌%◌, ◌^◌}
use Rattle.rr_bits.specs.Fields.{length_word}
use Rattle.rr_bits.specs.Words.{word}
use Rattle.std.specs.Int.RustNames.{bit_xor}
use Rattle.rr_exec.proofs.Pieces.{merged_is}
use Rattle.rr_exec.proofs.writes.merged.Goals as goal

pub xor-requires : goal.xor-requires
xor-requires c = ap length c.from_u128-here.ensures ∙ length_word c.width.result (c.args.old / 2 ^ c.args.low) ∙ c.width.ensures.value

pub returns : goal.returns
returns c =
    let k : ℕ = bit_xor c.args.old (c.to_u128.result * 2 ^ c.args.low % 2 ^ 128) in
    merged_is c.args.old c.args.low k c.args.part c.from_u128-here.result c.xor.result c.requires
    (c.from_u128-here.ensures ∙ ap (λ (n : ℕ). word n (c.args.old / 2 ^ c.args.low)) c.width.ensures.value)
    c.xor.ensures
    (ap (λ (n : ℕ). bit_xor c.args.old (n * 2 ^ c.args.low % 2 ^ 128)) c.to_u128.ensures)
