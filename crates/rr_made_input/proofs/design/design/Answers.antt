use Rattle.std.proofs.Common.{◌≡◌, ◌∙◌, ℕ, List, ◌++◌, string_bytes, ap, ap₂, append_assoc, arith}
use Rattle.std.specs.Prelude.{codes, flat_map}
use Rattle.std.specs.List.{range_with_len}
use Rattle.rr_made_input.specs.Made.{head_text, register_text, written}
use Rattle.rr_made_input.proofs.DrawLaws.{step_at}
use Rattle.rr_made_input.proofs.TextLaws.{pieces_more}
use Rattle.rr_made_input.proofs.design.design.Goals as goal

pub loop-i-preserved : goal.loop-i-preserved
loop-i-preserved c =
    let seed = c.args.seed in
    let i = c.loop-i.i in
    let right = step_at seed c.args.right.now i c.from.result c.requires c.loop-i-test.true c.from.ensures in
    let is : c.written.result ≡ written seed i = rw right at c.written.ensures.value in
    pieces_more (λ i. register_text i (written seed i)) i (string_bytes c.push_str.new.self) (string_bytes c.loop-i.text) (string_bytes c.push_str-in-loop-i.new.self) c.loop-i.invariant (rw (c.as_str.ensures.value, c.in_ok-lines.ensures, is) at c.in_ok-push_str-2.ensures.bytes)

pub returns : goal.returns
returns c =
    let seed = c.args.seed in
    let f : ℕ → List ℕ = λ i. register_text i (written seed i) in
    let eight : c.loop-i.i ≡ 8 = omega (arith, c.loop-i.auto.i-end, c.loop-i-test.false) in
    let head : string_bytes c.push_str.new.self ≡ head_text = rw c.new-text.ensures.bytes at c.in_ok-push_str.ensures.bytes in
    c.in_ok-push_str-3.ensures.bytes
    ∙ ap (λ (xs : List ℕ). xs ++ codes "endmodule\n") (c.loop-i.invariant ∙ ap₂ (λ (h : List ℕ) (k : ℕ). h ++ flat_map f (range_with_len 0 k)) head eight)
    ∙ append_assoc head_text (flat_map f (range_with_len 0 8)) (codes "endmodule\n")
