use Rattle.std.proofs.Common.{◌≡◌, ◌∙◌, sym, ap, subst, refl, length, map, if◌then◌else◌}
use Rattle.std.specs.Prelude.{All}
use Rattle.rr_vcd.specs.View.{plain_probe, probe_row, cells_by, IsWatched}
use Rattle.rr_vcd.proofs.Keeping.{push_full, push_row}
use Rattle.rr_vcd.proofs.sampler.Sampler.push.Goals as goal

pub returns-then-len-eq-ROWS-clause-rows : goal.returns-then-len-eq-ROWS-clause-rows
returns-then-len-eq-ROWS-clause-rows c = λ past told rows slots watched has.
    let whole : length c.args.self.now.table.inputs.items ≡ 65536 = let e = c.args.self.now.table.inputs.ok in let f = sym c.len.ensures ∙ c.if-len-eq-ROWS.true in cc in
    push_full rows _ _ c.args.self.now.table _ refl whole has

pub returns-clause-rows : goal.returns-clause-rows
returns-clause-rows c = λ past told rows slots watched has.
    let front = if c.args.before then past else told in
    let v = c.as_slice-probes.ensures.value in
    let u = c.as_slice-probes-2.ensures.value in
    let i = c.in_ok-inputs.ensures past told slots (subst (All (λ x. IsWatched c.args.self.now.slots (plain_probe x))) (sym v) watched.inputs) ∙ ap (λ xs. map (λ y. y.value) (cells_by (map plain_probe xs) front)) v in
    let o = c.in_ok-expected.ensures past told slots (subst (All (λ x. IsWatched c.args.self.now.slots (plain_probe x))) (sym u) watched.outputs) ∙ ap (λ xs. cells_by (map plain_probe xs) front) u in
    push_row rows (probe_row c.args.self.now.probes front) _ c.args.self.now.table _ c.in_ok-inputs.inputs c.in_ok-expected.expected c.requires (λ e. c.if-len-eq-ROWS.false (let k = c.args.self.now.table.inputs.ok in let l = c.len.ensures in cc)) has
    c.in_ok-push.ensures.items c.in_ok-push-2.ensures.items i o
