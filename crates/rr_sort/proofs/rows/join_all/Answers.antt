use Rattle.std.proofs.Common.{arith, ◌≡◌, ◌<◌, ◌++◌, ◌∷◌, [], ℕ, length, map, ap, get_or, set}
use Rattle.std.proofs.lemmas.List.{length-set}
use Rattle.rr_sort.specs.Graphs.{Graph, names_of, named}
use Rattle.rr_sort.proofs.Sorting.{join_graph, graph_count}
use Rattle.rr_sort.proofs.rows.join_all.Goals as goal

pub loop-name-preserved : goal.loop-name-preserved
loop-name-preserved c =
    let from : ℕ = get_or c.deref-name-items.result.now c.loop-name.name-index 0 in
    let g : Graph = map names_of c.loop-name.rows.items in
    let e : map names_of c.join.new.rows.items ≡ set g from (named g from ++ c.args.to ∷ []) = c.in_ok-join.ensures in
    let l : get_or c.args.from.now.items c.loop-name.name-index 0 < length c.args.rows.now.items = c.requires.from c.loop-name.name-index (omega (arith, c.deref-name-items.ensures.len, ap length c.deref-name-items.ensures.value)) in
    let m : from < length c.args.rows.now.items = rw c.deref-name-items.ensures.value l in
    let a = graph_count c.loop-name.rows.items in
    let b = graph_count c.join.new.rows.items in
    let s = length-set g from (named g from ++ c.args.to ∷ []) in
    (omega (arith, ap length e, a, b, s, c.loop-name.invariant.0), join_graph g (map names_of c.join.new.rows.items) from c.args.to e (omega (arith, m, a, c.loop-name.invariant.0)) (omega (arith, a, c.loop-name.invariant.0, c.requires.to)) c.loop-name.invariant.1)
