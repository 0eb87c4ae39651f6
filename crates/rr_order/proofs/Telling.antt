-- The order of the nodes as one of the steps, and a cycle of them as a loop.
use Rattle.std.proofs.Common.{◌≡◌, ℕ, zero, suc, ◌+◌, ◌-◌, ◌≤◌, ◌<◌, List, [], ◌∷◌, ◌++◌, length, get_or, drop, map, Bool, refl, ap, sym, ◌∙◌, subst, arith, append_assoc, append-nil, drop-cons}
use Rattle.std.proofs.lemmas.List.{drop_all, length-map}
use Rattle.std.specs.Prelude.{Vec}
use Rattle.std.specs.declared.alloc.Global.{Global}
use Rattle.rr_expr.specs.declared.types.Bit.{Bit}
use Rattle.rr_flat.specs.declared.design.Step.{Step}
use Rattle.rr_flat.specs.declared.design.Step.TheVariants as step
use Rattle.rr_flat.specs.Ordered.{IsStep, StepWrites, step_at}
use Rattle.rr_flat.specs.Plain.{Flat}
use Rattle.rr_flat.specs.View.{Design, plain_flat, plain_driver, plain_block}
use Rattle.rr_flat.specs.Writers.{BitNames}
use Rattle.rr_sort.specs.Graphs.{Names, Chain, IsGraph, IsOrder, IsLowestCycle, names_of}
use Rattle.rr_sort.proofs.Sorting.{graph_count}
use Rattle.rr_order.specs.Loops.{AreOrdered, BitChain, IsLoop, step_token}
use Rattle.rr_order.specs.Nodes.{IsBit, bit_node, total, widths, IsTable, IsNamedBy, IsWrittenBy, IsClosed, IsStepGraph, StepsTo, keep, steps_in, pick, bits_among, no_bit}
use Rattle.rr_order.proofs.Designs.{graph_closed}
use Rattle.rr_order.proofs.Layouts.{node_below}
use Rattle.rr_order.proofs.Inside.{same_get}
use Rattle.rr_order.proofs.Growing.{all_steps}
use Rattle.rr_order.proofs.Naming.{step_between, names_by, unranked, written_there, named_there}
use Rattle.rr_order.proofs.Rings.{Leads, Ring, IsRing, lowest_ring, second}
use Rattle.rr_order.proofs.Sequence.{AreSteps, ordered_steps, lt_true, lt_false}

pub rows_closed : (flat : Flat) (P : Step → Type 0) (steps : List Step) (rows : List (Vec ℕ Global)) → IsStepGraph flat P steps rows → IsGraph (map names_of rows)
rows_closed flat P steps rows h = graph_closed (step.Block 0) (widths flat) (IsWrittenBy flat) (IsNamedBy flat) steps (map names_of rows) h.graph

steps_of : (flat : Flat) (steps : List Step) (rows : List (Vec ℕ Global)) → IsStepGraph flat (StepsTo (length flat.drivers) 0 (length flat.combinational)) steps rows → AreSteps (step.Block 0) (IsStep flat) steps
steps_of flat steps rows h = record { each = λ i l. (h.each i l).0; all = λ s i. h.all s i (all_steps flat s i); once = h.once }

pub told_order : (flat : Flat) (steps sorted : List Step) (rows : List (Vec ℕ Global)) (order : List ℕ) (first : ℕ) → IsClosed flat → IsStepGraph flat (StepsTo (length flat.drivers) 0 (length flat.combinational)) steps rows → IsOrder (map names_of rows) order
    → first ≡ length rows - length steps → sorted ≡ steps_in (step.Block 0) first steps order → AreOrdered flat sorted
told_order flat steps sorted rows order first v h o e f =
    let g : first ≡ total (widths flat) + length (widths flat) = omega (arith, e, h.graph.count, graph_count rows) in
    let a = ordered_steps (step.Block 0) (widths flat) (IsWrittenBy flat) (IsNamedBy flat) (IsStep flat) steps (map names_of rows) order h.graph o (steps_of flat steps rows h) (written_there flat v) in
    let q : sorted ≡ steps_in (step.Block 0) (total (widths flat) + length (widths flat)) steps order = f ∙ ap (λ (n : ℕ). steps_in (step.Block 0) n steps order) g in
    subst (λ (ss : List Step). AreOrdered flat ss) (sym q) (record {
      each = a.0.each;
      all = a.0.all;
      once = a.0.once;
      after = λ i j l m b w r. a.1 i j l m b (a.0.each i l, w) (a.0.each j m, r);
    })

chain_of : (flat : Flat) (steps : List Step) (b : Bit) (cs : List Bit) (t : Bit) → Ring (step.Block 0) (IsWrittenBy flat) (IsNamedBy flat) steps b cs t → BitChain flat b cs t
chain_of flat steps b [] t (j, (l, (w, r))) = names_by flat (step_at steps j) b t w.0 w.1 r.1
chain_of flat steps b (c ∷ cs) t ((j, (l, (w, r))), h) = (names_by flat (step_at steps j) b c w.0 w.1 r.1, chain_of flat steps c cs t h)

leads_of : (flat : Flat) (steps : List Step) (rows : List (Vec ℕ Global)) → IsStepGraph flat (StepsTo (length flat.drivers) 0 (length flat.combinational)) steps rows → (b c : Bit) → BitNames flat b c → Leads (step.Block 0) (IsWrittenBy flat) (IsNamedBy flat) steps b c
leads_of flat steps rows h b c n =
    let s = step_between flat b c n in
    let j = h.all s.0 s.1.0 (all_steps flat s.0 s.1.0) in
    (j.0, (j.1.0, (rw j.1.1 (s.1.0, s.1.1.0), rw j.1.1 (s.1.0, s.1.1.1))))

ring_of : (flat : Flat) (steps : List Step) (rows : List (Vec ℕ Global)) → IsStepGraph flat (StepsTo (length flat.drivers) 0 (length flat.combinational)) steps rows → (b : Bit) (cs : List Bit) (t : Bit) → BitChain flat b cs t → Ring (step.Block 0) (IsWrittenBy flat) (IsNamedBy flat) steps b cs t
ring_of flat steps rows h b [] t n = leads_of flat steps rows h b t n
ring_of flat steps rows h b (c ∷ cs) t n = (leads_of flat steps rows h b c n.0, ring_of flat steps rows h c cs t n.1)

-- the second node of a cycle is a step that writes the first bit

pub second_is : (flat : Flat) (steps : List Step) (rows : List (Vec ℕ Global)) (table : List Bit) (cycle : List ℕ) (first : ℕ) → IsClosed flat → IsStepGraph flat (StepsTo (length flat.drivers) 0 (length flat.combinational)) steps rows → IsTable (widths flat) table
    → IsLowestCycle (map names_of rows) cycle → first ≡ length rows - length steps → (1 < length cycle) × ((first ≤ get_or cycle 1 0) × (get_or cycle 1 0 - first < length steps))
second_is flat steps rows table [] first v h t c e = absurd c
second_is flat steps rows table (n ∷ []) first v h t c e =
    let r = lowest_ring (step.Block 0) (widths flat) (IsWrittenBy flat) (IsNamedBy flat) steps (map names_of rows) table t h.graph (written_there flat v) (named_there flat v) n [] c in
    absurd (alone r.0 r.1.1.0 r.1.1.1.0)
  where
    alone : (b : Bit) → IsBit (widths flat) b → bit_node (widths flat) b ≡ n → ⊥
    alone b i q =
        let m : Names (map names_of rows) (bit_node (widths flat) b) n = rw q c.0 in
        let k = h.graph.written b n i m in
        omega (arith, k.1.1.0, q, node_below (widths flat) b i)
second_is flat steps rows table (n ∷ m ∷ ms) first v h t c e =
    let r = lowest_ring (step.Block 0) (widths flat) (IsWrittenBy flat) (IsNamedBy flat) steps (map names_of rows) table t h.graph (written_there flat v) (named_there flat v) n (m ∷ ms) c in
    let k : Chain (map names_of rows) (bit_node (widths flat) r.0) (m ∷ ms) (bit_node (widths flat) r.0) = rw r.1.1.1.0 c.0 in
    let s = second (step.Block 0) (widths flat) (IsWrittenBy flat) (IsNamedBy flat) steps (map names_of rows) h.graph r.0 m ms r.1.1.0 k in
    let g : first ≡ total (widths flat) + length (widths flat) = omega (arith, e, h.graph.count, graph_count rows) in
    (omega arith, (omega (arith, g, s.0), omega (arith, g, s.1.0)))

pub second_step : (flat : Flat) (steps : List Step) (rows : List (Vec ℕ Global)) (table : List Bit) (cycle : List ℕ) (first : ℕ) (s : Step) → IsClosed flat → IsStepGraph flat (StepsTo (length flat.drivers) 0 (length flat.combinational)) steps rows → IsTable (widths flat) table
    → IsLowestCycle (map names_of rows) cycle → first ≡ length rows - length steps → s ≡ step_at steps (get_or cycle 1 0 - first) → IsStep flat s
second_step flat steps rows table cycle first s v h t c e q =
    let l = second_is flat steps rows table cycle first v h t c e in
    subst (IsStep flat) (sym q) (h.each (get_or cycle 1 0 - first) l.1.1).0

pub told_loop : (flat : Flat) (steps : List Step) (rows : List (Vec ℕ Global)) (table bits : List Bit) (cycle : List ℕ) (first token : ℕ) (s : Step) → IsClosed flat → IsStepGraph flat (StepsTo (length flat.drivers) 0 (length flat.combinational)) steps rows
    → IsTable (widths flat) table → IsLowestCycle (map names_of rows) cycle → first ≡ length rows - length steps → bits ≡ bits_among table cycle → s ≡ step_at steps (get_or cycle 1 0 - first) → token ≡ step_token flat s → IsLoop flat bits token
told_loop flat steps rows table bits [] first token s v h t c e f q k = absurd c
told_loop flat steps rows table bits (n ∷ ns) first token s v h t c e f q k =
    let r = lowest_ring (step.Block 0) (widths flat) (IsWrittenBy flat) (IsNamedBy flat) steps (map names_of rows) table t h.graph (written_there flat v) (named_there flat v) n ns c in
    let x : IsRing (step.Block 0) (IsWrittenBy flat) (IsNamedBy flat) steps r.0 (bits_among table ns) = r.1.1.1.1 in
    let y : BitChain flat r.0 (bits_among table ns) r.0 = chain_of flat steps r.0 (bits_among table ns) r.0 x.ring in
    subst (λ (bs : List Bit). IsLoop flat bs token) (sym (f ∙ r.1.0)) (record {
      cycle_of = (y, λ b l o. x.lowest b l o.0 (ring_of flat steps rows h b o.0 b o.1));
      token_of = (s, (second_step flat steps rows table (n ∷ ns) first s v h t c e q, (writes ns r.0 r.1.1.0 r.1.1.1.0 c q, k)));
      unranked = unranked flat r.0 (bits_among table ns) y;
    })
  where
    writes : (ms : List ℕ) (b : Bit) → IsBit (widths flat) b → bit_node (widths flat) b ≡ n → IsLowestCycle (map names_of rows) (n ∷ ms) → s ≡ step_at steps (get_or (n ∷ ms) 1 0 - first) → StepWrites flat s b
    writes [] b i p d z = absurd (
        let m : Names (map names_of rows) (bit_node (widths flat) b) n = rw p d.0 in
        let j = h.graph.written b n i m in
        omega (arith, j.1.1.0, p, node_below (widths flat) b i))
    writes (m ∷ ms) b i p d z =
        let j : Chain (map names_of rows) (bit_node (widths flat) b) (m ∷ ms) (bit_node (widths flat) b) = rw p d.0 in
        let u = second (step.Block 0) (widths flat) (IsWrittenBy flat) (IsNamedBy flat) steps (map names_of rows) h.graph b m ms i j in
        let g : total (widths flat) + length (widths flat) ≡ first = omega (arith, e, h.graph.count, graph_count rows) in
        let w : IsWrittenBy flat (step_at steps (m - (total (widths flat) + length (widths flat)))) b = u.1.1 in
        subst (λ (t2 : Step). StepWrites flat t2 b) (ap (λ (a : ℕ). step_at steps (m - a)) g ∙ sym z) w.1

-- the loops

pub steps_left : (first : ℕ) (steps : List Step) (order : List ℕ) (k : ℕ) (done : List Step) → k < length order → done ++ steps_in (step.Block 0) first steps (drop k order) ≡ steps_in (step.Block 0) first steps order
    → first ≤ get_or order k 0 → (done ++ step_at steps (get_or order k 0 - first) ∷ []) ++ steps_in (step.Block 0) first steps (drop (k + 1) order) ≡ steps_in (step.Block 0) first steps order
unfolding steps_in
steps_left first steps order k done l e f =
    let u : suc k ≡ k + 1 = omega arith in
    append_assoc done (step_at steps (get_or order k 0 - first) ∷ []) (steps_in (step.Block 0) first steps (drop (k + 1) order))
    ∙ (ap (λ (n : ℕ). done ++ step_at steps (get_or order k 0 - first) ∷ steps_in (step.Block 0) first steps (drop n order)) (sym u)
    ∙ (ap (λ (v : Bool). done ++ keep v (step_at steps (get_or order k 0 - first)) (steps_in (step.Block 0) first steps (drop (suc k) order))) (sym (lt_false (get_or order k 0) first f))
    ∙ (ap (λ (ns : List ℕ). done ++ steps_in (step.Block 0) first steps ns) (sym (drop-cons order k 0 l)) ∙ e)))

pub steps_past : (first : ℕ) (steps : List Step) (order : List ℕ) (k : ℕ) (done : List Step) → k < length order → done ++ steps_in (step.Block 0) first steps (drop k order) ≡ steps_in (step.Block 0) first steps order
    → get_or order k 0 < first → done ++ steps_in (step.Block 0) first steps (drop (k + 1) order) ≡ steps_in (step.Block 0) first steps order
unfolding steps_in
steps_past first steps order k done l e f =
    let u : suc k ≡ k + 1 = omega arith in
    ap (λ (n : ℕ). done ++ steps_in (step.Block 0) first steps (drop n order)) (sym u)
    ∙ (ap (λ (v : Bool). done ++ keep v (step_at steps (get_or order k 0 - first)) (steps_in (step.Block 0) first steps (drop (suc k) order))) (sym (lt_true (get_or order k 0) first f))
    ∙ (ap (λ (ns : List ℕ). done ++ steps_in (step.Block 0) first steps ns) (sym (drop-cons order k 0 l)) ∙ e))

pub steps_done : (first : ℕ) (steps : List Step) (order : List ℕ) (k : ℕ) (done : List Step) → length order ≤ k → done ++ steps_in (step.Block 0) first steps (drop k order) ≡ steps_in (step.Block 0) first steps order → done ≡ steps_in (step.Block 0) first steps order
unfolding steps_in
steps_done first steps order k done l e = sym (append-nil done) ∙ (ap (λ (ns : List ℕ). done ++ steps_in (step.Block 0) first steps ns) (sym (drop_all k order l)) ∙ e)

pub bits_left : (table : List Bit) (cycle : List ℕ) (k : ℕ) (done : List Bit) → k < length cycle → done ++ bits_among table (drop k cycle) ≡ bits_among table cycle → get_or cycle k 0 < length table
    → (done ++ get_or table (get_or cycle k 0) no_bit ∷ []) ++ bits_among table (drop (k + 1) cycle) ≡ bits_among table cycle
unfolding bits_among
bits_left table cycle k done l e f =
    let u : suc k ≡ k + 1 = omega arith in
    append_assoc done (get_or table (get_or cycle k 0) no_bit ∷ []) (bits_among table (drop (k + 1) cycle))
    ∙ (ap (λ (n : ℕ). done ++ get_or table (get_or cycle k 0) no_bit ∷ bits_among table (drop n cycle)) (sym u)
    ∙ (ap (λ (v : Bool). done ++ pick v (get_or table (get_or cycle k 0) no_bit) (bits_among table (drop (suc k) cycle))) (sym (lt_true (get_or cycle k 0) (length table) f))
    ∙ (ap (λ (ns : List ℕ). done ++ bits_among table ns) (sym (drop-cons cycle k 0 l)) ∙ e)))

pub bits_past : (table : List Bit) (cycle : List ℕ) (k : ℕ) (done : List Bit) → k < length cycle → done ++ bits_among table (drop k cycle) ≡ bits_among table cycle → length table ≤ get_or cycle k 0
    → done ++ bits_among table (drop (k + 1) cycle) ≡ bits_among table cycle
unfolding bits_among
bits_past table cycle k done l e f =
    let u : suc k ≡ k + 1 = omega arith in
    ap (λ (n : ℕ). done ++ bits_among table (drop n cycle)) (sym u)
    ∙ (ap (λ (v : Bool). done ++ pick v (get_or table (get_or cycle k 0) no_bit) (bits_among table (drop (suc k) cycle))) (sym (lt_false (get_or cycle k 0) (length table) f))
    ∙ (ap (λ (ns : List ℕ). done ++ bits_among table ns) (sym (drop-cons cycle k 0 l)) ∙ e))

pub bits_done : (table : List Bit) (cycle : List ℕ) (k : ℕ) (done : List Bit) → length cycle ≤ k → done ++ bits_among table (drop k cycle) ≡ bits_among table cycle → done ≡ bits_among table cycle
unfolding bits_among
bits_done table cycle k done l e = sym (append-nil done) ∙ (ap (λ (ns : List ℕ). done ++ bits_among table ns) (sym (drop_all k cycle l)) ∙ e)

-- the numbers of steps

pub driver_number : (d : Design) (k : ℕ) → IsStep (plain_flat d) (step.Driver k) → k < length d.drivers
unfolding IsStep
driver_number d k i = omega (arith, i.0, length-map d.drivers plain_driver)

pub wire_number : (d : Design) (k j : ℕ) → IsStep (plain_flat d) (step.Wire k j) → k < length d.drivers
unfolding IsStep
wire_number d k j i = omega (arith, i.0, length-map d.drivers plain_driver)

pub block_number : (d : Design) (k : ℕ) → IsStep (plain_flat d) (step.Block k) → k < length d.combinational
unfolding IsStep
block_number d k i = omega (arith, i, length-map d.combinational plain_block)

pub steps_put : (first : ℕ) (steps : List Step) (order : List ℕ) (k : ℕ) (done : List Step) (z : Step) → k < length order → done ++ steps_in (step.Block 0) first steps (drop k order) ≡ steps_in (step.Block 0) first steps order
    → first ≤ get_or order k 0 → get_or order k 0 - first < length steps → (done ++ get_or steps (get_or order k 0 - first) z ∷ []) ++ steps_in (step.Block 0) first steps (drop (k + 1) order) ≡ steps_in (step.Block 0) first steps order
steps_put first steps order k done z l e f m =
    ap (λ (s : Step). (done ++ s ∷ []) ++ steps_in (step.Block 0) first steps (drop (k + 1) order)) (same_get steps (get_or order k 0 - first) z (step.Block 0) m) ∙ steps_left first steps order k done l e f

pub bits_put : (table : List Bit) (cycle : List ℕ) (k : ℕ) (done : List Bit) (z : Bit) → k < length cycle → done ++ bits_among table (drop k cycle) ≡ bits_among table cycle → get_or cycle k 0 < length table
    → (done ++ get_or table (get_or cycle k 0) z ∷ []) ++ bits_among table (drop (k + 1) cycle) ≡ bits_among table cycle
bits_put table cycle k done z l e f =
    ap (λ (b : Bit). (done ++ b ∷ []) ++ bits_among table (drop (k + 1) cycle)) (same_get table (get_or cycle k 0) z no_bit f) ∙ bits_left table cycle k done l e f

pub told_slices : (flat : Flat) (steps slice sorted : List Step) (rows : List (Vec ℕ Global)) (order other : List ℕ) (first : ℕ) → IsClosed flat → IsStepGraph flat (StepsTo (length flat.drivers) 0 (length flat.combinational)) steps rows
    → IsOrder (map names_of rows) order → first ≡ length rows - length steps → slice ≡ steps → other ≡ order → sorted ≡ steps_in (step.Block 0) first slice other → AreOrdered flat sorted
told_slices flat steps slice sorted rows order other first v h o e p q f =
    told_order flat steps sorted rows order first v h o e (f ∙ (ap (λ (ss : List Step). steps_in (step.Block 0) first ss other) p ∙ ap (λ (ns : List ℕ). steps_in (step.Block 0) first steps ns) q))

pub step_found : (steps : List Step) (cycle : List ℕ) (first n : ℕ) (s : Step) → n - first < length steps → get_or cycle 1 0 ≡ n → s ≡ get_or steps (n - first) s → s ≡ step_at steps (get_or cycle 1 0 - first)
step_found steps cycle first n s l e f = f ∙ (same_get steps (n - first) s (step.Block 0) l ∙ ap (λ (m : ℕ). step_at steps (m - first)) (sym e))

-- the drivers and blocks of the design are those of its plain form

pub plain_graph : (d : Design) (steps : List Step) (rows : List (Vec ℕ Global)) → IsStepGraph (plain_flat d) (StepsTo (length d.drivers) 0 (length d.combinational)) steps rows
    → IsStepGraph (plain_flat d) (StepsTo (length (plain_flat d).drivers) 0 (length (plain_flat d).combinational)) steps rows
plain_graph d steps rows h = rw (length-map d.drivers plain_driver, length-map d.combinational plain_block) h
