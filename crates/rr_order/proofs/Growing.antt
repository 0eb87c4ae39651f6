-- Steps that are added to the graph.
use Rattle.std.proofs.Common.{◌≡◌, ℕ, zero, suc, ◌+◌, ◌≤◌, ◌<◌, ◌⊎◌, inl, inr, List, [], ◌∷◌, ◌++◌, length, get_or, map, Bool, true, false, ◌||◌, Option, Some, None, refl, ap, sym, ◌∙◌, subst, arith}
use Rattle.std.proofs.lemmas.Bool.{cases_eq, cases_lt, both_ways}
use Rattle.std.proofs.lemmas.List.{get_or-map, length-map}
use Rattle.std.proofs.lemmas.List.Elements.{All-get_or}
use Rattle.std.specs.List.{All}
use Rattle.std.specs.Prelude.{Vec}
use Rattle.std.specs.declared.alloc.Global.{Global}
use Rattle.rr_expr.specs.declared.types.Bit.{Bit}
use Rattle.rr_expr.specs.Scopes.{Names, range_width}
use Rattle.rr_flat.specs.declared.signal.Signal.{Signal}
use Rattle.rr_flat.specs.Signals as plain_head
use Rattle.rr_flat.specs.View.{plain_signal}
use Rattle.rr_flat.specs.declared.design.Driver.{Driver}
use Rattle.rr_flat.specs.declared.design.Side as declared_side
use Rattle.rr_flat.specs.declared.design.Side.TheVariants as side
use Rattle.rr_flat.specs.declared.design.Step.{Step}
use Rattle.rr_flat.specs.declared.design.Step.TheVariants as step
use Rattle.rr_flat.specs.Ordered.{IsStep, StepWrites, StepNames, step_at}
use Rattle.rr_flat.specs.Plain as plain_design
use Rattle.rr_flat.specs.Plain.{Flat, Side}
use Rattle.rr_flat.specs.Reads.{StatementReads}
use Rattle.rr_flat.specs.Sound.{IsFlat, IsSignal, IsScope, IsDriver, IsSide}
use Rattle.rr_flat.specs.View.{Design, plain_flat, plain_side, plain_driver, plain_block}
use Rattle.rr_flat.specs.Writers.{scope_at, driver_at, block_at, no_driver, driven, SideReads, side_taken, side_signed, taken_at, NamesIf, wires, side_is_wiring, Writes, writes_at_all}
use Rattle.rr_named_bits.specs.declared.piece.Reach.{Reach}
use Rattle.rr_named_bits.specs.declared.writes.Write.{Write}
use Rattle.rr_named_bits.specs.Lists.{covered, may, Grown}
use Rattle.rr_sort.specs.Graphs.{names_of}
use Rattle.rr_sort.proofs.Sorting.{get_old, get_new, graph_count}
use Rattle.rr_order.specs.Nodes.{bit_node, widths, In, IsRow, IsWritten, Joined, IsGraphOf, IsNamedBy, IsWrittenBy, IsStepGraph, StepsTo, Foreign, Stamped, IsClosed, IsThere, total}
use Rattle.rr_flat.proofs.Bits.{missed, place_inside}
use Rattle.rr_order.proofs.Designs.{step_added}
use Rattle.rr_writers.specs.Assigned.{assigns}
use Rattle.rr_order.proofs.Layouts.{node_once, node_below}
use Rattle.rr_order.proofs.Inside.{same_get}
use Rattle.rr_order.proofs.Building.{push_count}
use Rattle.rr_order.proofs.Lists.{row_same, row_valid, row_written, written_same}

pub graph_added : (flat : Flat) (P Q : Step → Type 0) (steps : List Step) (s : Step) (rows new : List (Vec ℕ Global)) (row nodes : List ℕ) → IsStepGraph flat P steps rows → IsStep flat s → (P s → ⊥) → Q s → ((t : Step) → P t → Q t)
    → ((t : Step) → IsStep flat t → Q t → P t ⊎ (t ≡ s)) → IsRow (widths flat) (IsNamedBy flat s) row → IsWritten (widths flat) (IsWrittenBy flat s) nodes → Joined (map names_of rows ++ row ∷ []) (map names_of new) nodes (length rows)
    → IsStepGraph flat Q (steps ++ s ∷ []) new
graph_added flat P Q steps s rows new row nodes h is np q f g r w j = record {
  each = λ i l. elim (cases_lt i (length steps)) [
    | inl m ↦ let e = h.each i m in rw (get_old steps s (step.Block 0) i m) (e.0, f (step_at steps i) e.1)
    | inr m ↦ rw (get_new steps s (step.Block 0) i (omega (arith, l, push_count steps s))) (is, q)
  ];
  all = λ t u v. elim (g t u v) [
    | inl p ↦ let k = h.all t u p in (k.0, (omega (arith, k.1.0, push_count steps s), get_old steps s (step.Block 0) k.0 k.1.0 ∙ k.1.1))
    | inr e ↦ (length steps, (omega (arith, push_count steps s), get_new steps s (step.Block 0) (length steps) refl ∙ sym e))
  ];
  once = λ i k l m e. elim (cases_lt i (length steps)) [
    | inl a ↦ elim (cases_lt k (length steps)) [
      | inl b ↦ h.once i k a b (sym (get_old steps s (step.Block 0) i a) ∙ (e ∙ get_old steps s (step.Block 0) k b))
      | inr b ↦ absurd (np (subst P (sym (get_old steps s (step.Block 0) i a) ∙ (e ∙ get_new steps s (step.Block 0) k (omega (arith, m, push_count steps s)))) (h.each i a).1))
    ]
    | inr a ↦ elim (cases_lt k (length steps)) [
      | inl b ↦ absurd (np (subst P (sym (get_old steps s (step.Block 0) k b) ∙ (sym e ∙ get_new steps s (step.Block 0) i (omega (arith, l, push_count steps s)))) (h.each k b).1))
      | inr b ↦ omega (arith, l, m, push_count steps s)
    ]
  ];
  graph = step_added (step.Block 0) (widths flat) (IsWrittenBy flat) (IsNamedBy flat) steps s (map names_of rows) (map names_of new) row nodes h.graph r w
      (subst (λ (n : ℕ). Joined (map names_of rows ++ row ∷ []) (map names_of new) nodes n) (sym (graph_count rows)) j);
}

pub graph_start : (flat : Flat) (rows : List (Vec ℕ Global)) → IsGraphOf (step.Block 0) (widths flat) (IsWrittenBy flat) (IsNamedBy flat) [] (map names_of rows) → IsStepGraph flat (StepsTo 0 0 0) [] rows
graph_start flat rows g = record {
  each = λ i l. absurd (omega arith);
  all = λ s i p. absurd (none s p);
  once = λ i k l m e. absurd (omega arith);
  graph = g;
}
  where
    none : (s : Step) → StepsTo 0 0 0 s → ⊥
    none (step.Driver k) p = omega arith
    none (step.Wire k i) (inl p) = omega arith
    none (step.Wire k i) (inr p) = omega (arith, p.1)
    none (step.Block k) p = omega arith

pub graph_same : (flat : Flat) (a b c x y z : ℕ) (steps : List Step) (rows : List (Vec ℕ Global)) → a ≡ x → b ≡ y → c ≡ z → IsStepGraph flat (StepsTo a b c) steps rows → IsStepGraph flat (StepsTo x y z) steps rows
graph_same flat a b c x y z steps rows e f g h = rw (sym e, sym f, sym g) h

-- a driver that does not only wire

pub whole_row : (flat : Flat) (k : ℕ) (own : List ℕ) (named : List Reach) (row : List ℕ) → IsStep flat (step.Driver k) → Grown [] named (SideReads flat (driver_at flat k).value) → ((v : ℕ) → get_or own v 0 ≡ 0)
    → IsRow (widths flat) (λ b. (covered named b ≡ true) × Foreign (widths flat) own 1 b) row → IsRow (widths flat) (IsNamedBy flat (step.Driver k)) row
unfolding IsStep StepNames covered
whole_row flat k own named row i g z r = row_same (widths flat) row (λ b. (covered named b ≡ true) × Foreign (widths flat) own 1 b) (IsNamedBy flat (step.Driver k)) r
    (λ b p. (i, put (wires flat k) i.1 b (elim (g.only b p.0) [ inl x ↦ absurd (both_ways false refl x) | inr x ↦ x ])))
    (λ b n. (g.added b (take (wires flat k) i.1 b n.1), λ q. let m = z (bit_node (widths flat) b) in omega (arith, m, q)))
  where
    put : (v : Bool) → v ≡ false → (b : Bit) → SideReads flat (driver_at flat k).value b → NamesIf v flat k 0 b
    put true e b n = cc
    put false e b n = n

    take : (v : Bool) → v ≡ false → (b : Bit) → NamesIf v flat k 0 b → SideReads flat (driver_at flat k).value b
    take true e b n = cc
    take false e b n = n

pub whole_written : (flat : Flat) (k : ℕ) (bits : List (Option Bit)) (nodes : List ℕ) → IsStep flat (step.Driver k) → bits ≡ driven flat k → IsWritten (widths flat) (λ b. (i : ℕ) × ((i < length bits) × (get_or bits i None ≡ Some b))) nodes
    → IsWritten (widths flat) (IsWrittenBy flat (step.Driver k)) nodes
unfolding IsStep StepWrites Writes
whole_written flat k bits nodes i e w = written_same (widths flat) nodes (λ b. (j : ℕ) × ((j < length bits) × (get_or bits j None ≡ Some b))) (IsWrittenBy flat (step.Driver k)) w
    (λ b p. (i, (p.0, (i.0, ap (λ (xs : List (Option Bit)). get_or xs p.0 None) (sym e) ∙ p.1.1))))
    (λ b p. let q : get_or bits p.1.0 None ≡ Some b = ap (λ (xs : List (Option Bit)). get_or xs p.1.0 None) e ∙ p.1.1.1 in (p.1.0, (place_inside bits b p.1.0 q, q)))

driver_once : (flat : Flat) (k : ℕ) (t : Step) → wires flat k ≡ false → IsStep flat t → StepsTo (k + 1) 0 0 t → StepsTo k 0 0 t ⊎ (t ≡ step.Driver k)
unfolding IsStep
driver_once flat k (step.Driver j) e i p = elim (cases_eq j k) [ inl q ↦ inr (ap step.Driver q) | inr q ↦ inl (omega arith) ]
driver_once flat k (step.Wire j m) e i (inl p) = elim (cases_eq j k) [ inl q ↦ absurd (both_ways (wires flat k) e (ap (wires flat) (sym q) ∙ i.1)) | inr q ↦ inl (inl (omega arith)) ]
driver_once flat k (step.Wire j m) e i (inr p) = absurd (omega (arith, p.1))
driver_once flat k (step.Block j) e i p = absurd (omega arith)

driver_more : (k : ℕ) (t : Step) → StepsTo k 0 0 t → StepsTo (k + 1) 0 0 t
driver_more k (step.Driver j) p = omega arith
driver_more k (step.Wire j m) (inl p) = inl (omega arith)
driver_more k (step.Wire j m) (inr p) = absurd (omega (arith, p.1))
driver_more k (step.Block j) p = p

pub whole_added : (flat : Flat) (k : ℕ) (steps after : List Step) (rows new : List (Vec ℕ Global)) (row nodes : List ℕ) → IsStepGraph flat (StepsTo k 0 0) steps rows → IsStep flat (step.Driver k) → IsRow (widths flat) (IsNamedBy flat (step.Driver k)) row
    → IsWritten (widths flat) (IsWrittenBy flat (step.Driver k)) nodes → after ≡ steps ++ step.Driver k ∷ [] → Joined (map names_of rows ++ row ∷ []) (map names_of new) nodes (length rows) → IsStepGraph flat (StepsTo (k + 1) 0 0) after new
unfolding IsStep
whole_added flat k steps after rows new row nodes h i r w e j = rw e
    (graph_added flat (StepsTo k 0 0) (StepsTo (k + 1) 0 0) steps (step.Driver k) rows new row nodes h i (λ p. omega arith) (omega arith) (driver_more k) (λ t u v. driver_once flat k t i.1 u v) r w j)

-- the bits of a driver that only wires

pub wire_row : (flat : Flat) (k i : ℕ) (o : Option Bit) (row : List ℕ) → IsStep flat (step.Wire k i) → o ≡ taken_at (side_signed flat (driver_at flat k).value) (side_taken flat (driver_at flat k).value) i → IsWritten (widths flat) (λ b. o ≡ Some b) row
    → IsRow (widths flat) (IsNamedBy flat (step.Wire k i)) row
unfolding IsStep StepNames
wire_row flat k i o row h e w = row_written (widths flat) row (λ b. o ≡ Some b) (IsNamedBy flat (step.Wire k i)) w (λ b p. (h, put (wires flat k) h.1 b (sym e ∙ p))) (λ b p. e ∙ take (wires flat k) h.1 b p.1)
  where
    put : (v : Bool) → v ≡ true → (b : Bit) → taken_at (side_signed flat (driver_at flat k).value) (side_taken flat (driver_at flat k).value) i ≡ Some b → NamesIf v flat k i b
    put true f b n = n
    put false f b n = cc

    take : (v : Bool) → v ≡ true → (b : Bit) → NamesIf v flat k i b → taken_at (side_signed flat (driver_at flat k).value) (side_taken flat (driver_at flat k).value) i ≡ Some b
    take true f b n = n
    take false f b n = cc

pub wire_written : (flat : Flat) (k i : ℕ) (o : Option Bit) (nodes : List ℕ) → IsStep flat (step.Wire k i) → o ≡ get_or (driven flat k) i None → IsWritten (widths flat) (λ b. o ≡ Some b) nodes → IsWritten (widths flat) (IsWrittenBy flat (step.Wire k i)) nodes
unfolding IsStep StepWrites Writes
wire_written flat k i o nodes h e w = written_same (widths flat) nodes (λ b. o ≡ Some b) (IsWrittenBy flat (step.Wire k i)) w (λ b p. (h, (h.0, sym e ∙ p))) (λ b p. e ∙ p.1.1)

wire_once : (flat : Flat) (k i : ℕ) (t : Step) → StepsTo k (i + 1) 0 t → StepsTo k i 0 t ⊎ (t ≡ step.Wire k i)
wire_once flat k i (step.Driver j) p = inl p
wire_once flat k i (step.Wire j m) (inl p) = inl (inl p)
wire_once flat k i (step.Wire j m) (inr p) = elim (cases_eq m i) [
  | inl q ↦ inr (ap (λ (n : ℕ). step.Wire n m) p.0 ∙ ap (λ (n : ℕ). step.Wire k n) q)
  | inr q ↦ inl (inr (p.0, omega (arith, p.1)))
]
wire_once flat k i (step.Block j) p = inl p

wire_more : (k i : ℕ) (t : Step) → StepsTo k i 0 t → StepsTo k (i + 1) 0 t
wire_more k i (step.Driver j) p = p
wire_more k i (step.Wire j m) (inl p) = inl p
wire_more k i (step.Wire j m) (inr p) = inr (p.0, omega (arith, p.1))
wire_more k i (step.Block j) p = p

pub wire_added : (flat : Flat) (k i : ℕ) (steps after : List Step) (rows new : List (Vec ℕ Global)) (row nodes : List ℕ) → IsStepGraph flat (StepsTo k i 0) steps rows → IsStep flat (step.Wire k i) → IsRow (widths flat) (IsNamedBy flat (step.Wire k i)) row
    → IsWritten (widths flat) (IsWrittenBy flat (step.Wire k i)) nodes → after ≡ steps ++ step.Wire k i ∷ [] → Joined (map names_of rows ++ row ∷ []) (map names_of new) nodes (length rows) → IsStepGraph flat (StepsTo k (i + 1) 0) after new
wire_added flat k i steps after rows new row nodes h is r w e j = rw e
    (graph_added flat (StepsTo k i 0) (StepsTo k (i + 1) 0) steps (step.Wire k i) rows new row nodes h is (λ p. elim p [ inl x ↦ omega (arith, x) | inr x ↦ omega (arith, x.1) ]) (inr (refl, omega arith)) (wire_more k i) (λ t u v. wire_once flat k i t v) r w j)

all_wires : (flat : Flat) (k n : ℕ) (t : Step) → wires flat k ≡ true → length (driven flat k) ≤ n → IsStep flat t → StepsTo (k + 1) 0 0 t → StepsTo k n 0 t
unfolding IsStep
all_wires flat k n (step.Driver j) e l i p = elim (cases_eq j k) [ inl q ↦ absurd (both_ways (wires flat k) (ap (wires flat) (sym q) ∙ i.1) e) | inr q ↦ omega arith ]
all_wires flat k n (step.Wire j m) e l i (inl p) = elim (cases_eq j k) [ inl q ↦ inr (q, omega (arith, i.2, ap (λ (x : ℕ). length (driven flat x)) q, l)) | inr q ↦ inl (omega arith) ]
all_wires flat k n (step.Wire j m) e l i (inr p) = absurd (omega (arith, p.1))
all_wires flat k n (step.Block j) e l i p = p

wires_all : (k n : ℕ) (t : Step) → StepsTo k n 0 t → StepsTo (k + 1) 0 0 t
wires_all k n (step.Driver j) p = omega arith
wires_all k n (step.Wire j m) (inl p) = inl (omega arith)
wires_all k n (step.Wire j m) (inr p) = inl (omega (arith, p.0))
wires_all k n (step.Block j) p = p

pub wires_added : (flat : Flat) (k n : ℕ) (steps : List Step) (rows : List (Vec ℕ Global)) → wires flat k ≡ true → length (driven flat k) ≤ n → IsStepGraph flat (StepsTo k n 0) steps rows → IsStepGraph flat (StepsTo (k + 1) 0 0) steps rows
wires_added flat k n steps rows e l h = record {
  each = λ i m. ((h.each i m).0, wires_all k n (step_at steps i) (h.each i m).1);
  all = λ s i p. h.all s i (all_wires flat k n s e l i p);
  once = h.once;
  graph = h.graph;
}

-- a combinational block

pub block_row : (flat : Flat) (k stamp : ℕ) (old own nodes : List ℕ) (named : List Reach) (row : List ℕ) → k < length flat.combinational → Grown [] named (StatementReads (scope_at flat (block_at flat.combinational k).scope) (block_at flat.combinational k).body)
    → IsWritten (widths flat) (λ b. writes_at_all flat (block_at flat.combinational k) b ≡ true) nodes → Stamped old own nodes stamp → ((v : ℕ) → get_or old v 0 < stamp) → IsRow (widths flat) (λ b. (covered named b ≡ true) × Foreign (widths flat) own stamp b) row
    → IsRow (widths flat) (IsNamedBy flat (step.Block k)) row
unfolding IsStep StepNames covered
block_row flat k stamp old own nodes named row l g w s f r = row_valid (widths flat) row (λ b. (covered named b ≡ true) × Foreign (widths flat) own stamp b) (IsNamedBy flat (step.Block k)) r
    (λ b v p. (l, (elim (g.only b p.0) [ inl x ↦ absurd (both_ways false refl x) | inr x ↦ x ], missed (writes_at_all flat (block_at flat.combinational k) b) (λ t. p.1 (s.on (bit_node (widths flat) b) (w.complete b v t))))))
    (λ b v p. (
      g.added b p.1.0,
      λ q. elim (s.off (bit_node (widths flat) b)) [
        | inl i ↦
            let m = w.sound (bit_node (widths flat) b) i in
            let e = node_once (widths flat) m.0 b m.1.0 v m.1.1.0 in
            both_ways (writes_at_all flat (block_at flat.combinational k) b) p.1.1 (subst (λ (x : Bit). writes_at_all flat (block_at flat.combinational k) x ≡ true) e m.1.1.1)
        | inr i ↦ let m = f (bit_node (widths flat) b) in omega (arith, i, m, q)
      ],
    ))

pub block_written : (flat : Flat) (k : ℕ) (writes : List Write) (all rs : List Reach) (nodes : List ℕ) → k < length flat.combinational → ((b : Bit) → may writes b ≡ writes_at_all flat (block_at flat.combinational k) b) → ((b : Bit) → covered all b ≡ may writes b) → rs ≡ all
    → IsWritten (widths flat) (λ b. covered rs b ≡ true) nodes → IsWritten (widths flat) (λ b. writes_at_all flat (block_at flat.combinational k) b ≡ true) nodes
block_written flat k writes all rs nodes l e d q w =
    let f : (b : Bit) → covered rs b ≡ writes_at_all flat (block_at flat.combinational k) b = λ b. ap (λ (z : List Reach). covered z b) q ∙ (d b ∙ e b) in
    written_same (widths flat) nodes (λ b. covered rs b ≡ true) (λ b. writes_at_all flat (block_at flat.combinational k) b ≡ true) w (λ b p. sym (f b) ∙ p) (λ b p. f b ∙ p)

written_block : (flat : Flat) (k : ℕ) (nodes : List ℕ) → k < length flat.combinational → IsWritten (widths flat) (λ b. writes_at_all flat (block_at flat.combinational k) b ≡ true) nodes → IsWritten (widths flat) (IsWrittenBy flat (step.Block k)) nodes
unfolding IsStep StepWrites Writes
written_block flat k nodes l w = written_same (widths flat) nodes (λ b. writes_at_all flat (block_at flat.combinational k) b ≡ true) (IsWrittenBy flat (step.Block k)) w (λ b p. (l, (l, p))) (λ b p. p.1.1)

block_once : (d k : ℕ) (t : Step) → StepsTo d 0 (k + 1) t → StepsTo d 0 k t ⊎ (t ≡ step.Block k)
block_once d k (step.Driver j) p = inl p
block_once d k (step.Wire j m) p = inl p
block_once d k (step.Block j) p = elim (cases_eq j k) [ inl q ↦ inr (ap step.Block q) | inr q ↦ inl (omega arith) ]

block_more : (d k : ℕ) (t : Step) → StepsTo d 0 k t → StepsTo d 0 (k + 1) t
block_more d k (step.Driver j) p = p
block_more d k (step.Wire j m) p = p
block_more d k (step.Block j) p = omega arith

pub block_added : (flat : Flat) (d k : ℕ) (steps after : List Step) (rows new : List (Vec ℕ Global)) (row nodes : List ℕ) → IsStepGraph flat (StepsTo d 0 k) steps rows → k < length flat.combinational → IsRow (widths flat) (IsNamedBy flat (step.Block k)) row
    → IsWritten (widths flat) (λ b. writes_at_all flat (block_at flat.combinational k) b ≡ true) nodes → after ≡ steps ++ step.Block k ∷ [] → Joined (map names_of rows ++ row ∷ []) (map names_of new) nodes (length rows) → IsStepGraph flat (StepsTo d 0 (k + 1)) after new
unfolding IsStep
block_added flat d k steps after rows new row nodes h l r w e j = rw e
    (graph_added flat (StepsTo d 0 k) (StepsTo d 0 (k + 1)) steps (step.Block k) rows new row nodes h l (λ p. omega arith) (omega arith) (block_more d k) (λ t u v. block_once d k t v) r (written_block flat k nodes l w) j)

pub stamped_low : (old own nodes : List ℕ) (n stamp : ℕ) → stamp ≡ n + 1 → ((v : ℕ) → get_or old v 0 ≤ n) → Stamped old own nodes stamp → (v : ℕ) → get_or own v 0 ≤ n + 1
stamped_low old own nodes n stamp e f s v = elim (s.off v) [ inl i ↦ omega (arith, s.on v i, e) | inr i ↦ let m = f v in omega (arith, i, m) ]

-- every step of a design is one of these
pub all_steps : (flat : Flat) (s : Step) → IsStep flat s → StepsTo (length flat.drivers) 0 (length flat.combinational) s
unfolding IsStep
all_steps flat (step.Driver k) i = i.0
all_steps flat (step.Wire k j) i = inl i.0
all_steps flat (step.Block k) i = i

-- what a flat design keeps

past_get : {A : Type 0} → (xs : List A) (k : ℕ) (d : A) → length xs ≤ k → get_or xs k d ≡ d
past_get [] k d l = refl
past_get (x ∷ xs) zero d l = absurd (omega arith)
past_get (x ∷ xs) (suc k) d l = past_get xs k d (omega arith)

there_side : (d : Design) (x : declared_side.Side) → IsSide d.signals d.scopes x → IsThere (plain_flat d) (plain_side x)
there_side d (side.Text e scope) h = tt
there_side d (side.Whole id) h = omega (arith, h, length-map d.signals plain_signal)

signals_sound : (n : ℕ) (xs : List Signal) → All (IsSignal n) xs → (id : ℕ) → id < length xs → (plain_head.signal_at (map plain_signal xs) id).width ≡ range_width (plain_head.signal_at (map plain_signal xs) id).range
signals_sound n [] h id l = absurd (omega arith)
signals_sound n (x ∷ xs) h id l =
    let i : IsSignal n (get_or (x ∷ xs) id x) = All-get_or (IsSignal n) (x ∷ xs) id x l h in
    let e : plain_head.signal_at (map plain_signal (x ∷ xs)) id ≡ plain_signal (get_or (x ∷ xs) id x) = get_or-map plain_signal (x ∷ xs) id x plain_head.no_signal l in
    let P : plain_head.Signal → Type 0 = λ y. y.width ≡ range_width y.range in
    subst P (sym e) i.width

drivers_sound : (d : Design) (xs : List Driver) → All (IsDriver d.signals d.scopes) xs → (k : ℕ) → k < length xs
    → IsThere (plain_flat d) (get_or (map plain_driver xs) k no_driver).target × IsThere (plain_flat d) (get_or (map plain_driver xs) k no_driver).value
drivers_sound d [] h k l = absurd (omega arith)
drivers_sound d (x ∷ xs) h k l =
    let i : IsDriver d.signals d.scopes (get_or (x ∷ xs) k x) = All-get_or (IsDriver d.signals d.scopes) (x ∷ xs) k x l h in
    let e : get_or (map plain_driver (x ∷ xs)) k no_driver ≡ plain_driver (get_or (x ∷ xs) k x) = get_or-map plain_driver (x ∷ xs) k x no_driver l in
    let P : plain_design.Driver → Type 0 = λ y. IsThere (plain_flat d) y.target × IsThere (plain_flat d) y.value in
    subst P (sym e) (there_side d (get_or (x ∷ xs) k x).target i.target, there_side d (get_or (x ∷ xs) k x).value i.value)

pub sound_of : (d : Design) → IsFlat d.signals d.scopes d.drivers d.clocked d.combinational d.walk d.inputs d.outputs d.owners d.starts d.initials → IsClosed (plain_flat d)
sound_of d f = record {
  scopes = λ i. elim (cases_lt i (length d.scopes)) [
    | inl l ↦ All-get_or (IsScope d.signals) d.scopes i [] l f.scopes_in
    | inr l ↦ rw (past_get d.scopes i [] l) (λ j e m. absurd (omega arith))
  ];
  signals = λ id l. signals_sound (length d.scopes) d.signals f.signals_in id (omega (arith, l, length-map d.signals plain_signal));
  targets = λ k l. (drivers_sound d d.drivers f.drivers_in k (omega (arith, l, length-map d.drivers plain_driver))).0;
  values = λ k l. (drivers_sound d d.drivers f.drivers_in k (omega (arith, l, length-map d.drivers plain_driver))).1;
}

pub driver_is : (d : Design) (k : ℕ) (x : Driver) → plain_driver x ≡ driver_at (plain_flat d) k → plain_side x.target ≡ (driver_at (plain_flat d) k).target
driver_is d k x e = ap (λ (y : plain_design.Driver). y.target) e

pub value_is : (d : Design) (k : ℕ) (x : Driver) → plain_driver x ≡ driver_at (plain_flat d) k → plain_side x.value ≡ (driver_at (plain_flat d) k).value
value_is d k x e = ap (λ (y : plain_design.Driver). y.value) e

-- facts of the code

pub written_low : (ws : List ℕ) (W : Bit → Type 0) (nodes : List ℕ) → IsWritten ws W nodes → (v : ℕ) → In v nodes → v < total ws
written_low ws W nodes w v i = let m = w.sound v i in omega (arith, node_below ws m.0 m.1.0, m.1.1.0)

pub written_inside : (flat : Flat) (P : Step → Type 0) (steps : List Step) (rows : List (Vec ℕ Global)) (W : Bit → Type 0) (nodes : List ℕ) → IsStepGraph flat P steps rows → IsWritten (widths flat) W nodes → (v : ℕ) → In v nodes → v < length rows
written_inside flat P steps rows W nodes h w v i = omega (arith, written_low (widths flat) W nodes w v i, h.graph.count, graph_count rows)

pub driver_step : (d : Design) (k : ℕ) → k < length d.drivers → wires (plain_flat d) k ≡ false → IsStep (plain_flat d) (step.Driver k)
unfolding IsStep
driver_step d k l e = (omega (arith, l, length-map d.drivers plain_driver), e)

pub wire_step : (d : Design) (k i : ℕ) → k < length d.drivers → wires (plain_flat d) k ≡ true → i < length (driven (plain_flat d) k) → IsStep (plain_flat d) (step.Wire k i)
unfolding IsStep
wire_step d k i l e m = (omega (arith, l, length-map d.drivers plain_driver), e, m)

pub block_there : (d : Design) (k : ℕ) → k < length d.combinational → k < length (plain_flat d).combinational
block_there d k l = omega (arith, l, length-map d.combinational plain_block)

pub wires_is : (flat : Flat) (k : ℕ) (x : Side) → x ≡ (driver_at flat k).value → side_is_wiring flat x ≡ wires flat k
wires_is flat k x e = ap (side_is_wiring flat) e

pub grown_side : (flat : Flat) (x y : Side) (a b c : List Reach) → a ≡ [] → c ≡ b → x ≡ y → Grown a b (SideReads flat x) → Grown [] c (SideReads flat y)
grown_side flat x y a b c e f g h =
    let A : List Reach → Type 0 = λ z. Grown z b (SideReads flat x) in
    let B : List Reach → Type 0 = λ z. Grown [] z (SideReads flat x) in
    let C : Side → Type 0 = λ z. Grown [] c (SideReads flat z) in
    subst C g (subst B (sym f) (subst A e h))

pub grown_block : (flat : Flat) (x y : plain_design.Block) (names : Names) (a b c : List Reach) → a ≡ [] → c ≡ b → names ≡ scope_at flat x.scope → x ≡ y → Grown a b (StatementReads names x.body) → Grown [] c (StatementReads (scope_at flat y.scope) y.body)
grown_block flat x y names a b c e f n g h =
    let A : List Reach → Type 0 = λ z. Grown z b (StatementReads names x.body) in
    let B : List Reach → Type 0 = λ z. Grown [] z (StatementReads names x.body) in
    let D : Names → Type 0 = λ z. Grown [] c (StatementReads z x.body) in
    let C : plain_design.Block → Type 0 = λ z. Grown [] c (StatementReads (scope_at flat z.scope) z.body) in
    subst C g (subst D n (subst B (sym f) (subst A e h)))

-- the same bits, where each memory stands once
pub grown_distinct : (a b c : List Reach) (P : Bit → Type 0) → ((x : Bit) → covered b x ≡ covered a x) → c ≡ b → Grown [] a P → Grown [] c P
grown_distinct a b c P e f g =
    let h : (x : Bit) → covered c x ≡ covered a x = λ x. ap (λ (z : List Reach). covered z x) f ∙ e x in
    record { kept = λ x k. h x ∙ g.kept x k; added = λ x p. h x ∙ g.added x p; only = λ x k. g.only x (sym (h x) ∙ k) }

pub block_writes : (flat : Flat) (x y : plain_design.Block) (names : Names) (a b c : List Write) → a ≡ [] → c ≡ b → names ≡ scope_at flat x.scope → x ≡ y → ((z : Bit) → may b z ≡ (may a z || assigns true names x.body z)) → (z : Bit) → may c z ≡ writes_at_all flat y z
unfolding may
block_writes flat x y names a b c e f n g h z =
    ap (λ (l : List Write). may l z) f ∙ (h z ∙ (ap (λ (l : List Write). may l z || assigns true names x.body z) e ∙ (ap (λ (s : Names). assigns true s x.body z) n ∙ ap (λ (k : plain_design.Block). writes_at_all flat k z) g)))

pub taken_is : (flat : Flat) (x y : Side) (signed : Bool) (bits : List (Option Bit)) (i : ℕ) (o : Option Bit) → x ≡ y → signed ≡ side_signed flat x → bits ≡ side_taken flat x → o ≡ taken_at signed bits i → o ≡ taken_at (side_signed flat y) (side_taken flat y) i
taken_is flat x y signed bits i o e f g h =
    h ∙ (ap (λ (v : Bool). taken_at v bits i) f ∙ (ap (λ (xs : List (Option Bit)). taken_at (side_signed flat x) xs i) g ∙ ap (λ (z : Side). taken_at (side_signed flat z) (side_taken flat z) i) e))

pub entry_is : (xs ys : List (Option Bit)) (i : ℕ) (x : Option Bit) → i < length xs → x ≡ get_or xs i x → xs ≡ ys → x ≡ get_or ys i None
entry_is xs ys i x l e f = e ∙ (same_get xs i x None l ∙ ap (λ (zs : List (Option Bit)). get_or zs i None) f)
