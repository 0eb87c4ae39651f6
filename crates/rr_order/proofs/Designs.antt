-- One more step of the graph of a design.
use Rattle.std.proofs.Common.{◌≡◌, ℕ, suc, ◌+◌, ◌-◌, ◌<◌, inl, inr, List, [], ◌∷◌, ◌++◌, length, refl, subst, arith, length-append}
use Rattle.std.proofs.lemmas.Bool.{cases_lt}
use Rattle.rr_expr.specs.declared.types.Bit.{Bit}
use Rattle.rr_sort.specs.Graphs.{Graph, Names, IsGraph}
use Rattle.rr_sort.proofs.Sorting.{get_old, get_new, name_inside}
use Rattle.rr_order.specs.Nodes.{total, bit_node, signal_node, step_node, In, IsRow, IsWritten, Joined, IsGraphOf}
use Rattle.rr_order.proofs.Layouts.{node_below, node_there, node_once}

pub names_old : (g : Graph) (row : List ℕ) (v w : ℕ) → Names g v w → Names (g ++ row ∷ []) v w
names_old g row v w n = rw (get_old g row [] v (name_inside g v w n)) n

pub names_back : (g : Graph) (row : List ℕ) (v w : ℕ) → v < length g → Names (g ++ row ∷ []) v w → Names g v w
names_back g row v w l n = rw (get_old g row [] v l) at n

pub names_new : (g : Graph) (row : List ℕ) (v w : ℕ) → v ≡ length g → In w row → Names (g ++ row ∷ []) v w
names_new g row v w e n = rw (get_new g row [] v e) n

pub names_last : (g : Graph) (row : List ℕ) (v w : ℕ) → v ≡ length g → Names (g ++ row ∷ []) v w → In w row
names_last g row v w e n = rw (get_new g row [] v e) at n

step_count : {A : Type 0} → (steps : List A) (s : A) → length (steps ++ s ∷ []) ≡ suc (length steps)
step_count steps s = omega (arith, length-append steps (s ∷ []))

pub step_added : {A : Type 0} → (d : A) (ws : List ℕ) (W R : A → Bit → Type 0) (steps : List A) (s : A) (g h : Graph) (row nodes : List ℕ) → IsGraphOf d ws W R steps g → IsRow ws (R s) row → IsWritten ws (W s) nodes
    → Joined (g ++ row ∷ []) h nodes (length g) → IsGraphOf d ws W R (steps ++ s ∷ []) h
step_added d ws W R steps s g h row nodes i r n j =
    let c = step_count steps s in
    let cg : length (g ++ row ∷ []) ≡ suc (length g) = omega (arith, length-append g (row ∷ [])) in
    record {
      count = omega (arith, c, cg, j.count, i.count);
      writes = λ k b l w v. elim (cases_lt k (length steps)) [
        | inl m ↦ j.kept (bit_node ws b) (step_node ws k) (names_old g row (bit_node ws b) (step_node ws k) (i.writes k b m (rw (get_old steps s d k m) at w) v))
        | inr m ↦
            let e : k ≡ length steps = omega (arith, c, l) in
            let t : length g ≡ step_node ws k = omega (arith, i.count, e) in
            rw (← t) (j.added (bit_node ws b) (n.complete b v (rw (get_new steps s d k e) at w)))
      ];
      written = λ b w v m. elim (j.only (bit_node ws b) w m) [
        | inl o ↦
            let q = i.written b w v (names_back g row (bit_node ws b) w (omega (arith, node_below ws b v, i.count)) o) in
            (q.0, (omega (arith, q.1.0, c), (q.1.1.0, rw (get_old steps s d q.0 q.1.0) q.1.1.1)))
        | inr o ↦
            let q = n.sound (bit_node ws b) o.0 in
            let e : q.0 ≡ b = node_once ws q.0 b q.1.0 v q.1.1.0 in
            (length steps, (omega (arith, c), (omega (arith, o.1, i.count), rw (get_new steps s d (length steps) refl) (subst (W s) e q.1.1.1))))
      ];
      bits = λ b v. j.kept (signal_node ws b.signal) (bit_node ws b) (names_old g row (signal_node ws b.signal) (bit_node ws b) (i.bits b v));
      bit = λ t w l m. elim (j.only (signal_node ws t) w m) [
        | inl o ↦ i.bit t w l (names_back g row (signal_node ws t) w (omega (arith, l, i.count)) o)
        | inr o ↦ let q = n.sound (signal_node ws t) o.0 in absurd (omega (arith, node_below ws q.0 q.1.0, q.1.1.0))
      ];
      names = λ k b l w v. elim (cases_lt k (length steps)) [
        | inl m ↦ elim (i.names k b m (rw (get_old steps s d k m) at w) v) [
          | inl o ↦ inl (j.kept (step_node ws k) (bit_node ws b) (names_old g row (step_node ws k) (bit_node ws b) o))
          | inr o ↦ inr (j.kept (step_node ws k) (signal_node ws b.signal) (names_old g row (step_node ws k) (signal_node ws b.signal) o))
        ]
        | inr m ↦
            let e : k ≡ length steps = omega (arith, c, l) in
            let t : step_node ws k ≡ length g = omega (arith, i.count, e) in
            elim (r.complete b v (rw (get_new steps s d k e) at w)) [
              | inl o ↦ inl (j.kept (step_node ws k) (bit_node ws b) (names_new g row (step_node ws k) (bit_node ws b) t o))
              | inr o ↦ inr (j.kept (step_node ws k) (signal_node ws b.signal) (names_new g row (step_node ws k) (signal_node ws b.signal) t o))
            ]
      ];
      named = λ k w l m. elim (j.only (step_node ws k) w m) [
        | inl o ↦ elim (cases_lt k (length steps)) [
          | inl p ↦ rw (get_old steps s d k p) (i.named k w p (names_back g row (step_node ws k) w (omega (arith, p, i.count)) o))
          | inr p ↦
              let e : k ≡ length steps = omega (arith, c, l) in
              rw (get_new steps s d k e) (r.sound w (names_last g row (step_node ws k) w (omega (arith, i.count, e)) o))
        ]
        | inr o ↦ let q = n.sound (step_node ws k) o.0 in absurd (omega (arith, node_below ws q.0 q.1.0, q.1.1.0))
      ];
    }

-- all nodes that are named are there
pub graph_closed : {A : Type 0} → (d : A) (ws : List ℕ) (W R : A → Bit → Type 0) (steps : List A) (g : Graph) → IsGraphOf d ws W R steps g → IsGraph g
graph_closed d ws W R steps g i v w n =
    let m = name_inside g v w n in
    elim (cases_lt v (total ws)) [
      | inl l ↦
          let b = node_there ws v l in
          let q = i.written b.0 w b.1.0 (rw b.1.1 n) in
          omega (arith, q.1.0, q.1.1.0, i.count)
      | inr l ↦ elim (cases_lt v (total ws + length ws)) [
        | inl o ↦
            let e : total ws + (v - total ws) ≡ v = omega arith in
            let q = i.bit (v - total ws) w (omega arith) (rw e n) in
            omega (arith, node_below ws q.0 q.1.0, q.1.1.1, i.count)
        | inr o ↦
            let e : total ws + (length ws + (v - (total ws + length ws))) ≡ v = omega arith in
            elim (i.named (v - (total ws + length ws)) w (omega (arith, m, i.count)) (rw e n)) [
              | inl q ↦ omega (arith, node_below ws q.0 q.1.0, q.1.1.0, i.count)
              | inr q ↦ omega (arith, q.1.0, q.1.1.0, i.count)
            ]
      ]
    ]
