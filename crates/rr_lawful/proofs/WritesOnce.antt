-- One token at which two writers, a latch and a loop are told first.
use Rattle.std.proofs.Common.{◌≡◌, ◌∙◌, sym, ap, subst, refl, ℕ, ◌<◌, inl, inr, List, [], ◌∷◌, arith}
use Rattle.rr_expr.specs.declared.types.Bit.{Bit}
use Rattle.rr_flat.specs.declared.design.Step.{Step}
use Rattle.rr_flat.specs.declared.design.Step.TheVariants as step
use Rattle.rr_flat.specs.Lawful.{OneWriter}
use Rattle.rr_flat.specs.Ordered.{StepWrites}
use Rattle.rr_flat.specs.Plain.{Flat}
use Rattle.rr_flat.specs.Writers.{Writer, Driven, Combinational, Writes, scope_at, block_at}
use Rattle.rr_clock.proofs.Leading.{same_number}
use Rattle.rr_latch.specs.Unassigned.{IsLatch}
use Rattle.rr_latch.specs.declared.latches.Latch.{Latch}
use Rattle.rr_latch.proofs.Knowing.{keeps_latch}
use Rattle.rr_order.specs.Loops.{IsBefore, BitCycle, FirstWrittenAt, IsLoop, step_token}
use Rattle.rr_writers.specs.Doubles.{IsDouble, part_at, part_of, token_of}
use Rattle.rr_writers.specs.declared.doubles.TwoDrivers.{TwoDrivers}

-- two writers

not_sooner : (flat : Flat) (d e : TwoDrivers) (p : IsDouble flat d) (q : IsDouble flat e) → p.later < q.later → ⊥
not_sooner flat d e p q l =
    let order = p.order in
    let inside = p.inside in
    p.apart (q.before p.first p.second d.bit (p.earlier, (omega (arith, l, order), (omega (arith, inside, order), p.first_at))) (p.later, (l, (inside, p.second_at))) p.first_writes p.second_writes)

pub double_same : (flat : Flat) (d e : TwoDrivers) → IsDouble flat d → IsDouble flat e → d.second ≡ e.second
double_same flat d e p q = p.second_token ∙ (ap (λ i. token_of flat (part_at flat i)) same ∙ sym q.second_token)
  where
    same : p.later ≡ q.later
    same = same_number p.later q.later (λ l. not_sooner flat d e p q l) (λ l. not_sooner flat e d q p l)

-- latches

no_sooner : (flat : Flat) (l m : Latch) (p : IsLatch flat l) (q : IsLatch flat m) → p.block < q.block → ⊥
no_sooner flat l m p q h = keeps_latch (scope_at flat (block_at flat.combinational p.block).scope) (block_at flat.combinational p.block).body l.bit p.keeps (q.before p.block h)

pub latch_same : (flat : Flat) (l m : Latch) → IsLatch flat l → IsLatch flat m → l.block ≡ m.block
latch_same flat l m p q = p.token ∙ (ap (λ i. (block_at flat.combinational i).token) same ∙ sym q.token)
  where
    same : p.block ≡ q.block
    same = same_number p.block q.block (λ h. no_sooner flat l m p q h) (λ h. no_sooner flat m l q p h)

-- loops

bits_same : (a b : Bit) → (IsBefore a b → ⊥) → (IsBefore b a → ⊥) → a ≡ b
bits_same a b nay never = both (same_number a.signal b.signal (λ l. nay (inl l)) (λ l. never (inl l)))
  where
    both : a.signal ≡ b.signal → a ≡ b
    both e =
        let places : a.place ≡ b.place = same_number a.place b.place (λ l. nay (inr (e, l))) (λ l. never (inr (sym e, l))) in
        λ i. record { signal = e i; place = places i }

lowest_same : (flat : Flat) (c d : Bit) (cs ds : List Bit) → BitCycle flat (c ∷ cs) → BitCycle flat (d ∷ ds) → c ≡ d
lowest_same flat c d cs ds p q = bits_same c d (λ l. q.1 c l (cs, p.0)) (λ l. p.1 d l (ds, q.0))

-- the writer that a step is for a bit that it writes
step_writer : (flat : Flat) (s : Step) (b : Bit) → StepWrites flat s b → (x : Writer) × (Writes flat x b × (step_token flat s ≡ token_of flat (part_of x)))
unfolding StepWrites
step_writer flat (step.Driver k) b w = (Driven k w.0, (w.1, refl))
step_writer flat (step.Wire k i) b w = (Driven k i, (w, refl))
step_writer flat (step.Block k) b w = (Combinational k, (w, refl))

step_same : (flat : Flat) (s t : Step) (b : Bit) → OneWriter flat → StepWrites flat s b → StepWrites flat t b → step_token flat s ≡ step_token flat t
step_same flat s t b one v w =
    let x = step_writer flat s b v in
    let y = step_writer flat t b w in
    x.1.1 ∙ (ap (λ z. token_of flat (part_of z)) (one x.0 y.0 b x.1.0 y.1.0) ∙ sym y.1.1)

pub loop_same : (flat : Flat) (bits others : List Bit) (a b : ℕ) → OneWriter flat → IsLoop flat bits a → IsLoop flat others b → a ≡ b
loop_same flat [] others a b one p q = absurd p.cycle_of
loop_same flat (c ∷ cs) [] a b one p q = absurd q.cycle_of
loop_same flat (c ∷ cs) (d ∷ ds) a b one p q = go p.token_of q.token_of
  where
    same : c ≡ d
    same = lowest_same flat c d cs ds p.cycle_of q.cycle_of

    go : FirstWrittenAt flat (c ∷ cs) a → FirstWrittenAt flat (d ∷ ds) b → a ≡ b
    go x y = x.1.1.1 ∙ (step_same flat x.0 y.0 d one (subst (StepWrites flat x.0) same x.1.1.0) y.1.1.0 ∙ sym y.1.1.1)
