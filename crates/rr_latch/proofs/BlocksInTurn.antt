-- The combinational blocks in turn.
use Rattle.std.proofs.Common.{◌≡◌, ◌∙◌, sym, ap, subst, ℕ, ◌+◌, ◌<◌, ◌≤◌, inl, inr, Bool, true, List, length, map, get_or, arith}
use Rattle.std.proofs.lemmas.Bool.{cases_lt}
use Rattle.std.proofs.lemmas.List.{get_or-map}
use Rattle.rr_expr.specs.declared.types.Bit.{Bit}
use Rattle.rr_expr.specs.Scopes.{Names}
use Rattle.rr_flat.specs.declared.design.Block as declared
use Rattle.rr_flat.specs.Latches.{NoLatch}
use Rattle.rr_flat.specs.Lawful.{NoLatches}
use Rattle.rr_flat.specs.Plain.{Block, Flat}
use Rattle.rr_flat.specs.View.{Design, plain_block, plain_flat}
use Rattle.rr_flat.specs.Writers.{scope_at, block_at, no_block}
use Rattle.rr_latch.specs.declared.latches.Latch.{Latch}
use Rattle.rr_latch.specs.Unassigned.{IsLatch, KeepsBit}
use Rattle.rr_latch.proofs.Knowing.{keeps_latch}

abbrev NoLatchAt : Flat → ℕ → Type 0
NoLatchAt flat k = NoLatch (scope_at flat (block_at flat.combinational k).scope) (block_at flat.combinational k).body

pub record BlocksRead (flat : Flat) (n : ℕ) (f : Bit → Bool) : Type 0 where
  pub before : (k : ℕ) → k < n → NoLatchAt flat k
  pub assigned : (b : Bit) → f b ≡ true

pub blocks_start : (flat : Flat) (f : Bit → Bool) → ((b : Bit) → f b ≡ true) → BlocksRead flat 0 f
blocks_start flat f h = record { before = λ k l. absurd (omega arith); assigned = h }

pub blocks_more : (flat : Flat) (n : ℕ) (f g : Bit → Bool) → BlocksRead flat n f → NoLatchAt flat n → ((b : Bit) → g b ≡ true) → BlocksRead flat (n + 1) g
blocks_more flat n f g r h k = record {
  before = λ j l. elim (cases_lt j n) [ inl m ↦ r.before j m | inr m ↦ let e : n ≡ j = omega arith in subst (NoLatchAt flat) e h ];
  assigned = k;
}

pub blocks_done : (flat : Flat) (n : ℕ) (f : Bit → Bool) → length flat.combinational ≤ n → BlocksRead flat n f → NoLatches flat
blocks_done flat n f l r k m = r.before k (omega arith)

-- a block that keeps a bit breaks the law
pub kept_breaks : (flat : Flat) (n : ℕ) (block : Block) (s : Names) (b : Bit) → n < length flat.combinational → block ≡ block_at flat.combinational n → s ≡ scope_at flat block.scope → KeepsBit s block.body b → NoLatches flat → ⊥
kept_breaks flat n block s b l e q k m =
    let P : Names → Type 0 = λ z. KeepsBit z block.body b in
    let Q : Block → Type 0 = λ w. KeepsBit (scope_at flat w.scope) w.body b in
    keeps_latch (scope_at flat (block_at flat.combinational n).scope) (block_at flat.combinational n).body b (subst Q e (subst P q k)) (m n l)

-- a block of the list, one that keeps no bit, and the first that keeps one

pub block_here : (d : Design) (bs : List declared.Block) (n : ℕ) (y : declared.Block) → bs ≡ d.combinational → n < length bs → plain_block (get_or bs n y) ≡ block_at (plain_flat d).combinational n
block_here d bs n y e l = sym (get_or-map plain_block bs n y no_block l) ∙ ap (λ (zs : List declared.Block). block_at (map plain_block zs) n) e

pub block_passed : (flat : Flat) (n : ℕ) (block : Block) (s : Names) (f g : Bit → Bool) → block ≡ block_at flat.combinational n → s ≡ scope_at flat block.scope → BlocksRead flat n f → NoLatch s block.body → ((b : Bit) → g b ≡ true) → BlocksRead flat (n + 1) g
block_passed flat n block s f g e q r h k =
    let P : Names → Type 0 = λ z. NoLatch z block.body in
    let Q : Block → Type 0 = λ w. NoLatch (scope_at flat w.scope) w.body in
    blocks_more flat n f g r (subst Q e (subst P q h)) k

pub first_kept : (flat : Flat) (n : ℕ) (block : Block) (s : Names) (f : Bit → Bool) (l : Latch) → n < length flat.combinational → block ≡ block_at flat.combinational n → s ≡ scope_at flat block.scope → BlocksRead flat n f → KeepsBit s block.body l.bit → l.block ≡ block.token
    → IsLatch flat l
first_kept flat n block s f l lt e q r k t =
    let P : Names → Type 0 = λ z. KeepsBit z block.body l.bit in
    let Q : Block → Type 0 = λ w. KeepsBit (scope_at flat w.scope) w.body l.bit in
    record { block = n; inside = lt; token = t ∙ ap (λ (w : Block). w.token) e; keeps = subst Q e (subst P q k); before = r.before }
