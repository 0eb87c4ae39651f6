-- loops over steps, blocks, ports and rows
use Rattle.std.proofs.Common.{◌≡◌, ◌∙◌, sym, ap, ℕ, ◌+◌, ◌<◌, ◌≤◌, false, List, [], ◌∷◌, ◌++◌, length, map, drop, get_or, Option, None}
use Rattle.std.proofs.lemmas.List.{drop_all, drop_more, get_or-map}
use Rattle.rr_syntax.specs.View.{plain_statement}
use Rattle.rr_expr.specs.Scopes.{Names}
use Rattle.rr_flat.specs.declared.design.Block.{Block}
use Rattle.rr_flat.specs.declared.design.Driver.{Driver}
use Rattle.rr_flat.specs.declared.design.Step.{Step}
use Rattle.rr_flat.specs.declared.design.Step.TheVariants as step
use Rattle.rr_flat.specs.Ordered.{IsStep}
use Rattle.rr_flat.specs.Plain.{Flat}
use Rattle.rr_flat.specs.Plain as plain
use Rattle.rr_flat.specs.View.{Design, plain_block, plain_driver, plain_flat}
use Rattle.rr_flat.specs.Writers.{block_at, driven_by, no_block, no_driver, scope_at}
use Rattle.rr_cycle.specs.Cycles.{IsNext, Runs, Settled, after_block, cycle, ended, outputs_of, updates_of_block}
use Rattle.rr_cycle.specs.Exec.{Environment, applied, executed, updates, write}
use Rattle.rr_cycle.specs.Performing.{act, performed, run_blocks, updates_of_blocks}
use Rattle.rr_cycle.proofs.Applied.{applied_append}
use Rattle.rr_meaning.specs.Work.{sides_value}

-- steps

pub step_driver : (flat : Flat) (k : ℕ) → IsStep flat (step.Driver k) → k < length flat.drivers
unfolding IsStep
step_driver flat k h = h.0

pub step_wire : (flat : Flat) (k i : ℕ) → IsStep flat (step.Wire k i) → k < length flat.drivers
unfolding IsStep
step_wire flat k i h = h.0

pub step_block : (flat : Flat) (k : ℕ) → IsStep flat (step.Block k) → k < length flat.combinational
unfolding IsStep
step_block flat k h = h

pub steps_more : (flat : Flat) (ss : List Step) (i : ℕ) (s d : Step) (e f g : Environment) → i < length ss → s ≡ get_or ss i d → performed flat (drop i ss) e ≡ f → g ≡ act flat s e → performed flat (drop (i + 1) ss) g ≡ f
unfolding performed
steps_more flat ss i s d e f g l q h k =
    ap (performed flat (drop (i + 1) ss)) k ∙ ap (λ (xs : List Step). performed flat xs e) (sym (drop_more ss i d l ∙ ap (λ (x : Step). x ∷ drop (i + 1) ss) (sym q))) ∙ h

pub steps_done : (flat : Flat) (ss : List Step) (i : ℕ) (e f : Environment) → length ss ≤ i → performed flat (drop i ss) e ≡ f → e ≡ f
unfolding performed
steps_done flat ss i e f l h = ap (λ (xs : List Step). performed flat xs e) (sym (drop_all i ss l)) ∙ h

driver_is : (ds : List Driver) (k : ℕ) (x d : Driver) → k < length ds → x ≡ get_or ds k d → get_or (map plain_driver ds) k no_driver ≡ plain_driver x
driver_is ds k x d l q = get_or-map plain_driver ds k d no_driver l ∙ ap plain_driver (sym q)

block_is : (bs : List Block) (k : ℕ) (x d : Block) → k < length bs → x ≡ get_or bs k d → block_at (map plain_block bs) k ≡ plain_block x
block_is bs k x d l q = get_or-map plain_block bs k d no_block l ∙ ap plain_block (sym q)

pub act_driver : (d : Design) (k : ℕ) (x y : Driver) (e : Environment) → k < length d.drivers → x ≡ get_or d.drivers k y →
    write (driven_by (plain_flat d) (plain_driver x).target) (sides_value (plain_flat d) (plain_driver x) e) e ≡ act (plain_flat d) (step.Driver k) e
unfolding act
act_driver d k x y e l q = ap (λ (z : plain.Driver). write (driven_by (plain_flat d) z.target) (sides_value (plain_flat d) z e) e) (sym (driver_is d.drivers k x y l q))

pub act_wire : (d : Design) (k i : ℕ) (x y : Driver) (e : Environment) → k < length d.drivers → x ≡ get_or d.drivers k y →
    write (get_or (driven_by (plain_flat d) (plain_driver x).target) i None ∷ []) (get_or (sides_value (plain_flat d) (plain_driver x) e) i false ∷ []) e ≡ act (plain_flat d) (step.Wire k i) e
unfolding act
act_wire d k i x y e l q =
    ap (λ (z : plain.Driver). write (get_or (driven_by (plain_flat d) z.target) i None ∷ []) (get_or (sides_value (plain_flat d) z e) i false ∷ []) e) (sym (driver_is d.drivers k x y l q))

pub act_block : (d : Design) (k : ℕ) (x y : Block) (e : Environment) → k < length d.combinational → x ≡ get_or d.combinational k y →
    executed (scope_at (plain_flat d) x.scope) (plain_statement x.body.now) e ≡ act (plain_flat d) (step.Block k) e
unfolding act
act_block d k x y e l q = ap (λ (z : plain.Block). after_block (plain_flat d) z e) (sym (block_is d.combinational k x y l q))

-- clocked blocks

pub blocks_more : (flat : Flat) (bs : List Block) (i : ℕ) (y : Block) (s : Names) (e f g : Environment) → i < length bs → s ≡ scope_at flat (get_or bs i y).scope → run_blocks flat (map plain_block (drop i bs)) e ≡ f →
    g ≡ executed s (plain_statement (get_or bs i y).body.now) e → run_blocks flat (map plain_block (drop (i + 1) bs)) g ≡ f
unfolding run_blocks
blocks_more flat bs i y s e f g l q h k =
    ap (run_blocks flat (map plain_block (drop (i + 1) bs))) (k ∙ ap (λ (t : Names). executed t (plain_statement (get_or bs i y).body.now) e) q)
    ∙ ap (λ (xs : List Block). run_blocks flat (map plain_block xs) e) (sym (drop_more bs i y l)) ∙ h

pub blocks_done : (flat : Flat) (bs : List Block) (i : ℕ) (e f : Environment) → length bs ≤ i → run_blocks flat (map plain_block (drop i bs)) e ≡ f → e ≡ f
unfolding run_blocks
blocks_done flat bs i e f l h = ap (λ (xs : List Block). run_blocks flat (map plain_block xs) e) (sym (drop_all i bs l)) ∙ h

pub updates_more : (flat : Flat) (bs : List Block) (i : ℕ) (y : Block) (s : Names) (e g a a' f : Environment) → i < length bs → s ≡ scope_at flat (get_or bs i y).scope →
    applied (updates_of_blocks flat (map plain_block (drop i bs)) e) a ≡ f → g ≡ executed s (plain_statement (get_or bs i y).body.now) e → a' ≡ applied (updates s (plain_statement (get_or bs i y).body.now) e) a →
    applied (updates_of_blocks flat (map plain_block (drop (i + 1) bs)) g) a' ≡ f
unfolding updates_of_blocks
updates_more flat bs i y s e g a a' f l q h k m =
    let b : Block = get_or bs i y in
    let u = updates_of_block flat e (plain_block b) in
    let v = updates_of_blocks flat (map plain_block (drop (i + 1) bs)) (after_block flat (plain_block b) e) in
    ap (λ (x : Environment). applied (updates_of_blocks flat (map plain_block (drop (i + 1) bs)) x) a') (k ∙ ap (λ (t : Names). executed t (plain_statement b.body.now) e) q)
    ∙ ap (applied v) (m ∙ ap (λ (t : Names). applied (updates t (plain_statement b.body.now) e) a) q)
    ∙ sym (applied_append u v a)
    ∙ ap (λ (xs : List Block). applied (updates_of_blocks flat (map plain_block xs) e) a) (sym (drop_more bs i y l)) ∙ h

pub updates_done : (flat : Flat) (bs : List Block) (i : ℕ) (e a f : Environment) → length bs ≤ i → applied (updates_of_blocks flat (map plain_block (drop i bs)) e) a ≡ f → a ≡ f
unfolding updates_of_blocks applied
updates_done flat bs i e a f l h = ap (λ (xs : List Block). applied (updates_of_blocks flat (map plain_block xs) e) a) (sym (drop_all i bs l)) ∙ h

-- rows

pub runs_more : {flat : Flat} {clock : Option ℕ} {s e : Environment} {rows outs : List (List ℕ)} (row : List ℕ) (env next : Environment) → Runs flat clock s rows outs e → Settled flat clock e row env → IsNext flat env next →
    Runs flat clock s (rows ++ row ∷ []) (outs ++ outputs_of flat env ∷ []) next
runs_more row env next ended h n = cycle env next h n ended
runs_more row env next (cycle env' next' h' n' r) h n = cycle env' next' h' n' (runs_more row env next r h n)
