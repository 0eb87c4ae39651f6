-- what the names of a flat design stand for, and its blocks one after the other
use Rattle.std.proofs.Common.{◌≡◌, ◌∙◌, ◌⊎◌, inl, inr, sym, ap, subst, ℕ, zero, suc, ◌+◌, ◌-◌, ◌<◌, ◌≤◌, Bool, true, false, cond, List, [], ◌∷◌, length, map, drop, drop-cons, get_or, Option, Some, refl, arith}
use Rattle.std.specs.List.{AllByRecursion}
use Rattle.std.specs.Str.{bytes_eq}
use Rattle.std.proofs.lemmas.List.Elements.{recursion_from_All}
use Rattle.std.proofs.lemmas.Bool.{cases_lt}
use Rattle.std.proofs.lemmas.List.{drop_all, get_or-map, get_or_past, length-map}
use Rattle.rr_syntax.specs.View.{plain_statement}
use Rattle.rr_expr.specs.declared.types.Entity.{Entity}
use Rattle.rr_expr.specs.declared.types.Entity.TheVariants as entity
use Rattle.rr_expr.specs.Scopes.{Names, lookup, meant, or_instance, range_width}
use Rattle.rr_flat.specs.declared.signal.Signal.{Signal}
use Rattle.rr_flat.specs.Signals.{signal_at}
use Rattle.rr_flat.specs.Sound.{IsNamed}
use Rattle.rr_flat.specs.View.{plain_signal}
use Rattle.rr_flat.specs.declared.design.Block.{Block}
use Rattle.rr_flat.specs.declared.design.Step.TheVariants as step
use Rattle.rr_flat.specs.Plain as plain
use Rattle.rr_flat.specs.Sound.{IsScope}
use Rattle.rr_flat.specs.View.{Design, plain_block, plain_flat}
use Rattle.rr_flat.specs.Writers.{no_block, scope_at}
use Rattle.rr_choice.specs.declared.pick.Pick.{Pick}
use Rattle.rr_choice.specs.Sites.{Site}
use Rattle.rr_cycle.specs.Cycles.{after_block}
use Rattle.rr_cycle.specs.Exec.{Environment, applied, executed, updates}
use Rattle.rr_cycle.specs.Performing.{act, run_blocks, updates_of_blocks}
use Rattle.rr_cycle.proofs.Applied.{applied_append}
use Rattle.rr_blast_steps.specs.Designs.{ran_blocks, signal_widths}
use Rattle.rr_flat_instance.specs.Flats.{instance_block, instance_flat}
use Rattle.rr_blast_body.specs.Overwrites.{body_instance}
use Rattle.rr_blast_stmt.specs.Running.{Values, ran}
use Rattle.rr_signal_wires.specs.Words.{HasWord, Holds}
use Rattle.rr_meaning.proofs.Scoping.{IsNumber, IsSound, number_of, wide, word_of}
use Rattle.rr_blast_stmt.proofs.RanLaws.{made}

pub width_there : (signals : List Signal) (id : ℕ) → id < length signals → get_or (signal_widths signals) id 0 ≡ (signal_at (map plain_signal signals) id).width
width_there [] id l = absurd (omega arith)
width_there (x ∷ xs) zero l = refl
width_there (x ∷ xs) (suc id) l = width_there xs id (omega arith)

number_has : (d : Design) (id : ℕ) (range : Option (ℕ × ℕ)) → IsSound d → IsNumber d.signals id range → HasWord (signal_widths d.signals) range id
number_has d id range f n =
    let w = wide d id f n.inside in
    (omega (arith, n.inside, length-map d.signals (λ (x : Signal). x.width)), width_there d.signals id n.inside ∙ w.range ∙ ap range_width n.range_is)

pub scope_holds : (d : Design) (s : Names) → IsSound d → IsScope d.signals s → Holds s (signal_widths d.signals)
scope_holds d s f h = record {
  signals = λ name id range signed q. number_has d id range f (number_of d.signals s name id range signed h q);
  memories = λ name first low words range signed q k l. number_has d (first + k) range f (word_of d.signals s name first low words range signed k h q l);
  few = omega (arith, f.numbers, length-map d.signals (λ (x : Signal). x.width));
}

-- blocks

pub blocks_then : (F : plain.Flat) (b : plain.Block) (bs : List plain.Block) (v : Values) → ran_blocks F (b ∷ bs) v ≡ ran_blocks F bs (ran (scope_at F b.scope) b.body v)
unfolding ran_blocks ran run_blocks updates_of_blocks
blocks_then F b bs v = ap (λ (l : Environment). made (run_blocks F bs (after_block F b v.now)) l) (applied_append (updates (scope_at F b.scope) b.body v.now) (updates_of_blocks F bs (after_block F b v.now)) v.later)

blocks_cons : (ss : List Site) (ps : List Pick) (xs : List Block) (i : ℕ) (x d : Block) → i < length xs → x ≡ get_or xs i d →
    map (instance_block ss ps) (map plain_block (drop i xs)) ≡ instance_block ss ps (plain_block x) ∷ map (instance_block ss ps) (map plain_block (drop (i + 1) xs))
blocks_cons ss ps xs i x d l q =
    let s : suc i ≡ i + 1 = omega arith in
    ap (λ (ys : List Block). map (instance_block ss ps) (map plain_block ys)) (drop-cons xs i d l ∙ ap (λ (y : Block). y ∷ drop (suc i) xs) (sym q))
    ∙ ap (λ (k : ℕ). instance_block ss ps (plain_block x) ∷ map (instance_block ss ps) (map plain_block (drop k xs))) s

pub blocks_more : (d : Design) (ss : List Site) (ps qs : List Pick) (xs : List Block) (i : ℕ) (y : Block) (e f r : Values) → i < length xs → qs ≡ ps →
    f ≡ ran (scope_at (plain_flat d) (get_or xs i y).scope) (body_instance ss qs (plain_statement (get_or xs i y).body.now)) e →
    ran_blocks (instance_flat ss ps (plain_flat d)) (map (instance_block ss ps) (map plain_block (drop i xs))) e ≡ r → ran_blocks (instance_flat ss ps (plain_flat d)) (map (instance_block ss ps) (map plain_block (drop (i + 1) xs))) f ≡ r
unfolding instance_flat
blocks_more d ss ps qs xs i y e f r l q h k =
    let x : Block = get_or xs i y in
    ap (ran_blocks (instance_flat ss ps (plain_flat d)) (map (instance_block ss ps) (map plain_block (drop (i + 1) xs)))) (h ∙ ap (λ (p : List Pick). ran (scope_at (plain_flat d) x.scope) (body_instance ss p (plain_statement x.body.now)) e) q)
    ∙ sym (blocks_then (instance_flat ss ps (plain_flat d)) (instance_block ss ps (plain_block x)) (map (instance_block ss ps) (map plain_block (drop (i + 1) xs))) e)
    ∙ ap (λ (bs : List plain.Block). ran_blocks (instance_flat ss ps (plain_flat d)) bs e) (sym (blocks_cons ss ps xs i x y l refl)) ∙ k

pub blocks_done : (F : plain.Flat) (ss : List Site) (ps : List Pick) (xs : List Block) (i : ℕ) (e r : Values) → length xs ≤ i → ran_blocks F (map (instance_block ss ps) (map plain_block (drop i xs))) e ≡ r → e ≡ r
unfolding ran_blocks run_blocks updates_of_blocks applied
blocks_done F ss ps xs i e r l k = ap (λ (ys : List Block). ran_blocks F (map (instance_block ss ps) (map plain_block ys)) e) (sym (drop_all i xs l)) ∙ k

pub clocked_of : (d : Design) (ss : List Site) (ps : List Pick) → (instance_flat ss ps (plain_flat d)).clocked ≡ map (instance_block ss ps) (map plain_block d.clocked)
unfolding instance_flat
clocked_of d ss ps = refl

pub act_block : (d : Design) (ss : List Site) (ps : List Pick) (k : ℕ) (x : Block) (v : Values) → k < length d.combinational → x ≡ get_or d.combinational k x →
    (ran (scope_at (plain_flat d) x.scope) (body_instance ss ps (plain_statement x.body.now)) v).now ≡ act (instance_flat ss ps (plain_flat d)) (step.Block k) v.now
unfolding act instance_flat ran
act_block d ss ps k x v l q =
    let F = instance_flat ss ps (plain_flat d) in
    ap (λ (b : plain.Block). executed (scope_at F b.scope) b.body v.now)
    (ap (λ (y : Block). instance_block ss ps (plain_block y)) q
    ∙ sym (get_or-map (instance_block ss ps) (map plain_block d.combinational) k (plain_block x) no_block (omega (arith, length-map d.combinational plain_block)) ∙ ap (instance_block ss ps) (get_or-map plain_block d.combinational k x (plain_block x) l)))

-- no signal has more than 128 bits
pub narrow_widths : (d : Design) → IsSound d → (widths : List ℕ) → widths ≡ signal_widths d.signals → (id : ℕ) → get_or widths id 0 ≤ 128
narrow_widths d f widths q id = by (cases_lt id (length d.signals))
  where
    by : ((id < length d.signals) ⊎ (length d.signals ≤ id)) → get_or widths id 0 ≤ 128
    by (inl l) = omega (arith, (wide d id f l).high, ap (λ (ws : List ℕ). get_or ws id 0) q, width_there d.signals id l)
    by (inr l) = omega (arith, ap (λ (ws : List ℕ). get_or ws id 0) q, get_or_past (signal_widths d.signals) id 0 (omega (arith, l, length-map d.signals (λ (x : Signal). x.width))))
