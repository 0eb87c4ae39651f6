-- The steps of the search for the clock, over edges and names of the arena.
use Rattle.std.proofs.Common.{◌≡◌, ◌∙◌, sym, ap, subst, ℕ, ◌+◌, ◌<◌, ◌≤◌, Bool, true, false, not, cond, ◌&&◌, ◌||◌, List, [], ◌∷◌, ◌++◌, length, map, drop, get_or, Option, None, Some, is_some, is_none, refl}
use mathlib.Core.Bool.{beq}
use Rattle.std.specs.Prelude.{Result, Ok, Err, IfOk, if◌then◌else◌, slice_get}
use Rattle.std.specs.Str.{bytes_eq}
use Rattle.std.proofs.lemmas.List.{drop_all}
use Rattle.rr_syntax.specs.declared.tree.Event.{Event}
use Rattle.rr_syntax.specs.declared.tree.Named.{Named}
use Rattle.rr_syntax.specs.Tree.{EdgeEvent}
use Rattle.rr_syntax.specs.View.{plain_edge, plain_identifier}
use Rattle.rr_expr.specs.declared.types.Entity.TheVariants as entity
use Rattle.rr_expr.specs.Scopes.{Names, lookup}
use Rattle.rr_flat.proofs.Lists.{rest}
use Rattle.rr_flat.specs.Signals.{with_name}
use Rattle.rr_flat.specs.Signals.{Text}
use Rattle.rr_flat.specs.Clocks.{free_edge, is_among, or_first}
use Rattle.rr_flat.specs.Plain.{Block, Flat}
use Rattle.rr_flat.specs.Reads.{names_of}
use Rattle.rr_clock.specs.Clock.{AreSources, IsNamed, IsOne, IsFirst, HasInput, source_named}
use Rattle.rr_clock.specs.Found.{any_runs, deciding_source, first_rising, found, free_among, leads_by, or_free, runs_by, same_direction}
use Rattle.rr_clock.specs.declared.clock.Found.{Found}
use Rattle.rr_clock.proofs.Clocking.{IsRight, found_right, free_or_first, free_same, right_one, right_first, right_input}
use Rattle.rr_clock.proofs.Naming.{there_with}

-- the first edge that leads to the clock

pub rising_skip : (flat : Flat) (table : ℕ → Option ℕ) (clock i : ℕ) (xs : List Event) (k : ℕ) (d : Event) → k < length xs → leads_by flat table clock i (get_or xs k d).name.now ≡ false
    → first_rising flat table clock i (map plain_edge (drop (k + 1) xs)) ≡ first_rising flat table clock i (map plain_edge (drop k xs))
unfolding first_rising plain_edge
rising_skip flat table clock i xs k d l h = rw (rest xs k d l, h) refl

pub rising_hit : (flat : Flat) (table : ℕ → Option ℕ) (clock i : ℕ) (xs : List Event) (k : ℕ) (d : Event) → k < length xs → leads_by flat table clock i (get_or xs k d).name.now ≡ true
    → Some (get_or xs k d).rising ≡ first_rising flat table clock i (map plain_edge (drop k xs))
unfolding first_rising plain_edge
rising_hit flat table clock i xs k d l h = rw (rest xs k d l, h) refl

pub rising_done : (flat : Flat) (table : ℕ → Option ℕ) (clock i : ℕ) (xs : List Event) (k : ℕ) → length xs ≤ k → None ≡ first_rising flat table clock i (map plain_edge (drop k xs))
unfolding first_rising
rising_done flat table clock i xs k l = rw (drop_all k xs l) refl

-- an edge on which a block runs

pub runs_skip : (flat : Flat) (table : ℕ → Option ℕ) (clock : ℕ) (rising : Bool) (i : ℕ) (xs : List Event) (k : ℕ) (d : Event) → k < length xs → runs_by flat table clock rising i (plain_edge (get_or xs k d)) ≡ false
    → any_runs flat table clock rising i (map plain_edge (drop (k + 1) xs)) ≡ any_runs flat table clock rising i (map plain_edge (drop k xs))
unfolding any_runs
runs_skip flat table clock rising i xs k d l h = rw (rest xs k d l, h) refl

pub runs_hit : (flat : Flat) (table : ℕ → Option ℕ) (clock : ℕ) (rising : Bool) (i : ℕ) (xs : List Event) (k : ℕ) (d : Event) → k < length xs → runs_by flat table clock rising i (plain_edge (get_or xs k d)) ≡ true
    → true ≡ any_runs flat table clock rising i (map plain_edge (drop k xs))
unfolding any_runs
runs_hit flat table clock rising i xs k d l h = rw (rest xs k d l, h) refl

pub runs_done : (flat : Flat) (table : ℕ → Option ℕ) (clock : ℕ) (rising : Bool) (i : ℕ) (xs : List Event) (k : ℕ) → length xs ≤ k → false ≡ any_runs flat table clock rising i (map plain_edge (drop k xs))
unfolding any_runs
runs_done flat table clock rising i xs k l = rw (drop_all k xs l) refl

-- the deciding edge

pub free_skip : (s : Names) (xs : List Event) (k : ℕ) (d : Event) → k < length xs → is_some (lookup (get_or xs k d).name.now s) ≡ true
    → free_among s (map plain_edge (drop (k + 1) xs)) ≡ free_among s (map plain_edge (drop k xs))
unfolding free_among plain_edge
free_skip s xs k d l h = rw (rest xs k d l, h) refl

pub free_hit : (s : Names) (xs : List Event) (k : ℕ) (d : Event) → k < length xs → is_some (lookup (get_or xs k d).name.now s) ≡ false
    → Some (plain_edge (get_or xs k d)) ≡ free_among s (map plain_edge (drop k xs))
unfolding free_among plain_edge
free_hit s xs k d l h = rw (rest xs k d l, h) refl

pub free_done : (s : Names) (xs : List Event) (k : ℕ) → length xs ≤ k → None ≡ free_among s (map plain_edge (drop k xs))
unfolding free_among
free_done s xs k l = rw (drop_all k xs l) refl

pub deciding_is : (flat : Flat) (table : ℕ → Option ℕ) (b : Block) (xs : List Event) (first : Event) (s : Names) (edge : Event) → b.edges ≡ map plain_edge xs → Some first ≡ slice_get xs 0
    → ((name : Text) → is_some (lookup name s) ≡ is_among name (names_of b.body)) → plain_edge edge ≡ or_free (plain_edge first) (free_among s (map plain_edge xs))
    → source_named flat table b.scope edge.name.now ≡ deciding_source flat table b (map plain_edge xs)
unfolding plain_edge
deciding_is flat table b [] first s edge e f h g = cc
deciding_is flat table b (x ∷ xs) first s edge e f h g = ap (source_named flat table b.scope) (ap (λ z. z.text) (g ∙ (ap (λ z. or_free z (free_among s es)) same ∙ (ap (or_free (plain_edge x)) (free_same s b.body es h) ∙ (free_or_first (free_edge b.body es) (plain_edge x) (map plain_edge xs) ∙ ap (λ z. or_first (free_edge b.body z) z) (sym e))))))
  where
    es : List EdgeEvent
    es = map plain_edge (x ∷ xs)

    or_edge : Option Event → Event
    or_edge None = x
    or_edge (Some z) = z

    same : plain_edge first ≡ plain_edge x
    same = ap (λ o. plain_edge (or_edge o)) f

-- one edge

pub edge_apart : (flat : Flat) (table : ℕ → Option ℕ) (clock i : ℕ) (e : Event) (rising : Bool) → not (beq e.rising rising) ≡ true → false ≡ runs_by flat table clock rising i (plain_edge e)
unfolding plain_edge
edge_apart flat table clock i e rising h = go e.rising rising h
  where
    go : (a c : Bool) → not (beq a c) ≡ true → false ≡ (same_direction a c && leads_by flat table clock i e.name.now)
    go true true k = cc
    go true false k = refl
    go false true k = refl
    go false false k = cc

pub edge_same : (flat : Flat) (table : ℕ → Option ℕ) (clock i : ℕ) (e : Event) (rising r : Bool) → not (beq e.rising rising) ≡ false → r ≡ leads_by flat table clock i e.name.now → r ≡ runs_by flat table clock rising i (plain_edge e)
unfolding plain_edge
edge_same flat table clock i e rising r h q = q ∙ go e.rising rising h
  where
    go : (a c : Bool) → not (beq a c) ≡ false → leads_by flat table clock i e.name.now ≡ (same_direction a c && leads_by flat table clock i e.name.now)
    go true true k = refl
    go true false k = cc
    go false true k = cc
    go false false k = refl

-- names as a set

or_assoc : (a b c : Bool) → ((a || b) || c) ≡ (a || (b || c))
or_assoc true b c = refl
or_assoc false b c = refl

pub with_added : (s new : Names) (n : Text) (r : Bool) → r ≡ not (is_some (lookup n s)) → new ≡ (if r then s ++ (n, entity.Instance) ∷ [] else s) → new ≡ with_name s n entity.Instance
with_added s new n r h e = go (is_some (lookup n s)) (subst (λ z. new ≡ (if z then s ++ (n, entity.Instance) ∷ [] else s)) h e)
  where
    go : (b : Bool) → new ≡ (if not b then s ++ (n, entity.Instance) ∷ [] else s) → new ≡ (if b then s else s ++ (n, entity.Instance) ∷ [])
    go true q = q
    go false q = q

pub among_more : (list : List Named) (k : ℕ) (d : Named) (old new : Names) (name : Text) → k < length list → new ≡ with_name old (get_or list k d).name.now entity.Instance
    → (is_some (lookup name new) || is_among name (map plain_identifier (drop (k + 1) list))) ≡ (is_some (lookup name old) || is_among name (map plain_identifier (drop k list)))
unfolding is_among plain_identifier
among_more list k d old new name l e =
    rw (rest list k d l, e, there_with old (get_or list k d).name.now name)
    (or_assoc (is_some (lookup name old)) (bytes_eq name (get_or list k d).name.now) (is_among name (map plain_identifier (drop (k + 1) list))))

pub among_start : (s : Names) (name : Text) (b : Bool) → s ≡ [] → (is_some (lookup name s) || b) ≡ b
unfolding lookup
among_start s name b e = rw e refl

pub among_done : (list : List Named) (k : ℕ) (s : Names) (name : Text) → length list ≤ k → is_some (lookup name s) ≡ (is_some (lookup name s) || is_among name (map plain_identifier (drop k list)))
unfolding is_among
among_done list k s name l = rw (drop_all k list l) (go (is_some (lookup name s)))
  where
    go : (b : Bool) → b ≡ (b || false)
    go true = refl
    go false = refl

-- what is found

is_right : (flat : Flat) (table : ℕ → Option ℕ) (word : Option Text) (named : Option ℕ) (bs : List Block) (f : Found) → AreSources flat table → IsNamed flat word named → bs ≡ flat.clocked
    → f ≡ found flat table named bs → IsRight flat word f
is_right flat table word named bs f t n e h = rw (h, e) (found_right flat table word named t n)

pub found_one : {E : Type 0} (flat : Flat) (table : ℕ → Option ℕ) (word : Option Text) (named : Option ℕ) (bs : List Block) (r : Result Found E) → AreSources flat table → IsNamed flat word named → bs ≡ flat.clocked
    → IfOk r (λ f. f ≡ found flat table named bs) → IfOk r (λ f. IsOne flat word f)
found_one flat table word named bs (Ok f) t n e h = right_one flat word f (is_right flat table word named bs f t n e h)
found_one flat table word named bs (Err x) t n e h = tt

pub found_first : {E : Type 0} (flat : Flat) (table : ℕ → Option ℕ) (word : Option Text) (named : Option ℕ) (bs : List Block) (r : Result Found E) → AreSources flat table → IsNamed flat word named → bs ≡ flat.clocked
    → IfOk r (λ f. f ≡ found flat table named bs) → IfOk r (λ f. IsFirst flat word f)
found_first flat table word named bs (Ok f) t n e h = right_first flat word f (is_right flat table word named bs f t n e h)
found_first flat table word named bs (Err x) t n e h = tt

pub found_input : {E : Type 0} (flat : Flat) (table : ℕ → Option ℕ) (word : Option Text) (named : Option ℕ) (bs : List Block) (r : Result Found E) → AreSources flat table → IsNamed flat word named → bs ≡ flat.clocked
    → IfOk r (λ f. f ≡ found flat table named bs) → IfOk r (λ f. HasInput flat f)
found_input flat table word named bs (Ok f) t n e h = right_input flat word f (is_right flat table word named bs f t n e h)
found_input flat table word named bs (Err x) t n e h = tt
