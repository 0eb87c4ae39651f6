-- steps of instances
use Rattle.std.proofs.Common.{◌≡◌, ◌∙◌, sym, ap, ap₂, refl, ℕ, ◌<◌, Bool, List, length, map, get_or, max, arith, Option, [], ◌∷◌, None, false, suc, ◌+◌, drop, drop-cons}
use Rattle.std.proofs.lemmas.List.{get_or-map, length-map}
use Rattle.rr_expr.specs.declared.types.Bit.{Bit}
use Rattle.rr_expr.specs.declared.types.Shape.{Shape}
use Rattle.rr_flat.specs.declared.design.Driver.{Driver}
use Rattle.rr_flat.specs.declared.design.Step.{Step}
use Rattle.rr_flat.specs.declared.design.Step.TheVariants as step
use Rattle.rr_flat.specs.Plain.{Side, Written, Whole}
use Rattle.rr_flat.specs.Plain as plain
use Rattle.rr_flat.specs.View.{Design, plain_driver, plain_flat}
use Rattle.rr_flat.specs.Writers.{driven_by, driver_at, no_driver}
use Rattle.rr_choice.specs.declared.pick.Pick.{Pick}
use Rattle.rr_choice.specs.Sites.{Site}
use Rattle.rr_cycle.specs.Cycles.{side_shape, side_value}
use Rattle.rr_cycle.specs.Exec.{Environment, write}
use Rattle.rr_cycle.specs.Performing.{act, performed}
use Rattle.rr_blast_steps.specs.Designs.{driver_value_of}
use Rattle.rr_flat_instance.specs.Flats.{instance_driver, instance_flat}

-- an instance has the same scopes and signals

driven_same : (ss : List Site) (ps : List Pick) (F : plain.Flat) (side : Side) → driven_by F side ≡ driven_by (instance_flat ss ps F) side
unfolding driven_by instance_flat
driven_same ss ps F (Written t i) = refl
driven_same ss ps F (Whole id) = refl

shape_same : (ss : List Site) (ps : List Pick) (F : plain.Flat) (side : Side) → side_shape F side ≡ side_shape (instance_flat ss ps F) side
unfolding side_shape instance_flat
shape_same ss ps F (Written t i) = refl
shape_same ss ps F (Whole id) = refl

value_same : (ss : List Site) (ps : List Pick) (F : plain.Flat) (side : Side) (e : Environment) (w : ℕ) (signed : Bool) → side_value F side e w signed ≡ side_value (instance_flat ss ps F) side e w signed
unfolding side_value instance_flat
value_same ss ps F (Written t i) e w signed = refl
value_same ss ps F (Whole id) e w signed = refl

right_same : (ss : List Site) (ps : List Pick) (F : plain.Flat) (y : plain.Driver) (e : Environment) → driver_value_of F y e ≡ driver_value_of (instance_flat ss ps F) y e
right_same ss ps F y e =
    ap₂ (λ (a b : Shape). side_value F y.value e (max a.width b.width) b.signed) (shape_same ss ps F y.target) (shape_same ss ps F y.value)
    ∙ value_same ss ps F y.value e (max (side_shape (instance_flat ss ps F) y.target).width (side_shape (instance_flat ss ps F) y.value).width) (side_shape (instance_flat ss ps F) y.value).signed

driver_is : (d : Design) (ss : List Site) (ps : List Pick) (k : ℕ) (x : Driver) → k < length d.drivers → x ≡ get_or d.drivers k x → instance_driver ss ps (plain_driver x) ≡ driver_at (instance_flat ss ps (plain_flat d)) k
unfolding instance_flat
driver_is d ss ps k x l q =
    ap (λ (y : Driver). instance_driver ss ps (plain_driver y)) q
    ∙ sym (get_or-map (instance_driver ss ps) (map plain_driver d.drivers) k (plain_driver x) no_driver (omega (arith, l, length-map d.drivers plain_driver)) ∙ ap (instance_driver ss ps) (get_or-map plain_driver d.drivers k x (plain_driver x) l))

-- the target of a driver stays
target_stays : (ss : List Site) (ps : List Pick) (y : plain.Driver) → (instance_driver ss ps y).target ≡ y.target
target_stays ss ps y = refl

pub act_driver : (d : Design) (ss : List Site) (ps : List Pick) (k : ℕ) (x : Driver) (e : Environment) → k < length d.drivers → x ≡ get_or d.drivers k x →
    write (driven_by (plain_flat d) (plain_driver x).target) (driver_value_of (plain_flat d) (instance_driver ss ps (plain_driver x)) e) e ≡ act (instance_flat ss ps (plain_flat d)) (step.Driver k) e
unfolding act
act_driver d ss ps k x e l q =
    let F : plain.Flat = instance_flat ss ps (plain_flat d) in
    ap₂ (λ (bs : List (Option Bit)) (vs : List Bool). write bs vs e)
    (ap (driven_by (plain_flat d)) (sym (target_stays ss ps (plain_driver x))) ∙ driven_same ss ps (plain_flat d) (instance_driver ss ps (plain_driver x)).target)
    (right_same ss ps (plain_flat d) (instance_driver ss ps (plain_driver x)) e)
    ∙ ap (λ (y : plain.Driver). write (driven_by F y.target) (driver_value_of F y e) e) (driver_is d ss ps k x l q)

pub act_wire : (d : Design) (ss : List Site) (ps : List Pick) (k i : ℕ) (x : Driver) (e : Environment) → k < length d.drivers → x ≡ get_or d.drivers k x →
    write (get_or (driven_by (plain_flat d) (plain_driver x).target) i None ∷ []) (get_or (driver_value_of (plain_flat d) (instance_driver ss ps (plain_driver x)) e) i false ∷ []) e ≡ act (instance_flat ss ps (plain_flat d)) (step.Wire k i) e
unfolding act
act_wire d ss ps k i x e l q =
    let F : plain.Flat = instance_flat ss ps (plain_flat d) in
    ap₂ (λ (bs : List (Option Bit)) (vs : List Bool). write (get_or bs i None ∷ []) (get_or vs i false ∷ []) e)
    (ap (driven_by (plain_flat d)) (sym (target_stays ss ps (plain_driver x))) ∙ driven_same ss ps (plain_flat d) (instance_driver ss ps (plain_driver x)).target)
    (right_same ss ps (plain_flat d) (instance_driver ss ps (plain_driver x)) e)
    ∙ ap (λ (y : plain.Driver). write (get_or (driven_by F y.target) i None ∷ []) (get_or (driver_value_of F y e) i false ∷ []) e) (driver_is d ss ps k x l q)

-- the steps that are left

pub steps_more : (ss : List Site) (ps qs : List Pick) (F : plain.Flat) (xs : List Step) (i : ℕ) (y : Step) (e f r : Environment) → i < length xs → qs ≡ ps → f ≡ act (instance_flat ss qs F) (get_or xs i y) e →
    performed (instance_flat ss ps F) (drop i xs) e ≡ r → performed (instance_flat ss ps F) (drop (i + 1) xs) f ≡ r
unfolding performed
steps_more ss ps qs F xs i y e f r l q h k =
    let s : suc i ≡ i + 1 = omega arith in
    let z : drop i xs ≡ get_or xs i y ∷ drop (i + 1) xs = drop-cons xs i y l ∙ ap (λ (n : ℕ). get_or xs i y ∷ drop n xs) s in
    ap (performed (instance_flat ss ps F) (drop (i + 1) xs)) (h ∙ ap (λ (p : List Pick). act (instance_flat ss p F) (get_or xs i y) e) q)
    ∙ ap (λ (ys : List Step). performed (instance_flat ss ps F) ys e) (sym z) ∙ k
