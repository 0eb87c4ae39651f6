-- parts of instances
use Rattle.std.proofs.Common.{◌≡◌, ◌∙◌, sym, ap, subst, refl, ℕ, ◌<◌, ◌≤◌, max, true, false, List, get_or, arith}
use Rattle.std.proofs.lemmas.Bool.{both_ways}
use Rattle.rr_syntax.specs.Tree.{Tree, Trees, Concat}
use Rattle.rr_expr.specs.declared.types.Shape.{Shape}
use Rattle.rr_expr.specs.Scopes.{Names}
use Rattle.rr_expr.specs.Values.{form, value, own}
use Rattle.rr_flat.specs.Plain.{Flat, Side, Written}
use Rattle.rr_flat.specs.Writers.{scope_at}
use Rattle.rr_choice.specs.declared.pick.Pick.{Pick}
use Rattle.rr_choice.specs.Sites.{Site}
use Rattle.rr_cycle.specs.Cycles.{side_shape, side_value}
use Rattle.rr_cycle.specs.Exec.{Environment}
use Rattle.rr_instance.specs.Instances.{instance_tree, instance_parts}
use Rattle.rr_instance_laws.proofs.FormLaws.{form_instance, widths_instance}
use Rattle.rr_flat_instance.specs.Flats.{instance_driver}
use Rattle.rr_wiring.specs.Parts.{BeginsAt, first_part, later_part, PartAt, itself, inside, is_joined}
use Rattle.rr_wiring.proofs.Bits.{bits_of_parts, bit_past, joined_bit}
use Rattle.rr_blast_steps.specs.Designs.{driver_value_of}

module _ (ss : List Site) (ps : List Pick) (s : Names) where
  begins_instance : (t : Tree) {ts : Trees} {low : ℕ} → BeginsAt s t ts low → BeginsAt s (instance_tree ss ps t) (instance_parts ss ps ts) low
  unfolding instance_tree
  begins_instance t (first_part {ts} {low} e) = first_part (e ∙ sym (widths_instance ss ps s ts))
  begins_instance t (later_part {v} {ts} {low} b) = later_part (begins_instance t b)

  part_instance : (u : Tree) (at : ℕ) {t : Tree} {place : ℕ} → PartAt s u at t place → PartAt s (instance_tree ss ps u) at (instance_tree ss ps t) place
  unfolding instance_tree
  part_instance u at itself = itself
  part_instance u at (inside {t} {ts} {low} {rest} {place} b l e p) =
      inside (begins_instance t b) (subst (λ (a : Shape). rest < a.width) (sym (form_instance ss ps s t)) l) e (part_instance u at p)

  -- the bit of the instance of a part, which has the shape of the part
  pub part_bit : (u : Tree) (at : ℕ) (t : Tree) (place : ℕ) (env : Environment) (a : Shape) → PartAt s u at t place → a ≡ form s u →
      get_or (value s (instance_tree ss ps u) env a.width a.signed) at false ≡ get_or (own s (instance_tree ss ps t) env) place false
  part_bit u at t place env a p q =
      ap (λ (b : Shape). get_or (value s (instance_tree ss ps u) env b.width b.signed) at false) (q ∙ sym (form_instance ss ps s u))
      ∙ bits_of_parts s (instance_tree ss ps u) at (instance_tree ss ps t) place env (part_instance u at p)

  pub no_bit : (t : Tree) (place : ℕ) (env : Environment) → (form s t).width ≤ place → false ≡ get_or (own s (instance_tree ss ps t) env) place false
  no_bit t place env h = bit_past s (instance_tree ss ps t) env place (subst (λ (a : Shape). a.width ≤ place) (sym (form_instance ss ps s t)) h)

  joined_instance : (t : Tree) → is_joined t ≡ true → is_joined (instance_tree ss ps t) ≡ true
  unfolding instance_tree is_joined
  joined_instance (Concat ts) j = refl
  joined_instance t j = absurd (both_ways false refl j)

-- the right side of a driver that is a concatenation
pub joined_side : (F : Flat) (ss : List Site) (ps : List Pick) (target : Side) (t : Tree) (i token : ℕ) (place : ℕ) (env : Environment) → is_joined t ≡ true →
    get_or (own (scope_at F i) (instance_tree ss ps t) env) place false ≡ get_or (driver_value_of F (instance_driver ss ps (record { target = target; value = Written t i; token = token })) env) place false
unfolding side_shape side_value
joined_side F ss ps target t i token place env j =
    let s = scope_at F i in
    sym (joined_bit s (instance_tree ss ps t) env (max (side_shape F target).width (form s (instance_tree ss ps t)).width) place (joined_instance ss ps s t j) (omega arith))
