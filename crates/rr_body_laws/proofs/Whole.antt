-- The flat design of a source with other bodies.
use Rattle.std.proofs.Common.{◌≡◌, ◌∙◌, ap, subst, sym, ℕ, ◌+◌, ◌<◌, true, nat_eq, List, [], length, Option, Some, None, Ok, refl, arith}
use Rattle.std.specs.List.{list_any}
use Rattle.rr_syntax.specs.Tree.{ModuleDeclaration, SourceText}
use Rattle.rr_expr.specs.Scopes.{Names}
use Rattle.rr_flat.specs.Faults.{each}
use Rattle.rr_flat.specs.Signals.{Text}
use Rattle.rr_flat.specs.Plain.{Flat}
use Rattle.rr_flatten.specs.Tables.{add_module}
use Rattle.rr_flatten.specs.Walk.{Walked, module_at, nothing, finished, reached_from, top_place, enter_top, enter, flat_by}
use Rattle.rr_flat_instance.proofs.Lists.{begins_here, stepped, and_then_ok}
use Rattle.rr_flat_instance.proofs.Grown.{Grows}
use Rattle.rr_body_laws.specs.Bodies.{Bodies, IsFlatWith, KeepsBodies, modules_with, source_with}
use Rattle.rr_body_laws.proofs.Blocks.{put_blocks, changed_none, Follows}
use Rattle.rr_body_laws.proofs.Tables.{table_with, top_place_with, reached_with, module_token, reached_owner}
use Rattle.rr_body_laws.proofs.Enters.{enter_follows}

-- the walk of the whole source, with what is told of it at its end
abbrev ended : List ModuleDeclaration → Walked → Walked
ended source w = record w { flat = finished source w.flat }

ended_grows : (source : List ModuleDeclaration) (w : Walked) → Grows w (ended source w)
ended_grows source w = record { more = omega arith; alike = λ i l n. refl; owners = begins_here w.flat.owners; drivers = begins_here w.flat.drivers; even = λ e. e; loops = begins_here w.loops; lined = λ e. e; limit = refl }

-- the modules that own an instance are those that change
owners_reached : (owners : List ℕ) (source : List ModuleDeclaration) (k : ℕ) → k < length source → list_any (nat_eq k) owners ≡ true → list_any (nat_eq k) (reached_from owners 0 source) ≡ true
owners_reached owners source k l h =
    let n : 0 + k ≡ k = omega arith in
    subst (λ (j : ℕ). list_any (nat_eq j) (reached_from owners 0 source) ≡ true) n (reached_owner owners 0 source k l (subst (λ (j : ℕ). list_any (nat_eq j) owners ≡ true) (sym n) h))

top_follows : (limit : Option ℕ) (f : Bodies) (source : SourceText) (table : Names) (o : Option ℕ) (w : Walked) → KeepsBodies f source (finished source.modules w.flat) → enter_top limit source.modules table o ≡ Ok w
    → Follows f source (finished source.modules w.flat) (enter_top limit (modules_with (reached_from w.flat.owners 0 source.modules) f 0 source.modules) table o) w
top_follows limit f source table None w keeps e = absurd (cc)
top_follows limit f source table (Some k) w keeps e =
    let numbers : List ℕ = reached_from w.flat.owners 0 source.modules in
    let final : Walked = ended source.modules w in
    let r = enter_follows f numbers source final keeps (owners_reached w.flat.owners source.modules) table 16 [] k [] (nothing limit (module_at source.modules k).token) w [] refl (ended_grows source.modules w)
    (changed_none f source final.flat) e in
    record {
      blocks = r.blocks;
      is = ap (λ (at : ℕ). enter (modules_with numbers f 0 source.modules) table 16 [] k [] (nothing limit at)) (module_token f numbers source.modules k) ∙ r.is;
      changed = r.changed;
    }

elaborated_with : (limit : Option ℕ) (f : Bodies) (source : SourceText) (table : Names) (top : Option Text) (w : Walked) → each add_module source.modules [] ≡ Ok table → enter_top limit source.modules table (top_place source.modules table top) ≡ Ok w
    → KeepsBodies f source (finished source.modules w.flat)
    → (new : Flat) × ((flat_by limit (source_with (finished source.modules w.flat).reached f source) top ≡ Ok new) × IsFlatWith f source (finished source.modules w.flat) new)
unfolding flat_by source_with
elaborated_with limit f source table top w named walked keeps =
    let numbers : List ℕ = reached_from w.flat.owners 0 source.modules in
    let modules : List ModuleDeclaration = modules_with numbers f 0 source.modules in
    let r = top_follows limit f source table (top_place source.modules table top) w keeps walked in
    let flat : Flat = record (finished source.modules w.flat) { combinational = r.blocks } in (
      flat,
      (
        and_then_ok (each add_module modules []) _ table (table_with f numbers 0 source.modules [] ∙ named)
            ∙ (and_then_ok (enter_top limit modules table (top_place modules table top)) (λ (u : Walked). Ok (finished modules u.flat)) (put_blocks r.blocks w)
            (ap (enter_top limit modules table) (top_place_with f numbers source.modules table top) ∙ r.is)
            ∙ ap (λ (x : Flat). Ok x) (ap (λ (reached : List ℕ). record flat { reached = reached }) (reached_with f numbers w.flat.owners 0 source.modules))),
        record { blocks = r.changed; others = refl },
      ),
    )

pub bodies_elaborate : (limit : Option ℕ) (f : Bodies) (source : SourceText) (top : Option Text) (flat : Flat) → flat_by limit source top ≡ Ok flat → KeepsBodies f source flat
    → (new : Flat) × ((flat_by limit (source_with flat.reached f source) top ≡ Ok new) × IsFlatWith f source flat new)
unfolding flat_by
bodies_elaborate limit f source top flat e =
    let a = stepped (each add_module source.modules []) _ flat e in
    let b = stepped (enter_top limit source.modules a.mid (top_place source.modules a.mid top)) (λ (w : Walked). Ok (finished source.modules w.flat)) flat a.next in
    let last : Ok (finished source.modules b.mid.flat) ≡ Ok flat = b.next in
    let is : finished source.modules b.mid.flat ≡ flat = cc in
    subst (λ (x : Flat). KeepsBodies f source x → (new : Flat) × ((flat_by limit (source_with x.reached f source) top ≡ Ok new) × IsFlatWith f source x new)) is (elaborated_with limit f source a.mid top b.mid a.first b.first)
