-- Each `always` with edges of a module has a clocked block, without its loops, in each instance of the module.
use Rattle.std.proofs.Common.{◌≡◌, Bool, true, false, List, Option, Ok, refl, sym, subst, ap, ◌∙◌, arith}
use Rattle.std.specs.Prelude.{slice_index_or}
use Rattle.std.specs.List.{Contains, filter}
use Rattle.std.proofs.lemmas.Bool.{both_ways}
use Rattle.std.proofs.lemmas.List.{get_or_default}
use Rattle.rr_syntax.specs.Tree.{EventControl, Star, Edges, Levels, EdgeEvent, Always, SourceText}
use Rattle.rr_flat.specs.Plain.{Block, Flat}
use Rattle.rr_flat.specs.Signals.{Text}
use Rattle.rr_flat.specs.Writers.{block_at, no_block}
use Rattle.rr_flatten.specs.Walk.{flat_of}
use Rattle.rr_flat_laws.specs.Blocks.{unfolded_at, clocked_by, is_block_of}
use Rattle.rr_flat_laws.proofs.Blocking.{blocks_of_design}
use Rattle.rr_flat_laws.proofs.Texts.{in_flat}
use Rattle.rr_change_places.specs.Spots.{has_edges}
use Rattle.rr_lawful_instance.specs.Listed.{items_of}
use Rattle.rr_lawful_instance.proofs.Lists.{by_element, holds_of}
use Rattle.rr_declared_ranges.proofs.Tops.{heads}
use Rattle.rr_sites_ordered.proofs.Members.{all_filter}
use Rattle.rr_sites_fit.proofs.Known.{HasBlock, HasBlocks}

-- what passes a test is in the list
of_filter : {X : Type 0} (test : X → Bool) (xs : List X) (x : X) → Contains (filter test xs) x → Contains xs x
of_filter {X} test xs x c =
    (holds_of (λ (y : X). Contains xs y × (test y ≡ true)) (filter test xs) x (all_filter (λ (y : X). Contains xs y) test xs (by_element (λ (y : X). Contains xs y) xs (λ y k. k))) c).0

block_is : (flat : Flat) (x : Block) → Contains flat.clocked x → HasBlock flat x.scope x.body
block_is flat x (k, l, e) =
    let is : block_at flat.clocked k ≡ x = get_or_default flat.clocked k no_block x l ∙ e in
    (k, (l, (ap (λ (b : Block). b.scope) is, ap (λ (b : Block). b.body) is)))

pub blocks_there : (source : SourceText) (top : Option Text) (flat : Flat) → flat_of source top ≡ Ok flat → HasBlocks source.modules flat
blocks_there source top flat e i l events body at c h = by events c h
  where
    edged : (list : List EdgeEvent) (commas : List Bool) → Contains (items_of source.modules (slice_index_or flat.owners i 0)) (Always (Edges list commas) body at) → HasBlock flat i (unfolded_at flat i body)
    edged list commas c =
        let even = (heads source top flat e).even in
        let x : Block = record { body = unfolded_at flat i body; edges = list; scope = i; token = at } in
        let own : Contains (clocked_by flat i (Always (Edges list commas) body at)) x = (0, omega arith, refl) in
        let all = in_flat (clocked_by flat i) (items_of source.modules (slice_index_or flat.owners i 0)) (Always (Edges list commas) body at) x c own in
        let is = (blocks_of_design source top flat e).clocked i (omega (arith, l, even)) in
        block_is flat x (of_filter (is_block_of i) flat.clocked x (subst (λ (bs : List Block). Contains bs x) (sym is) all))

    by : (events : EventControl) → Contains (items_of source.modules (slice_index_or flat.owners i 0)) (Always events body at) → has_edges events ≡ true → HasBlock flat i (unfolded_at flat i body)
    by (Star brackets) c h = absurd (both_ways false refl h)
    by (Edges list commas) c h = edged list commas c
    by (Levels list commas) c h = absurd (both_ways false refl h)
