-- Where the items of a well-formed numbered source stand.
use Rattle.std.proofs.Common.{◌≡◌, ℕ, zero, suc, ◌+◌, ◌<◌, List, [], ◌∷◌, length, sym, subst, ◌∙◌, arith}
use Rattle.std.specs.Prelude.{slice_index_or}
use Rattle.std.specs.List.{AllByRecursion, Contains}
use Rattle.std.proofs.lemmas.List.{get_or_default}
use Rattle.rr_syntax.specs.Items.{spell_item, spell_parameters, spell_ports, WellFormedItem, WellFormedModule, WellFormedSource, NumberedAll, NumberedItem, NumberedModule, NumberedSource}
use Rattle.rr_syntax.specs.Tree.{ModuleItem, ModuleDeclaration, SourceText}
use Rattle.rr_flatten.specs.Walk.{module_at}
use Rattle.rr_flat_instance.specs.Owned.{start_of}
use Rattle.rr_flat_instance.proofs.Modules.{numbered_module}
use Rattle.rr_lawful_instance.specs.Listed.{items_of, no_item, item_at, items_before, item_start}

numbered_item : (xs : List ModuleItem) (at n : ℕ) → AllByRecursion WellFormedItem xs → NumberedAll spell_item NumberedItem xs at → n < length xs →
    WellFormedItem (slice_index_or xs n no_item) × NumberedItem (slice_index_or xs n no_item) (at + items_before xs n)
unfolding NumberedAll items_before
numbered_item [] at n w h l = absurd (omega (arith, l))
numbered_item (x ∷ xs) at zero w h l = let e : at + 0 ≡ at = omega arith in (w.0, subst (NumberedItem x) (sym e) h.0)
numbered_item (x ∷ xs) at (suc n) w h l =
    let r = numbered_item xs (at + length (spell_item x)) n w.1 h.1 (omega (arith, l)) in
    let e : at + length (spell_item x) + items_before xs n ≡ at + (length (spell_item x) + items_before xs n) = omega arith in
    (r.0, subst (NumberedItem (slice_index_or xs n no_item)) e r.1)

pub item_right : (source : SourceText) (k n : ℕ) → WellFormedSource source → NumberedSource source → k < length source.modules → n < length (items_of source.modules k) →
    WellFormedItem (item_at source.modules k n) × NumberedItem (item_at source.modules k n) (item_start source.modules k n)
unfolding WellFormedSource NumberedSource WellFormedModule NumberedModule
item_right source k n w h l m =
    let r = numbered_module source.modules 0 k w h l in
    let i = numbered_item (items_of source.modules k) (0 + start_of source.modules k + 2 + length (spell_parameters (module_at source.modules k).params) + length (spell_ports (module_at source.modules k).header (module_at source.modules k).groups) + 1) n r.0.3 r.1.3 m in
    let e : 0 + start_of source.modules k + 2 + length (spell_parameters (module_at source.modules k).params) + length (spell_ports (module_at source.modules k).header (module_at source.modules k).groups) + 1 + items_before (items_of source.modules k) n ≡ item_start source.modules k n = omega arith in
    (i.0, subst (NumberedItem (item_at source.modules k n)) e i.1)

-- a module that is not there has no items
pub module_there : (ms : List ModuleDeclaration) (k n : ℕ) → n < length (items_of ms k) → k < length ms
module_there [] k n l = absurd (omega (arith, l))
module_there (m ∷ ms) zero n l = omega arith
module_there (m ∷ ms) (suc k) n l = let r = module_there ms k n l in omega (arith, r)

-- an item among those of a module has a number
pub item_is : (ms : List ModuleDeclaration) (k : ℕ) (x : ModuleItem) (c : Contains (items_of ms k) x) → item_at ms k c.0 ≡ x
item_is ms k x (n, l, e) = get_or_default (items_of ms k) n no_item x l ∙ e
