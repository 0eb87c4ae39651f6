use Rattle.std.proofs.Common.{◌≡◌, ◌∙◌, ap, ℕ, zero, suc, Bool, Option, None, Some, replicate, refl}
use Rattle.rr_text_names.specs.Names.{entry}
use Rattle.rr_assign.proofs.Kinding.{nothing_held}
use Rattle.rr_assign.proofs.kinds.no_kinds.Goals as goal

abbrev nothing : Option Bool
nothing = None

none_clone : (P : Option Bool → Type 0) → ((x : Bool) → P (Some x) → ⊥) → (y : Option Bool) → P y → y ≡ None
none_clone P f None h = refl
none_clone P f (Some x) h = absurd (f x h)

reads_none : (n i : ℕ) → entry (replicate n nothing) i ≡ None
reads_none zero i = refl
reads_none (suc n) zero = refl
reads_none (suc n) (suc i) = reads_none n i

pub returns-clause-nothing : goal.returns-clause-nothing
returns-clause-nothing c =
    nothing_held (entry c.in_ok-table.table.items) (λ id. ap (λ z. entry z id) (c.in_ok-table.ensures.items_if_clones_equal (none_clone _ (λ x h. h))) ∙ reads_none _ id)
