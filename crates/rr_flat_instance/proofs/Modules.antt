-- A module of a numbered source is well-formed and numbered, from the place on at which it begins.
use Rattle.std.proofs.Common.{◌≡◌, ℕ, zero, suc, ◌+◌, ◌<◌, List, [], ◌∷◌, length, sym, subst, arith}
use Rattle.std.specs.List.{AllByRecursion}
use Rattle.rr_syntax.specs.Items.{spell_module, WellFormedModule, NumberedAll, NumberedModule}
use Rattle.rr_syntax.specs.Tree.{ModuleDeclaration}
use Rattle.rr_flatten.specs.Walk.{module_at}
use Rattle.rr_flat_instance.specs.Owned.{start_of}

pub numbered_module : (ms : List ModuleDeclaration) (at k : ℕ) → AllByRecursion WellFormedModule ms → NumberedAll spell_module NumberedModule ms at → k < length ms →
    WellFormedModule (module_at ms k) × NumberedModule (module_at ms k) (at + start_of ms k)
unfolding NumberedAll start_of
numbered_module [] at k w h l = absurd (omega (arith, l))
numbered_module (m ∷ ms) at zero w h l = let e : at + 0 ≡ at = omega arith in (w.0, subst (NumberedModule m) (sym e) h.0)
numbered_module (m ∷ ms) at (suc k) w h l =
    let r = numbered_module ms (at + length (spell_module m)) k w.1 h.1 (omega (arith, l)) in
    let e : at + length (spell_module m) + start_of ms k ≡ at + (length (spell_module m) + start_of ms k) = omega arith in
    (r.0, subst (NumberedModule (module_at ms k)) e r.1)
