-- single bits of targets
use Rattle.std.proofs.Common.{◌≡◌, ◌∙◌, sym, ℕ, ◌+◌, ◌<◌, ◌≤◌, List, length, map, get_or, Option, None, Some, refl, arith, pos}
use Rattle.std.specs.Prelude.{IfSome}
use Rattle.std.proofs.lemmas.Bool.{lt-ltb, le-ltb}
use Rattle.std.proofs.lemmas.List.{get_or_past, length-map}
use Rattle.rr_syntax.specs.Tree.{Tree}
use Rattle.rr_expr.specs.declared.types.Bit.{Bit}
use Rattle.rr_expr.specs.declared.types.Entity.TheVariants as entity
use Rattle.rr_expr.specs.Scopes.{Names, range_width}
use Rattle.rr_flat.specs.declared.signal.Signal.{Signal}
use Rattle.rr_flat.specs.Signals.{signal_at}
use Rattle.rr_flat.specs.View.{plain_signal}
use Rattle.rr_flat.specs.Targets.{target_bits}
use Rattle.rr_flat.specs.View.{Design, plain_flat}
use Rattle.rr_flat.specs.Writers.{signal_bits}
use Rattle.rr_flat.proofs.Bits.{place_has}
use Rattle.rr_cycle.specs.Exec.{Environment}
use Rattle.rr_cycle.proofs.Wiring.{length_there, there_at}
use Rattle.rr_exec.proofs.Fitting.{target_named}
use Rattle.rr_blast_steps.specs.Designs.{signal_widths}
use Rattle.rr_signal_wires.specs.Words.{Holds, IsThere}
use Rattle.rr_meaning.proofs.Scoping.{IsSound, wide}
use Rattle.rr_blast_steps.proofs.DesignLaws.{width_there}
use Rattle.rr_signal_wires.proofs.NameLaws.{name_there}

-- a bit that a target names has a wire
pub named_there : (s : Names) (widths : List ℕ) (e : Environment) (t : Tree) (i : ℕ) (b : Bit) → Holds s widths → get_or (target_bits s e t) i None ≡ Some b → IsThere widths b
named_there s widths e t i b h q = let r = target_named s e t b (place_has (target_bits s e t) b i q) in name_there s widths r.0 b h r.1

pub whole_there : (d : Design) (id p : ℕ) → id < length d.signals → p < (signal_at (map plain_signal d.signals) id).width → IsThere (signal_widths d.signals) (record { signal = id; place = p })
whole_there d id p l m = (omega (arith, l, length-map d.signals (λ (x : Signal). x.width)), omega (arith, m, width_there d.signals id l))

pub whole_at : (d : Design) (id p : ℕ) → IsSound d → id < length d.signals → p < (signal_at (map plain_signal d.signals) id).width → Some (record { signal = id; place = p }) ≡ get_or (signal_bits (plain_flat d) id) p None
whole_at d id p f l m =
    let s = signal_at (map plain_signal d.signals) id in
    let r : p < range_width s.range = omega (arith, m, (wide d id f l).range) in
    let z : 0 + p ≡ p = omega arith in
    sym (there_at (entity.Signal id s.range s.signed) (pos 0) s.width p m ∙ rw (z, le-ltb p 0 (omega arith), lt-ltb p (range_width s.range) r) refl)

pub whole_past : (d : Design) (id p : ℕ) → (signal_at (map plain_signal d.signals) id).width ≤ p → None ≡ get_or (signal_bits (plain_flat d) id) p None
whole_past d id p m =
    let s = signal_at (map plain_signal d.signals) id in
    sym (get_or_past (signal_bits (plain_flat d) id) p None (omega (arith, m, length_there (entity.Signal id s.range s.signed) (pos 0) s.width)))

pub some_if : (o : Option Bit) (P : Bit → Type 0) → ((b : Bit) → o ≡ Some b → P b) → IfSome o P
some_if None P h = tt
some_if (Some b) P h = h b refl
