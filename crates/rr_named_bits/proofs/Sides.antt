-- The bits of the sides of drivers.
use Rattle.std.proofs.Common.{◌≡◌, ◌∙◌, sym, ap, subst, ℕ, List, [], pos}
use Rattle.rr_syntax.specs.declared.tree.Expr.{Expr}
use Rattle.rr_syntax.specs.View.{plain}
use Rattle.rr_expr.specs.declared.types.Entity.TheVariants as entity
use Rattle.rr_expr.specs.Scopes.{Names, env_of}
use Rattle.rr_flat.specs.declared.signal.Signal.{Signal}
use Rattle.rr_flat.specs.Signals as plain_head
use Rattle.rr_flat.specs.Signals.{signal_at}
use Rattle.rr_flat.specs.View.{plain_signal}
use Rattle.rr_flat.specs.declared.design.Side as declared_side
use Rattle.rr_flat.specs.declared.design.Side.TheVariants as side
use Rattle.rr_flat.specs.Sound.{IsSignal}
use Rattle.rr_flat.specs.Targets.{bits_there, target_bits}
use Rattle.rr_flat.specs.View.{Design, plain_flat, plain_side}
use Rattle.rr_flat.specs.Writers.{scope_at, signal_bits, driven_by}
use Rattle.rr_named_bits.specs.Pieces.{bits_of}
use Rattle.rr_named_bits.proofs.Runs.{run_of, signal_run}
use denote.Ref.{Bor}

-- all bits of a signal, as a run
pub whole_bits : (d : Design) (id instances : ℕ) (x : Signal) → plain_signal x ≡ signal_at (plain_flat d).signals id → IsSignal instances x
    → bits_of (run_of id x.width (pos 0) x.width) ≡ signal_bits (plain_flat d) id
whole_bits d id instances x q i =
    let P : plain_head.Signal → Type 0 = λ z. bits_of (run_of id x.width (pos 0) x.width) ≡ bits_there (entity.Signal id z.range z.signed) (pos 0) z.width in
    subst P q (ap (λ w. bits_of (run_of id w (pos 0) x.width)) i.width ∙ signal_run id x.range x.signed (pos 0) (pos 0) x.width x.width)

pub whole_run : (d : Design) (id : ℕ) (x : Signal) → plain_signal x ≡ signal_at (plain_flat d).signals id
    → run_of id x.width (pos 0) x.width ≡ run_of id (signal_at (plain_flat d).signals id).width (pos 0) (signal_at (plain_flat d).signals id).width
whole_run d id x q = ap (λ (z : plain_head.Signal). run_of id z.width (pos 0) z.width) q

pub whole_side : (d : Design) (id : ℕ) (x : declared_side.Side) → x ≡ side.Whole id → signal_bits (plain_flat d) id ≡ driven_by (plain_flat d) (plain_side x)
unfolding driven_by
whole_side d id x e = ap (λ z. driven_by (plain_flat d) (plain_side z)) (sym e)

pub text_side : (d : Design) (t : Bor Expr) (scope : ℕ) (names : Names) (values : List ℕ) (x : declared_side.Side) → x ≡ side.Text t scope → names ≡ scope_at (plain_flat d) scope → values ≡ []
    → target_bits names (env_of values) (plain t.now) ≡ driven_by (plain_flat d) (plain_side x)
unfolding driven_by
text_side d t scope names values x e f g =
    ap (λ z. target_bits z (env_of values) (plain t.now)) f
    ∙ (ap (λ z. target_bits (scope_at (plain_flat d) scope) (env_of z) (plain t.now)) g ∙ ap (λ z. driven_by (plain_flat d) (plain_side z)) (sym e))
