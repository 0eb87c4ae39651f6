-- a literal with a value of its width is that of the instance
use Rattle.std.proofs.Common.{◌≡◌, ◌∙◌, sym, ap, ℕ, ◌<◌, ◌%◌, ◌^◌, Bool}
use Rattle.std.proofs.Math.Nat.{mod-eq_of_lt}
use Rattle.rr_syntax.specs.declared.token.Number.{Number}
use Rattle.rr_syntax.specs.Tree.{Tree, Literal}
use Rattle.rr_instance.specs.Instances.{fresh, number_with}

known : ℕ → Bool → ℕ → Number
known width signed value = record { width = width; signed = signed; value = value; any = 0; unknown = 0 }

pub same_number : (width : ℕ) (signed : Bool) (value : ℕ) (n : Number) → value < 2 ^ width → n.width ≡ width → n.signed ≡ signed →
    ◌≡◌ {A = Tree} (Literal fresh (record { width = width; signed = signed; value = value; any = 0; unknown = 0 })) (Literal fresh (number_with n value))
unfolding known
same_number width signed value n h w s =
    ap (λ (v : ℕ). Literal fresh (known width signed v)) (sym (mod-eq_of_lt {n = value} {m = 2 ^ width} h))
    ∙ ap (λ (k : ℕ). Literal fresh (known k signed (value % 2 ^ k))) (sym w)
    ∙ ap (λ (b : Bool). Literal fresh (known n.width b (value % 2 ^ n.width))) (sym s)
