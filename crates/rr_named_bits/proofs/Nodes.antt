-- Names and selects at nodes of the arena, and what a shape of a whole says of its parts.
use Rattle.std.proofs.Common.{◌≡◌, ◌∙◌, sym, ap, ℕ, zero, suc, ◌-◌, ◌*◌, ◌<◌, ◌≤◌, ◌==◌, max, Bool, true, false, ◌&&◌, List, [], ◌∷◌, Option, None, nat_lt, refl, arith, pos}
use Rattle.std.proofs.lemmas.Bool.{and_parts, ltb-true}
use Rattle.rr_syntax.specs.declared.token.Mark.{Mark}
use Rattle.rr_syntax.specs.declared.token.Number.{Number}
use Rattle.rr_syntax.specs.declared.tree.Expr.{Expr}
use Rattle.rr_syntax.specs.declared.tree.Expr.TheVariants as expr
use Rattle.rr_syntax.specs.Tree.{Tree, Name, Literal, Bit as BitSelect, Part, Indexed, Unary, Binary, Cond, Concat, Repeat, Cast, Paren}
use Rattle.rr_syntax.specs.View.{plain, plain_list}
use Rattle.rr_syntax.proofs.Rows.{plain_concat, plain_repeat}
use Rattle.rr_expr.specs.declared.types.Bit.{Bit}
use Rattle.rr_expr.specs.declared.types.Entity.{Entity}
use Rattle.rr_expr.specs.declared.types.Entity.TheVariants.{Constant, Signal, Memory, Instance}
use Rattle.rr_expr.specs.declared.types.ExprFault.{ExprFault}
use Rattle.rr_expr.specs.declared.types.ExprFault.TheVariants.{BadRange}
use Rattle.rr_expr.specs.Memories.{index_shape}
use Rattle.rr_expr.specs.Scopes.{Names, meant, entity_shape, entity_range, is_scalar}
use Rattle.rr_expr.specs.Selects.{place, lowest_place, integer_with, is_against}
use Rattle.rr_expr.specs.Values.{form, widths, value, nowhere}
use Rattle.rr_expr.specs.Faults.{fits, fit, fault, faults, or_else, fault_if, width_fault, name_fault, base_fault, index_fault, count_fault, constant_count, constant_span, first, first_part, is_width}
use Rattle.rr_expr.proofs.Sound.{fits_without_fault, width_positive}
use Rattle.rr_flat.specs.Targets.{is_memory, target_bits, bits_there, index_bits}
use Rattle.rr_flat.proofs.Relaxing.{none_parts, relax}
use Rattle.rr_named_bits.specs.Pieces.{part_bits}
use denote.Ref.{Bor}

-- widths are at most 128

small : (w : ℕ) → is_width w ≡ true → w ≤ 128
small w h = let l : w < 129 = ltb-true w 129 (and_parts (nat_lt 0 w) (nat_lt w 129) h).1 in omega arith

last_of : (a b c w : Bool) → (a && (b && (c && w))) ≡ true → w ≡ true
last_of true true true w h = h
last_of true true false w h = cc
last_of true false c w h = cc
last_of false b c w h = cc

last_two : (a b w : Bool) → (a && (b && w)) ≡ true → w ≡ true
last_two true true w h = h
last_two true false w h = cc
last_two false b w h = cc

both_small : (a b : ℕ) → a ≤ 128 → b ≤ 128 → max a b ≤ 128
both_small a b h k = omega arith

-- an operator gives one bit, the width of an operand, or the greater of the widths of both
unary_small : (s : Names) (t : Tree) → (form s t).width ≤ 128 → (op : ℕ) → (form s (Unary op t)).width ≤ 128
unfolding form
unary_small s t h zero = h
unary_small s t h (suc zero) = h
unary_small s t h (suc (suc zero)) = h
unary_small s t h (suc (suc (suc zero))) = h
unary_small s t h (suc (suc (suc (suc zero)))) = h
unary_small s t h (suc (suc (suc (suc (suc zero))))) = h
unary_small s t h (suc (suc (suc (suc (suc (suc zero)))))) = h
unary_small s t h (suc (suc (suc (suc (suc (suc (suc zero))))))) = h
unary_small s t h (suc (suc (suc (suc (suc (suc (suc (suc zero)))))))) = h
unary_small s t h (suc (suc (suc (suc (suc (suc (suc (suc (suc zero))))))))) = h
unary_small s t h (suc (suc (suc (suc (suc (suc (suc (suc (suc (suc zero)))))))))) = h
unary_small s t h (suc (suc (suc (suc (suc (suc (suc (suc (suc (suc (suc zero))))))))))) = h
unary_small s t h (suc (suc (suc (suc (suc (suc (suc (suc (suc (suc (suc (suc zero)))))))))))) = h
unary_small s t h (suc (suc (suc (suc (suc (suc (suc (suc (suc (suc (suc (suc (suc zero))))))))))))) = h
unary_small s t h (suc (suc (suc (suc (suc (suc (suc (suc (suc (suc (suc (suc (suc (suc zero)))))))))))))) = h
unary_small s t h (suc (suc (suc (suc (suc (suc (suc (suc (suc (suc (suc (suc (suc (suc (suc zero))))))))))))))) = h
unary_small s t h (suc (suc (suc (suc (suc (suc (suc (suc (suc (suc (suc (suc (suc (suc (suc (suc zero)))))))))))))))) = h
unary_small s t h (suc (suc (suc (suc (suc (suc (suc (suc (suc (suc (suc (suc (suc (suc (suc (suc (suc zero))))))))))))))))) = h
unary_small s t h (suc (suc (suc (suc (suc (suc (suc (suc (suc (suc (suc (suc (suc (suc (suc (suc (suc (suc zero)))))))))))))))))) = h
unary_small s t h (suc (suc (suc (suc (suc (suc (suc (suc (suc (suc (suc (suc (suc (suc (suc (suc (suc (suc (suc zero))))))))))))))))))) = omega arith
unary_small s t h (suc (suc (suc (suc (suc (suc (suc (suc (suc (suc (suc (suc (suc (suc (suc (suc (suc (suc (suc (suc zero)))))))))))))))))))) = h
unary_small s t h (suc (suc (suc (suc (suc (suc (suc (suc (suc (suc (suc (suc (suc (suc (suc (suc (suc (suc (suc (suc (suc zero))))))))))))))))))))) = omega arith
unary_small s t h (suc (suc (suc (suc (suc (suc (suc (suc (suc (suc (suc (suc (suc (suc (suc (suc (suc (suc (suc (suc (suc (suc zero)))))))))))))))))))))) = omega arith
unary_small s t h (suc (suc (suc (suc (suc (suc (suc (suc (suc (suc (suc (suc (suc (suc (suc (suc (suc (suc (suc (suc (suc (suc (suc zero))))))))))))))))))))))) = omega arith
unary_small s t h (suc (suc (suc (suc (suc (suc (suc (suc (suc (suc (suc (suc (suc (suc (suc (suc (suc (suc (suc (suc (suc (suc (suc (suc zero)))))))))))))))))))))))) = h
unary_small s t h (suc (suc (suc (suc (suc (suc (suc (suc (suc (suc (suc (suc (suc (suc (suc (suc (suc (suc (suc (suc (suc (suc (suc (suc (suc zero))))))))))))))))))))))))) = h
unary_small s t h (suc (suc (suc (suc (suc (suc (suc (suc (suc (suc (suc (suc (suc (suc (suc (suc (suc (suc (suc (suc (suc (suc (suc (suc (suc (suc zero)))))))))))))))))))))))))) = h
unary_small s t h (suc (suc (suc (suc (suc (suc (suc (suc (suc (suc (suc (suc (suc (suc (suc (suc (suc (suc (suc (suc (suc (suc (suc (suc (suc (suc (suc zero))))))))))))))))))))))))))) = h
unary_small s t h (suc (suc (suc (suc (suc (suc (suc (suc (suc (suc (suc (suc (suc (suc (suc (suc (suc (suc (suc (suc (suc (suc (suc (suc (suc (suc (suc (suc zero)))))))))))))))))))))))))))) = h
unary_small s t h (suc (suc (suc (suc (suc (suc (suc (suc (suc (suc (suc (suc (suc (suc (suc (suc (suc (suc (suc (suc (suc (suc (suc (suc (suc (suc (suc (suc (suc zero))))))))))))))))))))))))))))) = h
unary_small s t h (suc (suc (suc (suc (suc (suc (suc (suc (suc (suc (suc (suc (suc (suc (suc (suc (suc (suc (suc (suc (suc (suc (suc (suc (suc (suc (suc (suc (suc (suc zero)))))))))))))))))))))))))))))) = h
unary_small s t h (suc (suc (suc (suc (suc (suc (suc (suc (suc (suc (suc (suc (suc (suc (suc (suc (suc (suc (suc (suc (suc (suc (suc (suc (suc (suc (suc (suc (suc (suc (suc zero))))))))))))))))))))))))))))))) = h
unary_small s t h (suc (suc (suc (suc (suc (suc (suc (suc (suc (suc (suc (suc (suc (suc (suc (suc (suc (suc (suc (suc (suc (suc (suc (suc (suc (suc (suc (suc (suc (suc (suc (suc zero)))))))))))))))))))))))))))))))) = h
unary_small s t h (suc (suc (suc (suc (suc (suc (suc (suc (suc (suc (suc (suc (suc (suc (suc (suc (suc (suc (suc (suc (suc (suc (suc (suc (suc (suc (suc (suc (suc (suc (suc (suc (suc zero))))))))))))))))))))))))))))))))) = h
unary_small s t h (suc (suc (suc (suc (suc (suc (suc (suc (suc (suc (suc (suc (suc (suc (suc (suc (suc (suc (suc (suc (suc (suc (suc (suc (suc (suc (suc (suc (suc (suc (suc (suc (suc (suc zero)))))))))))))))))))))))))))))))))) = h
unary_small s t h (suc (suc (suc (suc (suc (suc (suc (suc (suc (suc (suc (suc (suc (suc (suc (suc (suc (suc (suc (suc (suc (suc (suc (suc (suc (suc (suc (suc (suc (suc (suc (suc (suc (suc (suc zero))))))))))))))))))))))))))))))))))) = h
unary_small s t h (suc (suc (suc (suc (suc (suc (suc (suc (suc (suc (suc (suc (suc (suc (suc (suc (suc (suc (suc (suc (suc (suc (suc (suc (suc (suc (suc (suc (suc (suc (suc (suc (suc (suc (suc (suc zero)))))))))))))))))))))))))))))))))))) = h
unary_small s t h (suc (suc (suc (suc (suc (suc (suc (suc (suc (suc (suc (suc (suc (suc (suc (suc (suc (suc (suc (suc (suc (suc (suc (suc (suc (suc (suc (suc (suc (suc (suc (suc (suc (suc (suc (suc (suc zero))))))))))))))))))))))))))))))))))))) = h
unary_small s t h (suc (suc (suc (suc (suc (suc (suc (suc (suc (suc (suc (suc (suc (suc (suc (suc (suc (suc (suc (suc (suc (suc (suc (suc (suc (suc (suc (suc (suc (suc (suc (suc (suc (suc (suc (suc (suc (suc zero)))))))))))))))))))))))))))))))))))))) = h
unary_small s t h (suc (suc (suc (suc (suc (suc (suc (suc (suc (suc (suc (suc (suc (suc (suc (suc (suc (suc (suc (suc (suc (suc (suc (suc (suc (suc (suc (suc (suc (suc (suc (suc (suc (suc (suc (suc (suc (suc (suc zero))))))))))))))))))))))))))))))))))))))) = omega arith
unary_small s t h (suc (suc (suc (suc (suc (suc (suc (suc (suc (suc (suc (suc (suc (suc (suc (suc (suc (suc (suc (suc (suc (suc (suc (suc (suc (suc (suc (suc (suc (suc (suc (suc (suc (suc (suc (suc (suc (suc (suc (suc zero)))))))))))))))))))))))))))))))))))))))) = omega arith
unary_small s t h (suc (suc (suc (suc (suc (suc (suc (suc (suc (suc (suc (suc (suc (suc (suc (suc (suc (suc (suc (suc (suc (suc (suc (suc (suc (suc (suc (suc (suc (suc (suc (suc (suc (suc (suc (suc (suc (suc (suc (suc (suc zero))))))))))))))))))))))))))))))))))))))))) = omega arith
unary_small s t h (suc (suc (suc (suc (suc (suc (suc (suc (suc (suc (suc (suc (suc (suc (suc (suc (suc (suc (suc (suc (suc (suc (suc (suc (suc (suc (suc (suc (suc (suc (suc (suc (suc (suc (suc (suc (suc (suc (suc (suc (suc (suc zero)))))))))))))))))))))))))))))))))))))))))) = omega arith
unary_small s t h (suc (suc (suc (suc (suc (suc (suc (suc (suc (suc (suc (suc (suc (suc (suc (suc (suc (suc (suc (suc (suc (suc (suc (suc (suc (suc (suc (suc (suc (suc (suc (suc (suc (suc (suc (suc (suc (suc (suc (suc (suc (suc (suc zero))))))))))))))))))))))))))))))))))))))))))) = h
unary_small s t h (suc (suc (suc (suc (suc (suc (suc (suc (suc (suc (suc (suc (suc (suc (suc (suc (suc (suc (suc (suc (suc (suc (suc (suc (suc (suc (suc (suc (suc (suc (suc (suc (suc (suc (suc (suc (suc (suc (suc (suc (suc (suc (suc (suc zero)))))))))))))))))))))))))))))))))))))))))))) = h
unary_small s t h (suc (suc (suc (suc (suc (suc (suc (suc (suc (suc (suc (suc (suc (suc (suc (suc (suc (suc (suc (suc (suc (suc (suc (suc (suc (suc (suc (suc (suc (suc (suc (suc (suc (suc (suc (suc (suc (suc (suc (suc (suc (suc (suc (suc (suc op))))))))))))))))))))))))))))))))))))))))))))) = h

binary_small : (s : Names) (l r : Tree) → (form s l).width ≤ 128 → (form s r).width ≤ 128 → (op : ℕ) → (form s (Binary op l r)).width ≤ 128
unfolding form
binary_small s l r h k zero = omega arith
binary_small s l r h k (suc zero) = omega arith
binary_small s l r h k (suc (suc zero)) = omega arith
binary_small s l r h k (suc (suc (suc zero))) = omega arith
binary_small s l r h k (suc (suc (suc (suc zero)))) = omega arith
binary_small s l r h k (suc (suc (suc (suc (suc zero))))) = omega arith
binary_small s l r h k (suc (suc (suc (suc (suc (suc zero)))))) = omega arith
binary_small s l r h k (suc (suc (suc (suc (suc (suc (suc zero))))))) = omega arith
binary_small s l r h k (suc (suc (suc (suc (suc (suc (suc (suc zero)))))))) = omega arith
binary_small s l r h k (suc (suc (suc (suc (suc (suc (suc (suc (suc zero))))))))) = omega arith
binary_small s l r h k (suc (suc (suc (suc (suc (suc (suc (suc (suc (suc zero)))))))))) = omega arith
binary_small s l r h k (suc (suc (suc (suc (suc (suc (suc (suc (suc (suc (suc zero))))))))))) = omega arith
binary_small s l r h k (suc (suc (suc (suc (suc (suc (suc (suc (suc (suc (suc (suc zero)))))))))))) = omega arith
binary_small s l r h k (suc (suc (suc (suc (suc (suc (suc (suc (suc (suc (suc (suc (suc zero))))))))))))) = omega arith
binary_small s l r h k (suc (suc (suc (suc (suc (suc (suc (suc (suc (suc (suc (suc (suc (suc zero)))))))))))))) = both_small (form s l).width (form s r).width h k
binary_small s l r h k (suc (suc (suc (suc (suc (suc (suc (suc (suc (suc (suc (suc (suc (suc (suc zero))))))))))))))) = both_small (form s l).width (form s r).width h k
binary_small s l r h k (suc (suc (suc (suc (suc (suc (suc (suc (suc (suc (suc (suc (suc (suc (suc (suc zero)))))))))))))))) = both_small (form s l).width (form s r).width h k
binary_small s l r h k (suc (suc (suc (suc (suc (suc (suc (suc (suc (suc (suc (suc (suc (suc (suc (suc (suc zero))))))))))))))))) = both_small (form s l).width (form s r).width h k
binary_small s l r h k (suc (suc (suc (suc (suc (suc (suc (suc (suc (suc (suc (suc (suc (suc (suc (suc (suc (suc zero)))))))))))))))))) = both_small (form s l).width (form s r).width h k
binary_small s l r h k (suc (suc (suc (suc (suc (suc (suc (suc (suc (suc (suc (suc (suc (suc (suc (suc (suc (suc (suc zero))))))))))))))))))) = omega arith
binary_small s l r h k (suc (suc (suc (suc (suc (suc (suc (suc (suc (suc (suc (suc (suc (suc (suc (suc (suc (suc (suc (suc zero)))))))))))))))))))) = omega arith
binary_small s l r h k (suc (suc (suc (suc (suc (suc (suc (suc (suc (suc (suc (suc (suc (suc (suc (suc (suc (suc (suc (suc (suc zero))))))))))))))))))))) = both_small (form s l).width (form s r).width h k
binary_small s l r h k (suc (suc (suc (suc (suc (suc (suc (suc (suc (suc (suc (suc (suc (suc (suc (suc (suc (suc (suc (suc (suc (suc zero)))))))))))))))))))))) = both_small (form s l).width (form s r).width h k
binary_small s l r h k (suc (suc (suc (suc (suc (suc (suc (suc (suc (suc (suc (suc (suc (suc (suc (suc (suc (suc (suc (suc (suc (suc (suc zero))))))))))))))))))))))) = both_small (form s l).width (form s r).width h k
binary_small s l r h k (suc (suc (suc (suc (suc (suc (suc (suc (suc (suc (suc (suc (suc (suc (suc (suc (suc (suc (suc (suc (suc (suc (suc (suc zero)))))))))))))))))))))))) = omega arith
binary_small s l r h k (suc (suc (suc (suc (suc (suc (suc (suc (suc (suc (suc (suc (suc (suc (suc (suc (suc (suc (suc (suc (suc (suc (suc (suc (suc zero))))))))))))))))))))))))) = omega arith
binary_small s l r h k (suc (suc (suc (suc (suc (suc (suc (suc (suc (suc (suc (suc (suc (suc (suc (suc (suc (suc (suc (suc (suc (suc (suc (suc (suc (suc zero)))))))))))))))))))))))))) = h
binary_small s l r h k (suc (suc (suc (suc (suc (suc (suc (suc (suc (suc (suc (suc (suc (suc (suc (suc (suc (suc (suc (suc (suc (suc (suc (suc (suc (suc (suc zero))))))))))))))))))))))))))) = omega arith
binary_small s l r h k (suc (suc (suc (suc (suc (suc (suc (suc (suc (suc (suc (suc (suc (suc (suc (suc (suc (suc (suc (suc (suc (suc (suc (suc (suc (suc (suc (suc zero)))))))))))))))))))))))))))) = omega arith
binary_small s l r h k (suc (suc (suc (suc (suc (suc (suc (suc (suc (suc (suc (suc (suc (suc (suc (suc (suc (suc (suc (suc (suc (suc (suc (suc (suc (suc (suc (suc (suc zero))))))))))))))))))))))))))))) = omega arith
binary_small s l r h k (suc (suc (suc (suc (suc (suc (suc (suc (suc (suc (suc (suc (suc (suc (suc (suc (suc (suc (suc (suc (suc (suc (suc (suc (suc (suc (suc (suc (suc (suc zero)))))))))))))))))))))))))))))) = omega arith
binary_small s l r h k (suc (suc (suc (suc (suc (suc (suc (suc (suc (suc (suc (suc (suc (suc (suc (suc (suc (suc (suc (suc (suc (suc (suc (suc (suc (suc (suc (suc (suc (suc (suc zero))))))))))))))))))))))))))))))) = omega arith
binary_small s l r h k (suc (suc (suc (suc (suc (suc (suc (suc (suc (suc (suc (suc (suc (suc (suc (suc (suc (suc (suc (suc (suc (suc (suc (suc (suc (suc (suc (suc (suc (suc (suc (suc zero)))))))))))))))))))))))))))))))) = omega arith
binary_small s l r h k (suc (suc (suc (suc (suc (suc (suc (suc (suc (suc (suc (suc (suc (suc (suc (suc (suc (suc (suc (suc (suc (suc (suc (suc (suc (suc (suc (suc (suc (suc (suc (suc (suc zero))))))))))))))))))))))))))))))))) = h
binary_small s l r h k (suc (suc (suc (suc (suc (suc (suc (suc (suc (suc (suc (suc (suc (suc (suc (suc (suc (suc (suc (suc (suc (suc (suc (suc (suc (suc (suc (suc (suc (suc (suc (suc (suc (suc zero)))))))))))))))))))))))))))))))))) = h
binary_small s l r h k (suc (suc (suc (suc (suc (suc (suc (suc (suc (suc (suc (suc (suc (suc (suc (suc (suc (suc (suc (suc (suc (suc (suc (suc (suc (suc (suc (suc (suc (suc (suc (suc (suc (suc (suc zero))))))))))))))))))))))))))))))))))) = h
binary_small s l r h k (suc (suc (suc (suc (suc (suc (suc (suc (suc (suc (suc (suc (suc (suc (suc (suc (suc (suc (suc (suc (suc (suc (suc (suc (suc (suc (suc (suc (suc (suc (suc (suc (suc (suc (suc (suc zero)))))))))))))))))))))))))))))))))))) = h
binary_small s l r h k (suc (suc (suc (suc (suc (suc (suc (suc (suc (suc (suc (suc (suc (suc (suc (suc (suc (suc (suc (suc (suc (suc (suc (suc (suc (suc (suc (suc (suc (suc (suc (suc (suc (suc (suc (suc (suc zero))))))))))))))))))))))))))))))))))))) = omega arith
binary_small s l r h k (suc (suc (suc (suc (suc (suc (suc (suc (suc (suc (suc (suc (suc (suc (suc (suc (suc (suc (suc (suc (suc (suc (suc (suc (suc (suc (suc (suc (suc (suc (suc (suc (suc (suc (suc (suc (suc (suc zero)))))))))))))))))))))))))))))))))))))) = omega arith
binary_small s l r h k (suc (suc (suc (suc (suc (suc (suc (suc (suc (suc (suc (suc (suc (suc (suc (suc (suc (suc (suc (suc (suc (suc (suc (suc (suc (suc (suc (suc (suc (suc (suc (suc (suc (suc (suc (suc (suc (suc (suc zero))))))))))))))))))))))))))))))))))))))) = omega arith
binary_small s l r h k (suc (suc (suc (suc (suc (suc (suc (suc (suc (suc (suc (suc (suc (suc (suc (suc (suc (suc (suc (suc (suc (suc (suc (suc (suc (suc (suc (suc (suc (suc (suc (suc (suc (suc (suc (suc (suc (suc (suc (suc zero)))))))))))))))))))))))))))))))))))))))) = omega arith
binary_small s l r h k (suc (suc (suc (suc (suc (suc (suc (suc (suc (suc (suc (suc (suc (suc (suc (suc (suc (suc (suc (suc (suc (suc (suc (suc (suc (suc (suc (suc (suc (suc (suc (suc (suc (suc (suc (suc (suc (suc (suc (suc (suc zero))))))))))))))))))))))))))))))))))))))))) = both_small (form s l).width (form s r).width h k
binary_small s l r h k (suc (suc (suc (suc (suc (suc (suc (suc (suc (suc (suc (suc (suc (suc (suc (suc (suc (suc (suc (suc (suc (suc (suc (suc (suc (suc (suc (suc (suc (suc (suc (suc (suc (suc (suc (suc (suc (suc (suc (suc (suc (suc zero)))))))))))))))))))))))))))))))))))))))))) = both_small (form s l).width (form s r).width h k
binary_small s l r h k (suc (suc (suc (suc (suc (suc (suc (suc (suc (suc (suc (suc (suc (suc (suc (suc (suc (suc (suc (suc (suc (suc (suc (suc (suc (suc (suc (suc (suc (suc (suc (suc (suc (suc (suc (suc (suc (suc (suc (suc (suc (suc (suc zero))))))))))))))))))))))))))))))))))))))))))) = omega arith
binary_small s l r h k (suc (suc (suc (suc (suc (suc (suc (suc (suc (suc (suc (suc (suc (suc (suc (suc (suc (suc (suc (suc (suc (suc (suc (suc (suc (suc (suc (suc (suc (suc (suc (suc (suc (suc (suc (suc (suc (suc (suc (suc (suc (suc (suc (suc zero)))))))))))))))))))))))))))))))))))))))))))) = omega arith
binary_small s l r h k (suc (suc (suc (suc (suc (suc (suc (suc (suc (suc (suc (suc (suc (suc (suc (suc (suc (suc (suc (suc (suc (suc (suc (suc (suc (suc (suc (suc (suc (suc (suc (suc (suc (suc (suc (suc (suc (suc (suc (suc (suc (suc (suc (suc (suc op))))))))))))))))))))))))))))))))))))))))))))) = omega arith

-- an index gives one bit, or a word
index_small : (e : Entity) → (entity_shape e).width ≤ 128 → (index_shape e).width ≤ 128
index_small (Constant bits signed) h = omega arith
index_small (Signal id range signed) h = omega arith
index_small (Memory first low words range signed) h = h
index_small Instance h = omega arith

width_small : (s : Names) (t : Tree) → fits s t ≡ true → (form s t).width ≤ 128
unfolding fits form
width_small s (Name token name) h = small (entity_shape (meant s name)).width h
width_small s (Literal token n) h = small n.width h
width_small s (BitSelect token name i) h = index_small (meant s name) (small (entity_shape (meant s name)).width (and_parts (is_width (entity_shape (meant s name)).width) (fits s i) h).0)
width_small s (Part token name l r) h = small (constant_span s l r) (last_of (is_width (entity_shape (meant s name)).width) (fits s l) (fits s r) (is_width (constant_span s l r)) h)
width_small s (Indexed token name f n up) h = small (constant_count s n) (last_of (is_width (entity_shape (meant s name)).width) (fits s f) (fits s n) (is_width (constant_count s n)) h)
width_small s (Unary op t) h = unary_small s t (width_small s t h) op
width_small s (Binary op l r) h =
    let p = and_parts (fits s l) (fits s r) h in
    binary_small s l r (width_small s l p.0) (width_small s r p.1) op
width_small s (Cond a b c) h =
    let p = and_parts (fits s a) (fits s b && fits s c) h in
    let q = and_parts (fits s b) (fits s c) p.1 in
    both_small (form s b).width (form s c).width (width_small s b q.0) (width_small s c q.1)
width_small s (Concat ts) h = small (widths s ts) (and_parts (fit s ts) (is_width (widths s ts)) h).1
width_small s (Repeat n ts) h = small (constant_count s n * widths s ts) (last_two (fits s n) (fit s ts) (is_width (constant_count s n * widths s ts)) h)
width_small s (Cast signed t) h = width_small s t h
width_small s (Paren t) h = width_small s t h

pub shaped_small : (s : Names) (t : Tree) → fault s t false ≡ None → (form s t).width ≤ 128
shaped_small s t h = width_small s t (fits_without_fault s false t h)

pub shaped_positive : (s : Names) (t : Tree) → fault s t false ≡ None → 1 ≤ (form s t).width
shaped_positive s t h = width_positive s t (fits_without_fault s false t h)

-- the parts of an expression without a fault

name_small : (s : Names) (name : List ℕ) (rest : Bool) → (is_width (entity_shape (meant s name)).width && rest) ≡ true → (entity_shape (meant s name)).width ≤ 128
name_small s name rest h = small (entity_shape (meant s name)).width (and_parts (is_width (entity_shape (meant s name)).width) rest h).0

pub shaped-Name : (s : Names) (token : ℕ) (name : Bor (List ℕ)) → fault s (plain (expr.Name token name)) false ≡ None → (entity_shape (meant s name.now)).width ≤ 128
unfolding plain fits
shaped-Name s token name h = small (entity_shape (meant s name.now)).width (fits_without_fault s false (Name token name.now) h)

-- a memory has no value of its own, and no part
no_name : (token : ℕ) (e : Entity) → name_fault false token e ≡ None → is_memory e ≡ false
no_name token (Constant bits signed) h = refl
no_name token (Signal id range signed) h = refl
no_name token (Memory first low words range signed) h = cc
no_name token Instance h = refl

no_base : (token : ℕ) (e : Entity) → base_fault false token e ≡ None → is_memory e ≡ false
no_base token e h = no_name token e (none_parts (name_fault false token e) (fault_if (is_scalar e) (BadRange token)) h).0

pub alone-Name : (s : Names) (token : ℕ) (name : Bor (List ℕ)) → fault s (plain (expr.Name token name)) false ≡ None → is_memory (meant s name.now) ≡ false
unfolding plain fault
alone-Name s token name h = no_name token (meant s name.now) h

pub alone-Part : (s : Names) (token : ℕ) (name : Bor (List ℕ)) (l r : Bor Expr) → fault s (plain (expr.Part token name l r)) false ≡ None → is_memory (meant s name.now) ≡ false
unfolding plain fault
alone-Part s token name l r h = no_base token (meant s name.now) (none_parts (base_fault false token (meant s name.now)) _ h).0

pub alone-Indexed : (s : Names) (token : ℕ) (name : Bor (List ℕ)) (f n : Bor Expr) (up : Bool) → fault s (plain (expr.Indexed token name f n up)) false ≡ None → is_memory (meant s name.now) ≡ false
unfolding plain fault
alone-Indexed s token name f n up h = no_base token (meant s name.now) (none_parts (base_fault false token (meant s name.now)) _ h).0

pub shaped-Bit : (s : Names) (token : ℕ) (name : Bor (List ℕ)) (i : Bor Expr) → fault s (plain (expr.Bit token name i)) false ≡ None
    → ((entity_shape (meant s name.now)).width ≤ 128) × (fault s (plain i.now) false ≡ None)
unfolding plain fault fits
shaped-Bit s token name i h = (
  name_small s name.now (fits s (plain i.now)) (fits_without_fault s false (BitSelect token name.now (plain i.now)) h),
  (none_parts (index_fault false token (meant s name.now)) (fault s (plain i.now) false) h).1,
)

pub shaped-Part : (s : Names) (token : ℕ) (name : Bor (List ℕ)) (l r : Bor Expr) → fault s (plain (expr.Part token name l r)) false ≡ None
    → ((entity_shape (meant s name.now)).width ≤ 128) × (fault s (plain r.now) true ≡ None)
unfolding plain fault fits
shaped-Part s token name l r h =
    let a = plain l.now in
    let b = plain r.now in
    let turned = fault_if (is_against (entity_range (meant s name.now)) (integer_with (form s a) (value s a nowhere)) (integer_with (form s b) (value s b nowhere))) (BadRange token) in
    let w = width_fault token (constant_span s a b) in
    let p = none_parts (base_fault false token (meant s name.now)) (or_else (fault s a true) (or_else (fault s b true) (or_else turned w))) h in
    let q = none_parts (fault s a true) (or_else (fault s b true) (or_else turned w)) p.1 in
    let u = none_parts (fault s b true) (or_else turned w) q.1 in
    (name_small s name.now (fits s a && (fits s b && is_width (constant_span s a b))) (fits_without_fault s false (Part token name.now a b) h), u.0)

pub shaped-Indexed : (s : Names) (token : ℕ) (name : Bor (List ℕ)) (f n : Bor Expr) (up : Bool) → fault s (plain (expr.Indexed token name f n up)) false ≡ None
    → ((entity_shape (meant s name.now)).width ≤ 128) × (fault s (plain f.now) false ≡ None)
unfolding plain fault fits
shaped-Indexed s token name f n up h =
    let a = plain f.now in
    let b = plain n.now in
    let w = count_fault (fault s b true) token (constant_count s b) in
    let p = none_parts (base_fault false token (meant s name.now)) (or_else w (or_else (fault s a false) (fault s b true))) h in
    let q = none_parts w (or_else (fault s a false) (fault s b true)) p.1 in
    let u = none_parts (fault s a false) (fault s b true) q.1 in
    (name_small s name.now (fits s a && (fits s b && is_width (constant_count s b))) (fits_without_fault s false (Indexed token name.now a b up) h), u.0)

pub shaped-Unary : (s : Names) (op : Mark) (t : Bor Expr) → fault s (plain (expr.Unary op t)) false ≡ None → fault s (plain t.now) false ≡ None
unfolding plain fault
shaped-Unary s op t h = h

pub shaped-Cast : (s : Names) (signed : Bool) (t : Bor Expr) → fault s (plain (expr.Cast signed t)) false ≡ None → fault s (plain t.now) false ≡ None
unfolding plain fault
shaped-Cast s signed t h = h

pub shaped-Paren : (s : Names) (t : Bor Expr) → fault s (plain (expr.Paren t)) false ≡ None → fault s (plain t.now) false ≡ None
unfolding plain fault
shaped-Paren s t h = h

pub shaped-Concat : (s : Names) (ts : Bor (List Expr)) → fault s (plain (expr.Concat ts)) false ≡ None → faults s (plain_list ts.now) false ≡ None
unfolding fault
shaped-Concat s ts h =
    (none_parts (faults s (plain_list ts.now) false) (width_fault (first_part (plain_list ts.now) - 1) (widths s (plain_list ts.now)))
    (sym (ap (λ t. fault s t false) (plain_concat ts)) ∙ h)).0

pub shaped-Repeat : (s : Names) (n : Bor Expr) (ts : Bor (List Expr)) → fault s (plain (expr.Repeat n ts)) false ≡ None → faults s (plain_list ts.now) false ≡ None
unfolding fault
shaped-Repeat s n ts h =
    let m = plain n.now in
    let us = plain_list ts.now in
    let k : fault s (Repeat m us) false ≡ None = sym (ap (λ t. fault s t false) (plain_repeat n ts)) ∙ h in
    let w = width_fault (first m - 1) (constant_count s m * widths s us) in
    let none = fault_if (constant_count s m == 0) (BadRange (first m)) in
    let p = none_parts (fault s m true) (or_else none (or_else (faults s us false) w)) k in
    let q = none_parts none (or_else (faults s us false) w) p.1 in
    (none_parts (faults s us false) w q.1).0

pub shaped-Cond : (s : Names) (a b c : Bor Expr) → fault s (plain (expr.Cond a b c)) false ≡ None
    → (fault s (plain a.now) false ≡ None) × (fault s (plain b.now) false ≡ None) × (fault s (plain c.now) false ≡ None)
unfolding plain fault
shaped-Cond s a b c h =
    let p = none_parts (fault s (plain a.now) false) (or_else (fault s (plain b.now) false) (fault s (plain c.now) false)) h in
    let q = none_parts (fault s (plain b.now) false) (fault s (plain c.now) false) p.1 in
    (p.0, q.0, q.1)

-- the first of a list, and the rest
pub shaped_more : (s : Names) (x : Expr) (xs : List Expr) → faults s (plain_list (x ∷ xs)) false ≡ None → (fault s (plain x) false ≡ None) × (faults s (plain_list xs) false ≡ None)
unfolding plain_list fault
shaped_more s x xs h = none_parts (fault s (plain x) false) (faults s (plain_list xs) false) h

-- the bits that each form names

pub bits-Name : (s : Names) (env : Bit → Bool) (token : ℕ) (name : Bor (List ℕ)) → part_bits s env (plain (expr.Name token name)) ≡ bits_there (meant s name.now) (pos 0) (entity_shape (meant s name.now)).width
unfolding plain target_bits
bits-Name s env token name = refl

pub bits-Bit : (s : Names) (env : Bit → Bool) (token : ℕ) (name : Bor (List ℕ)) (i : Bor Expr) → part_bits s env (plain (expr.Bit token name i))
    ≡ index_bits (meant s name.now) (integer_with (form s (plain i.now)) (value s (plain i.now) env))
unfolding plain target_bits
bits-Bit s env token name i = refl

pub bits-Part : (s : Names) (env : Bit → Bool) (token : ℕ) (name : Bor (List ℕ)) (l r : Bor Expr) → part_bits s env (plain (expr.Part token name l r))
    ≡ bits_there (meant s name.now) (place (entity_range (meant s name.now)) (integer_with (form s (plain r.now)) (value s (plain r.now) nowhere))) (form s (plain (expr.Part token name l r))).width
unfolding plain target_bits form
bits-Part s env token name l r = refl

pub bits-Indexed : (s : Names) (env : Bit → Bool) (token : ℕ) (name : Bor (List ℕ)) (f n : Bor Expr) (up : Bool) → part_bits s env (plain (expr.Indexed token name f n up))
    ≡ bits_there (meant s name.now) (lowest_place (entity_range (meant s name.now)) up (integer_with (form s (plain f.now)) (value s (plain f.now) env)) (form s (plain (expr.Indexed token name f n up))).width) (form s (plain (expr.Indexed token name f n up))).width
unfolding plain target_bits form
bits-Indexed s env token name f n up = refl

pub bits-Literal : (s : Names) (env : Bit → Bool) (token : ℕ) (n : Number) → part_bits s env (plain (expr.Literal token n)) ≡ []
unfolding plain
bits-Literal s env token n = refl

pub bits-Unary : (s : Names) (env : Bit → Bool) (op : Mark) (t : Bor Expr) → part_bits s env (plain (expr.Unary op t)) ≡ []
unfolding plain
bits-Unary s env op t = refl

pub bits-Binary : (s : Names) (env : Bit → Bool) (op : Mark) (l r : Bor Expr) → part_bits s env (plain (expr.Binary op l r)) ≡ []
unfolding plain
bits-Binary s env op l r = refl

pub bits-Cond : (s : Names) (env : Bit → Bool) (a b c : Bor Expr) → part_bits s env (plain (expr.Cond a b c)) ≡ []
unfolding plain
bits-Cond s env a b c = refl

pub bits-Concat : (s : Names) (env : Bit → Bool) (ts : Bor (List Expr)) → part_bits s env (plain (expr.Concat ts)) ≡ []
bits-Concat s env ts = ap (part_bits s env) (plain_concat ts)

pub bits-Repeat : (s : Names) (env : Bit → Bool) (n : Bor Expr) (ts : Bor (List Expr)) → part_bits s env (plain (expr.Repeat n ts)) ≡ []
bits-Repeat s env n ts = ap (part_bits s env) (plain_repeat n ts)

pub bits-Cast : (s : Names) (env : Bit → Bool) (signed : Bool) (t : Bor Expr) → part_bits s env (plain (expr.Cast signed t)) ≡ []
unfolding plain
bits-Cast s env signed t = refl

pub bits-Paren : (s : Names) (env : Bit → Bool) (t : Bor Expr) → part_bits s env (plain (expr.Paren t)) ≡ []
unfolding plain
bits-Paren s env t = refl

strict_parts : (s : Names) (l r : Tree) (k : Bool) (x : Option ExprFault) → or_else (fault s l k) (or_else (fault s r k) x) ≡ None → (fault s l false ≡ None) × (fault s r false ≡ None)
strict_parts s l r false x h =
    let p = none_parts (fault s l false) (or_else (fault s r false) x) h in
    (p.0, (none_parts (fault s r false) x p.1).0)
strict_parts s l r true x h =
    let p = none_parts (fault s l true) (or_else (fault s r true) x) h in
    (relax s l p.0, relax s r (none_parts (fault s r true) x p.1).0)

pub shaped-Binary : (s : Names) (op : Mark) (l r : Bor Expr) → fault s (plain (expr.Binary op l r)) false ≡ None → (fault s (plain l.now) false ≡ None) × (fault s (plain r.now) false ≡ None)
unfolding plain fault
shaped-Binary s op l r h = strict_parts s (plain l.now) (plain r.now) _ _ h
