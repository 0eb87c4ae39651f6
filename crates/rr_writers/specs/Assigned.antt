-- The bits that a statement may assign (IEEE 1364-2005 section 9.2), by `<=` only where `later`.
use Rattle.std.specs.Prelude.{Bool, true, false, ◌||◌, ◌&&◌}
use Rattle.rr_syntax.specs.Tree.{Statement, Statements, Arms}
use Rattle.rr_expr.specs.declared.types.Bit.{Bit}
use Rattle.rr_expr.specs.Scopes.{Names}
use Rattle.rr_flat.specs.Reads.{writes, write_any, arms_write}

abbrev pub assigns : Bool → Names → Statement → Bit → Bool
assigns later s t b = writes true s t b || (later && writes false s t b)

abbrev pub assign_any : Bool → Names → Statements → Bit → Bool
assign_any later s ts b = write_any true s ts b || (later && write_any false s ts b)

abbrev pub arms_assign : Bool → Names → Arms → Bit → Bool
arms_assign later s arms b = arms_write true s arms b || (later && arms_write false s arms b)
