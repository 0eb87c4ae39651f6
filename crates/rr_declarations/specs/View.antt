-- What declarations and heads stand for as plain data.
use Rattle.std.specs.Prelude.{ℕ, List, map}
use Rattle.rr_expr.specs.Scopes.{Names}
use Rattle.rr_flat.specs.declared.signal.Signal.{Signal}
use Rattle.rr_declarations.specs.declared.declare.Declared.{Declared}
use Rattle.rr_flat.specs.View.{plain_signal}
use Rattle.rr_declarations.specs.Declarations as declarations
use Rattle.rr_declarations.specs.Heads.{Head}

abbrev pub plain_declared : Declared → declarations.Declared
plain_declared x = record { signal = plain_signal x.signal; words = x.words; again = x.again }

abbrev pub plain_list : List Declared → List declarations.Declared
plain_list list = map plain_declared list

-- declarations as their lists, with references to texts
pub record Listing : Type 0 where
  pub instance : ℕ
  pub names : Names
  pub list : List Declared
  pub bits : ℕ

abbrev pub plain_declarations : Listing → declarations.Declarations
plain_declarations d = record { instance = d.instance; names = d.names; list = plain_list d.list; bits = d.bits }

-- the head of an instance as its lists, with references to texts
pub record Opening : Type 0 where
  pub instance : ℕ
  pub base : ℕ
  pub bits : ℕ
  pub signals : List Signal
  pub scope : Names

abbrev pub plain_head : Opening → Head
plain_head h = record { instance = h.instance; base = h.base; bits = h.bits; signals = map plain_signal h.signals; scope = h.scope }
