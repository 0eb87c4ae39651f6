-- The scope of a dump in which the ports of a top are looked up (IEEE 1364-2005 sections 18.2.3.5 and 18.2.3.7).
use Rattle.std.specs.Prelude.{ℕ, ◌≡◌, ◌<◌, List, [], ◌∷◌, Bool, true, false, ◌&&◌, ◌==◌, Option, Some, None, if◌then◌else◌}
use Rattle.std.specs.List.{list_all, list_any}
use Rattle.std.specs.Str.{bytes_eq}
use Rattle.rr_vcd_text.specs.Dump.{Variable, Declared}
use Rattle.rr_vcd.specs.Tops.{Port, Top}

-- a name without one leading `\`
abbrev pub bare_name : List ℕ → List ℕ
bare_name [] = []
bare_name (b ∷ bs) = if b == 92 then bs else b ∷ bs

abbrev pub is_scope : ℕ → Option ℕ → Bool
is_scope s None = false
is_scope s (Some t) = s == t

-- a variable directly in a scope has the name and the width of a port
abbrev pub stands_for : ℕ → Port → Variable → Bool
stands_for s p v = is_scope s v.scope && (bytes_eq (bare_name v.name) p.name && v.size == p.width)

-- the identifier of the first such variable
unfoldable pub id_in : ℕ → Port → List Variable → Option (List ℕ)
id_in s p [] = None
id_in s p (v ∷ vs) = if stands_for s p v then Some v.id else id_in s p vs

abbrev pub has_port : Declared → ℕ → Port → Bool
has_port d s p = list_any (stands_for s p) d.variables

abbrev pub has_inputs : Top → Declared → ℕ → Bool
has_inputs top d s = list_all (has_port d s) top.every

abbrev pub has_ports : Top → Declared → ℕ → Bool
has_ports top d s = has_inputs top d s && list_all (has_port d s) top.outputs

-- the first of so many scopes that passes a test
pub record IsFirst (test : ℕ → Bool) (count : ℕ) (s : ℕ) : Type 0 where
  pub inside : s < count
  pub passes : test s ≡ true
  pub earlier : (k : ℕ) → k < s → test k ≡ false

abbrev pub HasNone : (ℕ → Bool) → ℕ → Type 0
HasNone test count = (k : ℕ) → k < count → test k ≡ false

-- the first scope that has every input and every output; where none has, the first that has every input
pub data IsScope (top : Top) (d : Declared) (s : ℕ) : Type 0 where
  whole : IsFirst (has_ports top d) d.scopes s → IsScope top d s
  inputs_alone : HasNone (has_ports top d) d.scopes → IsFirst (has_inputs top d) d.scopes s → IsScope top d s
