-- What a map of names to bytes holds after an insert.
use Rattle.std.proofs.Common.{◌≡◌, List, ℕ, Some, refl, ap, Bool, true, false, ◌∙◌, cond}
use Rattle.std.specs.Prelude.{Vec, String, string_bytes, Option}
use Rattle.std.specs.declared.alloc.Global.{Global}
use Rattle.std.specs.Option.{option_map}
use Rattle.std.specs.Ordering.{nat_cmp}
use Rattle.std.specs.Cmp.Lexicographic.{slice_cmp}
use Rattle.std.specs.String.{string_cmp}
use Rattle.std.specs.Str.{bytes_eq}
use Rattle.std.specs.BTreeMap.{BTreeMap, get_by_text, UpdatesBy}
use Rattle.std.proofs.lemmas.Map.Text.{btree_map_updates_text}
use Rattle.rr_edge.specs.Held.{Held, put}

both : (b : Bool) (value : Vec ℕ Global) (o : Option (Vec ℕ Global)) → option_map (λ v. v.items) (cond b (Some value) o) ≡ cond b (Some value.items) (option_map (λ v. v.items) o)
both true value o = refl
both false value o = refl

-- the bytes under each name
abbrev pub contents : BTreeMap (String Global) (Vec ℕ Global) → Held
contents m name = option_map (λ bytes. bytes.items) (get_by_text m name)

pub contents-insert : (old new : BTreeMap (String Global) (Vec ℕ Global)) (key : String Global) (value : Vec ℕ Global) (name bytes : List ℕ)
    → string_bytes key ≡ name → value.items ≡ bytes
    → UpdatesBy string_cmp (λ k. slice_cmp nat_cmp (string_bytes key) (string_bytes k)) old new (Some value)
    → contents new ≡ put (contents old) name bytes
contents-insert old new key value name bytes key_is value_is updates =
    let at : (other : List ℕ) → contents new other ≡ put (contents old) name bytes other =
    λ other. ap (option_map (λ (v : Vec ℕ Global). v.items)) (btree_map_updates_text (string_bytes key) old new (Some value) updates other)
    ∙ both (bytes_eq (string_bytes key) other) value (get_by_text old other)
    ∙ ap (λ (k : List ℕ). cond (bytes_eq k other) (Some value.items) (contents old other)) key_is
    ∙ ap (λ (b : List ℕ). cond (bytes_eq name other) (Some b) (contents old other)) value_is in
    λ i other. at other i
