-- What is listed and tested of declarations is what a module declares.
use Rattle.std.proofs.Common.{◌≡◌, ◌⊎◌, inl, inr, Bool, true, false, not, List, [], ◌∷◌, ◌++◌, length, map, flat_map, nat_eq, Option, Some, None, Contains, refl, sym, subst, ap, ◌∙◌, arith}
use Rattle.std.specs.List.{list_any}
use Rattle.std.specs.Str.{bytes_eq}
use Rattle.std.proofs.lemmas.Bool.{and_parts, and_from, or_cases, or_left, or_right, both_ways, not-true, not_from_false, false_from_ne_true, eqb-true, eq-eqb}
use Rattle.std.proofs.lemmas.List.Elements.{Contains-append_left, Contains-append_right, Contains-append_cases}
use Rattle.std.proofs.lemmas.Slice.Eq.{bytes_eq-Decides}
use Rattle.rr_syntax.specs.declared.tree.Dir.{Dir}
use Rattle.rr_syntax.specs.declared.tree.Dir.TheVariants as dir
use Rattle.rr_syntax.specs.Tree.{Identifier, Range, PortDeclaration, ModuleItem, Ports, Nets, Variables, Integers, Parameters, Assigns, Always, Initial, Instances, ModuleDeclaration}
use Rattle.rr_flat.specs.Reads.{names_in}
use Rattle.rr_flat.specs.Signals.{Text}
use Rattle.rr_guard.specs.Names.{scalars_if, net_name, wordless_name, port_scalars, item_scalars, scalars}
use Rattle.rr_overwrite.specs.Overwrites.{Target, is_open, is_in, port_opens, item_opens, is_reg, port_sets, item_sets, is_variable, may_overwrite}
use Rattle.rr_sites_complete.specs.Declarations.{Sort, AsPort, AsNet, AsVariable, AsInteger, PortDeclares, ItemDeclares, Declares, IsScalar, IsVariable, HasNoNames, IsPlain}
use Rattle.rr_sites_complete.proofs.Lists.{head_in, tail_in, none_in, cases_in, flat_in, flat_from}

-- Tests of lists

pub any_from : {X : Type 0} (t : X → Bool) (xs : List X) → list_any t xs ≡ true → (x : X) × Contains xs x × (t x ≡ true)
any_from t [] h = absurd (both_ways false refl h)
any_from t (x ∷ xs) h = elim (or_cases (t x) (list_any t xs) h) [
  | inl e ↦ (x, head_in x xs, e)
  | inr e ↦ let r = any_from t xs e in (r.0, tail_in x xs r.0 r.1, r.2)
]

pub any_in : {X : Type 0} (t : X → Bool) (xs : List X) (x : X) → Contains xs x → t x ≡ true → list_any t xs ≡ true
any_in t [] x c h = absurd (none_in x c)
any_in t (y ∷ ys) x c h = elim (cases_in y ys x c) [
  | inl e ↦ or_left (t y) (list_any t ys) (subst (λ z. t z ≡ true) (sym e) h)
  | inr d ↦ or_right (t y) (list_any t ys) (any_in t ys x d h)
]

pub named_from : (name : Text) (list : List Identifier) → is_in name list ≡ true → (x : Identifier) × Contains list x × (x.text ≡ name)
named_from name list h = let r = any_from (λ (x : Identifier). bytes_eq name x.text) list h in (r.0, r.1, sym ((bytes_eq-Decides name r.0.text).0 r.2))

pub named_in : (name : Text) (list : List Identifier) (x : Identifier) → Contains list x → x.text ≡ name → is_in name list ≡ true
named_in name list x c e = any_in (λ (x : Identifier). bytes_eq name x.text) list x c ((bytes_eq-Decides name x.text).1 (sym e))

-- Scalars

no_port : (d : Dir) → AsPort d ≡ AsInteger → ⊥
no_port d h = cc

if_from : (r : Option Range) (names : List Identifier) (x : Identifier) → Contains (scalars_if r names) x → (None ≡ r) × Contains names x
if_from None names x c = (refl, c)
if_from (Some r) names x c = absurd (none_in x c)

if_in : (r : Option Range) (names : List Identifier) (x : Identifier) → None ≡ r → Contains names x → Contains (scalars_if r names) x
if_in r names x e c = subst (λ o. Contains (scalars_if o names) x) e c

item_from : (i : ModuleItem) (x : Identifier) → Contains (item_scalars i) x → (sort : Sort) × ItemDeclares i x None sort × (sort ≡ AsInteger → ⊥)
unfolding item_scalars
item_from (Ports p) x c = let r = if_from p.range (map net_name p.names) x c in (AsPort p.dir, (r.1, r.0, refl), no_port p.dir)
item_from (Nets signed range list) x c = let r = if_from range (map net_name list) x c in (AsNet, (r.1, r.0, refl), λ h. cc)
item_from (Variables signed range list) x c = let r = if_from range (flat_map wordless_name list) x c in (AsVariable, (r.1, r.0, refl), λ h. cc)
item_from (Integers list) x c = absurd (none_in x c)
item_from (Parameters p) x c = absurd (none_in x c)
item_from (Assigns pairs) x c = absurd (none_in x c)
item_from (Always events body token) x c = absurd (none_in x c)
item_from (Initial body token) x c = absurd (none_in x c)
item_from (Instances m token over list) x c = absurd (none_in x c)

item_in : (i : ModuleItem) (x : Identifier) (sort : Sort) → ItemDeclares i x None sort → (sort ≡ AsInteger → ⊥) → Contains (item_scalars i) x
unfolding item_scalars
item_in (Ports p) x sort h n = if_in p.range (map net_name p.names) x h.1 h.0
item_in (Nets signed range list) x sort h n = if_in range (map net_name list) x h.1 h.0
item_in (Variables signed range list) x sort h n = if_in range (flat_map wordless_name list) x h.1 h.0
item_in (Integers list) x sort h n = absurd (n h.2)
item_in (Parameters p) x sort h n = absurd h
item_in (Assigns pairs) x sort h n = absurd h
item_in (Always events body token) x sort h n = absurd h
item_in (Initial body token) x sort h n = absurd h
item_in (Instances m token over list) x sort h n = absurd h

pub scalars_from : (m : ModuleDeclaration) (x : Identifier) → Contains (scalars m) x → IsScalar m x
unfolding scalars
scalars_from m x c = elim (Contains-append_cases (flat_map port_scalars m.groups) (flat_map item_scalars m.items) x c) [
  | inl d ↦ let r = flat_from port_scalars m.groups x d in let q = if_from r.0.range (map net_name r.0.names) x r.2 in (record { sort = AsPort r.0.dir; declared = inl (r.0, r.1, (q.1, q.0, refl)); no_integer = no_port r.0.dir })
  | inr d ↦ let r = flat_from item_scalars m.items x d in let q = item_from r.0 x r.2 in (record { sort = q.0; declared = inr (r.0, r.1, q.1); no_integer = q.2 })
]

declared_in : (m : ModuleDeclaration) (x : Identifier) (sort : Sort) → Declares m x None sort → (sort ≡ AsInteger → ⊥) → Contains (scalars m) x
unfolding scalars
declared_in m x sort (inl (p, c, h)) n =
    Contains-append_left (flat_map port_scalars m.groups) (flat_map item_scalars m.items) x (flat_in port_scalars m.groups p x c (if_in p.range (map net_name p.names) x h.1 h.0))
declared_in m x sort (inr (i, c, h)) n =
    Contains-append_right (flat_map port_scalars m.groups) (flat_map item_scalars m.items) x (flat_in item_scalars m.items i x c (item_in i x sort h n))

pub scalars_in : (m : ModuleDeclaration) (x : Identifier) → IsScalar m x → Contains (scalars m) x
scalars_in m x h = declared_in m x h.sort h.declared h.no_integer

-- Variables

reg_from : (d : Dir) → is_reg d ≡ true → d ≡ dir.OutputReg
reg_from dir.Input h = absurd (both_ways false refl h)
reg_from dir.InputWire h = absurd (both_ways false refl h)
reg_from dir.Output h = absurd (both_ways false refl h)
reg_from dir.OutputWire h = absurd (both_ways false refl h)
reg_from dir.OutputReg h = refl

sort_dir : (a b : Dir) → AsPort a ≡ AsPort b → a ≡ b
sort_dir a b h = cc

abbrev IsByReg : Sort → Type 0
IsByReg sort = (sort ≡ AsPort dir.OutputReg) ⊎ (sort ≡ AsVariable)

port_reg : (d : Dir) (sort : Sort) → sort ≡ AsPort d → IsByReg sort → is_reg d ≡ true
port_reg d sort e (inl h) = subst (λ x. is_reg x ≡ true) (sort_dir dir.OutputReg d (sym h ∙ e)) refl
port_reg d sort e (inr h) = let no : AsPort d ≡ AsVariable = sym e ∙ h in absurd cc

port_sets_from : (name : Text) (p : PortDeclaration) → port_sets name p ≡ true → (x : Identifier) × PortDeclares p x p.range (AsPort p.dir) × (x.text ≡ name) × IsByReg (AsPort p.dir)
port_sets_from name p h =
    let r = and_parts (is_reg p.dir) (is_in name (map net_name p.names)) h in let q = named_from name (map net_name p.names) r.1 in (q.0, (q.1, refl, refl), q.2, inl (ap AsPort (reg_from p.dir r.0)))

item_sets_from : (name : Text) (i : ModuleItem) → item_sets name i ≡ true → (x : Identifier) × (range : Option Range) × (sort : Sort) × ItemDeclares i x range sort × (x.text ≡ name) × IsByReg sort
unfolding item_sets
item_sets_from name (Ports p) h = let r = port_sets_from name p h in (r.0, p.range, AsPort p.dir, r.1, r.2, r.3)
item_sets_from name (Nets signed range list) h = absurd (both_ways false refl h)
item_sets_from name (Variables signed range list) h = let q = named_from name (flat_map wordless_name list) h in (q.0, range, AsVariable, (q.1, refl, refl), q.2, inr refl)
item_sets_from name (Integers list) h = absurd (both_ways false refl h)
item_sets_from name (Parameters p) h = absurd (both_ways false refl h)
item_sets_from name (Assigns pairs) h = absurd (both_ways false refl h)
item_sets_from name (Always events body token) h = absurd (both_ways false refl h)
item_sets_from name (Initial body token) h = absurd (both_ways false refl h)
item_sets_from name (Instances m token over list) h = absurd (both_ways false refl h)

pub variable_from : (m : ModuleDeclaration) (name : Text) → is_variable m name ≡ true → IsVariable m name
variable_from m name h = elim (or_cases (list_any (port_sets name) m.groups) (list_any (item_sets name) m.items) h) [
  | inl e ↦ let r = any_from (port_sets name) m.groups e in let q = port_sets_from name r.0 r.2 in (record { declaration = q.0; range = r.0.range; sort = AsPort r.0.dir; declared = inl (r.0, r.1, q.1); named = q.2; by_reg = q.3 })
  | inr e ↦ let r = any_from (item_sets name) m.items e in let q = item_sets_from name r.0 r.2 in (record { declaration = q.0; range = q.1; sort = q.2; declared = inr (r.0, r.1, q.3); named = q.4; by_reg = q.5 })
]

port_sets_in : (name : Text) (p : PortDeclaration) (x : Identifier) (range : Option Range) (sort : Sort) → PortDeclares p x range sort → x.text ≡ name → IsByReg sort → port_sets name p ≡ true
port_sets_in name p x range sort h e r = and_from (is_reg p.dir) (is_in name (map net_name p.names)) (port_reg p.dir sort h.2 r) (named_in name (map net_name p.names) x h.0 e)

item_sets_in : (name : Text) (i : ModuleItem) (x : Identifier) (range : Option Range) (sort : Sort) → ItemDeclares i x range sort → x.text ≡ name → IsByReg sort → item_sets name i ≡ true
unfolding item_sets
item_sets_in name (Ports p) x range sort h e r = port_sets_in name p x range sort h e r
item_sets_in name (Nets signed o list) x range sort h e (inl r) = let no : AsNet ≡ AsPort dir.OutputReg = sym h.2 ∙ r in absurd cc
item_sets_in name (Nets signed o list) x range sort h e (inr r) = let no : AsNet ≡ AsVariable = sym h.2 ∙ r in absurd cc
item_sets_in name (Variables signed o list) x range sort h e r = named_in name (flat_map wordless_name list) x h.0 e
item_sets_in name (Integers list) x range sort h e (inl r) = let no : AsInteger ≡ AsPort dir.OutputReg = sym h.2 ∙ r in absurd cc
item_sets_in name (Integers list) x range sort h e (inr r) = let no : AsInteger ≡ AsVariable = sym h.2 ∙ r in absurd cc
item_sets_in name (Parameters p) x range sort h e r = absurd h
item_sets_in name (Assigns pairs) x range sort h e r = absurd h
item_sets_in name (Always events body token) x range sort h e r = absurd h
item_sets_in name (Initial body token) x range sort h e r = absurd h
item_sets_in name (Instances m token over list) x range sort h e r = absurd h

pub variable_in : (m : ModuleDeclaration) (name : Text) → IsVariable m name → is_variable m name ≡ true
variable_in m name v = by v.declared
  where
    by : Declares m v.declaration v.range v.sort → is_variable m name ≡ true
    by (inl (p, c, h)) = or_left (list_any (port_sets name) m.groups) (list_any (item_sets name) m.items) (any_in (port_sets name) m.groups p c (port_sets_in name p v.declaration v.range v.sort h v.named v.by_reg))
    by (inr (i, c, h)) = or_right (list_any (port_sets name) m.groups) (list_any (item_sets name) m.items) (any_in (item_sets name) m.items i c (item_sets_in name i v.declaration v.range v.sort h v.named v.by_reg))

-- Ranges in which no name stands

no_length : {X : Type 0} (xs ys : List X) → length (xs ++ ys) ≡ 0 → (xs ≡ []) × (ys ≡ [])
no_length [] [] h = (refl, refl)
no_length [] (y ∷ ys) h = absurd (omega (arith, h))
no_length (x ∷ xs) ys h = absurd (omega (arith, h))

open_none : (r : Option Range) → (is_open r ≡ true → ⊥) → HasNoNames r
open_none None h = tt
open_none (Some r) h = by (nat_eq (length (names_in r.left ++ names_in r.right)) 0) refl
  where
    by : (b : Bool) → nat_eq (length (names_in r.left ++ names_in r.right)) 0 ≡ b → HasNoNames (Some r)
    by true e = no_length (names_in r.left) (names_in r.right) (eqb-true (length (names_in r.left ++ names_in r.right)) 0 e)
    by false e = absurd (h (not_from_false (nat_eq (length (names_in r.left ++ names_in r.right)) 0) e))

none_open : (r : Option Range) → HasNoNames r → is_open r ≡ true → ⊥
none_open None h e = both_ways false refl e
none_open (Some r) h e =
    let z : names_in r.left ++ names_in r.right ≡ [] = ap (λ xs. xs ++ names_in r.right) h.0 ∙ h.1 in
    both_ways (nat_eq (length (names_in r.left ++ names_in r.right)) 0) (not-true (nat_eq (length (names_in r.left ++ names_in r.right)) 0) e) (eq-eqb (length (names_in r.left ++ names_in r.right)) 0 (ap length z))

abbrev NoneOpens : ModuleDeclaration → Text → Type 0
NoneOpens m name = (list_any (port_opens name) m.groups ≡ true → ⊥) × (list_any (item_opens name) m.items ≡ true → ⊥)

port_plain : (name : Text) (p : PortDeclaration) (x : Identifier) (range : Option Range) (sort : Sort) → (port_opens name p ≡ true → ⊥) → PortDeclares p x range sort → x.text ≡ name → (sort ≡ AsInteger → ⊥) × HasNoNames range
port_plain name p x range sort n h e = (
  λ s. no_port p.dir (sym h.2 ∙ s),
  subst HasNoNames (sym h.1) (open_none p.range (λ o. n (and_from (is_open p.range) (is_in name (map net_name p.names)) o (named_in name (map net_name p.names) x h.0 e)))),
)

item_plain : (name : Text) (i : ModuleItem) (x : Identifier) (range : Option Range) (sort : Sort) → (item_opens name i ≡ true → ⊥) → ItemDeclares i x range sort → x.text ≡ name → (sort ≡ AsInteger → ⊥) × HasNoNames range
unfolding item_opens
item_plain name (Ports p) x range sort n h e = port_plain name p x range sort n h e
item_plain name (Nets signed o list) x range sort n h e = (
  λ s. let no : AsNet ≡ AsInteger = sym h.2 ∙ s in cc,
  subst HasNoNames (sym h.1) (open_none o (λ q. n (and_from (is_open o) (is_in name (map net_name list)) q (named_in name (map net_name list) x h.0 e)))),
)
item_plain name (Variables signed o list) x range sort n h e = (
  λ s. let no : AsVariable ≡ AsInteger = sym h.2 ∙ s in cc,
  subst HasNoNames (sym h.1) (open_none o (λ q. n (and_from (is_open o) (is_in name (flat_map wordless_name list)) q (named_in name (flat_map wordless_name list) x h.0 e)))),
)
item_plain name (Integers list) x range sort n h e = absurd (n (named_in name list x h.0 e))
item_plain name (Parameters p) x range sort n h e = absurd h
item_plain name (Assigns pairs) x range sort n h e = absurd h
item_plain name (Always events body token) x range sort n h e = absurd h
item_plain name (Initial body token) x range sort n h e = absurd h
item_plain name (Instances m token over list) x range sort n h e = absurd h

plain_from : (m : ModuleDeclaration) (name : Text) → NoneOpens m name → IsPlain m name
plain_from m name n x range sort (inl (p, c, h)) e = port_plain name p x range sort (λ q. n.0 (any_in (port_opens name) m.groups p c q)) h e
plain_from m name n x range sort (inr (i, c, h)) e = item_plain name i x range sort (λ q. n.1 (any_in (item_opens name) m.items i c q)) h e

port_opens_not : (m : ModuleDeclaration) (name : Text) → IsPlain m name → (p : PortDeclaration) → ((x : Identifier) → PortDeclares p x p.range (AsPort p.dir) → Declares m x p.range (AsPort p.dir)) → port_opens name p ≡ true → ⊥
port_opens_not m name h p d e =
    let r = and_parts (is_open p.range) (is_in name (map net_name p.names)) e in
    let q = named_from name (map net_name p.names) r.1 in
    none_open p.range (h q.0 p.range (AsPort p.dir) (d q.0 (q.1, refl, refl)) q.2).1 r.0

item_opens_not : (m : ModuleDeclaration) (name : Text) → IsPlain m name → (i : ModuleItem) → Contains m.items i → item_opens name i ≡ true → ⊥
unfolding item_opens
item_opens_not m name h (Ports p) c e = port_opens_not m name h p (λ x d. inr (Ports p, c, d)) e
item_opens_not m name h (Nets signed range list) c e =
    let r = and_parts (is_open range) (is_in name (map net_name list)) e in
    let q = named_from name (map net_name list) r.1 in
    none_open range (h q.0 range AsNet (inr (Nets signed range list, c, (q.1, refl, refl))) q.2).1 r.0
item_opens_not m name h (Variables signed range list) c e =
    let r = and_parts (is_open range) (is_in name (flat_map wordless_name list)) e in
    let q = named_from name (flat_map wordless_name list) r.1 in
    none_open range (h q.0 range AsVariable (inr (Variables signed range list, c, (q.1, refl, refl))) q.2).1 r.0
item_opens_not m name h (Integers list) c e = let q = named_from name list e in (h q.0 None AsInteger (inr (Integers list, c, (q.1, refl, refl))) q.2).0 refl
item_opens_not m name h (Parameters p) c e = both_ways false refl e
item_opens_not m name h (Assigns pairs) c e = both_ways false refl e
item_opens_not m name h (Always events body token) c e = both_ways false refl e
item_opens_not m name h (Initial body token) c e = both_ways false refl e
item_opens_not m name h (Instances k token over list) c e = both_ways false refl e

plain_in : (m : ModuleDeclaration) (name : Text) → IsPlain m name → NoneOpens m name
plain_in m name h = (
  λ e. let r = any_from (port_opens name) m.groups e in port_opens_not m name h r.0 (λ x d. inl (r.0, r.1, d)) r.2,
  λ e. let r = any_from (item_opens name) m.items e in item_opens_not m name h r.0 r.1 r.2,
)

-- What a last assignment may write

pub may_from : (m : ModuleDeclaration) (t : Target) → may_overwrite m t ≡ true → IsVariable m t.text × IsPlain m t.text
may_from m t h =
    let a = and_parts (is_variable m t.text) _ h in
    let b = and_parts (not (list_any (port_opens t.text) m.groups)) (not (list_any (item_opens t.text) m.items)) a.1 in (
      variable_from m t.text a.0,
      plain_from m t.text (
        λ e. both_ways (list_any (port_opens t.text) m.groups) (not-true (list_any (port_opens t.text) m.groups) b.0) e,
        λ e. both_ways (list_any (item_opens t.text) m.items) (not-true (list_any (item_opens t.text) m.items) b.1) e,
      ),
    )

pub may_in : (m : ModuleDeclaration) (t : Target) → IsVariable m t.text → IsPlain m t.text → may_overwrite m t ≡ true
may_in m t v h =
    let n = plain_in m t.text h in
    let a = not_from_false (list_any (port_opens t.text) m.groups) (false_from_ne_true (list_any (port_opens t.text) m.groups) n.0) in
    let b = not_from_false (list_any (item_opens t.text) m.items) (false_from_ne_true (list_any (item_opens t.text) m.items) n.1) in
    and_from (is_variable m t.text) _ (variable_in m t.text v) (and_from (not (list_any (port_opens t.text) m.groups)) (not (list_any (item_opens t.text) m.items)) a b)
