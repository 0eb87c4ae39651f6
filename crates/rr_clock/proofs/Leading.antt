-- Signals that lead to a top input: each leads to one at most.
use Rattle.std.proofs.Common.{◌≡◌, ◌∙◌, sym, ap, subst, ℕ, ◌+◌, ◌<◌, ◌≤◌, ◌⊎◌, inl, inr, Bool, true, false, cond, ◌&&◌, List, [], ◌∷◌, length, map, get_or, Option, None, Some, is_some, is_none, unwrap_or, refl, arith}
use Rattle.std.proofs.lemmas.Bool.{cases_lt}
use Rattle.std.proofs.lemmas.List.{get_or_past}
use Rattle.rr_syntax.specs.Tree.{Tree, Name, Literal, Bit as BitSelect, Part, Indexed, Unary, Binary, Cond, Concat, Repeat, Cast, Paren}
use Rattle.rr_expr.specs.declared.types.Entity.{Entity}
use Rattle.rr_expr.specs.declared.types.Entity.TheVariants.{Constant, Signal as SignalEntity, Memory, Instance}
use Rattle.rr_expr.specs.Scopes.{meant}
use Rattle.rr_flat.specs.declared.signal.Port.{Port}
use Rattle.rr_flat.specs.declared.signal.Port.TheVariants.{Inner, Input, Output}
use Rattle.rr_flat.specs.Signals.{Text, Signal, signal_at, no_signal}
use Rattle.rr_flat.specs.Clocks.{IsScalarInput, IsBareName, Connects, Leads, itself, through, NameLeads}
use Rattle.rr_flat.specs.Plain.{Side, Written, Whole, Flat}
use Rattle.rr_flat.specs.Writers.{scope_at, driver_at}
use Rattle.rr_clock.specs.Clock.{AreSources, told, source_named, bare_scalar, TellsLeads}
use Rattle.rr_text_names.specs.Names.{scalar_of, scalar_named, is_input}
use Rattle.rr_clock.specs.Spread.{AreFirstDrivers, bare_value, feeder}

pub some_same : (a b : ℕ) → Some a ≡ Some b → a ≡ b
some_same a b h = ap (λ o. unwrap_or o 0) h

pub scalar_is : (e : Entity) (id : ℕ) → scalar_of e ≡ Some id → (signed : Bool) × (e ≡ SignalEntity id None signed)
scalar_is (Constant bits signed) id h = cc
scalar_is (SignalEntity x None signed) id h = (signed, ap (λ z. SignalEntity z None signed) (some_same x id h))
scalar_is (SignalEntity x (Some r) signed) id h = cc
scalar_is (Memory first low words range signed) id h = cc
scalar_is Instance id h = cc

pub is_scalar_of : (e : Entity) (id : ℕ) (signed : Bool) → e ≡ SignalEntity id None signed → scalar_of e ≡ Some id
is_scalar_of e id signed h = rw h refl

pub bare_is : (flat : Flat) (side : Side) (id : ℕ) → bare_scalar flat side ≡ Some id → IsBareName flat side id
bare_is flat (Whole x) id h = cc
bare_is flat (Written (Name token name) i) id h = scalar_is (meant (scope_at flat i) name) id h
bare_is flat (Written (Literal token n) i) id h = cc
bare_is flat (Written (BitSelect token name t) i) id h = cc
bare_is flat (Written (Part token name l r) i) id h = cc
bare_is flat (Written (Indexed token name f n up) i) id h = cc
bare_is flat (Written (Unary op t) i) id h = cc
bare_is flat (Written (Binary op l r) i) id h = cc
bare_is flat (Written (Cond a b c) i) id h = cc
bare_is flat (Written (Concat ts) i) id h = cc
bare_is flat (Written (Repeat n ts) i) id h = cc
bare_is flat (Written (Cast signed t) i) id h = cc
bare_is flat (Written (Paren t) i) id h = cc

pub is_bare : (flat : Flat) (side : Side) (id : ℕ) → IsBareName flat side id → bare_scalar flat side ≡ Some id
is_bare flat (Whole x) id h = absurd h
is_bare flat (Written (Name token name) i) id h = is_scalar_of (meant (scope_at flat i) name) id h.0 h.1
is_bare flat (Written (Literal token n) i) id h = absurd h
is_bare flat (Written (BitSelect token name t) i) id h = absurd h
is_bare flat (Written (Part token name l r) i) id h = absurd h
is_bare flat (Written (Indexed token name f n up) i) id h = absurd h
is_bare flat (Written (Unary op t) i) id h = absurd h
is_bare flat (Written (Binary op l r) i) id h = absurd h
is_bare flat (Written (Cond a b c) i) id h = absurd h
is_bare flat (Written (Concat ts) i) id h = absurd h
is_bare flat (Written (Repeat n ts) i) id h = absurd h
is_bare flat (Written (Cast signed t) i) id h = absurd h
is_bare flat (Written (Paren t) i) id h = absurd h

-- one driver, and one name, connects a port

pub same_number : (a b : ℕ) → (a < b → ⊥) → (b < a → ⊥) → a ≡ b
same_number a b nay none = go (cases_lt a b) (cases_lt b a)
  where
    go : (a < b) ⊎ (b ≤ a) → (b < a) ⊎ (a ≤ b) → a ≡ b
    go (inl h) k = absurd (nay h)
    go (inr h) (inl k) = absurd (none k)
    go (inr h) (inr k) = omega (arith, h, k)

pub same_driver : (flat : Flat) (k j port id other : ℕ) → Connects flat k port id → Connects flat j port other → k ≡ j
same_driver flat k j port id other a b = same_number k j (λ h. b.first k h a.target) (λ h. a.first j h b.target)

pub same_name : (flat : Flat) (k j port id other : ℕ) → Connects flat k port id → Connects flat j port other → id ≡ other
same_name flat k j port id other a b =
    let h : bare_scalar flat (driver_at flat k).value ≡ bare_scalar flat (driver_at flat j).value = ap (λ z. bare_scalar flat (driver_at flat z).value) (same_driver flat k j port id other a b) in
    some_same id other (sym (is_bare flat (driver_at flat k).value id a.bare) ∙ (h ∙ is_bare flat (driver_at flat j).value other b.bare))

-- how a signal leads

pub record Step (flat : Flat) (clock x : ℕ) : Type 0 where
  pub driver : ℕ
  pub id : ℕ
  pub inner : IsScalarInput flat x → ⊥
  pub connects : Connects flat driver x id
  pub leads : Leads flat clock id

pub leads_cases : (flat : Flat) (clock : ℕ) {x : ℕ} → Leads flat clock x → (x ≡ clock) ⊎ Step flat clock x
leads_cases flat clock itself = inl refl
leads_cases flat clock (through {port} {id} k nay connects l) = inr (record { driver = k; id = id; inner = nay; connects = connects; leads = l })

pub one_source : (flat : Flat) (c d : ℕ) → IsScalarInput flat c → IsScalarInput flat d → {x : ℕ} → Leads flat c x → Leads flat d x → c ≡ d
one_source flat c d hc hd itself m = go (leads_cases flat d m)
  where
    go : (c ≡ d) ⊎ Step flat d c → c ≡ d
    go (inl e) = e
    go (inr s) = absurd (s.inner hc)
one_source flat c d hc hd (through {port} {id} k nay connects l) m = go (leads_cases flat d m) (λ n. one_source flat c d hc hd l n)
  where
    go : (port ≡ d) ⊎ Step flat d port → (Leads flat d id → c ≡ d) → c ≡ d
    go (inl e) rec = absurd (nay (subst (IsScalarInput flat) (sym e) hd))
    go (inr s) rec = rec (subst (Leads flat d) (sym (same_name flat k s.driver port id s.id connects s.connects)) s.leads)

-- the feeder of a port

pub input_is : (p : Port) → is_input p ≡ true → p ≡ Input
input_is Inner h = cc
input_is Input h = refl
input_is Output h = cc

pub none_is : {X : Type 0} (o : Option X) → is_none o ≡ true → o ≡ None
none_is None h = refl
none_is (Some x) h = cc

pub feeder_connects : (flat : Flat) (first : ℕ → Option ℕ) (port id : ℕ) → AreFirstDrivers flat first → feeder flat first port ≡ Some id
    → (k : ℕ) × Connects flat k port id
feeder_connects flat first port id f h = go (is_input (signal_at flat.signals port).port) refl (is_none (signal_at flat.signals port).range) refl (first port) refl h
  where
    go : (a : Bool) → is_input (signal_at flat.signals port).port ≡ a → (b : Bool) → is_none (signal_at flat.signals port).range ≡ b → (o : Option ℕ) → first port ≡ o
        → cond (a && b) (bare_value flat o) None ≡ Some id → (k : ℕ) × Connects flat k port id
    go true p true q (Some k) e h = (
      k,
      record {
        inside = f.inside port k e;
        target = f.target port k e;
        first = f.first port k e;
        input = input_is (signal_at flat.signals port).port p;
        scalar = none_is (signal_at flat.signals port).range q;
        bare = bare_is flat (driver_at flat k).value id h;
      },
    )
    go true p true q None e h = cc
    go true p false q o e h = cc
    go false p b q o e h = cc

pub there : (signals : List Signal) (port : ℕ) → (signal_at signals port).port ≡ Input → port < length signals
there signals port h = go (cases_lt port (length signals))
  where
    go : (port < length signals) ⊎ (length signals ≤ port) → port < length signals
    go (inl l) = l
    go (inr l) = let e : Inner ≡ Input = sym (ap (λ s. s.port) (get_or_past signals port no_signal l)) ∙ h in cc

pub connects_feeder : (flat : Flat) (first : ℕ → Option ℕ) (k port id : ℕ) → AreFirstDrivers flat first → Connects flat k port id → feeder flat first port ≡ Some id
connects_feeder flat first k port id f c = go (first port) refl
  where
    go : (o : Option ℕ) → first port ≡ o → feeder flat first port ≡ Some id
    go None e = absurd (f.none port (there flat.signals port c.input) e k c.inside c.target)
    go (Some j) e =
        let same : j ≡ k = same_number j k (λ h. c.first j h (f.target port j e)) (λ h. f.first port j e k h c.target) in
        rw (c.input, c.scalar, e, same) (is_bare flat (driver_at flat k).value id c.bare)

-- names, by the table of sources

pub source_leads : (flat : Flat) (table : ℕ → Option ℕ) (i clock : ℕ) (name : Text) → AreSources flat table → source_named flat table i name ≡ Some clock
    → IsScalarInput flat clock × NameLeads flat clock i name
source_leads flat table i clock name t h = go (scalar_named flat i name) refl h
  where
    go : (o : Option ℕ) → scalar_named flat i name ≡ o → told table o ≡ Some clock → IsScalarInput flat clock × NameLeads flat clock i name
    go None e h = cc
    go (Some id) e h = let s = scalar_is (meant (scope_at flat i) name) id e in (t.input id clock h, (id, (s.0, (s.1, t.leads id clock h))))

pub leads_source : (flat : Flat) (table : ℕ → Option ℕ) (i clock : ℕ) (name : Text) → AreSources flat table → IsScalarInput flat clock → NameLeads flat clock i name
    → source_named flat table i name ≡ Some clock
leads_source flat table i clock name t hc l =
    ap (told table) (is_scalar_of (meant (scope_at flat i) name) l.0 l.1.0 l.1.1.0) ∙ t.all l.0 clock hc l.1.1.1
