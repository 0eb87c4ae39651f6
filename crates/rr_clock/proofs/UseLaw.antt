-- No name uses the clock as data exactly where none is found.
use Rattle.std.proofs.Common.{◌≡◌, ◌∙◌, sym, ap, ℕ, ◌<◌, ◌⊎◌, inl, inr, Bool, true, false, cond, ◌&&◌, List, [], ◌∷◌, ◌++◌, length, Option, None, Some, is_some, is_none, refl}
use Rattle.std.specs.Prelude.{flat_map, All, IfNone, IfSome}
use Rattle.std.proofs.lemmas.Bool.{and_parts}
use Rattle.rr_syntax.specs.Tree.{Identifier, Null}
use Rattle.rr_expr.specs.Scopes.{meant}
use Rattle.rr_flat.specs.Signals.{Text, signal_at}
use Rattle.rr_flat.specs.declared.design.Part as design
use Rattle.rr_flat.specs.declared.design.Part.TheVariants as part
use Rattle.rr_flat.specs.Clocks.{NameLeads, IsBareName}
use Rattle.rr_flat.specs.Lawful.{NoClockIn, SideWithout, HandsOn, DriverWithout, ClockUnread}
use Rattle.rr_flat.specs.Plain.{Side, Written, Whole, Driver, Block, Flat}
use Rattle.rr_flat.specs.Reads.{names_in, names_of}
use Rattle.rr_flat.specs.Writers.{scope_at, driver_at, block_at, no_driver, no_block}
use Rattle.rr_clock.specs.Clock.{FirstUse, TellsLeads, has, use_of, uses, side_uses, bare_scalar, is_scalar_port, hands_on, uses_of_driver, uses_of_block, uses_of_part, all_uses}
use Rattle.rr_text_names.specs.Names.{scalar_named, is_input}
use Rattle.rr_text_names.proofs.Covering.{HasWalk, NoneAt, none_at, at_none, all_of_empty, empty_of_all}
use Rattle.rr_clock.proofs.Leading.{scalar_is, is_scalar_of, bare_is, is_bare, input_is, none_is}
use Rattle.rr_text_names.specs.Firsts.{earliest}
use Rattle.rr_text_names.proofs.Walks.{left_empty, right_empty, first_none, first_some}

pub has_leads : (flat : Flat) (clock : ℕ) (set : ℕ → Bool) (i : ℕ) (name : Text) → TellsLeads flat clock set → has set (scalar_named flat i name) ≡ true → NameLeads flat clock i name
has_leads flat clock set i name t h = go (scalar_named flat i name) refl h
  where
    go : (o : Option ℕ) → scalar_named flat i name ≡ o → has set o ≡ true → NameLeads flat clock i name
    go None e k = cc
    go (Some id) e k = let s = scalar_is (meant (scope_at flat i) name) id e in (id, (s.0, (s.1, t.sound id k)))

pub leads_has : (flat : Flat) (clock : ℕ) (set : ℕ → Bool) (i : ℕ) (name : Text) → TellsLeads flat clock set → NameLeads flat clock i name → has set (scalar_named flat i name) ≡ true
leads_has flat clock set i name t l = ap (has set) (is_scalar_of (meant (scope_at flat i) name) l.0 l.1.0 l.1.1.0) ∙ t.all l.0 l.1.1.1

unused : (flat : Flat) (clock : ℕ) (set : ℕ → Bool) (i : ℕ) (n : Identifier) → TellsLeads flat clock set → use_of flat set i n ≡ [] → NameLeads flat clock i n.text → ⊥
unused flat clock set i n t h l = let bad : (n.token ∷ []) ≡ [] = rw (leads_has flat clock set i n.text t l) at h in cc

no_use : (flat : Flat) (clock : ℕ) (set : ℕ → Bool) (i : ℕ) (n : Identifier) → TellsLeads flat clock set → (NameLeads flat clock i n.text → ⊥) → use_of flat set i n ≡ []
no_use flat clock set i n t nay = go (has set (scalar_named flat i n.text)) refl
  where
    go : (b : Bool) → has set (scalar_named flat i n.text) ≡ b → cond b (n.token ∷ []) [] ≡ []
    go true e = absurd (nay (has_leads flat clock set i n.text t e))
    go false e = refl

names_unused : (flat : Flat) (clock : ℕ) (set : ℕ → Bool) (i : ℕ) (names : List Identifier) → TellsLeads flat clock set → uses flat set i names ≡ [] → NoClockIn flat clock i names
names_unused flat clock set i names t h = all_of_empty (λ n. NameLeads flat clock i n.text → ⊥) (use_of flat set i) (λ n. unused flat clock set i n t) names h

unused_names : (flat : Flat) (clock : ℕ) (set : ℕ → Bool) (i : ℕ) (names : List Identifier) → TellsLeads flat clock set → NoClockIn flat clock i names → uses flat set i names ≡ []
unused_names flat clock set i names t h = empty_of_all (λ n. NameLeads flat clock i n.text → ⊥) (use_of flat set i) (λ n. no_use flat clock set i n t) names h

side_without : (flat : Flat) (clock : ℕ) (set : ℕ → Bool) (side : Side) → TellsLeads flat clock set → side_uses flat set side ≡ [] → SideWithout flat clock side
side_without flat clock set (Whole id) t h = tt
side_without flat clock set (Written tree i) t h = names_unused flat clock set i (names_in tree) t h

without_side : (flat : Flat) (clock : ℕ) (set : ℕ → Bool) (side : Side) → TellsLeads flat clock set → SideWithout flat clock side → side_uses flat set side ≡ []
without_side flat clock set (Whole id) t h = refl
without_side flat clock set (Written tree i) t h = unused_names flat clock set i (names_in tree) t h

-- connections that hand the clock on

is_there : (o : Option ℕ) → is_some o ≡ true → (id : ℕ) × (o ≡ Some id)
is_there None h = cc
is_there (Some id) h = (id, refl)

hands : (flat : Flat) (target value : Side) (token : ℕ) → (is_scalar_port flat target && is_some (bare_scalar flat value)) ≡ true → HandsOn flat (record { target = target; value = value; token = token })
hands flat (Written t i) value token h = cc
hands flat (Whole port) value token h =
    let p = and_parts (is_input (signal_at flat.signals port).port && is_none (signal_at flat.signals port).range) (is_some (bare_scalar flat value)) h in
    let q = and_parts (is_input (signal_at flat.signals port).port) (is_none (signal_at flat.signals port).range) p.0 in
    let s = is_there (bare_scalar flat value) p.1 in
    (port, s.0, (refl, input_is (signal_at flat.signals port).port q.0, none_is (signal_at flat.signals port).range q.1, bare_is flat value s.0 s.1))

handed : (flat : Flat) (d : Driver) → HandsOn flat d → hands_on flat d ≡ true
handed flat d h = rw (h.2.0, h.2.1, h.2.2, is_bare flat d.value h.1 h.2.3) refl

driver_without : (flat : Flat) (clock : ℕ) (set : ℕ → Bool) (d : Driver) → TellsLeads flat clock set → uses_of_driver flat set d ≡ [] → DriverWithout flat clock d
driver_without flat clock set d t h = (side_without flat clock set d.target t (left_empty (side_uses flat set d.target) rest h), go (hands_on flat d) refl (right_empty (side_uses flat set d.target) rest h))
  where
    rest : List ℕ
    rest = cond (hands_on flat d) [] (side_uses flat set d.value)

    go : (b : Bool) → hands_on flat d ≡ b → cond b [] (side_uses flat set d.value) ≡ [] → HandsOn flat d ⊎ SideWithout flat clock d.value
    go true e k = inl (hands flat d.target d.value d.token e)
    go false e k = inr (side_without flat clock set d.value t k)

without_driver : (flat : Flat) (clock : ℕ) (set : ℕ → Bool) (d : Driver) → TellsLeads flat clock set → DriverWithout flat clock d → uses_of_driver flat set d ≡ []
without_driver flat clock set d t h = rw (without_side flat clock set d.target t h.0) (go h.1)
  where
    by : (b : Bool) → side_uses flat set d.value ≡ [] → cond b [] (side_uses flat set d.value) ≡ []
    by true e = refl
    by false e = e

    go : HandsOn flat d ⊎ SideWithout flat clock d.value → cond (hands_on flat d) [] (side_uses flat set d.value) ≡ []
    go (inl on) = rw (handed flat d on) refl
    go (inr s) = by (hands_on flat d) (without_side flat clock set d.value t s)

nothing_driven : (flat : Flat) (set : ℕ → Bool) → uses_of_driver flat set no_driver ≡ []
nothing_driven flat set = go (hands_on flat no_driver) [] refl
  where
    go : (b : Bool) (xs : List ℕ) → xs ≡ [] → cond b [] xs ≡ []
    go true xs e = refl
    go false xs e = e

nothing_named : (flat : Flat) (set : ℕ → Bool) → uses_of_block flat set no_block ≡ []
unfolding names_of
nothing_named flat set = refl

pub unread : (flat : Flat) (clock : ℕ) (set : ℕ → Bool) → TellsLeads flat clock set → HasWalk flat → all_uses flat set ≡ [] → ClockUnread flat clock
unread flat clock set t w h =
    let n = none_at flat (uses_of_part flat set) w h in
    record {
      drivers = λ k l. driver_without flat clock set (driver_at flat k) t (left_empty (uses_of_driver flat set (driver_at flat k)) (uses_of_block flat set no_block) (n.drivers k l));
      clocked = λ k l. names_unused flat clock set (block_at flat.clocked k).scope (names_of (block_at flat.clocked k).body) t
          (right_empty (uses_of_driver flat set no_driver) (uses_of_block flat set (block_at flat.clocked k)) (n.clocked k l));
      combinational = λ k l. names_unused flat clock set (block_at flat.combinational k).scope (names_of (block_at flat.combinational k).body) t
          (right_empty (uses_of_driver flat set no_driver) (uses_of_block flat set (block_at flat.combinational k)) (n.combinational k l));
    }

pub no_uses : (flat : Flat) (clock : ℕ) (set : ℕ → Bool) → TellsLeads flat clock set → HasWalk flat → ClockUnread flat clock → all_uses flat set ≡ []
no_uses flat clock set t w u = at_none flat (uses_of_part flat set) w (record {
  drivers = λ k l. rw (without_driver flat clock set (driver_at flat k) t (u.drivers k l)) (nothing_named flat set);
  clocked = λ k l. rw (nothing_driven flat set) (unused_names flat clock set (block_at flat.clocked k).scope (names_of (block_at flat.clocked k).body) t (u.clocked k l));
  combinational = λ k l. rw (nothing_driven flat set) (unused_names flat clock set (block_at flat.combinational k).scope (names_of (block_at flat.combinational k).body) t (u.combinational k l));
  initials = λ k l. rw (nothing_driven flat set) (nothing_named flat set);
})

pub no_driver_uses : (flat : Flat) (set : ℕ → Bool) → earliest (uses_of_driver flat set no_driver) ≡ None
unfolding earliest
no_driver_uses flat set = ap earliest (nothing_driven flat set)

-- the answer for a clock

pub use_none : (flat : Flat) (clock : ℕ) (set : ℕ → Bool) (r : Option ℕ) → TellsLeads flat clock set → HasWalk flat → r ≡ earliest (all_uses flat set) → IfNone r (ClockUnread flat clock)
use_none flat clock set r t w h = first_none (ClockUnread flat clock) (all_uses flat set) r (unread flat clock set t w) h

pub use_some : (flat : Flat) (clock : ℕ) (set : ℕ → Bool) (r : Option ℕ) → TellsLeads flat clock set → HasWalk flat → r ≡ earliest (all_uses flat set) → IfSome r (λ at. ClockUnread flat clock → ⊥)
use_some flat clock set r t w h = first_some (ClockUnread flat clock) (all_uses flat set) r (no_uses flat clock set t w) h

pub use_first : (flat : Flat) (clock : ℕ) (set : ℕ → Bool) (r : Option ℕ) → TellsLeads flat clock set → r ≡ earliest (all_uses flat set) → FirstUse flat clock r
use_first flat clock set r t h = record { set = set; leads = t; first = h }
