-- Where a law holds, no part of a walk breaks it, whatever stands in that walk: a number with no driver, no block and no
-- `initial` item is that of an empty one.
use Rattle.std.proofs.Common.{◌≡◌, ◌∙◌, ap, subst, refl, ℕ, zero, suc, ◌+◌, ◌<◌, ◌⊎◌, inl, inr, List, [], ◌∷◌, ◌++◌, length, map, Bool, true, false, cond, append-nil, arith}
use Rattle.std.specs.Prelude.{flat_map, All}
use Rattle.std.specs.List.{range_with_len}
use Rattle.std.proofs.lemmas.Bool.{cases_lt}
use Rattle.std.proofs.lemmas.List.{get_or_past}
use Rattle.rr_syntax.specs.Tree.{Identifier}
use Rattle.rr_flat.specs.declared.design.Part as design
use Rattle.rr_flat.specs.declared.design.Part.TheVariants as part
use Rattle.rr_flat.specs.Clocks.{Leads, itself, through}
use Rattle.rr_flat.specs.Lawful.{NoClockIn, SideWithout, DriverWithout, ClockUnread, RightKinds, RightLabels, RightTargets}
use Rattle.rr_flat.specs.Plain.{Side, Written, Whole, Driver, Block, Initial, Flat}
use Rattle.rr_flat.specs.Reads.{names_of, names_in, assigned_by}
use Rattle.rr_flat.specs.Sound.{IsPart, drivers_of, clocked_of, combinational_of, initials_of}
use Rattle.rr_flat.specs.Writers.{driver_at, no_driver, block_at, no_block, no_initial}
use Rattle.rr_flat.specs.Parts.{driver_of, block_of, initial_of}
use Rattle.rr_text_names.proofs.Covering.{HasWalk, Member, NoneAt, none_at, member_empty, clocked_member, combinational_member}
use Rattle.rr_assign.specs.Aims.{bad_of_driver, bad_of_block, bad_of_initial, bad_of_part, bad_targets}
use Rattle.rr_assign.specs.Kinds.{Aim, aim_of, aims_of_part, aims, wrong_kinds}
use Rattle.rr_assign.specs.Labels.{wild_in, wild_of_part, all_wild}
use Rattle.rr_assign.proofs.AimLaw.{no_bad_targets}
use Rattle.rr_assign.proofs.KindLaw.{member_cases, member_flat, flat_member, map_member, AreFine, fine_nothing, fine_all, all_fine, no_wrong_kinds}
use Rattle.rr_assign.proofs.LabelLaw.{no_wild_labels}
use Rattle.rr_clock.specs.Clock.{TellsLeads, hands_on, side_uses, uses_of_driver, uses_of_block, uses_of_part, all_uses}
use Rattle.rr_clock.proofs.UseLaw.{no_uses}

-- a walk that meets each driver, block and `initial` item once

whole_walk : ℕ → ℕ → ℕ → ℕ → List design.Part
whole_walk n m l i =
    map part.Driver (range_with_len 0 n) ++ (map part.Clocked (range_with_len 0 m) ++ (map part.Combinational (range_with_len 0 l) ++ (map part.Initial (range_with_len 0 i) ++ [])))

drivers_first : (ks : List ℕ) (ps : List design.Part) → (drivers_of (map part.Driver ks ++ ps) ≡ ks ++ drivers_of ps) × (clocked_of (map part.Driver ks ++ ps) ≡ clocked_of ps)
    × (combinational_of (map part.Driver ks ++ ps) ≡ combinational_of ps) × (initials_of (map part.Driver ks ++ ps) ≡ initials_of ps)
unfolding drivers_of clocked_of combinational_of initials_of
drivers_first [] ps = (refl, refl, refl, refl)
drivers_first (k ∷ ks) ps = let h = drivers_first ks ps in (ap (λ z. k ∷ z) h.0, h.1, h.2, h.3)

clocked_first : (ks : List ℕ) (ps : List design.Part) → (drivers_of (map part.Clocked ks ++ ps) ≡ drivers_of ps) × (clocked_of (map part.Clocked ks ++ ps) ≡ ks ++ clocked_of ps)
    × (combinational_of (map part.Clocked ks ++ ps) ≡ combinational_of ps) × (initials_of (map part.Clocked ks ++ ps) ≡ initials_of ps)
unfolding drivers_of clocked_of combinational_of initials_of
clocked_first [] ps = (refl, refl, refl, refl)
clocked_first (k ∷ ks) ps = let h = clocked_first ks ps in (h.0, ap (λ z. k ∷ z) h.1, h.2, h.3)

combinational_first : (ks : List ℕ) (ps : List design.Part) → (drivers_of (map part.Combinational ks ++ ps) ≡ drivers_of ps) × (clocked_of (map part.Combinational ks ++ ps) ≡ clocked_of ps)
    × (combinational_of (map part.Combinational ks ++ ps) ≡ ks ++ combinational_of ps) × (initials_of (map part.Combinational ks ++ ps) ≡ initials_of ps)
unfolding drivers_of clocked_of combinational_of initials_of
combinational_first [] ps = (refl, refl, refl, refl)
combinational_first (k ∷ ks) ps = let h = combinational_first ks ps in (h.0, h.1, ap (λ z. k ∷ z) h.2, h.3)

initials_first : (ks : List ℕ) (ps : List design.Part) → (drivers_of (map part.Initial ks ++ ps) ≡ drivers_of ps) × (clocked_of (map part.Initial ks ++ ps) ≡ clocked_of ps)
    × (combinational_of (map part.Initial ks ++ ps) ≡ combinational_of ps) × (initials_of (map part.Initial ks ++ ps) ≡ ks ++ initials_of ps)
unfolding drivers_of clocked_of combinational_of initials_of
initials_first [] ps = (refl, refl, refl, refl)
initials_first (k ∷ ks) ps = let h = initials_first ks ps in (h.0, h.1, h.2, ap (λ z. k ∷ z) h.3)

in_range : (a n k : ℕ) → Member k (range_with_len a n) → k < a + n
in_range a zero k m = absurd m
in_range a (suc n) k (inl e) = omega (arith, e)
in_range a (suc n) k (inr m) = let l = in_range (a + 1) n k m in omega (arith, l)

all_of : {X : Type 0} (P : X → Type 0) (xs : List X) → ((x : X) → Member x xs → P x) → All P xs
all_of P [] h i d l = absurd (omega (arith, l))
all_of P (x ∷ xs) h zero d l = h x (inl refl)
all_of P (x ∷ xs) h (suc i) d l = all_of P xs (λ y m. h y (inr m)) i d (omega (arith, l))

numbered : (P : design.Part → Type 0) (f : ℕ → design.Part) (n : ℕ) → ((k : ℕ) → k < n → P (f k)) → (p : design.Part) → Member p (map f (range_with_len 0 n)) → P p
numbered P f n h p m =
    let k = map_member f (range_with_len 0 n) p m in
    subst P k.1.1 (h k.0 (let l = in_range 0 n k.0 k.1.0 in omega (arith, l)))

parts_in : (n m l i : ℕ) (p : design.Part) → Member p (whole_walk n m l i) → IsPart n m l i p
unfolding whole_walk
parts_in n m l i p h =
    first (member_cases (map part.Driver (range_with_len 0 n)) (map part.Clocked (range_with_len 0 m) ++ (map part.Combinational (range_with_len 0 l) ++ (map part.Initial (range_with_len 0 i) ++ []))) p h)
  where
    fourth : Member p (map part.Initial (range_with_len 0 i)) ⊎ Member p [] → IsPart n m l i p
    fourth (inl k) = numbered (IsPart n m l i) part.Initial i (λ j b. b) p k
    fourth (inr k) = absurd k

    third : Member p (map part.Combinational (range_with_len 0 l)) ⊎ Member p (map part.Initial (range_with_len 0 i) ++ []) → IsPart n m l i p
    third (inl k) = numbered (IsPart n m l i) part.Combinational l (λ j b. b) p k
    third (inr k) = fourth (member_cases (map part.Initial (range_with_len 0 i)) [] p k)

    second : Member p (map part.Clocked (range_with_len 0 m)) ⊎ Member p (map part.Combinational (range_with_len 0 l) ++ (map part.Initial (range_with_len 0 i) ++ [])) → IsPart n m l i p
    second (inl k) = numbered (IsPart n m l i) part.Clocked m (λ j b. b) p k
    second (inr k) = third (member_cases (map part.Combinational (range_with_len 0 l)) (map part.Initial (range_with_len 0 i) ++ []) p k)

    first : Member p (map part.Driver (range_with_len 0 n)) ⊎ Member p (map part.Clocked (range_with_len 0 m) ++ (map part.Combinational (range_with_len 0 l) ++ (map part.Initial (range_with_len 0 i) ++ []))) → IsPart n m l i p
    first (inl k) = numbered (IsPart n m l i) part.Driver n (λ j b. b) p k
    first (inr k) = second (member_cases (map part.Clocked (range_with_len 0 m)) (map part.Combinational (range_with_len 0 l) ++ (map part.Initial (range_with_len 0 i) ++ [])) p k)

-- a design with another walk, and with that one

abbrev with_walk : Flat → List design.Part → Flat
with_walk flat walk = record flat { walk = walk }

abbrev walked_through : Flat → Flat
walked_through flat = with_walk flat (whole_walk (length flat.drivers) (length flat.clocked) (length flat.combinational) (length flat.initials))

has_walk : (flat : Flat) → HasWalk (walked_through flat)
unfolding whole_walk drivers_of clocked_of combinational_of initials_of
has_walk flat =
    let ds = range_with_len 0 (length flat.drivers) in
    let cs = range_with_len 0 (length flat.clocked) in
    let bs = range_with_len 0 (length flat.combinational) in
    let is = range_with_len 0 (length flat.initials) in
    let last = initials_first is [] in
    let third = combinational_first bs (map part.Initial is ++ []) in
    let next = clocked_first cs (map part.Combinational bs ++ (map part.Initial is ++ [])) in
    let top = drivers_first ds (map part.Clocked cs ++ (map part.Combinational bs ++ (map part.Initial is ++ []))) in
    record {
      parts_in = all_of (IsPart (length flat.drivers) (length flat.clocked) (length flat.combinational) (length flat.initials)) (whole_walk (length flat.drivers) (length flat.clocked) (length flat.combinational) (length flat.initials))
          (parts_in (length flat.drivers) (length flat.clocked) (length flat.combinational) (length flat.initials));
      all_drivers = top.0 ∙ (ap (λ z. ds ++ z) (next.0 ∙ (third.0 ∙ last.0)) ∙ append-nil ds);
      all_clocked = top.1 ∙ (next.1 ∙ (ap (λ z. cs ++ z) (third.1 ∙ last.1) ∙ append-nil cs));
      all_combinational = top.2 ∙ (next.2 ∙ (third.2 ∙ (ap (λ z. bs ++ z) last.2 ∙ append-nil bs)));
      all_initials = top.3 ∙ (next.3 ∙ (third.3 ∙ (last.3 ∙ append-nil is)));
    }

-- what no driver, no block and no `initial` item breaks, and no empty one, no part of a walk does

nowhere : (flat : Flat) (g : Driver → Block → Initial → List ℕ) → g no_driver no_block no_initial ≡ [] → NoneAt flat (λ p. g (driver_of flat p) (block_of flat p) (initial_of flat p)) → flat_map (λ p. g (driver_of flat p) (block_of flat p) (initial_of flat p)) flat.walk ≡ []
nowhere flat g nothing n = member_empty (λ p. g (driver_of flat p) (block_of flat p) (initial_of flat p)) flat.walk (λ p m. at p)
  where
    at : (p : design.Part) → g (driver_of flat p) (block_of flat p) (initial_of flat p) ≡ []
    at (part.Driver k) = elim (cases_lt k (length flat.drivers)) [
      | inl l ↦ n.drivers k l
      | inr l ↦ ap (λ d. g d no_block no_initial) (get_or_past flat.drivers k no_driver l) ∙ nothing
    ]
    at (part.Clocked k) = elim (cases_lt k (length flat.clocked)) [
      | inl l ↦ n.clocked k l
      | inr l ↦ ap (λ b. g no_driver b no_initial) (get_or_past flat.clocked k no_block l) ∙ nothing
    ]
    at (part.Combinational k) = elim (cases_lt k (length flat.combinational)) [
      | inl l ↦ n.combinational k l
      | inr l ↦ ap (λ b. g no_driver b no_initial) (get_or_past flat.combinational k no_block l) ∙ nothing
    ]
    at (part.Initial k) = elim (cases_lt k (length flat.initials)) [
      | inl l ↦ n.initials k l
      | inr l ↦ ap (λ x. g no_driver no_block x) (get_or_past flat.initials k no_initial l) ∙ nothing
    ]

-- targets and labels

no_bad : (flat : Flat) → bad_of_driver flat no_driver ++ (bad_of_block flat no_block ++ bad_of_initial flat no_initial) ≡ []
unfolding assigned_by
no_bad flat = refl

pub none_bad : (flat : Flat) → RightTargets flat → bad_targets flat ≡ []
none_bad flat r =
    let w = walked_through flat in
    let h = has_walk flat in
    let n = none_at w (bad_of_part w) h (no_bad_targets w h (record { drivers = r.drivers; clocked = r.clocked; combinational = r.combinational; initials = r.initials })) in
    nowhere flat (λ d b x. bad_of_driver flat d ++ (bad_of_block flat b ++ bad_of_initial flat x)) (no_bad flat) (record { drivers = n.drivers; clocked = n.clocked; combinational = n.combinational; initials = n.initials })

no_wild : wild_in no_block.body ≡ []
unfolding wild_in
no_wild = refl

pub none_wild : (flat : Flat) → RightLabels flat → all_wild flat ≡ []
none_wild flat r =
    let w = walked_through flat in
    let h = has_walk flat in
    let n = none_at w (wild_of_part w) h (no_wild_labels w h (record { clocked = r.clocked; combinational = r.combinational })) in
    nowhere flat (λ d b x. wild_in b.body) no_wild (record { drivers = n.drivers; clocked = n.clocked; combinational = n.combinational; initials = n.initials })

-- uses of the clock

leads_with : (flat : Flat) (walk : List design.Part) (clock : ℕ) {x : ℕ} → Leads flat clock x → Leads (with_walk flat walk) clock x
leads_with flat walk clock itself = itself
leads_with flat walk clock (through {port} {id} k nay c l) =
    through k nay (record { inside = c.inside; target = c.target; first = c.first; input = c.input; scalar = c.scalar; bare = c.bare }) (leads_with flat walk clock l)

leads_without : (flat : Flat) (walk : List design.Part) (clock : ℕ) {x : ℕ} → Leads (with_walk flat walk) clock x → Leads flat clock x
leads_without flat walk clock l = leads_with (with_walk flat walk) flat.walk clock l

unnamed_with : (flat : Flat) (walk : List design.Part) (clock i : ℕ) (names : List Identifier) → NoClockIn flat clock i names → NoClockIn (with_walk flat walk) clock i names
unnamed_with flat walk clock i names h k d l n = h k d l (n.0, (n.1.0, (n.1.1.0, leads_without flat walk clock n.1.1.1)))

side_with : (flat : Flat) (walk : List design.Part) (clock : ℕ) (side : Side) → SideWithout flat clock side → SideWithout (with_walk flat walk) clock side
side_with flat walk clock (Whole id) h = tt
side_with flat walk clock (Written t i) h = unnamed_with flat walk clock i (names_in t) h

driver_with : (flat : Flat) (walk : List design.Part) (clock : ℕ) (d : Driver) → DriverWithout flat clock d → DriverWithout (with_walk flat walk) clock d
driver_with flat walk clock d h = (
  side_with flat walk clock d.target h.0,
  elim h.1 [ inl on ↦ inl on | inr s ↦ inr (side_with flat walk clock d.value s) ],
)

unread_with : (flat : Flat) (walk : List design.Part) (clock : ℕ) → ClockUnread flat clock → ClockUnread (with_walk flat walk) clock
unread_with flat walk clock u = record {
  drivers = λ k l. driver_with flat walk clock (driver_at flat k) (u.drivers k l);
  clocked = λ k l. unnamed_with flat walk clock (block_at flat.clocked k).scope (names_of (block_at flat.clocked k).body) (u.clocked k l);
  combinational = λ k l. unnamed_with flat walk clock (block_at flat.combinational k).scope (names_of (block_at flat.combinational k).body) (u.combinational k l);
}

no_use : (flat : Flat) (set : ℕ → Bool) → uses_of_driver flat set no_driver ++ uses_of_block flat set no_block ≡ []
unfolding names_of
no_use flat set = go (hands_on flat no_driver)
  where
    go : (b : Bool) → cond b [] (side_uses flat set no_driver.value) ++ [] ≡ []
    go true = refl
    go false = refl

pub none_used : (flat : Flat) (clock : ℕ) (set : ℕ → Bool) → TellsLeads flat clock set → ClockUnread flat clock → all_uses flat set ≡ []
none_used flat clock set t u =
    let w = walked_through flat in
    let h = has_walk flat in
    let tells : TellsLeads w clock set = record { sound = λ x e. leads_with flat w.walk clock (t.sound x e); all = λ x l. t.all x (leads_without flat w.walk clock l) } in
    let n = none_at w (uses_of_part w set) h (no_uses w clock set tells h (unread_with flat w.walk clock u)) in
    nowhere flat (λ d b x. uses_of_driver flat set d ++ uses_of_block flat set b) (no_use flat set) (record { drivers = n.drivers; clocked = n.clocked; combinational = n.combinational; initials = n.initials })

-- kinds of assignment

no_aim : (flat : Flat) (combinational : Bool) (b : Block) (a : Aim) → b ≡ no_block → Member a (map (aim_of flat b.scope combinational) (assigned_by b.body)) → ⊥
unfolding assigned_by
no_aim flat combinational b a e m = subst (λ z. Member a (map (aim_of flat z.scope combinational) (assigned_by z.body))) e m

aim_walked : (flat : Flat) (a : Aim) → Member a (aims flat) → Member a (aims (walked_through flat))
aim_walked flat a m = go x.0 x.1.1
  where
    w : Flat
    w = walked_through flat

    x : (p : design.Part) × (Member p flat.walk × Member a (aims_of_part flat p))
    x = flat_member (aims_of_part flat) flat.walk a m

    go : (p : design.Part) → Member a (aims_of_part flat p) → Member a (aims (walked_through flat))
    go (part.Driver k) n = absurd (no_aim flat false no_block a refl n)
    go (part.Clocked k) n = elim (cases_lt k (length flat.clocked)) [
      | inl l ↦ member_flat (aims_of_part (walked_through flat)) (walked_through flat).walk (part.Clocked k) a (clocked_member (walked_through flat) (has_walk flat) k l) n
      | inr l ↦ absurd (no_aim flat false (block_at flat.clocked k) a (get_or_past flat.clocked k no_block l) n)
    ]
    go (part.Combinational k) n = elim (cases_lt k (length flat.combinational)) [
      | inl l ↦ member_flat (aims_of_part (walked_through flat)) (walked_through flat).walk (part.Combinational k) a (combinational_member (walked_through flat) (has_walk flat) k l) n
      | inr l ↦ absurd (no_aim flat true (block_at flat.combinational k) a (get_or_past flat.combinational k no_block l) n)
    ]
    go (part.Initial k) n = absurd (no_aim flat false no_block a refl n)

pub none_wrong : (flat : Flat) → RightKinds flat → wrong_kinds flat ≡ []
none_wrong flat r = all_fine [] (aims flat) (record { alone = λ a m. fine.alone a (aim_walked flat a m); pairs = λ a b m n. fine.pairs a b (aim_walked flat a m) (aim_walked flat b n) })
  where
    w : Flat
    w = walked_through flat

    fine : AreFine (aims (walked_through flat))
    fine = fine_all [] (aims (walked_through flat)) fine_nothing (no_wrong_kinds (walked_through flat) (has_walk flat) (record { combinational = r.combinational; one = r.one }))
