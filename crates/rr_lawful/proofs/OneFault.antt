-- A design breaks one law first, at one token, and where it is lawful none.
use Rattle.std.proofs.Common.{◌≡◌, ◌∙◌, sym, ap, subst, refl, ℕ, zero, suc, ◌<◌, ◌⊎◌, inl, inr, List, [], ◌∷◌, Bool, Option, Some, None, below_none, below_more}
use Rattle.rr_expr.specs.declared.types.Bit.{Bit}
use Rattle.rr_flat.specs.Signals.{Text}
use Rattle.rr_flat.specs.Clocks.{OneClock}
use Rattle.rr_flat.specs.Lawful.{ClockNamed, HasRanks, Lawful, NoClockRead, NoLatches, NoRace, OneWriter, RightKinds, RightLabels, RightTargets}
use Rattle.rr_flat.specs.Plain.{Flat}
use Rattle.rr_flat.specs.Writers.{scope_at, block_at}
use Rattle.rr_text_names.specs.Firsts.{earliest}
use Rattle.rr_assign.specs.Aims.{bad_targets}
use Rattle.rr_assign.specs.Kinds.{wrong_kinds}
use Rattle.rr_assign.specs.Labels.{all_wild}
use Rattle.rr_assign.specs.Races.{races}
use Rattle.rr_assign.proofs.RaceLaw.{race_none}
use Rattle.rr_clock.specs.Clock.{ClockFails, IsFirstUse, all_uses}
use Rattle.rr_clock.proofs.Clocking.{fails_none}
use Rattle.rr_clock.proofs.Leading.{some_same, same_number}
use Rattle.rr_latch.specs.Unassigned.{IsLatch}
use Rattle.rr_latch.proofs.Knowing.{keeps_latch}
use Rattle.rr_order.specs.Loops.{IsLoop}
use Rattle.rr_writers.specs.Doubles.{IsDouble}
use Rattle.rr_lawful.specs.Checked.{Denies, FailsFirst, HasRightTexts, HasRightWrites, IsClocked, IsSameFault, IsUsed, told}
use Rattle.rr_lawful.specs.declared.laws.LawFault.{LawFault}
use Rattle.rr_lawful.specs.declared.laws.LawFault.TheVariants.{TwoDrivers as Doubles, WrongAssign, Race, Latch as Kept, Loop, ClockUse, TwoClocks, BadTarget, WildLabel, UnknownName, Memory}
use Rattle.rr_lawful.proofs.AnyWalk.{none_bad, none_used, none_wild, none_wrong}
use Rattle.rr_lawful.proofs.ClockOnce.{clock_same, fails_same, use_same}
use Rattle.rr_lawful.proofs.WritesOnce.{double_same, latch_same, loop_same}

-- the laws by their places in the order of checking

abbrev IsKept : Flat → Option Text → ℕ → Type 0
IsKept flat word zero = ClockNamed flat word
IsKept flat word (suc zero) = RightTargets flat
IsKept flat word (suc (suc zero)) = RightLabels flat
IsKept flat word (suc (suc (suc zero))) = (clock : Option ℕ) × ((rising : Bool) × OneClock flat word clock rising)
IsKept flat word (suc (suc (suc (suc zero)))) = (clock : Option ℕ) × ((rising : Bool) × (OneClock flat word clock rising × NoClockRead flat clock))
IsKept flat word (suc (suc (suc (suc (suc zero))))) = OneWriter flat
IsKept flat word (suc (suc (suc (suc (suc (suc zero)))))) = RightKinds flat
IsKept flat word (suc (suc (suc (suc (suc (suc (suc zero))))))) = NoRace flat
IsKept flat word (suc (suc (suc (suc (suc (suc (suc (suc zero)))))))) = NoLatches flat
IsKept flat word (suc (suc (suc (suc (suc (suc (suc (suc (suc k))))))))) = HasRanks flat

-- that one of them is broken first at a token
abbrev IsBroken : Flat → Option Text → ℕ → ℕ → Type 0
IsBroken flat word zero at = (at ≡ flat.top) × (ClockNamed flat word → ⊥)
IsBroken flat word (suc zero) at = earliest (bad_targets flat) ≡ Some at
IsBroken flat word (suc (suc zero)) at = earliest (all_wild flat) ≡ Some at
IsBroken flat word (suc (suc (suc zero))) at = ClockFails flat word at
IsBroken flat word (suc (suc (suc (suc zero)))) at = IsUsed flat word at
IsBroken flat word (suc (suc (suc (suc (suc zero))))) at = (bit : Bit) × ((first : ℕ) × IsDouble flat (record { bit = bit; first = first; second = at }))
IsBroken flat word (suc (suc (suc (suc (suc (suc zero)))))) at = earliest (wrong_kinds flat) ≡ Some at
IsBroken flat word (suc (suc (suc (suc (suc (suc (suc zero))))))) at = earliest (races flat) ≡ Some at
IsBroken flat word (suc (suc (suc (suc (suc (suc (suc (suc zero)))))))) at = (bit : Bit) × IsLatch flat (record { bit = bit; block = at })
IsBroken flat word (suc (suc (suc (suc (suc (suc (suc (suc (suc k))))))))) at = OneWriter flat × ((cycle : List Bit) × IsLoop flat cycle at)

-- the number by which a law is told
abbrev number : ℕ → ℕ
number zero = 11
number (suc zero) = 24
number (suc (suc zero)) = 25
number (suc (suc (suc zero))) = 23
number (suc (suc (suc (suc zero)))) = 22
number (suc (suc (suc (suc (suc zero))))) = 17
number (suc (suc (suc (suc (suc (suc zero)))))) = 18
number (suc (suc (suc (suc (suc (suc (suc zero))))))) = 19
number (suc (suc (suc (suc (suc (suc (suc (suc zero)))))))) = 20
number (suc (suc (suc (suc (suc (suc (suc (suc (suc k))))))))) = 21

-- a law that is broken is not kept

not_empty : (xs : List ℕ) (at : ℕ) → earliest xs ≡ Some at → xs ≡ [] → ⊥
unfolding earliest
not_empty [] at h e = cc
not_empty (x ∷ xs) at h e = cc

unread_used : (flat : Flat) (clock : Option ℕ) (at : ℕ) → IsFirstUse flat clock (Some at) → NoClockRead flat clock → ⊥
unread_used flat None at h u = cc
unread_used flat (Some c) at h u = not_empty (all_uses flat h.set) at (sym h.first) (none_used flat c h.set h.leads u)

breaks : (flat : Flat) (word : Option Text) (law at : ℕ) → IsBroken flat word law at → IsKept flat word law → ⊥
breaks flat word zero at h k = h.1 k
breaks flat word (suc zero) at h k = not_empty (bad_targets flat) at h (none_bad flat k)
breaks flat word (suc (suc zero)) at h k = not_empty (all_wild flat) at h (none_wild flat k)
breaks flat word (suc (suc (suc zero))) at h k = fails_none flat word at h k.0 k.1.0 k.1.1
breaks flat word (suc (suc (suc (suc zero)))) at h k =
    unread_used flat k.0 at (subst (λ z. IsFirstUse flat z (Some at)) (clock_same flat word h.clock k.0 h.one_clock.chosen k.1.1.0.chosen) h.first) k.1.1.1
breaks flat word (suc (suc (suc (suc (suc zero))))) at h k = let d = h.1.1 in d.apart (k d.first d.second h.0 d.first_writes d.second_writes)
breaks flat word (suc (suc (suc (suc (suc (suc zero)))))) at h k = not_empty (wrong_kinds flat) at h (none_wrong flat k)
breaks flat word (suc (suc (suc (suc (suc (suc (suc zero))))))) at h k = not_empty (races flat) at h (race_none flat k)
breaks flat word (suc (suc (suc (suc (suc (suc (suc (suc zero)))))))) at h k =
    let l = h.1 in
    keeps_latch (scope_at flat (block_at flat.combinational l.block).scope) (block_at flat.combinational l.block).body h.0 l.keeps (k l.block l.inside)
breaks flat word (suc (suc (suc (suc (suc (suc (suc (suc (suc j))))))))) at h k = h.1.1.unranked k

-- and it is broken at one token

first_same : (xs : List ℕ) (a b : ℕ) → earliest xs ≡ Some a → earliest xs ≡ Some b → a ≡ b
first_same xs a b h k = some_same a b (sym h ∙ k)

token_same : (flat : Flat) (word : Option Text) (law a b : ℕ) → IsBroken flat word law a → IsBroken flat word law b → a ≡ b
token_same flat word zero a b h k = h.0 ∙ sym k.0
token_same flat word (suc zero) a b h k = first_same (bad_targets flat) a b h k
token_same flat word (suc (suc zero)) a b h k = first_same (all_wild flat) a b h k
token_same flat word (suc (suc (suc zero))) a b h k = fails_same flat word a b h k
token_same flat word (suc (suc (suc (suc zero)))) a b h k = use_same flat word a b h k
token_same flat word (suc (suc (suc (suc (suc zero))))) a b h k = double_same flat (record { bit = h.0; first = h.1.0; second = a }) (record { bit = k.0; first = k.1.0; second = b }) h.1.1 k.1.1
token_same flat word (suc (suc (suc (suc (suc (suc zero)))))) a b h k = first_same (wrong_kinds flat) a b h k
token_same flat word (suc (suc (suc (suc (suc (suc (suc zero))))))) a b h k = first_same (races flat) a b h k
token_same flat word (suc (suc (suc (suc (suc (suc (suc (suc zero)))))))) a b h k = latch_same flat (record { bit = h.0; block = a }) (record { bit = k.0; block = b }) h.1 k.1
token_same flat word (suc (suc (suc (suc (suc (suc (suc (suc (suc j))))))))) a b h k = loop_same flat h.1.0 k.1.0 a b h.0 h.1.1 k.1.1

-- the laws that are kept before one is broken

abbrev KeptBelow : Flat → Option Text → ℕ → Type 0
KeptBelow flat word n = (k : ℕ) → k < n → IsKept flat word k

named_below : (flat : Flat) (word : Option Text) → ClockNamed flat word → KeptBelow flat word 1
named_below flat word h = below_more (IsKept flat word) 0 (below_none (IsKept flat word)) h

targets_below : (flat : Flat) (word : Option Text) → ClockNamed flat word → RightTargets flat → KeptBelow flat word 2
targets_below flat word n h = below_more (IsKept flat word) 1 (named_below flat word n) h

texts_below : (flat : Flat) (word : Option Text) → HasRightTexts flat word → KeptBelow flat word 3
texts_below flat word h = below_more (IsKept flat word) 2 (targets_below flat word h.named h.targets) h.labels

clock_below : (flat : Flat) (word : Option Text) (clock : Option ℕ) (rising : Bool) → HasRightTexts flat word → OneClock flat word clock rising → KeptBelow flat word 4
clock_below flat word clock rising h o = below_more (IsKept flat word) 3 (texts_below flat word h) (clock, (rising, o))

clocked_below : (flat : Flat) (word : Option Text) → IsClocked flat word → KeptBelow flat word 5
clocked_below flat word h = below_more (IsKept flat word) 4 (clock_below flat word h.0 h.1.0 h.1.1.texts h.1.1.one_clock) (h.0, (h.1.0, (h.1.1.one_clock, h.1.1.unread)))

writers_below : (flat : Flat) (word : Option Text) → IsClocked flat word → OneWriter flat → KeptBelow flat word 6
writers_below flat word h o = below_more (IsKept flat word) 5 (clocked_below flat word h) o

kinds_below : (flat : Flat) (word : Option Text) → IsClocked flat word → OneWriter flat → RightKinds flat → KeptBelow flat word 7
kinds_below flat word h o r = below_more (IsKept flat word) 6 (writers_below flat word h o) r

races_below : (flat : Flat) (word : Option Text) → IsClocked flat word → OneWriter flat → RightKinds flat → NoRace flat → KeptBelow flat word 8
races_below flat word h o r n = below_more (IsKept flat word) 7 (kinds_below flat word h o r) n

writes_below : (flat : Flat) (word : Option Text) → IsClocked flat word → HasRightWrites flat → KeptBelow flat word 9
writes_below flat word h w = below_more (IsKept flat word) 8 (races_below flat word h w.one_writer w.kinds w.no_race) w.no_latches

-- a fault by the law that is broken first

record FirstBroken (flat : Flat) (word : Option Text) (f : LawFault) : Type 0 where
  pub law : ℕ
  pub at : ℕ
  pub tells : told f ≡ Some (number law, at)
  pub below : KeptBelow flat word law
  pub broken : IsBroken flat word law at

first_broken : (flat : Flat) (word : Option Text) (f : LawFault) → FailsFirst flat word f → (told f ≡ None) ⊎ FirstBroken flat word f
first_broken flat word (UnknownName at) h = inr (record { law = 0; at = at; tells = refl; below = below_none (IsKept flat word); broken = h })
first_broken flat word (BadTarget at) h = inr (record { law = 1; at = at; tells = refl; below = named_below flat word h.0; broken = h.1 })
first_broken flat word (WildLabel at) h = inr (record { law = 2; at = at; tells = refl; below = targets_below flat word h.0 h.1; broken = h.2 })
first_broken flat word (TwoClocks at) h = inr (record { law = 3; at = at; tells = refl; below = texts_below flat word h.0; broken = h.1 })
first_broken flat word (ClockUse at) h = inr (record { law = 4; at = at; tells = refl; below = clock_below flat word h.1.clock h.1.rising h.0 h.1.one_clock; broken = h.1 })
first_broken flat word (Doubles bit first second) h = inr (record { law = 5; at = second; tells = refl; below = clocked_below flat word h.0; broken = (bit, (first, h.1)) })
first_broken flat word (WrongAssign at) h = inr (record { law = 6; at = at; tells = refl; below = writers_below flat word h.0 h.1.0; broken = h.1.1 })
first_broken flat word (Race at) h = inr (record { law = 7; at = at; tells = refl; below = kinds_below flat word h.0 h.1.0 h.1.1; broken = h.1.2 })
first_broken flat word (Kept bit block) h = inr (record { law = 8; at = block; tells = refl; below = races_below flat word h.0 h.1.0 h.1.1 h.1.2; broken = (bit, h.1.3) })
first_broken flat word (Loop cycle token) h = inr (record { law = 9; at = token; tells = refl; below = writes_below flat word h.0 h.1; broken = (h.1.one_writer, (cycle.items, h.2)) })
first_broken flat word Memory h = inl refl

same_told : (flat : Flat) (word : Option Text) (f g : LawFault) → FirstBroken flat word f → FirstBroken flat word g → told f ≡ told g
same_told flat word f g p q = p.tells ∙ (ap (λ n. Some (number n, p.at)) laws ∙ (ap (λ a. Some (number q.law, a)) tokens ∙ sym q.tells))
  where
    laws : p.law ≡ q.law
    laws = same_number p.law q.law (λ l. breaks flat word p.law p.at p.broken (q.below p.law l)) (λ l. breaks flat word q.law q.at q.broken (p.below q.law l))

    tokens : p.at ≡ q.at
    tokens = token_same flat word q.law p.at q.at (subst (λ n. IsBroken flat word n p.at) laws p.broken) q.broken

pub same_fault : (flat : Flat) (word : Option Text) (f g : LawFault) → FailsFirst flat word f → FailsFirst flat word g → IsSameFault f g
same_fault flat word f g h k = go (first_broken flat word f h) (first_broken flat word g k)
  where
    go : (told f ≡ None) ⊎ FirstBroken flat word f → (told g ≡ None) ⊎ FirstBroken flat word g → IsSameFault f g
    go (inl e) q = inl e
    go (inr p) (inl e) = inr (inl e)
    go (inr p) (inr q) = inr (inr (same_told flat word f g p q))

-- a lawful design breaks none

lawful_keeps : (flat : Flat) (word : Option Text) → Lawful flat word → (law : ℕ) → IsKept flat word law
lawful_keeps flat word l zero = l.named
lawful_keeps flat word l (suc zero) = l.targets
lawful_keeps flat word l (suc (suc zero)) = l.labels
lawful_keeps flat word l (suc (suc (suc zero))) = (l.clock, (l.rising, l.one_clock))
lawful_keeps flat word l (suc (suc (suc (suc zero)))) = (l.clock, (l.rising, (l.one_clock, l.unread)))
lawful_keeps flat word l (suc (suc (suc (suc (suc zero))))) = l.one_writer
lawful_keeps flat word l (suc (suc (suc (suc (suc (suc zero)))))) = l.kinds
lawful_keeps flat word l (suc (suc (suc (suc (suc (suc (suc zero))))))) = l.no_race
lawful_keeps flat word l (suc (suc (suc (suc (suc (suc (suc (suc zero)))))))) = l.no_latches
lawful_keeps flat word l (suc (suc (suc (suc (suc (suc (suc (suc (suc k))))))))) = l.ranks

some_told : (x : ℕ × ℕ) → Some x ≡ None → ⊥
some_told x e = cc

denied : (P : Type 0) (f : LawFault) → (P → told f ≡ None) → Denies P f
denied P (UnknownName at) h = λ p. some_told (11, at) (h p)
denied P (BadTarget at) h = λ p. some_told (24, at) (h p)
denied P (WildLabel at) h = λ p. some_told (25, at) (h p)
denied P (TwoClocks at) h = λ p. some_told (23, at) (h p)
denied P (ClockUse at) h = λ p. some_told (22, at) (h p)
denied P (Doubles bit first second) h = λ p. some_told (17, second) (h p)
denied P (WrongAssign at) h = λ p. some_told (18, at) (h p)
denied P (Race at) h = λ p. some_told (19, at) (h p)
denied P (Kept bit block) h = λ p. some_told (20, block) (h p)
denied P (Loop cycle token) h = λ p. some_told (21, token) (h p)
denied P Memory h = tt

pub unlawful : (flat : Flat) (word : Option Text) (f : LawFault) → FailsFirst flat word f → Denies (Lawful flat word) f
unlawful flat word f h = denied (Lawful flat word) f (λ l. go l (first_broken flat word f h))
  where
    go : Lawful flat word → (told f ≡ None) ⊎ FirstBroken flat word f → told f ≡ None
    go l (inl e) = e
    go l (inr p) = absurd (breaks flat word p.law p.at p.broken (lawful_keeps flat word l p.law))

-- where a first bad target or label is told, the law of targets or of labels does not hold
pub targets_break : (flat : Flat) (at : ℕ) → earliest (bad_targets flat) ≡ Some at → RightTargets flat → ⊥
targets_break flat at h k = breaks flat None 1 at h k

pub labels_break : (flat : Flat) (at : ℕ) → earliest (all_wild flat) ≡ Some at → RightLabels flat → ⊥
labels_break flat at h k = breaks flat None 2 at h k
