-- A design has one clock at most, one first block where it has none, and one first use of it as data.
use Rattle.std.proofs.Common.{◌≡◌, ◌∙◌, sym, ap, subst, refl, ℕ, ◌<◌, List, [], ◌∷◌, get_or, Bool, true, false, Option, Some, None}
use Rattle.rr_flat.specs.Signals.{Text}
use Rattle.rr_flat.specs.Clocks.{IsChosen, IsDirection, FirstEdge, RunsOn, OneClock, no_edge}
use Rattle.rr_flat.specs.Plain.{Block, Flat}
use Rattle.rr_flat.specs.Writers.{block_at}
use Rattle.rr_text_names.specs.Firsts.{earliest}
use Rattle.rr_clock.proofs.Clocking.{chosen_same}
use Rattle.rr_clock.proofs.Leading.{some_same, same_number}
use Rattle.rr_clock.specs.Clock.{ClockFails, undecided, unclocked, IsFirstUse, TellsLeads, all_uses}
use Rattle.rr_lawful.proofs.Denied.{no_other}
use Rattle.rr_lawful.specs.Checked.{IsUsed}

-- the clock and its direction

pub clock_same : (flat : Flat) (word : Option Text) (c d : Option ℕ) → IsChosen flat word c → IsChosen flat word d → c ≡ d
clock_same flat word None None h k = refl
clock_same flat word None (Some d) h k = absurd (no_other flat word d k h)
clock_same flat word (Some c) None h k = absurd (no_other flat word c h k)
clock_same flat word (Some c) (Some d) h k = ap Some (chosen_same flat word c d h k)

edge_same : (flat : Flat) (c : ℕ) (b : Block) (r s : Bool) → FirstEdge flat c b r → FirstEdge flat c b s → r ≡ s
edge_same flat c b r s f g = sym f.direction ∙ (ap (λ k. (get_or b.edges k no_edge).rising) same ∙ g.direction)
  where
    same : f.place ≡ g.place
    same = same_number f.place g.place (λ l. g.first f.place l f.leads) (λ l. f.first g.place l g.leads)

way_same : (flat : Flat) (bs : List Block) (c : Option ℕ) (r s : Bool) → IsDirection flat bs c r → IsDirection flat bs c s → r ≡ s
way_same flat [] c r s p q = p ∙ sym q
way_same flat (b ∷ bs) None r s p q = absurd p
way_same flat (b ∷ bs) (Some c) r s p q = edge_same flat c b r s p q

direction_same : (flat : Flat) (c d : Option ℕ) (r s : Bool) → c ≡ d → IsDirection flat flat.clocked c r → IsDirection flat flat.clocked d s → r ≡ s
direction_same flat c d r s e p q = way_same flat flat.clocked d r s (subst (λ z. IsDirection flat flat.clocked z r) e p) q

pub one_clock : (flat : Flat) (word : Option Text) (c d : Option ℕ) (r s : Bool) → OneClock flat word c r → OneClock flat word d s → (c ≡ d) × (r ≡ s)
one_clock flat word c d r s o p =
    let same = clock_same flat word c d o.chosen p.chosen in
    (same, direction_same flat c d r s same o.direction p.direction)

-- the first block at which there is none

abbrev RunsAt : Flat → ℕ → Bool → ℕ → Type 0
RunsAt flat clock rising k = RunsOn flat clock rising (block_at flat.clocked k)

block_same : (flat : Flat) (c d : ℕ) (r s : Bool) (j k : ℕ) → c ≡ d → r ≡ s
    → (RunsAt flat c r j → ⊥) → ((i : ℕ) → i < j → RunsAt flat c r i) → (RunsAt flat d s k → ⊥) → ((i : ℕ) → i < k → RunsAt flat d s i) → j ≡ k
block_same flat c d r s j k e f fails before breaks earlier = same_number j k (λ l. fails (back j (earlier j l))) (λ l. breaks (on k (before k l)))
  where
    on : (i : ℕ) → RunsAt flat c r i → RunsAt flat d s i
    on i h = subst (λ z. RunsAt flat d z i) f (subst (λ z. RunsAt flat z r i) e h)

    back : (i : ℕ) → RunsAt flat d s i → RunsAt flat c r i
    back i h = subst (λ z. RunsAt flat c z i) (sym f) (subst (λ z. RunsAt flat z s i) (sym e) h)

pub fails_same : (flat : Flat) (word : Option Text) (a b : ℕ) → ClockFails flat word a → ClockFails flat word b → a ≡ b
fails_same flat word a b (undecided l t nay) (undecided m u never) = t ∙ sym u
fails_same flat word a b (undecided l t nay) (unclocked d s k picked way m u breaks earlier) = absurd (nay (Some d) s picked way)
fails_same flat word a b (unclocked c r j chosen direction l t fails before) (undecided m u never) = absurd (never (Some c) r chosen direction)
fails_same flat word a b (unclocked c r j chosen direction l t fails before) (unclocked d s k picked way m u breaks earlier) =
    let same = clock_same flat word (Some c) (Some d) chosen picked in
    let turn = direction_same flat (Some c) (Some d) r s same direction way in
    t ∙ (ap (λ i. (block_at flat.clocked i).token) (block_same flat c d r s j k (some_same c d same) turn fails before breaks earlier) ∙ sym u)

-- the first use as data

set_same : (flat : Flat) (clock : ℕ) (f g : ℕ → Bool) → TellsLeads flat clock f → TellsLeads flat clock g → f ≡ g
set_same flat clock f g t u = λ i x. at x i
  where
    at : (x : ℕ) → f x ≡ g x
    at x = go (f x) refl (g x) refl
      where
        go : (p : Bool) → f x ≡ p → (q : Bool) → g x ≡ q → f x ≡ g x
        go true e true h = e ∙ sym h
        go false e false h = e ∙ sym h
        go true e false h = let bad : true ≡ false = sym (u.all x (t.sound x e)) ∙ h in cc
        go false e true h = let bad : true ≡ false = sym (t.all x (u.sound x h)) ∙ e in cc

first_same : (flat : Flat) (clock : Option ℕ) (a b : ℕ) → IsFirstUse flat clock (Some a) → IsFirstUse flat clock (Some b) → a ≡ b
first_same flat None a b h k = cc
first_same flat (Some c) a b h k = some_same a b (h.first ∙ (ap (λ s. earliest (all_uses flat s)) (set_same flat c h.set k.set h.leads k.leads) ∙ sym k.first))

pub use_same : (flat : Flat) (word : Option Text) (a b : ℕ) → IsUsed flat word a → IsUsed flat word b → a ≡ b
use_same flat word a b h k =
    first_same flat k.clock a b (subst (λ z. IsFirstUse flat z (Some a)) (clock_same flat word h.clock k.clock h.one_clock.chosen k.one_clock.chosen) h.first) k.first
