-- what a step of a search is for the member
use Rattle.std.proofs.Common.{◌≡◌, inl, inr, ℕ, suc, zero, ◌+◌, ◌-◌, ◌<◌, ◌≤◌, Bool, true, false, cond, List, [], ◌∷◌, ◌++◌, length, get_or, map, take, Option, refl, sym, ◌∙◌, ap, subst, arith}
use Rattle.std.specs.Prelude.{Some, None, All, not, ◌==◌}
use Rattle.std.proofs.Math.Seq.{get_or-append_seam, take-append_seam}
use Rattle.std.proofs.lemmas.List.{append-nil, append_assoc, get_or_append_left, get_or_default, get_or-map, length_push, length-map, map-append, map_push, take-append-le}
use Rattle.std.proofs.lemmas.List.Elements.{All-take, filter_more}
use Rattle.std.proofs.lemmas.Bool.{cases_lt, ne_eqb, eq-eqb}
use Rattle.rr_cnf.specs.Clauses.{Clauses}
use Rattle.rr_derive.specs.Derive.{Step}
use Rattle.rr_derive.specs.Fresh.{Handed}
use Rattle.rr_solver.specs.Searches.{Adds, IsFreshAfter, IsNewId, NamesAll, PassesAfter, Same, Search, SteppedIs, line}
use Rattle.rr_solver.specs.declared.engine.Status.{Status}
use Rattle.rr_solver.specs.declared.engine.Status.TheVariants.{Running, Model, Refuted, Failed}
use Rattle.rr_solver.specs.declared.engine.Stepped.{Stepped}
use Rattle.rr_solver.specs.declared.engine.Stepped.TheVariants.{Learned as HasLearned, Model as HasModel, Refuted as HasRefuted}
use Rattle.rr_rounds.proofs.Lawful.{no_step}
use Rattle.rr_derive.specs.Derive.{IsRising}
use Rattle.rr_rounds.specs.States.{no_taken, nothing, Ending, emptied, solved, Learned, Member, Taken, handed, steps}
use Rattle.rr_rounds.specs.Rounds.{Event, IsAboveEnd, learns, solves, refutes, May, MayWrite, after}
use Rattle.rr_member.specs.Sharing.{Gives, Took, not_own, origin_of}
use Rattle.rr_member.specs.declared.sharing.Short.{Short}
use Rattle.rr_member.specs.Seats.{Does, IsSeat, Made, Seated, ending_by, member_of, place_of, unlisted, with_origins, with_rounds}
use Rattle.rr_rounds.specs.Rounds.{MayAll, after_all}
use Rattle.rr_member.specs.declared.seat.Origin.{Origin}

-- an id above those of all lines is above that of the empty line
last_below : (lines : List Step) (k id : ℕ) → 0 < id → All (λ (x : Step). x.id < id) lines → (line lines k).id < id
last_below [] k id some below = some
last_below (x ∷ xs) zero id some below = below 0 x (omega arith)
last_below (x ∷ xs) (suc k) id some below = last_below xs k id some (λ j d h. below (suc j) d (omega (arith, h)))

end_below : (status : Status) (bits : List Bool) (lines : List Step) (id : ℕ) → 0 < id → All (λ (x : Step). x.id < id) lines → (e : Step) → ending_by status bits lines ≡ Some (emptied e) → e.id < id
end_below Running bits lines id some below e q = let z : None ≡ Some (emptied e) = q in cc
end_below Model bits lines id some below e q = let z : Some (solved bits) ≡ Some (emptied e) = q in cc
end_below Refuted bits lines id some below e q =
    let z : Some (emptied (line lines (length lines - 1))) ≡ Some (emptied e) = q in
    let same : line lines (length lines - 1) ≡ e = cc in
    subst (λ (x : Step). x.id < id) same (last_below lines (length lines - 1) id some below)
end_below Failed bits lines id some below e q = let z : None ≡ Some (emptied e) = q in cc

pub with_rounds_push : (rs : List ℕ) (ss : List Step) (r : ℕ) (s : Step) → length rs ≡ length ss → with_rounds (rs ++ r ∷ []) (ss ++ s ∷ []) ≡ with_rounds rs ss ++ record { round = r; step = s } ∷ []
with_rounds_push [] [] r s e = refl
with_rounds_push [] (x ∷ ss) r s e = absurd (omega arith)
with_rounds_push (q ∷ rs) [] r s e = absurd (omega arith)
with_rounds_push (q ∷ rs) (x ∷ ss) r s e = ap (λ ls. record { round = q; step = x } ∷ ls) (with_rounds_push rs ss r s (omega arith))

pub with_rounds_more : (rs : List ℕ) (ss more : List Step) → length rs ≤ length ss → with_rounds rs (ss ++ more) ≡ with_rounds rs ss
with_rounds_more [] ss more e = refl
with_rounds_more (q ∷ rs) [] more e = absurd (omega arith)
with_rounds_more (q ∷ rs) (x ∷ ss) more e = ap (λ ls. record { round = q; step = x } ∷ ls) (with_rounds_more rs ss more (omega arith))

pub with_rounds_length : (rs : List ℕ) (ss : List Step) → length rs ≤ length ss → length (with_rounds rs ss) ≡ length rs
with_rounds_length [] ss h = refl
with_rounds_length (q ∷ rs) [] h = absurd (omega arith)
with_rounds_length (q ∷ rs) (x ∷ ss) h = ap suc (with_rounds_length rs ss (omega arith))

pub with_rounds_at : (rs : List ℕ) (ss : List Step) (k : ℕ) (d : Learned) (e : Step) → length rs ≤ length ss → k < length rs → get_or (with_rounds rs ss) k d ≡ record { round = get_or rs k 0; step = get_or ss k e }
with_rounds_at [] ss k d e h l = absurd (omega arith)
with_rounds_at (q ∷ rs) [] k d e h l = absurd (omega arith)
with_rounds_at (q ∷ rs) (x ∷ ss) zero d e h l = refl
with_rounds_at (q ∷ rs) (x ∷ ss) (suc k) d e h l = with_rounds_at rs ss k d e (omega arith) (omega arith)

-- the lines that have a round come first
pub steps_take : (rs : List ℕ) (ss : List Step) → length rs ≤ length ss → map (λ (l : Learned). l.step) (with_rounds rs ss) ≡ take (length rs) ss
steps_take [] ss h = refl
steps_take (q ∷ rs) [] h = absurd (omega arith)
steps_take (q ∷ rs) (x ∷ ss) h = ap (λ ls. x ∷ ls) (steps_take rs ss (omega arith))

pub with_origins_push : (os : List Origin) (hs : List Handed) (o : Origin) (h : Handed) → length os ≡ length hs → with_origins (os ++ o ∷ []) (hs ++ h ∷ []) ≡ with_origins os hs ++ record { handed = h; origin = place_of o } ∷ []
with_origins_push [] [] o h e = refl
with_origins_push [] (x ∷ hs) o h e = absurd (omega arith)
with_origins_push (q ∷ os) [] o h e = absurd (omega arith)
with_origins_push (q ∷ os) (x ∷ hs) o h e = ap (λ ts. record { handed = x; origin = place_of q } ∷ ts) (with_origins_push os hs o h (omega arith))

pub with_origins_length : (os : List Origin) (hs : List Handed) → length os ≡ length hs → length (with_origins os hs) ≡ length os
with_origins_length [] hs h = refl
with_origins_length (q ∷ os) [] h = absurd (omega arith)
with_origins_length (q ∷ os) (x ∷ hs) h = ap suc (with_origins_length os hs (omega arith))

pub with_origins_at : (os : List Origin) (hs : List Handed) (k : ℕ) (d : Taken) (e : Handed) (o : Origin) → length os ≡ length hs → k < length os → get_or (with_origins os hs) k d ≡ record { handed = get_or hs k e; origin = place_of (get_or os k o) }
with_origins_at [] hs k d e o h l = absurd (omega arith)
with_origins_at (q ∷ os) [] k d e o h l = absurd (omega arith)
with_origins_at (q ∷ os) (x ∷ hs) zero d e o h l = refl
with_origins_at (q ∷ os) (x ∷ hs) (suc k) d e o h l = with_origins_at os hs k d e o (omega arith) (omega arith)

pub rounds_few : (s : Search) (rounds : List ℕ) (origins : List Origin) (stepped : Stepped) → IsSeat s rounds origins stepped → length rounds ≤ length s.lines
rounds_few s rounds origins stepped seat = let e = seat.lines in omega (arith, e)

pub steps_of : (rs : List ℕ) (ss : List Step) → length rs ≡ length ss → map (λ (l : Learned). l.step) (with_rounds rs ss) ≡ ss
steps_of [] [] e = refl
steps_of [] (x ∷ ss) e = absurd (omega arith)
steps_of (q ∷ rs) [] e = absurd (omega arith)
steps_of (q ∷ rs) (x ∷ ss) e = ap (λ ls. x ∷ ls) (steps_of rs ss (omega arith))

pub handed_of : (os : List Origin) (hs : List Handed) → length os ≡ length hs → map (λ (t : Taken). t.handed) (with_origins os hs) ≡ hs
handed_of [] [] e = refl
handed_of [] (x ∷ hs) e = absurd (omega arith)
handed_of (o ∷ os) [] e = absurd (omega arith)
handed_of (o ∷ os) (x ∷ hs) e = ap (λ ls. x ∷ ls) (handed_of os hs (omega arith))

pub same_member : {ls ms : List Learned} {ts us : List Taken} {e d : Option Ending} → ls ≡ ms → ts ≡ us → e ≡ d → ◌≡◌ {A = Member} (record { lines = ls; taken = ts; ending = e }) (record { lines = ms; taken = us; ending = d })
same_member {ms = ms} {ts = ts} {us = us} {e = e} p q r = ap (λ ls. record { lines = ls; taken = ts; ending = e }) p ∙ ap (λ ts. record { lines = ms; taken = ts; ending = e }) q ∙ ap (λ e. record { lines = ms; taken = us; ending = e }) r

pub origins_length : (s : Search) (rounds : List ℕ) (origins : List Origin) (stepped : Stepped) → IsSeat s rounds origins stepped → length origins ≡ length s.handed
origins_length s rounds origins stepped seat = sym (length-map origins (λ (o : Origin). o.id)) ∙ ap length seat.handed ∙ length-map s.handed (λ (h : Handed). h.id)

module _ (round : ℕ) (old new : Search) (rounds : List ℕ) (origins : List Origin) (stepped : Stepped) (seat : IsSeat old rounds origins stepped) (running : old.status ≡ Running) (same : Same old new) where
  seated : Seated
  seated = record { search = old; rounds = rounds; origins = origins }

  long : length rounds ≡ length old.lines
  long = let e = seat.lines in let z : unlisted old.status ≡ 0 = ap unlisted running in omega (arith, e, z)

  own_steps : steps (member_of seated) ≡ old.lines
  unfolding seated
  own_steps = steps_of rounds old.lines long

  own_handed : handed (member_of seated) ≡ old.handed
  unfolding seated
  own_handed = handed_of origins old.handed (origins_length old rounds origins stepped seat)

  going : (member_of seated).ending ≡ None
  unfolding seated
  going = ap (λ x. ending_by x old.bits old.lines) running

  may_write : (a : Adds old.formula old.lines old.handed new.lines) → MayWrite old.formula (member_of seated) a.added
  may_write a = record {
    id = subst (λ ss. IsNewId old.formula ss (handed (member_of seated)) a.added.id) (sym own_steps) (subst (λ hs. IsNewId old.formula old.lines hs a.added.id) (sym own_handed) a.id);
    within = a.within;
    passes = subst (λ ss. PassesAfter old.formula ss (handed (member_of seated)) a.added) (sym own_steps) (subst (λ hs. PassesAfter old.formula old.lines hs a.added) (sym own_handed) a.passes);
    hints = subst (λ ss. NamesAll old.formula ss (handed (member_of seated)) a.added) (sym own_steps) (subst (λ hs. NamesAll old.formula old.lines hs a.added) (sym own_handed) a.hints);
  }

  pub does_learn : (more : List ℕ) → more ≡ rounds ++ round ∷ [] → SteppedIs old new HasLearned → Does round (record { search = old; rounds = rounds; origins = origins }) (record { search = new; rounds = more; origins = origins })
  unfolding seated
  does_learn more is p =
      let a = p.1.0 in
      record {
        event = learns a.added;
        may = (going, (may_write a, subst (λ ss. IsFreshAfter old.formula old.inputs ss (handed (member_of seated)) a.added) (sym own_steps) (subst (λ hs. IsFreshAfter old.formula old.inputs old.lines hs a.added) (sym own_handed) p.1.1)));
        is = same_member
            (ap (λ rs. with_rounds rs new.lines) is ∙ ap (λ ss. with_rounds (rounds ++ round ∷ []) ss) a.lines ∙ with_rounds_push rounds old.lines round a.added long)
            (ap (with_origins origins) same.handed)
            (ap (λ x. ending_by x new.bits new.lines) p.0 ∙ sym going);
        sound = λ q. let z : Running ≡ Failed = sym p.0 ∙ q in cc;
      }

  pub does_solve : SteppedIs old new HasModel → Does round (record { search = old; rounds = rounds; origins = origins }) (record { search = new; rounds = rounds; origins = origins })
  unfolding seated
  does_solve p = record {
    event = solves new.bits;
    may = (going, p.2);
    is = same_member (ap (with_rounds rounds) p.1) (ap (with_origins origins) same.handed) (ap (λ x. ending_by x new.bits new.lines) p.0);
    sound = λ q. let z : Model ≡ Failed = sym p.0 ∙ q in cc;
  }

  pub does_refute : SteppedIs old new HasRefuted → Does round (record { search = old; rounds = rounds; origins = origins }) (record { search = new; rounds = rounds; origins = origins })
  unfolding seated
  does_refute p =
      let a = p.1.0 in
      let last : line new.lines (length new.lines - 1) ≡ a.added =
      ap (λ ls. line ls (length ls - 1)) a.lines
      ∙ (let z : length (old.lines ++ a.added ∷ []) - 1 ≡ length old.lines = omega (arith, length_push old.lines a.added) in ap (line (old.lines ++ a.added ∷ [])) z ∙ get_or-append_seam old.lines a.added [] _) in
      record {
        event = refutes a.added;
        may = (going, (may_write a, p.1.1));
        is = same_member
            (ap (with_rounds rounds) a.lines ∙ with_rounds_more rounds old.lines (a.added ∷ []) (omega (arith, long)))
            (ap (with_origins origins) same.handed)
            (ap (λ x. ending_by x new.bits new.lines) p.0 ∙ ap (λ x. Some (emptied x)) last);
        sound = λ q. let z : Refuted ≡ Failed = sym p.0 ∙ q in cc;
      }

-- one event more
after_push : (round : ℕ) (m : Member) (es : List Event) (e : Event) → after_all round m (es ++ e ∷ []) ≡ after round (after_all round m es) e
after_push round m [] e = refl
after_push round m (x ∷ es) e = after_push round (after round m x) es e

MayAll-push : (f : Clauses) (inputs round : ℕ) (m : Member) (es : List Event) (e : Event) → MayAll f inputs round m es → May f inputs (after_all round m es) e → MayAll f inputs round m (es ++ e ∷ [])
MayAll-push f inputs round m [] e a h = (h, tt)
MayAll-push f inputs round m (x ∷ es) e a h = (a.0, MayAll-push f inputs round (after round m x) es e a.1 h)

pub Made-none : (round : ℕ) (s : Seated) → (s.search.status ≡ Failed → ⊥) → Made 0 round s s
Made-none round s sound = record { events = []; many = refl; may = tt; is = refl; same = record { formula = refl; inputs = refl; handed = refl }; sound = sound }

pub Made-more : (n round : ℕ) (old mid new : Seated) → Made n round old mid → Same mid.search new.search → Does round mid new → Made (n + 1) round old new
Made-more n round old mid new a same d = record {
  events = a.events ++ d.event ∷ [];
  many = length_push a.events d.event ∙ ap (λ k. k + 1) a.many;
  may = MayAll-push old.search.formula old.search.inputs round (member_of old) a.events d.event a.may
      (subst (λ m. May old.search.formula old.search.inputs m d.event) a.is
      (subst (λ i. May old.search.formula i (member_of mid) d.event) a.same.inputs
      (subst (λ f. May f mid.search.inputs (member_of mid) d.event) a.same.formula d.may)));
  is = d.is ∙ ap (λ m. after round m d.event) a.is ∙ sym (after_push round (member_of old) a.events d.event);
  same = record { formula = same.formula ∙ a.same.formula; inputs = same.inputs ∙ a.same.inputs; handed = same.handed ∙ a.same.handed };
  sound = d.sound;
}

-- a clause is handed over
module _ (s : Search) (rounds : List ℕ) (origins : List Origin) (stepped : Stepped) (seat : IsSeat s rounds origins stepped) where
  pub steps_seated : map (λ (l : Learned). l.step) (with_rounds rounds s.lines) ≡ take (length rounds) s.lines
  steps_seated = steps_take rounds s.lines (rounds_few s rounds origins stepped seat)

  pub handed_seated : map (λ (t : Taken). t.handed) (with_origins origins s.handed) ≡ s.handed
  handed_seated = handed_of origins s.handed (origins_length s rounds origins stepped seat)

  pub new_id : (id : ℕ) → IsNewId s.formula s.lines s.handed id → IsNewId s.formula (map (λ l. l.step) (with_rounds rounds s.lines)) (map (λ t. t.handed) (with_origins origins s.handed)) id
  new_id id n = record {
    formula = n.formula;
    lines = subst (All (λ x. x.id < id)) (sym steps_seated) (All-take (λ x. x.id < id) (length rounds) s.lines n.lines);
    handed = subst (All (λ h. h.id < id)) (sym handed_seated) n.handed;
  }

  pub gives : (x : Short) (id : ℕ) (new : Search) (more : List Origin) → IsNewId s.formula s.lines s.handed id
      → new ≡ record s { handed = s.handed ++ record { id = id; clause = x.clause } ∷ [] }
      → more ≡ origins ++ record { id = id; member = x.member; line = x.line } ∷ []
      → Gives x (record { search = s; rounds = rounds; origins = origins }) (record { search = new; rounds = rounds; origins = more })
  gives x id new more n e o = record {
    id = id;
    is_new = new_id id n;
    ended = end_below s.status s.bits s.lines id (let a = n.formula in omega arith) n.lines;
    search = e;
    is = same_member
        (ap (λ (y : Search). with_rounds rounds y.lines) e)
        (ap (λ (y : Search). with_origins more y.handed) e ∙ ap (λ os. with_origins os (s.handed ++ record { id = id; clause = x.clause } ∷ [])) o
        ∙ with_origins_push origins s.handed (record { id = id; member = x.member; line = x.line }) (record { id = id; clause = x.clause }) (origins_length s rounds origins stepped seat))
        (ap (λ (y : Search). ending_by y.status y.bits y.lines) e);
  }

pub Took-none : (place : ℕ) (old new : Seated) → new ≡ record old { search = record old.search { depth = 0 } } → Took place [] old new
Took-none place old new e = record {
  more = [];
  origins = refl;
  clauses = refl;
  ids = λ k d h. absurd (omega arith);
  ended = λ k d h. absurd (omega arith);
  search = ap (λ s. s.search) e ∙ ap (λ hs. record old.search { depth = 0; handed = hs }) (sym (append-nil old.search.handed));
  is = ap member_of e ∙ ap (λ ts. record (member_of old) { taken = ts }) (sym (append-nil (member_of old).taken));
}

module _ (place : ℕ) (shorts : List Short) (i : ℕ) (x : Short) (inside : i < length shorts) (read : x ≡ get_or shorts i x) where
  kept : Bool → List Short
  kept b = cond b (x ∷ []) []

  next : (b : Bool) → not (x.member == place) ≡ b → not_own place (take (i + 1) shorts) ≡ not_own place (take i shorts) ++ kept b
  unfolding kept
  next b e =
      filter_more (λ y. not (y.member == place)) shorts i x inside
      ∙ ap (λ y. not_own place (take i shorts) ++ cond (not (y.member == place)) (y ∷ []) []) (sym read)
      ∙ ap (λ b. not_own place (take i shorts) ++ cond b (x ∷ []) []) e

  module _ (old mid : Seated) (w : Took place (take i shorts) old mid) where
    -- its own clause is left out
    pub Took-skip : x.member ≡ place → Took place (take (i + 1) shorts) old mid
    unfolding kept
    Took-skip own =
        let same : not_own place (take (i + 1) shorts) ≡ not_own place (take i shorts) = next false (ap not (eq-eqb x.member place own)) ∙ append-nil (not_own place (take i shorts)) in
        record {
          more = w.more;
          origins = w.origins ∙ ap (map origin_of) (sym same);
          clauses = w.clauses ∙ ap (map (λ (y : Short). y.clause)) (sym same);
          ids = w.ids;
          ended = w.ended;
          search = w.search;
          is = w.is;
        }

    pub Took-take : (new : Seated) → (x.member ≡ place → ⊥) → Gives x mid new → Took place (take (i + 1) shorts) old new
    unfolding kept
    Took-take new other g =
        let more : not_own place (take (i + 1) shorts) ≡ not_own place (take i shorts) ++ x ∷ [] = next true (ap not (ne_eqb x.member place other)) in
        let h : Handed = record { id = g.id; clause = x.clause } in
        let t : Taken = record { handed = h; origin = origin_of x } in
        let steps_same : steps (member_of mid) ≡ steps (member_of old) = ap steps w.is in
        let handed_same : handed (member_of mid) ≡ handed (member_of old) ++ map (λ t. t.handed) w.more = ap handed w.is ∙ map-append (λ (y : Taken). y.handed) (member_of old).taken w.more in
        let last : IsNewId old.search.formula (steps (member_of old)) (handed (member_of old) ++ map (λ t. t.handed) w.more) g.id =
        subst (λ f. IsNewId f (steps (member_of old)) (handed (member_of old) ++ map (λ t. t.handed) w.more) g.id) (ap (λ (y : Search). y.formula) w.search)
        (subst (λ ss. IsNewId mid.search.formula ss (handed (member_of old) ++ map (λ t. t.handed) w.more) g.id) steps_same
        (subst (λ hs. IsNewId mid.search.formula (steps (member_of mid)) hs g.id) handed_same g.is_new)) in
        record {
          more = w.more ++ t ∷ [];
          origins = map_push (λ (y : Taken). y.origin) w.more t ∙ ap (λ ys. ys ++ origin_of x ∷ []) w.origins ∙ sym (ap (map origin_of) more ∙ map_push origin_of (not_own place (take i shorts)) x);
          clauses = map_push (λ (y : Taken). y.handed.clause) w.more t ∙ ap (λ ys. ys ++ x.clause ∷ []) w.clauses ∙ sym (ap (map (λ (y : Short). y.clause)) more ∙ map_push (λ (y : Short). y.clause) (not_own place (take i shorts)) x);
          ids = λ k d l. elim (cases_lt k (length w.more)) [
            | inl a ↦ subst (λ (y : Taken). IsNewId old.search.formula (steps (member_of old)) (handed (member_of old) ++ map (λ t. t.handed) (take k (w.more ++ t ∷ []))) y.handed.id) (sym (get_or_append_left w.more (t ∷ []) d k a))
                (subst (λ ts. IsNewId old.search.formula (steps (member_of old)) (handed (member_of old) ++ map (λ t. t.handed) ts) (get_or w.more k d).handed.id) (sym (take-append-le k w.more (t ∷ []) (omega arith))) (w.ids k d a))
            | inr b ↦
                (let e : k ≡ length w.more = omega (arith, length_push w.more t) in
                subst (λ k. IsNewId old.search.formula (steps (member_of old)) (handed (member_of old) ++ map (λ t. t.handed) (take k (w.more ++ t ∷ []))) (get_or (w.more ++ t ∷ []) k d).handed.id) (sym e)
                (subst (λ (y : Taken). IsNewId old.search.formula (steps (member_of old)) (handed (member_of old) ++ map (λ t. t.handed) (take (length w.more) (w.more ++ t ∷ []))) y.handed.id) (sym (get_or-append_seam w.more t [] d))
                (subst (λ ts. IsNewId old.search.formula (steps (member_of old)) (handed (member_of old) ++ map (λ t. t.handed) ts) g.id) (sym (take-append_seam w.more (t ∷ []))) last)))
          ];
          ended = λ k d l. elim (cases_lt k (length w.more)) [
            | inl a ↦ subst (λ (y : Taken). IsAboveEnd (member_of old) y.handed.id) (sym (get_or_append_left w.more (t ∷ []) d k a)) (w.ended k d a)
            | inr b ↦
                (let e : k ≡ length w.more = omega (arith, length_push w.more t) in
                subst (λ k. IsAboveEnd (member_of old) (get_or (w.more ++ t ∷ []) k d).handed.id) (sym e)
                (subst (λ (y : Taken). IsAboveEnd (member_of old) y.handed.id) (sym (get_or-append_seam w.more t [] d))
                (subst (λ (m : Member). IsAboveEnd m g.id) w.is g.ended)))
          ];
          search = g.search ∙ ap (λ (y : Search). record y { handed = y.handed ++ h ∷ [] }) w.search
              ∙ ap (λ hs. record old.search { depth = 0; handed = hs }) (append_assoc old.search.handed (map (λ t. t.handed) w.more) (h ∷ []) ∙ ap (λ ys. old.search.handed ++ ys) (sym (map_push (λ (y : Taken). y.handed) w.more t)));
          is = g.is ∙ ap (λ (m : Member). record m { taken = m.taken ++ t ∷ [] }) w.is ∙ ap (λ ts. record (member_of old) { taken = ts }) (append_assoc (member_of old).taken w.more (t ∷ []));
        }

abbrev pub no_origin : Origin
no_origin = record { id = 0; member = 0; line = 0 }

abbrev pub no_handed : Handed
no_handed = record { id = 0; clause = [] }

-- lines and handed clauses by their ids
module _ (s : Search) (rounds : List ℕ) (origins : List Origin) (stepped : Stepped) (seat : IsSeat s rounds origins stepped) where
  few : length rounds ≤ length s.lines
  few = rounds_few s rounds origins stepped seat

  pub line_read : (k : ℕ) → k < length (with_rounds rounds s.lines) → (k < length rounds) × ((get_or (with_rounds rounds s.lines) k nothing).step ≡ get_or s.lines k no_step)
  line_read k h =
      let l : k < length rounds = omega (arith, with_rounds_length rounds s.lines few) in
      (l, ap (λ (x : Learned). x.step) (with_rounds_at rounds s.lines k nothing no_step few l))

  pub own_found : (k id : ℕ) → k < length rounds → ((d : Step) → (get_or s.lines k d).id ≡ id) → (k < length (with_rounds rounds s.lines)) × ((get_or (with_rounds rounds s.lines) k nothing).step.id ≡ id)
  own_found k id h is =
      let l : k < length (with_rounds rounds s.lines) = omega (arith, with_rounds_length rounds s.lines few) in
      (l, ap (λ (x : Step). x.id) (line_read k l).1 ∙ is no_step)

  pub own_none : (id : ℕ) → ((k : ℕ) (d : Step) → k < length s.lines → (get_or s.lines k d).id ≡ id → ⊥) → (k : ℕ) → k < length (with_rounds rounds s.lines) → (get_or (with_rounds rounds s.lines) k nothing).step.id ≡ id → ⊥
  own_none id none k h e = let r = line_read k h in none k no_step (let l = r.0 in omega (arith, l, few)) (sym (ap (λ (x : Step). x.id) r.1) ∙ e)

  pub own_past : IsRising s.lines → (line id : ℕ) → length rounds ≤ line → line < length s.lines → ((d : Step) → (get_or s.lines line d).id ≡ id) → (k : ℕ) → k < length (with_rounds rounds s.lines) → (get_or (with_rounds rounds s.lines) k nothing).step.id ≡ id → ⊥
  own_past rising line id low inside is k h e =
      let r = line_read k h in
      let below = rising k line no_step no_step (let l = r.0 in omega arith) inside in
      let a = sym (ap (λ (x : Step). x.id) r.1) ∙ e in
      let b = is no_step in
      omega (arith, below, a, b)

  long_origins : length origins ≡ length s.handed
  long_origins = origins_length s rounds origins stepped seat

  pub taken_read : (k : ℕ) → k < length (with_origins origins s.handed) → (k < length origins) × (((get_or (with_origins origins s.handed) k no_taken).origin ≡ place_of (get_or origins k no_origin)) × ((get_or (with_origins origins s.handed) k no_taken).handed.id ≡ (get_or origins k no_origin).id))
  taken_read k h =
      let l : k < length origins = omega (arith, with_origins_length origins s.handed long_origins) in
      let e = with_origins_at origins s.handed k no_taken no_handed no_origin long_origins l in
      let same : (get_or s.handed k no_handed).id ≡ (get_or origins k no_origin).id =
      sym (get_or-map (λ (h : Handed). h.id) s.handed k no_handed 0 (omega (arith, l, long_origins))) ∙ ap (λ is. get_or is k 0) (sym seat.handed) ∙ get_or-map (λ (o : Origin). o.id) origins k no_origin 0 l in
      (l, (ap (λ (t : Taken). t.origin) e, ap (λ (t : Taken). t.handed.id) e ∙ same))

  pub origins_rise : ((j k : ℕ) → j < k → k < length (with_origins origins s.handed) → (get_or (with_origins origins s.handed) j no_taken).handed.id < (get_or (with_origins origins s.handed) k no_taken).handed.id)
      → (j k : ℕ) (d e : Origin) → j < k → k < length origins → (get_or origins j d).id < (get_or origins k e).id
  origins_rise rise j k d e a h =
      let size = with_origins_length origins s.handed long_origins in
      let r = rise j k a (omega (arith, size)) in
      let x = (taken_read j (omega (arith, size))).1.1 in
      let y = (taken_read k (omega (arith, size))).1.1 in
      let p = ap (λ (o : Origin). o.id) (get_or_default origins j d no_origin (omega arith)) in
      let q = ap (λ (o : Origin). o.id) (get_or_default origins k e no_origin h) in
      omega (arith, r, x, y, p, q)

  pub taken_found : (k id : ℕ) → (k < length origins) × ((d : Origin) → (get_or origins k d).id ≡ id) → (k < length (with_origins origins s.handed)) × ((get_or (with_origins origins s.handed) k no_taken).handed.id ≡ id)
  taken_found k id w =
      let l : k < length (with_origins origins s.handed) = let a = w.0 in omega (arith, a, with_origins_length origins s.handed long_origins) in
      (l, (taken_read k l).1.1 ∙ w.1 no_origin)

  pub taken_none : (id : ℕ) → ((k : ℕ) (d : Origin) → k < length origins → (get_or origins k d).id ≡ id → ⊥) → (k : ℕ) → k < length (with_origins origins s.handed) → (get_or (with_origins origins s.handed) k no_taken).handed.id ≡ id → ⊥
  taken_none id none k h e = let r = taken_read k h in none k no_origin r.0 (sym r.1.1 ∙ e)
