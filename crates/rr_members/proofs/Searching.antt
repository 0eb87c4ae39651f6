-- rounds after which none has ended
use Rattle.std.proofs.Common.{◌≡◌, ◌*◌, ◌⊎◌, inl, inr, ℕ, ◌+◌, ◌-◌, ◌^◌, ◌<◌, ◌≤◌, ◌==◌, min, Bool, false, cond, List, [], ◌∷◌, length, get_or, replicate, refl, sym, ◌∙◌, ap, subst, arith}
use Rattle.std.specs.Prelude.{IsSome, None}
use Rattle.std.proofs.lemmas.Bool.{cases_eq, eq-eqb, false≢true, ne_eqb}
use Rattle.std.proofs.lemmas.List.{length-replicate, length-set, length_push, get_or-replicate}
use Rattle.std.proofs.lemmas.List.Sums.{sum_by-cons}
use Rattle.rr_cnf.specs.Clauses.{Clauses}
use Rattle.rr_derive.specs.Derive.{Derives, Step}
use Rattle.rr_derive.specs.Lrat.{AreWritable}
use Rattle.rr_rounds.specs.States.{Ending, Member, State, idle, member}
use Rattle.rr_rounds.specs.Joined.{in_order, joined}
use Rattle.rr_rounds.specs.Rounds.{AreMoves, Event, learns, solves, refutes, IsRound, May, Move, Reached, begun, by_hand, after, moved, moved_all, moves_of, start}
use Rattle.rr_members.specs.Groups.{Group, IsFirst, NoneEnded}
use Rattle.rr_members.specs.Searched.{HasEnded, IsSpent, Played, begun as begun_rounds, next}
use Rattle.rr_rounds.proofs.Reaching.{member_moved, member_other}
use Rattle.rr_members.proofs.Playing.{Reached-moves}
use Rattle.rr_rounds.proofs.Joining.{joined_derives, lines_few, lines_fresh}
use Rattle.rr_members.proofs.Rounding.{joined_lines}
use Rattle.rr_rounds.proofs.Counting.{joined_length}

-- a member that has ended stays so
stays_ended : (f : Clauses) (inputs : ℕ) (s : State) (m : ℕ) (vs : List Move) → IsSome (member s m).ending → AreMoves f inputs s vs → IsSome (member (moved_all s vs) m).ending
stays_ended f inputs s m [] e a = e
stays_ended f inputs s m (v ∷ vs) e a = by_cases (stays_ended f inputs (moved s v) m vs) (cases_eq m v.member)
  where
    going : (e : Event) (x : Member) → May f inputs x e → x.ending ≡ None
    going (learns x) y may = may.0
    going (solves x) y may = may.0
    going (refutes x) y may = may.0

    by_cases : (IsSome (member (moved s v) m).ending → AreMoves f inputs (moved s v) vs → IsSome (member (moved_all (moved s v) vs) m).ending) → ((m ≡ v.member) ⊎ (m ≡ v.member → ⊥)) → IsSome (member (moved_all (moved s v) vs) m).ending
    by_cases rest (inl q) =
        let none : (member s m).ending ≡ None = ap (λ k. (member s k).ending) q ∙ going v.event (member s v.member) a.0.1 in
        absurd (false≢true (subst IsSome none e))
    by_cases rest (inr ne) = rest (subst (λ (x : Member). IsSome x.ending) (sym (member_other s v a.0.0 m ne)) e) a.1

-- as many lines more as events, where it has not ended
run_lines : (f : Clauses) (inputs : ℕ) (s : State) (m : ℕ) (vs : List Move) → AreMoves f inputs s vs → (member (moved_all s vs) m).ending ≡ None → length (member (moved_all s vs) m).lines ≡ length (member s m).lines + moves_of m vs
run_lines f inputs s m [] a none = omega arith
run_lines f inputs s m (v ∷ vs) a none = by_cases (run_lines f inputs (moved s v) m vs a.1 none) (cases_eq m v.member)
  where
    count : moves_of m (v ∷ vs) ≡ cond (v.member == m) 1 0 + moves_of m vs
    count = sum_by-cons (λ x. cond (x.member == m) 1 0) v vs

    ended : IsSome (member (moved s v) m).ending → ⊥
    ended e = false≢true (subst IsSome none (stays_ended f inputs (moved s v) m vs e a.1))

    one_more : (e : Event) → (IsSome (after s.round (member s v.member) e).ending → ⊥) → length (after s.round (member s v.member) e).lines ≡ length (member s v.member).lines + 1
    one_more (learns x) no_end = length_push (member s v.member).lines (record { round = s.round; step = x })
    one_more (solves bits) no_end = absurd (no_end refl)
    one_more (refutes x) no_end = absurd (no_end refl)

    by_cases : length (member (moved_all (moved s v) vs) m).lines ≡ length (member (moved s v) m).lines + moves_of m vs → ((m ≡ v.member) ⊎ (m ≡ v.member → ⊥)) → length (member (moved_all (moved s v) vs) m).lines ≡ length (member s m).lines + moves_of m (v ∷ vs)
    by_cases rest (inl q) =
        let new : member (moved s v) m ≡ after s.round (member s v.member) v.event = ap (member (moved s v)) q ∙ member_moved s v a.0.0 in
        let more = one_more v.event (λ e. ended (subst (λ (x : Member). IsSome x.ending) (sym new) e)) in
        let lines : length (member (moved s v) m).lines ≡ length (member s m).lines + 1 = ap (λ (x : Member). length x.lines) new ∙ more ∙ ap (λ k. length (member s k).lines + 1) (sym q) in
        let one : ◌≡◌ {A = ℕ} (cond (v.member == m) 1 0) 1 = ap (λ (b : Bool). cond b 1 0) (eq-eqb v.member m (sym q)) in
        omega (arith, rest, lines, count, one)
    by_cases rest (inr ne) =
        let lines : length (member (moved s v) m).lines ≡ length (member s m).lines = ap (λ (x : Member). length x.lines) (member_other s v a.0.0 m ne) in
        let none : ◌≡◌ {A = ℕ} (cond (v.member == m) 1 0) 0 = ap (λ (b : Bool). cond b 1 0) (ne_eqb v.member m (λ e. ne (sym e))) in
        omega (arith, rest, lines, count, none)

moved_size : (s : State) (vs : List Move) → length (moved_all s vs).members ≡ length s.members
moved_size s [] = refl
moved_size s (v ∷ vs) = moved_size (moved s v) vs ∙ length-set s.members v.member (after s.round (member s v.member) v.event)

module _ (f : Clauses) (inputs n : ℕ) (old new : State) (r : IsRound f inputs n old new) where
  pub round_size : length new.members ≡ length old.members
  round_size = r.handed.count ∙ moved_size old r.moves

  pub round_lines : NoneEnded new → (m : ℕ) → m < length old.members → length (member new m).lines ≡ length (member old m).lines + n
  round_lines none m h =
      let mid = moved_all old r.moves in
      let size = moved_size old r.moves in
      let l : m < length mid.members = omega (arith, h, size) in
      let same = (r.handed.each m l).1.1 in
      let still : (member mid m).ending ≡ None = sym (ap (λ (x : Member). x.ending) same) ∙ none m (omega (arith, h, round_size)) in
      let lines : length (member new m).lines ≡ length (member mid m).lines = ap (λ (x : Member). length x.lines) same in
      let run = run_lines f inputs old m r.moves r.are still in
      elim (r.made m h) [
        | inl q ↦ omega (arith, lines, run, q)
        | inr q ↦ absurd (false≢true (subst IsSome still q.1))
      ]

  pub round_reached : (count : ℕ) → Reached f inputs count old → Reached f inputs count new
  round_reached count a = by_hand (Reached-moves f inputs count old r.moves a r.are) r.handed

pub played_reached : (f : Clauses) (inputs count budget spent : ℕ) (s : State) → Played f inputs count budget spent s → Reached f inputs count s
played_reached f inputs count budget spent s begun_rounds = begun
played_reached f inputs count budget spent s (next before old new p r) = round_reached f inputs (min (budget - before) 256) old new r count (played_reached f inputs count budget before old p)

-- a search goes on
pub record Goes (f : Clauses) (inputs count budget spent : ℕ) (g : Group) : Type 0 where
  pub sound : g.failed ≡ false
  pub question : g.formula ≡ f
  pub decided : g.inputs ≡ inputs
  pub low : spent ≤ budget
  pub played : Played f inputs count budget spent g.state
  pub size : length g.state.members ≡ count
  pub going : NoneEnded g.state
  pub lines : (m : ℕ) → m < count → length (member g.state m).lines ≡ spent

pub Goes-start : (f : Clauses) (inputs count budget : ℕ) (g : Group) → g ≡ record { formula = f; inputs = inputs; state = start count; failed = false } → Goes f inputs count budget 0 g
Goes-start f inputs count budget g is = subst (Goes f inputs count budget 0) (sym is) (record {
  sound = refl;
  question = refl;
  decided = refl;
  low = omega arith;
  played = begun_rounds;
  size = length-replicate count idle;
  going = λ m h. ap (λ (x : Member). x.ending) (at m (omega (arith, h, length-replicate count idle)));
  lines = λ m h. ap (λ (x : Member). length x.lines) (at m h);
})
  where
    at : (m : ℕ) → m < count → get_or (replicate count idle) m idle ≡ idle
    at m h = get_or-replicate count m idle idle h

module _ (f : Clauses) (inputs count budget spent : ℕ) (g h : Group) (w : Goes f inputs count budget spent g) (n : ℕ) (many : n ≡ min (budget - spent) 256) (r : IsRound g.formula g.inputs n g.state h.state) where
  round_here : IsRound f inputs (min (budget - spent) 256) g.state h.state
  round_here = subst (λ k. IsRound f inputs k g.state h.state) many (subst (λ i. IsRound f i n g.state h.state) w.decided (subst (λ x. IsRound x g.inputs n g.state h.state) w.question r))

  pub Goes-more : h.failed ≡ false → h.formula ≡ g.formula → h.inputs ≡ g.inputs → NoneEnded h.state → Goes f inputs count budget (spent + n) h
  Goes-more sound same decided none =
      let size = round_size f inputs (min (budget - spent) 256) g.state h.state round_here in
      record {
        sound = sound;
        question = same ∙ w.question;
        decided = decided ∙ w.decided;
        low = let a = w.low in omega (arith, a, many);
        played = subst (λ k. Played f inputs count budget (spent + k) h.state) (sym many) (next spent g.state h.state w.played round_here);
        size = size ∙ w.size;
        going = none;
        lines = λ m l.
            let more = round_lines f inputs (min (budget - spent) 256) g.state h.state round_here none m (let a = w.size in omega (arith, a, l)) in
            more ∙ ap (λ k. k + min (budget - spent) 256) (w.lines m l) ∙ ap (λ k. spent + k) (sym many);
      }

-- the last round of a search
pub ends_in_budget : (f : Clauses) (inputs count budget spent : ℕ) (g h : Group) → Goes f inputs count budget spent g → (n : ℕ) → n ≡ min (budget - spent) 256 → IsRound g.formula g.inputs n g.state h.state
    → (m : ℕ) (e : Ending) → IsFirst h.state m e → HasEnded f inputs count budget h.state m e
ends_in_budget f inputs count budget spent g h w n many r m e first = record {
  spent = spent;
  old = g.state;
  played = w.played;
  round = round_here f inputs count budget spent g h w n many r;
  first = first;
}

pub is_spent : (f : Clauses) (inputs count budget spent : ℕ) (g : Group) → 1 ≤ count → Goes f inputs count budget spent g → budget ≤ spent → (lines : List Step) → lines ≡ joined g.formula g.state → length g.formula.clauses + 1 + length (in_order g.state) < 2 ^ 62 → IsSpent f inputs count budget lines
is_spent f inputs count budget spent g some w all lines is small =
    let end : spent ≡ budget = let a = w.low in omega arith in
    let r = played_reached f inputs count budget spent g.state w.played in
    let journal : lines ≡ joined f g.state = is ∙ ap (λ x. joined x g.state) w.question in
    record {
      state = g.state;
      played = subst (λ k. Played f inputs count budget k g.state) end w.played;
      size = w.size;
      going = w.going;
      each = λ m h. w.lines m h ∙ end;
      total = ap length journal ∙ joined_length f inputs count g.state r budget (λ m h. w.lines m (let a = w.size in omega (arith, a, h)) ∙ end) ∙ ap (λ k. k * budget) w.size;
      fresh = λ m h. lines_fresh f inputs count g.state r m;
      journal = journal;
      derives = subst (Derives f.clauses) (sym journal) (joined_derives f inputs count g.state r);
      few = let a = lines_few f inputs count g.state r 0 in let b = w.lines 0 (omega arith) in omega (arith, a, b, end);
      lawful = subst (AreWritable f) (sym journal) (joined_lines f inputs count g.state r (subst (λ (x : Clauses). length x.clauses + 1 + length (in_order g.state) < 2 ^ 62) w.question small));
    }
