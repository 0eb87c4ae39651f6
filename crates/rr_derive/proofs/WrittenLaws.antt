-- the text of lines that pass the hint check is read as them
use Rattle.std.proofs.Common.{inl, inr, ℕ, suc, ◌-◌, ◌^◌, ◌<◌, ◌≤◌, List, [], ◌∷◌, length, get_or, take, drop, subst, arith}
use Rattle.std.specs.Prelude.{All, Contains}
use Rattle.std.specs.List.{AllByRecursion}
use Rattle.std.proofs.lemmas.List.{take-append-drop}
use Rattle.std.proofs.lemmas.List.Elements.{All-contains, All-get_or, Contains-append_left, recursion_from_All}
use Rattle.std.proofs.lemmas.Option.{slice_get_within}
use Rattle.rr_cnf.specs.Clauses.{Clauses, IsWithin, Literal}
use Rattle.rr_derive.specs.Derive.{Derives, IsNoTautology, IsRising, Names, Proof, Step}
use Rattle.rr_derive.specs.Lrat.{AreKept, AreNumbers, AreSigned, AreWritable, IsNumber, IsProofText, lrat}
use Rattle.rr_derive.proofs.LratLaws.{written}

-- what a line is alone
record Fits (vars : ℕ) (s : Step) : Type 0 where
  pub id : IsNumber s.id
  pub signed : AreSigned s.clause
  pub within : AllByRecursion (λ l. l.var ≤ vars) s.clause
  pub hints : AreNumbers s.hints
  pub no_tautology : IsNoTautology s.clause

kept : (vars last : ℕ) (lines : List Step) → ((k : ℕ) (d : Step) → k < length lines → last < (get_or lines k d).id) → IsRising lines → ((k : ℕ) (d : Step) → k < length lines → Fits vars (get_or lines k d)) → AreKept last vars lines
kept vars last [] above rise fits = tt
kept vars last (s ∷ ss) above rise fits =
    let f = fits 0 s (omega arith) in (
      f.id,
      (
        f.signed,
        (
          f.hints,
          (
            record { above = above 0 s (omega arith); within = f.within; no_tautology = f.no_tautology },
            kept vars s.id ss (λ k d h. rise 0 (suc k) s d (omega arith) (omega arith)) (λ j k d e a h. rise (suc j) (suc k) d e (omega arith) (omega arith)) (λ k d h. fits (suc k) d (omega arith)),
          ),
        ),
      ),
    )

Contains-take : (xs : List Step) (i : ℕ) (s : Step) → Contains (take i xs) s → Contains xs s
Contains-take xs i s c = subst (λ ys. Contains ys s) (take-append-drop i xs) (Contains-append_left (take i xs) (drop i xs) s c)

module _ (vars : ℕ) (room : vars < 2 ^ 62) where
  signs : (c : List Literal) → AllByRecursion (IsWithin vars) c → AreSigned c
  signs [] a = tt
  signs (l ∷ ls) a = ((a.0.0, omega (arith, a.0.1, room)), signs ls a.1)

  bounds : (c : List Literal) → AllByRecursion (IsWithin vars) c → AllByRecursion (λ l. l.var ≤ vars) c
  bounds [] a = tt
  bounds (l ∷ ls) a = (a.0.1, bounds ls a.1)

module _ (f : Clauses) (lines : List Step) (w : AreWritable f lines) (few : length f.clauses < 2 ^ 62) where
  number : (k h : ℕ) → ((c : List Literal) × Names f.clauses (take k lines) h c) → IsNumber h
  number k h n = elim n.1 [
    | inl a ↦ (a.0, (let b = slice_get_within f.clauses (h - 1) n.0 a.1 in omega (arith, a.0, b, few)))
    | inr x ↦
        (let inside = Contains-take lines k x.0 x.1.0 in
        let low = All-contains (λ (s : Step). length f.clauses < s.id) lines x.0 w.above inside in
        let high = All-contains (λ (s : Step). s.id < 2 ^ 62) lines x.0 w.numbers inside in
        (omega (arith, low, x.1.1), omega (arith, high, x.1.1)))
  ]

  all_numbers : (k : ℕ) (hs : List ℕ) → AllByRecursion (λ h. (c : List Literal) × Names f.clauses (take k lines) h c) hs → AreNumbers hs
  all_numbers k [] a = tt
  all_numbers k (h ∷ hs) a = (number k h a.0, all_numbers k hs a.1)

  fits : f.vars < 2 ^ 62 → Derives f.clauses lines → (k : ℕ) (d : Step) → k < length lines → Fits f.vars (get_or lines k d)
  fits room derives k d h =
      let low = All-get_or (λ (s : Step). length f.clauses < s.id) lines k d h w.above in
      let high = All-get_or (λ (s : Step). s.id < 2 ^ 62) lines k d h w.numbers in
      let inside = recursion_from_All (IsWithin f.vars) (get_or lines k d).clause (All-get_or (λ (s : Step). All (IsWithin f.vars) s.clause) lines k d h w.within) in
      record {
        id = (omega (arith, low), high);
        signed = signs f.vars room (get_or lines k d).clause inside;
        within = bounds f.vars room (get_or lines k d).clause inside;
        hints = all_numbers k (get_or lines k d).hints (recursion_from_All (λ h. (c : List Literal) × Names f.clauses (take k lines) h c) (get_or lines k d).hints (w.hinted k d h));
        no_tautology = (derives k h d).0;
      }

  are_kept : f.vars < 2 ^ 62 → Derives f.clauses lines → AreKept (length f.clauses) f.vars lines
  are_kept room derives = kept f.vars (length f.clauses) lines (λ k d h. All-get_or (λ (s : Step). length f.clauses < s.id) lines k d h w.above) w.rising (fits room derives)

-- where there is a line, the formula has fewer clauses than its id
kept_all : (f : Clauses) (lines : List Step) → f.vars < 2 ^ 62 → Derives f.clauses lines → AreWritable f lines → AreKept (length f.clauses) f.vars lines
kept_all f [] room derives w = tt
kept_all f (s ∷ ss) room derives w =
    let low = All-get_or (λ (x : Step). length f.clauses < x.id) (s ∷ ss) 0 s (omega arith) w.above in
    let high = All-get_or (λ (x : Step). x.id < 2 ^ 62) (s ∷ ss) 0 s (omega arith) w.numbers in
    are_kept f (s ∷ ss) w (omega (arith, low, high)) room derives

pub written_is_read : (f : Clauses) (p : Proof) → f.vars < 2 ^ 62 → Derives f.clauses p.lines → AreWritable f p.lines → IsProofText (length f.clauses) f.vars (lrat p) p.lines
written_is_read f p room derives w =
    let r = written f.vars (length f.clauses) 0 p.lines (kept_all f p.lines room derives w) in
    record { last = r.end; count = r.lines; read = r.read }
