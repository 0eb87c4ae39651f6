-- The records that a reader has yet to give, one after another.
use Rattle.std.proofs.Common.{◌≡◌, ◌∙◌, ◌⊎◌, ℕ, zero, suc, ◌+◌, ◌≤◌, List, [], ◌∷◌, ◌++◌, length, Bool, true, false, Option, Some, None, refl, sym, ap, arith, inl, inr}
use denote.Ref.{Bor}
use Rattle.csv.specs.Machine.{Read, next_record}
use Rattle.csv.specs.Reading.{Reached, ReadRecord, Ready, default_config, records_from, records_next, source_of}
use Rattle.csv.specs.declared.parser.Config.{Config}
use Rattle.csv.specs.declared.parser.State.{State}
use Rattle.csv.proofs.ReadFacts.{rows-end, rows-more}
use Rattle.rr_trace.specs.Coming.{ByteReader, IsComing, Follows}
use Rattle.rr_trace.specs.Names.{Text}
use Rattle.rr_trace.proofs.Counted.{Leaves, leaves, ended, enough}

first : (cfg : Config) (s : State) (xs : List ℕ) (p : Read) → next_record cfg s [] [] xs ≡ Some p → records_from cfg (length xs + 1) s xs ≡ p.0 ∷ records_from cfg (length xs) p.1 p.2
unfolding records_from
first cfg s xs p e = let n : length xs + 1 ≡ suc (length xs) = omega arith in ap (λ m. records_from cfg m s xs) n ∙ ap (records_next (records_from cfg (length xs))) e

-- the records after the one that was read
after : (cfg : Config) (s : State) (xs : List ℕ) (p : Read) → next_record cfg s [] [] xs ≡ Some p
    → records_from cfg (length xs + 1) s xs ≡ p.0 ∷ records_from cfg (length p.2 + 1) p.1 p.2
after cfg s xs p e = go (leaves cfg s [] [] xs p e) (first cfg s xs p e)
  where
    go : Leaves p xs → records_from cfg (length xs + 1) s xs ≡ p.0 ∷ records_from cfg (length xs) p.1 p.2 → records_from cfg (length xs + 1) s xs ≡ p.0 ∷ records_from cfg (length p.2 + 1) p.1 p.2
    go (inl less) f = f ∙ ap (λ rs. p.0 ∷ rs) (enough cfg (length xs) p.1 p.2 less)
    go (inr none) f = f ∙ ap (λ rs. p.0 ∷ rs) (rw (none.0, none.1) (ended cfg (length xs) ∙ sym (ended cfg (length {A = ℕ} [] + 1))))

no_more : (cfg : Config) (s : State) (xs : List ℕ) → next_record cfg s [] [] xs ≡ None → records_from cfg (length xs + 1) s xs ≡ []
unfolding records_from
no_more cfg s xs e = let n : length xs + 1 ≡ suc (length xs) = omega arith in ap (λ m. records_from cfg m s xs) n ∙ ap (records_next (records_from cfg (length xs))) e

-- what a read of a record leaves
pub follows : (a b : ByteReader) (found : Bool) (fields : List Text) (coming : List (List Text)) → IsComing a coming
    → ReadRecord (λ s. Some s.now) a b found fields → Ready b → Follows found fields b coming
unfolding Follows Reached
follows a b false fields coming h r ready =
    h.records ∙ no_more default_config a.state h.left (rows-end (λ (s : Bor (List ℕ)). Some s.now) a b fields default_config h.left h.config h.source r)
follows a b true fields coming h r ready =
    let m = rows-more (λ (s : Bor (List ℕ)). Some s.now) a b fields default_config a.state h.left h.left [] h.config h.source (refl, refl) r in
    let p = m.2.0 in (
      records_from default_config (length m.0 + 1) b.state m.0,
      (
        h.records ∙ (after default_config a.state h.left p m.2.1 ∙ same p fields b.state m.0 m.2.2 m.2.3.0 m.2.3.1),
        record { plain = r.3 ∙ h.plain; ready = ready; config = r.2 ∙ h.config; left = m.0; source = m.1; records = refl },
      ),
    )
  where
    same : (p : Read) (fields : List Text) (s : State) (z : List ℕ) → fields ≡ p.0 → p.1 ≡ s → p.2 ≡ z
        → p.0 ∷ records_from default_config (length p.2 + 1) p.1 p.2 ≡ fields ∷ records_from default_config (length z + 1) s z
    same p fields s z e f g = rw (e, ← f, ← g) refl
