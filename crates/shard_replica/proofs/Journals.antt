-- A journal as records that went round, one after another.
use Rattle.std.proofs.Common.{◌≡◌, ℕ, ◌+◌, ◌≤◌, List, [], ◌∷◌, ◌++◌, length, reverse, replicate, refl, sym, ap, ◌∙◌, subst, arith}
use Rattle.std.proofs.lemmas.List.{reverse-append, reverse-reverse, length-reverse, length-replicate}
use Rattle.cbdc_model.specs.Records.{Header, Record}
use Rattle.cbdc_model.specs.After.{After, IsJournal}
use Rattle.shard_replica.specs.Groups.{Group, known_of, begun}
use Rattle.shard_replica.specs.Rounds.{IsAtRest, round}
use Rattle.shard_replica.specs.Laws as laws
use Rattle.shard_replica.proofs.Lists.{zero_at}
use Rattle.shard_replica.proofs.Beginning.{first as beginner, first_at}
use Rattle.shard_replica.proofs.Rounds.{run_more, round_reach}

-- a group at its beginning is at rest
begun_rest : (h : Header) (backups : ℕ) (records : List Record) → IsAtRest h backups records (begun h records backups)
begun_rest h backups records = record {
  header = refl;
  count = length-replicate (backups + 1) (beginner h records backups);
  members = λ b le. first_at h records backups b (omega arith);
  primary = refl;
  term = refl;
  known_count = length-replicate {A = ℕ} (backups + 1) 0;
  known = λ b. (let z : known_of (begun h records backups) b ≡ 0 = zero_at (backups + 1) b in omega arith);
  answered = refl;
  flying = refl;
}

-- a journal with a record behind another is one without it
below : (h : Header) (r : Record) (J : List Record) → 1 ≤ length J → IsJournal h (r ∷ J) → After h J r × IsJournal h J
below h r [] some w = absurd (omega arith)
below h r (q ∷ past) some w = w

ends_some : (first : Record) (more : List Record) → 1 ≤ length (more ++ first ∷ [])
ends_some first [] = omega arith
ends_some first (r ∷ more) = omega arith

pub journal_law : laws.JournalLaw
journal_law h backups first [] w = ([], begun h (first ∷ []) backups, refl, begun_rest h backups (first ∷ []))
journal_law h backups first (r ∷ more) w =
    let p = below h r (more ++ first ∷ []) (ends_some first more) w in
    let before = journal_law h backups first more p.1 in
    let some : 1 ≤ length (reverse (more ++ first ∷ [])) =
    (let l : length (reverse (more ++ first ∷ [])) ≡ length (more ++ first ∷ []) = length-reverse (more ++ first ∷ []) in
    omega (arith, l, ends_some first more)) in
    let next : After h (reverse (reverse (more ++ first ∷ []))) r = subst (λ xs. After h xs r) (sym (reverse-reverse (more ++ first ∷ []))) p.0 in
    let k = round_reach h backups (reverse (more ++ first ∷ [])) r some before.1 before.3 next in (
      before.0 ++ round backups before.1 r,
      k.0,
      run_more (begun h (first ∷ []) backups) before.1 k.0 before.0 (round backups before.1 r) before.2 k.1,
      subst (λ xs. IsAtRest h backups xs k.0) (sym (reverse-append (r ∷ []) (more ++ first ∷ []))) k.2,
    )
