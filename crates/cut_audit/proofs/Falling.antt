-- Along a journal, the newest record first, stamps fall; so what came behind a list that was taken of it has greater stamps.
use Rattle.std.proofs.Common.{◌≡◌, ℕ, ◌+◌, ◌<◌, ◌≤◌, Bool, true, nat_lt, if◌then◌else◌, List, [], ◌∷◌, ◌++◌, length, reverse, refl, sym, ap, ◌∙◌}
use Rattle.std.proofs.Common.{subst, arith}
use mathlib.Core.List.{reverse_aux}
use Rattle.std.proofs.lemmas.Bool.{cases_lt}
use Rattle.std.proofs.lemmas.List.Elements.{All-nil, All-cons, All-weaker}
use Rattle.std.proofs.Common.{inl, inr}
use Rattle.cbdc_model.specs.Records.{Shape, Digest, Header, Compact, Record, Row, journal, stamp_of, last_stamp, Genesis, Lock, Finish, Forget, Start}
use Rattle.cbdc_model.specs.Records.{Prepare, Commit, Discard, Done, Carry, CarryStart}
use Rattle.cbdc_model.specs.After.{After}
use Rattle.cbdc_model.specs.History.{Minted, header_of, first_rows, IsSteady}
use Rattle.ledger_laws.proofs.FirstJournals.{first_is, first_beyond}
use Rattle.ledger_laws.proofs.Rows.{at, away, at_node, head_at, head_away}
use Rattle.audit.specs.Rows.{Rises}
use Rattle.cut_audit.specs.Cuts.{up_to}

abbrev pub Falls : List Record → Type 0
Falls [] = Unit {0}
Falls (r ∷ []) = Unit {0}
Falls (r ∷ (q ∷ J)) = (stamp_of q < stamp_of r) × Falls (q ∷ J)

falls_rest : (r : Record) (J : List Record) → Falls (r ∷ J) → Falls J
falls_rest r [] f = tt
falls_rest r (q ∷ J) f = f.1

pub falls_end : (more L : List Record) → Falls (more ++ L) → Falls L
falls_end [] L f = f
falls_end (r ∷ more) L f = falls_end more L (falls_rest r (more ++ L) f)

-- the other way round they rise
above_rest : (r q : Record) (later : List Record) → stamp_of r < stamp_of q → Rises (q ∷ later) → Rises (r ∷ (q ∷ later))
above_rest r q later lt h = (
  All-cons (λ p. stamp_of r < stamp_of p) q later lt
      (All-weaker (λ p. stamp_of q < stamp_of p) (λ p. stamp_of r < stamp_of p) (λ p m. omega arith) later h.0),
  h,
)

onto : (r : Record) (past later : List Record) → Falls (r ∷ past) → Rises (r ∷ later) → Rises (reverse_aux past (r ∷ later))
onto r [] later f rises = rises
onto r (q ∷ past) later f rises = onto q past (r ∷ later) f.1 (above_rest q r later f.0 rises)

pub falls_rise : (J : List Record) → Falls J → Rises (reverse J)
falls_rise [] f = tt
falls_rise (r ∷ past) f = onto r past [] f (All-nil (λ p. stamp_of r < stamp_of p), tt)

-- ---- of a kept history

after_falls : (h : Header) (q : Record) (past : List Record) (r : Record) → After h (q ∷ past) r → stamp_of q < stamp_of r
after_falls h q past (Genesis header hs) a = absurd (let e : q ∷ past ≡ [] = a.1 in cc)
after_falls h q past (Carry stamp header source hs numbers) a = absurd (let e : q ∷ past ≡ [] = a.1 in cc)
after_falls h q past (Start header) a = absurd (let e : q ∷ past ≡ [] = a.1 in cc)
after_falls h q past (CarryStart stamp header source numbers) a = absurd (let e : q ∷ past ≡ [] = a.1 in cc)
after_falls h q past other a = a.1.0

on_top : (h : Header) (past : List Record) (r : Record) → After h past r → Falls past → Falls (r ∷ past)
on_top h [] r a f = tt
on_top h (q ∷ past) r a f = (after_falls h q past r a, f)

inside : (K : Shape) (id : Digest) (node : ℕ) (past : List Record) (r : Record) → After (header_of K id node) past r
    → node < K.coordinators + K.shards
inside K id node past (Genesis header hs) a = a.0.2.1
inside K id node past (Lock stamp b es) a = a.0.2.1
inside K id node past (Finish stamp b ds) a = a.0.2.1
inside K id node past (Forget stamp b) a = a.0.2.1
inside K id node past (Start header) a = omega (arith, a.0.2)
inside K id node past (Prepare stamp b txs) a = omega (arith, a.0.2)
inside K id node past (Commit stamp b os) a = omega (arith, a.0.2)
inside K id node past (Discard stamp b) a = omega (arith, a.0.2)
inside K id node past (Done stamp b) a = omega (arith, a.0.2)
inside K id node past other a = absurd a.0

module _ (K : Shape) (m : Minted) (P : Compact → Type 0) where
  first_falls : (n : ℕ) → Falls (journal n (first_rows K m))
  first_falls n = elim (cases_lt n (K.coordinators + K.shards)) [
    | inl lt ↦ subst Falls (sym (first_is K m n lt)) tt
    | inr le ↦ subst Falls (sym (first_beyond K m n le)) tt
  ]

  pub falls : (later : List Row) → IsSteady K m P later → (n : ℕ) → Falls (journal n (later ++ first_rows K m))
  falls [] kept n = first_falls n
  falls (row ∷ later) kept n = elim (at_node row.node n) [
    | at e ↦ subst Falls (sym (head_at row (later ++ first_rows K m) n e)) (subst (λ k. Falls (row.what ∷ journal k (later ++ first_rows K m))) e
        (on_top (header_of K m.id row.node) (journal row.node (later ++ first_rows K m)) row.what kept.0 (falls later kept.3 row.node)))
    | away e ↦ subst Falls (sym (head_away row (later ++ first_rows K m) n e)) (falls later kept.3 n)
  ]

  pub nothing_beyond : (later : List Row) → IsSteady K m P later → (n : ℕ) → K.coordinators + K.shards ≤ n → journal n (later ++ first_rows K m) ≡ []
  nothing_beyond [] kept n le = first_beyond K m n le
  nothing_beyond (row ∷ later) kept n le = elim (at_node row.node n) [
    | at e ↦ absurd (let lt = inside K m.id row.node (journal row.node (later ++ first_rows K m)) row.what kept.0 in omega (arith, lt, le, e))
    | away e ↦ head_away row (later ++ first_rows K m) n e ∙ nothing_beyond later kept.3 n le
  ]

-- ---- what came behind a list

top_above : (r : Record) (more L : List Record) → Falls (r ∷ (more ++ L)) → 0 < length L → last_stamp L < stamp_of r
top_above r [] [] f some = absurd (omega (arith, some))
top_above r [] (q ∷ L) f some = f.0
top_above r (p ∷ more) L f some = let rest = top_above p more L f.1 some in let here = f.0 in omega (arith, rest, here)

over : (s t : ℕ) → s < t → nat_lt s t ≡ true
over s t lt = grind (arith, lt)

-- none of it is up to a stamp that the list comes up to
pub not_in_cut : (s : ℕ) (more L : List Record) → Falls (more ++ L) → 0 < length L → s ≤ last_stamp L → up_to s (more ++ L) ≡ up_to s L
not_in_cut s [] L f some le = refl
not_in_cut s (r ∷ more) L f some le =
    let above = top_above r more L f some in
    ap (λ (c : Bool). if c then up_to s (more ++ L) else r ∷ up_to s (more ++ L)) (over s (stamp_of r) (omega (arith, above, le)))
    ∙ not_in_cut s more L (falls_rest r (more ++ L) f) some le
