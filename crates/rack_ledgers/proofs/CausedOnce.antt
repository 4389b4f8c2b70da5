-- Disks that tell their contents tell one history.
use Rattle.std.proofs.Common.{◌≡◌, ◌<◌, ◌+◌, ◌++◌, ◌∷◌, [], ℕ, List, reverse, Option, inl, inr, sym, ◌∙◌, ap, append_assoc, subst, arith}
use Rattle.std.proofs.lemmas.Bool.{cases_lt}
use Rattle.std.proofs.lemmas.List.{reverse-append}
use Rattle.outside.specs.declared.disk.Disk.{Ghosts}
use Rattle.cbdc_types.specs.declared.answer.Answer.{Answer}
use Rattle.cbdc_model.specs.Records.{Digest, Shape, Row, journal}
use Rattle.cbdc_model.specs.History.{header_of}
use Rattle.ledger_laws.proofs.OneHistory.{one_history}
use Rattle.rack_ledgers.proofs.Once.{opens_once_law}
use Rattle.audit.specs.Walks.{AllCaused, IsFirstUncaused}
use Rattle.rack_ledgers.specs.Caused.{IsToldHistory, IsCausedLedger, IsUnsound}
use Rattle.rack_ledgers.specs.RefusalLaws.{AllTell}
use Rattle.rack_ledgers.proofs.CausedTold.{told_history}

module _ {D : Type 0} (device : Ghosts D) (held : ℕ → Option D) (K L : Shape) (g k : Digest) (rows more : List Row)
    (one : IsToldHistory device held K g rows) (other : IsToldHistory device held L k more) (tell : AllTell device held K) where
  same_at : (n : ℕ) → n < K.coordinators + K.shards → n < L.coordinators + L.shards
      → (header_of K g n ≡ header_of L k n) × (journal n (reverse rows) ≡ journal n (reverse more))
  same_at n low low' =
      let t = tell n low in
      let a = one.opened n low t.0 t.1 t.2.0 t.2.1 in
      let b = other.opened n low' t.0 t.1 t.2.0 t.2.1 in
      opens_once_law (header_of K g n) (header_of L k n) (journal n (reverse rows)) (journal n (reverse more)) t.2.0 one.limits other.limits
      a.journal b.journal a.opens b.opens

  pub same_shape : K ≡ L
  same_shape = ap (λ h. h.shape) (same_at 0 (omega (arith, one.limits.some_coordinator)) (omega (arith, other.limits.some_coordinator))).0

  pub same_rows : reverse rows ≡ reverse more
  same_rows = one_history (reverse rows) (reverse more) one.ordered other.ordered journals
    where
      journals : (n : ℕ) → journal n (reverse rows) ≡ journal n (reverse more)
      journals n =
          let nodes : K.coordinators + K.shards ≡ L.coordinators + L.shards = ap (λ (s : Shape). s.coordinators + s.shards) same_shape in
          elim (cases_lt n (K.coordinators + K.shards)) [
            | inl low ↦ (same_at n low (omega (arith, low, nodes))).1
            | inr past ↦ one.others n past ∙ sym (other.others n (omega (arith, past, nodes)))
          ]

caused_behind : (K : Shape) (xs ys : List Row) → AllCaused K (xs ++ ys) → AllCaused K ys
caused_behind K [] ys all = all
caused_behind K (x ∷ xs) ys all = caused_behind K xs ys all.1

-- where each row is caused, none is the first that is not
pub none_uncaused : (K : Shape) (rows : List Row) (place : ℕ) → AllCaused K (reverse rows) → IsFirstUncaused K rows place → ⊥
none_uncaused K rows place all first =
    let turned : reverse rows ≡ reverse first.after ++ first.row ∷ reverse first.before =
    ap reverse first.rows_are ∙ reverse-append first.before (first.row ∷ first.after)
    ∙ ap (λ (l : List Row). l ++ reverse first.before) (reverse-append (first.row ∷ []) first.after)
    ∙ append_assoc (reverse first.after) (first.row ∷ []) (reverse first.before) in
    first.uncaused (caused_behind K (reverse first.after) (first.row ∷ reverse first.before) (subst (AllCaused K) turned all)).0

pub not_both : {D : Type 0} (device : Ghosts D) (held : ℕ → Option D) (caused : IsCausedLedger device held) (a : Answer)
    → AllTell device held caused.shape → IsUnsound device held a → ⊥
not_both device held caused a tell un =
    let theirs = told_history device held un.header un.logs un.shards un.opened un.uncaused.rows un.uncaused.merged in
    let shape = same_shape device held caused.shape un.header.shape caused.genesis un.header.genesis caused.rows un.uncaused.rows caused.history
    theirs tell in
    let rows = same_rows device held caused.shape un.header.shape caused.genesis un.header.genesis caused.rows un.uncaused.rows caused.history theirs
    tell in
    none_uncaused un.header.shape un.uncaused.rows un.place
    (subst (λ (K : Shape). AllCaused K (reverse un.uncaused.rows)) shape (subst (AllCaused caused.shape) rows caused.caused)) un.uncaused.first
