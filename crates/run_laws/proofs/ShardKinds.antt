-- Which records of a batch a shard has.
use Rattle.std.proofs.Common.{◌≡◌, ◌⊎◌, inl, inr, ℕ, ◌+◌, ◌-◌, ◌<◌, Bool, true, false, ◌&&◌, ◌==◌, nat_lt, if◌then◌else◌, List, [], ◌∷◌, ◌++◌, refl}
use Rattle.std.proofs.Common.{sym, subst, arith}
use Rattle.cbdc_model.specs.Records.{Digest, Shape, Compact, Batch, Record, Row, journal, kind_of, is_of, same_batch, Genesis, Lock, Finish, Forget}
use Rattle.cbdc_model.specs.Records.{Start, Upgrade, Carry, CarryStart, Seal}
use Rattle.cbdc_model.specs.Ranges.{shard_node, on_shard}
use Rattle.cbdc_model.specs.Grammar.{IsInGrammar}
use Rattle.cbdc_model.specs.Clean.{IsProperCompact}
use Rattle.cbdc_model.specs.History.{Minted, minted, header_of, first_rows, IsSteady}
use Rattle.cbdc_model.specs.World.{count_of, first_record}
use Rattle.ledger_laws.proofs.FirstJournals.{first_is}
use Rattle.ledger_laws.proofs.Rows.{at, away, at_node}
use Rattle.run_laws.specs.Laws.{ShardKindsLaw}

and_false : (a : Bool) → (a && false) ≡ false
and_false true = refl
and_false false = refl

false_and : (a c : Bool) → a ≡ false → (a && c) ≡ false
false_and a c e = subst (λ d. (d && c) ≡ false) (sym e) refl

unlike : (k n : ℕ) → (n ≡ k → ⊥) → (k == n) ≡ false
unlike k n f = elim (at_node k n) [ at e ↦ absurd (f (sym e)) | away a ↦ a ]

is_same : (k n : ℕ) → (k == n) ≡ true → k ≡ n
is_same k n e = grind arith

none_of : (a : Bool) → (if a && false then 1 else 0) + 0 ≡ 0
none_of true = refl
none_of false = refl

no_more : (c : Bool) (n : ℕ) → c ≡ false → n ≡ 0 → (if c then 1 else 0) + n ≡ 0
no_more c n e z = grind arith

module _ (K : Shape) (m : Minted) (P : Compact → Type 0) (s kind : ℕ) (b : Batch) (lt : s < K.shards)
    (other : (kind ≡ 2) ⊎ (kind ≡ 3) ⊎ (kind ≡ 4) → ⊥) where
  not_it : (id : Digest) (n : ℕ) (r : Record) → n ≡ shard_node K s → IsInGrammar (header_of K id n) r → ((kind_of r == kind) && is_of b r) ≡ false
  not_it id n (Genesis header hs) e g = and_false (1 == kind)
  not_it id n (Lock stamp c es) e g = false_and (2 == kind) (same_batch c b) (unlike 2 kind (λ k. other (inl k)))
  not_it id n (Finish stamp c ds) e g = false_and (3 == kind) (same_batch c b) (unlike 3 kind (λ k. other (inr (inl k))))
  not_it id n (Forget stamp c) e g = false_and (4 == kind) (same_batch c b) (unlike 4 kind (λ k. other (inr (inr k))))
  not_it id n (Start header) e g = and_false (5 == kind)
  not_it id n (Upgrade stamp batch) e g = absurd g
  not_it id n (Carry stamp header source hs numbers) e g = absurd g
  not_it id n (CarryStart stamp header source numbers) e g = absurd g
  not_it id n (Seal stamp to shards) e g = absurd g
  not_it id n other e g = let l : n < K.coordinators = g.2 in absurd (omega arith)

  first : count_of kind (first_record K m (shard_node K s) ∷ []) b ≡ 0
  first = elim (nat_lt (shard_node K s) K.coordinators) as (λ c. count_of kind ((if c then Start (header_of K m.id (shard_node K s))
      else Genesis (header_of K m.id (shard_node K s)) (on_shard K (shard_node K s - K.coordinators) m.hashes)) ∷ []) b ≡ 0) [
        | true ↦ none_of (5 == kind)
        | false ↦ none_of (1 == kind)
      ]

  no_one : (later : List Row) → IsSteady K m P later → count_of kind (journal (shard_node K s) (later ++ first_rows K m)) b ≡ 0
  no_one [] h = subst (λ J. count_of kind J b ≡ 0) (sym (first_is K m (shard_node K s) (omega arith))) first
  no_one (row ∷ later) h =
      let ih : count_of kind (journal (shard_node K s) (later ++ first_rows K m)) b ≡ 0 = no_one later h.3 in
      elim (row.node == shard_node K s) as (λ c. row.node == shard_node K s ≡ c
      → count_of kind (if c then row.what ∷ journal (shard_node K s) (later ++ first_rows K m)
      else journal (shard_node K s) (later ++ first_rows K m)) b ≡ 0) [
        | true ↦ λ e. no_more ((kind_of row.what == kind) && is_of b row.what) (count_of kind (journal (shard_node K s) (later ++ first_rows K m)) b)
            (not_it m.id row.node row.what (is_same row.node (shard_node K s) e) h.0.0) ih
        | false ↦ λ e. ih
      ] refl

pub shard_kinds_law : ShardKindsLaw
shard_kinds_law K mint txs later s kind b lt kept other = no_one K (minted mint) (IsProperCompact txs) s kind b lt other later kept
