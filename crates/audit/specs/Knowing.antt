-- What a walk over a history has kept of the journals so far.
use Rattle.std.specs.Prelude.{◌≡◌, ◌<◌, ℕ, Bool, ◌&&◌, nat_eq, ◌==◌, List, length, Option, Some, None, option_map, unwrap_or, if◌then◌else◌}
use Rattle.std.specs.HashMap.{get}
use Rattle.cbdc_model.specs.Records.{Answered, Batch, Reply, Record, record_of, last_stamp}
use Rattle.audit.specs.Rows.{journal_in, record_at}
use Rattle.audit.specs.declared.known.Known.{Known}

-- a record's key: a node, a kind, a lane and a number
abbrev pub Key : Type 0
Key = ℕ × ℕ × ℕ × ℕ

-- whether two are the same
abbrev pub same_record_key : Key → Key → Bool
same_record_key x y = ((nat_eq x.0 y.0 && nat_eq x.1 y.1) && nat_eq x.2 y.2) && nat_eq x.3 y.3

-- the index in its node's journal of the newest record of a kind of a batch
abbrev pub index_of : Known → ℕ → ℕ → Batch → Option ℕ
index_of k n kind b = get same_record_key k.indices (n, kind, b.lane, b.number)

-- what is kept are the newest records of each kind of each batch in the journals J, and their last stamps
pub record Knows (all : List (List Record)) (k : Known) (J : ℕ → List Record) : Type 0 where
  pub inside : (n kind : ℕ) (b : Batch) (i : ℕ) → index_of k n kind b ≡ Some i → i < length (journal_in all n)
  pub newest : (n kind : ℕ) (b : Batch) → option_map (λ i. record_at all (record { node = n; index = i })) (index_of k n kind b)
      ≡ record_of kind (J n) b
  pub stamps : (n : ℕ) → unwrap_or (get nat_eq k.stamps n) 0 ≡ last_stamp (J n)

-- the reply to a place by the entries so far, and by one more
abbrev pub reply_with : Option Reply → Answered → ℕ → Option Reply
reply_with (Some r) a k = Some r
reply_with None a k = if a.entry.place == k then Some a.reply else None
