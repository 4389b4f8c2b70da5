-- What a node's disk holds, and what a crash leaves while it is called.
use Rattle.std.proofs.Common.{◌≡◌, inl, inr, ⊎_elim, ℕ, List, [], ◌∷◌, ◌++◌, reverse, Option, Some, None, sym, ◌∙◌, ap, subst}
use Rattle.std.specs.Prelude.{IsTrue}
use Rattle.std.proofs.lemmas.List.{reverse-reverse, map-append}
use Rattle.cbdc_model.specs.Records.{Record}
use Rattle.outside.specs.Images.{Leaves}
use Rattle.outside.specs.declared.disk.Disk.{Ghosts}
use Rattle.outside.proofs.Moments.{started, weakened}
use Rattle.gate_journal.specs.Rows.{Opens, OpensWithOrWithout}
use Rattle.gate_journal.specs.Shown.{disk_of, broken_of}
use Rattle.record_log.specs.Bodies.{body_of}
use Rattle.record_log.specs.declared.log.RecordLog.{RecordLog}
use Rattle.record_log.specs.Held.{bodies_of, OpensTo, OpensToEither}
use Rattle.record_log.specs.Logs.{HoldsAll, IsUntouched}
use Rattle.node_journal.specs.Nodes.{NodeOf, HoldsJournal, OpensToSeen, IsLeftBetween, LeavesBetween}
use Rattle.node_journal.specs.Shown.{shown}

-- a call that writes nothing
pub leaves_as_it_was : {D : Type 0} (G : Ghosts D) (s : NodeOf D)
    → ((c : List ℕ) → IsTrue (G.tells_past s.disk) → G.images_since s.disk (G.moment s.disk) c → G.images s.disk c)
    → HoldsJournal G s → LeavesBetween G s s
leaves_as_it_was G s only_now holds = started G.tells_past G.moment G.images_since G.images s.disk (IsLeftBetween s s) only_now
    (λ c image. inl (holds.each c image))

-- the same, seen in another way
pub leaves_as_seen : {D : Type 0} (G : Ghosts D) (s t : NodeOf D) → t ≡ s
    → ((c : List ℕ) → IsTrue (G.tells_past s.disk) → G.images_since s.disk (G.moment s.disk) c → G.images s.disk c)
    → HoldsJournal G s → LeavesBetween G s t
leaves_as_seen {D} G s t same only_now holds =
    let P : NodeOf D → Type 0 = λ x. LeavesBetween G s x in
    subst P (sym same) (leaves_as_it_was G s only_now holds)

module _ {D : Type 0} {G : Ghosts D} where
  seen : (l : RecordLog D G) (opened : ℕ) (flight : Option Record) (c : List ℕ) → flight ≡ None → Opens (bodies_of l.records.items) c
      → OpensToSeen (shown l opened flight) c
  seen l opened flight c none opens =
      subst (λ (f : Option Record). OpensToEither (reverse (reverse l.records.items)) f c) (sym none)
      (subst (λ (k : List Record). OpensTo k c) (sym (reverse-reverse l.records.items)) opens)

  -- a record that was written
  pub written_between : (old new : RecordLog D G) (opened : ℕ) (flight : Option Record) (r : Record) → flight ≡ None
      → new.records.items ≡ old.records.items ++ r ∷ []
      → Leaves G.tells_past G.moment G.images_since G.images (disk_of old.journal) (disk_of new.journal)
      (OpensWithOrWithout (bodies_of old.records.items) (body_of r))
      → LeavesBetween G (shown old opened flight) (shown new opened flight)
  written_between old new opened flight r none records leaves =
      let spelled : bodies_of new.records.items ≡ bodies_of old.records.items ++ body_of r ∷ [] =
      ap bodies_of records ∙ map-append body_of old.records.items (r ∷ []) in
      weakened G.tells_past G.moment G.images_since G.images (disk_of old.journal) (disk_of new.journal)
      (OpensWithOrWithout (bodies_of old.records.items) (body_of r))
      (IsLeftBetween (shown old opened flight) (shown new opened flight)) leaves
      (λ c either. ⊎_elim
      (λ before. inl (seen old opened flight c none before))
      (λ more. inr (seen new opened flight c none (subst (λ (b : List (List ℕ)). Opens b c) (sym spelled) more)))
      either)

  -- a record at which the disk failed
  pub failed_between : (old new : RecordLog D G) (opened : ℕ) (flight : Option Record) (r : Record) → new.records.items ≡ old.records.items
      → Leaves G.tells_past G.moment G.images_since G.images (disk_of old.journal) (disk_of new.journal)
      (OpensWithOrWithout (bodies_of old.records.items) (body_of r))
      → LeavesBetween G (shown old opened flight) (shown new opened (Some r))
  failed_between old new opened flight r records leaves =
      let same : old.records.items ≡ reverse (reverse new.records.items) = sym records ∙ sym (reverse-reverse new.records.items) in
      weakened G.tells_past G.moment G.images_since G.images (disk_of old.journal) (disk_of new.journal)
      (OpensWithOrWithout (bodies_of old.records.items) (body_of r))
      (IsLeftBetween (shown old opened flight) (shown new opened (Some r))) leaves
      (λ c either. inr (subst (λ (k : List Record). OpensWithOrWithout (bodies_of k) (body_of r) c) same either))

-- room that a log takes is not seen
pub shown_same : {D : Type 0} {G : Ghosts D} (old new : RecordLog D G) (opened : ℕ) (flight : Option Record) → IsUntouched old new
    → new.records.items ≡ old.records.items → new.header ≡ old.header → shown new opened flight ≡ shown old opened flight
shown_same {D} {G} old new opened flight untouched records header = λ i. record {
  header = header i;
  journal = reverse (records i);
  flight = flight;
  faults = G.count (untouched.disk i);
  opened = opened;
  broken = untouched.broken i;
  gate = untouched.gate i;
  capacity = G.limit (untouched.disk i);
  disk = untouched.disk i;
}

-- a disk that holds the records, and nothing in flight
pub to_journal : {D : Type 0} {G : Ghosts D} (l : RecordLog D G) (opened : ℕ) (flight : Option Record) → flight ≡ None → HoldsAll l l.records.items
    → HoldsJournal G (shown l opened flight)
to_journal {D} {G} l opened flight none holds =
    let same : reverse (reverse l.records.items) ≡ l.records.items = reverse-reverse l.records.items in
    record {
      each = λ c image. rw (none, same) (let P : List ℕ
          → Type 0 = λ x. OpensToEither l.records.items None x in subst P (sym (holds.durable c image)) holds.opens);
      reads = λ e. rw same holds;
    }

pub from_journal : {D : Type 0} {G : Ghosts D} (l : RecordLog D G) (opened : ℕ) (flight : Option Record) → broken_of l.journal ≡ None
    → HoldsJournal G (shown l opened flight) → HoldsAll l l.records.items
from_journal {D} {G} l opened flight whole journal =
    let same : reverse (reverse l.records.items) ≡ l.records.items = reverse-reverse l.records.items in
    let h = journal.reads whole in
    rw same at h

-- a disk that failed leaves the record in flight
pub to_broken : {D : Type 0} {G : Ghosts D} (l : RecordLog D G) (records : List Record) (opened : ℕ) (r : Record) → l.records.items ≡ records
    → broken_of l.journal ≡ Some (G.count (disk_of l.journal))
    → ((c : List ℕ) → G.images (disk_of l.journal) c → OpensWithOrWithout (bodies_of records) (body_of r) c)
    → HoldsJournal G (shown l opened (Some r))
to_broken {D} {G} l records opened r same broken each =
    let twice : reverse (reverse l.records.items) ≡ records = reverse-reverse l.records.items ∙ same in
    record {
      each = λ c image. rw twice (each c image);
      reads = λ e. cc;
    }
