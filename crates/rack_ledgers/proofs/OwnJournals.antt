-- The nodes of a ledger that are opened, and the journals that they have.
use Rattle.std.proofs.Common.{◌≡◌, ◌+◌, ◌<◌, ◌≤◌, ◌∙◌, ℕ, List, length, reverse, Option, ap, subst}
use Rattle.outside.specs.Images.{Tells}
use Rattle.outside.specs.declared.disk.Disk.{Ghosts}
use Rattle.cbdc_model.specs.Records.{Shape, Header, Record}
use Rattle.cbdc_model.specs.After.{IsJournal}
use Rattle.cbdc_model.specs.History.{header_of}
use Rattle.cbdc_model.specs.Room.{kept_room}
use Rattle.cbdc_model.specs.Due.{used_of}
use Rattle.record_log.specs.Held.{OpensTo, OpensToEither}
use Rattle.node_journal.specs.Nodes.{NodeOf}
use Rattle.rack_ledgers.specs.Racked.{OfTold, StillHolds}
use Rattle.rack_ledgers.specs.Refused.{IsAny, IsNodeJournal}
use Rattle.rack_ledgers.specs.Ledgers.{ByPlace, IsNodeAt, AreOpened}
use Rattle.rack_ledgers.proofs.Told.{told_some}
use Rattle.rack_ledgers.proofs.EachNode.{each_node}

module _ {D : Type 0} (device : Ghosts D) (held : ℕ → Option D) (h : Header) where
  -- a node whose disk is put back still holds its journal
  node_holds : (now : ℕ → Option D) (n : ℕ) (x : NodeOf D) → IsNodeAt device held IsAny h n x → OfTold (now n) (λ d. d ≡ x.disk)
      → StillHolds device (held n) (now n) (header_of h.shape h.genesis n) x.journal
  node_holds now n x is put was told some d is_now c image =
      told_some (device.content was) (IsNodeJournal (header_of h.shape h.genesis n) x.journal c)
      (λ bytes reads.
      let found = (is.opened was told).stands bytes reads in
      let opens : OpensTo (reverse x.journal) c =
      subst (λ (o : Option Record). OpensToEither (reverse x.journal) o c) is.flight
      (found.1.each c (subst (λ (y : D). device.images y c) (put d is_now) image)) in
      let own : IsNodeJournal x.header x.journal c = record { opens = opens; limits = found.0.limits; journal = is.journal; kind = tt } in
      subst (λ (k : Header). IsNodeJournal k x.journal c) is.header own)
      some

  module _ (logs shards : List (NodeOf D)) (are : AreOpened device held h logs shards) (J : ℕ → List Record)
      (of_logs : ByPlace (λ n l. l.journal ≡ J n) logs) (of_shards : ByPlace (λ s x. x.journal ≡ J (length logs + s)) shards) where
    abbrev IsOwn : ℕ → NodeOf D → Type 0
    IsOwn n x = x.journal ≡ J n

    abbrev OpensAs : ℕ → Header → List Record → Type 0
    OpensAs n k past = OfTold (held n) (λ was. Tells (device.content was) (IsNodeJournal k past))

    abbrev HasRoomAt : ℕ → Shape → List Record → Type 0
    HasRoomAt n K past = OfTold (held n) (λ was. used_of past + kept_room K past ≤ device.limit was)

    -- they are journals of the ledger's nodes
    pub each_own : (n : ℕ) → n < h.shape.coordinators + h.shape.shards → IsJournal (header_of h.shape h.genesis n) (J n)
    each_own n inside =
        each_node device held h logs shards are IsOwn (λ k. IsJournal (header_of h.shape h.genesis k) (J k))
        (λ k x is own. subst (λ (past : List Record). IsJournal (header_of h.shape h.genesis k) past) own
        (subst (λ (g : Header). IsJournal g x.journal) is.header is.journal))
        of_logs of_shards n inside

    -- what was told of each disk opens to its node's
    pub each_opens : (n : ℕ) → n < h.shape.coordinators + h.shape.shards → OpensAs n (header_of h.shape h.genesis n) (J n)
    each_opens n inside =
        each_node device held h logs shards are IsOwn (λ k. OpensAs k (header_of h.shape h.genesis k) (J k))
        (λ k x is own. subst (λ (past : List Record). OpensAs k (header_of h.shape h.genesis k) past) own
        (subst (λ (g : Header). OpensAs k g x.journal) is.header (λ was told c reads. ((is.opened was told).stands c reads).0)))
        of_logs of_shards n inside

    -- each disk has room for it
    pub each_room : (n : ℕ) → n < h.shape.coordinators + h.shape.shards → HasRoomAt n h.shape (J n)
    each_room n inside =
        each_node device held h logs shards are IsOwn (λ k. HasRoomAt k h.shape (J k))
        (λ k x is own. subst (λ (past : List Record). HasRoomAt k h.shape past) own
        (subst (λ (K : Shape). HasRoomAt k K x.journal) (ap (λ (g : Header). g.shape) is.header)
        (λ was told. subst (λ m. used_of x.journal + kept_room x.header.shape x.journal ≤ m) (is.capacity ∙ (is.opened was told).read.room) is.room)))
        of_logs of_shards n inside

    -- and each that is put back holds it still
    pub each_holds : (now : ℕ → Option D) → ByPlace (λ n l. OfTold (now n) (λ d. d ≡ l.disk)) logs
        → ByPlace (λ s x. OfTold (now (length logs + s)) (λ d. d ≡ x.disk)) shards
        → (n : ℕ) → n < h.shape.coordinators + h.shape.shards → StillHolds device (held n) (now n) (header_of h.shape h.genesis n) (J n)
    each_holds now closed_logs closed_shards n inside =
        each_node device held h logs shards are (λ k x. OfTold (now k) (λ d. d ≡ x.disk) × IsOwn k x)
        (λ k. StillHolds device (held k) (now k) (header_of h.shape h.genesis k) (J k))
        (λ k x is closed. subst (λ (past : List Record). StillHolds device (held k) (now k) (header_of h.shape h.genesis k) past) closed.1
        (node_holds now k x is closed.0))
        (λ k x at. (closed_logs k x at, of_logs k x at)) (λ s x at. (closed_shards s x at, of_shards s x at)) n inside
