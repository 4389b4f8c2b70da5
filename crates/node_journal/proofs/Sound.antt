-- A node stays one behind a record that was written, where the disk failed at one, and where memory was taken.
use Rattle.std.proofs.Common.{◌≡◌, ℕ, ◌+◌, ◌≤◌, List, [], ◌∷◌, ◌++◌, reverse, length, Option, Some, None, refl, sym, ◌∙◌, ap, subst, arith}
use Rattle.std.specs.Prelude.{IfSome}
use Rattle.std.proofs.lemmas.List.Sums.{sum_by-cons}
use Rattle.cbdc_types.specs.Limits.{IsWithinLimits}
use Rattle.cbdc_model.specs.Records.{Header, Shape, Record, Lock, Prepare}
use Rattle.cbdc_model.specs.After.{After, IsJournal}
use Rattle.cbdc_model.specs.Room.{kept_room, size_of, need_of}
use Rattle.cbdc_model.specs.Due.{used_of}
use Rattle.cbdc_model.specs.Sights.{IsBrokenSince}
use Rattle.outside.specs.declared.disk.Disk.{Ghosts}
use Rattle.gate_journal.specs.Shown.{disk_of, gate_of, broken_of}
use Rattle.record_log.specs.Bodies.{body_of}
use Rattle.record_log.proofs.LogSizes.{size_is}
use Rattle.record_log.specs.Logs.{HasLogRoom, KeepsRoom, IsUntouched}
use Rattle.record_log.specs.declared.log.RecordLog.{RecordLog}
use Rattle.node_journal.specs.Writing.{HasKept, HasBroken}
use Rattle.node_journal.specs.Sound.{IsNode, IsSoundNode, journal_of, view_of}
use Rattle.node_journal.specs.declared.nodes.Node.{Node}
use Rattle.node_journal.proofs.Journals.{journal_goes_on}
use Rattle.node_journal.proofs.Behind.{pushed}

pub none_some : {A : Type 0} (n : ℕ) (o : Option ℕ) → o ≡ Some n → o ≡ None → A
none_some n o e f = cc

-- a record needs its own bytes at least
need_least : (K : Shape) (J : List Record) (r : Record) → size_of r ≤ need_of K J r
need_least K J (Lock stamp b es) = omega arith
need_least K J (Prepare stamp b txs) = omega arith
need_least K J other = omega arith

-- a record that was written, and then kept
pub has_kept : {D : Type 0} {G : Ghosts D} (old mid new : RecordLog D G) (r : Record) → mid.records.items ≡ old.records.items
    → mid.header ≡ old.header
    → (gate_of mid.journal ≡ gate_of old.journal + 9 + length (body_of r)) × (broken_of mid.journal ≡ None)
    → G.limit (disk_of mid.journal) ≡ G.limit (disk_of old.journal) → G.count (disk_of old.journal) ≤ G.count (disk_of mid.journal)
    → KeepsRoom old mid
    → new.journal ≡ mid.journal → new.records.items ≡ mid.records.items ++ r ∷ [] → new.header ≡ mid.header
    → ((count bytes : ℕ) → HasLogRoom mid (count + 1) bytes → HasLogRoom new count bytes) → HasKept old new r
has_kept {D} {G} old mid new r records header grows limit later keeps journal kept same room = record {
  records = kept ∙ ap (λ (l : List Record). l ++ r ∷ []) records;
  header = same ∙ header;
  gate = ap gate_of journal ∙ grows.0;
  broken = ap broken_of journal ∙ grows.1;
  limit = rw journal limit;
  later = rw journal later;
  room = λ count bytes has. room count bytes (keeps (count + 1) bytes has);
}

module _ {C D : Type 0} {G : Ghosts D} (Is : Header → Type 0) where
  -- its bytes on the disk
  pub row_fits : (p : Node C D G) (r : Record) → IsNode Is p → broken_of p.log.journal ≡ None → After p.log.header (journal_of p) r
      → used_of (journal_of p) + need_of p.log.header.shape (journal_of p) r ≤ G.limit (disk_of p.log.journal)
      → gate_of p.log.journal + 1 + (9 + length (body_of r)) ≤ G.limit (disk_of p.log.journal)
  row_fits p r is whole next need = omega (
    arith,
    is.used whole,
    size_is p.log.header r is.limits next.0,
    need_least p.log.header.shape (journal_of p) r,
    need,
  )

  pub written : (p new : Node C D G) (r : Record) → IsNode Is p → broken_of p.log.journal ≡ None → After p.log.header (journal_of p) r
      → HasKept p.log new.log r → new.flight ≡ p.flight → new.opened ≡ p.opened → IsNode Is new
  written p new r s whole next w flight opened =
      let J = journal_of p in
      let is : journal_of new ≡ r ∷ J = pushed p.log new.log r w in
      let none : new.flight ≡ None = flight ∙ s.landed whole in
      let used : gate_of new.log.journal + 1 ≡ used_of (r ∷ J) =
      omega (arith, w.gate, s.used whole, size_is p.log.header r s.limits next.0, sum_by-cons size_of r J) in
      record {
        journal = subst (λ (h : Header). IsJournal h (journal_of new)) (sym w.header)
            (subst (λ (l : List Record). IsJournal p.log.header l) (sym is) (journal_goes_on p.log.header J r s.journal next));
        kind = subst Is (sym w.header) s.kind;
        limits = subst (λ (h : Header). IsWithinLimits h.shape) (sym w.header) s.limits;
        opened = omega (arith, opened, w.later, s.opened);
        since = subst (λ (o : Option ℕ). IsBrokenSince new.opened (G.count (disk_of new.log.journal)) o) (sym w.broken) tt;
        used = λ _. used ∙ ap used_of (sym is);
        landed = λ _. none;
        unbroken = λ _. w.broken;
        flying = subst (λ (o : Option Record). IfSome o (After new.log.header (journal_of new))) (sym none) tt;
        fits = subst (λ (o : Option Record). IfSome o
            (λ q. used_of (journal_of new) + need_of new.log.header.shape (journal_of new) q ≤ G.limit (disk_of new.log.journal))) (sym none) tt;
      }

  pub failed : (p new : Node C D G) (r : Record) → IsNode Is p → After p.log.header (journal_of p) r
      → used_of (journal_of p) + need_of p.log.header.shape (journal_of p) r ≤ G.limit (disk_of p.log.journal)
      → HasBroken p.log new.log → new.flight ≡ Some r → new.opened ≡ p.opened → IsNode Is new
  failed p new r s next had f flight opened =
      let is : journal_of new ≡ journal_of p = ap reverse f.records in
      let needed : need_of new.log.header.shape (journal_of new) r ≡ need_of p.log.header.shape (journal_of p) r =
      ap (λ (l : List Record). need_of new.log.header.shape l r) is ∙ ap (λ (h : Header). need_of h.shape (journal_of p) r) f.header in
      let now : used_of (journal_of new) + need_of new.log.header.shape (journal_of new) r ≤ G.limit (disk_of new.log.journal) =
      omega (arith, had, needed, ap used_of is, f.limit) in
      record {
        journal = subst (λ (h : Header). IsJournal h (journal_of new)) (sym f.header)
            (subst (λ (l : List Record). IsJournal p.log.header l) (sym is) s.journal);
        kind = subst Is (sym f.header) s.kind;
        limits = subst (λ (h : Header). IsWithinLimits h.shape) (sym f.header) s.limits;
        opened = omega (arith, opened, f.later, s.opened);
        since = subst (λ (o : Option ℕ). IsBrokenSince new.opened (G.count (disk_of new.log.journal)) o) (sym f.broken)
            (omega (arith, opened, f.rose, s.opened), omega arith);
        used = λ none. none_some (G.count (disk_of new.log.journal)) (broken_of new.log.journal) f.broken none;
        landed = λ none. none_some (G.count (disk_of new.log.journal)) (broken_of new.log.journal) f.broken none;
        unbroken = λ none. absurd (let z : Some r ≡ None = sym flight ∙ none in cc);
        flying = subst (λ (o : Option Record). IfSome o (After new.log.header (journal_of new))) (sym flight)
            (subst (λ (h : Header). After h (journal_of new) r) (sym f.header) (subst (λ (l : List Record). After p.log.header l r) (sym is) next));
        fits = subst (λ (o : Option Record). IfSome o
            (λ q. used_of (journal_of new) + need_of new.log.header.shape (journal_of new) q ≤ G.limit (disk_of new.log.journal))) (sym flight) now;
      }

  -- memory was taken, for the log or the core, and nothing else changed
  pub reserved : (p : Node C D G) (l : RecordLog D G) (k : C) → IsNode Is p → IsUntouched p.log l → l.records.items ≡ p.log.records.items
      → l.header ≡ p.log.header
      → IsNode Is (record { log = l; core = k; opened = p.opened; flight = p.flight })
  reserved p l k is u records same =
      let J : List Record = reverse l.records.items in
      let j : J ≡ journal_of p = ap reverse records in
      record {
        journal = subst (λ (h : Header). IsJournal h J) (sym same) (subst (λ (k : List Record). IsJournal p.log.header k) (sym j) is.journal);
        kind = subst Is (sym same) is.kind;
        limits = subst (λ (h : Header). IsWithinLimits h.shape) (sym same) is.limits;
        opened = omega (arith, is.opened, ap G.count u.disk);
        since = subst (λ (o : Option ℕ). IsBrokenSince p.opened (G.count (disk_of l.journal)) o) (sym u.broken)
            (subst (λ (n : ℕ). IsBrokenSince p.opened n (broken_of p.log.journal)) (sym (ap G.count u.disk)) is.since);
        used = λ none. (let now : gate_of l.journal + 1 ≡ used_of (journal_of p) = omega (arith, u.gate, is.used (sym u.broken ∙ none)) in
            now ∙ ap used_of (sym j));
        landed = λ none. is.landed (sym u.broken ∙ none);
        unbroken = λ none. u.broken ∙ is.unbroken none;
        flying = subst (λ (h : Header). IfSome p.flight (After h J)) (sym same)
            (subst (λ (k : List Record). IfSome p.flight (After p.log.header k)) (sym j) is.flying);
        fits = subst (λ (h : Header). IfSome p.flight (λ q. used_of J + need_of h.shape J q ≤ G.limit (disk_of l.journal))) (sym same)
            (subst (λ (k : List Record). IfSome p.flight (λ q. used_of k + need_of p.log.header.shape k q ≤ G.limit (disk_of l.journal))) (sym j)
            (subst (λ (n : ℕ). IfSome p.flight (λ q. used_of (journal_of p) + need_of p.log.header.shape (journal_of p) q ≤ n))
            (sym (ap G.limit u.disk)) is.fits));
      }

  -- so it is sound, as it is seen
  pub seen_sound : (p : Node C D G) → IsNode Is p
      → used_of (journal_of p) + kept_room p.log.header.shape (journal_of p) ≤ G.limit (disk_of p.log.journal) → IsSoundNode G (view_of p)
  seen_sound p is room =
      record {
        since_opened = is.opened;
        since_broken = is.since;
        count = refl;
        capacity = refl;
        landed = is.landed;
        unbroken = is.unbroken;
        fits = is.fits;
        room = room;
      }
