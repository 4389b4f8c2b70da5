-- The journals of a ledger's nodes that were opened, and the lines that tell of them.
use Rattle.std.proofs.Common.{◌≡◌, ◌<◌, ◌≤◌, ◌+◌, ◌-◌, ◌++◌, ◌∷◌, [], ℕ, List, length, map, true, false, nat_lt, if◌then◌else◌, Option, refl, sym}
use Rattle.std.proofs.Common.{◌∙◌, ap, subst, arith}
use Rattle.std.proofs.lemmas.Bool.{ltb-true, ltb-false}
use Rattle.std.proofs.lemmas.Option.{slice_get_within}
use Rattle.outside.specs.declared.disk.Disk.{Ghosts}
use Rattle.cbdc_model.specs.Records.{Digest, Shape, Header, Record}
use Rattle.cbdc_model.specs.Ranges.{shard_of}
use Rattle.cbdc_model.specs.Status.{status}
use Rattle.node_journal.specs.Nodes.{NodeOf}
use Rattle.line_text.specs.Lines.{Text}
use Rattle.line_text.specs.Reports.{status_line}
use Rattle.rack_ledgers.proofs.Closed.{all_same}
use Rattle.rack_ledgers.proofs.OwnJournals.{each_opens, each_room, each_holds}
use Rattle.printed_lines.specs.Reports.{status_lines, status_at}
use Rattle.rack_ledgers.specs.Ledgers.{AreOpened, ByPlace}
use Rattle.rack_ledgers.specs.Racked.{OfTold, AreUnchanged, AreDisksBack}
use Rattle.rack_ledgers.proofs.Told.{same_back}
use Rattle.status_command.specs.Outcomes.{DidStatus}
use Rattle.status_command.specs.Texts.{told_lines, journal_there, journals_at, status_among}
use Rattle.status_command.proofs.Items.{journal_some}

module _ {D : Type 0} (K : Shape) (logs shards : List (NodeOf D)) where
  pub journal_low : (n : ℕ) → n < K.coordinators → journals_at K logs shards n ≡ journal_there (λ (l : NodeOf D). l.journal) logs n
  journal_low n low = go (nat_lt n K.coordinators) refl
    where
      go : (b : _) → nat_lt n K.coordinators ≡ b →
          (if b then journal_there (λ (l : NodeOf D). l.journal) logs n else journal_there (λ (s : NodeOf D). s.journal) shards (n - K.coordinators))
          ≡ journal_there (λ (l : NodeOf D). l.journal) logs n
      go true t = refl
      go false t = absurd (omega (arith, low, ltb-false n K.coordinators t))

  pub journal_high : (n : ℕ) → K.coordinators ≤ n
      → journals_at K logs shards n ≡ journal_there (λ (s : NodeOf D). s.journal) shards (n - K.coordinators)
  journal_high n high = go (nat_lt n K.coordinators) refl
    where
      go : (b : _) → nat_lt n K.coordinators ≡ b →
          (if b then journal_there (λ (l : NodeOf D). l.journal) logs n else journal_there (λ (s : NodeOf D). s.journal) shards (n - K.coordinators))
          ≡ journal_there (λ (s : NodeOf D). s.journal) shards (n - K.coordinators)
      go true t = absurd (omega (arith, high, ltb-true n K.coordinators t))
      go false t = refl

  -- a line for each hash tells its status at the shard that holds it
  pub lines_are : (xs : List Digest)
      → told_lines xs (map (status_among K shards) xs) ≡ status_lines K (journals_at K logs shards) xs
  lines_are [] = refl
  lines_are (x ∷ xs) =
      let place : ℕ = shard_of K x in
      let low : K.coordinators ≤ K.coordinators + place = omega arith in
      let behind : K.coordinators + place - K.coordinators ≡ place = omega arith in
      let journals : journals_at K logs shards (K.coordinators + place)
      ≡ journal_there (λ (s : NodeOf D). s.journal) shards place =
      journal_high (K.coordinators + place) low ∙ ap (λ (k : ℕ). journal_there (λ (s : NodeOf D). s.journal) shards k) behind in
      let here : status_among K shards x ≡ status_at K (journals_at K logs shards) x = ap (λ (J : List Record). status J x) (sym journals) in
      ap (λ (t : Text). t ++ told_lines xs (map (status_among K shards) xs)) (ap (status_line x) here)
      ∙ ap (λ (t : Text). status_line x (status_at K (journals_at K logs shards) x) ++ t) (lines_are xs)

module _ {D : Type 0} (device : Ghosts D) (held : ℕ → Option D) (h : Header) (logs shards : List (NodeOf D))
    (are : AreOpened device held h logs shards) where
  abbrev Journals : ℕ → List Record
  Journals n = journals_at h.shape logs shards n

  -- the journals are those of the nodes
  of_logs : ByPlace (λ n l. l.journal ≡ Journals n) logs
  of_logs n l at = sym (journal_low h.shape logs shards n (omega (arith, slice_get_within logs n l at, are.coordinators))
      ∙ journal_some (λ (x : NodeOf D). x.journal) logs n l at)

  of_shards : ByPlace (λ s x. x.journal ≡ Journals (length logs + s)) shards
  of_shards s x at =
      let high : h.shape.coordinators ≤ length logs + s = omega (arith, are.coordinators) in
      let behind : length logs + s - h.shape.coordinators ≡ s = omega (arith, are.coordinators) in
      sym (journal_high h.shape logs shards (length logs + s) high ∙ ap (λ (k : ℕ). journal_there (λ (y : NodeOf D). y.journal) shards k) behind
      ∙ journal_some (λ (y : NodeOf D). y.journal) shards s x at)

  module _ (mid now : ℕ → Option D) (kept : (n : ℕ) → length logs + length shards ≤ n → mid n ≡ held n)
      (closed_logs : ByPlace (λ n l. OfTold (now n) (λ d. d ≡ l.disk)) logs)
      (closed_shards : ByPlace (λ s x. OfTold (now (length logs + s)) (λ d. d ≡ x.disk)) shards)
      (others : (n : ℕ) → length logs + length shards ≤ n → now n ≡ mid n) where
    pub all_unchanged : AreUnchanged device held now
    all_unchanged = all_same device held mid now h logs shards are kept closed_logs closed_shards others

    pub all_back : (before after : ℕ → ℕ) → AreDisksBack device (record { held = held; faults = before }) (record { held = now; faults = after })
    all_back before after n = same_back device (before n) (after n) (held n) (now n) (all_unchanged n)

    -- the lines that were printed tell what the ledger knows
    pub did_status : (before after : ℕ → ℕ) (printed : Text → Type 0) (hashes : List Digest)
        → printed (told_lines hashes (map (status_among h.shape shards) hashes))
        → DidStatus device (record { held = held; faults = before }) (record { held = now; faults = after }) printed hashes
    did_status before after printed hashes told = record {
      shape = h.shape;
      genesis = h.genesis;
      journals = journals_at h.shape logs shards;
      limits = are.limits;
      opened = each_opens device held h logs shards are Journals of_logs of_shards;
      room = each_room device held h logs shards are Journals of_logs of_shards;
      back = all_unchanged;
      holds = each_holds device held h logs shards are Journals of_logs of_shards now closed_logs closed_shards;
      prints = subst printed (lines_are h.shape logs shards hashes) told;
    }
