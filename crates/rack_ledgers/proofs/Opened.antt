-- Nodes that were opened, one by one.
use Rattle.std.proofs.Common.{◌≡◌, ◌≤◌, le_trans, ◌+◌, ◌++◌, ◌∷◌, [], ℕ, List, length, Option, Some, None, sym, ◌∙◌, subst, ap, arith}
use Rattle.outside.specs.declared.disk.Disk.{Ghosts}
use Rattle.cbdc_model.specs.Records.{Header}
use Rattle.cbdc_model.specs.History.{header_of}
use Rattle.node_journal.specs.Nodes.{NodeOf}
use Rattle.rack_ledgers.specs.Fresh.{FitsNode, StandsNode}
use Rattle.rack_ledgers.specs.Places.{EachFrom}
use Rattle.rack_ledgers.specs.Racked.{OfTold, IsNodeOpened, IsDiskBack, ListGoesOn}
use Rattle.rack_ledgers.proofs.Each.{each_weaker}
use Rattle.rack_ledgers.proofs.Told.{back_opened}
use Rattle.rack_ledgers.specs.Ledgers.{ByPlace, IsNodeAt}
use Rattle.rack_ledgers.proofs.Places.{at_place, by_place}

-- the first item, and those behind it
led_each : {N : Type 0} (P Q : ℕ → N → Type 0) (lead : N) (front whole : List N) → front ≡ lead ∷ [] → ((k : ℕ) (x : N) → 1 ≤ k → P k x → Q k x)
    → Q 0 lead → ListGoesOn P 0 front whole → ByPlace Q whole
led_each P Q lead front whole alone step first all =
    let same : whole ≡ lead ∷ all.more = all.parts ∙ ap (λ (l : List _). l ++ all.more) alone in
    let one : 0 + length front ≡ 1 = omega (arith, ap length alone) in
    subst (λ (l : List _). ByPlace Q l) (sym same)
    (by_place Q (lead ∷ all.more) (
      first,
      each_weaker P Q 1 all.more (λ k x ge lt is. step k x ge is) (subst (λ (k : ℕ). EachFrom P k all.more) one all.each),
    ))

module _ {D : Type 0} (device : Ghosts D) (Is : Header → Type 0) where
  -- what opening all says of each node of the kind, with what the rack tells as it begins
  abbrev pub OpensNode : (ℕ → Option D) → (ℕ → ℕ) → Header → ℕ → NodeOf D → Type 0
  OpensNode mid before h n x = (FitsNode device Is n (Some h) x × (before n ≤ device.count x.disk))
      × OfTold (mid n) (λ was. IsNodeOpened device (λ y. y.disk) (StandsNode device Is) was x)

  -- a node of the ledger
  node_at : (held : ℕ → Option D) (h : Header) (n : ℕ) (x : NodeOf D) (ledger : Option Header) → x.header ≡ header_of h.shape h.genesis n
      → FitsNode device Is n ledger x
      → OfTold (held n) (λ was. IsNodeOpened device (λ y. y.disk) (StandsNode device Is) was x) → IsNodeAt device held Is h n x
  node_at held h n x ledger header fits opened = record {
    header = header;
    journal = fits.journal;
    flight = fits.flight;
    broken = fits.broken;
    since = fits.since;
    faults = fits.faults;
    capacity = fits.capacity;
    room = fits.room;
    opened = opened;
  }

  -- node 0, whose header is its own
  pub lead_at : (held : ℕ → Option D) (h : Header) (l : NodeOf D) → h ≡ l.header → FitsNode device Is 0 None l
      → OfTold (held 0) (λ was. IsNodeOpened device (λ x. x.disk) (StandsNode device Is) was l) → IsNodeAt device held Is h 0 l
  lead_at held h l same fits opened = node_at held h 0 l None (fits.asked ∙ ap (λ (k : Header). header_of k.shape k.genesis 0) (sym same)) fits opened

  -- by what was told as the others were opened
  node_later : (held mid : ℕ → Option D) (before : ℕ → ℕ) (h : Header) (first : ℕ) → ((n : ℕ) → first ≤ n → mid n ≡ held n) → (k : ℕ) (x : NodeOf D)
      → first ≤ k → OpensNode mid before h k x
      → IsNodeAt device held Is h k x
  node_later held mid before h first kept k x ge is = node_at held h k x (Some h) is.0.0.asked is.0.0 (λ was told. is.1 was (kept k ge ∙ told))

  -- node 0 and those behind it
  pub led_whole : (held mid : ℕ → Option D) (before : ℕ → ℕ) (h : Header) (lead : NodeOf D) (front whole : List (NodeOf D)) → front ≡ lead ∷ []
      → ((n : ℕ) → 1 ≤ n → mid n ≡ held n)
      → IsNodeAt device held Is h 0 lead → ListGoesOn (OpensNode mid before h) 0 front whole → ByPlace (IsNodeAt device held Is h) whole
  led_whole held mid before h lead front whole alone kept first all =
      led_each (OpensNode mid before h) (IsNodeAt device held Is h) lead front whole alone (node_later held mid before h 1 kept) first all

  -- those from a place on
  pub nodes_at : (held mid : ℕ → Option D) (before : ℕ → ℕ) (h : Header) (first : ℕ) (nodes : List (NodeOf D))
      → ((n : ℕ) → first ≤ n → mid n ≡ held n)
      → EachFrom (OpensNode mid before h) first nodes
      → ByPlace (λ s x. IsNodeAt device held Is h (first + s) x) nodes
  nodes_at held mid before h first nodes kept all s x is =
      at_place (IsNodeAt device held Is h) first nodes
      (each_weaker (OpensNode mid before h) (IsNodeAt device held Is h) first nodes
      (λ k y ge lt own. node_later held mid before h first kept k y ge own) all) s x is

  -- how often the disk of each node had failed before it was opened
  pub logs_since : (mid : ℕ → Option D) (before between : ℕ → ℕ) (h : Header) (lead : NodeOf D) (front whole : List (NodeOf D)) → front ≡ lead ∷ []
      → ((n : ℕ) → before n ≤ between n)
      → before 0 ≤ device.count lead.disk → ListGoesOn (OpensNode mid between h) 0 front whole → ByPlace (λ n l. before n ≤ device.count l.disk) whole
  logs_since mid before between h lead front whole alone later first all =
      led_each (OpensNode mid between h) (λ (n : ℕ) (l : NodeOf D). before n ≤ device.count l.disk) lead front whole alone
      (λ k x ge is. le_trans (later k) is.0.1) first all

  pub nodes_since : (mid : ℕ → Option D) (before between : ℕ → ℕ) (h : Header) (first : ℕ) (nodes : List (NodeOf D))
      → ((n : ℕ) → before n ≤ between n)
      → EachFrom (OpensNode mid between h) first nodes → ByPlace (λ s x. before (first + s) ≤ device.count x.disk) nodes
  nodes_since mid before between h first nodes later all s x is =
      at_place (λ (n : ℕ) (y : NodeOf D). before n ≤ device.count y.disk) first nodes
      (each_weaker (OpensNode mid between h) (λ (n : ℕ) (y : NodeOf D). before n ≤ device.count y.disk) first nodes
      (λ k y ge lt is. le_trans (later k) is.0.1) all) s x is

  -- the disk of a node that was opened, put back
  pub node_back : (held now : ℕ → Option D) (before after : ℕ) (h : Header) (n : ℕ) (l : NodeOf D) → IsNodeAt device held Is h n l
      → OfTold (now n) (λ d. d ≡ l.disk) → IsDiskBack device before after (held n) (now n)
  node_back held now before after h n l is put = back_opened device before after (λ x. x.disk) (StandsNode device Is) (held n) (now n) l is.opened put
