-- Along each journal of a history: what it found stays, and at a coordinator a lane's number is that of its Prepares.
use Rattle.std.proofs.Common.{◌≡◌, ◌⊎◌, inl, inr, ℕ, ◌+◌, ◌-◌, ◌/◌, nat_lt, ◌<◌, ◌≤◌, true, false, ◌==◌, if◌then◌else◌, List, [], ◌∷◌, ◌++◌, length}
use Rattle.std.proofs.Common.{reverse, is_some, refl, sym, ap, ◌∙◌, subst, arith, append_assoc}
use Rattle.std.proofs.lemmas.List.{reverse-append, reverse-reverse, append_cancel_right, length-reverse, length-append}
use Rattle.cbdc_model.specs.Records.{Shape, Batch, Compact, Record, Row, journal, record_of, Genesis, Lock, Finish, Forget, Start, Prepare, Commit}
use Rattle.cbdc_model.specs.Records.{Discard, Done, Upgrade, Carry, CarryStart, Seal}
use Rattle.cbdc_model.specs.Slots.{Slot, Phase, slot, Idle, InLock, InFinish, InPrepare, InCommit, InDiscard}
use Rattle.cbdc_model.specs.Ranges.{home_of, on_shard}
use Rattle.cbdc_model.specs.History.{Minted, header_of, first_rows}
use Rattle.cbdc_model.specs.World.{first_record}
use Rattle.cbdc_model.specs.Lanes.{IsEnd, first_of}
use Rattle.cbdc_model.specs.Waves.{prepared_before, prepared}
use Rattle.ledger_laws.proofs.Next.{Next, Steady}
use Rattle.ledger_laws.proofs.Slots.{JournalOk, next_ok}
use Rattle.ledger_laws.proofs.More.{MoreOk, next_more}
use Rattle.ledger_laws.proofs.First.{AllFirst, journal_first, all_first}
use Rattle.ledger_laws.proofs.Moves.{once, all_structure, all_more}
use Rattle.ledger_laws.proofs.Finds.{Once, first_once, found_stays}
use Rattle.ledger_laws.proofs.Ledger.{SteadyLists}
use Rattle.ledger_laws.proofs.Together.{lists_of}
use Rattle.ledger_laws.proofs.Cuts.{end_self, end_trans}
use Rattle.ledger_laws.proofs.FirstJournals.{first_is, first_beyond}

pub shifted : (newer more : List Record) (r : Record) (old : List Record) → newer ++ r ∷ (more ++ old) ≡ (newer ++ r ∷ []) ++ (more ++ old)
shifted newer more r old = sym (append_assoc newer (r ∷ []) (more ++ old))

pub lane_is : (l lane : ℕ) → (l == lane) ≡ true → l ≡ lane
lane_is l lane h = grind (arith, h)

pub same_number : (n : ℕ) → (n == n) ≡ true
same_number n = grind arith

pub other_number : (m n : ℕ) → (m ≡ n → ⊥) → (m == n) ≡ false
other_number m n apart = grind arith

-- ---- Prepares of a lane

prepared_on : (lane : ℕ) (r : Record) (A B : List (List Compact)) → prepared_before lane r (A ++ B) ≡ prepared_before lane r A ++ B
prepared_on lane (Prepare stamp b txs) A B = elim (b.lane == lane)
    as (λ c. (if c then txs ∷ (A ++ B) else A ++ B) ≡ (if c then txs ∷ A else A) ++ B) [
      | true ↦ refl
      | false ↦ refl
    ]
prepared_on lane other A B = refl

pub prepared_more : (lane : ℕ) (newer older : List Record) → prepared lane (newer ++ older) ≡ prepared lane newer ++ prepared lane older
prepared_more lane [] older = refl
prepared_more lane (r ∷ newer) older = ap (prepared_before lane r) (prepared_more lane newer older)
    ∙ prepared_on lane r (prepared lane newer) (prepared lane older)

pub first_prepared : (lane : ℕ) (J : List Record) → AllFirst J → prepared lane J ≡ []
first_prepared lane [] f = refl
first_prepared lane (Genesis header hs ∷ J) f = first_prepared lane J f.1
first_prepared lane (Carry stamp header source hs numbers ∷ J) f = first_prepared lane J f.1
first_prepared lane (Start header ∷ J) f = first_prepared lane J f.1
first_prepared lane (CarryStart stamp header source numbers ∷ J) f = first_prepared lane J f.1
first_prepared lane (other ∷ J) f = absurd f.0

abbrev no_slot : Slot
no_slot = record { number = 0; phase = Idle }

in_or_beyond : (n m : ℕ) → (n < m) ⊎ (m ≤ n)
in_or_beyond n m = grind arith

-- a mint's ledger begins with no batch of any lane
first_slot : (K : Shape) (m : Minted) (n lane : ℕ) → slot (first_of K m n) lane ≡ no_slot
first_slot K m n lane = elim (in_or_beyond n (K.coordinators + K.shards)) [
  | inr le ↦ ap (λ J. slot J lane) (first_beyond K m n le)
  | inl lt ↦ ap (λ J. slot J lane) (first_is K m n lt) ∙ of_record
]
  where
    of_record : slot (first_record K m n ∷ []) lane ≡ no_slot
    of_record = elim (nat_lt n K.coordinators)
        as (λ c. slot ((if c then Start (header_of K m.id n) else Genesis (header_of K m.id n) (on_shard K (n - K.coordinators) m.hashes)) ∷ []) lane
        ≡ no_slot) [ true ↦ refl | false ↦ refl ]

-- the list's halves where one item stands between
pub turned : {A : Type 0} (newer older : List A) (x : A) (done : List A) → reverse done ≡ newer ++ x ∷ older
    → done ≡ reverse older ++ x ∷ reverse newer
turned newer older x done e =
    sym (reverse-reverse done) ∙ ap reverse e ∙ reverse-append newer (x ∷ older) ∙ ap (λ l. l ++ reverse newer) (reverse-append (x ∷ []) older)
    ∙ append_assoc (reverse older) (x ∷ []) (reverse newer)

-- phases that a lane may have at a coordinator with this number, and at a shard
abbrev pub IsCoordSlot : Shape → ℕ → ℕ → Phase → Type 0
IsCoordSlot K n lane Idle = Unit {0}
IsCoordSlot K n lane InLock = ⊥
IsCoordSlot K n lane InFinish = ⊥
IsCoordSlot K n lane InPrepare = n ≡ lane / K.lanes
IsCoordSlot K n lane InCommit = n ≡ lane / K.lanes
IsCoordSlot K n lane InDiscard = n ≡ lane / K.lanes

abbrev pub IsShardSlot : Phase → Type 0
IsShardSlot Idle = Unit {0}
IsShardSlot InLock = Unit {0}
IsShardSlot InFinish = Unit {0}
IsShardSlot InPrepare = ⊥
IsShardSlot InCommit = ⊥
IsShardSlot InDiscard = ⊥

-- what is known of a beginning of a journal
pub record Fine (V : List Record) : Type 0 where
  pub ok : JournalOk V
  pub more : MoreOk V
  pub once : Once V

module _ (K : Shape) (m : Minted) (P : Compact → Type 0) (some : 0 < K.shards) (later : List Row) (kept : Steady K m P later) where
  abbrev J : ℕ → List Record
  J n = journal n (later ++ first_rows K m)

  pub lists : SteadyLists K m P J
  lists = lists_of K m P some later kept

  all_are_first : (n : ℕ) → AllFirst (first_of K m n)
  all_are_first n = journal_first n (first_rows K m) (all_first K m P some)

  -- a property that each record that follows keeps
  pub further : (n : ℕ) (V : List Record) → IsEnd (first_of K m n) V → (Q : List Record → Type 0) → Q V
      → ((newer rest : List Record) (r : Record) → J n ≡ newer ++ r ∷ rest → IsEnd V rest → Next K n rest r → Q rest → Q (r ∷ rest))
      → (newer more : List Record) → J n ≡ newer ++ (more ++ V) → Q (more ++ V)
  further n V begins Q base step newer [] e = base
  further n V begins Q base step newer (r ∷ more) e =
      let below : Q (more ++ V) = further n V begins Q base step (newer ++ r ∷ []) more (e ∙ shifted newer more r V) in
      step newer (more ++ V) r e (more, refl) (lists.each n newer (more ++ V) r e (end_trans (first_of K m n) V (more ++ V) begins (more, refl))).0
      below

  pub grown : (n : ℕ) (Q : List Record → Type 0) → Q (first_of K m n) → ((rest : List Record) (r : Record) → Next K n rest r → Q rest → Q (r ∷ rest))
      → (V : List Record) → IsEnd (first_of K m n) V → IsEnd V (J n) → Q V
  grown n Q base step V begins ends =
      subst Q (sym begins.1) (further n (first_of K m n) (end_self (first_of K m n)) Q base (λ newer rest r e h next q. step rest r next q) ends.0
      begins.0 (ends.1 ∙ ap (λ L. ends.0 ++ L) begins.1))

  pub fine : (n : ℕ) (V : List Record) → IsEnd (first_of K m n) V → IsEnd V (J n) → Fine V
  fine n V begins ends = grown n Fine
      (record {
        ok = (all_structure K m P some [] tt).journals n;
        more = all_more K m P some [] tt n;
        once = first_once (first_of K m n) (all_are_first n);
      })
      (λ rest r next below. record {
        ok = next_ok K n rest below.ok r next;
        more = next_more K n rest below.ok below.more r next;
        once = (λ kind c t f. once K n rest below.ok below.more r next kind c t f, below.once);
      })
      V begins ends

  -- what a beginning found is found in the whole
  pub found_in : (n : ℕ) (V : List Record) → IsEnd V (J n) → (kind : ℕ) (b : Batch) → is_some (record_of kind V b) ≡ true
      → record_of kind V b ≡ record_of kind (J n) b
  found_in n V ends kind b h =
      let whole : Once (J n) = (fine n (J n) (lists.begins n) (end_self (J n))).once in
      found_stays ends.0 V (subst (λ L. Once L) ends.1 whole) kind b h ∙ ap (λ L. record_of kind L b) (sym ends.1)

  -- the slot that a record of this batch leaves, in a phase
  abbrev left : ℕ → List Record → Batch → Phase → Slot
  left lane rest b p = if b.lane == lane then (record { number = b.number; phase = p }) else slot rest lane

  number_kept : (lane : ℕ) (rest : List Record) (b : Batch) (p : Phase) → (slot rest b.lane).number ≡ b.number
      → (slot rest lane).number ≡ length (prepared lane rest)
      → (left lane rest b p).number ≡ length (prepared lane rest)
  number_kept lane rest b p same h = elim (b.lane == lane)
      as (λ c. (b.lane == lane) ≡ c
      → (if c then (record { number = b.number; phase = p }) else slot rest lane).number ≡ length (prepared lane rest)) [
        | true ↦ λ e. sym same ∙ ap (λ l. (slot rest l).number) (lane_is b.lane lane e) ∙ h
        | false ↦ λ e. h
      ] refl

  -- at a coordinator
  number_step : (n lane : ℕ) → n < K.coordinators → (rest : List Record) (r : Record) → Next K n rest r
      → (slot rest lane).number ≡ length (prepared lane rest)
      → (slot (r ∷ rest) lane).number ≡ length (prepared lane (r ∷ rest))
  number_step n lane low rest (Genesis header hs) next h = absurd next
  number_step n lane low rest (Carry stamp header source hs numbers) next h = absurd next
  number_step n lane low rest (Start header) next h = absurd next
  number_step n lane low rest (CarryStart stamp header source numbers) next h = absurd next
  number_step n lane low rest (Prepare stamp b txs) next h = elim (b.lane == lane)
      as (λ c. (b.lane == lane) ≡ c → (if c then (record { number = b.number; phase = InPrepare }) else slot rest lane).number
      ≡ length (if c then txs ∷ prepared lane rest else prepared lane rest)) [
        | true ↦ λ e. (let there : (slot rest b.lane).number ≡ (slot rest lane).number = ap (λ l. (slot rest l).number) (lane_is b.lane lane e) in
            omega (arith, next.4, there, h))
        | false ↦ λ e. h
      ] refl
  number_step n lane low rest (Commit stamp b os) next h = number_kept lane rest b InCommit next.4 h
  number_step n lane low rest (Discard stamp b) next h = number_kept lane rest b InDiscard next.4 h
  number_step n lane low rest (Done stamp b) next h = number_kept lane rest b Idle next.4 h
  number_step n lane low rest (Upgrade stamp batch) next h = h
  number_step n lane low rest (Seal stamp to shards) next h = h
  number_step n lane low rest other next h = absurd (omega (arith, low, next.1.0))

  -- a lane's number is how often it has prepared
  pub number_is : (n lane : ℕ) → n < K.coordinators → (V : List Record) → IsEnd (first_of K m n) V → IsEnd V (J n)
      → (slot V lane).number ≡ length (prepared lane V)
  number_is n lane low V begins ends =
      grown n (λ V. (slot V lane).number ≡ length (prepared lane V))
      (ap (λ s. s.number) (first_slot K m n lane) ∙ sym (ap length (first_prepared lane (first_of K m n) (all_are_first n))))
      (λ rest r next h. number_step n lane low rest r next h) V begins ends

  coord_kept : (n lane : ℕ) (rest : List Record) (b : Batch) (p : Phase) → IsCoordSlot K n b.lane p → IsCoordSlot K n lane (slot rest lane).phase
      → IsCoordSlot K n lane (left lane rest b p).phase
  coord_kept n lane rest b p own h = elim (b.lane == lane)
      as (λ c. (b.lane == lane) ≡ c → IsCoordSlot K n lane (if c then (record { number = b.number; phase = p }) else slot rest lane).phase) [
        | true ↦ λ e. subst (λ l. IsCoordSlot K n l p) (lane_is b.lane lane e) own
        | false ↦ λ e. h
      ] refl

  coord_step : (n lane : ℕ) → n < K.coordinators → (rest : List Record) (r : Record) → Next K n rest r → IsCoordSlot K n lane (slot rest lane).phase
      → IsCoordSlot K n lane (slot (r ∷ rest) lane).phase
  coord_step n lane low rest (Genesis header hs) next h = absurd next
  coord_step n lane low rest (Carry stamp header source hs numbers) next h = absurd next
  coord_step n lane low rest (Start header) next h = absurd next
  coord_step n lane low rest (CarryStart stamp header source numbers) next h = absurd next
  coord_step n lane low rest (Prepare stamp b txs) next h = coord_kept n lane rest b InPrepare next.2 h
  coord_step n lane low rest (Commit stamp b os) next h = coord_kept n lane rest b InCommit next.2 h
  coord_step n lane low rest (Discard stamp b) next h = coord_kept n lane rest b InDiscard next.2 h
  coord_step n lane low rest (Done stamp b) next h = coord_kept n lane rest b Idle tt h
  coord_step n lane low rest (Upgrade stamp batch) next h = h
  coord_step n lane low rest (Seal stamp to shards) next h = h
  coord_step n lane low rest other next h = absurd (omega (arith, low, next.1.0))

  pub coord_slot : (n lane : ℕ) → n < K.coordinators → (V : List Record) → IsEnd (first_of K m n) V → IsEnd V (J n)
      → IsCoordSlot K n lane (slot V lane).phase
  coord_slot n lane low V begins ends =
      grown n (λ V. IsCoordSlot K n lane (slot V lane).phase)
      (subst (λ s. IsCoordSlot K n lane s.phase) (sym (first_slot K m n lane)) tt)
      (λ rest r next h. coord_step n lane low rest r next h) V begins ends

  shard_kept : (lane : ℕ) (rest : List Record) (b : Batch) (p : Phase) → IsShardSlot p → IsShardSlot (slot rest lane).phase
      → IsShardSlot (left lane rest b p).phase
  shard_kept lane rest b p own h = elim (b.lane == lane) as
      (λ c. IsShardSlot (if c then (record { number = b.number; phase = p }) else slot rest lane).phase) [
        | true ↦ own
        | false ↦ h
      ]

  shard_step : (n lane : ℕ) → K.coordinators ≤ n → (rest : List Record) (r : Record) → Next K n rest r → IsShardSlot (slot rest lane).phase
      → IsShardSlot (slot (r ∷ rest) lane).phase
  shard_step n lane high rest (Genesis header hs) next h = absurd next
  shard_step n lane high rest (Carry stamp header source hs numbers) next h = absurd next
  shard_step n lane high rest (Start header) next h = absurd next
  shard_step n lane high rest (CarryStart stamp header source numbers) next h = absurd next
  shard_step n lane high rest (Lock stamp b es) next h = shard_kept lane rest b InLock tt h
  shard_step n lane high rest (Finish stamp b ds) next h = shard_kept lane rest b InFinish tt h
  shard_step n lane high rest (Forget stamp b) next h = shard_kept lane rest b Idle tt h
  shard_step n lane high rest (Upgrade stamp batch) next h = h
  shard_step n lane high rest (Seal stamp to shards) next h = h
  shard_step n lane high rest other next h = absurd (omega (arith, high, next.1))

  pub shard_slot : (n lane : ℕ) → K.coordinators ≤ n → (V : List Record) → IsEnd (first_of K m n) V → IsEnd V (J n) → IsShardSlot (slot V lane).phase
  shard_slot n lane high V begins ends =
      grown n (λ V. IsShardSlot (slot V lane).phase) (subst (λ s. IsShardSlot s.phase) (sym (first_slot K m n lane)) tt)
      (λ rest r next h. shard_step n lane high rest r next h) V begins ends

  up : (lane : ℕ) (rest : List Record) (b : Batch) (p : Phase) → (slot rest b.lane).number ≤ b.number
      → (slot rest lane).number ≤ (left lane rest b p).number
  up lane rest b p le = elim (b.lane == lane) as (λ c. (b.lane == lane) ≡ c
      → (slot rest lane).number ≤ (if c then (record { number = b.number; phase = p }) else slot rest lane).number) [
        | true ↦ λ e. (let there : (slot rest b.lane).number ≡ (slot rest lane).number = ap (λ l. (slot rest l).number) (lane_is b.lane lane e) in
            omega (arith, le, there))
        | false ↦ λ e. omega arith
      ] refl

  level : (lane : ℕ) (rest : List Record) (b : Batch) (p : Phase) → (slot rest b.lane).number ≡ b.number
      → (slot rest lane).number ≤ (left lane rest b p).number
  level lane rest b p same = up lane rest b p (omega (arith, same))

  -- a lane's number never falls
  rises : (n lane : ℕ) (rest : List Record) (r : Record) → Next K n rest r → (slot rest lane).number ≤ (slot (r ∷ rest) lane).number
  rises n lane rest (Lock stamp b es) next = up lane rest b InLock (omega (arith, next.3))
  rises n lane rest (Finish stamp b ds) next = level lane rest b InFinish next.3
  rises n lane rest (Forget stamp b) next = level lane rest b Idle next.3
  rises n lane rest (Prepare stamp b txs) next = up lane rest b InPrepare (omega (arith, next.4))
  rises n lane rest (Commit stamp b os) next = level lane rest b InCommit next.4
  rises n lane rest (Discard stamp b) next = level lane rest b InDiscard next.4
  rises n lane rest (Done stamp b) next = level lane rest b Idle next.4
  rises n lane rest (Upgrade stamp batch) next = omega arith
  rises n lane rest (Seal stamp to shards) next = omega arith
  rises n lane rest other next = absurd next

  pub number_grows : (n lane : ℕ) (V W : List Record) → IsEnd (first_of K m n) V → IsEnd V W → IsEnd W (J n)
      → (slot V lane).number ≤ (slot W lane).number
  number_grows n lane V W begins more ends =
      subst (λ L. (slot V lane).number ≤ (slot L lane).number) (sym more.1)
      (further n V begins (λ L. (slot V lane).number ≤ (slot L lane).number) (omega arith)
      (λ newer rest r e h next le. (let up : (slot rest lane).number ≤ (slot (r ∷ rest) lane).number = rises n lane rest r next in
      omega (arith, le, up)))
      ends.0 more.0 (ends.1 ∙ ap (λ L. ends.0 ++ L) more.1))

  -- a Prepare behind journal V is that of the piece that its number counts
  pub record Piece (lane : ℕ) (V rest : List Record) (done : List (List Compact)) (txs : List Compact) : Type 0 where
    pub front : List (List Compact)
    pub back : List (List Compact)
    pub parts : done ≡ front ++ txs ∷ back
    pub counts : length front + (slot V lane).number ≡ (slot rest lane).number

  pub piece_there : (lane : ℕ) → home_of K lane < K.coordinators
      → (V newer rest : List Record) (stamp : ℕ) (b : Batch) (txs : List Compact) (done : List (List Compact))
      → IsEnd (first_of K m (home_of K lane)) V → IsEnd V rest → J (home_of K lane) ≡ newer ++ Prepare stamp b txs ∷ rest → b.lane ≡ lane
      → prepared lane (J (home_of K lane)) ≡ reverse done ++ prepared lane V → Piece lane V rest done txs
  piece_there lane low V newer rest stamp b txs done begins h e l all =
      let n = home_of K lane in
      let test : (b.lane == lane) ≡ true = subst (λ x. (b.lane == x) ≡ true) l (same_number b.lane) in
      let head : prepared lane (Prepare stamp b txs ∷ rest) ≡ txs ∷ prepared lane rest = rw test refl in
      let below : prepared lane rest ≡ prepared lane h.0 ++ prepared lane V = ap (prepared lane) h.1 ∙ prepared_more lane h.0 V in
      let whole : prepared lane (J n) ≡ prepared lane newer ++ (txs ∷ (prepared lane h.0 ++ prepared lane V)) =
      ap (prepared lane) e ∙ prepared_more lane newer (Prepare stamp b txs ∷ rest)
      ∙ ap (λ q. prepared lane newer ++ q) (head ∙ ap (λ q. txs ∷ q) below) in
      let both : reverse done ++ prepared lane V ≡ (prepared lane newer ++ txs ∷ prepared lane h.0) ++ prepared lane V =
      sym all ∙ whole ∙ sym (append_assoc (prepared lane newer) (txs ∷ prepared lane h.0) (prepared lane V)) in
      let cut : reverse done ≡ prepared lane newer ++ txs ∷ prepared lane h.0 =
      append_cancel_right (reverse done) (prepared lane newer ++ txs ∷ prepared lane h.0) (prepared lane V) both in
      let end : IsEnd rest (J n) = (newer ++ Prepare stamp b txs ∷ [], e ∙ sym (append_assoc newer (Prepare stamp b txs ∷ []) rest)) in
      let at_rest : (slot rest lane).number ≡ length (prepared lane rest) =
      number_is n lane low rest (end_trans (first_of K m n) V rest begins h) end in
      let at_v : (slot V lane).number ≡ length (prepared lane V) = number_is n lane low V begins (end_trans V rest (J n) h end) in
      let long : length (prepared lane rest) ≡ length (prepared lane h.0) + length (prepared lane V) =
      ap length below ∙ length-append (prepared lane h.0) (prepared lane V) in
      let turn : length (reverse (prepared lane h.0)) ≡ length (prepared lane h.0) = length-reverse (prepared lane h.0) in
      record {
        front = reverse (prepared lane h.0);
        back = reverse (prepared lane newer);
        parts = turned (prepared lane newer) (prepared lane h.0) txs done cut;
        counts = omega (arith, at_rest, at_v, long, turn);
      }
