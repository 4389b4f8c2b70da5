-- What is on each node's disk behind the opening and the writing.
use Rattle.std.proofs.Common.{◌≡◌, ◌≢◌, inl, inr, ⊎_elim, ℕ, suc, ◌+◌, ◌^◌, ◌≤◌, ◌<◌, List, [], ◌∷◌, ◌++◌, length, Option, sym, ◌∙◌, ap, ap₂, subst}
use Rattle.std.proofs.Common.{arith, length-append}
use Rattle.std.proofs.lemmas.Bool.{cases_lt}
use Rattle.outside.specs.Counts.{Rose}
use Rattle.outside.specs.Images.{Tells}
use Rattle.outside.specs.declared.disk.Disk.{Ghosts}
use Rattle.cbdc_types.specs.Limits.{IsWithinLimits}
use Rattle.cbdc_types.specs.declared.answer.Answer.{Answer}
use Rattle.cbdc_types.specs.declared.answer.Answer.TheVariants as answers
use Rattle.cbdc_model.specs.Records.{Shape, Compact, Record}
use Rattle.cbdc_model.specs.Coins.{Output, genesis_id, genesis_hashes}
use Rattle.cbdc_model.specs.Clean.{value_out}
use Rattle.cbdc_model.specs.History.{Minted, minted}
use Rattle.gate_journal.specs.Formatting.{IsEmptied}
use Rattle.rack_ledgers.specs.Places.{EachFrom, IsOpening}
use Rattle.rack_ledgers.specs.Racked.{OfTold, SameRoom, IsUnchanged, IsDiskBack, AreDisksBack, IsNodeOpened, FailsFirst}
use Rattle.rack_ledgers.specs.Blank.{IsUnused, IsNoBlank, IsBlankRefusal}
use Rattle.rack_ledgers.specs.First.{IsBegun, IsUnwritten}
use Rattle.rack_ledgers.proofs.Each.{each_two, each_weaker, each_split}
use Rattle.rack_ledgers.proofs.Told.{still_told, same_opened, back_same}
use Rattle.cbdc_model.specs.Ranges.{node_count}
use Rattle.ledger_init.specs.Made.{first_record_of, HoldsFirst, LeavesBut, ToldUnused, MayBeMade, IsFirstInUse, HasPlaceFor, IsLastFull, IsUnmade}
use Rattle.ledger_init.specs.Made.{IsOfNode, InitStoppedAt}
use Rattle.ledger_init.specs.Places.{minted_by, LeavesOf, IsFirstWritten, IsStopped, WritingStopsAt}
use Rattle.ledger_init.proofs.Sizes.{first_size}

-- what first records say of a mint's transaction is what they say of the mint
pub minted_is : (t : Compact) (mint : List Output) → t.id ≡ genesis_id mint → t.outputs ≡ genesis_hashes mint → minted_by t ≡ minted mint
minted_is t mint id hashes = ap₂ (λ (x : List ℕ) (xs : List (List ℕ)). let m : Minted = record { id = x; hashes = xs } in m) id hashes

begun_weaker : (a b : List ℕ → Type 0) (first : Record) (c : List ℕ) → ((x : List ℕ) → a x → b x) → IsBegun a first c → IsBegun b first c
begun_weaker a b first c weaker is = ⊎_elim (λ emptied. inl (⊎_elim (λ none. inl none) (λ was. inr (weaker c was)) emptied)) (λ one. inr one) is

emptied_weaker : (a b : List ℕ → Type 0) (c : List ℕ) → ((x : List ℕ) → a x → b x) → IsEmptied a c → IsEmptied b c
emptied_weaker a b c weaker is = ⊎_elim (λ none. inl none) (λ was. inr (weaker c was)) is

each_join : {X : Type 0} (P : ℕ → X → Type 0) (i : ℕ) (xs ys : List X) → EachFrom P i xs → EachFrom P (i + length xs) ys → EachFrom P i (xs ++ ys)
each_join P i [] ys one other = subst (λ (k : ℕ). EachFrom P k ys) (omega arith) other
each_join P i (x ∷ xs) ys one other = (one.0, each_join P (suc i) xs ys one.1 (subst (λ (k : ℕ). EachFrom P k ys) (omega arith) other))

-- all disks are back, those of some nodes and those that were not touched
pub back_all : {D : Type 0} (device : Ghosts D) (before now : ℕ → ℕ) (old new : ℕ → Option D) (end : ℕ)
    → ((n : ℕ) → n < end → IsDiskBack device (before n) (now n) (old n) (new n))
    → ((n : ℕ) → end ≤ n → new n ≡ old n) → AreDisksBack device (record { held = old; faults = before }) (record { held = new; faults = now })
back_all device before now old new end inside outside n = elim (cases_lt n end) [
  | inl small ↦ inside n small
  | inr large ↦ back_same device (before n) (now n) (old n) (new n) (outside n large)
]

-- a first record is not written for a reason that speaks of its node
of_node : (k room : ℕ) (first : Record) (a : Answer) → IsUnwritten k room first a → IsOfNode k a
of_node k room first (answers.Full n used need capacity) un = un.0
of_node k room first (answers.DiskFault n) un = un.0
of_node k room first answers.Memory un = tt
of_node k room first answers.Ok un = absurd un
of_node k room first answers.BadWords un = absurd un
of_node k room first (answers.BadInput file at kind) un = absurd un
of_node k room first (answers.TooMuch total) un = absurd un
of_node k room first (answers.NotReady n) un = absurd un
of_node k room first (answers.Foreign n kept asked) un = absurd un
of_node k room first (answers.NotEmpty n) un = absurd un
of_node k room first (answers.Unsound place kind) un = absurd un
of_node k room first (answers.ClockEnd n stamp) un = absurd un
of_node k room first (answers.Damaged n at) un = absurd un
of_node k room first (answers.ReadFault file) un = absurd un
of_node k room first answers.WriteFault un = absurd un

module _ {D B : Type 0} (device : Ghosts D) (disk_of : B → D) (node_of : B → ℕ) (K : Shape) (mint : List Output) (old new : ℕ → Option D)
    (before now : ℕ → ℕ) where
  -- a blank of the disk that was told
  abbrev pub IsBlankAt : ℕ → B → Type 0
  IsBlankAt n b = ((node_of b ≡ n) × (before n ≤ device.count (disk_of b)))
      × OfTold (old n) (λ was. IsNodeOpened device disk_of (λ x c. IsUnused (node_of x) c) was b)

  pub unused_at : (n : ℕ) (b : B) → IsBlankAt n b → ToldUnused device old n
  unused_at n b blank = λ was is c told. subst (λ (k : ℕ). IsUnused k c) blank.0.0 ((blank.1 was is).stands c told)

  -- what a crash may leave of a blank's disk is what it may leave of the disk that was told
  pub left_at : (n : ℕ) (b : B) → IsBlankAt n b → OfTold (new n) (LeavesOf device (λ was. IsBegun was (first_record_of K mint n)) (disk_of b))
      → LeavesBut device (λ was. IsBegun was (first_record_of K mint n)) (old n) (new n)
  left_at n b blank left = λ was is d is_now some c image.
      let opened = blank.1 was is in
      begun_weaker (device.images (disk_of b)) (device.images was) (first_record_of K mint n) c opened.read.leaves
      (left d is_now (still_told (device.content was) (device.content (disk_of b)) opened.same some) c image)

  pub emptied_at : (n : ℕ) (b : B) → IsBlankAt n b → OfTold (new n) (LeavesOf device IsEmptied (disk_of b))
      → LeavesBut device IsEmptied (old n) (new n)
  emptied_at n b blank left = λ was is d is_now some c image.
      let opened = blank.1 was is in
      emptied_weaker (device.images (disk_of b)) (device.images was) c opened.read.leaves
      (left d is_now (still_told (device.content was) (device.content (disk_of b)) opened.same some) c image)

  holds_at : (n : ℕ) (b : B) → IsBlankAt n b → IsFirstWritten device (first_record_of K mint n) (disk_of b) (new n)
      → HoldsFirst device (first_record_of K mint n) (old n) (new n)
  holds_at n b blank done = λ was is d is_now some. done.holds d is_now
      (still_told (device.content was) (device.content (disk_of b)) (blank.1 was is).same some)

  room_at : (n : ℕ) (b : B) → IsBlankAt n b → IsFirstWritten device (first_record_of K mint n) (disk_of b) (new n) → SameRoom device (old n) (new n)
  room_at n b blank done = λ was is d is_now. let opened = blank.1 was is in done.same d is_now ∙ opened.read.room

  -- a disk that is back as it was
  pub back_emptied : (n : ℕ) → IsDiskBack device (before n) (now n) (old n) (new n) → LeavesBut device IsEmptied (old n) (new n)
  back_emptied n back = λ was is d is_now some c image. inr ((back was is d is_now).read.leaves c image)

  pub back_begun : (n : ℕ) → IsDiskBack device (before n) (now n) (old n) (new n)
      → LeavesBut device (λ was. IsBegun was (first_record_of K mint n)) (old n) (new n)
  back_begun n back = λ was is d is_now some c image. inl (inr ((back was is d is_now).read.leaves c image))

  module _ (blanks : List B) (all : length blanks ≡ node_count K) (opened : EachFrom IsBlankAt 0 blanks) where
    inside : (n : ℕ) → n < node_count K → n < 0 + length blanks
    inside n lt = omega (arith, all, lt)

    pub may_be_made : value_out mint < 2 ^ 64 → MayBeMade K mint device old
    may_be_made fits = record {
      fits = fits;
      unused = λ n lt. each_two IsBlankAt IsBlankAt (λ k. ToldUnused device old k) 0 blanks (λ k b blank same. unused_at k b blank) opened opened n
          (omega arith) (inside n lt);
    }

    pub all_hold : EachFrom (λ n b. IsFirstWritten device (first_record_of K mint n) (disk_of b) (new n)) 0 blanks → (n : ℕ) → n < node_count K
        → HoldsFirst device (first_record_of K mint n) (old n) (new n)
    all_hold done n lt = each_two IsBlankAt _ (λ k. HoldsFirst device (first_record_of K mint k) (old k) (new k)) 0 blanks holds_at opened done n
        (omega arith) (inside n lt)

    pub all_rooms : EachFrom (λ n b. IsFirstWritten device (first_record_of K mint n) (disk_of b) (new n)) 0 blanks → (n : ℕ) → n < node_count K
        → SameRoom device (old n) (new n)
    all_rooms done n lt = each_two IsBlankAt _ (λ k. SameRoom device (old k) (new k)) 0 blanks room_at opened done n (omega arith) (inside n lt)

    pub all_places : IsWithinLimits K → length mint ≤ 1000000
        → EachFrom (λ n b. IsFirstWritten device (first_record_of K mint n) (disk_of b) (new n)) 0 blanks → (n : ℕ) → n < node_count K
        → HasPlaceFor K mint device old n
    all_places limits few done n lt = each_two IsBlankAt (λ k b. IsFirstWritten device (first_record_of K mint k) (disk_of b) (new k))
        (λ k. k < node_count K → HasPlaceFor K mint device old k) 0 blanks
        (λ k b blank done_k inside_k was is. omega (arith, done_k.room, (blank.1 was is).read.room, first_size K mint k limits few inside_k)) opened
        done n (omega arith) (inside n lt) lt

    pub all_left : EachFrom (λ n b. OfTold (new n) (LeavesOf device (λ was. IsBegun was (first_record_of K mint n)) (disk_of b))) 0 blanks
        → (n : ℕ) → n < node_count K → LeavesBut device (λ was. IsBegun was (first_record_of K mint n)) (old n) (new n)
    all_left left n lt = each_two IsBlankAt _ (λ k. LeavesBut device (λ was. IsBegun was (first_record_of K mint k)) (old k) (new k)) 0 blanks
        left_at opened left n (omega arith) (inside n lt)

    module _ (answer : Answer) (stopped : WritingStopsAt (λ n b. OfTold (new n) (λ d. d ≡ disk_of b))
        (λ n b. IsStopped device n (first_record_of K mint n) answer (now n) (disk_of b) (new n))
        (λ n b. IsFirstWritten device (first_record_of K mint n) (disk_of b) (new n)) blanks) where
      abbrev LeftAt : ℕ → B → Type 0
      LeftAt n b = OfTold (new n) (LeavesOf device (λ was. IsBegun was (first_record_of K mint n)) (disk_of b))

      as_was : (n : ℕ) (b : B) → OfTold (new n) (λ d. d ≡ disk_of b) → LeftAt n b
      as_was n b same = λ d is_now some c image. inl (inr (subst (λ (x : D). device.images x c) (same d is_now) image))

      from_zero : length stopped.front ≡ 0 + length stopped.front
      from_zero = omega arith

      pub stopped_left : EachFrom LeftAt 0 blanks
      stopped_left = subst (λ (l : List B). EachFrom LeftAt 0 l) (sym stopped.parts)
          (each_join LeftAt 0 stopped.front (stopped.x ∷ stopped.done)
          (each_weaker _ LeftAt 0 stopped.front (λ k b ge lt waits. as_was k b waits) stopped.waiting)
          (subst (λ (k : ℕ). EachFrom LeftAt k (stopped.x ∷ stopped.done)) from_zero (
            (λ d is_now. (stopped.fails.safe d is_now).begun),
            each_weaker _ LeftAt (suc (length stopped.front)) stopped.done (λ k b ge lt done. done.begun) stopped.behind,
          )))

      -- the parts of what was opened
      opened_parts : EachFrom IsBlankAt (length stopped.front) (stopped.x ∷ stopped.done)
      opened_parts = subst (λ (k : ℕ). EachFrom IsBlankAt k (stopped.x ∷ stopped.done)) (sym from_zero)
          (each_split IsBlankAt 0 stopped.front (stopped.x ∷ stopped.done) (subst (λ (l : List B). EachFrom IsBlankAt 0 l) stopped.parts opened)).1

      long : length blanks ≡ length stopped.front + suc (length stopped.done)
      long = ap length stopped.parts ∙ length-append stopped.front (stopped.x ∷ stopped.done)

      lead_of : (front : List B) (x : B) (done : List B) → EachFrom (λ n b. OfTold (new n) (λ d. d ≡ disk_of b)) 0 front
          → IsStopped device (length front) (first_record_of K mint (length front)) answer (now (length front)) (disk_of x) (new (length front))
          → EachFrom IsBlankAt 0 (front ++ x ∷ done) → answer ≢ answers.DiskFault 0 → LeavesBut device IsEmptied (old 0) (new 0)
      lead_of [] x done waits fails blank other = emptied_at 0 x blank.0 (λ d is_now. (fails.safe d is_now).emptied other)
      lead_of (y ∷ front) x done waits fails blank other =
          emptied_at 0 y blank.0 (λ d is_now some c image. inr (subst (λ (k : D). device.images k c) (waits.0 d is_now) image))

      -- node 0 has its first record only where its disk failed
      pub stopped_lead : answer ≢ answers.DiskFault 0 → LeavesBut device IsEmptied (old 0) (new 0)
      stopped_lead other = lead_of stopped.front stopped.x stopped.done stopped.waiting stopped.fails
          (subst (λ (l : List B). EachFrom IsBlankAt 0 l) stopped.parts opened) other

      pub above_have_place : IsWithinLimits K → length mint ≤ 1000000 → (n : ℕ) → length stopped.front < n → n < node_count K
          → HasPlaceFor K mint device old n
      above_have_place limits few n above lt = each_two IsBlankAt (λ k b. IsFirstWritten device (first_record_of K mint k) (disk_of b) (new k))
          (λ k. k < node_count K → HasPlaceFor K mint device old k) (suc (length stopped.front)) stopped.done
          (λ k b blank done inside_k was is. omega (arith, done.room, (blank.1 was is).read.room, first_size K mint k limits few inside_k))
          opened_parts.1 stopped.behind n (omega (arith, above)) (omega (arith, long, all, lt)) lt

      here_inside : length stopped.front < node_count K
      here_inside = omega (arith, long, all)

      same_there : (n : ℕ) (b : B) → IsBlankAt n b → OfTold (new n) (λ d. d ≡ disk_of b) → IsUnchanged device (old n) (new n)
      same_there n b blank same = same_opened device disk_of (λ x c. IsUnused (node_of x) c) (old n) (new n) b blank.1 same

      front_parts : EachFrom IsBlankAt 0 stopped.front
      front_parts = (each_split IsBlankAt 0 stopped.front (stopped.x ∷ stopped.done)
          (subst (λ (l : List B). EachFrom IsBlankAt 0 l) stopped.parts opened)).0

      -- the node at which the writing stopped
      pub stopped_at : value_out mint < 2 ^ 64 → ((n : ℕ) → node_count K ≤ n → new n ≡ old n)
          → InitStoppedAt K mint device old new answer (length stopped.front)
      stopped_at fits others = record {
        was = may_be_made fits;
        inside = here_inside;
        told = of_node (length stopped.front) (device.limit (disk_of stopped.x)) (first_record_of K mint (length stopped.front)) answer
            stopped.fails.refusal;
        below = λ n lt. each_two IsBlankAt (λ k b. OfTold (new k) (λ d. d ≡ disk_of b)) (λ k. IsUnchanged device (old k) (new k)) 0 stopped.front
            same_there front_parts stopped.waiting n (omega arith) (omega (arith, lt));
        begun = left_at (length stopped.front) stopped.x opened_parts.0 (λ d is_now. (stopped.fails.safe d is_now).begun);
        emptied = λ other. emptied_at (length stopped.front) stopped.x opened_parts.0 (λ d is_now. (stopped.fails.safe d is_now).emptied other);
        above = λ n gt lt. each_two IsBlankAt (λ k b. IsFirstWritten device (first_record_of K mint k) (disk_of b) (new k))
            (λ k. HoldsFirst device (first_record_of K mint k) (old k) (new k)) (suc (length stopped.front)) stopped.done holds_at opened_parts.1
            stopped.behind n (omega (arith, gt)) (omega (arith, long, all, lt));
        outside = others;
      }

  refused_of : (a : Answer) (node : ℕ) (x : B) → node < node_count K → IsBlankAt node x → MayBeMade K mint device old → IsWithinLimits K
      → length mint ≤ 1000000 → ((n : ℕ) → node < n → n < node_count K → HasPlaceFor K mint device old n)
      → IsUnwritten node (device.limit (disk_of x)) (first_record_of K mint node) a → IsOpening node (device.count (disk_of x)) (now node) a
      → IsUnmade K mint device old before now a
  refused_of (answers.Full n used need capacity) node x inside blank may limits few above un op =
      let last : IsLastFull K mint device old node need capacity = record {
        inside = inside;
        need_is = un.2 ∙ first_size K mint node limits few inside;
        capacity_is = λ was is. un.3 ∙ (blank.1 was is).read.room;
        passes = un.4;
        above = above;
      } in
      (may, un.1, subst (λ (k : ℕ). IsLastFull K mint device old k need capacity) (sym un.0) last)
  refused_of (answers.DiskFault n) node x inside blank may limits few above un op =
      let rose : Rose (before node) (now node) = omega (arith, op.1, blank.0.1) in (
        may.fits,
        subst (λ (k : ℕ). k < node_count K) (sym un.0) inside,
        subst (λ (k : ℕ). Rose (before k) (now k)) (sym un.0) rose,
        λ m lt. may.unused m (omega (arith, lt, un.0, inside)),
      )
  refused_of answers.Memory node x inside blank may limits few above un op = tt
  refused_of answers.Ok node x inside blank may limits few above un op = absurd un
  refused_of answers.BadWords node x inside blank may limits few above un op = absurd un
  refused_of (answers.BadInput file at kind) node x inside blank may limits few above un op = absurd un
  refused_of (answers.TooMuch total) node x inside blank may limits few above un op = absurd un
  refused_of (answers.NotReady n) node x inside blank may limits few above un op = absurd un
  refused_of (answers.Foreign n kept asked) node x inside blank may limits few above un op = absurd un
  refused_of (answers.NotEmpty n) node x inside blank may limits few above un op = absurd un
  refused_of (answers.Unsound place kind) node x inside blank may limits few above un op = absurd un
  refused_of (answers.ClockEnd n stamp) node x inside blank may limits few above un op = absurd un
  refused_of (answers.Damaged n at) node x inside blank may limits few above un op = absurd un
  refused_of (answers.ReadFault file) node x inside blank may limits few above un op = absurd un
  refused_of answers.WriteFault node x inside blank may limits few above un op = absurd un

  pub stopped_unmade : (blanks : List B) (all : length blanks ≡ node_count K) (opened : EachFrom IsBlankAt 0 blanks) (answer : Answer)
      (stopped : WritingStopsAt (λ n b. OfTold (new n) (λ d. d ≡ disk_of b))
      (λ n b. IsStopped device n (first_record_of K mint n) answer (now n) (disk_of b) (new n))
      (λ n b. IsFirstWritten device (first_record_of K mint n) (disk_of b) (new n)) blanks)
      → value_out mint < 2 ^ 64 → IsWithinLimits K → length mint ≤ 1000000 → IsUnmade K mint device old before now answer
  stopped_unmade blanks all opened answer stopped fits limits few =
      refused_of answer (length stopped.front) stopped.x (here_inside blanks all opened answer stopped)
      (opened_parts blanks all opened answer stopped).0 (may_be_made blanks all opened fits) limits few
      (above_have_place blanks all opened answer stopped limits few) stopped.fails.refusal stopped.fails.opening

  -- a node that can't be opened
  pub opening_unmade : (a : Answer) (start end : ℕ) → start ≡ 0 → end ≡ node_count K → value_out mint < 2 ^ 64
      → FailsFirst IsBlankAt (λ n e. (IsBlankRefusal e × IsOpening n (before n) (now n) e)
      × OfTold (old n) (λ was. Tells (device.content was) (λ c. IsNoBlank n c e))) start end a → IsUnmade K mint device old before now a
  opening_unmade (answers.NotEmpty n) start end is_start is_end fits first =
      let here : IsFirstInUse K mint device old first.node = record {
        fits = fits;
        inside = omega (arith, first.inside, is_end);
        in_use = λ was is c told. (first.fails.1 was is c told).1;
        before = λ k lt. each_two IsBlankAt IsBlankAt (λ m. ToldUnused device old m) start first.before (λ m b blank same. unused_at m b blank)
            first.opened first.opened k (omega (arith, is_start)) (omega (arith, first.places, lt));
      } in
      subst (λ (k : ℕ). IsFirstInUse K mint device old k) (sym first.fails.0.1) here
  opening_unmade (answers.DiskFault n) start end is_start is_end fits first =
      let same : n ≡ first.node = first.fails.0.1.0 in (
        fits,
        omega (arith, same, first.inside, is_end),
        subst (λ (k : ℕ). Rose (before k) (now k)) (sym same) first.fails.0.1.1,
        λ k lt. each_two IsBlankAt IsBlankAt (λ m. ToldUnused device old m) start first.before (λ m b blank same. unused_at m b blank) first.opened
            first.opened k (omega (arith, is_start)) (omega (arith, first.places, lt, same)),
      )
  opening_unmade answers.Memory start end is_start is_end fits first = tt
  opening_unmade answers.Ok start end is_start is_end fits first = absurd first.fails.0.0
  opening_unmade answers.BadWords start end is_start is_end fits first = absurd first.fails.0.0
  opening_unmade (answers.BadInput file at kind) start end is_start is_end fits first = absurd first.fails.0.0
  opening_unmade (answers.TooMuch total) start end is_start is_end fits first = absurd first.fails.0.0
  opening_unmade (answers.NotReady n) start end is_start is_end fits first = absurd first.fails.0.0
  opening_unmade (answers.Foreign n kept asked) start end is_start is_end fits first = absurd first.fails.0.0
  opening_unmade (answers.Full n used need capacity) start end is_start is_end fits first = absurd first.fails.0.0
  opening_unmade (answers.Unsound place kind) start end is_start is_end fits first = absurd first.fails.0.0
  opening_unmade (answers.ClockEnd n stamp) start end is_start is_end fits first = absurd first.fails.0.0
  opening_unmade (answers.Damaged n at) start end is_start is_end fits first = absurd first.fails.0.0
  opening_unmade (answers.ReadFault file) start end is_start is_end fits first = absurd first.fails.0.0
  opening_unmade answers.WriteFault start end is_start is_end fits first = absurd first.fails.0.0
