-- Nodes that are opened beside each other, by their places.
use Rattle.std.proofs.Common.{◌≡◌, ◌≤◌, le_trans, ◌<◌, ◌+◌, ◌++◌, ◌∷◌, [], ℕ, suc, List, length, Option, Some, refl, sym, ap, subst, arith}
use Rattle.std.specs.Prelude.{slice_index_or}
use Rattle.std.specs.List.{All}
use Rattle.std.proofs.lemmas.List.Elements.{All-nil, All-cons}
use Rattle.outside.specs.Images.{Tells}
use Rattle.outside.specs.declared.disk.Disk.{Ghosts}
use Rattle.cbdc_types.specs.declared.answer.Answer.{Answer}
use Rattle.cbdc_model.specs.Records.{Header}
use Rattle.rack_ledgers.specs.Places.{EachFrom, MayReturn}
use Rattle.rack_ledgers.specs.Racked.{OfTold, IsNodeOpened, IsReturned, IsDiskBack, FailsFirst}
use Rattle.rack_ledgers.proofs.Each.{each_two}
use Rattle.rack_ledgers.proofs.Range.{opening_later}
use Rattle.rack_ledgers.proofs.Told.{back_opened, rose_not}
use Rattle.rack_ledgers.specs.declared.slots.Slot.{Slot}
use Rattle.rack_ledgers.specs.declared.slots.Slot.TheVariants as slots
use Rattle.rack_ledgers.specs.Slots.{IsWaitingSlot, nodes_in, AreNodesOpen, AreNotRefused, IsFirstNodeRefusal, faults_in, MayPut, HasDisk, IsDiskIn}
use Rattle.rack_ledgers.specs.Slots.{IsTakenDisk, IsTakenSlot, IsOpenOn, IsRefusedOn, SlotResult, SlotResultAt, OpensAt, FailsAt}

-- what each place was says what it is
pub each_came : {S : Type 0} (Goes : S → S → Type 0) (P Q : ℕ → S → Type 0) → ((n : ℕ) (s t : S) → Goes s t → P n s → Q n t)
    → (first : ℕ) (olds news : List S) → length news ≡ length olds
    → ((i : ℕ) (d : S) → i < length olds → Goes (slice_index_or olds i d) (slice_index_or news i d)) → EachFrom P first olds → EachFrom Q first news
each_came Goes P Q step first [] [] same came all = tt
each_came Goes P Q step first [] (t ∷ news) same came all = absurd (let z = same in omega (arith, z))
each_came Goes P Q step first (s ∷ olds) [] same came all = absurd (let z = same in omega (arith, z))
each_came Goes P Q step first (s ∷ olds) (t ∷ news) same came all = (
  step first s t (came 0 s (omega arith)) all.0,
  each_came Goes P Q step (suc first) olds news (let z = same in omega (arith, z)) (λ i d lt. came (suc i) d (omega (arith, lt))) all.1,
)

-- two lists, one behind the other
pub each_append : {X : Type 0} (P : ℕ → X → Type 0) (first : ℕ) (xs ys : List X) → EachFrom P first xs → EachFrom P (first + length xs) ys
    → EachFrom P first (xs ++ ys)
each_append P first [] ys front behind = subst (λ (k : ℕ). EachFrom P k ys) (omega arith) behind
each_append P first (x ∷ xs) ys front behind = (
  front.0,
  each_append P (suc first) xs ys front.1 (subst (λ (k : ℕ). EachFrom P k ys) (omega arith) behind),
)

-- what two properties of each item say together
pub each_both : {X : Type 0} (P Q : ℕ → X → Type 0) (first : ℕ) (xs : List X) → EachFrom P first xs → EachFrom Q first xs
    → EachFrom (λ n x. P n x × Q n x) first xs
each_both P Q first [] one other = tt
each_both P Q first (x ∷ xs) one other = ((one.0, other.0), each_both P Q (suc first) xs one.1 other.1)

-- as many nodes as places
pub count_of : {D N : Type 0} (xs : List (Slot D N)) → AreNodesOpen xs → length (nodes_in xs) ≡ length xs
count_of [] are = refl
count_of (slots.Opened x ∷ xs) are = let e = count_of xs are in omega (arith, e)
count_of (slots.Waiting m x ∷ xs) are = absurd are
count_of (slots.Refused x e ∷ xs) are = absurd are
count_of (slots.Gone ∷ xs) are = absurd are

-- the disks that were taken wait
pub all_wait : {D N : Type 0} (device : Ghosts D) (held : ℕ → Option D) (before : ℕ → ℕ) (first : ℕ) (xs : List (Slot D N))
    → EachFrom (IsTakenSlot device held before) first xs → All IsWaitingSlot xs
all_wait device held before first [] taken = All-nil IsWaitingSlot
all_wait device held before first (slots.Waiting n d ∷ xs) taken =
    All-cons IsWaitingSlot (slots.Waiting n d) xs tt (all_wait device held before (suc first) xs taken.1)
all_wait device held before first (slots.Opened x ∷ xs) taken = absurd taken.0
all_wait device held before first (slots.Refused d e ∷ xs) taken = absurd taken.0
all_wait device held before first (slots.Gone ∷ xs) taken = absurd taken.0

module _ {D N : Type 0} (device : Ghosts D) (disk_of : N → D) where
  pub faults_of : (s : Slot D N) (d : D) → IsDiskIn disk_of s d → faults_in device disk_of s ≡ device.count d
  faults_of (slots.Waiting n x) d is = ap device.count (sym is)
  faults_of (slots.Opened x) d is = ap device.count (sym is)
  faults_of (slots.Refused x e) d is = ap device.count (sym is)
  faults_of slots.Gone d is = absurd is

  -- the disk that is there may be put back, and there is one
  pub may_put : (can_put : ℕ → ℕ → Type 0) (n : ℕ) (s : Slot D N) (d : D) → IsDiskIn disk_of s d → MayPut device disk_of can_put n s
      → can_put n (device.count d)
  may_put can_put n (slots.Waiting m x) d is may = may (device.count d) (omega (arith, ap device.count is))
  may_put can_put n (slots.Opened x) d is may = may (device.count d) (omega (arith, ap device.count is))
  may_put can_put n (slots.Refused x e) d is may = may (device.count d) (omega (arith, ap device.count is))
  may_put can_put n slots.Gone d is may = absurd is

  pub has_disk : (can_put : ℕ → ℕ → Type 0) (n : ℕ) (s : Slot D N) → MayPut device disk_of can_put n s → HasDisk s
  has_disk can_put n (slots.Waiting m x) may = tt
  has_disk can_put n (slots.Opened x) may = tt
  has_disk can_put n (slots.Refused x e) may = tt
  has_disk can_put n slots.Gone may = may

  pub may_still : (could can : ℕ → ℕ → Type 0) (n : ℕ) (s : Slot D N) → ((k : ℕ) → could n k → can n k) → MayPut device disk_of could n s
      → MayPut device disk_of can n s
  may_still could can n (slots.Waiting m x) keeps may = λ k le. keeps k (may k le)
  may_still could can n (slots.Opened x) keeps may = λ k le. keeps k (may k le)
  may_still could can n (slots.Refused x e) keeps may = λ k le. keeps k (may k le)
  may_still could can n slots.Gone keeps may = may

  -- so may the disks of the nodes
  pub each_out : (can_put : ℕ → ℕ → Type 0) (first : ℕ) (xs : List (Slot D N)) → AreNodesOpen xs → EachFrom (MayPut device disk_of can_put) first xs
      → EachFrom (MayReturn (λ y. device.count (disk_of y)) can_put) first (nodes_in xs)
  each_out can_put first [] are may = tt
  each_out can_put first (slots.Opened x ∷ xs) are may = (may.0, each_out can_put (suc first) xs are may.1)
  each_out can_put first (slots.Waiting m x ∷ xs) are may = absurd are
  each_out can_put first (slots.Refused x e ∷ xs) are may = absurd are
  each_out can_put first (slots.Gone ∷ xs) are may = absurd are

module _ {D N : Type 0} (device : Ghosts D) (disk_of : N → D) (opens : N → List ℕ → Type 0) (fits : ℕ → Option Header → N → Type 0)
    (refusals : Answer → Type 0) (refused : ℕ → Option Header → ℕ → List ℕ → Answer → Type 0) (h : Header) where
  abbrev Came : Slot D N → Slot D N → Type 0
  Came = SlotResult device disk_of opens fits refusals refused h

  abbrev Opens : (ℕ → Option D) → (ℕ → ℕ) → ℕ → N → Type 0
  Opens = OpensAt device disk_of opens fits refusals refused h

  abbrev Fails : (ℕ → Option D) → (ℕ → ℕ) → (ℕ → ℕ) → ℕ → Answer → Type 0
  Fails = FailsAt device disk_of opens fits refusals refused h

  abbrev At : (ℕ → Option D) → (ℕ → ℕ) → ℕ → Slot D N → Type 0
  At = SlotResultAt device disk_of opens fits refusals refused h

  -- of a disk that was taken
  pub came_at : (held : ℕ → Option D) (before : ℕ → ℕ) (n : ℕ) (s t : Slot D N) → Came s t → IsTakenSlot device held before n s → At held before n t
  came_at held before n (slots.Waiting m d) t came taken =
      record { disk = d; taken = taken.1; came = subst (λ (k : ℕ). Came (slots.Waiting k d) t) taken.0 came }
  came_at held before n (slots.Opened x) t came taken = absurd taken
  came_at held before n (slots.Refused d e) t came taken = absurd taken
  came_at held before n slots.Gone t came taken = absurd taken

  pub came_put : (can_put : ℕ → ℕ → Type 0) (n : ℕ) (s t : Slot D N) → Came s t → MayPut device disk_of can_put n s
      → MayPut device disk_of can_put n t
  came_put can_put n (slots.Waiting m d) (slots.Opened x) came may = λ k le. may k (le_trans came.since le)
  came_put can_put n (slots.Waiting m d) (slots.Refused x e) came may = λ k le. may k (le_trans came.later le)
  came_put can_put n (slots.Waiting m d) (slots.Waiting k x) came may = absurd came
  came_put can_put n (slots.Waiting m d) slots.Gone came may = absurd came
  came_put can_put n (slots.Opened x) t came may = absurd came
  came_put can_put n (slots.Refused d e) t came may = absurd came
  came_put can_put n slots.Gone t came may = absurd came

  -- a node that was opened, and one that was refused
  opens_at : (held : ℕ → Option D) (before : ℕ → ℕ) (n : ℕ) (x : N) (d : D) → IsTakenDisk device held before n d
      → IsOpenOn device disk_of opens fits refusals refused h n d x → Opens held before n x
  opens_at held before n x d taken is = (
    (is.asked, le_trans taken.counted is.since),
    λ was told. subst (λ (y : D). IsNodeOpened device disk_of opens y x) (taken.told was told) is.opened,
  )

  fails_at : (held : ℕ → Option D) (before now : ℕ → ℕ) (n : ℕ) (e : Answer) (was is : D) → IsTakenDisk device held before n was
      → IsRefusedOn device disk_of opens fits refusals refused h n was is e → device.count is ≤ now n → Fails held before now n e
  fails_at held before now n e was is taken why le = (
    (why.kind, opening_later n (before n) (device.count was) (device.count is) (now n) e taken.counted le why.fault),
    λ d told. subst (λ (y : D). Tells (device.content y) (λ c. refused n (Some h) (device.limit y) c e)) (taken.told d told) why.cause,
  )

  -- its disk is back
  back_at : (held new : ℕ → Option D) (before now : ℕ → ℕ) (n : ℕ) (s : Slot D N) → At held before n s
      → OfTold (new n) (IsDiskIn disk_of s) × (faults_in device disk_of s ≤ now n)
      → IsDiskBack device (before n) (now n) (held n) (new n)
  back_at held new before now n (slots.Opened x) at put =
      back_opened device (before n) (now n) disk_of opens (held n) (new n) x (opens_at held before n x at.disk at.taken at.came).1 put.0
  back_at held new before now n (slots.Refused is e) at put = λ was told d is_now.
      let whole : IsReturned device (before n) (now n) at.disk is =
      record { read = at.came.back.read; same = λ none. at.came.back.same (rose_not at.taken.counted put.1 none) } in
      subst (λ (y : D). IsReturned device (before n) (now n) y d) (at.taken.told was told)
      (subst (λ (y : D). IsReturned device (before n) (now n) at.disk y) (sym (put.0 d is_now)) whole)
  back_at held new before now n (slots.Waiting m d) at put = absurd at.came
  back_at held new before now n slots.Gone at put = absurd at.came

  pub each_back : (held new : ℕ → Option D) (before now : ℕ → ℕ) (first : ℕ) (xs : List (Slot D N)) → EachFrom (At held before) first xs
      → EachFrom (λ n s. OfTold (new n) (IsDiskIn disk_of s)) first xs → EachFrom (λ n s. faults_in device disk_of s ≤ now n) first xs
      → (n : ℕ) → first ≤ n → n < first + length xs → IsDiskBack device (before n) (now n) (held n) (new n)
  each_back held new before now first xs came put counted =
      each_two (At held before) (λ n s. OfTold (new n) (IsDiskIn disk_of s) × (faults_in device disk_of s ≤ now n))
      (λ n. IsDiskBack device (before n) (now n) (held n) (new n)) first xs
      (λ n s at is. back_at held new before now n s at is) came
      (each_both (λ n s. OfTold (new n) (IsDiskIn disk_of s)) (λ n s. faults_in device disk_of s ≤ now n) first xs put counted)

  -- none was refused: all are open
  pub are_open : (held : ℕ → Option D) (before : ℕ → ℕ) (first : ℕ) (xs : List (Slot D N)) → EachFrom (At held before) first xs → AreNotRefused xs
      → AreNodesOpen xs
  are_open held before first [] came none = tt
  are_open held before first (slots.Opened x ∷ xs) came none = are_open held before (suc first) xs came.1 none
  are_open held before first (slots.Refused d e ∷ xs) came none = absurd none
  are_open held before first (slots.Waiting m d ∷ xs) came none = absurd came.0.came
  are_open held before first (slots.Gone ∷ xs) came none = absurd came.0.came

  pub each_open : (held : ℕ → Option D) (before : ℕ → ℕ) (first : ℕ) (xs : List (Slot D N)) → EachFrom (At held before) first xs → AreNodesOpen xs
      → EachFrom (Opens held before) first (nodes_in xs)
  each_open held before first [] came are = tt
  each_open held before first (slots.Opened x ∷ xs) came are =
      (opens_at held before first x came.0.disk came.0.taken came.0.came, each_open held before (suc first) xs came.1 are)
  each_open held before first (slots.Refused d e ∷ xs) came are = absurd are
  each_open held before first (slots.Waiting m d ∷ xs) came are = absurd are
  each_open held before first (slots.Gone ∷ xs) came are = absurd are

  -- the first that was refused
  pub refused_first : (held : ℕ → Option D) (before now : ℕ → ℕ) (first end : ℕ) (xs : List (Slot D N)) (e : Answer) → first + length xs ≤ end
      → EachFrom (At held before) first xs → EachFrom (λ n s. faults_in device disk_of s ≤ now n) first xs
      → IsFirstNodeRefusal xs e → FailsFirst (Opens held before) (Fails held before now) first end e
  refused_first held before now first end [] e inside came counted is = absurd is
  refused_first held before now first end (slots.Opened x ∷ xs) e inside came counted is =
      let later = refused_first held before now (suc first) end xs e (omega (arith, inside)) came.1 counted.1 is in
      record {
        node = later.node;
        from_on = omega (arith, later.from_on);
        inside = later.inside;
        before = x ∷ later.before;
        places = omega (arith, later.places);
        opened = (opens_at held before first x came.0.disk came.0.taken came.0.came, later.opened);
        fails = later.fails;
      }
  refused_first held before now first end (slots.Refused d a ∷ xs) e inside came counted is = record {
    node = first;
    from_on = omega arith;
    inside = omega (arith, inside);
    before = [];
    places = omega arith;
    opened = tt;
    fails = subst (λ (b : Answer). Fails held before now first b) (sym is)
        (fails_at held before now first a came.0.disk d came.0.taken came.0.came counted.0);
  }
  refused_first held before now first end (slots.Waiting m d ∷ xs) e inside came counted is = absurd came.0.came
  refused_first held before now first end (slots.Gone ∷ xs) e inside came counted is = absurd came.0.came

  -- the one behind those that are open
  pub fails_behind : (held : ℕ → Option D) (before now : ℕ → ℕ) (first end : ℕ) (xs : List (Slot D N)) (e : Answer) → first + length xs < end
      → EachFrom (At held before) first xs → AreNodesOpen xs
      → Fails held before now (first + length xs) e → FailsFirst (Opens held before) (Fails held before now) first end e
  fails_behind held before now first end xs e inside came are why = record {
    node = first + length xs;
    from_on = omega arith;
    inside = inside;
    before = nodes_in xs;
    places = omega (arith, count_of xs are);
    opened = each_open held before first xs came are;
    fails = why;
  }

  -- the same in a longer stretch of time
  pub fails_later : (held : ℕ → Option D) (before between now : ℕ → ℕ) (from start end stop : ℕ) (e : Answer) → from ≡ start → end ≡ stop
      → ((n : ℕ) → between n ≤ now n)
      → FailsFirst (Opens held before) (Fails held before between) from end e → FailsFirst (Opens held before) (Fails held before now) start stop e
  fails_later held before between now from start end stop e begins ends later f = record {
    node = f.node;
    from_on = omega (arith, f.from_on, begins);
    inside = omega (arith, f.inside, ends);
    before = f.before;
    places = omega (arith, f.places, begins);
    opened = subst (λ (k : ℕ). EachFrom (Opens held before) k f.before) begins f.opened;
    fails = (
      (f.fails.0.0, opening_later f.node (before f.node) (before f.node) (between f.node) (now f.node) e (omega arith) (later f.node) f.fails.0.1),
      f.fails.1,
    );
  }
