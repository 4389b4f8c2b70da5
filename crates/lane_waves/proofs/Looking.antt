-- What the seats of a wave's auditor come to, and what it saw.
use Rattle.std.proofs.Common.{append_assoc, append-nil, Result, Ok, Err, ◌≡◌, ℕ, zero, suc, ◌+◌, ◌<◌, List, [], ◌∷◌, ◌++◌, length, reverse, refl, sym}
use Rattle.std.proofs.Common.{ap, ◌∙◌, subst, arith}
use Rattle.std.proofs.lemmas.Grind.{common_steps}
use Rattle.std.specs.Global.{Vec}
use Rattle.std.specs.Prelude.{OnOk}
use Rattle.cbdc_model.specs.Records.{Shape, Record}
use Rattle.cbdc_model.specs.Lanes.{IsEnd}
use Rattle.cbdc_model.specs.Ranges.{shard_node}
use Rattle.cbdc_model.specs.Sights.{Sight}
use Rattle.node_lock.specs.declared.lock.Guarded.{Guarded}
use Rattle.node_lock.specs.declared.seat.Seat.{Seat}
use Rattle.node_lock.specs.declared.views.Hand.{Hand}
use Rattle.node_lock.specs.Seats.{knows, opening_of}
use Rattle.node_ports.specs.Nodes.{sight_at}
use Rattle.port_sets.specs.Looks.{HasListed}
use Rattle.port_sets.specs.Nodes.{shard_sight, log_sight}
use Rattle.port_sets.specs.declared.coordinators.SharedLog.{SharedLog}
use Rattle.port_sets.specs.declared.locking.SharedShard.{SharedShard}
use Rattle.lane_waves.specs.NodeRows.{lanes_of}
use Rattle.lane_waves.specs.Watching.{KeepsQuiet, HaveLooked, AreSeatsOf, AreListed, AreAllListed, AreWatching, AreFreshWatchers, AreFrontsOf}
use Rattle.lane_waves.specs.Watchers.{IfSaw, list_at, IsBetween, HasSeen, CanWatch, HasWatched}
use Rattle.lane_waves.specs.declared.watching.Watch.{Watch}
use Rattle.lane_waves.specs.declared.watching.Watcher.{Watcher}
use Rattle.lane_waves.specs.declared.watching.Watch.TheVariants.{Off, Next, Saw}

-- what is so of all that an auditor saw
pub saw_by : (w : Watch) (P Q : List (Vec Record) → Type 0) → ((lists : List (Vec Record)) → P lists → Q lists) → IfSaw w P → IfSaw w Q
saw_by Off P Q f p = tt
saw_by Next P Q f p = tt
saw_by (Saw lists) P Q f p = f lists.items p

-- a wave with no auditor tells nothing
pub saw_none : (w : Watch) (P : List (Vec Record) → Type 0) → w ≡ Off → IfSaw w P
saw_none w P e = subst (λ v. IfSaw v P) (sym e) tt

quiet_self : (h : Hand) → KeepsQuiet h h
quiet_self h = record { lane = refl; made = refl; left = refl; grows = ([], refl) }

module _ {N : Type 0} where
  -- seats that did not look
  pub looked_self : (ss : List (Seat N)) → HaveLooked ss ss
  looked_self [] = tt
  looked_self (s ∷ ss) = (quiet_self (knows s), looked_self ss)

  -- the first of some seats looked
  pub first_looked : {E : Type 0} (ss : List (Seat N)) (s t : Seat N) (rest : List (Seat N)) (all : Result (Vec Record) E) → ss ≡ s ∷ rest
      → HasListed (knows s) (knows t) all → HaveLooked ss (t ∷ rest)
  first_looked ss s t rest all e h = subst (λ xs. HaveLooked xs (t ∷ rest)) (sym e)
      (record { lane = h.lane; made = h.made; left = h.left; grows = h.grows }, looked_self rest)

  -- there is no seat, and no list
  pub none_more : (gs : List (Guarded N)) (ss : List (Seat N)) (old : List (Vec Record)) → length gs ≡ 0 → AreSeatsOf gs ss
      → (more : List (Vec Record)) × (old ≡ old ++ more) × AreListed more ss
  none_more [] [] old e o = ([], sym (append-nil old), tt)
  none_more [] (s ∷ ss) old e o = absurd o
  none_more (g ∷ gs) ss old e o = absurd (omega (arith, e))

  -- one list more
  pub listed_more : {A E : Type 0} (r : Result A E) (old pushed new : List (Vec Record)) (l : Vec Record) (t : Seat N) (ts : List (Seat N))
      → pushed ≡ old ++ l ∷ [] → reverse l.items ≡ (knows t).seen
      → OnOk r ((more : List (Vec Record)) × (new ≡ pushed ++ more) × AreListed more ts)
      → OnOk r ((more : List (Vec Record)) × (new ≡ old ++ more) × AreListed more (t ∷ ts))
  listed_more (Ok a) old pushed new l t ts e k (more, is, own) = (l ∷ more, is ∙ (ap (λ xs. xs ++ more) e ∙ append_assoc old (l ∷ []) more), (k, own))
  listed_more (Err a) old pushed new l t ts e k o = tt

  -- watchers that looked have made nothing still
  pub watch_on : (gs : List (Guarded N)) (ws ts : List (Seat N)) → AreWatching gs ws → HaveLooked ws ts → AreSeatsOf gs ts → AreWatching gs ts
  watch_on [] [] [] k l o = tt
  watch_on [] [] (t ∷ ts) k l o = absurd l
  watch_on [] (w ∷ ws) ts k l o = absurd k
  watch_on (g ∷ gs) [] ts k l o = absurd k
  watch_on (g ∷ gs) (w ∷ ws) [] k l o = absurd l
  watch_on (g ∷ gs) (w ∷ ws) (t ∷ ts) k l o = (
    record {
      seat = o.0;
      last = k.0.last ∙ ap (λ n. lanes_of g ++ n ∷ []) (sym l.0.lane);
      made = l.0.made ∙ k.0.made;
      left = l.0.left ∙ k.0.left;
    },
    watch_on gs ws ts k.1 l.1 o.1,
  )

  -- fresh ones are seats of their locks
  pub fresh_seats : (sight : N → Sight) (w : ℕ) (gs : List (Guarded N)) (ws : List (Seat N)) → AreFreshWatchers sight w gs ws → AreSeatsOf gs ws
  fresh_seats sight w [] [] k = tt
  fresh_seats sight w [] (s ∷ ws) k = absurd k
  fresh_seats sight w (g ∷ gs) [] k = absurd k
  fresh_seats sight w (g ∷ gs) (s ∷ ws) k = (k.0.watching.seat, fresh_seats sight w gs ws k.1)

  -- as many lists as locks
  pub listed_many : (gs : List (Guarded N)) (ts : List (Seat N)) (ls : List (Vec Record)) → AreSeatsOf gs ts → AreListed ls ts → length ls ≡ length gs
  listed_many [] [] [] o k = refl
  listed_many [] [] (l ∷ ls) o k = absurd k
  listed_many [] (t ∷ ts) ls o k = absurd o
  listed_many (g ∷ gs) [] ls o k = absurd o
  listed_many (g ∷ gs) (t ∷ ts) [] o k = absurd k
  listed_many (g ∷ gs) (t ∷ ts) (l ∷ ls) o k = ap suc (listed_many gs ts ls o.1 k.1)

  -- what a seat has seen lies between what its lock's node had at the opening and what it has at the closing
  pub seen_between : (sight : N → Sight) (w : ℕ) (gs : List (Guarded N)) (ws ts : List (Seat N)) (ls : List (Vec Record)) (ns : List N) (n : ℕ)
      → n < length gs
      → AreFreshWatchers sight w gs ws → HaveLooked ws ts → AreListed ls ts → AreFrontsOf sight ts ns
      → IsBetween (sight_at (λ g. sight (opening_of g)) gs n).seen (sight_at sight ns n).seen (list_at ls n)
  seen_between sight w [] ws ts ls ns n lt f l k e = absurd (let z : n < 0 = lt in omega (arith, z))
  seen_between sight w (g ∷ gs) [] ts ls ns n lt f l k e = absurd f
  seen_between sight w (g ∷ gs) (s ∷ ws) [] ls ns n lt f l k e = absurd l
  seen_between sight w (g ∷ gs) (s ∷ ws) (t ∷ ts) [] ns n lt f l k e = absurd k
  seen_between sight w (g ∷ gs) (s ∷ ws) (t ∷ ts) (r ∷ ls) [] n lt f l k e = absurd e
  seen_between sight w (g ∷ gs) (s ∷ ws) (t ∷ ts) (r ∷ ls) (m ∷ ns) zero lt f l k e = record {
    since = subst (λ L. IsEnd (sight (opening_of g)).seen L) (sym k.0)
        (subst (λ L. IsEnd L (knows t).seen) (ap (λ h. h.seen) f.0.fresh_is) l.0.grows);
    front = subst (λ L. IsEnd L (sight m).seen) (sym k.0) e.0;
  }
  seen_between sight w (g ∷ gs) (s ∷ ws) (t ∷ ts) (r ∷ ls) (m ∷ ns) (suc n) lt f l k e =
      seen_between sight w gs ws ts ls ns n (omega (arith, lt)) f.1 l.1 k.1 e.1

-- ---- lists of two kinds in one

list_low : (ls ms : List (Vec Record)) (n : ℕ) → n < length ls → list_at (ls ++ ms) n ≡ list_at ls n
list_low [] ms n lt = absurd (let z : n < 0 = lt in omega (arith, z))
list_low (l ∷ ls) ms zero lt = refl
list_low (l ∷ ls) ms (suc n) lt = list_low ls ms n (omega (arith, lt))

list_high : (ls ms : List (Vec Record)) (n m : ℕ) → m ≡ length ls + n → list_at (ls ++ ms) m ≡ list_at ms n
list_high [] ms n m e = let z : m ≡ 0 + n = e in let same : m ≡ n = omega (arith, z) in ap (list_at ms) same
list_high (l ∷ ls) ms n zero e = absurd (omega (arith, e))
list_high (l ∷ ls) ms n (suc m) e = list_high ls ms n m (omega (arith, e))

both_many : (ls ms : List (Vec Record)) → length (ls ++ ms) ≡ length ls + length ms
both_many ls ms = grind (arith, common_steps)

-- an auditor that did not look
pub not_watched : {D S : Type 0} (gs : List (Guarded (SharedLog D))) (hs : List (Guarded (SharedShard S))) (w : Watcher D S) → CanWatch gs hs w
    → HasWatched gs hs w w
not_watched gs hs w can = record {
  logs = can.logs;
  shards = can.shards;
  logs_kept = looked_self w.log_seats.items;
  shards_kept = looked_self w.shard_seats.items;
  told = subst (λ v. IfSaw v (λ lists. AreAllListed lists w.log_seats.items w.shard_seats.items)) (sym can.none) tt;
}

module _ {D S : Type 0} (sight : S → Sight) (K : Shape) where
  -- what an auditor at fresh seats of all locks saw, once they are closed
  pub has_seen : (w : ℕ) (gs : List (Guarded (SharedLog D))) (hs : List (Guarded (SharedShard S))) (ws ts : List (Seat (SharedLog D)))
      (us vs : List (Seat (SharedShard S)))
      (ns : List (SharedLog D)) (ms : List (SharedShard S)) (lists : List (Vec Record)) → length gs ≡ K.coordinators → length hs ≡ K.shards
      → AreFreshWatchers log_sight w gs ws → AreFreshWatchers (shard_sight sight) w hs us → HaveLooked ws ts → HaveLooked us vs → AreSeatsOf gs ts
      → AreSeatsOf hs vs
      → AreFrontsOf log_sight ts ns → AreFrontsOf (shard_sight sight) vs ms → AreAllListed lists ts vs
      → HasSeen K (sight_at (λ g. log_sight (opening_of g)) gs) (sight_at (λ h. shard_sight sight (opening_of h)) hs) (sight_at log_sight ns)
      (sight_at (shard_sight sight) ms) lists
  has_seen w gs hs ws ts us vs ns ms lists logs_many shards_many fresh_logs fresh_shards logs_looked shards_looked of_logs of_shards log_fronts
      shard_fronts all =
      let front_many = listed_many gs ts all.front of_logs all.of_front in
      let back_many = listed_many hs vs all.back of_shards all.of_back in
      let sum = both_many all.front all.back in
      record {
        many = ap (λ (xs : List (Vec Record)). length xs) all.lists_are
            ∙ (let e : length (all.front ++ all.back) ≡ K.coordinators + K.shards = omega (arith, sum, front_many, back_many, logs_many, shards_many)
            in e);
        of_logs = λ n lt. subst (λ L. IsBetween (sight_at (λ g. log_sight (opening_of g)) gs n).seen (sight_at log_sight ns n).seen L)
            (sym (ap (λ xs. list_at xs n) all.lists_are ∙ list_low all.front all.back n (omega (arith, lt, front_many, logs_many))))
            (seen_between log_sight w gs ws ts all.front ns n (omega (arith, lt, logs_many)) fresh_logs logs_looked all.of_front log_fronts);
        of_shards = λ s lt. subst (λ L. IsBetween (sight_at (λ h. shard_sight sight (opening_of h)) hs s).seen
            (sight_at (shard_sight sight) ms s).seen L)
            (sym (ap (λ xs. list_at xs (shard_node K s)) all.lists_are
            ∙ list_high all.front all.back s (shard_node K s) (omega (arith, front_many, logs_many))))
            (seen_between (shard_sight sight) w hs us vs all.back ms s (omega (arith, lt, shards_many)) fresh_shards shards_looked all.of_back
            shard_fronts);
      }
