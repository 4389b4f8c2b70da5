-- Unspent hashes lie at their own shards, and are counted there.
use Rattle.std.proofs.Common.{◌≡◌, ◌⊎◌, inl, inr, ℕ, suc, ◌+◌, ◌<◌, ◌≤◌, Bool, true, false, ◌&&◌, ◌||◌, ◌==◌, if◌then◌else◌, List, [], ◌∷◌, ◌++◌}
use Rattle.std.proofs.Common.{length, Some, refl, sym, ap, ◌∙◌, subst, arith}
use Rattle.std.specs.Prelude.{All}
use Rattle.std.proofs.lemmas.List.{length-append}
use Rattle.std.proofs.lemmas.List.Elements.{All-nil, All-head, All-tail}
use Rattle.cbdc_model.specs.Records.{Digest, same_digest, Shape, Header, Batch, Answered, Record, record_of, kind_of, is_of, is_held, entries_in}
use Rattle.cbdc_model.specs.Records.{lock_of, Genesis, Lock, Finish, Carry}
use Rattle.cbdc_model.specs.Ranges.{shard_of, shard_node}
use Rattle.cbdc_model.specs.Status.{Status, status, has, held_inputs, taken_inputs, made_outputs, returned_inputs, finished_status, Unspent, Locked}
use Rattle.cbdc_model.specs.Status.{Absent}
use Rattle.cbdc_model.specs.Grammar.{AreHere, IsEntry, IsInGrammar}
use Rattle.cbdc_model.specs.After.{IsJournal}
use Rattle.cbdc_model.specs.World.{IsUnspent}
use Rattle.ledger_laws.proofs.Counts.{same_digest_is}
use Rattle.ledger_laws.proofs.Lookups.{not_true, shard_of-lt}
use Rattle.ledger_laws.proofs.Moves.{test_step}
use Rattle.shard_table.specs.Members.{IsSet}
use Rattle.shard_core.specs.Agrees.{says_unspent}
use Rattle.shard_core.specs.Counts.{CountsUnspent}
use Rattle.shard_core.proofs.Claims.{has_append}
use Rattle.std.proofs.lemmas.Slice.Eq.{bytes_eq-Decides}
use Rattle.std.proofs.Common.{map, take, get_or}
use Rattle.std.proofs.lemmas.List.{length-map, map-append, take_more, take_all}
use Rattle.cbdc_model.specs.History.{header_of}
use Rattle.cbdc_model.specs.Sights.{Sight}
use Rattle.node_journal.specs.Nodes.{NodeOf, sight}
use Rattle.node_ports.specs.Nodes.{sight_at}
use Rattle.run_laws.proofs.Seen.{seen_shard}
use Rattle.file_runs.specs.Ledgers.{IsLedger, node_journals}
use Rattle.printed_lines.specs.Unspent.{IsUnspentCount}
use Rattle.rack_runs.specs.Telling.{CountAll}

-- ---- what a shard's journal makes Unspent lies there

module _ (h : Header) where
  abbrev Here : Digest → Type 0
  Here x = shard_node h.shape (shard_of h.shape x) ≡ h.node

  in_list : (xs : List Digest) (x : Digest) → AreHere h.shape h.node xs → has xs x ≡ true → Here x
  in_list [] x all i = absurd (let z : false ≡ true = i in cc)
  in_list (y ∷ ys) x all i = elim (same_digest y x) as (λ b. same_digest y x ≡ b → (b || has ys x) ≡ true → Here x) [
    | true ↦ λ e _. subst (λ z. Here z) (same_digest_is y x e) (All-head Here y ys all)
    | false ↦ λ e rest. in_list ys x (All-tail Here y ys all) rest
  ] refl i

  in_both : (xs ys : List Digest) (x : Digest) → (has xs x ≡ true → Here x) → (has ys x ≡ true → Here x) → has (xs ++ ys) x ≡ true → Here x
  in_both xs ys x f g i = elim (has xs x) as (λ b. has xs x ≡ b → (b || has ys x) ≡ true → Here x) [
    | true ↦ λ e _. f e
    | false ↦ λ e rest. g rest
  ] refl (sym (has_append xs ys x) ∙ i)

  abbrev Entries : List Answered → Type 0
  Entries es = All (IsEntry h.shape h.node) es

  made_here : (es : List Answered) (ds : List Bool) (x : Digest) → Entries es → has (made_outputs es ds) x ≡ true → Here x
  made_here [] ds x all i = absurd (let z : false ≡ true = i in cc)
  made_here (a ∷ es) [] x all i = absurd (let z : false ≡ true = i in cc)
  made_here (a ∷ es) (d ∷ ds) x all i =
      let rest = made_here es ds x (All-tail (IsEntry h.shape h.node) a es all) in
      let own : IsEntry h.shape h.node a = All-head (IsEntry h.shape h.node) a es all in
      elim d as (λ b. has (if b then a.entry.outputs ++ made_outputs es ds else made_outputs es ds) x ≡ true → Here x) [
        | true ↦ λ t. in_both a.entry.outputs (made_outputs es ds) x (in_list a.entry.outputs x own.outputs_here) rest t
        | false ↦ λ t. rest t
      ] i

  returned_here : (es : List Answered) (ds : List Bool) (x : Digest) → Entries es → has (returned_inputs es ds) x ≡ true → Here x
  returned_here [] ds x all i = absurd (let z : false ≡ true = i in cc)
  returned_here (a ∷ es) [] x all i = absurd (let z : false ≡ true = i in cc)
  returned_here (a ∷ es) (d ∷ ds) x all i =
      let rest = returned_here es ds x (All-tail (IsEntry h.shape h.node) a es all) in
      let own : IsEntry h.shape h.node a = All-head (IsEntry h.shape h.node) a es all in
      elim (is_held a.reply) as (λ b. has (if b then (if d then returned_inputs es ds else a.entry.inputs ++ returned_inputs es ds)
      else returned_inputs es ds) x ≡ true → Here x) [
        | true ↦ elim d as (λ b. has (if b then returned_inputs es ds else a.entry.inputs ++ returned_inputs es ds) x ≡ true → Here x) [
          | true ↦ λ t. rest t
          | false ↦ λ t. in_both a.entry.inputs (returned_inputs es ds) x (in_list a.entry.inputs x own.inputs_here) rest t
        ]
        | false ↦ λ t. rest t
      ] i

  finished_here : (es : List Answered) (ds : List Bool) (x : Digest) (before : Status) → Entries es → (before ≡ Unspent → Here x)
      → finished_status es ds x before ≡ Unspent → Here x
  finished_here es ds x before all old now = elim (has (made_outputs es ds) x) as (λ m. has (made_outputs es ds) x ≡ m
      → (if m then Unspent else (if has (returned_inputs es ds) x then Unspent else (if has (taken_inputs es ds) x then Absent else before)))
      ≡ Unspent → Here x) [
        | true ↦ λ e _. made_here es ds x all e
        | false ↦ λ _ t. elim (has (returned_inputs es ds) x) as
            (λ r. has (returned_inputs es ds) x ≡ r → (if r then Unspent else (if has (taken_inputs es ds) x then Absent else before)) ≡ Unspent
            → Here x) [
              | true ↦ λ e _. returned_here es ds x all e
              | false ↦ λ _ u. elim (has (taken_inputs es ds) x) as (λ k. (if k then Absent else before) ≡ Unspent → Here x) [
                | true ↦ λ v. absurd (let z : Absent ≡ Unspent = v in cc)
                | false ↦ λ v. old v
              ] u
            ] refl t
      ] refl now

  entries_here : (r : Record) → IsInGrammar h r → Entries (entries_in (Some r))
  entries_here (Lock stamp b es) g = g.5
  entries_here other g = All-nil (IsEntry h.shape h.node)

  abbrev pub record_lies : List Record → Type 0
  record_lies J = ((x : Digest) → status J x ≡ Unspent → Here x) × ((b : Batch) → Entries (lock_of J b))

  lock_step : (r : Record) (past : List Record) (b : Batch) → IsInGrammar h r → Entries (lock_of past b) → Entries (lock_of (r ∷ past) b)
  lock_step r past b g old = elim ((kind_of r == 2) && is_of b r) as (λ t. ((kind_of r == 2) && is_of b r) ≡ t → Entries (lock_of (r ∷ past) b)) [
    | true ↦ λ t. subst (λ o. Entries (entries_in o)) (sym (found t)) (entries_here r g)
    | false ↦ λ t. subst (λ o. Entries (entries_in o)) (sym (test_step 2 r past b t)) old
  ] refl
    where
      found : ((kind_of r == 2) && is_of b r) ≡ true → record_of 2 (r ∷ past) b ≡ Some r
      found t = rw t

  lies_step : (r : Record) (past : List Record) → IsInGrammar h r → record_lies past → record_lies (r ∷ past)
  lies_step r past g old = (here r g, λ b. lock_step r past b g (old.1 b))
    where
      here : (r : Record) → IsInGrammar h r → (x : Digest) → status (r ∷ past) x ≡ Unspent → Here x
      here (Genesis header hs) g x u = elim (has hs x) as (λ t. has hs x ≡ t → (if t then Unspent else status past x) ≡ Unspent → Here x) [
        | true ↦ λ e _. in_list hs x g.5 e
        | false ↦ λ _ v. old.0 x v
      ] refl u
      here (Carry stamp header source hs numbers) g x u = absurd g
      here (Lock stamp b es) g x u = elim (has (held_inputs es) x) as (λ t. (if t then Locked b else status past x) ≡ Unspent → Here x) [
        | true ↦ λ v. absurd (let z : Locked b ≡ Unspent = v in cc)
        | false ↦ λ v. old.0 x v
      ] u
      here (Finish stamp b ds) g x u = finished_here (lock_of past b) ds x (status past x) (old.1 b) (old.0 x) u
      here other g x u = old.0 x u

  nothing_lies : record_lies []
  nothing_lies = (λ x u. absurd (let z : Absent ≡ Unspent = u in cc), λ b. All-nil (IsEntry h.shape h.node))

  all_lie : (J : List Record) → IsJournal h J → record_lies J
  all_lie [] j = absurd j
  all_lie (r ∷ []) j = lies_step r [] j.1.0 nothing_lies
  all_lie (r ∷ (q ∷ past)) j = lies_step r (q ∷ past) j.0.0 (all_lie (q ∷ past) j.1)

  pub unspent_here : (J : List Record) → IsJournal h J → (x : Digest) → status J x ≡ Unspent → Here x
  unspent_here J j = (all_lie J j).0

-- ---- counted shard by shard

same_self : (x : Digest) → same_digest x x ≡ true
unfolding same_digest
same_self x = (bytes_eq-Decides x x).1 refl

set_both : (xs ys : List Digest) → IsSet xs → IsSet ys → ((x : Digest) → has xs x ≡ true → has ys x ≡ true → ⊥) → IsSet (xs ++ ys)
set_both [] ys a b apart = b
set_both (x ∷ xs) ys a b apart =
    let none : has ys x ≡ false = not_true (has ys x) (λ i. apart x (ap (λ t. t || has xs x) (same_self x)) i) in
    (has_append xs ys x ∙ ap (λ t. t || has ys x) a.0 ∙ none, set_both xs ys a.1 b (λ y i. apart y (or_right (same_digest x y) (has xs y) i)))
  where
    or_right : (p q : Bool) → q ≡ true → (p || q) ≡ true
    or_right p q e = grind (arith, e)

tells_unspent : (s : Status) → says_unspent s ≡ true → s ≡ Unspent
tells_unspent Unspent e = refl
tells_unspent (Locked b) e = absurd (let z : false ≡ true = e in cc)
tells_unspent Absent e = absurd (let z : false ≡ true = e in cc)

or_cases : (p q : Bool) → (p || q) ≡ true → (p ≡ true) ⊎ (q ≡ true)
or_cases true q e = inl refl
or_cases false q e = inr e

module _ (K : Shape) (J : ℕ → List Record) where
  -- the hashes that are unspent at the shards from one on, so many
  pub record Gathered (from many n : ℕ) : Type 0 where
    pub hashes : List Digest
    pub once : IsSet hashes
    pub only : (x : Digest) → has hashes x ≡ true → IsUnspent K J x × (from ≤ shard_of K x) × (shard_of K x < from + many)
    pub all : (x : Digest) → IsUnspent K J x → from ≤ shard_of K x → shard_of K x < from + many → has hashes x ≡ true
    pub count : n ≡ length hashes

  -- the journals of these shards, where only hashes of their own are unspent
  abbrev pub AreShards : ℕ → List (List Record) → Type 0
  AreShards from [] = Unit {0}
  AreShards from (L ∷ Ls) = (J (shard_node K from) ≡ L) × ((x : Digest) → status L x ≡ Unspent → shard_of K x ≡ from) × AreShards (suc from) Ls

  pub gathered : (from : ℕ) (Ls : List (List Record)) (n : ℕ) → AreShards from Ls → CountAll Ls n → Gathered from (length Ls) n
  gathered from [] n are e = record {
    hashes = [];
    once = tt;
    only = λ x i. absurd (let z : false ≡ true = i in cc);
    all = λ x u low high. absurd (omega (arith, low, high));
    count = e;
  }
  gathered from (L ∷ Ls) n are (own, rest, counts, others, e) =
      let g = gathered (suc from) Ls rest are.2 others in
      let its : (x : Digest) → has counts.hashes x ≡ true → status L x ≡ Unspent = λ x i. tells_unspent (status L x) (sym (counts.all x) ∙ i) in
      let at : (x : Digest) → has counts.hashes x ≡ true → shard_of K x ≡ from = λ x i. are.1 x (its x i) in
      let there : (x : Digest) → shard_of K x ≡ from → J (shard_node K (shard_of K x)) ≡ L = λ x s. ap (λ m. J (shard_node K m)) s ∙ are.0 in
      record {
        hashes = counts.hashes ++ g.hashes;
        once = set_both counts.hashes g.hashes counts.once g.once (λ x i k. absurd (let a = at x i in let b = (g.only x k).1 in omega (arith, a, b)));
        only = λ x i. elim (or_cases (has counts.hashes x) (has g.hashes x) (sym (has_append counts.hashes g.hashes x) ∙ i)) [
          | inl o ↦ let s = at x o in (ap (λ M. status M x) (there x s) ∙ its x o, omega (arith, s), omega (arith, s))
          | inr o ↦ let s = g.only x o in (s.0, omega (arith, s.1), omega (arith, s.2))
        ];
        all = λ x u low high. has_append counts.hashes g.hashes x
            ∙ elim (shard_of K x == from) as (λ t. (shard_of K x == from) ≡ t → (has counts.hashes x || has g.hashes x) ≡ true) [
              | true ↦ λ t.
                  let s : shard_of K x ≡ from = grind (arith, t) in
                  let o : has counts.hashes x ≡ true = counts.all x ∙ ap says_unspent (ap (λ M. status M x) (sym (there x s)) ∙ u) in
                  grind (arith, o)
              | false ↦ λ t.
                  let above : suc from ≤ shard_of K x = grind (arith, t, low) in
                  let o : has g.hashes x ≡ true = g.all x u above (omega (arith, high)) in
                  grind (arith, o)
            ] refl;
        count = let c = counts.count in let d = g.count in let l = length-append counts.hashes g.hashes in omega (arith, e, c, d, l);
      }

-- ---- the shards of a ledger

pub count_more : (Ls : List (List Record)) (L : List Record) (n own : ℕ) → CountAll Ls n → CountsUnspent L own → CountAll (Ls ++ L ∷ []) (n + own)
count_more [] L n own e counts = (own, 0, counts, refl, omega (arith, e))
count_more (M ∷ Ls) L n own (first, rest, its, others, e) counts = (first, rest + own, its, count_more Ls L rest own others counts, omega (arith, e))

pub count_next : {D : Type 0} (xs : List (NodeOf D)) (i n own sum : ℕ) (x : NodeOf D) → i < length xs → x ≡ get_or xs i x
    → CountAll (map (λ s. s.journal) (take i xs)) n → CountsUnspent x.journal own → sum ≡ n + own
    → CountAll (map (λ s. s.journal) (take (i + 1) xs)) sum
count_next xs i n own sum x low is before counts e =
    subst (λ m. CountAll (map (λ s. s.journal) (take (i + 1) xs)) m) (sym e)
    (subst (λ l. CountAll l (n + own)) (sym (ap (map (λ s. s.journal)) (take_more xs i x low ∙ ap (λ y. take i xs ++ y ∷ []) (sym is))
    ∙ map-append (λ s. s.journal) (take i xs) (x ∷ [])))
    (count_more (map (λ s. s.journal) (take i xs)) x.journal n own before counts))

pub count_whole : {D : Type 0} (xs : List (NodeOf D)) (i n : ℕ) → length xs ≤ i → CountAll (map (λ s. s.journal) (take i xs)) n
    → CountAll (map (λ s. s.journal) xs) n
count_whole xs i n past counts = subst (λ l. CountAll (map (λ s. s.journal) l) n) (take_all i xs past) counts

module _ {D : Type 0} (h : Header) (logs shards : List (NodeOf D)) (ledger : IsLedger h logs shards) where
  abbrev K : Shape
  K = h.shape

  abbrev J : ℕ → List Record
  J = node_journals h.shape logs shards

  its_own : (s : NodeOf D) (from : ℕ) → IsJournal s.header s.journal → s.header ≡ header_of h.shape h.genesis (shard_node h.shape from)
      → (x : Digest) → status s.journal x ≡ Unspent → shard_of K x ≡ from
  its_own s from journal header x u =
      let at = subst (λ g. shard_node g.shape (shard_of g.shape x) ≡ g.node) header (unspent_here s.header s.journal journal x u) in
      omega (arith, at)

  are_shards : (from : ℕ) (rest : List (NodeOf D)) → from + length rest ≡ length shards
      → ((f : NodeOf D → Sight) (i : ℕ) → sight_at f shards (from + i) ≡ sight_at f rest i)
      → All (λ s. IsJournal s.header s.journal) rest → AreShards K J from (map (λ s. s.journal) rest)
  are_shards from [] long same all = tt
  are_shards from (s ∷ rest) long same all =
      let here : (f : NodeOf D → Sight) → sight_at f shards from ≡ f s = λ f. ap (sight_at f shards) (omega arith) ∙ same f 0 in
      let header : s.header ≡ header_of h.shape h.genesis (shard_node h.shape from) =
      ap (λ t. t.header) (sym (here sight)) ∙ ledger.shard_headers from (let k = ledger.shards_are in omega (arith, long, k)) in (
        seen_shard K (sight_at sight logs) (sight_at sight shards) from ∙ ap (λ t. t.seen) (here sight),
        its_own s from (All-head (λ t. IsJournal t.header t.journal) s rest all) header,
        are_shards (suc from) rest (omega (arith, long)) (λ f i. ap (sight_at f shards) (omega arith) ∙ same f (suc i))
            (All-tail (λ t. IsJournal t.header t.journal) s rest all),
      )

  pub unspent_counted : (n : ℕ) → CountAll (map (λ s. s.journal) shards) n → IsUnspentCount K J n
  unspent_counted n counts =
      let all = gathered K J 0 (map (λ s. s.journal) shards) n
      (are_shards 0 shards (omega arith) (λ f i. ap (sight_at f shards) (omega arith)) ledger.shard_journals) counts in
      let long : length (map (λ s. s.journal) shards) ≡ K.shards = length-map shards (λ s. s.journal) ∙ ledger.shards_are in
      record {
        hashes = all.hashes;
        once = all.once;
        all = λ x. (
          λ i. (all.only x i).0,
          λ u. all.all x u (omega arith) (let lt = shard_of-lt K x ledger.limits.some_shard in omega (arith, lt, long)),
        );
        count = all.count;
      }
