-- A record that goes round a group at rest.
use Rattle.std.proofs.Common.{◌≡◌, inl, inr, ℕ, zero, suc, ◌+◌, ◌*◌, ◌<◌, ◌≤◌, max, true, ◌||◌, not, ◌==◌, if◌then◌else◌, List, [], ◌∷◌, ◌++◌, length}
use Rattle.std.proofs.Common.{reverse, set, get_or-set_same, get_or-set_other, Some, slice_get, refl, sym, ap, ◌∙◌, subst, arith, eq-eqb}
use Rattle.std.proofs.lemmas.List.{length-set, length_push}
use Rattle.std.proofs.lemmas.Bool.{cases_eq, cases_Bool, and_from, or_right, or_left}
use Rattle.cbdc_model.specs.Records.{Header, Record}
use Rattle.cbdc_model.specs.After.{After}
use Rattle.shard_replica.specs.declared.packets.Packet.TheVariants.{Copy, Ack}
use Rattle.shard_replica.specs.declared.packets.GroupEvent.{GroupEvent}
use Rattle.shard_replica.specs.declared.packets.GroupEvent.TheVariants.{Take, Send, Deliver, Answer}
use Rattle.shard_replica.specs.Groups.{Member, Group, no_member, member_at, held, known_of, is_backup, are_told, is_told, copies, appended}
use Rattle.shard_replica.specs.Steps.{Allowed, copied, delivered, effect, Step, Run}
use Rattle.shard_replica.specs.Rounds.{IsAtRest, sendings, round}
use Rattle.shard_replica.proofs.Lists.{get_push}

pub run_more : (g k l : Group) (es fs : List GroupEvent) → Run g es k → Run k fs l → Run g (es ++ fs) l
run_more g k l [] fs same run = subst (λ x. Run x fs l) same run
run_more g k l (e ∷ es) fs run more = (run.0, run.1, run_more run.0 k l es fs run.2 more)

-- a member with these records, in the first term
abbrev with : List Record → Member
with records = record { inside = true; term = 1; records = records }

module _ (h : Header) (backups : ℕ) (records : List Record) (r : Record) (some : 1 ≤ length records) where
  abbrev all : List Record
  all = records ++ r ∷ []

  all_length : length all ≡ length records + 1
  all_length = length_push records r

  -- the record is at the primary and at the first n backups, and the primary knows
  record IsBetween (sent n : ℕ) (g : Group) : Type 0 where
    header : g.header ≡ h
    count : length g.members ≡ backups + 1
    got : (b : ℕ) → b ≤ n → member_at g b ≡ with all
    still : (b : ℕ) → n < b → b ≤ backups → member_at g b ≡ with records
    primary : g.primary ≡ 0
    term : g.term ≡ 1
    sent_count : length g.sent ≡ sent + 2 * n
    known_count : length g.known ≡ backups + 1
    told : (b : ℕ) → 1 ≤ b → b ≤ n → known_of g b ≡ length all
    known : (b : ℕ) → known_of g b ≤ length all
    answered : g.answered ≡ length records

  held_is : (sent n : ℕ) (g : Group) → IsBetween sent n g → held g ≡ all
  held_is sent n g i = ap (λ b. (member_at g b).records) i.primary ∙ ap (λ m. m.records) (i.got 0 (omega arith))

  -- the three events for the next backup
  module _ (sent n : ℕ) (g : Group) (i : IsBetween sent n g) (more : n + 1 ≤ backups) where
    abbrev b : ℕ
    b = n + 1

    abbrev place : ℕ
    place = length records

    abbrev one : Group
    one = effect g (Send b place)

    held_g : held g ≡ all
    held_g = held_is sent n g i

    here : slice_get (held g) place ≡ Some r
    here = ap (λ xs. slice_get xs place) held_g ∙ get_push records r

    one_sent : one.sent ≡ g.sent ++ Copy b 1 place r ∷ []
    one_sent = ap (λ o. g.sent ++ copies b g.term place o) here ∙ ap (λ t. g.sent ++ Copy b t place r ∷ []) i.term

    sending : Step g (Send b place) one
    sending = inl (subst (λ xs. place < length xs) (sym held_g) (omega (arith, all_length)), refl)

    was : member_at g b ≡ with records
    was = i.still b (omega arith) more

    -- the Copy comes
    abbrev two : Group
    two = effect one (Deliver (sent + 2 * n))

    found : slice_get one.sent (sent + 2 * n) ≡ Some (Copy b 1 place r)
    found = ap (λ xs. slice_get xs (sent + 2 * n)) one_sent ∙ ap (λ k. slice_get (g.sent ++ Copy b 1 place r ∷ []) k) (sym i.sent_count)
        ∙ get_push g.sent (Copy b 1 place r)

    coming : Step one (Deliver (sent + 2 * n)) two
    coming = inl ((Copy b 1 place r, found, ap (λ m. m.inside) was), refl)

    two_is : two ≡ copied one b all
    two_is =
        ap (λ o. delivered one o) found
        ∙ ap (λ (m : Member). if m.term == 1 then copied one b (appended m.records place r) else one) was
        ∙ ap (λ c. copied one b (if c then records ++ r ∷ [] else records)) (eq-eqb (length records) (length records) refl)

    two_sent : two.sent ≡ one.sent ++ Ack b 1 (length all) ∷ []
    two_sent = ap (λ (x : Group). x.sent) two_is ∙ ap (λ t. one.sent ++ Ack b t (length all) ∷ []) (ap (λ m. m.term) was)

    -- its Ack comes
    abbrev three : Group
    three = effect two (Deliver (sent + 2 * n + 1))

    one_count : length one.sent ≡ sent + 2 * n + 1
    one_count = ap length one_sent ∙ length_push g.sent (Copy b 1 place r) ∙ ap (λ k. k + 1) i.sent_count

    found_ack : slice_get two.sent (sent + 2 * n + 1) ≡ Some (Ack b 1 (length all))
    found_ack = ap (λ xs. slice_get xs (sent + 2 * n + 1)) two_sent ∙ ap (λ k. slice_get (one.sent ++ Ack b 1 (length all) ∷ []) k) (sym one_count)
        ∙ get_push one.sent (Ack b 1 (length all))

    telling : Step two (Deliver (sent + 2 * n + 1)) three
    telling = inl ((Ack b 1 (length all), found_ack, tt), refl)

    two_term : two.term ≡ 1
    two_term = ap (λ (x : Group). x.term) two_is ∙ i.term

    abbrev known : List ℕ
    known = set g.known b (max (known_of g b) (length all))

    abbrev after : Group
    after = record {
      header = g.header;
      members = set g.members b (record { inside = (member_at g b).inside; term = (member_at g b).term; records = all });
      primary = g.primary;
      term = g.term;
      sent = one.sent ++ Ack b (member_at g b).term (length all) ∷ [];
      known = known;
      answered = g.answered;
      flying = g.flying;
    }

    three_is : three ≡ after
    three_is =
        ap (λ o. delivered two o) found_ack
        ∙ ap (λ c. if c then record two { known = set two.known b (max (known_of two b) (length all)) } else two) (eq-eqb 1 two.term (sym two_term))
        ∙ ap (λ (x : Group). record x { known = set x.known b (max (known_of x b) (length all)) }) two_is

    three_run : Run g (Send b place ∷ Deliver (sent + 2 * n) ∷ Deliver (sent + 2 * n + 1) ∷ []) three
    three_run = (one, sending, (two, coming, (three, telling, refl)))

    in_members : b < length g.members
    in_members = omega (arith, i.count)

    at_b : member_at after b ≡ with all
    at_b = get_or-set_same g.members b (record { inside = (member_at g b).inside; term = (member_at g b).term; records = all }) no_member in_members
        ∙ ap (λ (m : Member). record { inside = m.inside; term = m.term; records = all }) was

    at_other : (c : ℕ) → (c ≡ b → ⊥) → member_at after c ≡ member_at g c
    at_other c ne = get_or-set_other g.members b c (record { inside = (member_at g b).inside; term = (member_at g b).term; records = all }) no_member
        ne

    known_b : known_of after b ≡ length all
    known_b =
        get_or-set_same g.known b (max (known_of g b) (length all)) 0 (omega (arith, i.known_count))
        ∙ (let k : known_of g b ≤ length all = i.known b in omega arith)

    known_other : (c : ℕ) → (c ≡ b → ⊥) → known_of after c ≡ known_of g c
    known_other c ne = get_or-set_other g.known b c (max (known_of g b) (length all)) 0 ne

    next : IsBetween sent (n + 1) three
    next = subst (λ x. IsBetween sent (n + 1) x) (sym three_is) (record {
      header = i.header;
      count = length-set g.members b (record { inside = (member_at g b).inside; term = (member_at g b).term; records = all }) ∙ i.count;
      got = λ c le. elim (cases_eq c b) [
        | inl e ↦ ap (member_at after) e ∙ at_b
        | inr ne ↦ at_other c ne ∙ i.got c (omega (arith, ne))
      ];
      still = λ c lt le. at_other c (λ e. omega arith) ∙ i.still c (omega arith) le;
      primary = i.primary;
      term = i.term;
      sent_count = length_push one.sent (Ack b (member_at g b).term (length all))
          ∙ (let l : length one.sent ≡ sent + 2 * n + 1 = one_count in omega arith);
      known_count = length-set g.known b (max (known_of g b) (length all)) ∙ i.known_count;
      told = λ c low le. elim (cases_eq c b) [
        | inl e ↦ ap (known_of after) e ∙ known_b
        | inr ne ↦ known_other c ne ∙ i.told c low (omega (arith, ne))
      ];
      known = λ c. elim (cases_eq c b) [
        | inl e ↦ (let k : known_of after c ≡ length all = ap (known_of after) e ∙ known_b in omega arith)
        | inr ne ↦ (let k : known_of after c ≡ known_of g c = known_other c ne in let l : known_of g c ≤ length all = i.known c in omega arith)
      ];
      answered = i.answered;
    })

  record Reached (sent n : ℕ) (g : Group) : Type 0 where
    last : Group
    run : Run g (sendings (length records) sent n) last
    between : IsBetween sent n last

  reach : (sent n : ℕ) (g : Group) → IsBetween sent 0 g → n ≤ backups → Reached sent n g
  reach sent zero g i le = record { last = g; run = refl; between = i }
  reach sent (suc n) g i le =
      let k = reach sent n g i (omega arith) in
      let up : n + 1 ≤ backups = omega arith in
      record {
        last = three sent n k.last k.between up;
        run = run_more g k.last (three sent n k.last k.between up) (sendings (length records) sent n)
            (Send (n + 1) (length records) ∷ Deliver (sent + 2 * n) ∷ Deliver (sent + 2 * n + 1) ∷ []) k.run (three_run sent n k.last k.between up);
        between = subst (λ c. IsBetween sent c (three sent n k.last k.between up)) (omega arith) (next sent n k.last k.between up);
      }

  -- all backups tell
  all_told : (sent : ℕ) (g : Group) → IsBetween sent backups g → (n : ℕ) → n ≤ backups + 1 → are_told g (length all) n ≡ true
  all_told sent g i zero le = refl
  all_told sent g i (suc n) le =
      and_from (are_told g (length all) n) (not (is_backup g n) || (known_of g n == length all)) (all_told sent g i n (omega arith))
      (elim (cases_eq n 0) [
        | inl e ↦
            or_left (not (is_backup g n)) (known_of g n == length all)
            (let own : (n == g.primary) ≡ true = eq-eqb n g.primary (e ∙ sym i.primary) in no_backup n own)
        | inr ne ↦ or_right (not (is_backup g n)) (known_of g n == length all)
            (eq-eqb (known_of g n) (length all) (i.told n (omega (arith, ne)) (omega arith)))
      ])
    where
      no_backup : (n : ℕ) → (n == g.primary) ≡ true → not (is_backup g n) ≡ true
      no_backup n e = elim (cases_Bool (member_at g n).inside) [
        | inl t ↦ rw (t, e)
        | inr f ↦ rw f
      ]

  pub round_reach : (g : Group) → IsAtRest h backups records g → After h (reverse records) r
      → (k : Group) × Run g (round backups g r) k × IsAtRest h backups all k
  round_reach g rest next =
      let own : member_at g g.primary ≡ with records = ap (member_at g) rest.primary ∙ rest.members 0 (omega arith) in
      let held_g : held g ≡ records = ap (λ m. m.records) own in
      let first : Group = effect g (Take r) in
      let may : Allowed g (Take r) = (
        ap length held_g ∙ sym rest.answered,
        subst (λ xs. After g.header (reverse xs) r) (sym held_g) (subst (λ x. After x (reverse records) r) (sym rest.header) next),
      ) in
      let in_it : g.primary < length g.members = omega (arith, rest.primary, rest.count) in
      let at_own : member_at (effect g (Take r)) g.primary ≡ with all
      = get_or-set_same g.members g.primary (record
      { inside = (member_at g g.primary).inside; term = (member_at g g.primary).term; records = held g ++ r ∷ [] }) no_member in_it
      ∙ ap (λ (m : Member). record { inside = m.inside; term = m.term; records = m.records ++ r ∷ [] }) own in
      let at_other : (c : ℕ) → (c ≡ g.primary → ⊥) → member_at (effect g (Take r)) c ≡ member_at g c
      = λ c ne. get_or-set_other g.members g.primary c
      (record { inside = (member_at g g.primary).inside; term = (member_at g g.primary).term; records = held g ++ r ∷ [] }) no_member ne in
      let start : IsBetween (length g.sent) 0 (effect g (Take r)) = record {
        header = rest.header;
        count = length-set g.members g.primary (record
            { inside = (member_at g g.primary).inside; term = (member_at g g.primary).term; records = held g ++ r ∷ [] }) ∙ rest.count;
        got = λ b le. (let e : b ≡ g.primary = omega (arith, rest.primary) in ap (member_at (effect g (Take r))) e ∙ at_own);
        still = λ b lt le. at_other b (λ e. omega (arith, rest.primary)) ∙ rest.members b le;
        primary = rest.primary;
        term = rest.term;
        sent_count = omega arith;
        known_count = rest.known_count;
        told = λ b low le. absurd (omega arith);
        known = λ b. (let k : known_of g b ≤ length records = rest.known b in omega (arith, all_length));
        answered = rest.answered;
      } in
      let k = reach (length g.sent) backups (effect g (Take r)) start (omega arith) in
      let i = k.between in
      let whole : held k.last ≡ all = held_is (length g.sent) backups k.last i in
      let told : is_told k.last ≡ true
      = subst (λ xs. are_told k.last (length xs) (length k.last.members) ≡ true) (sym whole)
      (all_told (length g.sent) k.last i (length k.last.members) (omega (arith, i.count))) in (
        effect k.last Answer,
        (
          effect g (Take r),
          inl (may, refl),
          run_more (effect g (Take r)) k.last (effect k.last Answer) (sendings g.answered (length g.sent) backups) (Answer ∷ [])
              (subst (λ a. Run (effect g (Take r)) (sendings a (length g.sent) backups) k.last) (sym rest.answered) k.run)
              (effect k.last Answer, inl (told, refl), refl),
        ),
        record {
          header = i.header;
          count = i.count;
          members = λ b le. i.got b le;
          primary = i.primary;
          term = i.term;
          known_count = i.known_count;
          known = i.known;
          answered = ap length whole;
          flying = refl;
        },
      )
