-- The calls of a phase in two halves: what is asked of them is asked of each, and what is told of each is told of all.
use Rattle.std.proofs.Common.{inl, inr, ◌≡◌, ◌≢◌, ◌<◌, ◌≤◌, ◌+◌, ◌-◌, ◌/◌, ℕ, zero, suc, false, ◌==◌, Some, List, [], ◌∷◌, ◌++◌, length, get_or, set}
use Rattle.std.proofs.Common.{refl, sym, ap, ◌∙◌, subst, arith}
use Rattle.std.specs.List.{AllZip, slice_get}
use Rattle.std.proofs.lemmas.Bool.{cases_lt}
use Rattle.std.proofs.lemmas.List.{length-append, length-set}
use Rattle.lane_laws.specs.Calls.{shard, AllAbove, IsRising, NotAmong, Every}
use Rattle.phase_calls.specs.Phase.{IsCallTaken, IsPhase, IsMade, IsPhaseMade}

-- ---- elements of two lists, one behind the other

module _ {X : Type 0} where
  within : (xs : List X) (n : ℕ) (x : X) → slice_get xs n ≡ Some x → n < length xs
  within [] n x e = cc
  within (y ∷ ys) zero x e = omega arith
  within (y ∷ ys) (suc n) x e = omega (arith, within ys n x e)

  pub read : (xs : List X) (n : ℕ) (x d : X) → slice_get xs n ≡ Some x → get_or xs n d ≡ x
  read [] n x d e = cc
  read (y ∷ ys) zero x d e = cc
  read (y ∷ ys) (suc n) x d e = read ys n x d e

  front : (xs ys : List X) (n : ℕ) → n < length xs → slice_get (xs ++ ys) n ≡ slice_get xs n
  front [] ys n lt = absurd (omega (arith, lt))
  front (x ∷ xs) ys zero lt = refl
  front (x ∷ xs) ys (suc n) lt = front xs ys n (omega (arith, lt))

  back : (xs ys : List X) (n m : ℕ) → n ≡ length xs + m → slice_get (xs ++ ys) n ≡ slice_get ys m
  back [] ys n m e = ap (slice_get ys) (omega (arith, e))
  back (x ∷ xs) ys zero m e = absurd (omega (arith, e))
  back (x ∷ xs) ys (suc n) m e = back xs ys n m (omega (arith, e))

  in_front : (xs ys : List X) (n : ℕ) (x : X) → slice_get xs n ≡ Some x → slice_get (xs ++ ys) n ≡ Some x
  in_front xs ys n x e = front xs ys n (within xs n x e) ∙ e

  set_here : (xs : List X) (n : ℕ) (y : X) → n < length xs → slice_get (set xs n y) n ≡ Some y
  set_here [] n y lt = absurd (omega (arith, lt))
  set_here (x ∷ xs) zero y lt = refl
  set_here (x ∷ xs) (suc n) y lt = set_here xs n y (omega (arith, lt))

  set_elsewhere : (xs : List X) (n : ℕ) (y : X) (m : ℕ) → m ≢ n → slice_get (set xs n y) m ≡ slice_get xs m
  set_elsewhere [] n y m ne = refl
  set_elsewhere (x ∷ xs) zero y zero ne = absurd (ne refl)
  set_elsewhere (x ∷ xs) zero y (suc m) ne = refl
  set_elsewhere (x ∷ xs) (suc n) y zero ne = refl
  set_elsewhere (x ∷ xs) (suc n) y (suc m) ne = set_elsewhere xs n y m (λ e. ne (ap suc e))

  one : (xs : List X) → length xs ≡ 1 → (y : X) → set xs 0 y ≡ y ∷ []
  one [] e y = absurd (omega (arith, e))
  one (x ∷ []) e y = refl
  one (x ∷ z ∷ zs) e y = absurd (omega (arith, e))

-- the back half of a list of two or more
pub some_back : {X : Type 0} (xs low high : List X) → 2 ≤ length xs → xs ≡ low ++ high → length low ≡ length xs / 2 → 0 < length high
some_back xs low high many split half = omega (arith, many, ap length split, length-append low high, half)

-- the back halves of two lists that are as long as each other
pub backs : {X Y : Type 0} (xs low high : List X) (ys front back : List Y) (half : ℕ) → length ys ≡ length xs → xs ≡ low ++ high → ys ≡ front ++ back
    → length low ≡ half → length front ≡ half → length back ≡ length high
backs xs low high ys front back half same split cut n m =
    omega (arith, same, ap length split, ap length cut, length-append low high, length-append front back, n, m)

pub within_cut : (first at n : ℕ) → (first ≤ at) × (at < first + n) → at - first ≤ n
within_cut first at n h = omega (arith, h.0, h.1)

-- ---- the shards of the calls

module _ {C : Type 0} where
  -- those before a call are below it
  abbrev AllBelow : ℕ → List (ℕ × C) → Type 0
  AllBelow n cs = Every (λ c. c.0 < n) cs

  abbrev AllFrom : ℕ → List (ℕ × C) → Type 0
  AllFrom n cs = Every (λ c. n ≤ c.0) cs

  above_front : (n : ℕ) (cs ds : List (ℕ × C)) → AllAbove shard n (cs ++ ds) → AllAbove shard n cs
  above_front n [] ds h = tt
  above_front n (c ∷ cs) ds h = (h.0, above_front n cs ds h.1)

  above_one : (n : ℕ) (cs : List (ℕ × C)) (d : ℕ × C) (ds : List (ℕ × C)) → AllAbove shard n (cs ++ d ∷ ds) → n < d.0
  above_one n [] d ds h = h.0
  above_one n (c ∷ cs) d ds h = above_one n cs d ds h.1

  rising_front : (cs ds : List (ℕ × C)) → IsRising shard (cs ++ ds) → IsRising shard cs
  rising_front [] ds h = tt
  rising_front (c ∷ cs) ds h = (above_front c.0 cs ds h.0, rising_front cs ds h.1)

  rising_back : (cs ds : List (ℕ × C)) → IsRising shard (cs ++ ds) → IsRising shard ds
  rising_back [] ds h = h
  rising_back (c ∷ cs) ds h = rising_back cs ds h.1

  below : (cs : List (ℕ × C)) (d : ℕ × C) (ds : List (ℕ × C)) → IsRising shard (cs ++ d ∷ ds) → AllBelow d.0 cs
  below [] d ds h = tt
  below (c ∷ cs) d ds h = (above_one c.0 cs d ds h.0, below cs d ds h.1)

  no_less : (n : ℕ) (cs : List (ℕ × C)) → AllAbove shard n cs → AllFrom n cs
  no_less n [] h = tt
  no_less n (c ∷ cs) h = (omega (arith, h.0), no_less n cs h.1)

  not_front : (cs ds : List (ℕ × C)) (s : ℕ) → NotAmong shard (cs ++ ds) s → NotAmong shard cs s
  not_front [] ds s h = tt
  not_front (c ∷ cs) ds s h = (h.0, not_front cs ds s h.1)

  not_back : (cs ds : List (ℕ × C)) (s : ℕ) → NotAmong shard (cs ++ ds) s → NotAmong shard ds s
  not_back [] ds s h = h
  not_back (c ∷ cs) ds s h = not_back cs ds s h.1

  every_front : (P : ℕ × C → Type 0) (cs ds : List (ℕ × C)) → Every P (cs ++ ds) → Every P cs
  every_front P [] ds h = tt
  every_front P (c ∷ cs) ds h = (h.0, every_front P cs ds h.1)

  every_back : (P : ℕ × C → Type 0) (cs ds : List (ℕ × C)) → Every P (cs ++ ds) → Every P ds
  every_back P [] ds h = h
  every_back P (c ∷ cs) ds h = every_back P cs ds h.1

differs : (n m : ℕ) → (n == m) ≡ false → m ≢ n
differs n m t e = grind (arith, t, e)

-- ---- what is asked

-- where the ports are cut: at the shard of the first call of the second half
pub record IsCut {C P : Type 0} (first at : ℕ) (low high : List (ℕ × C)) (front back : List P) : Type 0 where
  pub from : first ≤ at
  pub cut : first + length front ≡ at
  pub below : Every (λ c. c.0 < at) low
  pub above : Every (λ c. at ≤ c.0) high

module _ {P C A : Type 0} (accepts : C → P → Type 0) where
  pub first_taken : (first at : ℕ) (calls : List (ℕ × C)) (ports : List P) (answers : List A) (low high : List (ℕ × C)) (d : ℕ × C)
      → IsPhase accepts first calls ports answers → calls ≡ low ++ high → 0 < length high → at ≡ (get_or high 0 d).0
      → (first ≤ at) × (at < first + length ports)
  first_taken first at calls ports answers low [] d h e some is = absurd (omega (arith, some))
  first_taken first at calls ports answers low (c ∷ cs) d h e some is =
      let taken = every_back (IsCallTaken accepts first ports) low (c ∷ cs) (subst (Every (IsCallTaken accepts first ports)) e h.taken) in
      let there = within ports taken.0.place taken.0.port taken.0.found in
      let place = taken.0.place_is in
      (omega (arith, is, place), omega (arith, is, place, there))

  pub cut_at : (first at : ℕ) (calls : List (ℕ × C)) (ports : List P) (answers : List A) (low high : List (ℕ × C)) (front back : List P) (d : ℕ × C)
      → IsPhase accepts first calls ports answers → calls ≡ low ++ high → 0 < length high → at ≡ (get_or high 0 d).0 → length front ≡ at - first
      → IsCut first at low high front back
  cut_at first at calls ports answers low [] front back d h e some is len = absurd (omega (arith, some))
  cut_at first at calls ports answers low (c ∷ cs) front back d h e some is len =
      let inside = first_taken first at calls ports answers low (c ∷ cs) d h e some is in
      let rising = subst (IsRising shard) e h.rising in
      record {
        from = inside.0;
        cut = omega (arith, len, inside.0);
        below = subst (λ n. Every (λ c. c.0 < n) low) (sym is) (below low c cs rising);
        above = subst (λ n. Every (λ c. n ≤ c.0) (c ∷ cs)) (sym is) (omega arith, no_less c.0 cs (rising_back low (c ∷ cs) rising).0);
      }

module _ {P C : Type 0} (accepts : C → P → Type 0) where
  low_taken : (first at : ℕ) (front back : List P) → first + length front ≡ at → (cs : List (ℕ × C)) → Every (λ c. c.0 < at) cs
      → Every (IsCallTaken accepts first (front ++ back)) cs → Every (IsCallTaken accepts first front) cs
  low_taken first at xs ys cut [] lt h = tt
  low_taken first at xs ys cut (c ∷ cs) lt h =
      let t = h.0 in
      let place = t.place_is in
      let inside : t.place < length xs = omega (arith, place, cut, lt.0) in (
        record { place = t.place; place_is = t.place_is; port = t.port; found = sym (front xs ys t.place inside) ∙ t.found; accepted = t.accepted },
        low_taken first at xs ys cut cs lt.1 h.1,
      )

  high_taken : (first at : ℕ) (front back : List P) → first + length front ≡ at → (cs : List (ℕ × C)) → Every (λ c. at ≤ c.0) cs
      → Every (IsCallTaken accepts first (front ++ back)) cs → Every (IsCallTaken accepts at back) cs
  high_taken first at xs ys cut [] le h = tt
  high_taken first at xs ys cut (c ∷ cs) le h =
      let t = h.0 in
      let place = t.place_is in
      let here : t.place ≡ length xs + (t.place - length xs) = omega (arith, place, cut, le.0) in (
        record {
          place = t.place - length xs;
          place_is = omega (arith, place, cut, le.0);
          port = t.port;
          found = sym (back xs ys t.place (t.place - length xs) here) ∙ t.found;
          accepted = t.accepted;
        },
        high_taken first at xs ys cut cs le.1 h.1,
      )

module _ {P C A : Type 0} (accepts : C → P → Type 0) where
  module _ (first at : ℕ) (calls : List (ℕ × C)) (ports : List P) (answers : List A) (low high : List (ℕ × C)) (front back : List P)
      (lows highs : List A) (h : IsPhase accepts first calls ports answers) (are : calls ≡ low ++ high) (split : ports ≡ front ++ back)
      (cut : IsCut first at low high front back) where
    all_taken : Every (IsCallTaken accepts first (front ++ back)) (low ++ high)
    all_taken = subst (Every (IsCallTaken accepts first (front ++ back))) are (subst (λ ps. Every (IsCallTaken accepts first ps) calls) split h.taken)

    pub low_phase : length lows ≡ length low → IsPhase accepts first low front lows
    low_phase room = record {
      rising = rising_front low high (subst (IsRising shard) are h.rising);
      taken = low_taken accepts first at front back cut.cut low cut.below
          (every_front (IsCallTaken accepts first (front ++ back)) low high all_taken);
      room = room;
    }

    pub high_phase : length highs ≡ length high → IsPhase accepts at high back highs
    high_phase room = record {
      rising = rising_back low high (subst (IsRising shard) are h.rising);
      taken = high_taken accepts first at front back cut.cut high cut.above
          (every_back (IsCallTaken accepts first (front ++ back)) low high all_taken);
      room = room;
    }

-- ---- what is told

module _ {P C A : Type 0} (makes : C → P → P → A → Type 0) where
  zip_both : (R : ℕ × C → A → Type 0) (cs ds : List (ℕ × C)) (xs ys : List A) → AllZip R cs xs → AllZip R ds ys → AllZip R (cs ++ ds) (xs ++ ys)
  zip_both R [] ds [] ys h k = k
  zip_both R [] ds (x ∷ xs) ys h k = absurd h
  zip_both R (c ∷ cs) ds [] ys h k = absurd h
  zip_both R (c ∷ cs) ds (x ∷ xs) ys h k = (h.0, zip_both R cs ds xs ys h.1 k)

  zip_map : (R S : ℕ × C → A → Type 0) → ((c : ℕ × C) (a : A) → R c a → S c a) → (cs : List (ℕ × C)) (xs : List A) → AllZip R cs xs → AllZip S cs xs
  zip_map R S f [] [] h = h
  zip_map R S f [] (x ∷ xs) h = absurd h
  zip_map R S f (c ∷ cs) [] h = absurd h
  zip_map R S f (c ∷ cs) (x ∷ xs) h = (f c x h.0, zip_map R S f cs xs h.1)

  module _ (first at : ℕ) (fs bs gs hs : List P) (cut : first + length fs ≡ at) (same : length gs ≡ length fs) where
    low_made : (c : ℕ × C) (a : A) → IsMade makes first fs gs c a → IsMade makes first (fs ++ bs) (gs ++ hs) c a
    low_made c a m = record {
      place = m.place;
      place_is = m.place_is;
      before = m.before;
      was = in_front fs bs m.place m.before m.was;
      after = m.after;
      is = in_front gs hs m.place m.after m.is;
      made = m.made;
    }

    high_made : (c : ℕ × C) (a : A) → IsMade makes at bs hs c a → IsMade makes first (fs ++ bs) (gs ++ hs) c a
    high_made c a m =
        let place = m.place_is in
        let there : length fs + m.place ≡ length gs + m.place = omega (arith, same) in record {
          place = length fs + m.place;
          place_is = omega (arith, place, cut);
          before = m.before;
          was = back fs bs (length fs + m.place) m.place refl ∙ m.was;
          after = m.after;
          is = back gs hs (length fs + m.place) m.place there ∙ m.is;
          made = m.made;
        }

    both_made : (low high : List (ℕ × C)) (xs ys : List A) → IsPhaseMade makes first low fs gs xs → IsPhaseMade makes at high bs hs ys
        → IsPhaseMade makes first (low ++ high) (fs ++ bs) (gs ++ hs) (xs ++ ys)
    both_made low high xs ys l h =
        let lc = l.count in
        let hc = h.count in record {
          count = omega (arith, length-append gs hs, length-append fs bs, lc, hc);
          each = zip_both (IsMade makes first (fs ++ bs) (gs ++ hs)) low high xs ys
              (zip_map (IsMade makes first fs gs) (IsMade makes first (fs ++ bs) (gs ++ hs)) low_made low xs l.each)
              (zip_map (IsMade makes at bs hs) (IsMade makes first (fs ++ bs) (gs ++ hs)) high_made high ys h.each);
          others = others;
        }
      where
        others : (n : ℕ) → NotAmong shard (low ++ high) (first + n) → slice_get (gs ++ hs) n ≡ slice_get (fs ++ bs) n
        others n not = elim (cases_lt n (length fs)) [
          | inl lt ↦ front gs hs n (omega (arith, lt, same)) ∙ (l.others n (not_front low high (first + n) not) ∙ sym (front fs bs n lt))
          | inr ge ↦
              let m = n - length fs in
              let here : n ≡ length fs + m = omega (arith, ge) in
              let there : n ≡ length gs + m = omega (arith, ge, same) in
              let shard_is : first + n ≡ at + m = omega (arith, ge, cut) in
              back gs hs n m there ∙ (h.others m (subst (NotAmong shard high) shard_is (not_back low high (first + n) not))
              ∙ sym (back fs bs n m here))
        ]

  pub all_made : (first at : ℕ) (calls low high : List (ℕ × C)) (ports fs bs gs hs : List P) (xs ys : List A) → calls ≡ low ++ high
      → ports ≡ fs ++ bs → first + length fs ≡ at
      → IsPhaseMade makes first low fs gs xs → IsPhaseMade makes at high bs hs ys → IsPhaseMade makes first calls ports (gs ++ hs) (xs ++ ys)
  all_made first at calls low high ports fs bs gs hs xs ys are split cut l h =
      subst (λ cs. IsPhaseMade makes first cs ports (gs ++ hs) (xs ++ ys)) (sym are)
      (subst (λ ps. IsPhaseMade makes first (low ++ high) ps (gs ++ hs) (xs ++ ys)) (sym split)
      (both_made first at fs bs gs hs cut l.count low high xs ys l h))

  -- no call
  pub none_made : (first : ℕ) (ports : List P) (calls : List (ℕ × C)) (answers : List A) → length calls ≡ 0 → length answers ≡ length calls
      → IsPhaseMade makes first calls ports ports answers
  none_made first ports [] [] e f = record { count = refl; each = tt; others = λ n not. refl }
  none_made first ports [] (x ∷ xs) e f = absurd (omega (arith, f))
  none_made first ports (c ∷ cs) answers e f = absurd (omega (arith, e))

  -- one call
  pub one_made : (first : ℕ) (ports : List P) (c : ℕ × C) (place : ℕ) (answers : List A) (p q : P) (a : A) → c.0 ≡ first + place
      → slice_get ports place ≡ Some p → length answers ≡ 1
      → makes c.1 p q a → IsPhaseMade makes first (c ∷ []) ports (set ports place q) (set answers 0 a)
  one_made first ports c place answers p q a is found len made = record {
    count = length-set ports place q;
    each = subst (λ xs. AllZip (IsMade makes first ports (set ports place q)) (c ∷ []) xs) (sym (one answers len a)) (
      record {
        place = place;
        place_is = is;
        before = p;
        was = found;
        after = q;
        is = set_here ports place q (within ports place p found);
        made = made;
      },
      tt,
    );
    others = λ n not. set_elsewhere ports place q n (λ e. differs c.0 (first + n) not.0 (ap (λ k. first + k) e ∙ sym is));
  }

-- ---- the first call, where it is alone

pub no_rest : {X : Type 0} (x : X) (xs rest : List X) → length xs < 2 → xs ≡ x ∷ rest → length rest ≡ 0
no_rest x xs rest few are = omega (arith, few, ap length are)

module _ {P C A : Type 0} (accepts : C → P → Type 0) (first : ℕ) (calls : List (ℕ × C)) (ports : List P) (answers : List A) (c : ℕ × C)
    (rest : List (ℕ × C)) (h : IsPhase accepts first calls ports answers) (are : calls ≡ c ∷ rest) where
  pub first_call : IsCallTaken accepts first ports c
  first_call = (subst (Every (IsCallTaken accepts first ports)) are h.taken).0

  pub no_less_than : first ≤ c.0
  no_less_than = let t = first_call in let e = t.place_is in omega (arith, e)

  pub inside : c.0 - first < length ports
  inside = let t = first_call in let e = t.place_is in omega (arith, e, within ports t.place t.port t.found)

  pub port_is : (d : P) → get_or ports (c.0 - first) d ≡ first_call.port
  port_is d = let t = first_call in let e = t.place_is in let n : c.0 - first ≡ t.place = omega (arith, e) in
      ap (λ k. get_or ports k d) n ∙ read ports t.place t.port d t.found

  pub made_alone : (makes : C → P → P → A → Type 0) (q : P) (a : A) → length rest ≡ 0 → makes c.1 first_call.port q a
      → IsPhaseMade makes first calls ports (set ports (c.0 - first) q) (set answers 0 a)
  made_alone makes q a none made =
      let t = first_call in
      let e = t.place_is in
      let n : t.place ≡ c.0 - first = omega (arith, e) in
      let alone : calls ≡ c ∷ [] = are ∙ ap (λ xs. c ∷ xs) (empty rest none) in
      let room : length answers ≡ 1 = h.room ∙ ap length alone in
      subst (λ cs. IsPhaseMade makes first cs ports (set ports (c.0 - first) q) (set answers 0 a)) (sym alone)
      (subst (λ k. IsPhaseMade makes first (c ∷ []) ports (set ports k q) (set answers 0 a)) n
      (one_made makes first ports c t.place answers t.port q a t.place_is t.found room made))
    where
      empty : (xs : List (ℕ × C)) → length xs ≡ 0 → xs ≡ []
      empty [] e = refl
      empty (x ∷ xs) e = absurd (omega (arith, e))
