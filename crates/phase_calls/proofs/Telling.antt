-- What a phase tells, at either pace, is what its calls tell one after another.
use Rattle.std.proofs.Common.{inl, inr, ◌≡◌, ◌⊎◌, ◌<◌, ℕ, zero, suc, false, ◌==◌, Option, Some, None, List, [], ◌∷◌, length, get_or, refl, sym, ap}
use Rattle.std.proofs.Common.{◌∙◌, subst, arith}
use Rattle.std.specs.List.{All, AllZip, slice_get}
use Rattle.std.specs.Global.{Vec}
use Rattle.std.specs.Vec.{with_items}
use Rattle.std.proofs.lemmas.Bool.{cases_eq}
use Rattle.std.proofs.lemmas.List.{with_items_is}
use Rattle.std.proofs.lemmas.List.Elements.{All-cons, All-head, All-tail, All-weaker}
use Rattle.cbdc_model.specs.Sights.{Sight}
use Rattle.lane_laws.specs.Calls.{shard, NotAmong, Every}
use Rattle.lane_laws.specs.Answers.{EachTold, Others}
use Rattle.lane_driver.specs.Told.{IsStillNode, KeepNodes}
use Rattle.lane_driver.specs.Keeping.{KeepsShard}
use Rattle.lane_driver.proofs.Fitting.{nodes_same}
use Rattle.node_ports.specs.Nodes.{no_sight, sight_at}
use Rattle.phase_calls.specs.Phase.{IsCallTaken, IsMade, IsPhaseMade, IsPhaseTold, Answered}
use Rattle.phase_calls.proofs.Halves.{none_made}

-- ---- before

module _ {P C : Type 0} (sight : P → Sight) (accepts : C → P → Type 0) (fits : Sight → C → Type 0) (mine : C → P → Type 0)
    (accept : (c : C) (p : P) → fits (sight p) c → mine c p → accepts c p) (ps : List P) where
  one_taken : (c : ℕ × C) → (p : P) → slice_get ps c.0 ≡ Some p → sight_at sight ps c.0 ≡ sight p → fits (sight_at sight ps c.0) c.1 → mine c.1 p
      → IsCallTaken accepts 0 ps c
  one_taken c p found seen fit own = record {
    place = c.0;
    place_is = omega arith;
    port = p;
    found = found;
    accepted = accept c.1 p (subst (λ s. fits s c.1) seen fit) own;
  }

  there : (xs : List P) (n : ℕ) → n < length xs → (p : P) × (slice_get xs n ≡ Some p) × (sight_at sight xs n ≡ sight p) × (get_or xs n p ≡ p)
  there [] n lt = absurd (omega (arith, lt))
  there (x ∷ xs) zero lt = (x, refl, refl, refl)
  there (x ∷ xs) (suc n) lt = there xs n (omega (arith, lt))

  -- each call is taken by the port of its shard
  pub all_taken : (cs : List (ℕ × C)) → All (λ c. c.0 < length ps) cs → All (λ c. fits (sight_at sight ps c.0) c.1) cs
      → All (λ c. All (λ p. mine c.1 p) ps) cs → Every (IsCallTaken accepts 0 ps) cs
  all_taken [] inside fit own = tt
  all_taken (c ∷ cs) inside fit own =
      let lt = All-head (λ (d : ℕ × C). d.0 < length ps) c cs inside in
      let at = there ps c.0 lt in (
        one_taken c at.0 at.1 at.2 (All-head (λ (d : ℕ × C). fits (sight_at sight ps d.0) d.1) c cs fit)
            (subst (mine c.1) at.3 (All-head (λ (d : ℕ × C). All (λ p. mine d.1 p) ps) c cs own c.0 at.0 lt)),
        all_taken cs (All-tail (λ (d : ℕ × C). d.0 < length ps) c cs inside) (All-tail (λ (d : ℕ × C). fits (sight_at sight ps d.0) d.1) c cs fit)
            (All-tail (λ (d : ℕ × C). All (λ p. mine d.1 p) ps) c cs own),
      )

-- ---- what the calls' closure says, in the ports' words

module _ {P C A : Type 0} (says makes : C → P → P → A → Type 0) (so : (c : C) (p q : P) (a : A) → says c p q a → makes c p q a) where
  each_so : (ps qs : List P) (cs : List (ℕ × C)) (answers : List A) → AllZip (IsMade says 0 ps qs) cs answers
      → AllZip (IsMade makes 0 ps qs) cs answers
  each_so ps qs [] [] z = tt
  each_so ps qs [] (a ∷ answers) z = absurd z
  each_so ps qs (c ∷ cs) [] z = absurd z
  each_so ps qs (c ∷ cs) (a ∷ answers) z =
      let m = z.0 in (
        record {
          place = m.place;
          place_is = m.place_is;
          before = m.before;
          was = m.was;
          after = m.after;
          is = m.is;
          made = so c.1 m.before m.after a m.made;
        },
        each_so ps qs cs answers z.1,
      )

  pub phase_so : (calls : List (ℕ × C)) (ps qs : List P) (answers : List A) → IsPhaseMade says 0 calls ps qs answers
      → IsPhaseMade makes 0 calls ps qs answers
  phase_so calls ps qs answers m = record { count = m.count; each = each_so ps qs calls answers m.each; others = m.others }

pub made_of : {P C A : Type 0} (makes : C → P → P → A → Type 0) (c d : C) (p r : P) (q s : P) (a : A) → c ≡ d → p ≡ r → q ≡ s → makes c p q a
    → makes d r s a
made_of makes c d p r q s a e f h made = subst (λ x. makes x r s a) e (subst (λ x. makes c x s a) f (subst (λ x. makes c p x a) h made))

pub asked_of : {P C : Type 0} (fits mine : C → P → Type 0) (c d : C) (p r : P) → c ≡ d → p ≡ r → fits d r → mine d r → fits c p × mine c p
asked_of fits mine c d p r e f fit own = subst (λ x. fits x p × mine x p) (sym e) (subst (λ x. fits d x × mine d x) (sym f) (fit, own))

-- the answers fill their places
pub filled : {P C A : Type 0} (makes : C → P → P → A → Type 0) (calls : List (ℕ × C)) (ps qs : List P) (out : Vec A) (answers : List A)
    → out.len ≡ length calls → IsPhaseMade makes 0 calls ps qs answers
    → IsPhaseMade makes 0 calls ps qs (with_items out answers).items
filled makes calls ps qs out answers many m =
    let len = as_many (IsMade makes 0 ps qs) calls answers m.each in
    subst (λ xs. IsPhaseMade makes 0 calls ps qs xs) (sym (with_items_is out answers (omega (arith, len, many)))) m
  where
    as_many : {X Y : Type 0} (R : X → Y → Type 0) (xs : List X) (ys : List Y) → AllZip R xs ys → length ys ≡ length xs
    as_many R [] [] z = refl
    as_many R [] (y ∷ ys) z = absurd z
    as_many R (x ∷ xs) [] z = absurd z
    as_many R (x ∷ xs) (y ∷ ys) z = ap suc (as_many R xs ys z.1)

-- the ports fill theirs
pub made_in : {P C A : Type 0} (makes : C → P → P → A → Type 0) (calls : List (ℕ × C)) (v : Vec P) (qs : List P) (answers : List A)
    → IsPhaseMade makes 0 calls v.items qs answers
    → IsPhaseMade makes 0 calls v.items (with_items v qs).items answers
made_in makes calls v qs answers m = subst (λ xs. IsPhaseMade makes 0 calls v.items xs answers) (sym (with_items_is v qs (m.count ∙ sym v.ok.0))) m

-- ---- a phase with calls, and one without

-- what holds beside each of some calls
pub beside : {X : Type 0} (Q : X → Type 0) (H : Type 0) (xs : List X) → 0 < length xs → All (λ x. Q x × H) xs → H
beside Q H [] some all = absurd (omega (arith, some))
beside Q H (x ∷ xs) some all = (All-head (λ y. Q y × H) x xs all).1

pub only : {X : Type 0} (Q : X → Type 0) (H : Type 0) (xs : List X) → All (λ x. Q x × H) xs → All Q xs
only Q H xs all = All-weaker (λ x. Q x × H) Q (λ x h. h.0) xs all

-- a phase is told that is told where it has calls: where it has none nothing has changed
pub phase_told : {P C A : Type 0} (makes : C → P → P → A → Type 0) (calls : List (ℕ × C)) (out : Vec A) (ps : List P) (out' : Vec A) (ps' : List P)
    → out.items ≡ [] → (length calls ≡ 0 → (out' ≡ out) × (ps' ≡ ps))
    → (0 < length calls → IsPhaseTold makes calls out ps out' ps') → IsPhaseTold makes calls out ps out' ps'
phase_told makes [] out ps out' ps' empty none some =
    let same = none refl in
    subst (λ o. IsPhaseTold makes [] out ps o ps') (sym same.0)
    (subst (λ qs. IsPhaseTold makes [] out ps out qs) (sym same.1)
    (record { made = none_made makes 0 ps [] out.items refl (ap length empty); capacity = refl }))
phase_told makes (c ∷ cs) out ps out' ps' empty none some = some (omega arith)

-- ---- what is seen

seen_of : {P : Type 0} → (P → Sight) → Option P → Sight
seen_of sight None = no_sight
seen_of sight (Some p) = sight p

module _ {P : Type 0} (sight : P → Sight) where
  seen : (ps : List P) (n : ℕ) → sight_at sight ps n ≡ seen_of sight (slice_get ps n)
  unfolding seen_of
  seen [] n = refl
  seen (p ∷ ps) zero = refl
  seen (p ∷ ps) (suc n) = seen ps n

  seen_as : (ps : List P) (n : ℕ) (p : P) → slice_get ps n ≡ Some p → sight_at sight ps n ≡ sight p
  unfolding seen_of
  seen_as ps n p e = seen ps n ∙ ap (seen_of sight) e

  seen_same : (ps qs : List P) (n : ℕ) → slice_get qs n ≡ slice_get ps n → sight_at sight qs n ≡ sight_at sight ps n
  seen_same ps qs n e = seen qs n ∙ (ap (seen_of sight) e ∙ sym (seen ps n))

-- ---- place by place

module _ {X : Type 0} (R : X → X → Type 0) where
  pointwise : (xs ys : List X) → length ys ≡ length xs → ((n : ℕ) (x y : X) → slice_get xs n ≡ Some x → slice_get ys n ≡ Some y → R x y)
      → AllZip R xs ys
  pointwise [] [] e h = tt
  pointwise [] (y ∷ ys) e h = absurd (omega (arith, e))
  pointwise (x ∷ xs) [] e h = absurd (omega (arith, e))
  pointwise (x ∷ xs) (y ∷ ys) e h = (h 0 x y refl refl, pointwise xs ys (omega (arith, e)) (λ n. h (suc n)))

  all_kept : (Q : X → Type 0) → ((x y : X) → R x y → Q x → Q y) → (xs ys : List X) → AllZip R xs ys → All Q xs → All Q ys
  all_kept Q f [] [] z h = h
  all_kept Q f [] (y ∷ ys) z h = absurd z
  all_kept Q f (x ∷ xs) [] z h = absurd z
  all_kept Q f (x ∷ xs) (y ∷ ys) z h = All-cons Q y ys (f x y z.0 (All-head Q x xs h)) (all_kept Q f xs ys z.1 (All-tail Q x xs h))

  sights_kept : (sight : X → Sight) → ((x y : X) → R x y → IsStillNode (sight x) (sight y)) → (xs ys : List X) → AllZip R xs ys
      → KeepNodes (sight_at sight xs) (sight_at sight ys)
  sights_kept sight f [] [] z n = nodes_same (λ k. no_sight) n
  sights_kept sight f [] (y ∷ ys) z n = absurd z
  sights_kept sight f (x ∷ xs) [] z n = absurd z
  sights_kept sight f (x ∷ xs) (y ∷ ys) z zero = f x y z.0
  sights_kept sight f (x ∷ xs) (y ∷ ys) z (suc n) = sights_kept sight f xs ys z.1 n

-- ---- behind

-- what the ports tell of a phase, in the words of the trait of a set
pub record IsSetTold {P C A : Type 0} (told : ℕ × C → Sight → Sight → A → Type 0) (is : Sight → A → Type 0) (sight : P → Sight) (holds : P → Type 0)
    (serves : P → ℕ → Type 0) (ps qs : List P) (calls : List (ℕ × C)) (answers : List A) : Type 0 where
  pub each : AllZip (λ c a. is (sight_at sight ps c.0) a) calls answers
  pub told_so : EachTold told calls answers (sight_at sight ps) (sight_at sight qs)
  pub untouched : Others calls (sight_at sight ps) (sight_at sight qs)
  pub nodes : KeepNodes (sight_at sight ps) (sight_at sight qs)
  pub held : All holds ps → All holds qs
  pub served : (l : ℕ) → All (λ p. serves p l) ps → All (λ p. serves p l) qs

unequal : (n m : ℕ) → (n ≡ m → ⊥) → (n == m) ≡ false
unequal n m ne = grind (arith, ne)

module _ {P C A : Type 0} (told : ℕ × C → Sight → Sight → A → Type 0) (is : Sight → A → Type 0) (at : P → ℕ) (sight : P → Sight) (faults : P → ℕ)
    (holds : P → Type 0) (serves : P → ℕ → Type 0) (anywhere : (n m : ℕ) (c : C) (s t : Sight) (a : A) → told (n, c) s t a → told (m, c) s t a)
    (ps qs : List P) where
  abbrev makes : C → P → P → A → Type 0
  makes = Answered told is at sight faults holds serves

  abbrev keeps : P → P → Type 0
  keeps = KeepsShard at sight faults holds serves

  keeps_itself : (p : P) → keeps p p
  keeps_itself p = record { at_same = refl; node = nodes_same (λ n. sight p) 0; later = omega arith; held = λ h. h; served = λ l h. h }

  each_told : (cs : List (ℕ × C)) (answers : List A) → AllZip (IsMade makes 0 ps qs) cs answers
      → EachTold told cs answers (sight_at sight ps) (sight_at sight qs)
  each_told [] [] z = tt
  each_told [] (a ∷ answers) z = absurd z
  each_told (c ∷ cs) [] z = absurd z
  each_told (c ∷ cs) (a ∷ answers) z =
      let m = z.0 in
      let place = m.place_is in
      let here : c.0 ≡ m.place = omega (arith, place) in
      let was = ap (sight_at sight ps) here ∙ seen_as sight ps m.place m.before m.was in
      let now = ap (sight_at sight qs) here ∙ seen_as sight qs m.place m.after m.is in (
        subst (λ s. told c s (sight_at sight qs c.0) a) (sym was)
            (subst (λ t. told c (sight m.before) t a) (sym now) (anywhere (at m.before) c.0 c.1 (sight m.before) (sight m.after) a m.made.told_so)),
        each_told cs answers z.1,
      )

  each_answer : (cs : List (ℕ × C)) (answers : List A) → AllZip (IsMade makes 0 ps qs) cs answers
      → AllZip (λ c a. is (sight_at sight ps c.0) a) cs answers
  each_answer [] [] z = tt
  each_answer [] (a ∷ answers) z = absurd z
  each_answer (c ∷ cs) [] z = absurd z
  each_answer (c ∷ cs) (a ∷ answers) z =
      let m = z.0 in
      let place = m.place_is in
      let here : c.0 ≡ m.place = omega (arith, place) in
      let was = ap (sight_at sight ps) here ∙ seen_as sight ps m.place m.before m.was in
      (subst (λ s. is s a) (sym was) m.made.answer, each_answer cs answers z.1)

  -- a shard is that of a call, or of none
  place_kept : (cs : List (ℕ × C)) (answers : List A) → AllZip (IsMade makes 0 ps qs) cs answers → (n : ℕ) (p q : P) → slice_get ps n ≡ Some p
      → slice_get qs n ≡ Some q → NotAmong shard cs n ⊎ keeps p q
  place_kept [] [] z n p q e f = inl tt
  place_kept [] (a ∷ answers) z n p q e f = absurd z
  place_kept (c ∷ cs) [] z n p q e f = absurd z
  place_kept (c ∷ cs) (a ∷ answers) z n p q e f = elim (cases_eq c.0 n) [
    | inl same ↦
        let m = z.0 in
        let place = m.place_is in
        let here : m.place ≡ n = omega (arith, place, same) in
        let before : m.before ≡ p = cc (sym (subst (λ k. slice_get ps k ≡ Some m.before) here m.was), e) in
        let after : m.after ≡ q = cc (sym (subst (λ k. slice_get qs k ≡ Some m.after) here m.is), f) in
        inr (subst (λ x. keeps x q) before (subst (λ y. keeps m.before y) after m.made.keeps))
    | inr other ↦ elim (place_kept cs answers z.1 n p q e f) [
      | inl not ↦ inl (unequal c.0 n other, not)
      | inr kept ↦ inr kept
    ]
  ]

  kept : (calls : List (ℕ × C)) (answers : List A) → IsPhaseMade makes 0 calls ps qs answers → AllZip keeps ps qs
  kept calls answers m = pointwise keeps ps qs m.count (λ n p q e f. elim (place_kept calls answers m.each n p q e f) [
    | inl not ↦ let same : p ≡ q = cc (e, f, m.others n (subst (NotAmong shard calls) (omega arith) not)) in
        subst (λ y. keeps p y) same (keeps_itself p)
    | inr k ↦ k
  ])

  pub set_told : (calls : List (ℕ × C)) (answers : List A) → IsPhaseMade makes 0 calls ps qs answers
      → IsSetTold told is sight holds serves ps qs calls answers
  set_told calls answers m =
      let each_kept = kept calls answers m in record {
        each = each_answer calls answers m.each;
        told_so = each_told calls answers m.each;
        untouched = λ s not. seen_same sight ps qs s (m.others s (subst (NotAmong shard calls) (omega arith) not));
        nodes = sights_kept keeps sight (λ p q k. k.node) ps qs each_kept;
        held = all_kept keeps holds (λ p q k. k.held) ps qs each_kept;
        served = λ l. all_kept keeps (λ p. serves p l) (λ p q k. k.served l) ps qs each_kept;
      }
