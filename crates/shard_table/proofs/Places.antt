-- Where hashes stand, when one is moved up into a gap.
use Rattle.std.proofs.Common.{◌≡◌, ◌≢◌, inl, inr, ℕ, zero, suc, ◌+◌, ◌<◌, ◌≤◌, true, false, List, [], ◌∷◌, length, set, Option, Some, None, arith}
use Rattle.std.proofs.Common.{refl, ap, sym, ◌∙◌, subst, if◌then◌else◌}
use Rattle.std.proofs.lemmas.Bool.{cases_lt}
use Rattle.std.proofs.lemmas.List.{get_or-set_same, get_or-set_other, length-set}
use Rattle.cbdc_model.specs.Records.{Digest, same_digest}
use Rattle.shard_table.specs.declared.slots.Kept.{Kept}
use Rattle.shard_table.specs.Entries.{lookup}
use Rattle.shard_table.specs.Slots.{gather, slot_at, is_taken, home_slot, Passed, ArePlacedSlots, IsSound, IsAhead, IsPlace, IsOther, IsFor, IsOpen}
use Rattle.shard_table.specs.Slots.{IsShifted}
use Rattle.shard_table.proofs.Gathers.{same_is, same_of, gathered_none, gathered_at, filled_other, freed_other, filled_count, freed_count, full_count}
use Rattle.shard_table.proofs.Circle.{Yes, No, same_nat, Ahead, Both, Behind, first_of, passed_before, passed_not, passed_on, passed_more, passed_one}
use Rattle.shard_table.proofs.Circle.{passed_wrap}

not_taken : {V : Type 0} (s : Option (Kept V)) → s ≡ None → is_taken s ≡ true → ⊥
not_taken s h t = let no : false ≡ true = rw h at t in cc

-- what stands in a slot after one was filled
pub data Filled {V : Type 0} (slots : List (Option (Kept V))) (at : ℕ) (e : Kept V) (i : ℕ) (f : Kept V) : Type 0 where
  Here : i ≡ at → f ≡ e → Filled slots at e i f
  There : i ≢ at → slot_at slots i ≡ Some f → Filled slots at e i f

some_is : {V : Type 0} (e f : V) → Some e ≡ Some f → f ≡ e
some_is e f h = cc

pub filled_at : {V : Type 0} (slots : List (Option (Kept V))) (at : ℕ) (e : Kept V) (i : ℕ) (f : Kept V) → at < length slots
    → slot_at (set slots at (Some e)) i ≡ Some f → Filled slots at e i f
filled_at slots at e i f l h =
    elim (same_nat i at) [
      | Yes q ↦ Here q (some_is e f (sym (get_or-set_same slots at (Some e) None l)
          ∙ subst (λ (k : ℕ). slot_at (set slots at (Some e)) k ≡ Some f) q h))
      | No n ↦ There n (sym (get_or-set_other slots at i (Some e) None n) ∙ h)
    ]

-- what stands in a slot after one was freed
pub data Freed {V : Type 0} (slots : List (Option (Kept V))) (at i : ℕ) (f : Kept V) : Type 0 where
  Still : i ≢ at → slot_at slots i ≡ Some f → Freed slots at i f

none_is : {V : Type 0} (f : V) → None ≡ Some f → ⊥
none_is f h = cc

pub freed_at : {V : Type 0} (slots : List (Option (Kept V))) (at i : ℕ) (f : Kept V) → at < length slots
    → slot_at (set slots at None) i ≡ Some f → Freed slots at i f
freed_at slots at i f l h =
    elim (same_nat i at) [
      | Yes q ↦ absurd (none_is f (sym (get_or-set_same slots at None None l) ∙ subst (λ (k : ℕ). slot_at (set slots at None) k ≡ Some f) q h))
      | No n ↦ Still n (sym (get_or-set_other slots at i None None n) ∙ h)
    ]

taken_of : {V : Type 0} (s : Option (Kept V)) (f : Kept V) → s ≡ Some f → is_taken s ≡ true
taken_of s f h = rw h

-- a slot that is taken stays so when another is filled
filled_taken : {V : Type 0} (slots : List (Option (Kept V))) (at m : ℕ) (e : Kept V) → at < length slots → is_taken (slot_at slots m) ≡ true
    → is_taken (slot_at (set slots at (Some e)) m) ≡ true
filled_taken slots at m e l h =
    elim (same_nat m at) [
      | Yes q ↦ taken_of (slot_at (set slots at (Some e)) m) e
          (subst (λ (k : ℕ). slot_at (set slots at (Some e)) k ≡ Some e) (sym q) (get_or-set_same slots at (Some e) None l))
      | No n ↦ ap is_taken (get_or-set_other slots at m (Some e) None n) ∙ h
    ]

freed_taken : {V : Type 0} (slots : List (Option (Kept V))) (at m : ℕ) → m ≢ at → is_taken (slot_at slots m) ≡ true
    → is_taken (slot_at (set slots at None) m) ≡ true
freed_taken slots at m n h = ap is_taken (get_or-set_other slots at m None None n) ∙ h

some_same : {V : Type 0} (e f : V) → e ≡ f → Some e ≡ Some f
some_same e f h = ap Some h

in_range : {V : Type 0} (slots : List (Option (Kept V))) (i : ℕ) (f : Kept V) → slot_at slots i ≡ Some f → i < length slots
in_range [] i f h = cc
in_range (s ∷ slots) zero f h = omega arith
in_range (s ∷ slots) (suc i) f h = let rest = in_range slots i f h in omega (arith, rest)

-- freeing a slot makes it the gap
pub free_placed : {V : Type 0} (slots : List (Option (Kept V))) (homes at : ℕ) → IsSound slots homes → at < length slots
    → ArePlacedSlots (set slots at None) homes at
free_placed slots homes at s l =
    record {
      filled = λ i m f h b c n. elim (freed_at slots at i f l h) [ Still k g ↦ freed_taken slots at m n (s.filled i m f g b c (omega arith)) ];
      once = λ i j e f h k q. elim (freed_at slots at i e l h) [ Still n g ↦ elim (freed_at slots at j f l k) [ Still o d ↦ s.once i j e f g d q ] ];
    }

-- a hash with the gap between its home and it is moved into the gap
pub move_placed : {V : Type 0} (slots : List (Option (Kept V))) (homes gap at : ℕ) (e : Kept V) → ArePlacedSlots slots homes gap → gap ≢ at
    → gap < length slots → at < length slots
    → slot_at slots at ≡ Some e → Passed (home_slot homes e.hash) at gap → ArePlacedSlots (set (set slots at None) gap (Some e)) homes at
move_placed slots homes gap at e p g w l is home =
    let fits : gap < length (set slots at None) = let same = length-set slots at None in omega (arith, same) in
    record {
      filled = λ i m f h b c n. elim (filled_at (set slots at None) gap e i f fits h) [
        | Here q same ↦
            let before : Passed (home_slot homes e.hash) gap m =
            subst (λ (v : Kept _). Passed (home_slot homes v.hash) gap m) same (subst (λ (k : ℕ). Passed (home_slot homes f.hash) k m) q c) in
            filled_taken (set slots at None) gap m e fits
            (freed_taken slots at m n (p.filled at m e is b (passed_before (home_slot homes e.hash) at gap m home before)
            (passed_not (home_slot homes e.hash) gap m before)))
        | There o k ↦ elim (freed_at slots at i f l k) [
          | Still r d ↦
              elim (same_nat m gap) [
                | Yes y ↦ taken_of (slot_at (set (set slots at None) gap (Some e)) m) e
                    (subst (λ (k : ℕ). slot_at (set (set slots at None) gap (Some e)) k ≡ Some e) (sym y)
                    (get_or-set_same (set slots at None) gap (Some e) None fits))
                | No y ↦ filled_taken (set slots at None) gap m e fits (freed_taken slots at m n (p.filled i m f d b c y))
              ]
        ]
      ];
      once = λ i j c f h k q. elim (filled_at (set slots at None) gap e i c fits h) [
        | Here y same ↦ elim (filled_at (set slots at None) gap e j f fits k) [
          | Here z also ↦ y ∙ sym z
          | There z w ↦ elim (freed_at slots at j f l w) [
            | Still o d ↦
                absurd (o (sym (p.once at j e f is d (sym (ap (λ (v : Kept _). v.hash) same) ∙ q))))
          ]
        ]
        | There y w ↦ elim (freed_at slots at i c l w) [
          | Still o d ↦
              elim (filled_at (set slots at None) gap e j f fits k) [
                | Here z also ↦ absurd (o (p.once i at c e d is (q ∙ ap (λ (v : Kept _). v.hash) also)))
                | There z v ↦ elim (freed_at slots at j f l v) [ Still r b ↦ p.once i j c f d b q ]
              ]
        ]
      ];
    }

-- ---- closing a gap

not_ahead : {V : Type 0} (homes at gap : ℕ) (s : Option (Kept V)) (f : Kept V) → s ≡ Some f → Passed (home_slot homes f.hash) at gap
    → IsAhead s homes at gap → ⊥
not_ahead homes at gap s f h b a = let no : Passed (home_slot homes f.hash) at gap → ⊥ = rw h at a in no b

none_taken : {V : Type 0} (s : Option (Kept V)) (f : Kept V) → s ≡ None → s ≡ Some f → ⊥
none_taken s f h k = none_is f (sym h ∙ k)

-- a slot that was freed is an open gap
pub open_start : {V : Type 0} (slots : List (Option (Kept V))) (homes at : ℕ) → IsSound slots homes → homes ≡ length slots → at < length slots
    → IsOpen (set slots at None) homes at (at + 1)
open_start slots homes at s same l = record {
  within = omega arith;
  empty = get_or-set_same slots at None None l;
  placed = free_placed slots homes at s l;
  ahead = λ m b p n. absurd (n (passed_one at m p));
}

pub open_move : {V : Type 0} (slots : List (Option (Kept V))) (homes gap at : ℕ) (e : Kept V) → IsOpen slots homes gap at → homes ≡ length slots
    → at < homes → gap ≢ at
    → slot_at slots at ≡ Some e → Passed (home_slot homes e.hash) at gap → IsOpen (set (set slots at None) gap (Some e)) homes at (at + 1)
open_move slots homes gap at e o same l n is home =
    let fits : at < length slots = omega arith in
    record {
      within = l;
      empty = get_or-set_other (set slots at None) gap at (Some e) None (omega arith) ∙ get_or-set_same slots at None None fits;
      placed = move_placed slots homes gap at e o.placed n (let w = o.within in omega (arith, w)) fits is home;
      ahead = λ m b p k. absurd (k (passed_one at m p));
    }

pub open_keep : {V : Type 0} (slots : List (Option (Kept V))) (homes gap at : ℕ) (e : Kept V) → IsOpen slots homes gap at → gap ≢ at
    → slot_at slots at ≡ Some e → (Passed (home_slot homes e.hash) at gap → ⊥) → IsOpen slots homes gap (at + 1)
open_keep slots homes gap at e o n is not = record {
  within = o.within;
  empty = o.empty;
  placed = o.placed;
  ahead = λ m b p k. elim (passed_more gap at m n p) [
    | inl before ↦ o.ahead m b before k
    | inr q ↦ subst (λ (j : ℕ). IsAhead (slot_at slots j) homes j gap) (sym q) (here homes gap at e (slot_at slots at) is not)
  ];
}
  where
    here : {V : Type 0} (homes gap at : ℕ) (e : Kept V) (s : Option (Kept V)) → s ≡ Some e → (Passed (home_slot homes e.hash) at gap → ⊥)
        → IsAhead s homes at gap
    here homes gap at e s is not = rw is not

pub open_wrap : {V : Type 0} (slots : List (Option (Kept V))) (homes gap : ℕ) → IsOpen slots homes gap homes → IsOpen slots homes gap 0
open_wrap slots homes gap o = record {
  within = o.within;
  empty = o.empty;
  placed = o.placed;
  ahead = λ m b p k. o.ahead m b (passed_wrap homes gap m b p) k;
}

-- no hash behind an open gap has it between its home and itself, once a free slot is come to
no_gap : {V : Type 0} (slots : List (Option (Kept V))) (homes gap at : ℕ) → IsOpen slots homes gap at → homes ≡ length slots → at < homes → gap ≢ at
    → slot_at slots at ≡ None
    → (i : ℕ) (f : Kept V) → slot_at slots i ≡ Some f → Passed (home_slot homes f.hash) i gap → ⊥
no_gap slots homes gap at o same l n free i f h p =
    let r : i < length slots = in_range slots i f h in
    elim (same_nat i gap) [
      | Yes q ↦ none_taken (slot_at slots gap) f o.empty (subst (λ (k : ℕ). slot_at slots k ≡ Some f) q h)
      | No q ↦ elim (first_of gap i at) [
        | Ahead a ↦ not_ahead homes i gap (slot_at slots i) f h p (o.ahead i (omega arith) a q)
        | Both e ↦ none_taken (slot_at slots at) f free (subst (λ (k : ℕ). slot_at slots k ≡ Some f) e h)
        | Behind b ↦ not_taken (slot_at slots at) free (o.placed.filled i at f h l (passed_on (home_slot homes f.hash) i gap at p b) (omega arith))
      ]
    ]

pub open_end : {V : Type 0} (slots : List (Option (Kept V))) (homes gap at : ℕ) → IsOpen slots homes gap at → homes ≡ length slots → at < homes
    → gap ≢ at → slot_at slots at ≡ None → IsSound slots homes
open_end slots homes gap at o same l n free = record {
  filled = λ i m f h b c k. elim (same_nat m gap) [
    | No y ↦ o.placed.filled i m f h b c y
    | Yes y ↦ absurd (no_gap slots homes gap at o same l n free i f h (subst (λ (j : ℕ). Passed (home_slot homes f.hash) i j) y c))
  ];
  once = o.placed.once;
}

-- where all slots but one are taken, the count is one less
pub full_but : {V : Type 0} (slots : List (Option (Kept V))) (g : ℕ) → ((m : ℕ) → m < length slots → m ≢ g → is_taken (slot_at slots m) ≡ true)
    → length slots ≤ 1 + length (gather slots)
full_but [] g all = omega arith
full_but (None ∷ slots) zero all = let rest = full_count slots 0 (λ m l h. all (suc m) (omega arith) (omega arith)) in omega (arith, rest)
full_but (Some e ∷ slots) zero all = let rest = full_count slots 0 (λ m l h. all (suc m) (omega arith) (omega arith)) in omega (arith, rest)
full_but (None ∷ slots) (suc g) all = let no : false ≡ true = all 0 (omega arith) (omega arith) in cc
full_but (Some e ∷ slots) (suc g) all = let rest = full_but slots g (λ m l h. all (suc m) (omega arith) (omega arith)) in omega (arith, rest)

-- after both ways round all slots but the gap are taken
pub all_taken : {V : Type 0} (a b c : List (Option (Kept V))) (gap n g k : ℕ) → IsShifted a b gap (gap + 1) n g → IsShifted b c g 0 gap k → (m : ℕ)
    → m < n → m ≢ k → is_taken (slot_at c m) ≡ true
all_taken a b c gap n g k p q m l o =
    elim (same_nat m g) [
      | Yes e ↦ subst (λ (j : ℕ). is_taken (slot_at c j) ≡ true) (sym e) (q.filled (omega arith))
      | No e ↦ elim (cases_lt m gap) [
        | inl below ↦ q.passed m (omega arith) below o
        | inr up ↦ elim (same_nat m gap) [
          | Yes s ↦ q.still m (subst (λ (j : ℕ). is_taken (slot_at b j) ≡ true) (sym s) (p.filled (omega arith))) o
          | No s ↦ q.still m (p.passed m (omega arith) l e) o
        ]
      ]
    ]

-- no other slot has the hash of this one
other_by : {V : Type 0} (slots : List (Option (Kept V))) (homes gap at : ℕ) (e : Kept V) → ArePlacedSlots slots homes gap → slot_at slots at ≡ Some e
    → (x : Digest)
    → same_digest e.hash x ≡ true → (j : ℕ) (f : Kept V) → j ≢ at → slot_at slots j ≡ Some f → same_digest f.hash x ≡ false
other_by slots homes gap at e p is x s j f n h =
    elim (same_digest f.hash x) as (λ c. same_digest f.hash x ≡ c → c ≡ false) [
      | true ↦ λ t. absurd (n (p.once j at f e h is (same_is f.hash x t ∙ sym (same_is e.hash x s))))
      | false ↦ λ t. refl
    ] refl

-- what is kept under each hash stays the same by the move
pub moved_kept : {V : Type 0} (slots : List (Option (Kept V))) (homes gap at : ℕ) (e : Kept V) → ArePlacedSlots slots homes gap → gap ≢ at
    → gap < length slots → at < length slots
    → slot_at slots gap ≡ None → slot_at slots at ≡ Some e → (x : Digest)
    → lookup (gather (set (set slots at None) gap (Some e))) x ≡ lookup (gather slots) x
moved_kept slots homes gap at e p g w l free is x =
    let fits : gap < length (set slots at None) = let same = length-set slots at None in omega (arith, same) in
    let apart : slot_at (set slots at None) gap ≡ None = get_or-set_other slots at gap None None (omega arith) ∙ free in
    elim (same_digest e.hash x) as (λ c. same_digest e.hash x ≡ c
    → lookup (gather (set (set slots at None) gap (Some e))) x ≡ lookup (gather slots) x) [
      | true ↦ λ s.
          gathered_at (set (set slots at None) gap (Some e)) gap e x (get_or-set_same (set slots at None) gap (Some e) None fits) s
          (λ j f b h. elim (filled_at (set slots at None) gap e j f fits h) [
            | Here q same ↦ absurd (omega arith)
            | There n k ↦ elim (freed_at slots at j f l k) [ Still o d ↦ other_by slots homes gap at e p is x s j f o d ]
          ])
          ∙ sym (gathered_at slots at e x is s (λ j f b h. other_by slots homes gap at e p is x s j f (omega arith) h))
      | false ↦ λ s. filled_other (set slots at None) gap e x apart s ∙ freed_other slots at e x is s
    ] refl

pub moved_count : {V : Type 0} (slots : List (Option (Kept V))) (gap at : ℕ) (e : Kept V) → gap ≢ at → gap < length slots → at < length slots
    → slot_at slots gap ≡ None → slot_at slots at ≡ Some e → length (gather (set (set slots at None) gap (Some e))) ≡ length (gather slots)
moved_count slots gap at e g w l free is =
    let fits : gap < length (set slots at None) = let same = length-set slots at None in omega (arith, same) in
    let apart : slot_at (set slots at None) gap ≡ None = get_or-set_other slots at gap None None (omega arith) ∙ free in
    filled_count (set slots at None) gap e fits apart ∙ freed_count slots at e is

-- where a slot has the hash, what stands there is what is kept under it
pub here_lookup : {V : Type 0} (slots : List (Option (Kept V))) (homes gap i : ℕ) (e : Kept V) → ArePlacedSlots slots homes gap
    → slot_at slots i ≡ Some e → (x : Digest)
    → same_digest e.hash x ≡ true → lookup (gather slots) x ≡ Some e.value
here_lookup slots homes gap i e p is x s = gathered_at slots i e x is s (λ j f b h. other_by slots homes gap i e p is x s j f (omega arith) h)

pub for_this : {V : Type 0} (s : Option (Kept V)) (e : Kept V) (x : Digest) → s ≡ Some e → IsFor s x → same_digest e.hash x ≡ true
for_this s e x h f = rw h at f

not_other : {V : Type 0} (s : Option (Kept V)) (e : Kept V) (x : Digest) → s ≡ Some e → same_digest e.hash x ≡ true → IsOther s x → ⊥
not_other s e x h t o = let f : same_digest e.hash x ≡ false = rw h at o in cc

pub other_taken : {V : Type 0} (s : Option (Kept V)) (x : Digest) → IsOther s x → is_taken s ≡ true
other_taken None x o = absurd o
other_taken (Some e) x o = refl

-- where the search ends at a free slot, or has gone round, the hash isn't there
pub absent_lookup : {V : Type 0} (slots : List (Option (Kept V))) (homes : ℕ) (x : Digest) (place : ℕ) → IsSound slots homes → homes ≡ length slots
    → IsPlace slots (home_slot homes x) x place
    → (place < length slots → slot_at slots place ≡ None) → lookup (gather slots) x ≡ None
absent_lookup slots homes x place s same p free =
    gathered_none slots x (λ i e h.
    elim (same_digest e.hash x) as (λ c. same_digest e.hash x ≡ c → c ≡ false) [
      | false ↦ λ t. refl
      | true ↦ λ t.
          let is : e.hash ≡ x = same_is e.hash x t in
          let r : i < length slots = in_range slots i e h in
          absurd (elim (cases_lt place (length slots)) [
            | inr over ↦ not_other (slot_at slots i) e x h t (p.none i r over)
            | inl l ↦ elim (first_of (home_slot homes x) i place) [
              | Ahead a ↦ not_other (slot_at slots i) e x h t (p.passed i r l a)
              | Both q ↦ none_taken (slot_at slots place) e (free l) (subst (λ (k : ℕ). slot_at slots k ≡ Some e) q h)
              | Behind b ↦ not_taken (slot_at slots place) (free l)
                  (s.filled i place e h (omega arith) (subst (λ (y : Digest). Passed (home_slot homes y) i place) (sym is) b) (omega arith))
            ]
          ])
    ] refl)

-- with room, the search ends at a slot
pub place_within : {V : Type 0} (slots : List (Option (Kept V))) (home : ℕ) (x : Digest) (place : ℕ) → IsPlace slots home x place
    → length (gather slots) < length slots → place < length slots
place_within slots home x place p room =
    elim (cases_lt place (length slots)) [
      | inl l ↦ l
      | inr over ↦
          let full = full_count slots 0 (λ m l h. other_taken (slot_at slots m) x (p.none m h over)) in
          absurd (omega (arith, full))
    ]

free_or_not : {V : Type 0} (slots : List (Option (Kept V))) (homes : ℕ) (x : Digest) (place : ℕ) (t : Option (Kept V)) → IsSound slots homes
    → IsPlace slots (home_slot homes x) x place → place < length slots → lookup (gather slots) x ≡ None → slot_at slots place ≡ t
    → slot_at slots place ≡ None
free_or_not slots homes x place None s p l absent h = h
free_or_not slots homes x place (Some e) s p l absent h =
    absurd (none_is e.value (sym absent ∙ here_lookup slots homes homes place e s h x (for_this (slot_at slots place) e x h (p.found l))))

-- a slot where the search for an absent hash ends is free
pub place_free : {V : Type 0} (slots : List (Option (Kept V))) (homes : ℕ) (x : Digest) (place : ℕ) → IsSound slots homes
    → IsPlace slots (home_slot homes x) x place → place < length slots
    → lookup (gather slots) x ≡ None → slot_at slots place ≡ None
place_free slots homes x place s p l absent = free_or_not slots homes x place (slot_at slots place) s p l absent refl

in_free : {V : Type 0} (slots : List (Option (Kept V))) (homes : ℕ) (x : Digest) (i : ℕ) (e : Kept V) → IsSound slots homes
    → lookup (gather slots) x ≡ None
    → slot_at slots i ≡ Some e → e.hash ≡ x → ⊥
in_free slots homes x i e s absent h is = none_is e.value (sym absent ∙ here_lookup slots homes homes i e s h x (same_of e.hash x is))

pub fill_sound : {V : Type 0} (slots : List (Option (Kept V))) (homes : ℕ) (e : Kept V) (place : ℕ) → IsSound slots homes → homes ≡ length slots
    → IsPlace slots (home_slot homes e.hash) e.hash place
    → place < length slots → lookup (gather slots) e.hash ≡ None → IsSound (set slots place (Some e)) homes
fill_sound slots homes e place s size p l absent =
    record {
      filled = λ i m f h b c n. elim (filled_at slots place e i f l h) [
        | Here q same ↦
            let before : Passed (home_slot homes e.hash) place m =
            subst (λ (v : Kept _). Passed (home_slot homes v.hash) place m) same (subst (λ (k : ℕ). Passed (home_slot homes f.hash) k m) q c) in
            filled_taken slots place m e l (other_taken (slot_at slots m) e.hash (p.passed m (omega arith) l before))
        | There o k ↦ filled_taken slots place m e l (s.filled i m f k b c n)
      ];
      once = λ i j c f h k q. elim (filled_at slots place e i c l h) [
        | Here y same ↦ elim (filled_at slots place e j f l k) [
          | Here z also ↦ y ∙ sym z
          | There z w ↦ absurd (in_free slots homes e.hash j f s absent w (sym q ∙ ap (λ (v : Kept _). v.hash) same))
        ]
        | There y w ↦ elim (filled_at slots place e j f l k) [
          | Here z also ↦ absurd (in_free slots homes e.hash i c s absent w (q ∙ ap (λ (v : Kept _). v.hash) also))
          | There z v ↦ s.once i j c f w v q
        ]
      ];
    }

pub fill_kept : {V : Type 0} (slots : List (Option (Kept V))) (homes : ℕ) (e : Kept V) (place : ℕ) → IsSound slots homes → homes ≡ length slots
    → IsPlace slots (home_slot homes e.hash) e.hash place
    → place < length slots → lookup (gather slots) e.hash ≡ None → (x : Digest)
    → lookup (gather (set slots place (Some e))) x ≡ (if same_digest e.hash x then Some e.value else lookup (gather slots) x)
fill_kept slots homes e place s size p l absent x =
    let free : slot_at slots place ≡ None = place_free slots homes e.hash place s p l absent in
    elim (same_digest e.hash x) as (λ c. same_digest e.hash x ≡ c
    → lookup (gather (set slots place (Some e))) x ≡ (if c then Some e.value else lookup (gather slots) x)) [
      | true ↦ λ t. here_lookup (set slots place (Some e)) homes homes place e
          (fill_sound slots homes e place s size p l absent) (get_or-set_same slots place (Some e) None l) x t
      | false ↦ λ t. filled_other slots place e x free t
    ] refl

pub fill_count : {V : Type 0} (slots : List (Option (Kept V))) (homes : ℕ) (e : Kept V) (place : ℕ) → IsSound slots homes → homes ≡ length slots
    → IsPlace slots (home_slot homes e.hash) e.hash place
    → place < length slots → lookup (gather slots) e.hash ≡ None → length (gather (set slots place (Some e))) ≡ length (gather slots) + 1
fill_count slots homes e place s size p l absent =
    let free : slot_at slots place ≡ None = place_free slots homes e.hash place s p l absent in
    let more = filled_count slots place e l free in
    omega (arith, more)

-- what is kept when a slot is freed
pub freed_kept : {V : Type 0} (slots : List (Option (Kept V))) (homes at : ℕ) (e : Kept V) → IsSound slots homes → slot_at slots at ≡ Some e
    → (x : Digest) → same_digest e.hash x ≡ true
    → (y : Digest) → lookup (gather (set slots at None)) y ≡ (if same_digest x y then None else lookup (gather slots) y)
freed_kept slots homes at e s is x t y =
    let l : at < length slots = in_range slots at e is in
    let same : e.hash ≡ x = same_is e.hash x t in
    rw (← same)
    (elim (same_digest e.hash y) as (λ c. same_digest e.hash y ≡ c
    → lookup (gather (set slots at None)) y ≡ (if c then None else lookup (gather slots) y)) [
      | true ↦ λ u. gathered_none (set slots at None) y (λ i f h. elim (freed_at slots at i f l h) [
        | Still n k ↦ other_by slots homes homes at e s is y u i f n k
      ])
      | false ↦ λ u. freed_other slots at e y is u
    ] refl)

pub absent_kept : {V : Type 0} (es : List (Kept V)) (x : Digest) → lookup es x ≡ None → (y : Digest)
    → lookup es y ≡ (if same_digest x y then None else lookup es y)
absent_kept es x absent y =
    elim (same_digest x y) as (λ c. same_digest x y ≡ c → lookup es y ≡ (if c then None else lookup es y)) [
      | true ↦ λ t. subst (λ (z : Digest). lookup es z ≡ None) (same_is x y t) absent
      | false ↦ λ t. refl
    ] refl

-- ---- what was taken stays so while the gap moves

stays : {V : Type 0} (slots : List (Option (Kept V))) (free at m : ℕ) (e : Kept V) → free < length slots → m ≢ at
    → (m ≢ free → is_taken (slot_at slots m) ≡ true)
    → is_taken (slot_at (set (set slots at None) free (Some e)) m) ≡ true
stays slots free at m e w n old =
    let fits : free < length (set slots at None) = let same = length-set slots at None in omega (arith, same) in
    elim (same_nat m free) [
      | Yes q ↦ taken_of (slot_at (set (set slots at None) free (Some e)) m) e
          (subst (λ (k : ℕ). slot_at (set (set slots at None) free (Some e)) k ≡ Some e) (sym q)
          (get_or-set_same (set slots at None) free (Some e) None fits))
      | No q ↦ filled_taken (set slots at None) free m e fits (freed_taken slots at m n (old q))
    ]

pub shift_move : {V : Type 0} (old slots : List (Option (Kept V))) (gap from at free : ℕ) (e : Kept V) → IsShifted old slots gap from at free
    → from ≤ at → free < length slots
    → IsShifted old (set (set slots at None) free (Some e)) gap from (at + 1) at
shift_move old slots gap from at free e s le w = record {
  low = λ l. omega arith;
  passed = λ m a b n. stays slots free at m e w n (λ o. s.passed m a (omega arith) o);
  still = λ m t n. stays slots free at m e w n (λ o. s.still m t o);
  filled = λ n. stays slots free at gap e w n (λ o. s.filled o);
}

pub shift_keep : {V : Type 0} (old slots : List (Option (Kept V))) (gap from at free : ℕ) (e : Kept V) → IsShifted old slots gap from at free
    → slot_at slots at ≡ Some e
    → IsShifted old slots gap from (at + 1) free
shift_keep old slots gap from at free e s is = record {
  low = s.low;
  passed = λ m a b n. elim (same_nat m at) [
    | Yes q ↦ subst (λ (k : ℕ). is_taken (slot_at slots k) ≡ true) (sym q) (taken_of (slot_at slots at) e is)
    | No q ↦ s.passed m a (omega arith) n
  ];
  still = s.still;
  filled = s.filled;
}

-- the second way round ends at a free slot
pub round : {V : Type 0} (a b c : List (Option (Kept V))) (gap g n : ℕ) (r : Option ℕ) → length c ≡ n → length (gather c) + 1 < n
    → IsShifted a b gap (gap + 1) n g
    → (r ≡ None → IsSound c n) → ((k : ℕ) → r ≡ Some k → IsOpen c n k gap × IsShifted b c g 0 gap k) → IsSound c n
round a b c gap g n None len room p closed opened = closed refl
round a b c gap g n (Some k) len room p closed opened =
    let full = full_but c k (λ m l o. all_taken a b c gap n g k p (opened k refl).1 m (omega (arith, len)) o) in
    absurd (omega (arith, full, len, room))
