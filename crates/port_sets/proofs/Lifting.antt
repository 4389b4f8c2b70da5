-- What a call through a seat tells, by what the node's step gave.
use Rattle.std.proofs.Common.{◌≡◌, inl, inr, ℕ, ◌≤◌, Bool, true, false, List, [], ◌∷◌, ◌++◌, length, Option, Some, None, Result, Ok, Err, refl, sym}
use Rattle.std.proofs.Common.{ap, ◌∙◌, subst, arith}
use Rattle.cbdc_types.specs.declared.calls.NodeFault.{NodeFault}
use Rattle.cbdc_types.specs.declared.calls.NodeFault.TheVariants.{Broken, Refused as Refuses, ClockEnd, Full, DiskFault, Memory}
use Rattle.cbdc_model.specs.Records.{Header, Record, last_stamp}
use Rattle.cbdc_model.specs.After.{IsJournal}
use Rattle.cbdc_model.specs.Due.{Due, Writes, unless_broken}
use Rattle.cbdc_model.specs.Sights.{Sight, HasRisen, IsSameNode, Stays, Appends, Fails, Meets, AllMay, Finds as Found, IsBrokenSince, Told}
use Rattle.lane_driver.specs.Told.{IsStillNode}
use Rattle.node_lock.specs.declared.views.Hand.{Hand}
use Rattle.node_lock.specs.Tickets.{Called}
use Rattle.node_lock.specs.Viewing.{viewed}
use Rattle.node_ports.proofs.Stamps.{after_last}
use Rattle.port_sets.specs.Asking.{all_may}

-- ---- what came between

pub none_between : (lane : ℕ) (xs : List Record) → AllMay true lane xs → xs ≡ []
none_between lane [] h = refl
none_between lane (x ∷ xs) h = absurd (let z : false ≡ true = h.0 in cc)

-- a journal's stamps rise
pub ends_rise : (h : Header) (more old : List Record) → IsJournal h (more ++ old) → last_stamp old ≤ last_stamp (more ++ old)
ends_rise h [] old j = omega arith
ends_rise h (r ∷ []) [] j = omega arith
ends_rise h (r ∷ []) (q ∷ old) j = after_last h (q ∷ old) r j.0
ends_rise h (r ∷ (q ∷ more)) old j =
    let a = ends_rise h (q ∷ more) old j.1 in let b = after_last h (q ∷ (more ++ old)) r j.0 in omega (arith, a, b)

risen_more : (h s t g : ℕ) → h ≤ s → g ≡ t → HasRisen s t → HasRisen h g
risen_more h s t g le e r = grind (arith, le, e, r)

longer : (r : Record) (xs ys : List Record) → ys ≡ r ∷ xs → ys ≡ xs → ⊥
longer r xs ys a b = let e : length (r ∷ xs) ≡ length xs = ap {B = ℕ} length (sym a ∙ b) in absurd (omega (arith, e))

some_none : (r : Record) (x : Option Record) → x ≡ Some r → x ≡ None → ⊥
some_none r x a b = let z : Some r ≡ None = sym a ∙ b in cc

module _ (first s t : Sight) (h g : Hand) (called : Called first h s t g) where
  pub found_of : Found false h.lane h.seen s.seen
  found_of = record { more = called.finds.others; is = called.finds.list; between = all_may h.lane called.finds.others called.finds.other }

  abbrev old : Sight
  old = viewed first h

  abbrev new : Sight
  new = viewed first g

  fewer : h.faults ≤ g.faults
  fewer = let a = called.finds.before in let b = called.after in let c = called.faults in omega (arith, a, b, c)

  node : IsSameNode old new
  node = record { header = refl; opened = refl; capacity = refl; later = fewer }

  -- a record that the lane left in flight stays so, and nothing comes behind it
  pub still : IsStillNode old new
  still = record {
    header = refl;
    opened = refl;
    capacity = refl;
    later = fewer;
    flying = λ r is. let stuck = called.finds.stuck r is in elim called.made.1 [
      | inl a ↦ (a.3 ∙ is, called.seen ∙ (a.0 ∙ (called.finds.list ∙ ap (λ xs. xs ++ h.seen) stuck.1)))
      | inr bc ↦ elim bc [
        | inl b ↦ absurd (some_none r s.flight stuck.0 b.2)
        | inr c ↦ absurd (some_none r s.flight stuck.0 c.2)
      ]
    ];
  }

  -- ---- what was done, as the lane sees it

  pub stays : (found : List Record) → found ≡ s.seen → Stays s t found → Stays old new found
  stays found is k = record {
    node = node;
    seen = called.seen ∙ k.seen;
    flight = elim called.made.1 [
      | inl a ↦ a.3
      | inr bc ↦ elim bc [
        | inl b ↦ absurd (longer b.0 s.seen t.seen b.4 (k.seen ∙ is))
        | inr c ↦ absurd (some_none c.0 t.flight c.3 (k.flight ∙ c.2))
      ]
    ];
  }

  pub appends : (found : List Record) (r : Record) → found ≡ s.seen → Appends s t found r → Appends old new found r
  appends found r is k = record {
    node = node;
    seen = called.seen ∙ k.seen;
    flight = elim called.made.1 [
      | inl a ↦ absurd (longer r s.seen t.seen (k.seen ∙ ap (λ xs. r ∷ xs) is) a.0)
      | inr bc ↦ elim bc [
        | inl b ↦ b.6
        | inr c ↦ absurd (longer r s.seen t.seen (k.seen ∙ ap (λ xs. r ∷ xs) is) c.4)
      ]
    ];
  }

  pub fails : (found : List Record) (r : Record) → s.flight ≡ None → Fails s t found r → Fails old new found r
  fails found r none k = record {
    node = node;
    seen = called.seen ∙ k.seen;
    flight = elim called.made.1 [
      | inl a ↦ absurd (some_none r t.flight k.flight (a.1 ∙ none))
      | inr bc ↦ elim bc [
        | inl b ↦ absurd (some_none r t.flight k.flight b.3)
        | inr c ↦ c.6 ∙ (sym c.3 ∙ k.flight)
      ]
    ];
    rose = risen_more h.faults s.faults t.faults g.faults called.finds.before called.faults k.rose;
  }

  module _ {A : Type 0} (memory : Bool) (due : Due A) (found : List Record) (is : found ≡ s.seen)
      (quiet : (a : A) (r : Record) → due ≡ Writes a r → s.flight ≡ None) where
    pub meets : (result : Result A NodeFault) → Meets memory due s t found result → Meets memory due old new found result
    meets (Ok a) (inl (e, k)) = inl (e, stays found is k)
    meets (Ok a) (inr (r, e, k)) = inr (r, e, appends found r is k)
    meets (Err DiskFault) (a, r, e, k) = (a, r, e, fails found r (quiet a r e) k)
    meets (Err Memory) (e, k) = (e, stays found is k)
    meets (Err (Broken since)) (e, k) = (e, stays found is k)
    meets (Err (Refuses why)) (e, k) = (e, stays found is k)
    meets (Err (ClockEnd stamp)) (e, k) = (e, stays found is k)
    meets (Err (Full used need capacity)) (e, k) = (e, stays found is k)

  none_left : (x : Option Record) → h.left ≡ x → s.flight ≡ None → h.left ≡ None
  none_left None is none = is
  none_left (Some r) is none = absurd (some_none r s.flight (called.finds.stuck r is).0 none)

  -- what the lane is told
  pub lifted : {A : Type 0} (lane : ℕ) (memory : Bool) (due : Header → ℕ → Option ℕ → List Record → Due A) (result : Result A NodeFault)
      → h.lane ≡ lane → first.opened ≤ h.faults
      → ((b : Option ℕ) (J : List Record) (a : A) (r : Record) → due s.header s.capacity b J ≡ Writes a r → b ≡ None)
      → IsJournal s.header s.seen → Told true lane memory (due s.header s.capacity) s t result
      → Told false lane memory (due first.header first.capacity) old new result
  lifted lane memory due result mine since_opened whole journal told =
      let is : told.found ≡ s.seen = told.finds.is ∙ ap (λ xs. xs ++ s.seen) (none_between lane told.finds.more told.finds.between) in record {
        found = told.found;
        broken = told.broken;
        finds = subst (λ l. Found false l h.seen told.found) mine (subst (λ xs. Found false h.lane h.seen xs) (sym is) found_of);
        since = subst (λ n. IsBrokenSince n g.faults told.broken) called.found.opened
            (subst (λ n. IsBrokenSince s.opened n told.broken) (sym called.faults) told.since);
        whole = λ b. none_left h.left refl (told.whole b);
        unbroken = λ alone. absurd (let z : false ≡ true = alone in cc);
        since_opened = since_opened;
        order = told.order;
        later = subst (λ xs. last_stamp h.seen ≤ last_stamp xs) (sym is)
            (subst (λ xs. last_stamp h.seen ≤ last_stamp xs) (sym called.finds.list)
            (ends_rise s.header called.finds.others h.seen (subst (λ xs. IsJournal s.header xs) called.finds.list journal)));
        meets = subst (λ k. Meets memory (due k first.capacity told.broken told.found) old new told.found result) called.found.header
            (subst (λ n. Meets memory (due s.header n told.broken told.found) old new told.found result) called.found.capacity
            (meets memory (due s.header s.capacity told.broken told.found) told.found is (λ a r e. told.whole (whole told.broken told.found a r e))
            result told.meets));
      }

pub writes_whole : {A : Type 0} (broken : Option ℕ) (due : Due A) (a : A) (r : Record) → unless_broken broken due ≡ Writes a r → broken ≡ None
writes_whole None due a r e = refl
writes_whole (Some since) due a r e = cc
