-- What a seat knows, what a call or a look tells it, and what is known of a node that was given back.
use Rattle.std.specs.Prelude.{◌≡◌, ℕ, eqb, Bool, true, false, ◌+◌, ◌<◌, ◌≤◌, List, [], ◌∷◌, ◌++◌, Option, Some, None, ◌⊎◌}
use Rattle.cbdc_model.specs.Records.{Record, is_in_lane}
use Rattle.cbdc_model.specs.Sights.{Sight}
use Rattle.node_lock.specs.declared.views.Hand.{Hand}
use Rattle.node_lock.specs.Moving.{of_lane, Same}

-- f of each, added up
abbrev pub total : {A : Type 0} → (A → ℕ) → List A → ℕ
total f [] = 0
total f (x ∷ xs) = f x + total f xs

-- 1 where it is so, else 0
abbrev pub one_if : Bool → ℕ
one_if true = 1
one_if false = 0

-- 1 where the two numbers are the same, else 0
abbrev pub is_at : ℕ → ℕ → ℕ
is_at x y = one_if (eqb x y)

-- how often a number stands in a list
abbrev pub times : ℕ → List ℕ → ℕ
times x xs = total (is_at x) xs

-- what the seat of the lane l knows: the journal xs and n faults of the disk it has seen, `made` it has written, and `left` it has left in flight
abbrev pub hand : ℕ → List Record → ℕ → List Record → Option Record → Hand
hand l xs n made left = record { lane = l; seen = xs; faults = n; made = made; left = left }

-- whether a hand is of the lane x
abbrev pub hand_at_lane : ℕ → Hand → ℕ
hand_at_lane x h = is_at x h.lane

-- a hand that has seen the node, and made nothing
abbrev pub fresh : Sight → ℕ → Hand
fresh first l = hand l first.seen first.faults [] None

-- the hand, once it has seen all of the node
abbrev pub sees : Sight → Hand → Hand
sees s h = hand h.lane s.seen s.faults h.made h.left

-- what a hand finds at a node: the journal that it had seen, and records of other lanes behind it; no fewer faults; and what it left in flight is so
-- still, with nothing behind it
pub record HandFinds (h : Hand) (s : Sight) : Type 0 where
  pub others : List Record
  pub list : s.seen ≡ others ++ h.seen
  pub other : of_lane h.lane others ≡ []
  pub before : h.faults ≤ s.faults
  pub stuck : (r : Record) → h.left ≡ Some r → (s.flight ≡ Some r) × (others ≡ [])

-- what a call made of the node and of its seat's hand: nothing; or a record of the lane was written, and the hand made it; or one was left in flight,
-- and the hand knows it. Where a record is in flight, nothing is made
abbrev pub HandMade : Sight → Hand → Sight → Hand → Type 0
HandMade s h t g = (g.lane ≡ h.lane) × (
    ((t.seen ≡ s.seen) × (t.flight ≡ s.flight) × (g.made ≡ h.made) × (g.left ≡ h.left))
    ⊎ (((r : Record) × (is_in_lane h.lane r ≡ true) × (s.flight ≡ None) × (t.flight ≡ None) × (t.seen ≡ r ∷ s.seen) × (g.made ≡ r ∷ h.made)
    × (g.left ≡ h.left))
    ⊎ ((r : Record) × (is_in_lane h.lane r ≡ true) × (s.flight ≡ None) × (t.flight ≡ Some r) × (t.seen ≡ s.seen) × (g.made ≡ h.made)
    × (g.left ≡ Some r))))

-- What a call tells its seat, whose hand was h and is g. The call went from s to t; `first` is the node at the opening
pub record Called (first : Sight) (h : Hand) (s t : Sight) (g : Hand) : Type 0 where
  pub finds : HandFinds h s
  pub after : s.faults ≤ t.faults
  pub found : Same first s
  pub kept : Same first t
  pub seen : g.seen ≡ t.seen
  pub faults : g.faults ≡ t.faults
  pub made : HandMade s h t g

-- What a look at s tells its seat, whose hand was h and is g: it has seen all of s, and has made and left what it had
pub record Looked (first : Sight) (h : Hand) (s : Sight) (g : Hand) : Type 0 where
  pub finds : HandFinds h s
  pub found : Same first s
  pub now : g ≡ sees s h

-- What a hand knows of a journal that is `log` behind the list `start`: what it has seen is a beginning of that; of the records of its lane in the
-- log it made each, once and in this order, and has seen them; and what it left in flight is so still, with nothing behind it
pub record HandOk (start : List Record) (log : List Record) (flight : Option Record) (faults : ℕ) (h : Hand) : Type 0 where
  pub front : List Record
  pub rest : List Record
  pub seen_is : h.seen ≡ front ++ start
  pub log_is : log ≡ rest ++ front
  pub made_is : of_lane h.lane log ≡ h.made
  pub own : of_lane h.lane rest ≡ []
  pub below : h.faults ≤ faults
  pub stuck : (r : Record) → h.left ≡ Some r → (flight ≡ Some r) × (rest ≡ [])

-- each of these hands knows so of the journal (`HandOk`)
abbrev pub AllHands : List Record → List Record → Option Record → ℕ → List Hand → Type 0
AllHands start log flight faults [] = Unit {0}
AllHands start log flight faults (h ∷ hs) = HandOk start log flight faults h × AllHands start log flight faults hs

-- some hand left the record in flight, and has seen the whole journal
abbrev pub HasLeft : List Record → Option Record → List Hand → Type 0
HasLeft whole flight [] = ⊥
HasLeft whole flight (h ∷ hs) = ((h.left ≡ flight) × (h.seen ≡ whole)) ⊎ HasLeft whole flight hs

-- each record is of one of the lanes
abbrev pub AllDrawn : List ℕ → List Record → Type 0
AllDrawn lanes [] = Unit {0}
AllDrawn lanes (r ∷ rs) = ((l : ℕ) × (is_in_lane l r ≡ true) × (0 < times l lanes)) × AllDrawn lanes rs

-- what is known of a node that was given back: its journal is the opening one and records of the seats' lanes, there is a hand for each lane, and
-- each knows what it says; what is in flight was so at the opening, and nothing was written since, or some hand left it
pub record Done (first : Sight) (lanes : List ℕ) (hs : List Hand) (last : Sight) : Type 0 where
  pub log : List Record
  pub list : last.seen ≡ log ++ first.seen
  pub drawn : AllDrawn lanes log
  pub cover : (x : ℕ) → total (hand_at_lane x) hs ≡ times x lanes
  pub hands : AllHands first.seen log last.flight last.faults hs
  pub flight : (last.flight ≡ None) ⊎ (((last.flight ≡ first.flight) × (log ≡ [])) ⊎ HasLeft last.seen last.flight hs)
