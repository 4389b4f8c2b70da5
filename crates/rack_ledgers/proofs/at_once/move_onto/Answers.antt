use Rattle.std.proofs.Common.{◌≡◌, ◌∷◌, ◌++◌, [], List, length, reverse, refl, sym, ◌∙◌, ap, subst, arith, length-append, append-nil, append_assoc}
use Rattle.std.proofs.lemmas.List.{nil_from_length, reverse-append}
use Rattle.rack_ledgers.specs.declared.slots.Slot.{Slot}
use Rattle.rack_ledgers.specs.declared.slots.Slot.TheVariants as slots
use Rattle.rack_ledgers.specs.Slots.{nodes_in, AreNodesOpen}
use Rattle.rack_ledgers.proofs.at_once.move_onto.Goals as goal

-- the last place is the first of the list turned round
turned : {D N : Type 0} (old rest : List (Slot D N)) (slot : Slot D N) (node : N) → old ≡ rest ++ slot ∷ [] → slot ≡ slots.Opened node
    → reverse old ≡ slots.Opened node ∷ reverse rest
turned old rest slot node whole is = ap reverse whole ∙ reverse-append rest (slot ∷ []) ∙ ap (λ (s : Slot _ _). s ∷ reverse rest) is

open_rest : {D N : Type 0} (old rest : List (Slot D N)) (slot : Slot D N) (node : N) → old ≡ rest ++ slot ∷ [] → slot ≡ slots.Opened node
    → AreNodesOpen (reverse old) → AreNodesOpen (reverse rest)
open_rest old rest slot node whole is opened = subst (λ (l : List (Slot _ _)). AreNodesOpen l) (turned old rest slot node whole is) opened

nodes_of : {D N : Type 0} (old rest : List (Slot D N)) (slot : Slot D N) (node : N) → old ≡ rest ++ slot ∷ [] → slot ≡ slots.Opened node
    → nodes_in (reverse old) ≡ node ∷ nodes_in (reverse rest)
nodes_of old rest slot node whole is = ap (λ (l : List (Slot _ _)). nodes_in l) (turned old rest slot node whole is)

-- one node has gone from there to here
moved : {N : Type 0} (here more there rest : List N) (node : N) → more ≡ here ++ node ∷ [] → there ≡ node ∷ rest → more ++ rest ≡ here ++ there
moved here more there rest node is from = ap (λ (l : List _). l ++ rest) is ∙ append_assoc here (node ∷ []) rest
    ∙ ap (λ (l : List _). here ++ l) (sym from)

pub slots-preserved : goal.slots-preserved
slots-preserved g c =
    let whole = c.in-Some.ensures.items in
    let one = length-append c.pop.new.self.items (c.in-Some.slot ∷ []) in
    let more = length-append c.slots.nodes.items (c.in-Opened.node ∷ []) in
    record {
      opened = open_rest c.slots.slots.items c.pop.new.self.items c.in-Some.slot c.in-Opened.node whole c.in-Opened.is c.slots.invariant.opened;
      room = omega (
        arith,
        ap length whole,
        one,
        ap length c.push_reserved.ensures.items,
        more,
        c.push_reserved.ensures.capacity,
        c.slots.invariant.room,
      );
      moved = moved c.slots.nodes.items c.push_reserved.new.self.items (nodes_in (reverse c.slots.slots.items))
          (nodes_in (reverse c.pop.new.self.items)) c.in-Opened.node c.push_reserved.ensures.items
          (nodes_of c.slots.slots.items c.pop.new.self.items c.in-Some.slot c.in-Opened.node whole c.in-Opened.is)
          ∙ c.slots.invariant.moved;
    }

pub returns : goal.returns
returns g c =
    let none : c.slots.slots.items ≡ [] = nil_from_length c.slots.slots.items (omega (arith, c.in_default.ensures.cases.0, c.slots.slots.ok)) in
    sym (append-nil c.slots.nodes.items) ∙ ap (λ (l : List (Slot g.row.D.Denot g.row.N.Denot)). c.slots.nodes.items ++ nodes_in (reverse l))
    (sym none) ∙ c.slots.invariant.moved

pub push_reserved-requires : goal.push_reserved-requires
push_reserved-requires g c = omega (
  arith,
  c.slots.nodes.ok,
  c.slots.invariant.room,
  ap length c.in-Some.ensures.items,
  length-append c.pop.new.self.items (c.in-Some.slot ∷ []),
)

-- each place has an open node, so the last one is no other
not_other : {D N : Type 0} (old rest : List (Slot D N)) (slot : Slot D N) → old ≡ rest ++ slot ∷ [] → AreNodesOpen (reverse old)
    → ((node : N) → slot ≡ slots.Opened node → ⊥) → ⊥
not_other old rest (slots.Opened node) whole opened none = none node refl
not_other old rest (slots.Waiting n d) whole opened none =
    subst (λ (l : List (Slot _ _)). AreNodesOpen l) (ap reverse whole ∙ reverse-append rest (slots.Waiting n d ∷ [])) opened
not_other old rest (slots.Refused d e) whole opened none =
    subst (λ (l : List (Slot _ _)). AreNodesOpen l) (ap reverse whole ∙ reverse-append rest (slots.Refused d e ∷ [])) opened
not_other old rest slots.Gone whole opened none =
    subst (λ (l : List (Slot _ _)). AreNodesOpen l) (ap reverse whole ∙ reverse-append rest (slots.Gone ∷ [])) opened

pub unreachable-requires : goal.unreachable-requires
unreachable-requires g c = not_other c.slots.slots.items c.pop.new.self.items c.in-Some.slot c.in-Some.ensures.items c.slots.invariant.opened
    c.in_default-slot.not-Opened
