-- A group stays sound whatever happens, and what was answered stands.
use Rattle.std.proofs.Common.{◌≡◌, inl, inr, ℕ, ◌<◌, ◌≤◌, not, ◌==◌, List, [], ◌∷◌, ◌++◌, length, take, drop, take-append-drop, Some, slice_get, refl}
use Rattle.std.proofs.Common.{sym, ap, ◌∙◌, subst, arith}
use Rattle.std.proofs.lemmas.List.{take-append-le}
use Rattle.std.proofs.lemmas.Option.{slice_get_cases}
use Rattle.std.proofs.lemmas.Bool.{and_parts}
use Rattle.cbdc_model.specs.Records.{Record}
use Rattle.shard_replica.specs.declared.packets.Packet.{Packet}
use Rattle.shard_replica.specs.declared.packets.GroupEvent.{GroupEvent}
use Rattle.shard_replica.specs.declared.packets.GroupEvent.TheVariants.{Take, Send, Deliver, Answer, Promote}
use Rattle.shard_replica.specs.Groups.{Group, member_at, held}
use Rattle.shard_replica.specs.Steps.{Allowed, delivered, effect, Step, Run}
use Rattle.shard_replica.specs.Laws.{AreFronts}
use Rattle.shard_replica.proofs.Lists.{all_got, front_less, get_take}
use Rattle.shard_replica.proofs.Sound.{IsSent, Sound}
use Rattle.shard_replica.proofs.Comings.{take_sound, take_held, send_sound, came_sound, came_held}
use Rattle.shard_replica.proofs.Answers.{answer_sound}
use Rattle.shard_replica.proofs.Promotions.{promote_sound, own_holds, led_held}

-- a packet that was sent
abbrev Sent : Group → Packet → Type 0
Sent g p = IsSent g.answered g.term g.flying (held g) (member_at g) p

pub effect_sound : (g : Group) (e : GroupEvent) → Sound g → Allowed g e → Sound (effect g e)
effect_sound g (Take r) s a = take_sound g s r a.0
effect_sound g (Send to place) s a = send_sound g s to place
effect_sound g (Deliver which) s a =
    subst (λ p. Sound (delivered g p)) (sym a.1) (came_sound g s a.0 (all_got (Sent g) g.sent which a.0 s.packets a.1) a.2)
effect_sound g Answer s a = answer_sound g s a
effect_sound g (Promote b) s a = promote_sound g s b a.0 a.1

-- what stays of a group, whatever happens
pub record Later (g k : Group) : Type 0 where
  pub header : k.header ≡ g.header
  pub answered : g.answered ≤ k.answered
  pub stands : take g.answered (held k) ≡ take g.answered (held g)

pub effect_later : (g : Group) (e : GroupEvent) → Sound g → Allowed g e → Later g (effect g e)
effect_later g (Take r) s a = record {
  header = refl;
  answered = omega arith;
  stands = ap (take g.answered) (take_held g s r a.0) ∙ take-append-le g.answered (held g) (r ∷ []) s.within;
}
effect_later g (Send to place) s a = record { header = refl; answered = omega arith; stands = refl }
effect_later g (Deliver which) s a =
    let k = came_held g s a.0 (all_got (Sent g) g.sent which a.0 s.packets a.1) a.2 in
    subst (λ p. Later g (delivered g p)) (sym a.1)
    (record { header = k.3; answered = omega (arith, k.2); stands = ap (take g.answered) k.0 })
effect_later g Answer s a = record { header = refl; answered = s.within; stands = refl }
effect_later g (Promote b) s a = record {
  header = refl;
  answered = omega arith;
  stands = ap (take g.answered) (led_held g s b a.0 a.1) ∙ (own_holds g s b a.0 a.1).same;
}

pub step_sound : (g k : Group) (e : GroupEvent) → Sound g → Step g e k → Sound k
step_sound g k e s (inl step) = subst (λ x. Sound x) (sym step.1) (effect_sound g e s step.0)
step_sound g k e s (inr none) = subst (λ x. Sound x) (sym none.1) s

same_later : (g : Group) → Later g g
same_later g = record { header = refl; answered = omega arith; stands = refl }

pub step_later : (g k : Group) (e : GroupEvent) → Sound g → Step g e k → Later g k
step_later g k e s (inl step) = subst (λ x. Later g x) (sym step.1) (effect_later g e s step.0)
step_later g k e s (inr none) = subst (λ x. Later g x) (sym none.1) (same_later g)

both_later : (g k l : Group) → Later g k → Later k l → Later g l
both_later g k l one two = record {
  header = two.header ∙ one.header;
  answered = omega (arith, one.answered, two.answered);
  stands = front_less (held l) (held k) g.answered k.answered one.answered two.stands ∙ one.stands;
}

pub run_sound : (g k : Group) (events : List GroupEvent) → Sound g → Run g events k → Sound k
run_sound g k [] s run = subst (λ x. Sound x) (sym run) s
run_sound g k (e ∷ es) s run = run_sound run.0 k es (step_sound g run.0 e s run.1) run.2

pub run_later : (g k : Group) (events : List GroupEvent) → Sound g → Run g events k → Later g k
run_later g k [] s run = subst (λ x. Later g x) (sym run) (same_later g)
run_later g k (e ∷ es) s run =
    both_later g run.0 k (step_later g run.0 e s run.1) (run_later run.0 k es (step_sound g run.0 e s run.1) run.2)

-- each backup of the term holds a front
pub fronts : (g : Group) → Sound g → AreFronts g
fronts g s b is own_term =
    let front = (s.members b (and_parts (member_at g b).inside (not (b == g.primary)) is).0).front own_term in (
      drop (length (member_at g b).records) (held g),
      ap (λ xs. xs ++ drop (length (member_at g b).records) (held g)) front ∙ take-append-drop (length (member_at g b).records) (held g),
    )

-- what was answered stands at its place later
pub answered_stands : (g k : Group) → Sound g → Later g k → (place : ℕ) → place < g.answered
    → (r : Record) × (slice_get (held g) place ≡ Some r) × (slice_get (held k) place ≡ Some r)
answered_stands g k s later place lt = elim (slice_get_cases (held g) place).1 [
  | inl here ↦ (
    here.0,
    here.2,
    sym (get_take g.answered (held k) place lt) ∙ ap (λ xs. slice_get xs place) later.stands ∙ get_take g.answered (held g) place lt ∙ here.2,
  )
  | inr past ↦ absurd (omega (arith, past.0, s.within))
]
