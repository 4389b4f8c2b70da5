-- A lane's turn on the nodes' own journals, and that it keeps them.
use Rattle.std.proofs.Common.{◌≡◌, ◌≢◌, ℕ, ◌-◌, ◌<◌, Bool, true, false, ◌||◌, not, ◌==◌, nat_lt, if◌then◌else◌, List, [], refl, sym, ap, ◌∙◌, arith}
use Rattle.cbdc_model.specs.Records.{Shape, Compact}
use Rattle.cbdc_model.specs.Ranges.{home_of}
use Rattle.cbdc_model.specs.History.{Minted, minted}
use Rattle.cbdc_model.specs.Lanes.{Made, NextFrom, Wave}
use Rattle.cbdc_model.specs.Sights.{Sight}
use Rattle.lane_laws.specs.Batches.{view}
use Rattle.ledger_laws.proofs.Turns.{made_lift, turns_begin, turns_next, in_lanes_begin, in_lanes_next, turns_wave}
use Rattle.ledger_laws.proofs.LaneLaws.{wave_law}
use Rattle.ledger_laws.proofs.Together.{wave_keeps}
use Rattle.run_laws.specs.Runs.{seen_by, IsTurn, TurnLaw, CheckedTurnLaw}
use Rattle.run_laws.proofs.Checked.{Any, any_txs, to_lists, to_checked}

-- the lane sees its coordinator and the shards
abbrev pub sees : Shape → ℕ → ℕ → Bool
sees K lane n = (home_of K lane == n) || not (nat_lt n K.coordinators)

-- what it sees of a node is the node's journal
pub seen_view : (K : Shape) (lane : ℕ) (logs shards : ℕ → Sight) (n : ℕ) → home_of K lane < K.coordinators → sees K lane n ≡ true
    → seen_by K logs shards n ≡ view K lane (logs (home_of K lane)) shards n
seen_view K lane logs shards n home s =
    elim (home_of K lane == n) as (λ t. (home_of K lane == n) ≡ t
    → seen_by K logs shards n ≡ (if t then (logs (home_of K lane)).seen
    else (if nat_lt n K.coordinators then [] else (shards (n - K.coordinators)).seen))) [
      | true ↦ λ t. at_home (is_same t)
      | false ↦ λ t. elsewhere (beyond t)
    ] refl
  where
    is_same : (home_of K lane == n) ≡ true → home_of K lane ≡ n
    is_same t = grind (arith, t)

    beyond : (home_of K lane == n) ≡ false → nat_lt n K.coordinators ≡ false
    beyond t = grind (arith, t, s)

    low : home_of K lane ≡ n → nat_lt n K.coordinators ≡ true
    low e = grind (arith, e, home)

    at_home : home_of K lane ≡ n → seen_by K logs shards n ≡ (logs (home_of K lane)).seen
    at_home e = ap (λ t. if t then (logs n).seen else (shards (n - K.coordinators)).seen) (low e) ∙ ap (λ m. (logs m).seen) (sym e)

    elsewhere : nat_lt n K.coordinators ≡ false → seen_by K logs shards n
        ≡ (if nat_lt n K.coordinators then [] else (shards (n - K.coordinators)).seen)
    elsewhere e = ap (λ t. if t then (logs n).seen else (shards (n - K.coordinators)).seen) e
        ∙ sym (ap (λ t. if t then [] else (shards (n - K.coordinators)).seen) e)

module _ (K : Shape) (pieces : List (List Compact)) (lane : ℕ) (logs shards logs' shards' : ℕ → Sight) (home : home_of K lane < K.coordinators)
    (turn : IsTurn K pieces lane logs shards logs' shards') where
  unseen : (n : ℕ) → sees K lane n ≡ false
      → (view K lane (logs' (home_of K lane)) shards' n ≡ []) × (seen_by K logs' shards' n ≡ seen_by K logs shards n)
  unseen n s =
      let other : (home_of K lane == n) ≡ false = grind (arith, s) in
      let low : nat_lt n K.coordinators ≡ true = grind (arith, s) in
      let apart : n ≢ home_of K lane = λ e. apart_of other e in (
        ap (λ t. if t then (logs' (home_of K lane)).seen else (if nat_lt n K.coordinators then [] else (shards' (n - K.coordinators)).seen)) other
            ∙ ap (λ t. if t then [] else (shards' (n - K.coordinators)).seen) low,
        ap (λ t. if t then (logs' n).seen else (shards' (n - K.coordinators)).seen) low
            ∙ ap (λ g. g.seen) (turn.others n apart)
            ∙ sym (ap (λ t. if t then (logs n).seen else (shards (n - K.coordinators)).seen) low),
      )
    where
      apart_of : (home_of K lane == n) ≡ false → n ≡ home_of K lane → ⊥
      apart_of t e = grind (arith, t, e)

  -- the lane made it of all journals
  pub lifted : Made K pieces true lane (seen_by K logs shards) (seen_by K logs' shards')
  lifted = made_lift K pieces true lane (sees K lane)
      (view K lane (logs (home_of K lane)) shards) (view K lane (logs' (home_of K lane)) shards') (seen_by K logs shards) (seen_by K logs' shards')
      (λ n s. (seen_view K lane logs shards n home s, seen_view K lane logs' shards' n home s)) unseen turn.made

  -- so a turn is a wave of one lane
  pub one_wave : (m : Minted) → NextFrom K m (seen_by K logs shards) (seen_by K logs' shards')
      → Wave K m (λ l. pieces) (seen_by K logs shards) (seen_by K logs' shards')
  one_wave m next = turns_wave K m (λ l. pieces) (seen_by K logs shards) (seen_by K logs' shards') next
      (in_lanes_next K (seen_by K logs shards) (seen_by K logs shards) (seen_by K logs' shards') lane pieces (in_lanes_begin (seen_by K logs shards))
      lifted)
      (turns_next K (λ l. pieces) (seen_by K logs shards) (seen_by K logs shards) (seen_by K logs' shards') lane pieces (λ txs h. h)
      (turns_begin K (λ l. pieces) (seen_by K logs shards)) lifted)

pub turn_law : TurnLaw
turn_law K mint submissions pieces lane logs shards logs' shards' some home pass kept turn next =
    wave_law K mint submissions (λ l. pieces) (seen_by K logs shards) (seen_by K logs' shards') some (λ l. pass) kept
    (one_wave K pieces lane logs shards logs' shards' home turn (minted mint) next)

pub checked_turn_law : CheckedTurnLaw
checked_turn_law K m pieces lane logs shards logs' shards' some home checked turn next =
    to_checked K m (seen_by K logs' shards') some
    (wave_keeps K m Any some (λ l. pieces) (λ l txs h. any_txs txs) (seen_by K logs shards) (seen_by K logs' shards')
    (to_lists K m (seen_by K logs shards) some checked) (one_wave K pieces lane logs shards logs' shards' home turn m next))
