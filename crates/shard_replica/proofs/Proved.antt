-- The laws.
use Rattle.std.proofs.Common.{◌≡◌, ℕ, ◌+◌, ◌<◌, List, [], ◌∷◌, length, reverse, is_some, refl, sym, ap, ◌∙◌, subst, arith}
use Rattle.cbdc_model.specs.Records.{Shape}
use Rattle.cbdc_model.specs.Coins.{FullTx}
use Rattle.cbdc_model.specs.Clean.{IsProperCompact}
use Rattle.cbdc_model.specs.History.{Minted, minted, header_of}
use Rattle.cbdc_model.specs.World as model
use Rattle.ledger_laws.proofs.FirstWorld.{init_at, init_length}
use Rattle.ledger_laws.proofs.Recovery.{headline_law}
use Rattle.shard_replica.specs.Groups.{held, begun}
use Rattle.shard_replica.specs.Worlds.{Stands}
use Rattle.shard_replica.specs.Laws as laws
use Rattle.shard_replica.proofs.Sound.{Sound}
use Rattle.shard_replica.proofs.Beginning.{begun_sound, first_held}
use Rattle.shard_replica.proofs.Runs.{fronts, run_sound, run_later, answered_stands}
use Rattle.shard_replica.proofs.Standing.{beside}
use Rattle.shard_replica.proofs.Rounds.{round_reach}

pub replica_law : laws.ReplicaLaw
replica_law K m node backups records old new moves events g some stands b =
    let k = beside K m node moves (begun (header_of K m.id node) records backups) old events g new
    (record { sound = begun_sound (header_of K m.id node) records backups some; stands = stands; header = refl }) b in
    (k.0, k.1.stands, fronts g k.1.sound)

pub answered_law : laws.AnsweredLaw
answered_law h backups records early late g k some one two place lt =
    let s : Sound g = run_sound (begun h records backups) g early (begun_sound h records backups some) one in
    answered_stands g k s (run_later g k late s two) place lt

-- a group at its beginning stands for its node of the first world
first_stands : (K : Shape) (m : Minted) (submissions : List FullTx) (node backups : ℕ) → node < K.coordinators + K.shards
    → Stands node (begun (header_of K m.id node) (model.first_record K m node ∷ []) backups) (model.init K m)
first_stands K m submissions node backups lt =
    let here : model.node_at (model.init K m) node ≡ model.first_node K m node = init_at K m (IsProperCompact submissions) node lt in
    let l : length (model.init K m) ≡ K.coordinators + K.shards = init_length K m (IsProperCompact submissions) in
    record {
      in_world = omega arith;
      up = ap (λ v. v.up) here;
      journal = ap (λ v. model.flushed v.flight v.journal) here
          ∙ ap reverse (sym (first_held (header_of K m.id node) (model.first_record K m node ∷ []) backups));
      flying = ap (λ v. is_some v.flight) here;
    }

pub promoted_law : laws.PromotedLaw
promoted_law K mint submissions node backups moves events g w shards lanes lt clean pass b recovered =
    let first = model.first_record K (minted mint) node ∷ [] in
    let h = header_of K (minted mint).id node in
    let k = beside K (minted mint) node moves (begun h first backups) (model.init K (minted mint)) events g w
    (record { sound = begun_sound h first backups (omega arith); stands = first_stands K (minted mint) submissions node backups lt; header = refl })
    b in
    let stands = k.1.stands in (
      headline_law K mint submissions events w shards lanes clean pass k.0 recovered,
      subst (λ f. model.flushed f (model.journals w node) ≡ reverse (held g)) (recovered.quiet node stands.in_world) stands.journal,
    )

pub round_law : laws.RoundLaw
round_law h backups records r g some rest next = round_reach h backups records r some g rest next
