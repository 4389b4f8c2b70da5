-- The memory of open batches, taken from the end as they are taken up.
use Rattle.std.proofs.Common.{◌≡◌, ℕ, ◌+◌, ◌<◌, List, [], ◌∷◌, ◌++◌, length, get_or, take, drop, reverse, sym, ap, ◌∙◌, subst}
use Rattle.std.specs.List.{AllZip}
use Rattle.std.proofs.lemmas.List.{reverse-append, take_more}
use Rattle.std.proofs.lemmas.Slice.Zip.{all_zipped_more}
use Rattle.cbdc_types.specs.declared.batch.OpenLane.{OpenLane}
use Rattle.cbdc_model.specs.Records.{Shape}
use Rattle.recovery.specs.declared.planning.LaneRoom.{LaneRoom}
use Rattle.recovery.specs.Planned.{IsRoomToResume}
use Rattle.recovery.proofs.Rest.{split_rest}

module _ (K : Shape) (os : List OpenLane) (i : ℕ) (o : OpenLane) (lt : i < length os) (is : o ≡ get_or os i o) where
  -- the last one is that of the batch that is next
  last_two : (rooms less : List LaneRoom) (r : LaneRoom) → rooms ≡ less ++ r ∷ [] → AllZip (IsRoomToResume K) (drop i os) (reverse rooms)
      → AllZip (IsRoomToResume K) (o ∷ drop (i + 1) os) (r ∷ reverse less)
  last_two rooms less r e each =
      subst (λ xs. AllZip (IsRoomToResume K) xs (r ∷ reverse less)) (split_rest os i o lt is)
      (subst (λ rs. AllZip (IsRoomToResume K) (drop i os) rs) (ap reverse e ∙ reverse-append less (r ∷ [])) each)

  pub room_here : (rooms less : List LaneRoom) (r : LaneRoom) → rooms ≡ less ++ r ∷ [] → AllZip (IsRoomToResume K) (drop i os) (reverse rooms)
      → IsRoomToResume K o r
  room_here rooms less r e each = (last_two rooms less r e each).0

  pub rooms_less : (rooms less : List LaneRoom) (r : LaneRoom) → rooms ≡ less ++ r ∷ [] → AllZip (IsRoomToResume K) (drop i os) (reverse rooms)
      → AllZip (IsRoomToResume K) (drop (i + 1) os) (reverse less)
  rooms_less rooms less r e each = (last_two rooms less r e each).1

  -- the memory of one more
  pub rooms_more : (rooms : List LaneRoom) (r : LaneRoom) → AllZip (IsRoomToResume K) (take i os) rooms → IsRoomToResume K o r
      → AllZip (IsRoomToResume K) (take (i + 1) os) (rooms ++ r ∷ [])
  rooms_more rooms r so here =
      subst (λ xs. AllZip (IsRoomToResume K) xs (rooms ++ r ∷ [])) (sym (take_more os i o lt))
      (all_zipped_more (IsRoomToResume K) (take i os) rooms (get_or os i o) r so (subst (λ x. IsRoomToResume K x r) is here))
