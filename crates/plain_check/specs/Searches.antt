-- What the plain program finds on its way: a place among batches, and hashes without those that stand again.
use Rattle.std.specs.Prelude.{List, [], Option, Some, ◌∷◌, if◌then◌else◌}
use Rattle.cbdc_model.specs.Records.{Digest}
use Rattle.cbdc_model.specs.Places.{PlaceIn, Sized, place_of}
use Rattle.plain_check.specs.declared.deciding.Search.{Search}
use Rattle.plain_check.specs.declared.deciding.Search.TheVariants.{Found, Past}
use Rattle.cbdc_model.specs.Status.{has}

-- of a search among the batches before others: the place that was found, or one among the others
abbrev pub place_by : Search → List Sized → Option PlaceIn
place_by (Found batch at) others = Some (record { batch = batch; at = at })
place_by (Past rest) others = place_of others rest

-- a list without those that stand again behind
abbrev pub last_ones : List Digest → List Digest
last_ones [] = []
last_ones (x ∷ xs) = if has xs x then last_ones xs else x ∷ last_ones xs
