-- All journals that given ones may have been once.
use Rattle.std.specs.Prelude.{List, [], ◌∷◌, ◌++◌, map}
use Rattle.cbdc_model.specs.Records.{Record}

-- a journal and what it was before each of its records
abbrev pub ends_of : List Record → List (List Record)
ends_of [] = [] ∷ []
ends_of (r ∷ past) = (r ∷ past) ∷ ends_of past

-- each of these in front of each of those
abbrev pub each_before : List (List Record) → List (List (List Record)) → List (List (List Record))
each_before [] others = []
each_before (J ∷ Js) others = map (λ w. J ∷ w) others ++ each_before Js others

-- for each node some such journal
abbrev pub choices : List (List Record) → List (List (List Record))
choices [] = [] ∷ []
choices (J ∷ Js) = each_before (ends_of J) (choices Js)
