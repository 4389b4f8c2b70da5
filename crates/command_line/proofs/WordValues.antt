-- The values that rows have under an id, and what a use of an argument adds.
use Rattle.std.proofs.Common.{◌≡◌, ◌∙◌, ◌⊎◌, ◌++◌, ◌&&◌, Bool, true, false, cond, List, [], ◌∷◌, length, Option, Some, None, append-nil, inl, inr}
use Rattle.std.proofs.Common.{refl, sym, ap, subst, true≢false}
use Rattle.std.specs.Prelude.{is_some}
use Rattle.std.specs.List.{AllByRecursion, fold}
use Rattle.std.specs.Option.{option_map, option_map_or}
use Rattle.std.specs.Str.{bytes_eq}
use Rattle.std.proofs.lemmas.Slice.Eq.{bytes_eq-Decides}
use Rattle.clap.specs.Kinds.{Kinds, or_else, range_kinds}
use Rattle.clap.specs.Walk.{Held, Row, Rule, Text, action_of, arg_by_id, default_rows, has_row, most_values, reading_by, settled_rows, used, used_as}
use Rattle.clap.specs.Walk.{used_by_id, values_or_missing, with_default, with_values, without}
use Rattle.clap.specs.Facts.{unwrap_or_range}
use Rattle.clap.specs.Faults.{action_fault, repeat_fault, use_fault, values_fault}
use Rattle.clap.specs.Words.{all_of}
use Rattle.clap.specs.declared.builder.action.ArgAction.{ArgAction}
use Rattle.clap.specs.declared.builder.action.ArgAction.TheVariants.{Set, Append}
use Rattle.clap.specs.declared.builder.value_parser.Reading.{Reading}
use Rattle.clap.specs.declared.error.kind.ErrorKind.TheVariants.{ArgumentConflict}
use Rattle.clap.specs.declared.parser.matches.ValueSource.{ValueSource}
use Rattle.clap.specs.declared.parser.matches.ValueSource.TheVariants.{CommandLine, DefaultValue}
use Rattle.command_line.specs.Asked.{names_or_none}

-- ---- lists of kinds

pub or_else-nil : (a b : Kinds) → or_else a b ≡ [] → (a ≡ []) × (b ≡ [])
or_else-nil [] b e = (refl, e)
or_else-nil (k ∷ ks) b e = absurd (cc)

pub none≢some : {X : Type 0} (x : X) → None ≡ Some x → ⊥
none≢some x e = true≢false (sym (ap is_some e))

-- ---- rows

abbrev pub values : Text → List Row → List Text
values id rows = names_or_none (all_of id rows)

pub same_text : (a b : Text) → bytes_eq a b ≡ true → a ≡ b
same_text a b e = (bytes_eq-Decides a b).0 e

pub itself : (a : Text) → bytes_eq a a ≡ true
itself a = (bytes_eq-Decides a a).1 refl

module _ (id other : Text) (how : Reading) (source : ValueSource) (vs : List Text) where
  abbrev new : Row
  new = record { id = other; values = vs; count = None; source = Some source; reading = how }

  abbrev joined : List Row → List Row
  joined rows = with_values other how source vs rows

  -- values that join those of one id
  pub values-more : (rows : List Row) → values id (with_values other how source vs rows) ≡ values id rows ++ cond (bytes_eq other id) vs []
  values-more [] = first (bytes_eq other id)
    where
      first : (b : Bool) → names_or_none (option_map (λ (r : Row). r.values) (cond b (Some new) None)) ≡ [] ++ cond b vs []
      first true = refl
      first false = refl
  values-more (r ∷ rs) = step (bytes_eq r.id other) refl (bytes_eq r.id id) refl (values-more rs)
    where
      step : (a : Bool) → bytes_eq r.id other ≡ a → (b : Bool) → bytes_eq r.id id ≡ b
          → values id (joined rs) ≡ values id rs ++ cond (bytes_eq other id) vs []
          → values id (joined (r ∷ rs)) ≡ values id (r ∷ rs) ++ cond (bytes_eq other id) vs []
      step true e true f rest =
          let here : bytes_eq other id ≡ true = ap (λ t. bytes_eq t id) (sym (same_text r.id other e)) ∙ f in
          rw (e, f, here) refl
      step true e false f rest =
          let here : bytes_eq other id ≡ false = ap (λ t. bytes_eq t id) (sym (same_text r.id other e)) ∙ f in
          rw (e, f, here) (sym (append-nil (values id rs)))
      step false e true f rest =
          let here : bytes_eq other id ≡ false = apart (bytes_eq other id) refl in
          rw (e, f, here) (sym (append-nil r.values))
        where
          apart : (c : Bool) → bytes_eq other id ≡ c → bytes_eq other id ≡ false
          apart true g = absurd (true≢false (sym (ap (λ t. bytes_eq t other) (same_text r.id id f ∙ sym (same_text other id g)) ∙ itself other) ∙ e))
          apart false g = g
      step false e false f rest = rw (e, f) rest

-- no row of the id is there to go
pub without-none : (id : Text) (rows : List Row) → has_row id rows ≡ false → without id rows ≡ rows
without-none id [] none = refl
without-none id (r ∷ rs) none = step (bytes_eq r.id id) refl (λ rest. without-none id rs rest)
  where
    step : (b : Bool) → bytes_eq r.id id ≡ b → (has_row id rs ≡ false → without id rs ≡ rs) → without id (r ∷ rs) ≡ r ∷ rs
    step true e more = let has : has_row id (r ∷ rs) ≡ true = rw e refl in absurd (true≢false (sym has ∙ none))
    step false e more = let rest : has_row id rs ≡ false = rw e at none in rw e (ap (λ l. r ∷ l) (more rest))

-- ---- uses

-- an argument that is given values
pub record IsTaken (a : Rule) : Type 0 where
  pub action : (action_of a ≡ Set) ⊎ (action_of a ≡ Append)
  pub missing : a.missing ≡ []

given : (a : Rule) (vs : List Text) → a.missing ≡ [] → values_or_missing a vs ≡ vs
given a [] none = none
given a (v ∷ vs) none = refl

no_repeat : (b : Bool) → (cond (b && true) (ArgumentConflict ∷ []) []) ≡ [] → b ≡ false
no_repeat true e = absurd (cc)
no_repeat false e = refl

pub used-values : (id : Text) (a : Rule) (vs : List Text) (rows : List Row) → IsTaken a → use_fault false a vs rows ≡ []
    → values id (used a vs rows) ≡ values id rows ++ cond (bytes_eq a.id id) vs []
used-values id a vs rows is sound = go is.action
  where
    again : action_of a ≡ Set → has_row a.id rows ≡ false
    again set =
        let range = range_kinds (unwrap_or_range a.range).start_inclusive (most_values a) (length vs) in
        let action : action_fault (action_of a) false a (values_or_missing a vs) rows ≡ [] =
        (or_else-nil range (action_fault (action_of a) false a (values_or_missing a vs) rows) sound).1 in
        let once : action_fault Set false a (values_or_missing a vs) rows ≡ [] =
        subst (λ (x : ArgAction). action_fault x false a (values_or_missing a vs) rows ≡ []) set action in
        no_repeat (has_row a.id rows) (or_else-nil (repeat_fault false a.id rows) (values_fault a (values_or_missing a vs)) once).0

    go : (action_of a ≡ Set) ⊎ (action_of a ≡ Append) → values id (used a vs rows) ≡ values id rows ++ cond (bytes_eq a.id id) vs []
    go (inl set) =
        ap (λ (x : ArgAction). values id (used_as x a.id (reading_by a) (values_or_missing a vs) rows)) set
        ∙ ap (λ (ws : List Text). values id (with_values a.id (reading_by a) CommandLine ws (without a.id rows))) (given a vs is.missing)
        ∙ ap (λ (rs : List Row). values id (with_values a.id (reading_by a) CommandLine vs rs)) (without-none a.id rows (again set))
        ∙ values-more id a.id (reading_by a) CommandLine vs rows
    go (inr append) =
        ap (λ (x : ArgAction). values id (used_as x a.id (reading_by a) (values_or_missing a vs) rows)) append
        ∙ ap (λ (ws : List Text). values id (with_values a.id (reading_by a) CommandLine ws rows)) (given a vs is.missing)
        ∙ values-more id a.id (reading_by a) CommandLine vs rows

-- ---- what is pending

abbrev pub Pending : Type 0
Pending = Option (Text × List Text)

abbrev pub pending_values : Text → Pending → List Text
pending_values id None = []
pending_values id (Some p) = cond (bytes_eq p.0 id) p.1 []

-- the values that were taken for an id, pending ones too
abbrev pub taken : Text → Held → List Text
taken id h = values id h.rows ++ pending_values id h.pending

-- what is pending is an argument that is given values
abbrev pub IsPending : List Rule → Pending → Type 0
IsPending c None = Unit {0}
IsPending c (Some p) = (a : Rule) × (arg_by_id c p.0 ≡ Some a) × (a.id ≡ p.0) × IsTaken a

abbrev pub settles : List Rule → List Row → Pending → Kinds
settles c rows pending = option_map_or (λ p. option_map_or (λ a. use_fault false a p.1 rows) (arg_by_id c p.0) []) pending []

pub settled-values : (c : List Rule) (id : Text) (rows : List Row) (p : Pending) → IsPending c p → settles c rows p ≡ []
    → values id (settled_rows c p rows) ≡ values id rows ++ pending_values id p
settled-values c id rows None is sound = sym (append-nil (values id rows))
settled-values c id rows (Some p) (a, found, same, rule) sound =
    let fits : use_fault false a p.1 rows ≡ [] = rw found at sound in
    ap (λ (o : Option Rule). values id (used_by_id o p.1 rows)) found ∙ used-values id a p.1 rows rule fits
    ∙ ap (λ (t : Text). values id rows ++ cond (bytes_eq t id) p.1 []) same

-- ---- defaults

-- the arguments that have the id are given no values where they are left out
abbrev pub LacksDefault : Text → Rule → Type 0
LacksDefault id a = bytes_eq a.id id ≡ true → a.defaults ≡ []

default-values : (id : Text) (rows : List Row) (a : Rule) → LacksDefault id a → values id (with_default rows a) ≡ values id rows
default-values id rows a lacks = go (has_row a.id rows) a.defaults refl
  where
    go : (b : Bool) (ds : List Text) → a.defaults ≡ ds → values id (cond b rows (default_rows a.id (reading_by a) ds rows)) ≡ values id rows
    go true ds e = refl
    go false [] e = refl
    go false (d ∷ ds) e = more (bytes_eq a.id id) refl
      where
        more : (b : Bool) → bytes_eq a.id id ≡ b → values id (with_values a.id (reading_by a) DefaultValue (d ∷ ds) rows) ≡ values id rows
        more true is = absurd (cc (lacks is, e))
        more false is = values-more id a.id (reading_by a) DefaultValue (d ∷ ds) rows ∙ ap (λ (b : Bool). values id rows ++ cond b (d ∷ ds) []) is
            ∙ append-nil (values id rows)

pub defaults-values : (id : Text) (rules : List Rule) (rows : List Row) → AllByRecursion (LacksDefault id) rules
    → values id (fold with_default rows rules) ≡ values id rows
defaults-values id [] rows all = refl
defaults-values id (a ∷ rules) rows all = defaults-values id rules (with_default rows a) all.1 ∙ default-values id rows a all.0
